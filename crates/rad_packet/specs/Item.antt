-- The Type and Value of an attribute that is borrowed from a packet.
use Rattle.rad_packet.specs.Attribute.{Attribute}
use Rattle.rad_packet.specs.declared.attributes.AttributeRef.{AttributeRef}

abbrev pub attribute_at : AttributeRef → Attribute
attribute_at a = record { kind = a.kind; value = a.value.now }
