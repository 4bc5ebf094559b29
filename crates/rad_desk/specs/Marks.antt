-- Proxy-States of this proxy's own form (RFC 2865 section 5.33, own).
use Rattle.std.specs.Prelude.{List, Bool, ◌==◌, ◌&&◌, length, filter}
use Rattle.rad_packet.specs.Attribute.{Attribute}

-- The attribute is a Proxy-State (RFC 2865 section 5.33) with a Value of ten octets, as many as the lane's number and
-- the record's number take.
abbrev pub is_mark : Attribute → Bool
is_mark a = (a.kind == 33) && (length a.value == 10)

-- Those of the attributes that have this form.
abbrev pub marks_in : List Attribute → List Attribute
marks_in attributes = filter is_mark attributes
