use Rattle.ledger_rules.proofs.Last.{Seen}
use Rattle.ledger_rules.proofs.packets.last_attribute.Given as goal

abbrev pub invariant-loop-attribute : goal.invariant-loop-attribute
invariant-loop-attribute l = Seen l.packet l.attribute-iterator l.last
