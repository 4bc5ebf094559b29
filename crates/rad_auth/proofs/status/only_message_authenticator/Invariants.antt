use Rattle.rad_auth.proofs.OnlySigns.{OnlySeen}
use Rattle.rad_auth.proofs.status.only_message_authenticator.Given as goal

abbrev pub invariant-loop-attribute : goal.invariant-loop-attribute
invariant-loop-attribute l = OnlySeen l.packet l.attribute-iterator l.place l.only
