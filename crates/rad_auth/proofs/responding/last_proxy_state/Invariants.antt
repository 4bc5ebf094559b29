use Rattle.rad_auth.proofs.LastStates.{StateSeen}
use Rattle.rad_auth.proofs.responding.last_proxy_state.Given as goal

abbrev pub invariant-loop-attribute : goal.invariant-loop-attribute
invariant-loop-attribute l = StateSeen l.reply l.attribute-iterator l.place l.last
