use Rattle.std.proofs.Common.{ap, option_copied, sym, ◌∙◌}
use Rattle.rad_audit.proofs.Tells.{gets_rest}
use Rattle.rad_audit.proofs.auditing.tell_named.Goals as goal

pub returns-clause-printed : goal.returns-clause-printed
returns-clause-printed g c =
    rw (sym c.of.ensures ∙ ap option_copied c.in-Some.is)
    (gets_rest c.args.name c.in-Some.run'.now _ _ _ _ _ _ _ _ c.in_ok-tell_lanes.ensures.printed c.in_ok-tell_some.ensures.printed c.in_ok-tell_some-2.ensures.printed c.in_ok-tell_some-3.ensures.printed)
