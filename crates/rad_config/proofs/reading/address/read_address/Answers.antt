use Rattle.rad_config.proofs.OptionSteps.{found_on, ends_here}
use Rattle.rad_config.specs.Address.{address_in}
use Rattle.std.proofs.Common.{refl}
use Rattle.rad_config.proofs.reading.address.read_address.Goals as goal

pub returns-in_err-first : goal.returns-in_err-first
unfolding address_in
returns-in_err-first c = ends_here _ _ _ c.from_residual.ensures c.in_err-first.ensures

pub returns-in_err-second : goal.returns-in_err-second
unfolding address_in
returns-in_err-second c =
    found_on _ _ _ _ c.in_ok-first.ensures (ends_here _ _ _ c.from_residual-in_err-second.ensures c.in_err-second.ensures)

pub returns-in_err-third : goal.returns-in_err-third
unfolding address_in
returns-in_err-third c =
    found_on _ _ _ _ c.in_ok-first.ensures (found_on _ _ _ _ c.in_ok-second.ensures (ends_here _ _ _ c.from_residual-in_err-third.ensures c.in_err-third.ensures))

pub returns-in_err-first-2 : goal.returns-in_err-first-2
unfolding address_in
returns-in_err-first-2 c =
    found_on _ _ _ _ c.in_ok-first.ensures (found_on _ _ _ _ c.in_ok-second.ensures (found_on _ _ _ _ c.in_ok-third.ensures (ends_here _ _ _ c.from_residual-in_err-first-2.ensures c.in_err-first-2.ensures)))

pub returns-in_err-second-2 : goal.returns-in_err-second-2
unfolding address_in
returns-in_err-second-2 c =
    found_on _ _ _ _ c.in_ok-first.ensures (found_on _ _ _ _ c.in_ok-second.ensures (found_on _ _ _ _ c.in_ok-third.ensures (found_on _ _ _ _ c.in_ok-first-2.ensures (ends_here _ _ _ c.from_residual-in_err-second-2.ensures c.in_err-second-2.ensures))))

pub returns-in_err-third-2 : goal.returns-in_err-third-2
unfolding address_in
returns-in_err-third-2 c =
    found_on _ _ _ _ c.in_ok-first.ensures (found_on _ _ _ _ c.in_ok-second.ensures (found_on _ _ _ _ c.in_ok-third.ensures (found_on _ _ _ _ c.in_ok-first-2.ensures (found_on _ _ _ _ c.in_ok-second-2.ensures (ends_here _ _ _ c.from_residual-in_err-third-2.ensures c.in_err-third-2.ensures)))))

pub returns-in_err-fourth : goal.returns-in_err-fourth
unfolding address_in
returns-in_err-fourth c =
    found_on _ _ _ _ c.in_ok-first.ensures (found_on _ _ _ _ c.in_ok-second.ensures (found_on _ _ _ _ c.in_ok-third.ensures (found_on _ _ _ _ c.in_ok-first-2.ensures (found_on _ _ _ _ c.in_ok-second-2.ensures (found_on _ _ _ _ c.in_ok-third-2.ensures (ends_here _ _ _ c.from_residual-in_err-fourth.ensures c.in_err-fourth.ensures))))))

pub returns : goal.returns
unfolding address_in
returns c =
    found_on _ _ _ _ c.in_ok-first.ensures (found_on _ _ _ _ c.in_ok-second.ensures (found_on _ _ _ _ c.in_ok-third.ensures (found_on _ _ _ _ c.in_ok-first-2.ensures (found_on _ _ _ _ c.in_ok-second-2.ensures (found_on _ _ _ _ c.in_ok-third-2.ensures (found_on _ _ _ _ c.in_ok-fourth.ensures refl))))))
