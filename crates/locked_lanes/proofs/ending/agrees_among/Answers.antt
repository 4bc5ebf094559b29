use Rattle.std.proofs.Common.{◌≡◌, ◌-◌, ◌+◌, Some, refl, arith}
use Rattle.std.specs.Prelude.{slice_get}
use Rattle.std.proofs.lemmas.Option.{slice_get_read}
use Rattle.locked_lanes.proofs.Rests.{agrees_before, agrees_after, agrees_at, agrees_there}
use Rattle.locked_lanes.proofs.ending.agrees_among.Goals as goal

pub returns-then-serial-first : goal.returns-then-serial-first
returns-then-serial-first c =
    (λ _. agrees_before _ _ _ c.requires (omega arith), λ _. refl)

pub returns-in-Some : goal.returns-in-Some
returns-in-Some c =
    let place = c.serial-serial.result - c.args.first in
    let look = c.in-Some.ensures.lookup in
    let there : slice_get c.args.rest.now place ≡ Some c.in-Some.response.now = slice_get_read _ _ place _ refl look.3.0 look.1 in
    let at : c.args.answer.now.serial ≡ c.args.first + place = omega arith in (
      λ yes. agrees_at _ _ _ _ place c.requires there at (c.agrees.ensures.0 yes),
      λ all. c.agrees.ensures.1 (agrees_there _ _ _ _ place c.requires there at all),
    )

pub returns-in-None : goal.returns-in-None
returns-in-None c =
    let place = c.serial-serial.result - c.args.first in
    (λ _. agrees_after _ _ _ c.requires (omega (arith, c.in-None.ensures.lookup.3)), λ _. refl)
