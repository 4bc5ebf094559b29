use Rattle.std.proofs.Common.{length, drop, arith}
use Rattle.std.proofs.lemmas.Bool.Decides.{Decides-eqb}
use Rattle.std.proofs.lemmas.List.{length-drop}
use Rattle.std.proofs.lemmas.Slice.Eq.{starts_is}
use Rattle.rad_audit.proofs.auditing.is_front.Goals as goal

pub returns-then-front-next : goal.returns-then-front-next
returns-then-front-next c =
    let front = c.args.front.now in
    let next = c.args.next.now in
    let is = starts_is Decides-eqb next front c.starts_with.result c.starts_with.ensures.value in
    let left = length-drop (length front) next in (
      λ yes. record { rest = drop (length front) next; more = omega (arith, left, c.if-front-next.true); split = is.0 yes },
      λ cut. is.1 cut.rest cut.split,
    )
