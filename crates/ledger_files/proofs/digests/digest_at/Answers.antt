use Rattle.std.proofs.Common.{◌≡◌, length, get_or, ap, ◌∙◌, arith}
use Rattle.std.specs.List.{concat}
use Rattle.std.specs.Prelude.{take}
use Rattle.std.proofs.Math.Nat.{min-eq_left}
use Rattle.sha2.specs.Sha256.{sha256}
use Rattle.ledger_files.specs.Tails.{body_in}
use Rattle.ledger_files.proofs.Ends.{begins_at, begins_below, ends_within, line_between}
use Rattle.ledger_files.proofs.digests.digest_at.Goals as goal

pub returns : goal.returns
returns c = λ lines h low.
    let all = c.args.octets.now in
    let ends = c.args.ends.now in
    let place = c.args.place in
    let start : c.start_at.result ≡ length (concat (take place lines)) = begins_at all ends lines place c.start_at.result h low c.start_at.ensures.first c.start_at.ensures.further in
    let end : c.min-end.result ≡ get_or ends place 0 = c.min-end.ensures ∙ min-eq_left (omega (arith, c.end_at.ensures, ends_within all ends lines place h low)) ∙ c.end_at.ensures in
    let from : c.min-start.result ≡ length (concat (take place lines)) =
    c.min-start.ensures ∙ min-eq_left (omega (arith, start, end, begins_below all ends lines place h low)) ∙ start in
    c.digest.ensures ∙ ap sha256 (c.body_of.ensures ∙ ap body_in (line_between all ends lines place c.min-start.result c.min-end.result h low from end))
