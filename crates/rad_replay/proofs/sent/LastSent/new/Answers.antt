use Rattle.std.proofs.Common.{rules, ◌≡◌, List, ℕ, length, replicate, refl, sym, arith}
use Rattle.std.proofs.lemmas.Option.{slice_get_read}
use Rattle.rad_replay.proofs.sent.LastSent.new.Goals as goal

pub returns : goal.returns
returns c = λ k below.
    let items = c.resize.new.self.items in
    let zeros : List ℕ = replicate 16 0 in
    let len : 256 ≡ length items = search rules in
    slice_get_read items 256 k zeros len below
    (sym (c.in_ok-resize.ensures.by_index.1 k zeros refl (omega (arith, c.new-authenticators.ensures.len)) below))
