use Rattle.std.proofs.Common.{◌≡◌, ℕ, List, ◌++◌, length, take, drop, replicate, ap, ◌∙◌, arith, length-drop}
use Rattle.std.proofs.lemmas.List.{append-nil, length-take-le, take_rest}
use Rattle.std.specs.Int.{w16, w64, from_be_bytes}
use Rattle.rad_auth.proofs.Marks.{mark_value-read}
use Rattle.rad_auth.proofs.mark.Mark.of_value.Goals as goal

pub returns : goal.returns
returns c =
    let value : List ℕ = c.args.value.now in
    let two : length (take 2 value) ≡ 2 = length-take-le 2 value (omega (arith, c.requires)) in
    let eight : length (drop 2 value) ≡ 8 = omega (arith, length-drop 2 value, c.requires) in
    let lane : c.put.new.buffer ≡ take 2 value =
    c.put.ensures ∙ ap (λ n. take 2 value ++ drop n (replicate 2 0)) two ∙ append-nil (take 2 value) in
    let number : c.put-2.new.buffer ≡ drop 2 value =
    c.put-2.ensures ∙ ap (λ x. x ++ drop (length x) (replicate 8 0)) (take_rest value 2)
    ∙ ap (λ n. drop 2 value ++ drop n (replicate 8 0)) eight ∙ append-nil (drop 2 value) in
    mark_value-read value c.from_be_bytes.result c.from_be_bytes-2.result c.requires (λ i. omega (arith, c.type_inv.value i))
    (c.from_be_bytes.ensures ∙ ap (from_be_bytes w16) lane) (c.from_be_bytes-2.ensures ∙ ap (from_be_bytes w64) number)
