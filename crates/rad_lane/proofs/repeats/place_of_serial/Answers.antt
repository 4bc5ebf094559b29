use Rattle.std.proofs.Common.{rules}
use Rattle.std.proofs.lemmas.List.Sorted.{answers_always}
use Rattle.rad_lane.proofs.SerialFound.{searched}
use Rattle.rad_lane.proofs.repeats.place_of_serial.Goals as goal

-- the closure tells an answer's serial
pub returns : goal.returns
returns c =
    let facts = c.binary_search_by_key.ensures in
    rw c.ok.ensures.value
    (searched _ c.args.serial _ c.requires facts.bound (facts.position (λ answer. answer.serial) (answers_always _ _ _ (λ f a r g called. search rules))))
