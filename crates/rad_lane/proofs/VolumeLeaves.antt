-- What a volume has, and what the book has without it.
use Rattle.std.proofs.Common.{◌≡◌, ℕ, ◌≤◌, List, ◌++◌, sym, ap, ◌∙◌, subst}
use Rattle.std.specs.Prelude.{map as each}
use Rattle.std.specs.List.Sorted.{IsPermutation}
use Rattle.rad_tables.specs.declared.duplicates.Key.{Key}
use Rattle.rad_lane.specs.declared.stamp.Stamp.{Stamp}
use Rattle.rad_lane.specs.declared.turning.Volume.{Volume}
use Rattle.rad_lane.specs.Outstanding.{AnswerKept}
use Rattle.rad_lane.specs.Book.{Book}
use Rattle.rad_lane.specs.Repeat.{repeats}
use Rattle.rad_lane.specs.Lawful.{IsLawful}
use Rattle.rad_lane.specs.Volumes.{IsCut, volume_of, without_cut}
use Rattle.rad_lane.proofs.LawfulAfterCut.{cut_answered, repeats_same}

module _ (inside old : Book) (same : inside ≡ old) (lawful : IsLawful inside) (now : ℕ) (later : old.last ≤ now) (cut kept : List Stamp) (is : IsCut old now cut kept) (volume : Volume) (new : Book) (made : volume ≡ volume_of old cut) (left : new ≡ without_cut old now cut kept) where
  l : IsLawful old
  l = subst (λ (b : Book). IsLawful b) same lawful

  pub volume_joined : volume.stamps ++ new.accepted ≡ old.accepted
  volume_joined = ap (λ (v : Volume). v.stamps ++ new.accepted) made ∙ ap (λ (b : Book). cut ++ b.accepted) left ∙ sym is.parts

  pub volume_answered : IsPermutation volume.stamps (each (λ a. a.stamp) volume.answered)
  volume_answered =
      subst (λ (v : Volume). IsPermutation v.stamps (each (λ (a : AnswerKept). a.stamp) v.answered)) (sym made)
      (cut_answered old l now later cut kept is)

  pub volume_repeats : (key : Key) (moment : ℕ) → now ≤ moment → repeats new key moment ≡ repeats old key moment
  volume_repeats key moment from =
      ap (λ (b : Book). repeats b key moment) left ∙ repeats_same old l now later cut kept is key moment from
