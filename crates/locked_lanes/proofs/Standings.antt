-- The first that waits stands in the book behind all that were sent.
use Rattle.std.proofs.Common.{◌≡◌, ℕ, ◌+◌, List, [], ◌∷◌, ◌++◌, refl, ap, ◌∙◌}
use Rattle.std.proofs.lemmas.List.{length-append, length-map}
use Rattle.rad_lane.specs.Stamp.{Recorded}
use Rattle.std.specs.Prelude.{length, map as each, slice_get, option_map, Option, Some, None}
use Rattle.std.proofs.lemmas.Option.{slice_get-map}
use Rattle.rad_lane.specs.Book.{Book}
use Rattle.rad_lane.specs.Lawful.{IsLawful}

pub get_behind : {X : Type 0} (xs ys : List X) → slice_get (xs ++ ys) (length xs) ≡ slice_get ys 0
get_behind [] ys = refl
get_behind (x ∷ xs) ys = get_behind xs ys

pub mapped_twice : {X Y Z : Type 0} (f : X → Y) (g : Y → Z) (o : Option X) → option_map g (option_map f o) ≡ option_map (λ x. g (f x)) o
mapped_twice f g None = refl
mapped_twice f g (Some x) = refl

pub queued_within : (book : Book) → IsLawful book → length book.accepted ≡ length book.sent + length book.queued
queued_within book lawful = ap length lawful.in_order ∙ length-append book.sent (each (λ r. r.stamp) book.queued) ∙ ap (λ n. length book.sent + n) (length-map book.queued (λ (r : Recorded). r.stamp))

pub first_queued_at : (book : Book) (place : ℕ) → IsLawful book → place ≡ length book.sent → option_map (λ s. s.moment) (slice_get book.accepted place) ≡ option_map (λ r. r.stamp.moment) (slice_get book.queued 0)
first_queued_at book place lawful is =
    ap (λ n. option_map (λ s. s.moment) (slice_get book.accepted n)) is
    ∙ ap (λ accepted. option_map (λ s. s.moment) (slice_get accepted (length book.sent))) lawful.in_order
    ∙ ap (option_map (λ s. s.moment)) (get_behind book.sent (each (λ r. r.stamp) book.queued))
    ∙ ap (option_map (λ s. s.moment)) (slice_get-map (λ r. r.stamp) book.queued 0)
    ∙ mapped_twice (λ r. r.stamp) (λ s. s.moment) (slice_get book.queued 0)
