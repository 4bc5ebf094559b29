-- Why a lane refuses a new request, by the tests of its fields.
use Rattle.std.proofs.Common.{◌≡◌, ℕ, ◌^◌, ◌<◌, ◌≤◌, inl, inr, Bool, false, List, length, sym, ap, ◌∙◌, arith}
use Rattle.std.specs.Prelude.{map as each, IsNone}
use Rattle.std.specs.Option.{is_some}
use Rattle.std.proofs.lemmas.List.{length-map}
use Rattle.std.proofs.lemmas.Bool.Decides.{leb_tells}
use Rattle.rad_config.specs.declared.limits.LimitNumbers.{LimitNumbers}
use Rattle.rad_realms.specs.Checking.{Request}
use Rattle.rad_lane.specs.declared.stamp.Stamp.{Stamp}
use Rattle.rad_lane.specs.Stamp.{Kept}
use Rattle.rad_lane.specs.Book.{Book, next_number}
use Rattle.rad_lane.specs.Accepts.{IsBookFull, IsQueueFull, IsTooLong}

-- the lane is not drained
pub not_drained : (book value : Book) → book ≡ value → (drained : Bool) → drained ≡ is_some book.drain → drained ≡ false → IsNone value.drain
not_drained book value same drained is not = ap (λ (b : Book). is_some b.drain) (sym same) ∙ sym is ∙ not

module _ (book value : Book) (same : book ≡ value) (numbers : LimitNumbers) (limits : numbers ≡ book.setup.limits) where
  bound : (number : LimitNumbers → ℕ) → number numbers ≡ number value.setup.limits
  bound number = ap number limits ∙ ap (λ (b : Book). number b.setup.limits) same

  module _ (items : List Stamp) (are : items ≡ book.accepted) where
    counted : length items ≡ length value.accepted
    counted = ap length are ∙ ap (λ (b : Book). length b.accepted) same

    -- the book holds as many requests as it may
    pub book_full : numbers.book ≤ length items → IsBookFull value
    book_full full = inl (let most = bound (λ n. n.book) in let all = counted in omega (arith, most, all, full))

    -- the book has room, and there is a number left
    pub book_room : length items < numbers.book → (next : ℕ) → next ≡ next_number value → next < 2 ^ 62 → ¬ IsBookFull value
    book_room some next is below full = elim full [
      | inl most ↦ let limit = bound (λ n. n.book) in let all = counted in absurd (omega (arith, limit, all, some, most))
      | inr none ↦ absurd (omega (arith, none, is, below))
    ]

  module _ (kept : List Kept) (are : book.queued ≡ each (λ (k : Kept). k.recorded) kept) (count : ℕ) (is : count ≡ length kept) where
    as_many : count ≡ length value.queued
    as_many = is ∙ sym (length-map kept (λ (k : Kept). k.recorded)) ∙ ap length (sym are) ∙ ap (λ (b : Book). length b.queued) same

    -- the queue is full, or has room
    pub queue_full : numbers.queue ≤ count → IsQueueFull value
    queue_full full = let most = bound (λ n. n.queue) in let all = as_many in omega (arith, most, all, full)

    pub queue_room : count < numbers.queue → ¬ IsQueueFull value
    queue_room some full = let most = bound (λ n. n.queue) in let all = as_many in absurd (omega (arith, most, all, some, full))

-- no number is left
pub numbers_used : (value : Book) (next : ℕ) → next ≡ next_number value → 2 ^ 62 ≤ next → IsBookFull value
numbers_used value next is used = inr (omega (arith, is, used))

-- the mark does not fit, or it does
module _ (request : Request) (text octets : List ℕ) (is : octets ≡ text) (of_request : text ≡ request.text) where
  pub too_long : 4084 < length octets → IsTooLong request
  too_long long = let same = ap length (is ∙ of_request) in omega (arith, same, long)

  pub mark_fits : length octets ≤ 4084 → ¬ IsTooLong request
  mark_fits short long = let same = ap length (is ∙ of_request) in absurd (omega (arith, same, short, long))

pub leaves_room : (request : Request) → ¬ IsTooLong request → length request.text ≤ 4084
leaves_room request short = elim (leb_tells (length request.text) 4084) [ inl fits ↦ fits.1 | inr long ↦ absurd (short (omega (arith, long.1))) ]
