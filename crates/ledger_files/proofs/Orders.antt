-- One of two orders holds.
use Rattle.std.proofs.Common.{◌≡◌, ℕ, ◌<◌, ◌≤◌, ◌⊎◌, ⊎_elim, inl, inr, arith}
use Rattle.std.proofs.lemmas.Bool.{cases_order}

pub below_or_not : (a b : ℕ) → (a < b) ⊎ (b ≤ a)
below_or_not a b = ⊎_elim (λ (e : a ≡ b). inr (omega arith)) (λ o. ⊎_elim (λ l. inl l) (λ (l : b < a). inr (omega arith)) o) (cases_order a b)
