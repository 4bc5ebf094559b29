-- The order of the pairs, and their places. Proofs of the crates above cite what is said of the order.
use Rattle.std.proofs.Common.{◌≡◌, ◌≢◌, ℕ, ◌/◌, ◌%◌, ◌<◌, Bool, true, false, Ordering, refl, sym, ap, subst, ◌∙◌, arith}
use Rattle.std.specs.declared.cmp.Ordering.TheVariants.{Less, Equal, Greater}
use Rattle.std.specs.Ordering.{nat_cmp, is_eq, eq_by_cmp}
use Rattle.std.specs.Cmp.{IsTotalOrder, nat_cmp_total, eq_by_cmp_equiv}
use Rattle.std.proofs.lemmas.Map.Lookups.{CmpEqualImpliesEq, exact_pairs, exact_unsigned}
use Rattle.std.proofs.lemmas.Cmp.{on_total, then_total}
use Rattle.rad_tables.specs.declared.slots.Slot.{Slot}
use Rattle.rad_tables.specs.Pairs.{slot_cmp}
use Rattle.rad_tables.specs.internal.Kept.{place_of, slot_at}

-- pairs that compare alike are one
pub exact_slots : CmpEqualImpliesEq slot_cmp
exact_slots a b h =
    ap (λ (p : ℕ × ℕ). record { port = p.0; identifier = p.1 })
    (exact_pairs nat_cmp nat_cmp exact_unsigned exact_unsigned (a.port, a.identifier) (b.port, b.identifier) h)

pub slots_total : IsTotalOrder slot_cmp
slots_total = then_total (on_total (λ s. s.port) nat_cmp_total) (on_total (λ s. s.identifier) nat_cmp_total)

equal : (r : Ordering) → is_eq r ≡ true → r ≡ Equal
equal Less e = cc
equal Equal e = refl
equal Greater e = cc

pub tied : (a b : Slot) → eq_by_cmp slot_cmp a b ≡ true → a ≡ b
tied a b e = exact_slots a b (equal _ e)

pub itself : (a b : Slot) → a ≡ b → eq_by_cmp slot_cmp a b ≡ true
itself a b e = subst (λ s. eq_by_cmp slot_cmp a s ≡ true) e ((eq_by_cmp_equiv slots_total).refl a)

not_true : (b : Bool) → (b ≡ true → ⊥) → b ≡ false
not_true true h = absurd (h refl)
not_true false h = refl

pub apart : (a b : Slot) → a ≢ b → eq_by_cmp slot_cmp a b ≡ false
apart a b h = not_true _ (λ e. h (tied a b e))

-- the place of the pair at a place
pub place_slot : (place : ℕ) → place_of (slot_at place) ≡ place
place_slot place = omega arith

pub slot_place : (slot : Slot) → slot.identifier < 256 → slot_at (place_of slot) ≡ slot
slot_place slot fits =
    let port : place_of slot / 256 ≡ slot.port = omega arith in
    let identifier : place_of slot % 256 ≡ slot.identifier = omega arith in
    λ i. record { port = port i; identifier = identifier i }

-- two places have two pairs
pub slots_apart : (a b : ℕ) → a ≢ b → slot_at a ≢ slot_at b
slots_apart a b h e = h (sym (place_slot a) ∙ ap place_of e ∙ place_slot b)
