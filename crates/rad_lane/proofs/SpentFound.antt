-- The sending by which a lane goes down, as the slots tell it.
use Rattle.std.proofs.Common.{◌≡◌, true, Some, sym, ◌∙◌, subst}
use Rattle.std.specs.FinMap as map
use Rattle.rad_tables.specs.declared.slots.Slot.{Slot}
use Rattle.rad_tables.specs.Dues.{NotAfter, IsLeastDue}
use Rattle.rad_lane.specs.Outstanding.{Outstanding}
use Rattle.rad_lane.specs.declared.entry.Entry.{Entry}
use Rattle.rad_lane.specs.declared.entry.Entry.TheVariants.{Sending as sending}
use Rattle.rad_lane.specs.Book.{Book}
use Rattle.rad_lane.specs.Dues.{IsFirstSpent}
use Rattle.rad_lane.specs.Entries.{due_in, number_in, is_spent_in}

module _ (book value : Book) (same : book ≡ value) where
  module _ (slot : Slot) where
    record Stands (x : Entry) : Type 0 where
      there : map.get book.held slot ≡ Some x
      kind : is_spent_in x ≡ true
      first : (other : Slot) (e : Entry) → map.get book.held other ≡ Some e → is_spent_in e ≡ true → NotAfter (due_in x, number_in x) (due_in e, number_in e)

    stands : (x y : Entry) → Some x ≡ Some y → Stands x → Stands y
    stands x y h s = let one : x ≡ y = cc in subst (λ e. Stands e) one s

    module _ (l : IsLeastDue due_in number_in is_spent_in book.held true slot) where
      here : (y : Entry) → map.get book.held slot ≡ Some y → Stands y
      here y there = stands l.least y (sym l.there ∙ there) (record { there = l.there; kind = l.kind; first = l.first })

      -- what the slots have first among the spent is the sending of least due and number
      pub first_spent : (entry : Outstanding) → map.get book.held slot ≡ Some (sending entry) → IsFirstSpent value entry
      first_spent entry there =
          let found = here (sending entry) there in
          subst (λ (b : Book). IsFirstSpent b entry) same (record {
            slot = slot;
            there = found.there;
            spent = found.kind;
            first = λ other e there_too spent. found.first other (sending e) there_too spent;
          })
