-- The slots after a write through a `&mut` to an entry.
use Rattle.std.specs.Prelude.{Option}
use Rattle.std.specs.Borrow.{Lends, LendsIf, Fml, RattleType, MutBor}
use Rattle.std.specs.FinMap as map
use Rattle.rad_tables.specs.declared.slots.Slot.{Slot}
use Rattle.rad_tables.specs.Pairs.{Table}
use Rattle.rad_tables.specs.contracts.slots.Slots.{the_row}

-- the table with another entry under a pair
abbrev pub with_entry : {T : Type 0} → Table T → Slot → T → Table T
with_entry table slot entry = record table { entries = map.insert table.entries slot entry }

module _ (T : RattleType) (slots : MutBor (Table T.Denot)) (slot : Slot) where
  -- after the borrow r ends, the entry under the pair is the one last written through r
  abbrev pub LendsEntry : MutBor T.Denot → Fml
  LendsEntry r = Lends (the_row T) T slots r (with_entry slots.now slot)

  -- the same if r is a reference; if it is `None`, the slots are unchanged
  abbrev pub LendsEntryIf : Option (MutBor T.Denot) → Fml
  LendsEntryIf r = LendsIf (the_row T) T slots r (with_entry slots.now slot) slots.now
