-- Pairs of source port and Identifier, and their allotment in cyclic order. Own.
use Rattle.std.specs.Prelude.{◌≡◌, ℕ, zero, suc, ◌+◌, ◌<◌, nat_lt, if◌then◌else◌, Option, Some, None, IsSome, refl}
use Rattle.std.specs.declared.cmp.Ordering.{Ordering}
use Rattle.std.specs.Ordering.{nat_cmp, ordering_then}
use Rattle.std.specs.Coded.{Coded, code_by, coded×, coded_ℕ, coded_option}
use Rattle.std.specs.FinMap as map
use Rattle.rad_tables.specs.declared.slots.Slot.{Slot}

-- the order of the pairs: by source port, and then by Identifier
abbrev pub slot_cmp : Slot → Slot → Ordering
slot_cmp a b = ordering_then (nat_cmp a.port b.port) (nat_cmp a.identifier b.identifier)

-- a pair as two numbers
abbrev pub coded_slot : Coded Slot
coded_slot = code_by (ℕ × ℕ) (coded× coded_ℕ coded_ℕ) (λ s. (s.port, s.identifier)) (λ p. record { port = p.0; identifier = p.1 }) (λ _. refl)

-- the slots as contracts see them: the number of source ports, the entry under each pair that is in use, and the pair
-- last allotted
pub record Table (T : Type 0) : Type 0 where
  pub ports : ℕ
  pub entries : map.FinMap slot_cmp T
  pub allotted : Option Slot

-- a table by its parts
abbrev pub coded_table : {T : Type 0} → Coded T → Coded (Table T)
coded_table {T} code =
    code_by (ℕ × (map.FinMap slot_cmp T × Option Slot))
    (coded× coded_ℕ (coded× (map.code coded_slot code) (coded_option coded_slot)))
    (λ t. (t.ports, (t.entries, t.allotted)))
    (λ p. record { ports = p.0; entries = p.1.0; allotted = p.1.1 })
    (λ _. refl)

-- the port is one of the source ports, and the Identifier is one octet
abbrev pub IsInRange : ℕ → Slot → Type 0
IsInRange ports slot = (slot.port < ports) × (slot.identifier < 256)

-- the first pair
abbrev pub first_slot : Slot
first_slot = record { port = 0; identifier = 0 }

-- the next pair in cyclic order: the next Identifier; after 255, Identifier 0 of the next port; after the last port,
-- the first pair
abbrev pub following : ℕ → Slot → Slot
following ports slot =
    if nat_lt slot.identifier 255 then record { port = slot.port; identifier = slot.identifier + 1 }
    else (if nat_lt (slot.port + 1) ports then record { port = slot.port + 1; identifier = 0 } else first_slot)

-- the pair that is `count` steps further in cyclic order
abbrev pub steps_on : ℕ → ℕ → Slot → Slot
steps_on ports zero slot = slot
steps_on ports (suc count) slot = following ports (steps_on ports count slot)

-- the pair at which the search begins: the one after the pair last allotted, or the first pair if none was allotted
-- yet
abbrev pub beginning : ℕ → Option Slot → Slot
beginning ports None = first_slot
beginning ports (Some last) = following ports last

-- each pair is in use
abbrev pub AllInUse : {T : Type 0} → Table T → Type 0
AllInUse table = (slot : Slot) → IsInRange table.ports slot → IsSome (map.get table.entries slot)

-- the pair is the first free one in cyclic order after the pair last allotted
pub record IsFirstFree {T : Type 0} (table : Table T) (slot : Slot) : Type 0 where
  pub steps : ℕ
  pub reached : slot ≡ steps_on table.ports steps (beginning table.ports table.allotted)
  pub free : map.get table.entries slot ≡ None
  pub passed : (count : ℕ) → count < steps → IsSome (map.get table.entries (steps_on table.ports count (beginning table.ports table.allotted)))
