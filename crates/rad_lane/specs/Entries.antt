-- What is outstanding under a pair of source port and Identifier: a sending or the probe (own).
use Rattle.std.specs.Prelude.{ℕ, ◌-◌, ◌^◌, List, Bool, false, Option, Some, None}
use Rattle.std.specs.FinMap as map
use Rattle.std.specs.List.{filter_map}
use Rattle.rad_tables.specs.Pairs.{slot_cmp}
use Rattle.rad_lane.specs.Outstanding.{Outstanding, is_spent, renewed}
use Rattle.rad_lane.specs.declared.entry.Entry.{Entry}
use Rattle.rad_lane.specs.declared.entry.Entry.TheVariants.{Sending as sending, Probe as probe}

-- When an entry is due, its number, and whether it is spent; by these the slots find the one that is due first. The
-- due time of a probe is past every moment.
abbrev pub due_in : Entry → ℕ
due_in (sending entry) = entry.due
due_in (probe octets) = 2 ^ 64 - 1

abbrev pub number_in : Entry → ℕ
number_in (sending entry) = entry.request.stamp.number
number_in (probe octets) = 0

abbrev pub is_spent_in : Entry → Bool
is_spent_in (sending entry) = is_spent entry
is_spent_in (probe octets) = false

-- The entry is a sending that satisfies this.
abbrev pub IfSending : Entry → (Outstanding → Type 0) → Type 0
IfSending (sending entry) P = P entry
IfSending (probe octets) P = ⊥

-- The outstanding request, if the entry is a sending; and all outstanding requests.
abbrev pub request_in : Entry → Option Outstanding
request_in (sending entry) = Some entry
request_in (probe octets) = None

abbrev pub sendings_in : map.FinMap slot_cmp Entry → List Outstanding
sendings_in held = filter_map request_in (map.values held)

-- The entry under a pair, if it is not a probe.
abbrev pub but_a_probe : Option Entry → Option Entry
but_a_probe None = None
but_a_probe (Some (sending entry)) = Some (sending entry)
but_a_probe (Some (probe octets)) = None

-- The entry with a new round, due at once. A probe does not change.
abbrev pub renewed_in : ℕ → Entry → Entry
renewed_in now (sending entry) = sending (renewed now entry)
renewed_in now (probe octets) = probe octets
