-- Whether the home server is marked up or down, and the book after it is marked up (own).
use Rattle.std.specs.Prelude.{◌≡◌, ℕ, Bool, true, false, Option, None}
use Rattle.std.specs.Option.{option_map}
use Rattle.std.specs.FinMap as map
use Rattle.rad_tables.specs.declared.slots.Slot.{Slot}
use Rattle.rad_tables.specs.Pairs.{slot_cmp}
use Rattle.rad_lane.specs.declared.entry.Entry.{Entry}
use Rattle.rad_lane.specs.declared.watch.Watch.{Watch}
use Rattle.rad_lane.specs.declared.watch.Watch.TheVariants.{Up as up, Down as down}
use Rattle.rad_lane.specs.Entries.{but_a_probe, renewed_in}
use Rattle.rad_lane.specs.Book.{Book}

-- Whether the home server is marked up.
abbrev pub is_up : Watch → Bool
is_up up = true
is_up (down until next out) = false

-- The pair of the outstanding probe, if there is one.
abbrev pub probe_of : Watch → Option Slot
probe_of up = None
probe_of (down until next out) = out

-- new is old after the home server was marked up: each sending is due at once, with a new round, and the probe's pair
-- is free.
pub record GoesUp (now : ℕ) (old new : Book) : Type 0 where
  pub held : map.FinMap slot_cmp Entry
  pub renews : (slot : Slot) → map.get held slot ≡ option_map (renewed_in now) (but_a_probe (map.get old.held slot))
  pub others : new ≡ record old { held = held; watch = up }

-- If the home server is marked down, it is marked up; otherwise the book is unchanged.
abbrev pub GoesUpIfDown : ℕ → Book → Book → Watch → Type 0
GoesUpIfDown now old new up = new ≡ old
GoesUpIfDown now old new (down until next out) = GoesUp now old new
