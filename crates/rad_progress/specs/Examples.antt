-- Books, written out, at which the bounds are reached (own).
use Rattle.std.specs.Prelude.{◌≡◌, ℕ, [], ◌∷◌, Some, None}
use Rattle.std.specs.FinMap as map
use Rattle.rad_config.specs.Limits.{AreInRange}
use Rattle.rad_tables.specs.Pairs.{first_slot}
use Rattle.rad_lane.specs.declared.entry.Entry.TheVariants.{Sending as sending}
use Rattle.rad_lane.specs.declared.watch.Watch.TheVariants.{Up as up, Down as down}
use Rattle.rad_lane.specs.Setup.{LaneSetup, IsOfItsRealms}
use Rattle.rad_lane.specs.Stamp.{Recorded, IsRecord}
use Rattle.rad_lane.specs.Outstanding.{first_sending, octets_of}
use Rattle.rad_lane.specs.Book.{Book}

-- A request may stand in the book of a lane that is set up so, as its first one: it is a record of the lane's realms,
-- as it comes and as it is sent, with this number.
pub record Fits (setup : LaneSetup) (number : ℕ) (r : Recorded) : Type 0 where
  pub is_record : IsRecord r
  pub realm : IsOfItsRealms setup r.text
  pub realm_sent : IsOfItsRealms setup (octets_of setup r 0)
  pub numbered : r.stamp.number ≡ number

-- One request waits, and the home server was marked down until now.
abbrev pub waiting : LaneSetup → Recorded → Book
waiting setup r = record {
  setup = setup;
  opening = 0;
  accepted = r.stamp ∷ [];
  sent = [];
  queued = r ∷ [];
  answered = [];
  served = 0;
  held = map.empty;
  allotted = None;
  drain = None;
  watch = down r.stamp.moment r.stamp.moment None;
  last = r.stamp.moment;
}

-- One request is outstanding, sent when it came, and one waits behind it, which came later.
abbrev pub behind : LaneSetup → Recorded → Recorded → Book
behind setup first next = record {
  setup = setup;
  opening = 0;
  accepted = first.stamp ∷ next.stamp ∷ [];
  sent = first.stamp ∷ [];
  queued = next ∷ [];
  answered = [];
  served = 0;
  held = map.insert map.empty first_slot (sending (first_sending setup first.stamp.moment first 0));
  allotted = Some first_slot;
  drain = None;
  watch = up;
  last = next.stamp.moment;
}

-- The setup has its limits in their ranges, and as many source ports as they say.
pub record IsInRange (setup : LaneSetup) : Type 0 where
  pub limits : AreInRange setup.limits
  pub ports : setup.ports ≡ setup.limits.ports
