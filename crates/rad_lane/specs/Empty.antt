-- The book of a new lane (own).
use Rattle.std.specs.Prelude.{[], None}
use Rattle.std.specs.FinMap as map
use Rattle.rad_lane.specs.declared.watch.Watch.TheVariants.{Up as up}
use Rattle.rad_lane.specs.Setup.{LaneSetup}
use Rattle.rad_lane.specs.Book.{Book}

abbrev pub empty_book : LaneSetup → Book
empty_book setup = record {
  setup = setup;
  opening = 0;
  accepted = [];
  sent = [];
  queued = [];
  answered = [];
  served = 0;
  held = map.empty;
  allotted = None;
  drain = None;
  watch = up;
  last = 0;
}
