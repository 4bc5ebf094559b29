-- What a contract sees of a desk (own).
use Rattle.std.specs.Prelude.{◌≡◌, ℕ, ◌+◌, List, [], ◌∷◌, ⊤}
use Rattle.rtrb.specs.Ring.{sent, known_free, SameProducer}
use Rattle.rad_lane.specs.declared.outgoing.Outgoing.{Outgoing}
use Rattle.rad_lane.specs.Book.{Book}
use Rattle.rad_lane.specs.Empty.{empty_book}
use Rattle.rad_lane.specs.Setup.{LaneSetup, IsSetUp}
use Rattle.rad_realms.specs.Configuration.{Configuration}
use Rattle.locked_lanes.specs.declared.desk.Desk.{Desk}

-- the book of its lane
abbrev pub book : Desk → Book
book desk = desk.lane

-- all responses that were added to its ring, in order
abbrev pub given : Desk → List Outgoing
given desk = sent desk.giver

-- how many free places of the ring its sending end has seen
abbrev pub free_places : Desk → ℕ
free_places desk = known_free desk.giver

-- The sending end is unchanged.
abbrev pub SameOutlet : Desk → Desk → Type 0
SameOutlet old new = new.giver ≡ old.giver

-- It is the sending end of the same ring.
abbrev pub SameRing : Desk → Desk → Type 0
SameRing old new = SameProducer old.giver new.giver

-- The desk of a home server of a configuration, before any call: its lane has this number, and is set up with that home
-- server's secret and limits, and with the realms that lead to it.
pub record IsNewOf (config : Configuration) (lane : ℕ) (desk : Desk) : Type 0 where
  pub setup : LaneSetup
  pub set_up : IsSetUp config lane setup
  pub empty : book desk ≡ empty_book setup

-- The desks are those of the home servers in the order of the configuration, from this one on.
abbrev pub AreNewOf : Configuration → ℕ → List Desk → Type 0
AreNewOf config lane [] = ⊤
AreNewOf config lane (desk ∷ desks) = IsNewOf config lane desk × AreNewOf config (lane + 1) desks
