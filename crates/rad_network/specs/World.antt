-- A lane, its home server, and the network between them (own). A lane gives each record that it accepts a number, and
-- sends it with a mark of its own and that number, in a Proxy-State (RFC 2865 section 5.33). What is outstanding was sent
-- from a source port of the lane under an Identifier, and not answered yet: the two together are its slot.
use Rattle.std.specs.Prelude.{ℕ, List, [], Option}
use Rattle.rad_lane.specs.Setup.{LaneSetup}
use Rattle.rad_lane.specs.Stamp.{Recorded}
use Rattle.rad_lane.specs.Book.{Book}
use Rattle.rad_lane.specs.Empty.{empty_book}

-- A datagram that the lane sent to the home server, and the number of the request that it forwards. A probe, which is a
-- Status-Server (RFC 5997 section 3), forwards none.
pub record Departed : Type 0 where
  pub number : Option ℕ
  pub octets : List ℕ

-- A packet with which the home server replied, and the octets that it replied to.
pub record HomeReply : Type 0 where
  pub asked : List ℕ
  pub reply : List ℕ

-- A response of the lane: the client's IPv4 address and UDP port to which it goes, and its octets.
pub record Response : Type 0 where
  pub client : List ℕ
  pub port : ℕ
  pub octets : List ℕ

-- What is there at one moment, and all that was until then. Each list has the latest item first.
pub record World : Type 0 where
  -- the book of the lane
  pub book : Book
  -- the records that the lane accepted, each with its number
  pub accepted : List Recorded
  -- all that the lane sent, also again
  pub departed : List Departed
  -- the octets that the home server received, and its replies
  pub received : List (List ℕ)
  pub replies : List HomeReply
  -- the responses that the lane gave, also again
  pub given : List Response

-- The world of a new lane: nothing has happened.
abbrev pub new_world : LaneSetup → World
new_world setup = record {
  book = empty_book setup;
  accepted = [];
  departed = [];
  received = [];
  replies = [];
  given = [];
}
