-- The headline of what is proved of a lane (own), that its book stays lawful, each call does what its definition says,
-- and no request is lost. It is true of the book before any list of calls, of the calls with their results, and of the
-- book after them, whatever the calls are and in whatever order.
use Rattle.std.specs.Prelude.{ℕ, List, [], replicate}
use Rattle.rad_packet.specs.Packet.{packet_text}
use Rattle.rad_lane.specs.declared.running.Event.{Event}
use Rattle.rad_lane.specs.declared.running.Given.{Given}
use Rattle.rad_lane.specs.Book.{Book}
use Rattle.rad_lane.specs.Lawful.{IsLawful}
use Rattle.rad_lane.specs.Runs.{Runs}
use Rattle.rad_lane.specs.LosesNone.{LosesNone}

-- The packet in a new datagram.
abbrev pub new_datagram : List ℕ
new_datagram = packet_text 0 0 (replicate 16 0) []

pub record Headline (old : Book) (events : List Event) (gives : List Given) (new : Book) : Type 0 where
  -- The book was lawful and is lawful: the requests accepted are those sent, followed by those queued, in order, none
  -- again within its span; later sendings repeat sent octets; each response answers its own request, after a verified
  -- reply of the home server; and nothing is accepted after a drain.
  pub was_lawful : IsLawful old
  pub is_lawful : IsLawful new
  -- Each call did what its definition says, and nothing else.
  pub each_call : Runs old new_datagram events gives new
  -- No request is lost: the requests of the removed volumes, followed by those of the book after the calls, are those
  -- of the book before them, followed by the new ones, in order.
  pub none_lost : LosesNone old events gives new
