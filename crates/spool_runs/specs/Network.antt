-- The runs of one lane with its home server, one after the other, and what a NAS knows over all of them (own). The words for
-- what happens within a run are those of rad_network.
use Rattle.std.specs.Prelude.{◌≡◌, ◌⊎◌, ⊤, ℕ, List, [], ◌∷◌}
use Rattle.std.specs.List.{Contains, flat_map}
use Rattle.rad_packet.specs.Packet.{authenticator_of}
use Rattle.rad_packet.specs.Reading.{ReadsAs}
use Rattle.rad_auth.specs.Answers.{Answers}
use Rattle.rad_auth.specs.Authenticator.{IsRightResponse}
use Rattle.rad_lane.specs.declared.running.Event.{Event}
use Rattle.rad_lane.specs.declared.running.Event.TheVariants.{Hear as hear}
use Rattle.rad_lane.specs.declared.running.GivenAnswer.{GivenAnswer}
use Rattle.rad_lane.specs.Setup.{LaneSetup}
use Rattle.rad_lane.specs.Stamp.{Recorded, IsRecord}
use Rattle.rad_lane.specs.Outstanding.{octets_of}
use Rattle.rad_lane.specs.Book.{Book}
use Rattle.rad_lane.specs.Datagrams.{Datagrams}
use Rattle.rad_lane.specs.Empty.{empty_book}
use Rattle.rad_lane.specs.Lawful.{IsLawful}
use Rattle.rad_lane.specs.Runs.{Gives}
use Rattle.rad_network.specs.Acknowledged.{record_head}
use Rattle.rad_network.specs.Asking.{Asked, HaveOneAuthenticator, OnlyTheNasAsks, Takes, UsesNoKeyTwice}
use Rattle.rad_network.specs.Happens.{Happening, Comes, Life, Replies, after_call}
use Rattle.rad_network.specs.Happens.Happening.{called, came, replied}
use Rattle.rad_network.specs.World.{Departed, HomeReply, Response, World, new_world}

-- What the home server received in earlier runs, and its replies.
pub record Past : Type 0 where
  pub received : List (List ℕ)
  pub replies : List HomeReply

-- those of these runs
abbrev pub past_of : List World → Past
past_of worlds = record { received = flat_map (λ (w : World). w.received) worlds; replies = flat_map (λ (w : World). w.replies) worlds }

-- Nobody but the home server makes a packet that is valid, under the secret, for a datagram that the lane sent in this run: it
-- made it as a reply in this run; or in an earlier one, and then to the same octets. Numbers and Identifiers begin anew with
-- each run, so those of an earlier run may stand for another record. Its octets are others, and so a reply to it is not valid.
abbrev pub OnlyHomeEverReplies : Past → World → List ℕ → Type 0
OnlyHomeEverReplies past world datagram =
    (sent : Departed) (packet : List ℕ)
    → Contains world.departed sent
    → ReadsAs datagram packet
    → IsRightResponse world.book.setup.home_secret (authenticator_of sent.octets) packet
    → ((asked : List ℕ) × Contains world.replies (record { asked = asked; reply = packet }))
    ⊎ Contains past.replies (record { asked = sent.octets; reply = packet })

abbrev pub IsGenuineEver : Past → World → Event → Type 0
IsGenuineEver past world (hear moment port datagram) = OnlyHomeEverReplies past world datagram.now
IsGenuineEver past world event = ⊤

-- A call of the lane, as in rad_network, but that a reply of an earlier run may come too.
pub record IsCalledAfter (past : Past) (old : World) (event : Event) (answer : GivenAnswer) (d : Datagrams) (new : World) : Type 0 where
  pub next : Book
  pub gives : Gives old.book event answer d next
  pub lawful : IsLawful next
  pub genuine : IsGenuineEver past old event
  pub world : new ≡ after_call old event answer d next

abbrev pub HappensAfter : Past → World → Happening → World → Type 0
HappensAfter past old (called event answer d) new = IsCalledAfter past old event answer d new
HappensAfter past old (came sent) new = Comes old sent new
HappensAfter past old (replied asked reply) new = Replies old asked reply new

abbrev pub LivesAfter : Past → World → List Happening → World → Type 0
LivesAfter past old [] new = new ≡ old
LivesAfter past old (happening ∷ later) new = (next : World) × HappensAfter past old happening next × LivesAfter past next later new

-- A run of the lane, from its first moment on, after others. The home server's secret is the same in all.
pub record LaneRun (secret : List ℕ) (past : Past) (world : World) : Type 0 where
  pub setup : LaneSetup
  pub lawful : IsLawful (empty_book setup)
  pub same_secret : setup.home_secret ≡ secret
  pub happenings : List Happening
  pub lives : LivesAfter past (new_world setup) happenings world

-- Runs of the lane, the latest first.
abbrev pub AreRuns : List ℕ → List World → Type 0
AreRuns secret [] = ⊤
AreRuns secret (world ∷ earlier) = LaneRun secret (past_of earlier) world × AreRuns secret earlier

-- The home server received this request in this run or in an earlier one, and replied to it, and the response is made of its
-- reply. The lane accepted the request in this run as this record, of which the octets are made that the home server received.
pub record IsEverReceived (past : Past) (world : World) (request : Asked) (response : Response) : Type 0 where
  pub recorded : Recorded
  pub accepted : Contains world.accepted recorded
  pub is_record : IsRecord recorded
  pub client : recorded.stamp.client ≡ request.client
  pub port : recorded.stamp.port ≡ request.port
  pub text : recorded.text ≡ request.text
  pub identifier : ℕ
  pub octets : List ℕ
  pub made : octets ≡ octets_of world.book.setup recorded identifier
  pub received : Contains world.received octets ⊎ Contains past.received octets
  pub reply : List ℕ
  pub replied_so : Contains world.replies (let x : HomeReply = record { asked = octets; reply = reply } in x) ⊎ Contains past.replies (let x : HomeReply = record { asked = octets; reply = reply } in x)
  pub answers : Answers (record_head recorded) octets reply recorded.client_secret world.book.setup.home_secret response.octets

-- In whichever run a NAS takes a response that the lane gave as the answer to its request, the home server had received that
-- request, and the response is made of its reply. The run is the latest of these; those before it are runs too.
abbrev pub AnsweredMeansReceived : List ℕ → World → List World → Type 0
AnsweredMeansReceived secret world earlier =
    (run : LaneRun secret (past_of earlier) world) (asked : List Asked)
    → OnlyTheNasAsks asked run.happenings
    → HaveOneAuthenticator asked world
    → UsesNoKeyTwice asked
    → (request : Asked) (response : Response)
    → Contains asked request
    → Contains world.given response
    → Takes request response
    → IsEverReceived (past_of earlier) world request response

-- Each life of a lane, as rad_network has it, is a run after any others. So the premises of a run are no stronger.
abbrev pub EachLifeIsARun : Type 0
EachLifeIsARun = (past : Past) (world : World) (life : Life world) → LaneRun life.setup.home_secret past world
