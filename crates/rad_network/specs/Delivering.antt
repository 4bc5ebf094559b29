-- A network that delivers: rounds in which each outstanding request gets its reply (own).
use Rattle.std.specs.Prelude.{◌≡◌, ⊤, ℕ, zero, suc, ◌⊎◌, List, [], ◌∷◌}
use Rattle.std.specs.List.{AllByRecursion, Contains}
use Rattle.rad_packet.specs.Attribute.{of_kind}
use Rattle.rad_packet.specs.Packet.{packet_attributes}
use Rattle.rad_packet.specs.Reading.{ReadsAs}
use Rattle.rad_tables.specs.declared.slots.Slot.{Slot}
use Rattle.rad_lane.specs.declared.running.Event.TheVariants.{Hear as hear}
use Rattle.rad_lane.specs.Outstanding.{Outstanding}
use Rattle.rad_lane.specs.Book.{outstanding_at}
use Rattle.rad_progress.specs.Calls.{IsStepAt, IsDatagram, IsIdle}
use Rattle.rad_progress.specs.Rounds.{IsGranted}
use Rattle.rad_network.specs.World.{HomeReply, World}
use Rattle.rad_network.specs.Happens.{Happening, Lives}
use Rattle.rad_network.specs.Happens.Happening.{called}

-- None of the home server's replies has a Message-Authenticator; a lane does not take those that have one.
abbrev pub AreUnsigned : World → Type 0
AreUnsigned world = (r : HomeReply) → Contains world.replies r → of_kind 80 (packet_attributes r.reply) ≡ []

-- If it is a call, it is a step at this moment. The other one: if it is a call, the lane is given a datagram from the home
-- server, and memory is granted.
abbrev pub IfCallSteps : ℕ → Happening → Type 0
IfCallSteps moment (called event answer d) = IsStepAt moment event
IfCallSteps moment happening = ⊤

abbrev pub IfCallHears : Happening → Type 0
IfCallHears (called event answer d) = IsDatagram event × IsGranted answer
IfCallHears happening = ⊤

-- It is a step that finds nothing due; and the last of these happenings is one.
abbrev pub IsIdleCall : Happening → Type 0
IsIdleCall (called event answer d) = IsIdle answer
IsIdleCall happening = ⊥

abbrev pub EndsInIdleCall : List Happening → Type 0
EndsInIdleCall [] = ⊥
EndsInIdleCall (happening ∷ []) = IsIdleCall happening
EndsInIdleCall (happening ∷ next ∷ later) = EndsInIdleCall (next ∷ later)

-- A reply of the home server to the octets that were sent under a pair comes to that pair's source port; and among these
-- happenings one does.
abbrev pub Delivers : World → Slot → List ℕ → Happening → Type 0
Delivers world slot octets (called (hear moment port datagram) answer d) =
    (port ≡ slot.port) × (reply : List ℕ) × ReadsAs datagram.now reply × Contains world.replies (record { asked = octets; reply = reply })
Delivers world slot octets happening = ⊥

abbrev pub IsDelivered : World → Slot → List ℕ → List Happening → Type 0
IsDelivered world slot octets [] = ⊥
IsDelivered world slot octets (happening ∷ later) = Delivers world slot octets happening ⊎ IsDelivered world slot octets later

-- The lane is stepped at one moment until it is idle. Then the network delivers to it, for each request that is
-- outstanding, a reply of the home server, and memory is granted. What departed may come to the home server, and be
-- replied to, at any time between.
pub record IsDeliveredRound (old new : World) : Type 0 where
  pub moment : ℕ
  pub idle : World
  pub steps : List Happening
  pub stepping : Lives old steps idle
  pub at_once : AllByRecursion (IfCallSteps moment) steps
  pub until_idle : EndsInIdleCall steps
  pub hears : List Happening
  pub hearing : Lives idle hears new
  pub granted : AllByRecursion IfCallHears hears
  pub delivered : (slot : Slot) (entry : Outstanding) → outstanding_at idle.book slot entry → IsDelivered new slot entry.octets hears
  pub unsigned : AreUnsigned new

-- So many such rounds, one after the other.
abbrev pub DeliveredRounds : ℕ → World → World → Type 0
DeliveredRounds zero old new = new ≡ old
DeliveredRounds (suc n) old new = (next : World) × IsDeliveredRound old next × DeliveredRounds n next new
