-- In a run no request is lost between the volumes and the book (own).
use Rattle.std.specs.Prelude.{◌≡◌, ℕ, max, List, [], ◌∷◌, ◌++◌, Ok}
use Rattle.std.specs.List.{flat_map}
use Rattle.rad_lane.specs.declared.stamp.Stamp.{Stamp}
use Rattle.rad_lane.specs.declared.accepting.Taken.TheVariants.{New}
use Rattle.rad_lane.specs.declared.running.Event.{Event}
use Rattle.rad_lane.specs.declared.running.Event.TheVariants.{Accept as accept, Step as step, Hear as hear, Turn as turn}
use Rattle.rad_lane.specs.declared.running.GivenAnswer.{GivenAnswer}
use Rattle.rad_lane.specs.declared.running.GivenAnswer.TheVariants.{Accept as accepted, Step as stepped, Hear as heard, Turn as turned}
use Rattle.rad_lane.specs.declared.running.Given.{Given}
use Rattle.rad_lane.specs.Book.{Book}
use Rattle.rad_lane.specs.Accepts.{stamp_of}

-- The last moment after an event. A refused call does not change it, nor does a drain.
abbrev pub last_after : ℕ → Event → GivenAnswer → ℕ
last_after last (accept request moment) (accepted (Ok taken)) = max last moment
last_after last (step moment random) (stepped action) = max last moment
last_after last (hear moment port datagram) (heard (Ok what)) = max last moment
last_after last (turn moment) (turned (Ok volume)) = max last moment
last_after last event answer = last

-- The stamp of the request of an event, if it was accepted as a new one.
abbrev pub new_stamp : ℕ → Event → GivenAnswer → List Stamp
new_stamp last (accept request moment) (accepted (Ok (New number))) = stamp_of number request.now (max last moment) ∷ []
new_stamp last event answer = []

-- The stamps of the new requests of a run, in order.
abbrev pub new_stamps : ℕ → List Event → List Given → List Stamp
new_stamps last (event ∷ events) (given ∷ gives) =
    new_stamp last event given.answer ++ new_stamps (last_after last event given.answer) events gives
new_stamps last events gives = []

-- The stamps of the volume that a call returned, if any; and those of all volumes of a run, in order.
abbrev pub stamps_cut : GivenAnswer → List Stamp
stamps_cut (turned (Ok volume)) = volume.stamps
stamps_cut answer = []

abbrev pub volume_stamps : List Given → List Stamp
volume_stamps gives = flat_map (λ given. stamps_cut given.answer) gives

-- The stamps of the volumes, followed by those of the book at the end, are those of the book at the start, followed
-- by those of the new requests.
abbrev pub LosesNone : Book → List Event → List Given → Book → Type 0
LosesNone old events gives new = volume_stamps gives ++ new.accepted ≡ old.accepted ++ new_stamps old.last events gives
