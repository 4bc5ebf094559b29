-- The results that a step may have, and the book after it (own): the first case that applies. A step is never
-- refused.
use Rattle.std.specs.Prelude.{◌≡◌, ◌≢◌, ⊤, ℕ, ◌+◌, ◌<◌, ◌≤◌, ◌⊎◌, min, List, [], ◌∷◌, ◌++◌, Option, Some, None, true, false}
use Rattle.std.specs.FinMap as map
use Rattle.rad_auth.specs.Status.{status_server}
use Rattle.rad_tables.specs.declared.slots.Slot.{Slot}
use Rattle.rad_tables.specs.Pairs.{slot_cmp, IsFirstFree}
use Rattle.rad_lane.specs.declared.stepping.Action.{Action}
use Rattle.rad_lane.specs.declared.stepping.Action.TheVariants.{Sent, Resent, Probed, WentDown, WentUp, Idle}
use Rattle.rad_lane.specs.Stamp.{Recorded}
use Rattle.rad_lane.specs.Outstanding.{Outstanding, octets_of, first_sending, sent_again}
use Rattle.rad_lane.specs.declared.entry.Entry.{Entry}
use Rattle.rad_lane.specs.declared.entry.Entry.TheVariants.{Sending as sending, Probe as probe}
use Rattle.rad_lane.specs.declared.watch.Watch.{Watch}
use Rattle.rad_lane.specs.declared.watch.Watch.TheVariants.{Up as up, Down as down}
use Rattle.rad_lane.specs.Book.{Book, moment_in, outstanding_count, table_of}
use Rattle.rad_lane.specs.Datagrams.{Datagrams}
use Rattle.rad_lane.specs.Dues.{NoneDue, IsNextDue, IsSpentDue, IsLeastOfAll, NoneOutstanding, as_moment}
use Rattle.rad_lane.specs.Watch.{GoesUp}

-- The book after the first sending of the first request of the queue, under this pair.
abbrev pub with_sending : Book → ℕ → Recorded → List Recorded → Slot → Book
with_sending book now r rest slot = record book {
  queued = rest;
  sent = book.sent ++ r.stamp ∷ [];
  held = map.insert book.held slot (sending (first_sending book.setup now r slot.identifier));
  allotted = Some slot;
  last = now;
}

-- There is no request to send for the first time: the queue is empty or the window is full.
abbrev pub NothingToSend : Book → Type 0
NothingToSend book = (book.queued ≡ []) ⊎ (book.setup.limits.window ≤ outstanding_count book)

-- What is outstanding once the old probe's pair is freed; and the book with that.
abbrev pub freed : map.FinMap slot_cmp Entry → Option Slot → map.FinMap slot_cmp Entry
freed held None = held
freed held (Some slot) = map.remove held slot

abbrev pub without_probe : Book → Option Slot → Book
without_probe book out = record book { held = freed book.held out }

-- A probe is sent under the first free pair, in place of the old one, and the next one is due `probe_every` later.
abbrev pub Probes : Book → ℕ → List ℕ → ℕ → Option Slot → Slot → Datagrams → Book → Type 0
Probes old now random until out slot d new =
    IsFirstFree (table_of (without_probe old out)) slot
    × (d.after ≡ status_server slot.identifier random old.setup.home_secret)
    × (new ≡ record old {
      held = map.insert (without_probe old out).held slot (probe d.after);
      allotted = Some slot;
      watch = down until (now + old.setup.limits.probe_every) (Some slot);
      last = now;
    })

-- What a step does while the home server is marked up.
abbrev pub StepsWhileUp : Book → ℕ → Action → Datagrams → Book → Type 0
StepsWhileUp old now (Resent number slot) d new =
    (entry : Outstanding) × IsNextDue old now false slot entry × (number ≡ entry.request.stamp.number)
    × (d.after ≡ entry.octets)
    × (new ≡ record old { held = map.insert old.held slot (sending (sent_again old.setup.limits.first_wait now entry)); last = now })
StepsWhileUp old now WentDown d new =
    NoneDue old now false × IsSpentDue old now × (d.after ≡ d.before)
    × (new ≡ record old { watch = down (now + old.setup.limits.down_wait) now None; last = now })
StepsWhileUp old now (Sent number slot) d new =
    NoneDue old now false × NoneDue old now true × (outstanding_count old < old.setup.limits.window)
    × (r : Recorded) × (rest : List Recorded) × (old.queued ≡ r ∷ rest) × (number ≡ r.stamp.number)
    × IsFirstFree (table_of old) slot × (d.after ≡ octets_of old.setup r slot.identifier)
    × (new ≡ with_sending old now r rest slot)
StepsWhileUp old now (Idle None) d new =
    NothingToSend old × NoneOutstanding old × (d.after ≡ d.before) × (new ≡ record old { last = now })
StepsWhileUp old now (Idle (Some moment)) d new =
    NoneDue old now false × NoneDue old now true × NothingToSend old
    × (due : ℕ) × IsLeastOfAll old due × (moment ≡ as_moment due)
    × (d.after ≡ d.before) × (new ≡ record old { last = now })
StepsWhileUp old now (Probed slot) d new = ⊥
StepsWhileUp old now WentUp d new = ⊥

-- What a step does while the home server is marked down until a moment, with the moment of the next probe and the
-- pair of an outstanding probe, if any.
abbrev pub StepsWhileDown : Book → ℕ → List ℕ → ℕ → ℕ → Option Slot → Action → Datagrams → Book → Type 0
StepsWhileDown old now random until next out WentUp d new =
    (until ≤ now) × (d.after ≡ d.before) × GoesUp now (record old { last = now }) new
StepsWhileDown old now random until next out (Probed slot) d new =
    (now < until) × (next ≤ now) × Probes old now random until out slot d new
StepsWhileDown old now random until next out (Idle (Some moment)) d new =
    (now < until) × (now < next) × (moment ≡ as_moment (min until next))
    × (d.after ≡ d.before) × (new ≡ record old { last = now })
StepsWhileDown old now random until next out (Idle None) d new = ⊥
StepsWhileDown old now random until next out (Sent number slot) d new = ⊥
StepsWhileDown old now random until next out (Resent number slot) d new = ⊥
StepsWhileDown old now random until next out WentDown d new = ⊥

abbrev pub StepsBy : Watch → Book → ℕ → List ℕ → Action → Datagrams → Book → Type 0
StepsBy up old now random action d new = StepsWhileUp old now action d new
StepsBy (down until next out) old now random action d new = StepsWhileDown old now random until next out action d new

abbrev pub Steps : Book → ℕ → List ℕ → Action → Datagrams → Book → Type 0
Steps old moment random action d new = StepsBy old.watch old (moment_in old moment) random action d new

-- A pair that is allotted is not the one allotted before it.
abbrev pub AllotsAnother : Book → Action → Type 0
AllotsAnother old (Sent number slot) = old.allotted ≢ Some slot
AllotsAnother old (Probed slot) = old.allotted ≢ Some slot
AllotsAnother old (Resent number slot) = ⊤
AllotsAnother old WentDown = ⊤
AllotsAnother old WentUp = ⊤
AllotsAnother old (Idle moment) = ⊤
