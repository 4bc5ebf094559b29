-- The fields of a lane as a probe is sent.
use Rattle.std.proofs.Common.{◌≡◌, ℕ, ◌+◌, List, Option, Some, ap, ◌∙◌, subst}
use Rattle.std.specs.FinMap as map
use Rattle.rad_auth.specs.Status.{status_server}
use Rattle.rad_config.specs.declared.limits.LimitNumbers.{LimitNumbers}
use Rattle.rad_tables.specs.declared.slots.Slot.{Slot}
use Rattle.rad_tables.specs.Pairs.{Table, IsFirstFree}
use Rattle.rad_lane.specs.declared.stamp.Stamp.{Stamp}
use Rattle.rad_lane.specs.declared.entry.Entry.{Entry}
use Rattle.rad_lane.specs.declared.entry.Entry.TheVariants.{Probe as probe}
use Rattle.rad_lane.specs.declared.watch.Watch.{Watch}
use Rattle.rad_lane.specs.declared.watch.Watch.TheVariants.{Down as down}
use Rattle.rad_lane.specs.Stamp.{Kept}
use Rattle.rad_lane.specs.Setup.{LaneSetup}
use Rattle.rad_lane.specs.Outstanding.{AnswerKept}
use Rattle.rad_lane.specs.Book.{Book, table_of}
use Rattle.rad_lane.specs.Steps.{Probes, freed, without_probe}
use Rattle.rad_lane.specs.internal.Invariant.{book_of}

module _ (setup : LaneSetup) (opening : ℕ) (accepted : List Stamp) (kept : List Kept) (answered : List AnswerKept) (served : ℕ) (slots : Table Entry) (drain : Option ℕ) (watch : Watch) (last : ℕ) where
  abbrev before : Book
  before = book_of setup opening accepted kept answered served slots drain watch last

  module _ (value : Book) (same : before ≡ value) (ports_are : slots.ports ≡ setup.ports) (now until : ℕ) (out : Option Slot) (slot : Slot) where
    -- the slots once the old probe's pair is free
    module _ (left : Table Entry) (left_is : left ≡ record { ports = slots.ports; entries = freed slots.entries out; allotted = slots.allotted }) where
      first_free : IsFirstFree left slot → IsFirstFree (table_of (without_probe value out)) slot
      first_free free =
          let at : left ≡ table_of (without_probe before out) = left_is ∙ ap (λ n. let t : Table Entry = record { ports = n; entries = freed slots.entries out; allotted = slots.allotted } in t) ports_are in
          subst (λ (t : Table Entry). IsFirstFree t slot) (at ∙ ap (λ (b : Book). table_of (without_probe b out)) same) free

      pub probes_so : IsFirstFree left slot → (random octets : List ℕ) (home : List ℕ) → octets ≡ status_server slot.identifier random home → home ≡ setup.home_secret → (kept_octets : List ℕ) → kept_octets ≡ octets → (put : Table Entry) → put ≡ record { ports = left.ports; entries = map.insert left.entries slot (probe kept_octets); allotted = Some slot } → (numbers : LimitNumbers) → numbers ≡ setup.limits → (from every : ℕ) → from ≡ now → every ≡ numbers.probe_every → (datagram : List ℕ)
          → Probes value now random until out slot (record { before = datagram; after = octets }) (book_of setup opening accepted kept answered served put drain (down until (from + every) (Some slot)) now)
      probes_so free random octets home made home_is kept_octets kept_is put put_is numbers limits from every from_is every_is datagram =
          let secret : home ≡ value.setup.home_secret = home_is ∙ ap (λ (b : Book). b.setup.home_secret) same in
          let table : put ≡ record { ports = slots.ports; entries = map.insert (freed slots.entries out) slot (probe octets); allotted = Some slot } =
          put_is
          ∙ ap (λ text. let t : Table Entry = record { ports = left.ports; entries = map.insert left.entries slot (probe text); allotted = Some slot } in t) kept_is
          ∙ ap (λ (l : Table Entry). let t : Table Entry = record { ports = l.ports; entries = map.insert l.entries slot (probe octets); allotted = Some slot } in t) left_is
          in
          let next : from + every ≡ now + setup.limits.probe_every = ap (λ n. n + every) from_is ∙ ap (λ n. now + n) (every_is ∙ ap (λ (n : LimitNumbers). n.probe_every) limits) in (
            first_free free,
            made ∙ ap (λ (text : List ℕ). status_server slot.identifier random text) secret,
            ap (λ (t : Table Entry). book_of setup opening accepted kept answered served t drain (down until (from + every) (Some slot)) now) table
                ∙ ap (λ n. let b : Book = record before { held = map.insert (freed slots.entries out) slot (probe octets); allotted = Some slot; watch = down until n (Some slot); last = now } in b) next
                ∙ ap (λ (v : Book). let b : Book = record v { held = map.insert (freed v.held out) slot (probe octets); allotted = Some slot; watch = down until (now + v.setup.limits.probe_every) (Some slot); last = now } in b) same,
          )
