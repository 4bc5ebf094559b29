-- Parcels that are taken from the buffer and passed.
use Rattle.std.proofs.Common.{◌≡◌, ℕ, ◌≤◌, ◌<◌, length, List, [], ◌∷◌, ◌++◌, Option, Some, None, max, take, refl, sym, ap, ◌∙◌, subst, append-nil, arith}
use Rattle.std.proofs.lemmas.List.{map-append}
use Rattle.std.proofs.lemmas.Grind.{flat_map-append}
use Rattle.std.specs.Prelude.{MatchOption}
use Rattle.std.specs.List.{flat_map}
use Rattle.ledger_writer.specs.Buffer.{SameTaken, TakesNothing, TakesParcel}
use Rattle.ledger_writer.specs.Fills.{AreLinesOf, AreUntil, day_at, last_day, HasPassed, HasPassedBut, HasTaken, IsLineOf, Taken, held_as}
use Rattle.ledger_writer.specs.Parcels.{octets_of}
use Rattle.ledger_writer.specs.declared.entry_buffer.EntryBuffer.{EntryBuffer}
use Rattle.ledger_writer.specs.declared.parcel.ParcelHead.{ParcelHead}
use Rattle.ledger_writer.specs.declared.run_names.RunNames.{RunNames}

-- What was taken stays so where nothing more is.
same_taken : (old new : EntryBuffer) (parcels : List Taken) → SameTaken old new → HasTaken old parcels → HasTaken new parcels
same_taken old new parcels same has = record { heads = same.heads ∙ has.heads; packets = same.packets ∙ has.packets }

nothing_taken : (held : Option ParcelHead) (old new : EntryBuffer) (parcels : List Taken) → TakesNothing old new → HasPassedBut held old parcels → HasPassedBut held new parcels
nothing_taken None old new parcels nothing has = same_taken old new parcels nothing.same has
nothing_taken (Some head) old new parcels nothing has =
    subst (λ (room : List ℕ). HasTaken new (parcels ++ held_as head room ∷ [])) (sym nothing.room) (same_taken old new (parcels ++ held_as head old.room.items ∷ []) nothing.same has)

-- One more is.
one_taken : (old new : EntryBuffer) (parcels : List Taken) (head : ParcelHead) → TakesParcel old head new → HasTaken old parcels → HasTaken new (parcels ++ held_as head new.room.items ∷ [])
one_taken old new parcels head takes has =
    let one : Taken = held_as head new.room.items in
    let octets : List ℕ = take (octets_of head) new.room.items in
    record {
      heads = takes.heads ∙ ap (λ (l : List ParcelHead). l ++ head ∷ []) has.heads ∙ sym (map-append (λ (t : Taken). t.head) parcels (one ∷ []));
      packets = takes.packets ∙ ap (λ (l : List ℕ). l ++ octets) has.packets ∙ ap (λ (l : List ℕ). flat_map (λ (t : Taken). t.octets) parcels ++ l) (sym (append-nil octets)) ∙ sym (flat_map-append (λ (t : Taken). t.octets) parcels (one ∷ []));
    }

taken_by : (before after : Option ParcelHead) (old new : EntryBuffer) (parcels : List Taken) → old.held ≡ before → new.held ≡ after
    → MatchOption before (MatchOption after (TakesNothing old new) (λ head. TakesParcel old head new)) (λ _. TakesNothing old new) → HasPassedBut before old parcels → HasPassedBut after new parcels
taken_by None None old new parcels was is takes has = nothing_taken None old new parcels takes has
taken_by None (Some head) old new parcels was is takes has = one_taken old new parcels head takes has
taken_by (Some head) after old new parcels was is takes has =
    let same : Some head ≡ after = sym was ∙ sym takes.held ∙ is in
    subst (λ (held : Option ParcelHead). HasPassedBut held new parcels) same (nothing_taken (Some head) old new parcels takes has)

-- The next parcel is taken, or not.
pub taken_next : (old new : EntryBuffer) (parcels : List Taken)
    → MatchOption old.held (MatchOption new.held (TakesNothing old new) (λ head. TakesParcel old head new)) (λ _. TakesNothing old new) → HasPassed old parcels → HasPassed new parcels
taken_next old new parcels takes has = taken_by old.held new.held old new parcels refl refl takes has

-- The one that is held is passed.
pub passed_one : (old new : EntryBuffer) (parcels : List Taken) (head : ParcelHead) → old.held ≡ Some head → new.held ≡ None → SameTaken old new → HasPassed old parcels → HasPassed new (parcels ++ held_as head old.room.items ∷ [])
passed_one old new parcels head was is same has =
    let all : List Taken = parcels ++ held_as head old.room.items ∷ [] in
    let taken : HasTaken old all = subst (λ (held : Option ParcelHead). HasPassedBut held old parcels) was has in
    subst (λ (held : Option ParcelHead). HasPassedBut held new all) (sym is) (same_taken old new all same taken)

-- One more line.
pub one_line : (names : RunNames) (parcels : List Taken) (lines : List (List ℕ)) (one : Taken) (line : List ℕ) → AreLinesOf names parcels lines → IsLineOf names one line → AreLinesOf names (parcels ++ one ∷ []) (lines ++ line ∷ [])
one_line names [] [] one line are is = (is, record {})
one_line names [] (other ∷ lines) one line are is = absurd are
one_line names (taken ∷ parcels) [] one line are is = absurd are
one_line names (taken ∷ parcels) (other ∷ lines) one line are is = (are.0, one_line names parcels lines one line are.1 is)

-- One more parcel, of no later day: the first one, which may set the day, or a later one.
one_until : (day : ℕ) (parcels : List Taken) (one : Taken) → AreUntil day parcels → day_at one ≤ day → AreUntil day (parcels ++ one ∷ [])
one_until day [] one are is = (is, record {})
one_until day (first ∷ parcels) one are is = (are.0, one_until day parcels one are.1 is)

pub days_first : (day before now its : ℕ) (parcels : List Taken) (one : Taken) → length parcels ≡ 0 → before ≡ last_day day parcels → now ≡ max before its → its ≡ day_at one → day_at one ≤ now
    → (now ≡ last_day day (parcels ++ one ∷ [])) × AreUntil (last_day day (parcels ++ one ∷ [])) (parcels ++ one ∷ [])
days_first day before now its [] one none was is of within =
    let day_is : now ≡ max day (day_at one) = is ∙ ap (λ (d : ℕ). max d its) was ∙ ap (λ (d : ℕ). max day d) of in
    (day_is, (subst (λ (d : ℕ). day_at one ≤ d) day_is within, record {}))
days_first day before now its (first ∷ parcels) one none was is of within = absurd (omega (arith, none))

pub days_later : (day now : ℕ) (parcels : List Taken) (one : Taken) → 0 < length parcels → now ≡ last_day day parcels → AreUntil (last_day day parcels) parcels → day_at one ≤ now
    → (now ≡ last_day day (parcels ++ one ∷ [])) × AreUntil (last_day day (parcels ++ one ∷ [])) (parcels ++ one ∷ [])
days_later day now [] one some is are within = absurd (omega (arith, some))
days_later day now (first ∷ parcels) one some is are within = (is, one_until (last_day day (first ∷ parcels)) (first ∷ parcels) one are (subst (λ (d : ℕ). day_at one ≤ d) is within))
