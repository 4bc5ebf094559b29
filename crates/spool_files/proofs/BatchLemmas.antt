-- A batch as a field, and what a file has.
use Rattle.std.proofs.Common.{◌≡◌, ◌≢◌, ℕ, ◌^◌, ◌<◌, ◌-◌, Bool, cond, eqb, List, [], ◌∷◌, ◌++◌, length, get_or, Option, Some, None, refl, sym, ap, subst, ◌∙◌, append_assoc, arith}
use Rattle.std.specs.Int.{w32, to_be_bytes}
use Rattle.std.proofs.lemmas.Bool.{eqb-true, ne_eqb}
use Rattle.std.proofs.lemmas.List.{length-append}
use Rattle.spool_files.specs.Batches.{Batch, frame_octets, batch_octets, octets_of_batches, FitsBatch, AreBatches, NoBatch, Has}
use Rattle.spool_files.specs.internal.Fields.{bind, first_at, octets_at, number_at, frame_at, batch_at}
use Rattle.spool_files.proofs.FieldLemmas.{AreOctets, Takes, Takes-then, IsField, bind_some, some_is, first_field, field32, octets_field}
use Rattle.spool_files.proofs.EntryLemmas.{let_through}

-- a frame by the length of its body
frame_of_length : (octets : List ℕ) (n check : ℕ) (body rest : List ℕ) → length body ≡ n → Takes octets (to_be_bytes w32 n ++ (to_be_bytes w32 check ++ body)) rest → n < 2 ^ 32 → check < 2 ^ 32
    → Takes octets (frame_octets (check, body)) rest × FitsBatch (check, body)
frame_of_length octets n check body rest is whole few fits =
    (subst (λ (k : ℕ). Takes octets (to_be_bytes w32 k ++ (to_be_bytes w32 check ++ body)) rest) (sym is) whole, (omega (arith, is, few), fits))

frame_takes : (octets : List ℕ) (batch : Batch) (rest : List ℕ) → AreOctets octets → frame_at octets ≡ Some (batch, rest) → Takes octets (frame_octets batch) rest × FitsBatch batch
unfolding frame_at
frame_takes octets batch rest are e =
    let a = bind_some (number_at w32 octets) (λ count. bind (number_at w32 count.1) (λ check. bind (octets_at count.0 check.1) (λ body. Some ((check.0, body.0), body.1)))) (batch, rest) e in
    let b = bind_some (number_at w32 a.0.1) (λ check. bind (octets_at a.0.0 check.1) (λ body. Some ((check.0, body.0), body.1))) (batch, rest) a.2 in
    let d = bind_some (octets_at a.0.0 b.0.1) (λ body. Some ((b.0.0, body.0), body.1)) (batch, rest) b.2 in
    let t = field32.takes octets a.0.0 a.0.1 are a.1 in
    let u = field32.takes a.0.1 b.0.0 b.0.1 t.0.are b.1 in
    let v = (octets_field a.0.0).takes b.0.1 d.0.0 d.0.1 u.0.are d.1 in
    let behind = Takes-then a.0.1 (to_be_bytes w32 b.0.0) b.0.1 d.0.0 d.0.1 u.0 v.0 in
    let whole : Takes octets (to_be_bytes w32 a.0.0 ++ (to_be_bytes w32 b.0.0 ++ d.0.0)) d.0.1 = Takes-then octets (to_be_bytes w32 a.0.0) a.0.1 (to_be_bytes w32 b.0.0 ++ d.0.0) d.0.1 t.0 behind in
    subst (λ (x : Batch × List ℕ). Takes octets (frame_octets x.0) x.1 × FitsBatch x.0) (some_is ((b.0.0, d.0.0), d.0.1) (batch, rest) d.2)
    (frame_of_length octets a.0.0 b.0.0 d.0.0 d.0.1 v.1 whole t.1 u.1)

frame_again : (batch : Batch) (rest : List ℕ) → FitsBatch batch → frame_at (frame_octets batch ++ rest) ≡ Some (batch, rest)
unfolding frame_at
frame_again batch rest fits =
    let regrouped : frame_octets batch ++ rest ≡ to_be_bytes w32 (length batch.1) ++ (to_be_bytes w32 batch.0 ++ (batch.1 ++ rest)) =
    append_assoc (to_be_bytes w32 (length batch.1)) (to_be_bytes w32 batch.0 ++ batch.1) rest ∙ ap (λ (l : List ℕ). to_be_bytes w32 (length batch.1) ++ l) (append_assoc (to_be_bytes w32 batch.0) batch.1 rest) in
    ap frame_at regrouped
    ∙ rw (field32.again (length batch.1) (to_be_bytes w32 batch.0 ++ (batch.1 ++ rest)) fits.0, field32.again batch.0 (batch.1 ++ rest) fits.1, (octets_field (length batch.1)).again batch.1 rest refl) refl

batch_takes : (octets : List ℕ) (batch : Batch) (rest : List ℕ) → AreOctets octets → batch_at octets ≡ Some (batch, rest) → Takes octets (batch_octets batch) rest × FitsBatch batch
unfolding batch_at
batch_takes octets batch rest are e =
    let a = bind_some (first_at octets) (λ gate. cond (eqb gate.0 1) (frame_at gate.1) None) (batch, rest) e in
    let t = first_field.takes octets a.0.0 a.0.1 are a.1 in
    let p = let_through (eqb a.0.0 1) (frame_at a.0.1) (batch, rest) a.2 in
    let u = frame_takes a.0.1 batch rest t.0.are p.1 in
    let opened : a.0.0 ≡ 1 = eqb-true _ _ p.0 in
    (record { parts = t.0.parts ∙ ap (λ (n : ℕ). n ∷ a.0.1) opened ∙ ap (λ (l : List ℕ). 1 ∷ l) u.0.parts; are = u.0.are }, u.1)

batch_again : (batch : Batch) (rest : List ℕ) → FitsBatch batch → batch_at (batch_octets batch ++ rest) ≡ Some (batch, rest)
unfolding batch_at
batch_again batch rest fits = frame_again batch rest fits

-- what is read behind an open gate, and behind one that is not open
pub behind_open : (octets rest : List ℕ) (gate : ℕ) (found : Option (Batch × List ℕ)) → first_at octets ≡ Some (gate, rest) → gate ≡ 1 → found ≡ frame_at rest → found ≡ batch_at octets
unfolding batch_at
behind_open octets rest gate found first opened is =
    is
    ∙ ap (λ (g : ℕ). cond (eqb g 1) (frame_at rest) None) (sym opened)
    ∙ ap (λ (o : Option (ℕ × List ℕ)). bind o (λ gate. cond (eqb gate.0 1) (frame_at gate.1) None)) (sym first)

pub behind_closed : (octets rest : List ℕ) (gate : ℕ) → first_at octets ≡ Some (gate, rest) → gate ≢ 1 → None ≡ batch_at octets
unfolding batch_at
behind_closed octets rest gate first shut =
    ap (λ (b : Bool). cond b (frame_at rest) None) (sym (ne_eqb gate 1 shut))
    ∙ ap (λ (o : Option (ℕ × List ℕ)). bind o (λ gate. cond (eqb gate.0 1) (frame_at gate.1) None)) (sym first)

pub batch_field : IsField batch_at batch_octets FitsBatch
batch_field = record { takes = batch_takes; again = batch_again }

pub no_batch : batch_at [] ≡ None
unfolding batch_at
no_batch = refl

pub batch-long : (batch : Batch) → 0 < length (batch_octets batch)
batch-long batch = omega arith

none_some : (x : Batch × List ℕ) → None ≡ Some x → ⊥
none_some x e = absurd cc

-- where nothing is read, no batch stands
pub NoBatch-read : (rest : List ℕ) → batch_at rest ≡ None → NoBatch rest
NoBatch-read rest none = λ batch more fits is. none_some (batch, more) (sym none ∙ ap batch_at is ∙ batch_again batch more fits)

-- behind a gate that is not open, no batch stands
pub NoBatch-closed : (gate : ℕ) (rest : List ℕ) → gate ≢ 1 → NoBatch (gate ∷ rest)
NoBatch-closed gate rest shut = λ batch more fits is. shut (ap (λ (l : List ℕ). get_or l 0 0) is)

-- nor where too few octets are left
pub NoBatch-short : (rest : List ℕ) → length rest < 2 → NoBatch rest
NoBatch-short rest short = λ batch more fits is. absurd (omega (arith, short, ap length is))

pub has_read : (file : List ℕ) (batches : List Batch) (rest : List ℕ) → AreBatches batches → octets_of_batches batches ++ rest ≡ file → batch_at rest ≡ None → Has file batches
has_read file batches rest fit read none = record { rest = rest; split = sym read; fit = fit; ends = NoBatch-read rest none }

pub end_is : (file : List ℕ) (batches : List Batch) (rest : List ℕ) → octets_of_batches batches ++ rest ≡ file → length file - length rest ≡ length (octets_of_batches batches)
end_is file batches rest read = omega (arith, ap length read, length-append (octets_of_batches batches) rest)
