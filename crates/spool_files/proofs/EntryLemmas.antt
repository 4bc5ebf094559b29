-- The head, the text and the whole of an entry as fields.
use Rattle.std.proofs.Common.{◌≡◌, ℕ, zero, suc, ◌^◌, ◌<◌, ◌≤◌, Bool, true, false, cond, ◌&&◌, leb, List, [], ◌∷◌, ◌++◌, length, Option, Some, None, refl, sym, ap, subst, ◌∙◌, append_assoc, arith}
use Rattle.std.specs.Int.{w16, to_be_bytes}
use Rattle.std.proofs.lemmas.Bool.Decides.{nat_tests}
use Rattle.std.proofs.lemmas.Bool.{leb-true, le-leb}
use Rattle.spool_files.specs.declared.entry.Head.{Head}
use Rattle.spool_files.specs.declared.entry.Head.TheVariants as heads
use Rattle.spool_files.specs.Entries.{Entry, head_octets, entry_octets, FitsHead, FitsEntry, least_text, greatest_text}
use Rattle.spool_files.specs.internal.Fields.{Reading, bind, first_at, octets_at, number_at, as_at, kind_at, head_at, text_at, entry_at}
use Rattle.spool_files.proofs.FieldLemmas.{AreOctets, Takes, Takes-then, IsField, bind_some, some_is, first_field, field16, octets_field}
use Rattle.spool_files.proofs.HeadLemmas.{begun_field, came_field, answered_field, given_up_field}

-- a head of one kind
kind_takes_as : {A : Type 0} (at : Reading A) (text : A → List ℕ) (Fits : A → Type 0) (kind : ℕ) (made : A → Head)
    → ((a : A) → head_octets (made a) ≡ kind ∷ text a) → ((a : A) → Fits a → FitsHead (made a)) → IsField at text Fits
    → (octets : List ℕ) (head : Head) (rest : List ℕ) → AreOctets octets → as_at made at octets ≡ Some (head, rest)
    → Takes (kind ∷ octets) (head_octets head) rest × FitsHead head
kind_takes_as at text Fits kind made spelled fit field octets head rest are e =
    let a = bind_some (at octets) (λ a. Some (made a.0, a.1)) (head, rest) e in
    let t = field.takes octets a.0.0 a.0.1 are a.1 in
    let parts : kind ∷ octets ≡ head_octets (made a.0.0) ++ a.0.1 = ap (λ (l : List ℕ). kind ∷ l) t.0.parts ∙ ap (λ (l : List ℕ). l ++ a.0.1) (sym (spelled a.0.0)) in
    subst (λ (x : Head × List ℕ). Takes (kind ∷ octets) (head_octets x.0) x.1 × FitsHead x.0) (some_is (made a.0.0, a.0.1) (head, rest) a.2)
    (record { parts = parts; are = t.0.are }, fit a.0.0 t.1)

no_kind : (kind : ℕ) (octets : List ℕ) → 4 < kind → kind_at kind octets ≡ None
no_kind kind octets more = grind (arith, nat_tests)

kind_takes : (kind : ℕ) (octets : List ℕ) (head : Head) (rest : List ℕ) → AreOctets octets → kind_at kind octets ≡ Some (head, rest) → Takes (kind ∷ octets) (head_octets head) rest × FitsHead head
kind_takes zero octets head rest are e = absurd cc
kind_takes (suc zero) octets head rest are e = kind_takes_as _ _ _ 1 heads.Begun (λ _. refl) (λ _ fits. fits) begun_field octets head rest are e
kind_takes (suc (suc zero)) octets head rest are e = kind_takes_as _ _ _ 2 heads.Came (λ _. refl) (λ _ fits. fits) came_field octets head rest are e
kind_takes (suc (suc (suc zero))) octets head rest are e = kind_takes_as _ _ _ 3 heads.Answered (λ _. refl) (λ _ fits. fits) answered_field octets head rest are e
kind_takes (suc (suc (suc (suc zero)))) octets head rest are e = kind_takes_as _ _ _ 4 heads.GivenUp (λ _. refl) (λ _ fits. fits) given_up_field octets head rest are e
kind_takes (suc (suc (suc (suc (suc kind))))) octets head rest are e =
    let none : kind_at (suc (suc (suc (suc (suc kind))))) octets ≡ None = no_kind (suc (suc (suc (suc (suc kind))))) octets (omega arith) in
    absurd (cc (none, e))

head_takes : (octets : List ℕ) (head : Head) (rest : List ℕ) → AreOctets octets → head_at octets ≡ Some (head, rest) → Takes octets (head_octets head) rest × FitsHead head
unfolding head_at
head_takes octets head rest are e =
    let a = bind_some (first_at octets) (λ kind. kind_at kind.0 kind.1) (head, rest) e in
    let t = first_field.takes octets a.0.0 a.0.1 are a.1 in
    let h = kind_takes a.0.0 a.0.1 head rest t.0.are a.2 in
    (record { parts = t.0.parts ∙ h.0.parts; are = h.0.are }, h.1)

head_again : (head : Head) (rest : List ℕ) → FitsHead head → head_at (head_octets head ++ rest) ≡ Some (head, rest)
unfolding head_at
head_again (heads.Begun b) rest fits = rw (begun_field.again b rest fits) refl
head_again (heads.Came c) rest fits = rw (came_field.again c rest fits) refl
head_again (heads.Answered a) rest fits = rw (answered_field.again a rest fits) refl
head_again (heads.GivenUp g) rest fits = rw (given_up_field.again g rest fits) refl

pub let_through : {A : Type 0} (b : Bool) (o : Option A) (y : A) → cond b o None ≡ Some y → (b ≡ true) × (o ≡ Some y)
let_through true o y e = (refl, e)
let_through false o y e = absurd cc

both_true : (a b : Bool) → (a && b) ≡ true → (a ≡ true) × (b ≡ true)
both_true true b e = (refl, e)
both_true false b e = absurd cc

abbrev text_octets : List ℕ → List ℕ
text_octets text = to_be_bytes w16 (length text) ++ text

abbrev FitsText : Head → List ℕ → Type 0
FitsText head text = (least_text head ≤ length text) × (length text ≤ greatest_text head)

text_takes : (head : Head) (octets text rest : List ℕ) → AreOctets octets → text_at head octets ≡ Some (text, rest) → Takes octets (text_octets text) rest × FitsText head text
unfolding text_at
text_takes head octets text rest are e =
    let a = bind_some (number_at w16 octets) (λ count. cond (leb (least_text head) count.0 && leb count.0 (greatest_text head)) (octets_at count.0 count.1) None) (text, rest) e in
    let t = field16.takes octets a.0.0 a.0.1 are a.1 in
    let p = let_through (leb (least_text head) a.0.0 && leb a.0.0 (greatest_text head)) (octets_at a.0.0 a.0.1) (text, rest) a.2 in
    let within = both_true (leb (least_text head) a.0.0) (leb a.0.0 (greatest_text head)) p.0 in
    let u = (octets_field a.0.0).takes a.0.1 text rest t.0.are p.1 in
    let whole : Takes octets (to_be_bytes w16 a.0.0 ++ text) rest = Takes-then octets (to_be_bytes w16 a.0.0) a.0.1 text rest t.0 u.0 in
    subst (λ (n : ℕ). Takes octets (to_be_bytes w16 n ++ text) rest × ((least_text head ≤ n) × (n ≤ greatest_text head))) (sym u.1)
    (whole, (leb-true _ _ within.0, leb-true _ _ within.1))

least-greatest : (head : Head) → greatest_text head ≤ 4096
least-greatest (heads.Begun b) = omega arith
least-greatest (heads.Came c) = omega arith
least-greatest (heads.Answered a) = omega arith
least-greatest (heads.GivenUp g) = omega arith

text_again : (head : Head) (text rest : List ℕ) → FitsText head text → text_at head (text_octets text ++ rest) ≡ Some (text, rest)
unfolding text_at
text_again head text rest fits =
    let few : length text < 2 ^ 16 = omega (arith, fits.1, least-greatest head) in
    ap (text_at head) (append_assoc (to_be_bytes w16 (length text)) text rest)
    ∙ rw (field16.again (length text) (text ++ rest) few, le-leb _ _ fits.0, le-leb _ _ fits.1, (octets_field (length text)).again text rest refl) refl

entry_takes : (octets : List ℕ) (entry : Entry) (rest : List ℕ) → AreOctets octets → entry_at octets ≡ Some (entry, rest) → Takes octets (entry_octets entry) rest × FitsEntry entry
unfolding entry_at
entry_takes octets entry rest are e =
    let a = bind_some (head_at octets) (λ head. bind (text_at head.0 head.1) (λ text. Some ((head.0, text.0), text.1))) (entry, rest) e in
    let b = bind_some (text_at a.0.0 a.0.1) (λ text. Some ((a.0.0, text.0), text.1)) (entry, rest) a.2 in
    let h = head_takes octets a.0.0 a.0.1 are a.1 in
    let t = text_takes a.0.0 a.0.1 b.0.0 b.0.1 h.0.are b.1 in
    subst (λ (x : Entry × List ℕ). Takes octets (entry_octets x.0) x.1 × FitsEntry x.0) (some_is ((a.0.0, b.0.0), b.0.1) (entry, rest) b.2)
    (Takes-then octets (head_octets a.0.0) a.0.1 (text_octets b.0.0) b.0.1 h.0 t.0, (h.1, t.1))

entry_again : (entry : Entry) (rest : List ℕ) → FitsEntry entry → entry_at (entry_octets entry ++ rest) ≡ Some (entry, rest)
unfolding entry_at
entry_again entry rest fits =
    ap entry_at (append_assoc (head_octets entry.0) (text_octets entry.1) rest)
    ∙ rw (head_again entry.0 (text_octets entry.1 ++ rest) fits.0, text_again entry.0 entry.1 rest fits.1) refl

pub entry_field : IsField entry_at entry_octets FitsEntry
entry_field = record { takes = entry_takes; again = entry_again }

pub no_entry : entry_at [] ≡ None
unfolding entry_at head_at
no_entry = refl

pub entry-long : (entry : Entry) → 0 < length (entry_octets entry)
entry-long (heads.Begun b, text) = omega arith
entry-long (heads.Came c, text) = omega arith
entry-long (heads.Answered a, text) = omega arith
entry-long (heads.GivenUp g, text) = omega arith
