-- Fields that stand one behind the other.
use Rattle.std.proofs.Common.{◌≡◌, ℕ, ◌<◌, Bool, true, false, eqb, List, [], ◌∷◌, ◌++◌, length, Some, None, refl, sym, ap, subst, ◌∙◌, append_assoc, arith}
use Rattle.std.specs.List.{flat_map, AllByRecursion}
use Rattle.std.proofs.lemmas.List.{append-nil, length-append, drop_at}
use Rattle.std.proofs.lemmas.List.Concat.{flat_map-cons}
use Rattle.std.proofs.lemmas.Grind.{flat_map-append}
use Rattle.spool_files.specs.internal.Fields.{Reading}
use Rattle.spool_files.proofs.FieldLemmas.{AreOctets, AreOctets-drop, IsField}

pub All-push : {A : Type 0} (P : A → Type 0) (xs : List A) (x : A) → AllByRecursion P xs → P x → AllByRecursion P (xs ++ x ∷ [])
All-push P [] x all one = (one, tt)
All-push P (y ∷ ys) x all one = (all.0, All-push P ys x all.1 one)

pub row-push : {A : Type 0} (text : A → List ℕ) (xs : List A) (x : A) → flat_map text (xs ++ x ∷ []) ≡ flat_map text xs ++ text x
row-push text xs x = flat_map-append text xs (x ∷ []) ∙ ap (λ (l : List ℕ). flat_map text xs ++ l) (flat_map-cons text x [] ∙ append-nil (text x))

AreOctets-behind : (front rest : List ℕ) → AreOctets (front ++ rest) → AreOctets rest
AreOctets-behind front rest are = subst AreOctets (drop_at front rest (length front) refl) (AreOctets-drop (length front) (front ++ rest) are)

module _ {A : Type 0} (at : Reading A) (text : A → List ℕ) (Fits : A → Type 0) (field : IsField at text Fits) (nothing : at [] ≡ None) where
  -- what goes on where a row that begins alike ends
  pub record GoesOn (done all : List A) (rest : List ℕ) : Type 0 where
    pub more : List A
    pub split : all ≡ done ++ more
    pub left : rest ≡ flat_map text more
    pub fit : AllByRecursion Fits more

  -- after one more field is read
  pub record Steps (octets : List ℕ) (done : List A) (rest after : List ℕ) : Type 0 where
    pub fit : AllByRecursion Fits done
    pub read : flat_map text done ++ after ≡ octets
    pub shorter : ((a : A) → 0 < length (text a)) → length after < length rest

  pub steps : (octets : List ℕ) (done : List A) (rest : List ℕ) (a : A) (after : List ℕ) → AreOctets octets → AllByRecursion Fits done → flat_map text done ++ rest ≡ octets → at rest ≡ Some (a, after)
      → Steps octets (done ++ a ∷ []) rest after
  steps octets done rest a after are fits read one =
      let rest_are : AreOctets rest = AreOctets-behind (flat_map text done) rest (subst AreOctets (sym read) are) in
      let t = field.takes rest a after rest_are one in
      record {
        fit = All-push Fits done a fits t.1;
        read = ap (λ (l : List ℕ). l ++ after) (row-push text done a) ∙ append_assoc (flat_map text done) (text a) after ∙ ap (λ (l : List ℕ). flat_map text done ++ l) (sym t.0.parts) ∙ read;
        shorter = λ long. omega (arith, ap length t.0.parts, length-append (text a) after, long a);
      }

  none_some : (x : A × List ℕ) → None ≡ Some x → ⊥
  none_some x e = absurd cc

  first_is : (x y : A × List ℕ) → at (text x.0 ++ x.1) ≡ Some x → at (text y.0 ++ y.1) ≡ Some y → text x.0 ++ x.1 ≡ text y.0 ++ y.1 → x ≡ y
  first_is x y one two same = cc_some (sym one ∙ ap at same ∙ two)
    where
      cc_some : {x y : A × List ℕ} → Some x ≡ Some y → x ≡ y
      cc_some e = cc

  pub goes_on : (done all : List A) (rest : List ℕ) → AllByRecursion Fits done → AllByRecursion Fits all → flat_map text done ++ rest ≡ flat_map text all → GoesOn done all rest
  goes_on [] all rest fits fit same = record { more = all; split = refl; left = same; fit = fit }
  goes_on (d ∷ done) [] rest fits fit same =
      let behind = flat_map text done ++ rest in
      let whole : text d ++ behind ≡ [] = sym (append_assoc (text d) (flat_map text done) rest) ∙ ap (λ (l : List ℕ). l ++ rest) (sym (flat_map-cons text d done)) ∙ same in
      absurd (none_some (d, behind) (sym nothing ∙ ap at (sym whole) ∙ field.again d behind fits.0))
  goes_on (d ∷ done) (a ∷ all) rest fits fit same =
      let behind = flat_map text done ++ rest in
      let whole : text d ++ behind ≡ text a ++ flat_map text all =
      sym (append_assoc (text d) (flat_map text done) rest) ∙ ap (λ (l : List ℕ). l ++ rest) (sym (flat_map-cons text d done)) ∙ same ∙ flat_map-cons text a all in
      let heads = first_is (d, behind) (a, flat_map text all) (field.again d behind fits.0) (field.again a (flat_map text all) fit.0) whole in
      let first : d ≡ a = ap (λ (x : A × List ℕ). x.0) heads in
      let others : behind ≡ flat_map text all = ap (λ (x : A × List ℕ). x.1) heads in
      let on = goes_on done all rest fits.1 fit.1 others in
      record { more = on.more; split = ap (λ (l : List A). a ∷ l) on.split ∙ ap (λ (x : A). x ∷ (done ++ on.more)) (sym first); left = on.left; fit = on.fit }

  -- a row does not go on where nothing is read
  pub stops : (rest : List ℕ) (more : List A) → at rest ≡ None → rest ≡ flat_map text more → AllByRecursion Fits more → rest ≡ []
  stops rest [] none left fit = left
  stops rest (m ∷ more) none left fit =
      absurd (none_some (m, flat_map text more) (sym none ∙ ap at (left ∙ flat_map-cons text m more) ∙ field.again m (flat_map text more) fit.0))

  -- a row that is read up to where nothing is read is no whole row
  pub no_row : (octets : List ℕ) (done all : List A) (rest : List ℕ) → AllByRecursion Fits done → flat_map text done ++ rest ≡ octets → at rest ≡ None → (rest ≡ [] → ⊥) → AllByRecursion Fits all → octets ≡ flat_map text all → ⊥
  no_row octets done all rest fits read none some fit are =
      let on = goes_on done all rest fits fit (read ∙ are) in
      some (stops rest on.more none on.left on.fit)

  -- no field begins here
  abbrev Ends : List ℕ → Type 0
  Ends rest = (a : A) (more : List ℕ) → Fits a → rest ≡ text a ++ more → ⊥

  pub ends_nothing : Ends []
  ends_nothing a more fits is = none_some (a, more) (sym nothing ∙ ap at is ∙ field.again a more fits)

  -- two rows with the same octets, behind which no field begins
  pub same_rows : (one other : List A) (rest rest' : List ℕ) → AllByRecursion Fits one → AllByRecursion Fits other → Ends rest → Ends rest' → flat_map text one ++ rest ≡ flat_map text other ++ rest' → one ≡ other
  same_rows [] [] rest rest' fit fit' ends ends' same = refl
  same_rows [] (b ∷ other) rest rest' fit fit' ends ends' same =
      absurd (ends b (flat_map text other ++ rest') fit'.0 (same ∙ ap (λ (l : List ℕ). l ++ rest') (flat_map-cons text b other) ∙ append_assoc (text b) (flat_map text other) rest'))
  same_rows (a ∷ one) [] rest rest' fit fit' ends ends' same =
      absurd (ends' a (flat_map text one ++ rest) fit.0 (sym same ∙ ap (λ (l : List ℕ). l ++ rest) (flat_map-cons text a one) ∙ append_assoc (text a) (flat_map text one) rest))
  same_rows (a ∷ one) (b ∷ other) rest rest' fit fit' ends ends' same =
      let behind = flat_map text one ++ rest in
      let behind' = flat_map text other ++ rest' in
      let whole : text a ++ behind ≡ text b ++ behind' =
      sym (append_assoc (text a) (flat_map text one) rest) ∙ ap (λ (l : List ℕ). l ++ rest) (sym (flat_map-cons text a one)) ∙ same
      ∙ ap (λ (l : List ℕ). l ++ rest') (flat_map-cons text b other) ∙ append_assoc (text b) (flat_map text other) rest' in
      let heads = first_is (a, behind) (b, behind') (field.again a behind fit.0) (field.again b behind' fit'.0) whole in
      let first : a ≡ b = ap (λ (x : A × List ℕ). x.0) heads in
      let others : behind ≡ behind' = ap (λ (x : A × List ℕ). x.1) heads in
      ap (λ (x : A). x ∷ one) first ∙ ap (λ (l : List A). b ∷ l) (same_rows one other rest rest' fit.1 fit'.1 ends ends' others)

pub some_left : (rest : List ℕ) (empty : Bool) → empty ≡ eqb (length rest) 0 → empty ≡ false → rest ≡ [] → ⊥
some_left rest empty is not none =
    let here : true ≡ false = sym (ap (λ (l : List ℕ). eqb (length l) 0) none) ∙ sym is ∙ not in
    absurd (cc here)
