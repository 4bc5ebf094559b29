-- The lines of a batch are sealed, one after the other.
use Rattle.std.proofs.Common.{◌≡◌, ℕ, suc, ◌+◌, ◌-◌, ◌<◌, ◌≤◌, List, [], ◌∷◌, ◌++◌, length, take, drop, get_or, refl, sym, ap, ◌∙◌, subst, append-nil, append_assoc, add-one, arith, length-append, length-drop}
use Rattle.std.specs.List.{concat, slice_range}
use Rattle.std.proofs.Math.Nat.{sub_self}
use Rattle.std.proofs.Math.Seq.{take-suc, drop-cons, get_or-append_seam}
use Rattle.std.proofs.lemmas.List.{drop_all, get_or-drop, length-map, length-take, length-take-le, map-append, take-append-drop, take_all}
use Rattle.ledger_files.specs.Batches.{HoldsLines}
use Rattle.ledger_files.specs.Tails.{bodies_in, body_in, line_after, lines_after, sum_after, sums_after, tail_of}
use Rattle.ledger_files.specs.declared.batch.Batch.{Batch}
use Rattle.ledger_files.proofs.Ends.{around, holds_sealed}
use Rattle.ledger_files.proofs.Seals.{lines_append, lines_count, sums_one}

take_one_more : (front rest : List (List ℕ)) (line : List ℕ) → take (suc (length front)) (front ++ line ∷ rest) ≡ front ++ line ∷ []
take_one_more [] rest line = refl
take_one_more (f ∷ front) rest line = ap (λ (x : List (List ℕ)). f ∷ x) (take_one_more front rest line)

-- One line gets its tail.
module _ (old new : Batch) (front rest : List (List ℕ)) (line sum : List ℕ) (place end : ℕ) (h : HoldsLines old (front ++ line ∷ rest)) (at : length front ≡ place) (e : end ≡ get_or old.ends.items place 0) where
  room : 75 ≤ length line
  room =
      let low : length front < length (front ++ line ∷ rest) = omega (arith, length-append front (line ∷ rest)) in
      omega (arith, h.long (length front) low, ap length (get_or-append_seam front line rest []))

  parts : line ≡ body_in line ++ drop (length line - 75) line
  parts = sym (take-append-drop (length line - 75) line)

  octets_are : old.octets.items ≡ concat front ++ ((body_in line ++ drop (length line - 75) line) ++ concat rest)
  octets_are = h.octets ∙ around front rest line ∙ ap (λ (x : List ℕ). concat front ++ (x ++ concat rest)) parts

  ends_there : end ≡ length (concat front ++ (body_in line ++ drop (length line - 75) line))
  ends_there =
      let low : place < length (front ++ line ∷ rest) = omega (arith, at, length-append front (line ∷ rest)) in
      let firsts : take (place + 1) (front ++ line ∷ rest) ≡ front ++ line ∷ [] =
      ap (λ (k : ℕ). take (k + 1) (front ++ line ∷ rest)) (sym at) ∙ ap (λ (k : ℕ). take k (front ++ line ∷ rest)) (add-one (length front)) ∙ take_one_more front rest line in
      e ∙ h.ends place low ∙ ap (λ (x : List (List ℕ)). length (concat x)) firsts
      ∙ ap length (around front [] line ∙ ap (λ (x : List ℕ). concat front ++ x) (append-nil line ∙ parts))

  pub line_sealed : (its before after : List ℕ) → sum ≡ its → before ≡ old.octets.items → new.octets.items ≡ after
      → ((f b t r : List ℕ) → before ≡ f ++ ((b ++ t) ++ r) → length t ≡ 75 → end ≡ length (f ++ (b ++ t)) → after ≡ f ++ ((b ++ tail_of sum) ++ r))
      → length (tail_of its) ≡ 75 → new.ends.items ≡ old.ends.items → new.whole ≡ old.whole → new.start ≡ old.start → new.digests.items ≡ old.digests.items
      → HoldsLines new (front ++ (body_in line ++ tail_of its) ∷ rest)
  line_sealed its before after e b a set long ee ew es ed =
      let P : List ℕ → Type 0 = λ s. HoldsLines new (front ++ (body_in line ++ tail_of s) ∷ rest) in
      let count : length (drop (length line - 75) line) ≡ 75 = omega (arith, room, length-drop (length line - 75) line) in
      subst P e
      (holds_sealed old new front rest line (tail_of sum) h (ap (λ (s : List ℕ). length (tail_of s)) e ∙ long)
      (a ∙ set (concat front) (body_in line) (drop (length line - 75) line) (concat rest) (b ∙ octets_are) count ends_there) ee ew es ed)

-- Those from `whole` on up to a place are sealed.
abbrev pub sealed_to : ℕ → ℕ → List ℕ → List (List ℕ) → List (List ℕ)
sealed_to whole place before lines = take whole lines ++ (lines_after before (bodies_in (slice_range lines whole place)) ++ drop place lines)

pub record SealedSoFar (old new : Batch) (before chain : List ℕ) (place : ℕ) : Type 0 where
  pub done : new.done ≡ old.done
  pub whole : new.whole ≡ old.whole
  pub heads : new.heads ≡ old.heads
  pub ends : new.ends ≡ old.ends
  pub from : old.whole ≤ place
  pub lines : (lines : List (List ℕ)) → HoldsLines old lines → HoldsLines new (sealed_to old.whole place before lines) × (chain ≡ sums_after before (bodies_in (slice_range lines old.whole place)))

pub seal_begins : (batch : Batch) (before : List ℕ) → SealedSoFar batch batch before before batch.whole
seal_begins batch before = record {
  done = refl;
  whole = refl;
  heads = refl;
  ends = refl;
  from = omega arith;
  lines = λ lines h.
      let k : ℕ = batch.whole in
      let none : slice_range lines k k ≡ [] = ap (λ (n : ℕ). take n (drop k lines)) (sub_self k) in
      let its : sealed_to k k before lines ≡ lines =
      ap (λ (x : List (List ℕ)). take k lines ++ (lines_after before (bodies_in x) ++ drop k lines)) none ∙ take-append-drop k lines in
      let P : List (List ℕ) → Type 0 = λ x. HoldsLines batch x in
      (subst P (sym its) h, ap (λ (x : List (List ℕ)). sums_after before (bodies_in x)) (sym none));
}

range_more : (lines : List (List ℕ)) (whole place : ℕ) → whole ≤ place → place < length lines → slice_range lines whole (place + 1) ≡ slice_range lines whole place ++ get_or lines place [] ∷ []
range_more lines whole place l low =
    let n : ℕ = place - whole in
    let count : place + 1 - whole ≡ suc n = omega (arith, l) in
    let there : n < length (drop whole lines) = omega (arith, length-drop whole lines, l, low) in
    let same : whole + n ≡ place = omega (arith, l) in
    ap (λ (k : ℕ). take k (drop whole lines)) count ∙ take-suc (drop whole lines) n [] there
    ∙ ap (λ (x : List ℕ). take n (drop whole lines) ++ x ∷ []) (get_or-drop whole lines n [] ∙ ap (λ (k : ℕ). get_or lines k []) same)

pub seal_goes_on : (old now new : Batch) (before chain next : List ℕ) (place : ℕ) → SealedSoFar old now before chain place → place < length old.ends.items
    → ((front rest : List (List ℕ)) (line : List ℕ) → HoldsLines now (front ++ line ∷ rest) → length front ≡ place → HoldsLines new (front ++ line_after chain (body_in line) ∷ rest))
    → ((lines : List (List ℕ)) → HoldsLines now lines → place < length lines → next ≡ sum_after chain (body_in (get_or lines place [])))
    → new.done ≡ now.done → new.whole ≡ now.whole → new.heads ≡ now.heads → new.ends ≡ now.ends → SealedSoFar old new before next (place + 1)
seal_goes_on old now new before chain next place s some seals adds d w hs es = record {
  done = d ∙ s.done;
  whole = w ∙ s.whole;
  heads = hs ∙ s.heads;
  ends = es ∙ s.ends;
  from = omega (arith, s.from);
  lines = λ lines h.
      let k : ℕ = old.whole in
      let low : place < length lines = omega (arith, some, h.count) in
      let line : List ℕ = get_or lines place [] in
      let range : List (List ℕ) = slice_range lines k place in
      let sealed : List (List ℕ) = lines_after before (bodies_in range) in
      let front : List (List ℕ) = take k lines ++ sealed in
      let rest : List (List ℕ) = drop (place + 1) lines in
      let is = s.lines lines h in
      let many : length range ≡ place - k = omega (arith, length-take (place - k) (drop k lines), length-drop k lines, s.from, low) in
      let count : length front ≡ place =
      omega (arith, s.from, many, length-append (take k lines) sealed, length-take-le k lines h.some, lines_count before (bodies_in range), length-map range body_in) in
      let split : sealed_to k place before lines ≡ front ++ line ∷ rest =
      ap (λ (x : List (List ℕ)). take k lines ++ (sealed ++ x)) (rw add-one (drop-cons lines place [] low)) ∙ sym (append_assoc (take k lines) sealed (line ∷ rest)) in
      let P : List (List ℕ) → Type 0 = λ x. HoldsLines now x in
      let now_is : HoldsLines now (front ++ line ∷ rest) = subst P split is.0 in
      let there : place < length (front ++ line ∷ rest) = omega (arith, count, length-append front (line ∷ rest)) in
      let its : get_or (front ++ line ∷ rest) place [] ≡ line =
      ap (λ (i : ℕ). get_or (front ++ line ∷ rest) i []) (sym count) ∙ get_or-append_seam front line rest [] in
      let bodies : bodies_in (slice_range lines k (place + 1)) ≡ bodies_in range ++ body_in line ∷ [] =
      ap bodies_in (range_more lines k place s.from low) ∙ map-append body_in range (line ∷ []) in
      let more : lines_after before (bodies_in (slice_range lines k (place + 1))) ≡ sealed ++ line_after chain (body_in line) ∷ [] =
      ap (lines_after before) bodies ∙ lines_append before (bodies_in range) (body_in line ∷ [])
      ∙ ap (λ (x : List ℕ). sealed ++ line_after x (body_in line) ∷ []) (sym is.1) in
      let to : sealed_to k (place + 1) before lines ≡ front ++ line_after chain (body_in line) ∷ rest =
      ap (λ (x : List (List ℕ)). take k lines ++ (x ++ rest)) more
      ∙ ap (λ (x : List (List ℕ)). take k lines ++ x) (append_assoc sealed (line_after chain (body_in line) ∷ []) rest)
      ∙ sym (append_assoc (take k lines) sealed (line_after chain (body_in line) ∷ rest)) in
      let Q : List (List ℕ) → Type 0 = λ x. HoldsLines new x in (
        subst Q (sym to) (seals front rest line now_is count),
        adds (front ++ line ∷ rest) now_is there
            ∙ ap (λ (x : List ℕ). sum_after chain (body_in x)) its
            ∙ ap (λ (x : List ℕ). sum_after x (body_in line)) is.1
            ∙ sym (sums_one before (bodies_in range) (body_in line))
            ∙ ap (sums_after before) (sym bodies),
      );
}

pub seal_is_done : (old new : Batch) (before chain : List ℕ) (place : ℕ) → SealedSoFar old new before chain place → length old.ends.items ≤ place → (lines : List (List ℕ)) → HoldsLines old lines
    → HoldsLines new (take old.whole lines ++ lines_after before (bodies_in (drop old.whole lines)))
seal_is_done old new before chain place s all lines h =
    let k : ℕ = old.whole in
    let P : List (List ℕ) → Type 0 = λ x. HoldsLines new x in
    let range : slice_range lines k place ≡ drop k lines = take_all (place - k) (drop k lines) (omega (arith, length-drop k lines, all, h.count)) in
    let none : drop place lines ≡ [] = drop_all place lines (omega (arith, all, h.count)) in
    let its : sealed_to k place before lines ≡ take k lines ++ lines_after before (bodies_in (drop k lines)) =
    ap (λ (x : List (List ℕ)). take k lines ++ (lines_after before (bodies_in x) ++ drop place lines)) range
    ∙ ap (λ (x : List (List ℕ)). take k lines ++ (lines_after before (bodies_in (drop k lines)) ++ x)) none
    ∙ ap (λ (x : List (List ℕ)). take k lines ++ x) (append-nil (lines_after before (bodies_in (drop k lines)))) in
    subst P its (s.lines lines h).0
