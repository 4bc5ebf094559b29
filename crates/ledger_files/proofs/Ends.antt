-- Where the lines of a batch end.
use Rattle.std.proofs.Common.{◌≡◌, ℕ, zero, suc, refl, ◌+◌, ◌-◌, ◌<◌, ◌≤◌, List, [], ◌∷◌, ◌++◌, length, take, drop, get_or, sym, ap, ◌∙◌, ⊎_elim, append-nil, append_assoc, add-one, arith, length-append}
use Rattle.std.specs.List.{concat, slice_range}
use Rattle.std.proofs.Math.Seq.{drop-append_seam, get_or-append_seam, take-append_seam, take-suc}
use Rattle.std.specs.Prelude.{map}
use Rattle.std.proofs.lemmas.List.{ext_get_or, get_or_append_left, get_or-map, get_or-take, length-map, length-take, map-append, take-append-drop, take-append-le, take_all}
use Rattle.std.proofs.lemmas.List.Folds.{concat-append}
use Rattle.ledger_files.specs.declared.batch.Batch.{Batch}
use Rattle.sha2.specs.Sha256.{sha256}
use Rattle.ledger_files.specs.Batches.{AreLines, HoldsLines}
use Rattle.ledger_files.specs.Tails.{bodies_in, body_in}
use Rattle.ledger_files.proofs.Orders.{below_or_not}
use Rattle.ledger_files.proofs.Seals.{body_there}

abbrev AreEnds : List ℕ → List (List ℕ) → Type 0
AreEnds ends lines = (k : ℕ) → k < length lines → get_or ends k 0 ≡ length (concat (take (k + 1) lines))

pub joined : (octets line : List ℕ) (lines : List (List ℕ)) → octets ≡ concat lines → octets ++ line ≡ concat (lines ++ line ∷ [])
joined octets line lines e = rw e (sym (concat-append lines (line ∷ []) ∙ ap (λ l. concat lines ++ l) (append-nil line)))

pub lines_and_one : (lines : List (List ℕ)) (line : List ℕ) → concat (lines ++ line ∷ []) ≡ concat lines ++ line
lines_and_one lines line = concat-append lines (line ∷ []) ∙ ap (λ (x : List ℕ). concat lines ++ x) (append-nil line)

pub ends_with : (octets ends line : List ℕ) (lines : List (List ℕ)) → octets ≡ concat lines → length ends ≡ length lines → AreEnds ends lines
    → AreEnds (ends ++ length (octets ++ line) ∷ []) (lines ++ line ∷ [])
ends_with octets ends line lines e n before k l = ⊎_elim
    (λ (low : k < length lines).
    get_or_append_left ends (length (octets ++ line) ∷ []) 0 k (omega arith)
    ∙ before k low
    ∙ ap (λ xs. length (concat xs)) (sym (take-append-le (k + 1) lines (line ∷ []) (omega arith))))
    (λ (high : length lines ≤ k).
    let last : k ≡ length ends = omega (arith, length-append lines (line ∷ [])) in
    ap (λ i. get_or (ends ++ length (octets ++ line) ∷ []) i 0) last
    ∙ get_or-append_seam ends (length (octets ++ line)) [] 0
    ∙ ap length (joined octets line lines e)
    ∙ ap (λ xs. length (concat xs)) (sym (take_all (k + 1) (lines ++ line ∷ []) (omega (arith, length-append lines (line ∷ []))))))
    (below_or_not k (length lines))

pub start_stays : (lines : List (List ℕ)) (line : List ℕ) (whole : ℕ) → whole ≤ length lines
    → length (concat (take whole lines)) ≡ length (concat (take whole (lines ++ line ∷ [])))
start_stays lines line whole l = ap (λ xs. length (concat xs)) (sym (take-append-le whole lines (line ∷ []) l))

abbrev pub AreLong : List (List ℕ) → Type 0
AreLong lines = (k : ℕ) → k < length lines → 75 ≤ length (get_or lines k [])

long_more : (lines : List (List ℕ)) (line : List ℕ) → AreLong lines → 75 ≤ length line → AreLong (lines ++ line ∷ [])
long_more lines line h n k l = ⊎_elim
    (λ (low : k < length lines). omega (arith, h k low, ap length (get_or_append_left lines (line ∷ []) [] k low)))
    (λ (high : length lines ≤ k).
    let last : k ≡ length lines = omega (arith, length-append lines (line ∷ [])) in
    omega (arith, n, ap length (ap (λ i. get_or (lines ++ line ∷ []) i []) last ∙ get_or-append_seam lines line [] [])))
    (below_or_not k (length lines))

-- The first digests of lines are those of them and one more.
pub digests_stay : (digests lines : List (List ℕ)) (line : List ℕ) → digests ≡ take (length digests) (map sha256 (bodies_in lines))
    → digests ≡ take (length digests) (map sha256 (bodies_in (lines ++ line ∷ [])))
digests_stay digests lines line h =
    let n : ℕ = length digests in
    let its : List (List ℕ) = map sha256 (bodies_in lines) in
    let few : n ≤ length its = omega (arith, ap length h, length-take n its) in
    h ∙ sym (take-append-le n its (sha256 (body_in line) ∷ []) few)
    ∙ ap (take n) (sym (ap (map sha256) (map-append body_in lines (line ∷ [])) ∙ map-append sha256 (bodies_in lines) (body_in line ∷ [])))

pub holds_none : (new : Batch) → new.octets.items ≡ [] → new.ends.items ≡ [] → new.whole ≡ 0 → new.start ≡ 0 → new.digests.items ≡ [] → HoldsLines new []
holds_none new eo ee ew es ed = record {
  octets = eo;
  count = ap length ee;
  ends = λ k l. absurd (omega arith);
  some = omega arith;
  start = es ∙ ap (λ n. length (concat (take n []))) (sym ew);
  long = λ k l. absurd (omega arith);
  digests = ed ∙ ap (λ (ds : List (List ℕ)). take (length ds) (map sha256 (bodies_in []))) (sym ed);
}

pub holds_same : (old new : Batch) (lines : List (List ℕ)) → HoldsLines old lines → new.octets.items ≡ old.octets.items → new.ends.items ≡ old.ends.items → new.whole ≡ old.whole → new.start ≡ old.start → new.digests.items ≡ old.digests.items → HoldsLines new lines
holds_same old new lines h eo ee ew es ed = record {
  octets = eo ∙ h.octets;
  count = ap length ee ∙ h.count;
  ends = λ k l. ap (λ xs. get_or xs k 0) ee ∙ h.ends k l;
  some = omega (arith, h.some);
  start = es ∙ h.start ∙ ap (λ n. length (concat (take n lines))) (sym ew);
  long = h.long;
  digests = ed ∙ h.digests ∙ ap (λ (ds : List (List ℕ)). take (length ds) (map sha256 (bodies_in lines))) (sym ed);
}

-- All lines are digested.
pub holds_digested : (old new : Batch) (digests lines : List (List ℕ)) → HoldsLines old lines → new.octets.items ≡ old.octets.items → new.ends.items ≡ old.ends.items → new.whole ≡ old.whole → new.start ≡ old.start
    → new.digests.items ≡ digests → length digests ≡ length lines → ((k : ℕ) → k < length digests → get_or digests k [] ≡ sha256 (body_in (get_or lines k []))) → HoldsLines new lines
holds_digested old new digests lines h eo ee ew es ed n each = record {
  octets = eo ∙ h.octets;
  count = ap length ee ∙ h.count;
  ends = λ k l. ap (λ xs. get_or xs k 0) ee ∙ h.ends k l;
  some = omega (arith, h.some);
  start = es ∙ h.start ∙ ap (λ n. length (concat (take n lines))) (sym ew);
  long = h.long;
  digests =
      let bodies : List (List ℕ) = bodies_in lines in
      let many : length bodies ≡ length lines = length-map lines body_in in
      let count : length digests ≡ length (map sha256 bodies) = omega (arith, n, many, length-map bodies sha256) in
      ed ∙ ext_get_or [] digests (map sha256 bodies) count
      (λ k l. each k l ∙ ap sha256 (sym (get_or-map body_in lines k [] [] (omega (arith, n)))) ∙ sym (get_or-map sha256 bodies k [] [] (omega (arith, n, many))))
      ∙ sym (take_all (length digests) (map sha256 bodies) (omega (arith, count)))
      ∙ ap (λ (ds : List (List ℕ)). take (length ds) (map sha256 bodies)) (sym ed);
}

pub holds_more : (old new : Batch) (line : List ℕ) (lines : List (List ℕ)) → HoldsLines old lines → new.octets.items ≡ old.octets.items ++ line → new.ends.items ≡ old.ends.items ++ length (old.octets.items ++ line) ∷ []
    → new.whole ≡ old.whole → new.start ≡ old.start → new.digests.items ≡ old.digests.items → 75 ≤ length line → HoldsLines new (lines ++ line ∷ [])
holds_more old new line lines h eo ee ew es ed long = record {
  octets = eo ∙ joined old.octets.items line lines h.octets;
  count = omega (arith, ap length ee, length-append old.ends.items (length (old.octets.items ++ line) ∷ []), length-append lines (line ∷ []), h.count);
  ends = λ k l. ap (λ xs. get_or xs k 0) ee ∙ ends_with old.octets.items old.ends.items line lines h.octets h.count h.ends k l;
  some = omega (arith, length-append lines (line ∷ []), h.some);
  start = es ∙ h.start ∙ start_stays lines line old.whole h.some ∙ ap (λ n. length (concat (take n (lines ++ line ∷ [])))) (sym ew);
  long = long_more lines line h.long long;
  digests = ed ∙ digests_stay old.digests.items lines line h.digests ∙ ap (λ (ds : List (List ℕ)). take (length ds) (map sha256 (bodies_in (lines ++ line ∷ [])))) (sym ed);
}

pub holds_passed : (old new : Batch) (lines : List (List ℕ)) → HoldsLines old lines → new.octets.items ≡ old.octets.items → new.ends.items ≡ old.ends.items → old.whole < length old.ends.items
    → new.whole ≡ old.whole + 1 → new.start ≡ get_or old.ends.items old.whole 0 → new.digests.items ≡ old.digests.items → HoldsLines new lines
holds_passed old new lines h eo ee l ew es ed = record {
  octets = eo ∙ h.octets;
  count = ap length ee ∙ h.count;
  ends = λ k l. ap (λ xs. get_or xs k 0) ee ∙ h.ends k l;
  some = omega (arith, h.count);
  start = es ∙ h.ends old.whole (omega (arith, h.count)) ∙ ap (λ n. length (concat (take n lines))) (sym ew);
  long = h.long;
  digests = ed ∙ h.digests ∙ ap (λ (ds : List (List ℕ)). take (length ds) (map sha256 (bodies_in lines))) (sym ed);
}

-- Where one line is another one of the same length, lines end where they did.
same_ends : (n : ℕ) (front rest : List (List ℕ)) (x y : List ℕ) → length x ≡ length y → length (concat (take n (front ++ x ∷ rest))) ≡ length (concat (take n (front ++ y ∷ rest)))
same_ends zero front rest x y e = refl
same_ends (suc n) [] rest x y e = omega (arith, e, length-append x (concat (take n rest)), length-append y (concat (take n rest)))
same_ends (suc n) (f ∷ front) rest x y e =
    omega (arith, same_ends n front rest x y e, length-append f (concat (take n (front ++ x ∷ rest))), length-append f (concat (take n (front ++ y ∷ rest))))

same_count : (front rest : List (List ℕ)) (x y : List ℕ) → length (front ++ x ∷ rest) ≡ length (front ++ y ∷ rest)
same_count front rest x y = omega (arith, length-append front (x ∷ rest), length-append front (y ∷ rest))

same_long : (front rest : List (List ℕ)) (x y : List ℕ) → length x ≡ length y → (k : ℕ) → length (get_or (front ++ x ∷ rest) k []) ≡ length (get_or (front ++ y ∷ rest) k [])
same_long [] rest x y e zero = e
same_long [] rest x y e (suc k) = refl
same_long (f ∷ front) rest x y e zero = refl
same_long (f ∷ front) rest x y e (suc k) = same_long front rest x y e k

same_bodies : (front rest : List (List ℕ)) (x y : List ℕ) → body_in x ≡ body_in y → bodies_in (front ++ x ∷ rest) ≡ bodies_in (front ++ y ∷ rest)
same_bodies [] rest x y e = ap (λ (b : List ℕ). b ∷ bodies_in rest) e
same_bodies (f ∷ front) rest x y e = ap (λ (bs : List (List ℕ)). body_in f ∷ bs) (same_bodies front rest x y e)

pub around : (front rest : List (List ℕ)) (x : List ℕ) → concat (front ++ x ∷ rest) ≡ concat front ++ (x ++ concat rest)
around front rest x = concat-append front (x ∷ rest)

-- The line of a batch has another tail.
pub holds_sealed : (old new : Batch) (front rest : List (List ℕ)) (line tail : List ℕ) → HoldsLines old (front ++ line ∷ rest) → length tail ≡ 75
    → new.octets.items ≡ concat front ++ ((body_in line ++ tail) ++ concat rest) → new.ends.items ≡ old.ends.items → new.whole ≡ old.whole → new.start ≡ old.start → new.digests.items ≡ old.digests.items
    → HoldsLines new (front ++ (body_in line ++ tail) ∷ rest)
holds_sealed old new front rest line tail h n eo ee ew es ed =
    let its : List ℕ = body_in line ++ tail in
    let old_lines : List (List ℕ) = front ++ line ∷ rest in
    let lines : List (List ℕ) = front ++ its ∷ rest in
    let at : length front < length old_lines = omega (arith, length-append front (line ∷ rest)) in
    let room : 75 ≤ length line = omega (arith, h.long (length front) at, ap length (get_or-append_seam front line rest [])) in
    let long : length line ≡ length its = omega (arith, room, n, length-append (body_in line) tail, length-take (length line - 75) line) in
    let body : body_in line ≡ body_in its = sym (body_there (body_in line) tail n) in
    record {
      octets = eo ∙ sym (around front rest its);
      count = ap length ee ∙ h.count ∙ same_count front rest line its;
      ends = λ k l. ap (λ xs. get_or xs k 0) ee ∙ h.ends k (omega (arith, same_count front rest line its)) ∙ same_ends (k + 1) front rest line its long;
      some = omega (arith, h.some, same_count front rest line its);
      start = es ∙ h.start ∙ same_ends old.whole front rest line its long ∙ ap (λ m. length (concat (take m lines))) (sym ew);
      long = λ k l. omega (arith, h.long k (omega (arith, same_count front rest line its)), same_long front rest line its long k);
      digests = ed ∙ h.digests ∙ ap (λ (bs : List (List ℕ)). take (length old.digests.items) (map sha256 bs)) (same_bodies front rest line its body)
          ∙ ap (λ (ds : List (List ℕ)). take (length ds) (map sha256 (bodies_in lines))) (sym ed);
    }

-- The octets of a line, from where it begins to where it ends.
pub line_between : (all places : List ℕ) (lines : List (List ℕ)) (k from end : ℕ) → AreLines all places lines → k < length lines
    → from ≡ length (concat (take k lines)) → end ≡ get_or places k 0 → slice_range all from end ≡ get_or lines k []
line_between all places lines k from end h low from_is e =
    let line : List ℕ = get_or lines k [] in
    let firsts : take (k + 1) lines ≡ take k lines ++ line ∷ [] = rw add-one (take-suc lines k [] low) in
    let a : List ℕ = concat (take k lines) in
    let b : List ℕ = concat (drop (k + 1) lines) in
    let front : concat (take (k + 1) lines) ≡ a ++ line =
    ap concat firsts ∙ concat-append (take k lines) (line ∷ []) ∙ ap (λ (x : List ℕ). a ++ x) (append-nil line) in
    let end_is : end ≡ length a + length line = e ∙ h.ends k low ∙ ap length front ∙ length-append a line in
    let its : all ≡ a ++ (line ++ b) =
    h.octets ∙ ap concat (sym (take-append-drop (k + 1) lines)) ∙ concat-append (take (k + 1) lines) (drop (k + 1) lines)
    ∙ ap (λ (x : List ℕ). x ++ b) front ∙ append_assoc a line b in
    let count : end - from ≡ length line = omega (arith, end_is, from_is) in
    ap (λ (x : List ℕ). take (end - from) (drop from x)) its
    ∙ ap (λ (n : ℕ). take (end - from) (drop n (a ++ (line ++ b)))) from_is
    ∙ ap (take (end - from)) (drop-append_seam a (line ++ b))
    ∙ ap (λ (n : ℕ). take n (line ++ b)) count
    ∙ take-append_seam line b

-- A line begins where the one before it ends, and no line ends before it begins, or behind the octets.
pub begins_below : (all places : List ℕ) (lines : List (List ℕ)) (k : ℕ) → AreLines all places lines → k < length lines
    → length (concat (take k lines)) ≤ get_or places k 0
begins_below all places lines k h low =
    let line : List ℕ = get_or lines k [] in
    let firsts : take (k + 1) lines ≡ take k lines ++ line ∷ [] = rw add-one (take-suc lines k [] low) in
    let front : concat (take (k + 1) lines) ≡ concat (take k lines) ++ line =
    ap concat firsts ∙ concat-append (take k lines) (line ∷ []) ∙ ap (λ (x : List ℕ). concat (take k lines) ++ x) (append-nil line) in
    omega (arith, h.ends k low, ap length front, length-append (concat (take k lines)) line)

pub ends_within : (all places : List ℕ) (lines : List (List ℕ)) (k : ℕ) → AreLines all places lines → k < length lines
    → get_or places k 0 ≤ length all
ends_within all places lines k h low =
    omega (arith, h.ends k low, ap length h.octets, ap (λ xs. length (concat xs)) (take-append-drop (k + 1) lines), ap length (concat-append (take (k + 1) lines) (drop (k + 1) lines)), length-append (concat (take (k + 1) lines)) (concat (drop (k + 1) lines)))

pub begins_at : (all places : List ℕ) (lines : List (List ℕ)) (k start : ℕ) → AreLines all places lines → k < length lines
    → (k ≡ 0 → start ≡ 0) → (0 < k → start ≡ get_or places (k - 1) 0) → start ≡ length (concat (take k lines))
begins_at all places lines zero start h low first further = first refl
begins_at all places lines (suc k) start h low first further =
    let before : suc k - 1 ≡ k = omega arith in
    further (omega arith) ∙ ap (λ (n : ℕ). get_or places n 0) before ∙ h.ends k (omega (arith, low)) ∙ ap (λ (n : ℕ). length (concat (take n lines))) (add-one k)

pub lines_of_batch : (batch : Batch) (held : List (List ℕ)) → HoldsLines batch held → AreLines batch.octets.items batch.ends.items held
lines_of_batch batch held h = record { octets = h.octets; count = h.count; ends = h.ends }

-- The digest at the place of a line of a batch is that of its body.
pub digest_there : (batch : Batch) (held : List (List ℕ)) (digest : List ℕ) (place : ℕ) → HoldsLines batch held → place < length batch.digests.items
    → digest ≡ get_or batch.digests.items place [] → place < length held → digest ≡ sha256 (body_in (get_or held place []))
digest_there batch held digest place h there e low =
    e ∙ ap (λ (ds : List (List ℕ)). get_or ds place []) h.digests
    ∙ get_or-take (length batch.digests.items) (map sha256 (bodies_in held)) place [] there
    ∙ get_or-map sha256 (bodies_in held) place [] [] (omega (arith, low, length-map held body_in))
    ∙ ap sha256 (get_or-map body_in held place [] [] low)
