-- What each call leaves of a run.
use Rattle.std.proofs.Common.{◌≡◌, ℕ, zero, suc, ◌+◌, ◌-◌, ◌<◌, ◌≤◌, Bool, true, false, inl, inr, List, [], ◌∷◌, ◌++◌, Option, Some, None, Result, Ok, Err, MatchResult, length, take, drop, get_or, refl, sym, ap, ◌∙◌, subst, ⊎_elim, arith, length-append, length-drop, append-nil, add-one}
use Rattle.std.specs.Prelude.{IfSome, IsErrAnd, IsTrue, ◌↔◌}
use Rattle.std.specs.List.{concat, slice_range}
use Rattle.std.proofs.Math.Seq.{take-suc, drop-cons, drop-append-add, drop-append_seam, take-append_seam}
use Rattle.std.proofs.lemmas.List.{take-append-drop, drop-append-le, drop_all, get_or-drop, length-replicate, length-take, length-take-le, map-append}
use Rattle.std.proofs.lemmas.List.Folds.{concat-append}
use Rattle.ledger_files.specs.Batches.{HoldsLines}
use Rattle.ledger_files.specs.Chains.{chain_of}
use Rattle.ledger_files.specs.Files.{File, IsOpen, with_octets, wrote, made, synced, with_synced}
use Rattle.ledger_files.specs.Passing.{Passes, if_passed, newly_passed}
use Rattle.ledger_files.specs.Runs.{Part, Begun, IsLeft, IsOpenRun, IsRunOf, IsRunWith, begun_of, passed_of}
use Rattle.ledger_files.specs.Tails.{bodies_in, body_in, line_after, lines_after, no_tail, sum_after, text_after}
use Rattle.ledger_files.specs.declared.batch.Batch.{Batch}
use Rattle.ledger_files.specs.declared.pending.Pending.{Pending}
use Rattle.ledger_files.proofs.Ends.{lines_and_one, start_stays}
use Rattle.ledger_files.proofs.Seals.{body_there, line_long, lines_bodies}
use Rattle.ledger_files.proofs.Runs.{with_done, as_passed, opposed}
use Rattle.ledger_files.proofs.Chains.{line_more}
use Rattle.ledger_files.proofs.RunSteps.{first_step, first_passes, entries_step, end_step, end_passes, passed_step, begin_step, add_step, ended_step, synced_step, fresh}

-- ---- the lines of a batch

abbrev Keeps : Batch → Batch → Type 0
Keeps old new = (held : List (List ℕ)) → HoldsLines old held → HoldsLines new held

-- The lines that are not written whole are sealed behind this sum.
abbrev Seals : Batch → List ℕ → Batch → Type 0
Seals old sum new = (held : List (List ℕ)) → HoldsLines old held → HoldsLines new (take old.whole held ++ lines_after sum (bodies_in (drop old.whole held)))

held_split : (held : List (List ℕ)) (n : ℕ) → concat held ≡ concat (take n held) ++ concat (drop n held)
held_split held n = ap concat (sym (take-append-drop n held)) ∙ concat-append (take n held) (drop n held)

same_start : (old new : Batch) (held : List (List ℕ)) → HoldsLines old held → HoldsLines new held → new.whole ≡ old.whole → new.start ≡ old.start
same_start old new held o n w = n.start ∙ ap (λ (k : ℕ). length (concat (take k held))) w ∙ sym o.start

-- Sealed lines are as long as those that have their bodies.
text_long : (sum : List ℕ) (lines : List (List ℕ)) → ((k : ℕ) → k < length lines → 75 ≤ length (get_or lines k [])) → length (text_after sum (bodies_in lines)) ≡ length (concat lines)
text_long sum [] h = refl
text_long sum (line ∷ lines) h =
    let body : List ℕ = body_in line in
    let next : List ℕ = sum_after sum body in
    omega (
      arith,
      h 0 (omega arith),
      text_long next lines (λ k l. h (suc k) (omega (arith, l))),
      line_long sum body,
      length-take (length line - 75) line,
      length-append (line_after sum body) (text_after next (bodies_in lines)),
      length-append line (concat lines),
    )

module _ (old new : Batch) (left : List (List ℕ)) (written : ℕ) where
  left_written : (now : ℕ) → Keeps old new → old.done + now ≡ new.done + written → new.whole ≡ old.whole → IsLeft old left written → IsLeft new left now
  left_written now keeps sum w h =
      let start : new.start ≡ old.start = same_start old new h.held h.batch_is (keeps h.held h.batch_is) w in
      record {
        held = h.held;
        batch_is = keeps h.held h.batch_is;
        left_is = h.left_is ∙ ap (λ (k : ℕ). bodies_in (drop k h.held)) (sym w);
        written_is = omega (arith, h.written_is);
      }

  left_kept : Keeps old new → new.done ≡ old.done → new.whole ≡ old.whole → IsLeft old left written → IsLeft new left written
  left_kept keeps d w h = left_written written keeps (omega arith) w h

  left_again : Keeps old new → new.done ≡ old.start → new.whole ≡ old.whole → IsLeft old left written → IsLeft new left 0
  left_again keeps d w h = left_written 0 keeps (omega (arith, h.written_is)) w h

  left_added : (body : List ℕ) → ((held : List (List ℕ)) → HoldsLines old held → HoldsLines new (held ++ (body ++ no_tail) ∷ [])) → new.done ≡ old.done → new.whole ≡ old.whole
      → IsLeft old left written → IsLeft new (left ++ body ∷ []) written
  left_added body adds d w h =
      let line : List ℕ = body ++ no_tail in
      let start : new.start ≡ old.start =
      (adds h.held h.batch_is).start ∙ ap (λ (k : ℕ). length (concat (take k (h.held ++ line ∷ [])))) w
      ∙ sym (start_stays h.held line old.whole h.batch_is.some) ∙ sym h.batch_is.start in
      record {
        held = h.held ++ line ∷ [];
        batch_is = adds h.held h.batch_is;
        left_is = ap (λ (x : List (List ℕ)). x ++ body ∷ []) h.left_is
            ∙ ap (λ (x : List ℕ). bodies_in (drop old.whole h.held) ++ x ∷ []) (sym (body_there body no_tail (length-replicate {A = ℕ} 75 0)))
            ∙ sym (map-append body_in (drop old.whole h.held) (line ∷ []))
            ∙ ap bodies_in (sym (drop-append-le old.whole h.held (line ∷ []) h.batch_is.some))
            ∙ ap (λ (k : ℕ). bodies_in (drop k (h.held ++ line ∷ []))) (sym w);
        written_is = omega (arith, h.written_is);
      }

  left_long : (sum : List ℕ) → (h : IsLeft old left written) → length (text_after sum left) ≡ length (concat (drop old.whole h.held))
  left_long sum h =
      ap (λ (x : List (List ℕ)). length (text_after sum x)) h.left_is
      ∙ text_long sum (drop old.whole h.held) (λ k l.
      omega (arith, h.batch_is.long (old.whole + k) (omega (arith, l, length-drop old.whole h.held)), ap length (get_or-drop old.whole h.held k [])))

  written_within : (sum : List ℕ) → old.done ≤ length old.octets.items → IsLeft old left written → written ≤ length (text_after sum left)
  written_within sum l h =
      let all : length old.octets.items ≡ length (concat (take old.whole h.held)) + length (concat (drop old.whole h.held)) =
      ap length (h.batch_is.octets ∙ held_split h.held old.whole) ∙ length-append (concat (take old.whole h.held)) (concat (drop old.whole h.held)) in
      omega (arith, h.batch_is.start, h.written_is, all, left_long sum h)

  -- Once all lines are passed, none is left.
  none_left : old.whole ≡ length old.ends.items → IsLeft old left written → left ≡ []
  none_left all h = h.left_is ∙ ap bodies_in (drop_all old.whole h.held (omega (arith, all, h.batch_is.count)))

-- A batch whose lines that are left are sealed.
record SealedLeft (batch : Batch) (sum : List ℕ) (left : List (List ℕ)) (written : ℕ) : Type 0 where
  left_is : IsLeft batch left written
  lines_are : drop batch.whole left_is.held ≡ lines_after sum left

-- Their bodies are the same.
pub kept_bodies : (old sealed new : Batch) (sum : List ℕ) → Seals old sum sealed → Keeps sealed new → (lines : List (List ℕ)) → HoldsLines old lines
    → (its : List (List ℕ)) × HoldsLines new its × (bodies_in its ≡ bodies_in lines)
kept_bodies old sealed new sum seals keeps lines h =
    let front : List (List ℕ) = take old.whole lines in
    let behind : List (List ℕ) = drop old.whole lines in
    let its : List (List ℕ) = front ++ lines_after sum (bodies_in behind) in (
      its,
      keeps its (seals lines h),
      map-append body_in front (lines_after sum (bodies_in behind))
          ∙ ap (λ (x : List (List ℕ)). bodies_in front ++ x) (lines_bodies sum (bodies_in behind))
          ∙ sym (map-append body_in front behind)
          ∙ ap bodies_in (take-append-drop old.whole lines),
    )

left_seals : (old new : Batch) (sum : List ℕ) (left : List (List ℕ)) (written : ℕ) → Seals old sum new → new.done ≡ old.done → new.whole ≡ old.whole → IsLeft old left written → SealedLeft new sum left written
left_seals old new sum left written seals d w h =
    let front : List (List ℕ) = take old.whole h.held in
    let rest : List (List ℕ) = lines_after sum (bodies_in (drop old.whole h.held)) in
    let held : List (List ℕ) = front ++ rest in
    let is : HoldsLines new held = seals h.held h.batch_is in
    let count : length front ≡ old.whole = length-take-le old.whole h.held h.batch_is.some in
    let behind : drop new.whole held ≡ rest = ap (λ (k : ℕ). drop k held) (w ∙ sym count) ∙ drop-append_seam front rest in
    let before : take new.whole held ≡ front = ap (λ (k : ℕ). take k held) (w ∙ sym count) ∙ take-append_seam front rest in
    let start : new.start ≡ old.start = is.start ∙ ap (λ (x : List (List ℕ)). length (concat x)) before ∙ sym h.batch_is.start in
    let its : drop new.whole held ≡ lines_after sum left = behind ∙ ap (lines_after sum) (sym h.left_is) in
    record {
      left_is = record {
        held = held;
        batch_is = is;
        left_is = sym (ap bodies_in its ∙ lines_bodies sum left);
        written_is = omega (arith, h.written_is);
      };
      lines_are = its;
    }

module _ (old new : Batch) (sum : List ℕ) (left : List (List ℕ)) (written : ℕ) where
  -- What is written of the batch's octets is written of the lines that are left.
  same_range : (now : ℕ) → new.done ≡ old.start + now → SealedLeft old sum left written
      → slice_range old.octets.items old.done new.done ≡ slice_range (text_after sum left) written now
  same_range now d s =
      let h = s.left_is in
      let a = concat (take old.whole h.held) in let b = concat (drop old.whole h.held) in
      let octets : old.octets.items ≡ a ++ b = h.batch_is.octets ∙ held_split h.held old.whole in
      let place : old.done ≡ length a + written = sym h.written_is ∙ ap (λ (k : ℕ). k + written) h.batch_is.start in
      let count : new.done - old.done ≡ now - written = omega (arith, h.written_is) in
      let behind : drop old.done old.octets.items ≡ drop written (text_after sum left) =
      ap (drop old.done) octets ∙ ap (λ (k : ℕ). drop k (a ++ b)) place ∙ drop-append-add a b written
      ∙ ap (λ (x : List (List ℕ)). drop written (concat x)) s.lines_are in
      ap (λ (k : ℕ). take k (drop old.done old.octets.items)) count ∙ ap (take (now - written)) behind

-- The next line is passed.
record Passed (old new : Batch) (left : List (List ℕ)) (written : ℕ) : Type 0 where
  held : List (List ℕ)
  held_is : HoldsLines old held
  body : List ℕ
  body_is : body ≡ body_in (get_or held old.whole [])
  more : List (List ℕ)
  now : ℕ
  left_is : left ≡ body ∷ more
  sum : length body + 75 + now ≡ written
  batch_is : IsLeft new more now

left_passed : (old new : Batch) (left : List (List ℕ)) (written : ℕ) → Keeps old new → new.done ≡ old.done → new.whole ≡ old.whole + 1 → old.whole < length old.ends.items
    → get_or old.ends.items old.whole 0 ≤ old.done → IsLeft old left written → Passed old new left written
left_passed old new left written keeps d w some end h =
    let k : ℕ = old.whole in
    let line : List ℕ = get_or h.held k [] in
    let low : k < length h.held = omega (arith, h.batch_is.count) in
    let long : length (body_in line) + 75 ≡ length line = omega (arith, h.batch_is.long k low, length-take (length line - 75) line) in
    let behind : drop k h.held ≡ line ∷ drop (k + 1) h.held = rw add-one (drop-cons h.held k [] low) in
    let lines : take (k + 1) h.held ≡ take k h.held ++ line ∷ [] = rw add-one (take-suc h.held k [] low) in
    let sum : length (concat (take (k + 1) h.held)) ≡ length (concat (take k h.held)) + length line =
    ap (λ (x : List (List ℕ)). length (concat x)) lines ∙ ap length (lines_and_one (take k h.held) line) ∙ length-append (concat (take k h.held)) line in
    let new_is : HoldsLines new h.held = keeps h.held h.batch_is in
    let start : new.start ≡ length (concat (take (k + 1) h.held)) = new_is.start ∙ ap (λ (n : ℕ). length (concat (take n h.held))) w in
    let ends : get_or old.ends.items k 0 ≡ length (concat (take (k + 1) h.held)) = h.batch_is.ends k low in
    record {
      held = h.held;
      held_is = h.batch_is;
      body = body_in line;
      body_is = refl;
      more = bodies_in (drop (k + 1) h.held);
      now = new.done - new.start;
      left_is = h.left_is ∙ ap bodies_in behind;
      sum = omega (arith, h.written_is, h.batch_is.start, long, sum, start, ends, end, d);
      batch_is = record {
        held = h.held;
        batch_is = new_is;
        left_is = ap (λ (n : ℕ). bodies_in (drop n h.held)) (sym w);
        written_is = omega (arith, start, ends, end, d);
      };
    }

-- ---- calls

abbrev Fits : Batch → Type 0
Fits batch = batch.done ≤ length batch.octets.items

abbrev Of : Option (List File) → Pending → Batch → Pending → List ℕ → List (List ℕ) → Type 0
Of files first batch last sum lines = IfSome files (λ fs. IsRunOf fs first batch last sum lines)

-- What a chain is behind the next line, where it is that of the lines before.
abbrev Goes : List ℕ → List ℕ → List (List ℕ) → Type 0
Goes sum next more = (lines : List (List ℕ)) → sum ≡ chain_of lines → next ≡ chain_of (lines ++ more)

-- What is not empty has octets.
pub has_some : (b : Bool) (n : ℕ) → (IsTrue b ↔ (n ≡ 0)) → b ≡ false → 0 < n
has_some b zero f e = absurd (opposed b (f.1 refl) e)
has_some b (suc n) f e = omega arith

none_of : (xs : List ℕ) → length xs ≡ 0 → xs ≡ []
none_of [] e = refl
none_of (x ∷ xs) e = absurd (omega arith)

-- How far a line is written, by its parts.
begun_same : (a b : Begun) → a.octets ≡ b.octets → a.done ≡ b.done → a.is_passed ≡ b.is_passed → a ≡ b
begun_same a b o d p =
    let f : List ℕ → Begun = λ x. record { octets = x; done = a.done; is_passed = a.is_passed } in
    let g : ℕ → Begun = λ n. record { octets = b.octets; done = n; is_passed = a.is_passed } in
    let k : Bool → Begun = λ c. record { octets = b.octets; done = b.done; is_passed = c } in
    ap f o ∙ ap g d ∙ ap k p

-- The sum is another one of the same lines.
with_sum : (files : List File) (first : Begun) (left : List (List ℕ)) (written : ℕ) (last : Begun) (sum next : List ℕ) (lines : List (List ℕ))
    → ((its : List (List ℕ)) → sum ≡ chain_of its → next ≡ chain_of its) → IsRunWith files first left written last sum lines → IsRunWith files first left written last next lines
with_sum files first left written last sum next lines g h =
    record { parts = h.parts; lines_are = h.lines_are; files_are = h.files_are; open_is = h.open_is; sum_is = g (passed_of h.parts) h.sum_is }

-- The first line is written whole where it was passed.
first_is_done : (files : List File) (parts : List Part) (first : Begun) (left : List (List ℕ)) (written : ℕ) (last : Begun) → IsOpen files → IsOpenRun files parts first left written last
    → first.is_passed ≡ true → first.done ≡ length first.octets
first_is_done [] parts first left written last opens o t = absurd opens
first_is_done (file ∷ older) [] first left written last opens o t = absurd o
first_is_done (file ∷ older) (part ∷ parts) first left written last opens o t = ⊎_elim
    (λ (all : (first.is_passed ≡ true) × (first.done ≡ length first.octets)). all.1)
    (λ (none : (first.is_passed ≡ false) × (part.lines ≡ []) × (written ≡ 0) × (last.octets ≡ [])). absurd (opposed first.is_passed t none.0))
    o.in_order

pub batch_kept : (files : Option (List File)) (first : Pending) (old new : Batch) (last : Pending) (sum : List ℕ) (lines : List (List ℕ)) → Keeps old new → new.done ≡ old.done → new.whole ≡ old.whole
    → Of files first old last sum lines → Of files first new last sum lines
batch_kept None first old new last sum lines keeps d w h = h
batch_kept (Some fs) first old new last sum lines keeps d w h = record {
  left = h.left;
  written = h.written;
  batch_is = left_kept old new h.left h.written keeps d w h.batch_is;
  run_is = h.run_is;
}

-- A call that failed leaves what was there.
pub left_as_is : {T E : Type 0} (result : Result T E) (P : T → Type 0) (Q : Type 0) (fault : E) → IsErrAnd result (λ f. f ≡ fault) → Q → MatchResult result P (λ _. Q)
left_as_is (Ok x) P Q fault e q = absurd e
left_as_is (Err f) P Q fault e q = q

pub none_passed : (files : Option (List File)) (first : Pending) (old new : Batch) (last : Pending) (sum next : List ℕ) (lines : List (List ℕ)) → next ≡ sum → Keeps old new → new.done ≡ old.done → new.whole ≡ old.whole
    → Of files first old last sum lines → Of files first new last next lines
none_passed files first old new last sum next lines e keeps d w h =
    subst (λ (x : List ℕ). Of files first new last x lines) (sym e) (batch_kept files first old new last sum lines keeps d w h)

pub added : (files : Option (List File)) (first : Pending) (old new : Batch) (last : Pending) (sum : List ℕ) (lines : List (List ℕ)) (body : List ℕ) → length last.octets.items ≡ 0 → Fits old
    → ((held : List (List ℕ)) → HoldsLines old held → HoldsLines new (held ++ (body ++ no_tail) ∷ [])) → new.done ≡ old.done → new.whole ≡ old.whole
    → Of files first old last sum lines → Of files first new last sum (lines ++ body ∷ [])
added None first old new last sum lines body none fits adds d w h = h
added (Some fs) first old new last sum lines body none fits adds d w h = record {
  left = h.left ++ body ∷ [];
  written = h.written;
  batch_is = left_added old new h.left h.written body adds d w h.batch_is;
  run_is = add_step fs (begun_of first) h.left h.written (begun_of last) sum lines body (none_of last.octets.items none) (written_within old new h.left h.written sum fits h.batch_is) h.run_is;
}

pub ended : (files : Option (List File)) (first : Pending) (batch : Batch) (old new : Pending) (sum : List ℕ) (lines : List (List ℕ)) (body : List ℕ) → length old.octets.items ≡ 0 → first.is_passed ≡ true
    → batch.whole ≡ length batch.ends.items → new.octets.items ≡ line_after sum body → new.done ≡ 0 → new.is_passed ≡ false
    → Of files first batch old sum lines → Of files first batch new sum lines
ended None first batch old new sum lines body none t d o e p h = h
ended (Some fs) first batch old new sum lines body none t d o e p h =
    let its : Begun = fresh (line_after sum body) in
    let same : its ≡ begun_of new = begun_same its (begun_of new) (sym o) (sym e) (sym p) in
    let P : Begun → Type 0 = λ b. IsRunWith fs (begun_of first) h.left h.written b sum lines in
    record {
      left = h.left;
      written = h.written;
      batch_is = h.batch_is;
      run_is = subst P same (ended_step fs (begun_of first) h.left h.written (begun_of old) sum lines body (none_of old.octets.items none) t (none_left batch batch h.left h.written d h.batch_is) h.run_is);
    }

pub begun : (before after : Option (List File)) (path body : List ℕ) (first next : Pending) (old new : Batch) (last none : Pending) (sum : List ℕ) (lines : List (List ℕ)) → after ≡ made before path
    → next.octets.items ≡ line_after sum body → next.done ≡ 0 → next.is_passed ≡ false → Keeps old new → new.done ≡ old.start → new.whole ≡ old.whole → none.octets.items ≡ [] → none.done ≡ 0 → none.is_passed ≡ false
    → Of before first old last sum lines → Of after next new none sum lines
begun None after path body first next old new last none sum lines e f n m keeps d w o z q h = let P : Option (List File) → Type 0 = λ x. Of x next new none sum lines in subst P (sym e) h
begun (Some fs) after path body first next old new last none sum lines e f n m keeps d w o z q h =
    let P : Option (List File) → Type 0 = λ x. Of x next new none sum lines in
    let to : List File = record { path = path; octets = []; synced = 0 } ∷ fs in
    let its : Begun = fresh (line_after sum body) in
    let first_is : its ≡ begun_of next = begun_same its (begun_of next) (sym f) (sym n) (sym m) in
    let last_is : fresh [] ≡ begun_of none = begun_same (fresh []) (begun_of none) (sym o) (sym z) (sym q) in
    let Q : Begun → Type 0 = λ b. IsRunWith to b h.left 0 (fresh []) sum lines in
    let R : Begun → Type 0 = λ b. IsRunWith to (begun_of next) h.left 0 b sum lines in
    let step = begin_step fs (begun_of first) h.left h.written (begun_of last) sum lines path body h.run_is in
    let is : IsRunOf to next new none sum lines = record {
      left = h.left;
      written = 0;
      batch_is = left_again old new h.left h.written keeps d w h.batch_is;
      run_is = subst R last_is (subst Q first_is step);
    } in
    subst P (sym e) is

pub is_open : (files : Option (List File)) (b : Bool) → IfSome files (λ fs. IsTrue b ↔ IsOpen fs) → IsTrue b → IfSome files (λ fs. IsOpen fs)
is_open None b e t = e
is_open (Some fs) b e t = e.0 t

still_open : (fs : List File) (octets : List ℕ) → IsOpen fs → IsOpen (with_octets fs octets)
still_open [] octets o = o
still_open (file ∷ older) octets o = tt

pub open_after : (before after : Option (List File)) (octets : List ℕ) → after ≡ wrote before octets → IfSome before (λ fs. IsOpen fs) → IfSome after (λ fs. IsOpen fs)
open_after None after octets e o = let P : Option (List File) → Type 0 = λ x. IfSome x (λ fs. IsOpen fs) in subst P (sym e) o
open_after (Some fs) after octets e o = let P : Option (List File) → Type 0 = λ x. IfSome x (λ fs. IsOpen fs) in subst P (sym e) (still_open fs octets o)

pub first_wrote : (before after : Option (List File)) (old new : Pending) (batch : Batch) (last : Pending) (sum : List ℕ) (lines : List (List ℕ)) → IfSome before (λ fs. IsOpen fs)
    → after ≡ wrote before (slice_range old.octets.items old.done new.done) → new.octets.items ≡ old.octets.items → new.is_passed ≡ old.is_passed → old.done ≤ new.done → new.done ≤ length old.octets.items
    → Of before old batch last sum lines → Of after new batch last sum lines
first_wrote None after old new batch last sum lines opens e o p l k h = let P : Option (List File) → Type 0 = λ x. Of x new batch last sum lines in subst P (sym e) h
first_wrote (Some fs) after old new batch last sum lines opens e o p l k h =
    let P : Option (List File) → Type 0 = λ x. Of x new batch last sum lines in
    let to : List File = with_octets fs (slice_range old.octets.items old.done new.done) in
    let same : with_done (begun_of old) new.done ≡ begun_of new = begun_same (with_done (begun_of old) new.done) (begun_of new) (sym o) refl (sym p) in
    let Q : Begun → Type 0 = λ b. IsRunWith to b h.left h.written (begun_of last) sum lines in
    let is : IsRunOf to new batch last sum lines = record {
      left = h.left;
      written = h.written;
      batch_is = h.batch_is;
      run_is = subst Q same (first_step (begun_of old) h.left h.written (begun_of last) sum lines new.done fs opens l k h.run_is);
    } in
    subst P (sym e) is

-- A line is passed, where it is written whole and was not passed before: what is so of it and of the chain of the lines before is so of it and of
-- the chain with it. That is told by what another chain of the same lines leaves so, by the lines before, and by what leaves it so that it passes.
module _ (old new : Pending) (sum next : List ℕ) (Q : Begun → List ℕ → Type 0) (p : Passes old new) (g : Goes sum next (newly_passed old new)) where
  stays : (((its : List (List ℕ)) → sum ≡ chain_of its → next ≡ chain_of its) → Q (begun_of old) sum → Q (begun_of old) next)
      → old.is_passed ≡ new.is_passed → newly_passed old new ≡ [] → Q (begun_of old) sum → Q (begun_of new) next
  stays again e nothing h =
      let same : begun_of old ≡ begun_of new = begun_same (begun_of old) (begun_of new) (ap (λ v. v.items) (sym p.octets)) (sym p.done) e in
      let P : Begun → Type 0 = λ b. Q b next in
      subst P same (again (λ its s. g its s ∙ ap (λ (x : List (List ℕ)). chain_of (its ++ x)) nothing ∙ ap chain_of (append-nil its)) h)

  passed_as : (((its : List (List ℕ)) → sum ≡ chain_of its → next ≡ chain_of its) → Q (begun_of old) sum → Q (begun_of old) next)
      → (Q (begun_of old) sum → (its : List (List ℕ)) × (sum ≡ chain_of its))
      → (old.is_passed ≡ false → old.done ≡ length old.octets.items → next ≡ sum_after sum (body_in old.octets.items) → Q (begun_of old) sum → Q (as_passed (begun_of old)) next)
      → (b c : Bool) → old.is_passed ≡ b → new.is_passed ≡ c → Q (begun_of old) sum → Q (begun_of new) next
  passed_as again before passes true true e f h = stays again (e ∙ sym f) (ap (λ (b : Bool). if_passed b new.is_passed new.octets.items) e) h
  passed_as again before passes false false e f h =
      stays again (e ∙ sym f) (ap (λ (b : Bool). if_passed old.is_passed b new.octets.items) f ∙ ap (λ (b : Bool). if_passed b false new.octets.items) e) h
  passed_as again before passes true false e f h = absurd (opposed new.is_passed (p.passed.1 (inl e)) f)
  passed_as again before passes false true e f h =
      let done : old.done ≡ length old.octets.items = ⊎_elim (λ (was : IsTrue old.is_passed). absurd (opposed old.is_passed was e)) (λ (d : old.done ≡ length old.octets.items). d) (p.passed.0 f) in
      let its : newly_passed old new ≡ body_in old.octets.items ∷ [] =
      ap (λ (b : Bool). if_passed b new.is_passed new.octets.items) e ∙ ap (λ (b : Bool). if_passed false b new.octets.items) f ∙ ap (λ v. body_in v.items ∷ []) p.octets in
      let same : as_passed (begun_of old) ≡ begun_of new =
      begun_same (as_passed (begun_of old)) (begun_of new) (ap (λ v. v.items) (sym p.octets)) (sym p.done) (sym f) in
      let P : Begun → Type 0 = λ b. Q b next in
      let lines : List (List ℕ) = (before h).0 in
      let sum_is : sum ≡ chain_of lines = (before h).1 in
      let more : next ≡ sum_after sum (body_in old.octets.items) =
      g lines sum_is ∙ ap (λ (x : List (List ℕ)). chain_of (lines ++ x)) its
      ∙ line_more lines (body_in old.octets.items) ∙ ap (λ (x : List ℕ). sum_after x (body_in old.octets.items)) (sym sum_is) in
      subst P same (passes e done more h)

pub first_passes_now : (files : Option (List File)) (old new : Pending) (batch : Batch) (last : Pending) (sum next : List ℕ) (lines : List (List ℕ)) → IfSome files (λ fs. IsOpen fs)
    → Passes old new → Goes sum next (newly_passed old new) → Of files old batch last sum lines → Of files new batch last next lines
first_passes_now None old new batch last sum next lines opens p g h = h
first_passes_now (Some fs) old new batch last sum next lines opens p g h = record {
  left = h.left;
  written = h.written;
  batch_is = h.batch_is;
  run_is =
      passed_as old new sum next (λ b s. IsRunWith fs b h.left h.written (begun_of last) s lines) p g
      (with_sum fs (begun_of old) h.left h.written (begun_of last) sum next lines) (λ r. (passed_of r.parts, r.sum_is))
      (first_passes (begun_of old) h.left h.written (begun_of last) sum next lines fs opens) old.is_passed new.is_passed refl refl h.run_is;
}

pub entries_wrote : (before after : Option (List File)) (first : Pending) (old sealed new : Batch) (last : Pending) (sum : List ℕ) (lines : List (List ℕ)) → IfSome before (λ fs. IsOpen fs) → first.is_passed ≡ true
    → Seals old sum sealed → sealed.done ≡ old.done → sealed.whole ≡ old.whole
    → after ≡ wrote before (slice_range sealed.octets.items sealed.done new.done) → Keeps sealed new → sealed.done ≤ new.done → Fits new → new.whole ≡ sealed.whole
    → Of before first old last sum lines → Of after first new last sum lines
entries_wrote None after first old sealed new last sum lines opens t seals sd sw e keeps l fits w h = let P : Option (List File) → Type 0 = λ x. Of x first new last sum lines in subst P (sym e) h
entries_wrote (Some fs) after first old sealed new last sum lines opens t seals sd sw e keeps l fits w h =
    let P : Option (List File) → Type 0 = λ x. Of x first new last sum lines in
    let now : ℕ = h.written + (new.done - sealed.done) in
    let to : List File = with_octets fs (slice_range (text_after sum h.left) h.written now) in
    let its : SealedLeft sealed sum h.left h.written = left_seals old sealed sum h.left h.written seals sd sw h.batch_is in
    let range : slice_range sealed.octets.items sealed.done new.done ≡ slice_range (text_after sum h.left) h.written now =
    same_range sealed new sum h.left h.written now (omega (arith, its.left_is.written_is)) its in
    let new_left : IsLeft new h.left now = left_written sealed new h.left h.written now keeps (omega arith) w its.left_is in
    let all : first.done ≡ length first.octets.items = first_is_done fs h.run_is.parts (begun_of first) h.left h.written (begun_of last) opens h.run_is.open_is t in
    let is : IsRunOf to first new last sum lines = record {
      left = h.left;
      written = now;
      batch_is = new_left;
      run_is = entries_step (begun_of first) h.left h.written (begun_of last) sum lines now fs opens t all (omega arith) (written_within new new h.left now sum fits new_left) h.run_is;
    } in
    subst P (sym (e ∙ ap (λ (x : List ℕ). Some (with_octets fs x)) range)) is

-- The line that begins the file is written, and passed where it is whole, and then the lines of entries are written.
module _ (before middle : Option (List File)) (old wrote_to new : Pending) (batch : Batch) (last : Pending) (sum next : List ℕ) (lines : List (List ℕ)) where
  pub first_written : IfSome before (λ fs. IsOpen fs) → middle ≡ wrote before (slice_range old.octets.items old.done wrote_to.done) → wrote_to.octets.items ≡ old.octets.items → wrote_to.is_passed ≡ old.is_passed
      → old.done ≤ wrote_to.done → wrote_to.done ≤ length wrote_to.octets.items → Passes wrote_to new → Goes sum next (newly_passed wrote_to new) → Of before old batch last sum lines → Of middle new batch last next lines
  first_written opens e o was l k p g h =
      let within : wrote_to.done ≤ length old.octets.items = omega (arith, k, ap length o) in
      first_passes_now middle wrote_to new batch last sum next lines (open_after before middle _ e opens) p g
      (first_wrote before middle old wrote_to batch last sum lines opens e o was l within h)

  pub both_written : (after : Option (List File)) (sealed to : Batch) → IfSome before (λ fs. IsOpen fs) → middle ≡ wrote before (slice_range old.octets.items old.done wrote_to.done) → wrote_to.octets.items ≡ old.octets.items
      → wrote_to.is_passed ≡ old.is_passed → old.done ≤ wrote_to.done → wrote_to.done ≡ length old.octets.items → Passes wrote_to new → Goes sum next (newly_passed wrote_to new)
      → Seals batch next sealed → sealed.done ≡ batch.done → sealed.whole ≡ batch.whole
      → after ≡ wrote middle (slice_range sealed.octets.items sealed.done to.done) → Keeps sealed to → sealed.done ≤ to.done → Fits to → to.whole ≡ sealed.whole → Of before old batch last sum lines → Of after new to last next lines
  both_written after sealed to opens e o was l all p g seals sd sw e2 keeps m fits w h =
      let whole : wrote_to.done ≡ length wrote_to.octets.items = omega (arith, all, ap length o) in
      entries_wrote middle after new batch sealed to last next lines (open_after before middle _ e opens) (p.passed.1 (inr whole)) seals sd sw e2 keeps m fits w
      (first_written opens e o was l (omega (arith, whole)) p g h)

pub end_wrote : (before after : Option (List File)) (first : Pending) (batch : Batch) (old new : Pending) (sum : List ℕ) (lines : List (List ℕ)) → IfSome before (λ fs. IsOpen fs) → first.is_passed ≡ true
    → batch.whole ≡ length batch.ends.items → after ≡ wrote before (slice_range old.octets.items old.done new.done) → new.octets.items ≡ old.octets.items → new.is_passed ≡ old.is_passed
    → old.done ≤ new.done → new.done ≤ length old.octets.items → Of before first batch old sum lines → Of after first batch new sum lines
end_wrote None after first batch old new sum lines opens t d e o p l k h = let P : Option (List File) → Type 0 = λ x. Of x first batch new sum lines in subst P (sym e) h
end_wrote (Some fs) after first batch old new sum lines opens t d e o p l k h =
    let P : Option (List File) → Type 0 = λ x. Of x first batch new sum lines in
    let to : List File = with_octets fs (slice_range old.octets.items old.done new.done) in
    let same : with_done (begun_of old) new.done ≡ begun_of new = begun_same (with_done (begun_of old) new.done) (begun_of new) (sym o) refl (sym p) in
    let Q : Begun → Type 0 = λ b. IsRunWith to (begun_of first) h.left h.written b sum lines in
    let all : first.done ≡ length first.octets.items = first_is_done fs h.run_is.parts (begun_of first) h.left h.written (begun_of old) opens h.run_is.open_is t in
    let is : IsRunOf to first batch new sum lines = record {
      left = h.left;
      written = h.written;
      batch_is = h.batch_is;
      run_is = subst Q same (end_step (begun_of first) h.left h.written (begun_of old) sum lines new.done fs opens t all (none_left batch batch h.left h.written d h.batch_is) l k h.run_is);
    } in
    subst P (sym e) is

pub end_passes_now : (files : Option (List File)) (first : Pending) (batch : Batch) (old new : Pending) (sum next : List ℕ) (lines : List (List ℕ)) → IfSome files (λ fs. IsOpen fs) → first.is_passed ≡ true
    → batch.whole ≡ length batch.ends.items → 0 < length old.octets.items → Passes old new → Goes sum next (newly_passed old new)
    → Of files first batch old sum lines → Of files first batch new next lines
end_passes_now None first batch old new sum next lines opens t d some p g h = h
end_passes_now (Some fs) first batch old new sum next lines opens t d some p g h = record {
  left = h.left;
  written = h.written;
  batch_is = h.batch_is;
  run_is =
      passed_as old new sum next (λ b s. IsRunWith fs (begun_of first) h.left h.written b s lines) p g
      (with_sum fs (begun_of first) h.left h.written (begun_of old) sum next lines) (λ r. (passed_of r.parts, r.sum_is))
      (λ e done more r. end_passes (begun_of first) h.left h.written (begun_of old) sum next lines fs opens t e (none_left batch batch h.left h.written d h.batch_is) done some more r)
      old.is_passed new.is_passed refl refl h.run_is;
}

pub passed : (files : Option (List File)) (first : Pending) (old new : Batch) (last : Pending) (sum next : List ℕ) (lines : List (List ℕ)) → IfSome files (λ fs. IsOpen fs) → first.is_passed ≡ true
    → Keeps old new → new.done ≡ old.done → new.whole ≡ old.whole + 1 → old.whole < length old.ends.items → get_or old.ends.items old.whole 0 ≤ old.done
    → ((held : List (List ℕ)) → HoldsLines old held → Goes sum next (body_in (get_or held old.whole []) ∷ []))
    → Of files first old last sum lines → Of files first new last next lines
passed None first old new last sum next lines opens t keeps d w some end g h = h
passed (Some fs) first old new last sum next lines opens t keeps d w some end g h =
    let p : Passed old new h.left h.written = left_passed old new h.left h.written keeps d w some end h.batch_is in
    let P : List (List ℕ) → Type 0 = λ x. IsRunWith fs (begun_of first) x h.written (begun_of last) sum lines in
    let all : first.done ≡ length first.octets.items = first_is_done fs h.run_is.parts (begun_of first) h.left h.written (begun_of last) opens h.run_is.open_is t in
    let body : List ℕ = body_in (get_or p.held old.whole []) in
    let its : List (List ℕ) = passed_of h.run_is.parts in
    let more : next ≡ sum_after sum p.body =
    g p.held p.held_is its h.run_is.sum_is ∙ line_more its body
    ∙ ap (λ (x : List ℕ). sum_after (chain_of its) x) (sym p.body_is) ∙ ap (λ (x : List ℕ). sum_after x p.body) (sym h.run_is.sum_is) in
    record {
      left = p.more;
      written = p.now;
      batch_is = p.batch_is;
      run_is = passed_step (begun_of first) p.body p.more h.written (begun_of last) sum next lines p.now fs opens t all p.sum more (subst P p.left_is h.run_is);
    }

pub was_synced : (before after : Option (List File)) (first : Pending) (batch : Batch) (last : Pending) (sum : List ℕ) (lines : List (List ℕ)) → after ≡ synced before
    → Of before first batch last sum lines → Of after first batch last sum lines
was_synced None after first batch last sum lines e h = let P : Option (List File) → Type 0 = λ x. Of x first batch last sum lines in subst P (sym e) h
was_synced (Some fs) after first batch last sum lines e h =
    let P : Option (List File) → Type 0 = λ x. Of x first batch last sum lines in
    let is : IsRunOf (with_synced fs) first batch last sum lines = record {
      left = h.left;
      written = h.written;
      batch_is = h.batch_is;
      run_is = synced_step (begun_of first) h.left h.written (begun_of last) sum lines fs h.run_is;
    } in
    subst P (sym e) is

-- What a sync leaves, whether it held or not.
pub after_sync : {T E : Type 0} (result : Result T E) (before after : Option (List File)) (first : Pending) (batch : Batch) (last : Pending) (sum : List ℕ) (lines : List (List ℕ))
    → MatchResult result (λ _. after ≡ synced before) (λ _. after ≡ before) → Of before first batch last sum lines → Of after first batch last sum lines
after_sync (Ok t) before after first batch last sum lines e h = was_synced before after first batch last sum lines e h
after_sync (Err f) before after first batch last sum lines e h = let P : Option (List File) → Type 0 = λ x. Of x first batch last sum lines in subst P (sym e) h
