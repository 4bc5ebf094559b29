-- What each step leaves of the files of a run.
use Rattle.std.proofs.Common.{◌≡◌, ℕ, ◌+◌, ◌-◌, ◌<◌, ◌≤◌, Bool, true, false, inl, inr, List, [], ◌∷◌, ◌++◌, length, take, drop, refl, sym, ap, ◌∙◌, subst, ⊎_elim, append-nil, append_assoc, arith}
use Rattle.std.specs.List.{slice_range}
use Rattle.std.proofs.Math.Seq.{take-add, take-append-add}
use Rattle.std.proofs.lemmas.List.{take-append-drop, take_all}
use mathlib.Core.List.{IsPrefix}
use Rattle.ledger_files.specs.Chains.{chain_of}
use Rattle.ledger_files.specs.Files.{File}
use Rattle.ledger_files.specs.Runs.{Part, Begun, IsFile, IsCutShort, IsGoneOn, IsEnded, AreFiles, IsOpenFile, begin_sum, lines_sum, passed_in, passed_of}
use Rattle.ledger_files.specs.Tails.{body_in, line_after, sum_after, sums_after, text_after}
use Rattle.ledger_files.proofs.Seals.{line_body, sums_one, text_append, text_one}
use Rattle.ledger_files.proofs.Writes.{no_range}

-- ---- what comes next grows

prefix_longer : (cut next more : List ℕ) → IsPrefix cut next → IsPrefix cut (next ++ more)
prefix_longer cut next more (rest, is) = (rest ++ more, sym (append_assoc cut rest more) ∙ ap (λ (x : List ℕ). x ++ more) is)

front_longer : (cut before : List ℕ) (next more : List (List ℕ)) → IsPrefix cut (text_after before next) → IsPrefix cut (text_after before (next ++ more))
front_longer cut before next more h =
    let P : List ℕ → Type 0 = λ x. IsPrefix cut x in
    subst P (sym (text_append before next more)) (prefix_longer cut (text_after before next) (text_after (sums_after before next) more) h)

pub file_longer : (before : List ℕ) (file : File) (part : Part) (next more : List (List ℕ)) → IsFile before file part next → IsFile before file part (next ++ more)
file_longer before file part next more (inl h) = inl h
file_longer before file part next more (inr (inl h)) =
    inr (inl (record { cut = h.cut; front = front_longer h.cut (lines_sum before part) next more h.front; octets = h.octets; passed = h.passed }))
file_longer before file part next more (inr (inr h)) = inr (inr h)

pub files_longer : (files : List File) (parts : List Part) (next more : List (List ℕ)) → AreFiles files parts next → AreFiles files parts (next ++ more)
files_longer [] [] next more h = h
files_longer [] (part ∷ parts) next more h = h
files_longer (file ∷ older) [] next more h = h
files_longer (file ∷ older) (part ∷ parts) next more h =
    let P : List (List ℕ) → Type 0 = λ x. AreFiles older parts x in
    (file_longer (chain_of (passed_of parts)) file part next more h.0, subst P (append_assoc part.lines next more) (files_longer older parts (part.lines ++ next) more h.1))

-- ---- the open file is a file

pub nothing_of : (n : ℕ) → take {A = ℕ} n [] ≡ []
nothing_of n = take_all n [] (omega arith)

empty_of : (n : ℕ) (xs : List ℕ) → xs ≡ [] → take n xs ≡ []
empty_of n xs e = ap (take n) e ∙ nothing_of n

module _ (before : List ℕ) (file : File) (part : Part) (first : Begun) (left : List (List ℕ)) (written : ℕ) (last : Begun) (h : IsOpenFile before file part first left written last) where
  cut_short : first.is_passed ≡ false → part.lines ≡ [] → written ≡ 0 → last.octets ≡ [] → IsCutShort before file part
  cut_short p l w e = record {
    lines = l;
    front = (
      drop first.done first.octets,
      ap (λ (x : List ℕ). x ++ drop first.done first.octets) (h.octets
          ∙ ap (λ (x : List (List ℕ)). take first.done first.octets ++ (text_after (begin_sum before part) x ++ (take written (text_after (lines_sum before part) left) ++ take last.done last.octets))) l
          ∙ ap (λ (n : ℕ). take first.done first.octets ++ (take n (text_after (lines_sum before part) left) ++ take last.done last.octets)) w
          ∙ ap (λ (x : List ℕ). take first.done first.octets ++ x) (empty_of last.done last.octets e)
          ∙ append-nil (take first.done first.octets))
          ∙ take-append-drop first.done first.octets
          ∙ h.begin,
    );
    passed = h.passed ∙ ap (λ (b : Bool). passed_in b part.begin part.lines last.is_passed part.end) p;
  }

  front_is : first.done ≡ length first.octets → take first.done first.octets ≡ line_after before part.begin
  front_is all = take_all first.done first.octets (omega arith) ∙ h.begin

  pub not_over : last.octets ≡ [] → last.is_passed ≡ false
  not_over e = ⊎_elim
      (λ (early : last.is_passed ≡ false). early)
      (λ (all : (last.is_passed ≡ true) × (first.is_passed ≡ true) × (left ≡ []) × (last.done ≡ length last.octets) × (0 < length last.octets)). absurd (omega (arith, ap length e, all.4)))
      h.over

  passed_as : first.is_passed ≡ true → part.passed ≡ passed_in true part.begin part.lines last.is_passed part.end
  passed_as p = h.passed ∙ ap (λ (b : Bool). passed_in b part.begin part.lines last.is_passed part.end) p

  pub passed_lines : first.is_passed ≡ true → last.is_passed ≡ false → part.passed ≡ part.begin ∷ part.lines
  passed_lines p early = passed_as p ∙ ap (λ (b : Bool). passed_in true part.begin part.lines b part.end) early

  gone_on : first.is_passed ≡ true → first.done ≡ length first.octets → last.octets ≡ [] → IsGoneOn before file part left
  gone_on p all e =
      let next : List ℕ = text_after (lines_sum before part) left in
      record {
        cut = take written next;
        front = (drop written next, take-append-drop written next);
        octets = h.octets
            ∙ ap (λ (x : List ℕ). x ++ (text_after (begin_sum before part) part.lines ++ (take written next ++ take last.done last.octets))) (front_is all)
            ∙ ap (λ (x : List ℕ). line_after before part.begin ++ (text_after (begin_sum before part) part.lines ++ (take written next ++ x))) (empty_of last.done last.octets e)
            ∙ ap (λ (x : List ℕ). line_after before part.begin ++ (text_after (begin_sum before part) part.lines ++ x)) (append-nil (take written next));
        passed = passed_lines p (not_over e);
      }

  ended : first.is_passed ≡ true → first.done ≡ length first.octets → left ≡ [] → last.octets ≡ line_after (lines_sum before part) part.end → IsEnded before file part
  ended p all none made = record {
    over = take last.done last.octets;
    front = (drop last.done last.octets, take-append-drop last.done last.octets ∙ made);
    octets = h.octets
        ∙ ap (λ (x : List ℕ). x ++ (text_after (begin_sum before part) part.lines ++ (take written (text_after (lines_sum before part) left) ++ take last.done last.octets))) (front_is all)
        ∙ ap (λ (x : List (List ℕ)). line_after before part.begin ++ (text_after (begin_sum before part) part.lines ++ (take written (text_after (lines_sum before part) x) ++ take last.done last.octets))) none
        ∙ ap (λ (x : List ℕ). line_after before part.begin ++ (text_after (begin_sum before part) part.lines ++ (x ++ take last.done last.octets))) (nothing_of written);
    passed = ⊎_elim
        (λ (early : last.is_passed ≡ false). inl (passed_lines p early))
        (λ (over : (last.is_passed ≡ true) × (first.is_passed ≡ true) × (left ≡ []) × (last.done ≡ length last.octets) × (0 < length last.octets)). inr (
          take_all last.done last.octets (omega (arith, over.3)) ∙ made,
          passed_as p ∙ ap (λ (b : Bool). passed_in true part.begin part.lines b part.end) over.0,
        ))
        h.over;
  }

  pub is_file : IsFile before file part left
  is_file = ⊎_elim
      (λ (all : (first.is_passed ≡ true) × (first.done ≡ length first.octets)). inr (⊎_elim
      (λ (e : last.octets ≡ []). inl (gone_on all.0 all.1 e))
      (λ (made : (first.is_passed ≡ true) × (left ≡ []) × (last.octets ≡ line_after (lines_sum before part) part.end)). inr (ended all.0 all.1 made.1 made.2))
      h.end))
      (λ (none : (first.is_passed ≡ false) × (part.lines ≡ []) × (written ≡ 0) × (last.octets ≡ [])). inl (cut_short none.0 none.1 none.2 none.3))
      h.in_order

  -- The bodies of the line that begins the file, and of the one that ends the run.
  pub first_body : body_in first.octets ≡ part.begin
  first_body = ap body_in h.begin ∙ line_body before part.begin

  pub last_body : 0 < length last.octets → body_in last.octets ≡ part.end
  last_body some = ⊎_elim
      (λ (e : last.octets ≡ []). absurd (omega (arith, ap length e, some)))
      (λ (made : (first.is_passed ≡ true) × (left ≡ []) × (last.octets ≡ line_after (lines_sum before part) part.end)). ap body_in made.2 ∙ line_body (lines_sum before part) part.end)
      h.end

-- ---- octets are written

abbrev pub written_to : File → List ℕ → File
written_to file octets = record { path = file.path; octets = file.octets ++ octets; synced = file.synced }

abbrev pub with_done : Begun → ℕ → Begun
with_done line now = record { octets = line.octets; done = now; is_passed = line.is_passed }

take_more : (xs : List ℕ) (n m : ℕ) → n ≤ m → take n xs ++ slice_range xs n m ≡ take m xs
take_more xs n m l =
    let sum : n + (m - n) ≡ m = omega arith in
    sym (take-add n (m - n) xs) ∙ ap (λ (k : ℕ). take k xs) sum

no_more_of : (xs : List ℕ) (n m : ℕ) → n ≤ m → m ≤ length xs → n ≡ length xs → slice_range xs n m ≡ []
no_more_of xs n m l k all =
    let same : m ≡ n = omega arith in
    ap (λ (i : ℕ). slice_range xs n i) same ∙ no_range xs n

module _ (before : List ℕ) (file : File) (part : Part) (first : Begun) (left : List (List ℕ)) (written : ℕ) (last : Begun) where
  pub first_written : (now : ℕ) → first.done ≤ now → now ≤ length first.octets → IsOpenFile before file part first left written last
      → IsOpenFile before (written_to file (slice_range first.octets first.done now)) part (with_done first now) left written last
  first_written now l k h =
      let its : List ℕ = text_after (begin_sum before part) part.lines in
      let next : List ℕ = text_after (lines_sum before part) left in
      ⊎_elim
      (λ (all : (first.is_passed ≡ true) × (first.done ≡ length first.octets)).
      let same : now ≡ first.done = omega (arith, l, k, all.1) in
      record {
        begin = h.begin;
        end = h.end;
        octets = ap (λ (x : List ℕ). file.octets ++ x) (no_more_of first.octets first.done now l k all.1) ∙ append-nil file.octets ∙ h.octets
            ∙ ap (λ (n : ℕ). take n first.octets ++ (its ++ (take written next ++ take last.done last.octets))) (sym same);
        in_order = inl (all.0, same ∙ all.1);
        over = h.over;
        passed = h.passed;
      })
      (λ (none : (first.is_passed ≡ false) × (part.lines ≡ []) × (written ≡ 0) × (last.octets ≡ [])).
      let empty : its ++ (take written next ++ take last.done last.octets) ≡ [] =
      ap (λ (x : List (List ℕ)). text_after (begin_sum before part) x ++ (take written next ++ take last.done last.octets)) none.1
      ∙ ap (λ (n : ℕ). take n next ++ take last.done last.octets) none.2
      ∙ empty_of last.done last.octets none.3 in
      record {
        begin = h.begin;
        end = h.end;
        octets = ap (λ (x : List ℕ). x ++ slice_range first.octets first.done now) (h.octets ∙ ap (λ (x : List ℕ). take first.done first.octets ++ x) empty ∙ append-nil (take first.done first.octets))
            ∙ take_more first.octets first.done now l
            ∙ sym (append-nil (take now first.octets))
            ∙ ap (λ (x : List ℕ). take now first.octets ++ x) (sym empty);
        in_order = inr none;
        over = h.over;
        passed = h.passed;
      })
      h.in_order

  pub entries_written : (now : ℕ) → first.is_passed ≡ true → first.done ≡ length first.octets → written ≤ now → now ≤ length (text_after (lines_sum before part) left) → IsOpenFile before file part first left written last
      → IsOpenFile before (written_to file (slice_range (text_after (lines_sum before part) left) written now)) part first left now last
  entries_written now p begun_all l k h =
      let its : List ℕ = text_after (begin_sum before part) part.lines in
      let next : List ℕ = text_after (lines_sum before part) left in
      ⊎_elim
      (λ (none : last.octets ≡ []).
      let a = take first.done first.octets in
      let front : (x : List ℕ) → x ++ take last.done last.octets ≡ x = λ x. ap (λ (y : List ℕ). x ++ y) (empty_of last.done last.octets none) ∙ append-nil x in
      record {
        begin = h.begin;
        end = h.end;
        octets = ap (λ (x : List ℕ). x ++ slice_range next written now) (h.octets ∙ ap (λ (x : List ℕ). a ++ (its ++ x)) (front (take written next)))
            ∙ append_assoc a (its ++ take written next) (slice_range next written now)
            ∙ ap (λ (x : List ℕ). a ++ x) (append_assoc its (take written next) (slice_range next written now)
            ∙ ap (λ (x : List ℕ). its ++ x) (take_more next written now l ∙ sym (front (take now next))));
        in_order = inl (p, begun_all);
        over = h.over;
        passed = h.passed;
      })
      (λ (made : (first.is_passed ≡ true) × (left ≡ []) × (last.octets ≡ line_after (lines_sum before part) part.end)).
      let zero_octets : length next ≡ 0 = ap (λ (x : List (List ℕ)). length (text_after (lines_sum before part) x)) made.1 in
      let all : written ≡ length next = omega (arith, zero_octets, l, k) in
      let same : now ≡ written = omega (arith, zero_octets, l, k) in
      record {
        begin = h.begin;
        end = h.end;
        octets = ap (λ (x : List ℕ). file.octets ++ x) (no_more_of next written now l k all) ∙ append-nil file.octets ∙ h.octets
            ∙ ap (λ (n : ℕ). take first.done first.octets ++ (its ++ (take n next ++ take last.done last.octets))) (sym same);
        in_order = inl (p, begun_all);
        over = h.over;
        passed = h.passed;
      })
      h.end

  pub end_written : (now : ℕ) → first.is_passed ≡ true → first.done ≡ length first.octets → left ≡ [] → last.done ≤ now → now ≤ length last.octets → IsOpenFile before file part first left written last
      → IsOpenFile before (written_to file (slice_range last.octets last.done now)) part first left written (with_done last now)
  end_written now p begun_all none l k h =
      let a = take first.done first.octets in let b = text_after (begin_sum before part) part.lines in let c = take written (text_after (lines_sum before part) left) in
      record {
        begin = h.begin;
        end = h.end;
        octets = ap (λ (x : List ℕ). x ++ slice_range last.octets last.done now) h.octets
            ∙ append_assoc a (b ++ (c ++ take last.done last.octets)) (slice_range last.octets last.done now)
            ∙ ap (λ (x : List ℕ). a ++ x) (append_assoc b (c ++ take last.done last.octets) (slice_range last.octets last.done now)
            ∙ ap (λ (x : List ℕ). b ++ x) (append_assoc c (take last.done last.octets) (slice_range last.octets last.done now)
            ∙ ap (λ (x : List ℕ). c ++ x) (take_more last.octets last.done now l)));
        in_order = inl (p, begun_all);
        over = ⊎_elim
            (λ (early : last.is_passed ≡ false). inl early)
            (λ (over : (last.is_passed ≡ true) × (first.is_passed ≡ true) × (left ≡ []) × (last.done ≡ length last.octets) × (0 < length last.octets)).
            let same : now ≡ length last.octets = omega (arith, l, k, over.3) in
            inr (over.0, over.1, over.2, same, over.4))
            h.over;
        passed = h.passed;
      }

-- ---- a line is passed

abbrev pub as_passed : Begun → Begun
as_passed line = record { octets = line.octets; done = line.done; is_passed = true }

abbrev pub with_passed : Part → List ℕ → Part
with_passed part line = record { begin = part.begin; lines = part.lines; end = part.end; passed = part.passed ++ line ∷ [] }

abbrev pub with_line : Part → List ℕ → Part
with_line part line = record { begin = part.begin; lines = part.lines ++ line ∷ []; end = part.end; passed = part.passed ++ line ∷ [] }

pub opposed : (b : Bool) → b ≡ true → b ≡ false → ⊥
opposed b t f = cc

module _ (before : List ℕ) (file : File) (part : Part) (first : Begun) (left : List (List ℕ)) (written : ℕ) (last : Begun) (h : IsOpenFile before file part first left written last) where
  pub first_passed : first.is_passed ≡ false → first.done ≡ length first.octets → IsOpenFile before file (with_passed part part.begin) (as_passed first) left written last
  first_passed p all = ⊎_elim
      (λ (early : (first.is_passed ≡ true) × (first.done ≡ length first.octets)). absurd (opposed first.is_passed early.0 p))
      (λ (none : (first.is_passed ≡ false) × (part.lines ≡ []) × (written ≡ 0) × (last.octets ≡ [])).
      let early : last.is_passed ≡ false = not_over before file part first left written last h none.3 in
      record {
        begin = h.begin;
        end = inl none.3;
        octets = h.octets;
        in_order = inl (refl, all);
        over = inl early;
        passed =
            ap (λ (x : List (List ℕ)). x ++ part.begin ∷ []) (h.passed ∙ ap (λ (b : Bool). passed_in b part.begin part.lines last.is_passed part.end) p)
            ∙ ap (λ (x : List (List ℕ)). part.begin ∷ x) (sym none.1)
            ∙ ap (λ (b : Bool). passed_in true part.begin part.lines b part.end) (sym early);
      })
      h.in_order

  pub end_passed : first.is_passed ≡ true → last.is_passed ≡ false → left ≡ [] → last.done ≡ length last.octets → 0 < length last.octets
      → IsOpenFile before file (with_passed part part.end) first left written (as_passed last)
  end_passed p early none all some = record {
    begin = h.begin;
    end = h.end;
    octets = h.octets;
    in_order = ⊎_elim
        (λ (begun : (first.is_passed ≡ true) × (first.done ≡ length first.octets)). inl begun)
        (λ (unbegun : (first.is_passed ≡ false) × (part.lines ≡ []) × (written ≡ 0) × (last.octets ≡ [])). absurd (opposed first.is_passed p unbegun.0))
        h.in_order;
    over = inr (refl, p, none, all, some);
    passed =
        ap (λ (x : List (List ℕ)). x ++ part.end ∷ []) (passed_lines before file part first left written last h p early)
        ∙ ap (λ (b : Bool). passed_in b part.begin part.lines true part.end) (sym p);
  }

pub line_passed : (before : List ℕ) (file : File) (part : Part) (first : Begun) (line : List ℕ) (more : List (List ℕ)) (last : Begun) (written now : ℕ) → first.is_passed ≡ true → first.done ≡ length first.octets
    → length (line_after (lines_sum before part) line) + now ≡ written → IsOpenFile before file part first (line ∷ more) written last
    → IsOpenFile before file (with_line part line) first more now last
line_passed before file part first line more last written now p begun_all sum h =
    let s : List ℕ = lines_sum before part in
    let whole : List ℕ = line_after s line in
    let next : List ℕ = text_after (sum_after s line) more in
    let its : List ℕ = text_after (begin_sum before part) part.lines in
    let split : take written (whole ++ next) ≡ whole ++ take now next =
    ap (λ (n : ℕ). take n (whole ++ next)) (sym sum) ∙ take-append-add whole next now in
    let sums : lines_sum before (with_line part line) ≡ sum_after s line = sums_one (begin_sum before part) part.lines line in
    let a = take first.done first.octets in
    let some : (line ∷ more ≡ []) → ⊥ = λ e. absurd (omega (arith, ap length e)) in
    let early : last.is_passed ≡ false = ⊎_elim
    (λ (early : last.is_passed ≡ false). early)
    (λ (over : (last.is_passed ≡ true) × (first.is_passed ≡ true) × (line ∷ more ≡ []) × (last.done ≡ length last.octets) × (0 < length last.octets)). absurd (some over.2))
    h.over in
    record {
      begin = h.begin;
      end = ⊎_elim
          (λ (none : last.octets ≡ []). inl none)
          (λ (made : (first.is_passed ≡ true) × (line ∷ more ≡ []) × (last.octets ≡ line_after s part.end)). absurd (some made.1))
          h.end;
      octets = h.octets
          ∙ ap (λ (x : List ℕ). a ++ (its ++ (x ++ take last.done last.octets))) split
          ∙ ap (λ (x : List ℕ). a ++ (its ++ x)) (append_assoc whole (take now next) (take last.done last.octets))
          ∙ ap (λ (x : List ℕ). a ++ x) (sym (append_assoc its whole (take now next ++ take last.done last.octets))
          ∙ ap (λ (x : List ℕ). x ++ (take now next ++ take last.done last.octets)) (sym (text_one (begin_sum before part) part.lines line)))
          ∙ ap (λ (x : List ℕ). a ++ (text_after (begin_sum before part) (part.lines ++ line ∷ []) ++ (take now (text_after x more) ++ take last.done last.octets))) (sym sums);
      in_order = inl (p, begun_all);
      over = inl early;
      passed =
          ap (λ (x : List (List ℕ)). x ++ line ∷ []) (passed_lines before file part first (line ∷ more) written last h p early)
          ∙ ap (λ (b : Bool). passed_in true part.begin (part.lines ++ line ∷ []) b part.end) (sym early)
          ∙ ap (λ (b : Bool). passed_in b part.begin (part.lines ++ line ∷ []) last.is_passed part.end) (sym p);
    }

pub files_passed : (files : List File) (parts : List Part) (lines : List (List ℕ)) (line : List ℕ) (next : List (List ℕ))
    → AreFiles files parts (lines ++ line ∷ next) → AreFiles files parts ((lines ++ line ∷ []) ++ next)
files_passed files parts lines line next h =
    let P : List (List ℕ) → Type 0 = λ x. AreFiles files parts x in
    subst P (sym (append_assoc lines (line ∷ []) next)) h
