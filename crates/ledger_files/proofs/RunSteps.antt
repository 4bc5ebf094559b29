-- What each step leaves of a run.
use Rattle.std.proofs.Common.{◌≡◌, ℕ, ◌+◌, ◌<◌, ◌≤◌, Bool, true, false, inl, inr, List, [], ◌∷◌, ◌++◌, length, take, refl, sym, ap, ◌∙◌, subst, ⊎_elim, append-nil, append_assoc, arith}
use Rattle.std.specs.List.{slice_range}
use Rattle.std.proofs.lemmas.List.{take-append-le}
use Rattle.sha2.specs.Sha256.{sha256}
use Rattle.ledger_files.specs.Chains.{chain_after, chain_of, chain_start}
use Rattle.ledger_files.specs.Files.{File, IsOpen, with_octets, with_synced}
use Rattle.ledger_files.specs.Runs.{Part, Begun, lines_of, lines_sum, passed_of, passed_in, IsFile, AreFiles, IsOpenFile, IsOpenRun, IsRunWith}
use Rattle.ledger_files.specs.Tails.{body_in, line_after, sum_after, sums_after, text_after}
use Rattle.ledger_files.proofs.Chains.{line_more}
use Rattle.ledger_files.proofs.Runs.{files_longer, is_file, first_body, last_body, not_over, nothing_of, opposed, passed_lines, written_to, with_done, first_written, entries_written, end_written, as_passed, with_passed, first_passed, end_passed, with_line, line_passed, files_passed}
use Rattle.ledger_files.proofs.Seals.{line_long, sums_append, text_append}

-- One line more is passed of the newest part.
pub sum_more : (parts : List Part) (passed : List (List ℕ)) (line sum next : List ℕ) → sum ≡ chain_of (passed_of parts ++ passed) → next ≡ chain_after sum (sha256 line)
    → next ≡ chain_of (passed_of parts ++ (passed ++ line ∷ []))
sum_more parts passed line sum next s n =
    n ∙ ap (λ (x : List ℕ). chain_after x (sha256 line)) s ∙ sym (line_more (passed_of parts ++ passed) line)
    ∙ ap chain_of (append_assoc (passed_of parts) passed (line ∷ []))

-- Once the first line was passed, the lines that are left are sealed behind what was passed.
pub left_sealed : (file : File) (part : Part) (parts : List Part) (first : Begun) (left : List (List ℕ)) (written : ℕ) (last : Begun) (sum : List ℕ) → first.is_passed ≡ true
    → IsOpenFile (chain_of (passed_of parts)) file part first left written last → sum ≡ chain_of (passed_of parts ++ part.passed)
    → text_after sum left ≡ text_after (lines_sum (chain_of (passed_of parts)) part) left
left_sealed file part parts first left written last sum p o s =
    let before : List ℕ = chain_of (passed_of parts) in
    ⊎_elim
    (λ (early : last.is_passed ≡ false).
    ap (λ (x : List ℕ). text_after x left) (s
    ∙ ap (λ (x : List (List ℕ)). chain_of (passed_of parts ++ x)) (passed_lines before file part first left written last o p early)
    ∙ sums_append chain_start (passed_of parts) (part.begin ∷ part.lines)))
    (λ (over : (last.is_passed ≡ true) × (first.is_passed ≡ true) × (left ≡ []) × (last.done ≡ length last.octets) × (0 < length last.octets)).
    ap (text_after sum) over.2 ∙ sym (ap (text_after (lines_sum before part)) over.2))
    o.over

module _ (first : Begun) (left : List (List ℕ)) (written : ℕ) (last : Begun) (sum : List ℕ) (lines : List (List ℕ)) (now : ℕ) where
  first_on : (files : List File) (parts : List Part) → IsOpen files → first.done ≤ now → now ≤ length first.octets
      → lines ≡ lines_of parts ++ left → AreFiles files parts left → IsOpenRun files parts first left written last → sum ≡ chain_of (passed_of parts)
      → IsRunWith (with_octets files (slice_range first.octets first.done now)) (with_done first now) left written last sum lines
  first_on [] parts opens l k e f o s = absurd opens
  first_on (file ∷ older) [] opens l k e f o s = absurd o
  first_on (file ∷ older) (part ∷ parts) opens l k e f o s =
      let to : File = written_to file (slice_range first.octets first.done now) in
      let opened : IsOpenFile (chain_of (passed_of parts)) to part (with_done first now) left written last = first_written (chain_of (passed_of parts)) file part first left written last now l k o in
      record { parts = part ∷ parts; lines_are = e; files_are = (is_file (chain_of (passed_of parts)) to part (with_done first now) left written last opened, f.1); open_is = opened; sum_is = s }

  pub first_step : (files : List File) → IsOpen files → first.done ≤ now → now ≤ length first.octets → IsRunWith files first left written last sum lines
      → IsRunWith (with_octets files (slice_range first.octets first.done now)) (with_done first now) left written last sum lines
  first_step files opens l k h = first_on files h.parts opens l k h.lines_are h.files_are h.open_is h.sum_is

  entries_on : (files : List File) (parts : List Part) → IsOpen files → first.is_passed ≡ true → first.done ≡ length first.octets → written ≤ now → now ≤ length (text_after sum left)
      → lines ≡ lines_of parts ++ left → AreFiles files parts left → IsOpenRun files parts first left written last → sum ≡ chain_of (passed_of parts)
      → IsRunWith (with_octets files (slice_range (text_after sum left) written now)) first left now last sum lines
  entries_on [] parts opens p b l k e f o s = absurd opens
  entries_on (file ∷ older) [] opens p b l k e f o s = absurd o
  entries_on (file ∷ older) (part ∷ parts) opens p b l k e f o s =
      let before : List ℕ = chain_of (passed_of parts) in
      let its : List ℕ = text_after (lines_sum before part) left in
      let same : text_after sum left ≡ its = left_sealed file part parts first left written last sum p o s in
      let to : File = written_to file (slice_range its written now) in
      let opened : IsOpenFile before to part first left now last = entries_written before file part first left written last now p b l (omega (arith, k, ap length same)) o in
      let P : List ℕ → Type 0 = λ x. IsRunWith (with_octets (file ∷ older) (slice_range x written now)) first left now last sum lines in
      let is : IsRunWith (to ∷ older) first left now last sum lines = record { parts = part ∷ parts; lines_are = e; files_are = (is_file before to part first left now last opened, f.1); open_is = opened; sum_is = s } in
      subst P (sym same) is

  pub entries_step : (files : List File) → IsOpen files → first.is_passed ≡ true → first.done ≡ length first.octets → written ≤ now → now ≤ length (text_after sum left)
      → IsRunWith files first left written last sum lines
      → IsRunWith (with_octets files (slice_range (text_after sum left) written now)) first left now last sum lines
  entries_step files opens p b l k h = entries_on files h.parts opens p b l k h.lines_are h.files_are h.open_is h.sum_is

  end_on : (files : List File) (parts : List Part) → IsOpen files → first.is_passed ≡ true → first.done ≡ length first.octets → left ≡ [] → last.done ≤ now → now ≤ length last.octets
      → lines ≡ lines_of parts ++ left → AreFiles files parts left → IsOpenRun files parts first left written last → sum ≡ chain_of (passed_of parts)
      → IsRunWith (with_octets files (slice_range last.octets last.done now)) first left written (with_done last now) sum lines
  end_on [] parts opens p b n l k e f o s = absurd opens
  end_on (file ∷ older) [] opens p b n l k e f o s = absurd o
  end_on (file ∷ older) (part ∷ parts) opens p b n l k e f o s =
      let to : File = written_to file (slice_range last.octets last.done now) in
      let opened : IsOpenFile (chain_of (passed_of parts)) to part first left written (with_done last now) = end_written (chain_of (passed_of parts)) file part first left written last now p b n l k o in
      record { parts = part ∷ parts; lines_are = e; files_are = (is_file (chain_of (passed_of parts)) to part first left written (with_done last now) opened, f.1); open_is = opened; sum_is = s }

  pub end_step : (files : List File) → IsOpen files → first.is_passed ≡ true → first.done ≡ length first.octets → left ≡ [] → last.done ≤ now → now ≤ length last.octets
      → IsRunWith files first left written last sum lines
      → IsRunWith (with_octets files (slice_range last.octets last.done now)) first left written (with_done last now) sum lines
  end_step files opens p b n l k h = end_on files h.parts opens p b n l k h.lines_are h.files_are h.open_is h.sum_is

module _ (first : Begun) (left : List (List ℕ)) (written : ℕ) (last : Begun) (sum next : List ℕ) (lines : List (List ℕ)) where
  first_passes_on : (files : List File) (parts : List Part) → IsOpen files → first.is_passed ≡ false → first.done ≡ length first.octets → next ≡ sum_after sum (body_in first.octets)
      → lines ≡ lines_of parts ++ left → AreFiles files parts left → IsOpenRun files parts first left written last → sum ≡ chain_of (passed_of parts)
      → IsRunWith files (as_passed first) left written last next lines
  first_passes_on [] parts opens p b n e f o s = absurd opens
  first_passes_on (file ∷ older) [] opens p b n e f o s = absurd o
  first_passes_on (file ∷ older) (part ∷ parts) opens p b n e f o s =
      let body : body_in first.octets ≡ part.begin = first_body (chain_of (passed_of parts)) file part first left written last o in
      let to : Part = with_passed part part.begin in
      let opened : IsOpenFile (chain_of (passed_of parts)) file to (as_passed first) left written last = first_passed (chain_of (passed_of parts)) file part first left written last o p b in
      record {
        parts = to ∷ parts;
        lines_are = e;
        files_are = (is_file (chain_of (passed_of parts)) file to (as_passed first) left written last opened, f.1);
        open_is = opened;
        sum_is = sum_more parts part.passed part.begin sum next s (n ∙ ap (sum_after sum) body);
      }

  pub first_passes : (files : List File) → IsOpen files → first.is_passed ≡ false → first.done ≡ length first.octets → next ≡ sum_after sum (body_in first.octets)
      → IsRunWith files first left written last sum lines → IsRunWith files (as_passed first) left written last next lines
  first_passes files opens p b n h = first_passes_on files h.parts opens p b n h.lines_are h.files_are h.open_is h.sum_is

  end_passes_on : (files : List File) (parts : List Part) → IsOpen files → first.is_passed ≡ true → last.is_passed ≡ false → left ≡ [] → last.done ≡ length last.octets → 0 < length last.octets
      → next ≡ sum_after sum (body_in last.octets)
      → lines ≡ lines_of parts ++ left → AreFiles files parts left → IsOpenRun files parts first left written last → sum ≡ chain_of (passed_of parts)
      → IsRunWith files first left written (as_passed last) next lines
  end_passes_on [] parts opens p early none b some n e f o s = absurd opens
  end_passes_on (file ∷ older) [] opens p early none b some n e f o s = absurd o
  end_passes_on (file ∷ older) (part ∷ parts) opens p early none b some n e f o s =
      let body : body_in last.octets ≡ part.end = last_body (chain_of (passed_of parts)) file part first left written last o some in
      let to : Part = with_passed part part.end in
      let opened : IsOpenFile (chain_of (passed_of parts)) file to first left written (as_passed last) = end_passed (chain_of (passed_of parts)) file part first left written last o p early none b some in
      record {
        parts = to ∷ parts;
        lines_are = e;
        files_are = (is_file (chain_of (passed_of parts)) file to first left written (as_passed last) opened, f.1);
        open_is = opened;
        sum_is = sum_more parts part.passed part.end sum next s (n ∙ ap (sum_after sum) body);
      }

  pub end_passes : (files : List File) → IsOpen files → first.is_passed ≡ true → last.is_passed ≡ false → left ≡ [] → last.done ≡ length last.octets → 0 < length last.octets
      → next ≡ sum_after sum (body_in last.octets)
      → IsRunWith files first left written last sum lines → IsRunWith files first left written (as_passed last) next lines
  end_passes files opens p early none b some n h = end_passes_on files h.parts opens p early none b some n h.lines_are h.files_are h.open_is h.sum_is

module _ (first : Begun) (line : List ℕ) (more : List (List ℕ)) (written : ℕ) (last : Begun) (sum next : List ℕ) (lines : List (List ℕ)) (now : ℕ) where
  passed_on : (files : List File) (parts : List Part) → IsOpen files → first.is_passed ≡ true → first.done ≡ length first.octets → length line + 75 + now ≡ written → next ≡ chain_after sum (sha256 line)
      → lines ≡ lines_of parts ++ line ∷ more → AreFiles files parts (line ∷ more) → IsOpenRun files parts first (line ∷ more) written last → sum ≡ chain_of (passed_of parts)
      → IsRunWith files first more now last next lines
  passed_on [] parts opens p b n m e f o s = absurd opens
  passed_on (file ∷ older) [] opens p b n m e f o s = absurd o
  passed_on (file ∷ older) (part ∷ parts) opens p b n m e f o s =
      let to : Part = with_line part line in
      let opened : IsOpenFile (chain_of (passed_of parts)) file to first more now last = line_passed (chain_of (passed_of parts)) file part first line more last written now p b (omega (arith, n, line_long (lines_sum (chain_of (passed_of parts)) part) line)) o in
      record {
        parts = to ∷ parts;
        lines_are = e ∙ append_assoc (lines_of parts) part.lines (line ∷ more)
            ∙ ap (λ (x : List (List ℕ)). lines_of parts ++ x) (sym (append_assoc part.lines (line ∷ []) more))
            ∙ sym (append_assoc (lines_of parts) (part.lines ++ line ∷ []) more);
        files_are = (is_file (chain_of (passed_of parts)) file to first more now last opened, files_passed older parts part.lines line more f.1);
        open_is = opened;
        sum_is = sum_more parts part.passed line sum next s m;
      }

  pub passed_step : (files : List File) → IsOpen files → first.is_passed ≡ true → first.done ≡ length first.octets → length line + 75 + now ≡ written → next ≡ chain_after sum (sha256 line)
      → IsRunWith files first (line ∷ more) written last sum lines → IsRunWith files first more now last next lines
  passed_step files opens p b n m h = passed_on files h.parts opens p b n m h.lines_are h.files_are h.open_is h.sum_is

abbrev pub fresh : List ℕ → Begun
fresh octets = record { octets = octets; done = 0; is_passed = false }

module _ (files : List File) (first : Begun) (left : List (List ℕ)) (written : ℕ) (last : Begun) (sum : List ℕ) (lines : List (List ℕ)) where
  pub begin_step : (path next : List ℕ) → IsRunWith files first left written last sum lines
      → IsRunWith (record { path = path; octets = []; synced = 0 } ∷ files) (fresh (line_after sum next)) left 0 (fresh []) sum lines
  begin_step path next h = record {
    parts = record { begin = next; lines = []; end = []; passed = [] } ∷ h.parts;
    lines_are = h.lines_are ∙ ap (λ (x : List (List ℕ)). x ++ left) (sym (append-nil (lines_of h.parts)));
    files_are = (inl (record { lines = refl; front = (line_after (chain_of (passed_of h.parts)) next, refl); passed = refl }), h.files_are);
    open_is = record { begin = ap (λ (x : List ℕ). line_after x next) h.sum_is; end = inl refl; octets = refl; in_order = inr (refl, refl, refl, refl); over = inl refl; passed = refl };
    sum_is = h.sum_is ∙ ap chain_of (sym (append-nil (passed_of h.parts)));
  }

  longer_open : (line : List ℕ) (fs : List File) (parts : List Part) → last.octets ≡ [] → written ≤ length (text_after sum left)
      → IsOpenRun fs parts first left written last → sum ≡ chain_of (passed_of parts) → IsOpenRun fs parts first (left ++ line ∷ []) written last
  longer_open line [] parts none k o s = o
  longer_open line (file ∷ older) [] none k o s = absurd o
  longer_open line (file ∷ older) (part ∷ parts) none k o s =
      let before : List ℕ = chain_of (passed_of parts) in
      let sums : List ℕ = lines_sum before part in
      let few : written ≤ length (text_after sums left) = ⊎_elim
      (λ (all : (first.is_passed ≡ true) × (first.done ≡ length first.octets)). omega (arith, k, ap length (left_sealed file part parts first left written last sum all.0 o s)))
      (λ (unbegun : (first.is_passed ≡ false) × (part.lines ≡ []) × (written ≡ 0) × (last.octets ≡ [])). omega (arith, unbegun.2))
      o.in_order in
      record {
        begin = o.begin;
        end = inl none;
        octets = o.octets ∙ ap (λ (x : List ℕ). take first.done first.octets ++ (text_after (sum_after before part.begin) part.lines ++ (x ++ take last.done last.octets)))
            (sym (ap (take written) (text_append sums left (line ∷ [])) ∙ take-append-le written (text_after sums left) (text_after (sums_after sums left) (line ∷ [])) few));
        in_order = o.in_order;
        over = inl (not_over before file part first left written last o none);
        passed = o.passed;
      }

  pub add_step : (line : List ℕ) → last.octets ≡ [] → written ≤ length (text_after sum left) → IsRunWith files first left written last sum lines
      → IsRunWith files first (left ++ line ∷ []) written last sum (lines ++ line ∷ [])
  add_step line none k h = record {
    parts = h.parts;
    lines_are = ap (λ (x : List (List ℕ)). x ++ line ∷ []) h.lines_are ∙ append_assoc (lines_of h.parts) left (line ∷ []);
    files_are = files_longer files h.parts left (line ∷ []) h.files_are;
    open_is = longer_open line files h.parts none k h.open_is h.sum_is;
    sum_is = h.sum_is;
  }

  -- The line that ends the run is set.
  same_passed : (p : Bool) (begin a b : List ℕ) (its : List (List ℕ)) → passed_in p begin its false a ≡ passed_in p begin its false b
  same_passed false begin a b its = refl
  same_passed true begin a b its = refl

  ended_on : (line : List ℕ) (fs : List File) (parts : List Part) → last.octets ≡ [] → first.is_passed ≡ true → left ≡ []
      → lines ≡ lines_of parts ++ left → AreFiles fs parts left → IsOpenRun fs parts first left written last → sum ≡ chain_of (passed_of parts)
      → IsRunWith fs first left written (fresh (line_after sum line)) sum lines
  ended_on line [] parts none p all e f o s = absurd (opposed first.is_passed p o.4)
  ended_on line (file ∷ older) [] none p all e f o s = absurd o
  ended_on line (file ∷ older) (part ∷ parts) none p all e f o s =
      let before : List ℕ = chain_of (passed_of parts) in
      let early : last.is_passed ≡ false = not_over before file part first left written last o none in
      let sums : sum ≡ lines_sum before part =
      s ∙ ap (λ (x : List (List ℕ)). chain_of (passed_of parts ++ x)) (passed_lines before file part first left written last o p early)
      ∙ sums_append chain_start (passed_of parts) (part.begin ∷ part.lines) in
      let to : Part = record { begin = part.begin; lines = part.lines; end = line; passed = part.passed } in
      let opened : IsOpenFile before file to first left written (fresh (line_after sum line)) = record {
        begin = o.begin;
        end = inr (p, all, ap (λ (x : List ℕ). line_after x line) sums);
        octets = o.octets ∙ ap (λ (x : List ℕ). take first.done first.octets ++ (text_after (sum_after before part.begin) part.lines ++ (take written (text_after (lines_sum before part) left) ++ x)))
            (ap (take last.done) none ∙ nothing_of last.done);
        in_order = ⊎_elim
            (λ (begun : (first.is_passed ≡ true) × (first.done ≡ length first.octets)). inl begun)
            (λ (unbegun : (first.is_passed ≡ false) × (part.lines ≡ []) × (written ≡ 0) × (last.octets ≡ [])). absurd (opposed first.is_passed p unbegun.0))
            o.in_order;
        over = inl refl;
        passed = o.passed ∙ ap (λ (b : Bool). passed_in first.is_passed part.begin part.lines b part.end) early ∙ same_passed first.is_passed part.begin part.end line part.lines;
      } in
      record { parts = to ∷ parts; lines_are = e; files_are = (is_file before file to first left written (fresh (line_after sum line)) opened, f.1); open_is = opened; sum_is = s }

  pub ended_step : (line : List ℕ) → last.octets ≡ [] → first.is_passed ≡ true → left ≡ [] → IsRunWith files first left written last sum lines
      → IsRunWith files first left written (fresh (line_after sum line)) sum lines
  ended_step line none p all h = ended_on line files h.parts none p all h.lines_are h.files_are h.open_is h.sum_is

-- The open file is synced.
abbrev as_synced : File → File
as_synced file = record { path = file.path; octets = file.octets; synced = length file.octets }

module _ (before : List ℕ) (file : File) (part : Part) where
  file_synced : (next : List (List ℕ)) → IsFile before file part next → IsFile before (as_synced file) part next
  file_synced next (inl h) = inl (record { lines = h.lines; front = h.front; passed = h.passed })
  file_synced next (inr (inl h)) = inr (inl (record { cut = h.cut; front = h.front; octets = h.octets; passed = h.passed }))
  file_synced next (inr (inr h)) = inr (inr (record { over = h.over; front = h.front; octets = h.octets; passed = h.passed }))

  open_synced : (first : Begun) (left : List (List ℕ)) (written : ℕ) (last : Begun) → IsOpenFile before file part first left written last → IsOpenFile before (as_synced file) part first left written last
  open_synced first left written last h =
      record { begin = h.begin; end = h.end; octets = h.octets; in_order = h.in_order; over = h.over; passed = h.passed }

module _ (first : Begun) (left : List (List ℕ)) (written : ℕ) (last : Begun) (sum : List ℕ) (lines : List (List ℕ)) where
  synced_on : (files : List File) (parts : List Part) → lines ≡ lines_of parts ++ left → AreFiles files parts left → IsOpenRun files parts first left written last → sum ≡ chain_of (passed_of parts)
      → IsRunWith (with_synced files) first left written last sum lines
  synced_on [] parts e f o s = record { parts = parts; lines_are = e; files_are = f; open_is = o; sum_is = s }
  synced_on (file ∷ older) [] e f o s = absurd o
  synced_on (file ∷ older) (part ∷ parts) e f o s = record {
    parts = part ∷ parts;
    lines_are = e;
    files_are = (file_synced (chain_of (passed_of parts)) file part left f.0, f.1);
    open_is = open_synced (chain_of (passed_of parts)) file part first left written last o;
    sum_is = s;
  }

  pub synced_step : (files : List File) → IsRunWith files first left written last sum lines → IsRunWith (with_synced files) first left written last sum lines
  synced_step files h = synced_on files h.parts h.lines_are h.files_are h.open_is h.sum_is
