-- What a crash leaves in each of the two writes of a batch.
use Rattle.std.proofs.Common.{◌≡◌, ◌≢◌, ℕ, ◌+◌, ◌<◌, List, [], ◌∷◌, ◌++◌, length, get_or, take, drop, refl, inl, inr, sym, ◌∙◌, ap, subst, arith, append_assoc, length-append, take-append-drop}
use Rattle.std.proofs.lemmas.Bool.{cases_eq}
use Rattle.std.proofs.lemmas.List.{take_at, drop_at, drop_more, take_all, drop_all, append-nil}
use Rattle.spool_files.specs.Devices.{Holds, Torn, Follows, Only}
use Rattle.spool_files.specs.Batches.{Batch, frame_octets, batch_octets, octets_of_batches, at_rest, FitsBatch, AreBatches, Has, IsBeforeOrAfter}
use Rattle.spool_files.proofs.BatchLemmas.{NoBatch-closed, NoBatch-short}
use Rattle.spool_files.proofs.Rows.{All-push, row-push}

pub has_closed : (batches : List Batch) (gate : ℕ) (rest : List ℕ) → AreBatches batches → gate ≢ 1 → Has (octets_of_batches batches ++ gate ∷ rest) batches
has_closed batches gate rest fit shut = record { rest = gate ∷ rest; split = refl; fit = fit; ends = NoBatch-closed gate rest shut }

pub has_short : (rest : List ℕ) → length rest < 2 → Has rest []
has_short rest short = record { rest = rest; split = refl; fit = tt; ends = NoBatch-short rest short }

-- ---- an empty file

pub torn_empty : (c : List ℕ) → Torn 0 1 [] c → Has c []
torn_empty c torn = has_short c (omega (arith, torn.no_longer))

pub empty_crash : (old new : List ℕ → Type 0) → Only [] old → Follows (Torn 0 1) old new → (c : List ℕ) → new c → Has c []
empty_crash old new only follows c left =
    let from = follows c left in
    torn_empty c (subst (λ f. Torn 0 1 f c) (only from.0 from.1) from.2)

pub written_empty : (c : List ℕ) → Holds [] 0 (0 ∷ []) c → c ≡ 0 ∷ []
written_empty c holds = holds

-- ---- a batch

module _ (batches : List Batch) (end : ℕ) (counts : end ≡ length (octets_of_batches batches)) (fit : AreBatches batches) where
  abbrev front_octets : List ℕ
  front_octets = octets_of_batches batches

  size : length front_octets ≡ end
  size = sym counts

  pub length-at_rest : length (at_rest batches) ≡ end + 1
  length-at_rest = omega (arith, size, length-append front_octets (0 ∷ []))

  -- the closed gate stands in each outcome of the first write
  torn_behind : (n : ℕ) (c : List ℕ) → Torn (end + 1) n (at_rest batches) c → Has c batches
  torn_behind n c torn =
      let front : take (end + 1) c ≡ at_rest batches = torn.before ∙ take_all _ _ (omega (arith, length-at_rest)) in
      let whole : c ≡ front_octets ++ 0 ∷ drop (end + 1) c =
      sym (take-append-drop (end + 1) c) ∙ ap (λ (l : List ℕ). l ++ drop (end + 1) c) front ∙ append_assoc front_octets (0 ∷ []) (drop (end + 1) c) in
      subst (λ (l : List ℕ). Has l batches) (sym whole) (has_closed batches 0 (drop (end + 1) c) fit (omega arith))

  pub stage_crash : (n : ℕ) (old new : List ℕ → Type 0) → Only (at_rest batches) old → Follows (Torn (end + 1) n) old new → (c : List ℕ) → new c → Has c batches
  stage_crash n old new only follows c left =
      let from = follows c left in
      torn_behind n c (subst (λ f. Torn (end + 1) n f c) (only from.0 from.1) from.2)

  module _ (batch : Batch) where
    -- the file with the batch behind the closed gate
    abbrev pub staged : List ℕ
    staged = front_octets ++ 0 ∷ (frame_octets batch ++ 0 ∷ [])

    pub written_behind : (c octets : List ℕ) → octets ≡ frame_octets batch ++ 0 ∷ [] → Holds (at_rest batches) (end + 1) octets c → c ≡ staged
    written_behind c octets is holds =
        holds
        ∙ ap (λ (l : List ℕ). l ++ octets ++ drop (end + 1 + length octets) (at_rest batches)) (take_all _ _ (omega (arith, length-at_rest)))
        ∙ ap (λ (l : List ℕ). at_rest batches ++ octets ++ l) (drop_all (end + 1 + length octets) (at_rest batches) (omega (arith, length-at_rest)))
        ∙ append-nil (at_rest batches ++ octets)
        ∙ ap (λ (l : List ℕ). at_rest batches ++ l) is
        ∙ append_assoc front_octets (0 ∷ []) (frame_octets batch ++ 0 ∷ [])

    front : take end staged ≡ front_octets
    front = take_at front_octets (0 ∷ (frame_octets batch ++ 0 ∷ [])) end size

    back : drop (end + 1) staged ≡ frame_octets batch ++ 0 ∷ []
    back =
        ap (λ (l : List ℕ). drop (end + 1) l) (sym (append_assoc front_octets (0 ∷ []) (frame_octets batch ++ 0 ∷ [])))
        ∙ drop_at (at_rest batches) (frame_octets batch ++ 0 ∷ []) (end + 1) length-at_rest

    pub staged-long : end < length staged
    staged-long = omega (arith, size, length-append front_octets (0 ∷ (frame_octets batch ++ 0 ∷ [])))

    regrouped : front_octets ++ 1 ∷ (frame_octets batch ++ 0 ∷ []) ≡ at_rest (batches ++ batch ∷ [])
    regrouped =
        sym (append_assoc front_octets (batch_octets batch) (0 ∷ []))
        ∙ ap (λ (l : List ℕ). l ++ 0 ∷ []) (sym (row-push batch_octets batches batch))

    -- the batch stands whole in each outcome of the second write
    torn_gate : (c : List ℕ) → FitsBatch batch → Torn end 1 staged c → IsBeforeOrAfter batches batch c
    torn_gate c fits torn =
        let gate = get_or c end 0 in
        let rest : drop end c ≡ gate ∷ (frame_octets batch ++ 0 ∷ []) =
        drop_more c end 0 (omega (arith, torn.no_shorter, staged-long)) ∙ ap (λ (l : List ℕ). gate ∷ l) (torn.after ∙ back) in
        let whole : c ≡ front_octets ++ gate ∷ (frame_octets batch ++ 0 ∷ []) =
        sym (take-append-drop end c) ∙ ap (λ (l : List ℕ). l ++ drop end c) (torn.before ∙ front) ∙ ap (λ (l : List ℕ). front_octets ++ l) rest in
        subst (IsBeforeOrAfter batches batch) (sym whole) (either gate)
      where
        either : (gate : ℕ) → IsBeforeOrAfter batches batch (front_octets ++ gate ∷ (frame_octets batch ++ 0 ∷ []))
        either gate = elim (cases_eq gate 1) [
          | inl opened ↦
              let split : front_octets ++ gate ∷ (frame_octets batch ++ 0 ∷ []) ≡ at_rest (batches ++ batch ∷ []) = ap (λ (g : ℕ). front_octets ++ g ∷ (frame_octets batch ++ 0 ∷ [])) opened ∙ regrouped in
              inr (subst (λ (l : List ℕ). Has l (batches ++ batch ∷ [])) (sym split) (has_closed (batches ++ batch ∷ []) 0 [] (All-push FitsBatch batches batch fit fits) (omega arith)))
          | inr shut ↦ inl (has_closed batches gate (frame_octets batch ++ 0 ∷ []) fit shut)
        ]

    pub gate_crash : (old new : List ℕ → Type 0) → FitsBatch batch → Only staged old → Follows (Torn end 1) old new → (c : List ℕ) → new c → IsBeforeOrAfter batches batch c
    gate_crash old new fits only follows c left =
        let from = follows c left in
        torn_gate c fits (subst (λ f. Torn end 1 f c) (only from.0 from.1) from.2)

    pub written_gate : (c : List ℕ) → Holds staged end (1 ∷ []) c → c ≡ at_rest (batches ++ batch ∷ [])
    written_gate c holds =
        holds
        ∙ ap (λ (l : List ℕ). l ++ (1 ∷ []) ++ drop (end + 1) staged) front
        ∙ ap (λ (l : List ℕ). front_octets ++ (1 ∷ []) ++ l) back
        ∙ append_assoc front_octets (1 ∷ []) (frame_octets batch ++ 0 ∷ [])
        ∙ regrouped

    pub end-pushed : length (octets_of_batches (batches ++ batch ∷ [])) ≡ end + (9 + length batch.1)
    end-pushed = omega (arith, size, ap length (row-push batch_octets batches batch), length-append front_octets (batch_octets batch))
