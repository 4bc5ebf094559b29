-- What a crash leaves in each of the calls of a segment.
use Rattle.std.proofs.Common.{◌≡◌, ℕ, ◌+◌, ◌≤◌, List, [], ◌∷◌, ◌++◌, length, inl, sym, ap, ◌∙◌, subst, arith}
use Rattle.spool_files.specs.Devices.{Holds, Torn, Follows, Only, Elapses, LeavesOnly}
use Rattle.spool_files.specs.Batches.{Batch, frame_octets, at_rest, FitsBatch, Has, IsBeforeOrAfter}
use Rattle.spool_files.specs.Segments.{IsSettled}
use Rattle.spool_files.specs.declared.segment.Segment.{Segment}
use Rattle.spool_files.proofs.MomentLemmas.{started, goes_on}
use Rattle.spool_files.proofs.Rows.{All-push}
use Rattle.spool_files.proofs.CrashLemmas.{empty_crash, end-pushed, gate_crash, has_closed, has_short, length-at_rest, stage_crash, staged, staged-long, written_behind, written_gate}

module _ {D : Type 0} (moment : D → ℕ) (left_since : D → ℕ → List ℕ → Type 0) (may_leave : D → List ℕ → Type 0)
    (only_now : (file : D) (c : List ℕ) → left_since file (moment file) c → may_leave file c) (old : D) where
  -- a sync
  pub only_synced : (new : D) → ((c : List ℕ) → may_leave new c → may_leave old c) → Elapses (moment old) (moment new) (left_since old) (left_since new) (may_leave new)
      → LeavesOnly moment left_since old new (may_leave old)
  only_synced new fewer time = goes_on moment left_since old old new (may_leave old) (may_leave new) (started moment left_since old (may_leave old) (only_now old)) time fewer

  -- the closed gate of an empty file, and its sync
  abbrev None : List ℕ → Type 0
  None c = Has c []

  module _ (only : Only [] (may_leave old)) (d1 : D) (crash1 : Follows (Torn 0 1) (may_leave old) (may_leave d1)) (time1 : Elapses (moment old) (moment d1) (left_since old) (left_since d1) (may_leave d1)) where
    pub closed : LeavesOnly moment left_since old d1 None
    closed =
        goes_on moment left_since old old d1 None (may_leave d1)
        (started moment left_since old None (λ c left. subst None (sym (only c (only_now old c left))) (has_short [] (omega arith))))
        time1 (empty_crash (may_leave old) (may_leave d1) only crash1)

    pub closed_synced : (d2 : D) → ((c : List ℕ) → may_leave d2 c → may_leave d1 c) → Elapses (moment d1) (moment d2) (left_since d1) (left_since d2) (may_leave d2)
        → LeavesOnly moment left_since old d2 None
    closed_synced d2 fewer time2 =
        goes_on moment left_since old d1 d2 None (may_leave d2) closed time2 (λ c left. empty_crash (may_leave old) (may_leave d1) only crash1 c (fewer c left))

module _ {D : Type 0} (seen : D → List ℕ) (may_leave : D → List ℕ → Type 0) (moment : D → ℕ) (left_since : D → ℕ → List ℕ → Type 0)
    (only_now : (file : D) (c : List ℕ) → left_since file (moment file) c → may_leave file c)
    (segment : Segment D) (batches : List Batch) (settled : IsSettled seen may_leave segment batches) (batch : Batch) where
  abbrev P : List ℕ → Type 0
  P = IsBeforeOrAfter batches batch

  abbrev Left : D → Type 0
  Left new = LeavesOnly moment left_since segment.device new P

  abbrev Time : D → D → Type 0
  Time old new = Elapses (moment old) (moment new) (left_since old) (left_since new) (may_leave new)

  abbrev Fewer : D → D → Type 0
  Fewer old new = (c : List ℕ) → may_leave new c → may_leave old c

  -- the closed gate is in the file
  pub gate_in : segment.end + 1 ≤ length (seen segment.device)
  gate_in = omega (arith, ap length settled.file, length-at_rest batches segment.end settled.end settled.fit)

  at_start : Left segment.device
  at_start =
      let here : Has (at_rest batches) batches = has_closed batches 0 [] settled.fit (omega arith) in
      started moment left_since segment.device P (λ f left. inl (subst (λ (l : List ℕ). Has l batches) (sym (settled.durable f (only_now segment.device f left) ∙ settled.file)) here))

  -- the first write and sync
  module _ (n : ℕ) (d1 : D) (crash1 : Follows (Torn (segment.end + 1) n) (may_leave segment.device) (may_leave d1)) (time1 : Time segment.device d1) where
    first : (c : List ℕ) → may_leave d1 c → Has c batches
    first = stage_crash batches segment.end settled.end settled.fit n (may_leave segment.device) (may_leave d1) (subst (λ f. Only f (may_leave segment.device)) settled.file settled.durable) crash1

    pub wrote : Left d1
    wrote = goes_on moment left_since segment.device segment.device d1 P (may_leave d1) at_start time1 (λ f now. inl (first f now))

    pub synced : (d2 : D) → Fewer d1 d2 → Time d1 d2 → Left d2
    synced d2 fewer time2 = goes_on moment left_since segment.device d1 d2 P (may_leave d2) wrote time2 (λ f now. inl (first f (fewer f now)))

    -- and the second ones
    module _ (octets : List ℕ) (framed : octets ≡ frame_octets batch ++ 0 ∷ []) (holds1 : Holds (seen segment.device) (segment.end + 1) octets (seen d1)) (fits : FitsBatch batch)
        (d2 : D) (fewer2 : Fewer d1 d2) (time2 : Time d1 d2) (same2 : seen d2 ≡ seen d1) (only2 : Only (seen d2) (may_leave d2)) where
      is_staged : seen d2 ≡ staged batches segment.end settled.end settled.fit batch
      is_staged =
          same2 ∙ written_behind batches segment.end settled.end settled.fit batch (seen d1) octets framed (subst (λ f. Holds f (segment.end + 1) octets (seen d1)) settled.file holds1)

      pub gate_in_staged : segment.end ≤ length (seen d2)
      gate_in_staged = omega (arith, ap length is_staged, staged-long batches segment.end settled.end settled.fit batch)

      module _ (d3 : D) (crash3 : Follows (Torn segment.end 1) (may_leave d2) (may_leave d3)) (time3 : Time d2 d3) where
        second : (c : List ℕ) → may_leave d3 c → P c
        second = gate_crash batches segment.end settled.end settled.fit batch (may_leave d2) (may_leave d3) fits (subst (λ f. Only f (may_leave d2)) is_staged only2) crash3

        pub opened : Left d3
        opened = goes_on moment left_since segment.device d2 d3 P (may_leave d3) (synced d2 fewer2 time2) time3 second

        pub ended : (d4 : D) → Fewer d3 d4 → Time d3 d4 → Left d4
        ended d4 fewer time4 = goes_on moment left_since segment.device d3 d4 P (may_leave d4) opened time4 (λ f now. second f (fewer f now))

      pub kept : (d3 d4 : D) (end : ℕ) → Holds (seen d2) segment.end (1 ∷ []) (seen d3) → seen d4 ≡ seen d3 → Only (seen d4) (may_leave d4) → end ≡ segment.end + (9 + length batch.1)
          → IsSettled seen may_leave (record { device = d4; end = end }) (batches ++ batch ∷ [])
      kept d3 d4 end holds3 same4 only4 is = record {
        fit = All-push FitsBatch batches batch settled.fit fits;
        file = same4 ∙ written_gate batches segment.end settled.end settled.fit batch (seen d3) (subst (λ f. Holds f segment.end (1 ∷ []) (seen d3)) is_staged holds3);
        end = is ∙ sym (end-pushed batches segment.end settled.end settled.fit batch);
        durable = only4;
      }
