-- The first fault of limits, and numbers that are in their ranges.
use Rattle.std.proofs.Common.{◌≡◌, ℕ, zero, suc, ◌≤◌, ◌&&◌, nat_le, le-leb, if◌then◌else◌, ap, ◌∙◌, List, [], ◌∷◌, Some, None, Result, Ok, Err, refl, arith, inl, inr}
use Rattle.std.specs.List.{AllByRecursion}
use Rattle.std.specs.Result.{result_err}
use Rattle.std.proofs.lemmas.Bool.{and_parts, cases_Bool, leb-true}
use Rattle.rad_config.specs.declared.limits.LimitNumbers.{LimitNumbers}
use Rattle.rad_config.specs.declared.limits.LimitFault.{LimitFault}
use Rattle.rad_config.specs.Limits.{Limit, AreInRange, limits_of, first_fault}

kept_first : (l : Limit) (ls : List Limit) → first_fault (l ∷ ls) ≡ None → (l.least ≤ l.number) × (l.number ≤ l.most) × (first_fault ls ≡ None)
kept_first l ls e =
    elim (cases_Bool (nat_le l.least l.number && nat_le l.number l.most)) [
      | inl kept ↦
          let parts = and_parts (nat_le l.least l.number) (nat_le l.number l.most) kept in
          (leb-true l.least l.number parts.0, leb-true l.number l.most parts.1, rw kept at e)
      | inr broken ↦ let h : Some l.fault ≡ None = rw broken at e in absurd cc
    ]

abbrev IsKept : Limit → Type 0
IsKept l = (l.least ≤ l.number) × (l.number ≤ l.most)

all_kept : (ls : List Limit) → first_fault ls ≡ None → AllByRecursion IsKept ls
all_kept [] e = tt
all_kept (l ∷ ls) e = let first = kept_first l ls e in ((first.0, first.1), all_kept ls first.2)

none_broken : (ls : List Limit) → AllByRecursion IsKept ls → first_fault ls ≡ None
none_broken [] kept = refl
none_broken (l ∷ ls) kept = rw (le-leb l.least l.number kept.0.0, le-leb l.number l.most kept.0.1) (none_broken ls kept.1)

pub in_range : (n : LimitNumbers) → first_fault (limits_of n) ≡ None → AreInRange n
in_range n e =
    let k = all_kept (limits_of n) e in
    record {
      ports = k.0;
      window = k.1.0;
      queue = k.1.1.0;
      book = k.1.1.1.0;
      tries = k.1.1.1.1.0;
      first_wait = k.1.1.1.1.1.0;
      probe_every = k.1.1.1.1.1.1.0;
      down_wait = k.1.1.1.1.1.1.1.0;
      span = k.1.1.1.1.1.1.1.1.0.1;
      ring = k.1.1.1.1.1.1.1.1.1.0;
    }

pub no_fault : (n : LimitNumbers) → AreInRange n → first_fault (limits_of n) ≡ None
no_fault n h =
    none_broken (limits_of n) (h.ports, (h.window, (h.queue, (h.book, (h.tries, (h.first_wait, (h.probe_every, (h.down_wait, ((omega arith, h.span), (h.ring, tt))))))))))

-- the limits before this index are kept, and the test of that one told of a fault
abbrev pub IsRefusedAt : ℕ → List Limit → LimitFault → Type 0
IsRefusedAt k [] told = ⊥
IsRefusedAt zero (l ∷ ls) told = ◌≡◌ {A = Result Unit LimitFault} (Err told) (if nat_le l.least l.number && nat_le l.number l.most then Ok tt else Err l.fault)
IsRefusedAt (suc k) (l ∷ ls) told = IsKept l × IsRefusedAt k ls told

told_at : (k : ℕ) (ls : List Limit) (told : LimitFault) → IsRefusedAt k ls told → Some told ≡ first_fault ls
told_at k [] told h = absurd h
told_at zero (l ∷ ls) told h =
    elim (cases_Bool (nat_le l.least l.number && nat_le l.number l.most)) [
      | inl kept ↦ let e : ◌≡◌ {A = Result Unit LimitFault} (Err told) (Ok tt) = rw kept at h in absurd cc
      | inr broken ↦ let e : ◌≡◌ {A = Result Unit LimitFault} (Err told) (Err l.fault) = rw broken at h in rw broken cc
    ]
told_at (suc k) (l ∷ ls) told h = rw (le-leb l.least l.number h.0.0, le-leb l.number l.most h.0.1) (told_at k ls told h.1)

pub refused_at : {T : Type 0} (k : ℕ) (ls : List Limit) (r : Result T LimitFault) (fault told : LimitFault) → r ≡ Err fault → fault ≡ told → IsRefusedAt k ls told → result_err r ≡ first_fault ls
refused_at k ls r fault told refused same h = ap result_err refused ∙ ap Some same ∙ told_at k ls told h
