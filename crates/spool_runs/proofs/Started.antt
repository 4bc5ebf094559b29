-- What a start offers: each request once, and none that was answered behind.
use Rattle.std.proofs.Common.{ℕ, List}
use Rattle.std.specs.List.{Contains}
use Rattle.std.proofs.lemmas.List.Sorted.{Contains-permutation, IsPermutation-sym}
use Rattle.spool_files.specs.Entries.{Entry}
use Rattle.spool_files.specs.Counting.{is_request, open_of}
use Rattle.spool_runs.specs.World.{Setup, World}
use Rattle.spool_runs.specs.Happens.{Happens, IsOffered, Life}
use Rattle.spool_runs.specs.Happens.Happening.{starts}
use Rattle.spool_runs.specs.Laws.{AreOfferedOnce, OffersOnce}
use Rattle.spool_runs.proofs.Counted.{OtherKeys, other_back, counted_apart, counted_stands}
use Rattle.spool_runs.proofs.Shuffled.{shuffled_pairs}
use Rattle.spool_runs.proofs.SpoolSame.{counts_the_same}

pub once : (disk offered : List Entry) → IsOffered disk offered → AreOfferedOnce offered
once disk offered o = shuffled_pairs OtherKeys other_back (open_of disk) offered o.same (counted_apart is_request disk)

pub was_open : (disk offered : List Entry) (it : Entry) → IsOffered disk offered → Contains offered it → Contains (open_of disk) it
was_open disk offered it o there = Contains-permutation offered (open_of disk) it (IsPermutation-sym (open_of disk) offered o.same) there

pub offers_once : (old new : World) (setup : Setup) (moment : ℕ) (offered : List Entry) (next : ℕ) → Life old → Happens old (starts setup moment offered next) new → OffersOnce old offered
offers_once old new setup moment offered next life h = record {
  once = once old.disk offered h.offers;
  unanswered = λ it there.
      let c = counted_stands is_request old.written it ((counts_the_same old life).requests it (was_open old.disk offered it h.offers there)) in
      record { before = c.before; later = c.later; split = c.split; last = c.last };
}
