use Rattle.std.proofs.Common.{◌≡◌, ℕ, ◌<◌, ◌≤◌, true, false, refl, sym, arith}
use Rattle.std.proofs.lemmas.Bool.{false≢true}
use Rattle.rad_server.proofs.Keeping.{no_first, take_at, take_first_at}
use Rattle.rad_server.proofs.sending.client_queues.ClientQueues.take_first.Goals as goal

-- A place that is not within a list is past it.
past_end : {i n : ℕ} → (i < n → false ≡ true) → n ≤ i
past_end {i = i} {n = n} none = grind (arith, λ (below : i < n). false≢true (none below))

pub invariant_of-self : goal.invariant_of-self
invariant_of-self c =
    let after = take_at c.args.self.now.list.items c.args.place c.take.new.self c.in-Some.queue.now c.take.result
    (omega (arith, c.args.self.now.list.ok.0, c.in-Some.ensures.variant.0 refl)) c.args.self.now.own c.args.self.now.apart c.in-Some.ensures.value c.take.ensures.client c.take.ensures.takes in
    record { own = after.own; apart = after.apart }

pub returns-in-Some-clause-order : goal.returns-in-Some-clause-order
returns-in-Some-clause-order c =
    (take_at c.args.self.now.list.items c.args.place c.take.new.self c.in-Some.queue.now c.take.result
    (omega (arith, c.args.self.now.list.ok.0, c.in-Some.ensures.variant.0 refl)) c.args.self.now.own c.args.self.now.apart c.in-Some.ensures.value c.take.ensures.client c.take.ensures.takes).order

pub returns-in-Some-clause-first : goal.returns-in-Some-clause-first
returns-in-Some-clause-first c =
    take_first_at c.args.self.now.list.items c.args.place c.in-Some.queue.now c.take.new.self.datagrams.items c.take.result
    (omega (arith, c.args.self.now.list.ok.0, c.in-Some.ensures.variant.0 refl)) c.in-Some.ensures.value c.take.ensures.takes

pub returns-in-None-clause-first : goal.returns-in-None-clause-first
returns-in-None-clause-first c = sym (no_first c.args.self.now.list.items c.args.place (omega (arith, c.args.self.now.list.ok.0, past_end c.in-None.ensures.variant.1)))
