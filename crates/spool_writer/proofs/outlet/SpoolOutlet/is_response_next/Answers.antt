use Rattle.std.proofs.Common.{◌≤◌, subst}
use Rattle.std.proofs.lemmas.Bool.{le-leb, leb-true}
use Rattle.spool_writer.specs.declared.parcel.Parcel.{Parcel}
use Rattle.spool_writer.proofs.Merging.{same_first}
use Rattle.spool_writer.proofs.outlet.SpoolOutlet.is_response_next.Goals as goal

pub returns-then-cached_slots-gt0 : goal.returns-then-cached_slots-gt0
returns-then-cached_slots-gt0 c = record {
  due = (
    (λ is. record { next = c.peek_known.result.now; seen = c.peek_known.ensures; due = leb-true c.peek_known.result.now.before c.args.self.now.taken is }),
    (λ due. le-leb c.peek_known.result.now.before c.args.self.now.taken (subst (λ (p : Parcel). p.before ≤ c.args.self.now.taken) (same_first due.next c.peek_known.result.now _ due.seen c.peek_known.ensures) due.due)),
  );
}
