use Rattle.std.proofs.Common.{◌≡◌, ◌≤◌, [], ◌∷◌, ◌++◌, refl, sym, ap, ◌∙◌, subst, append-nil, append_assoc, arith, length-append, rules}
use Rattle.ledger_files.specs.Runs.{IsRun}
use Rattle.ledger_writer.specs.Entries.{HasParcelBehind}
use Rattle.ledger_writer.specs.Fills.{AreUntil, HasPassed, IsLineOf, Taken, day_at, held_as, last_day}
use Rattle.ledger_writer.proofs.Passing.{days_first, days_later, one_line, passed_one, taken_next}
use Rattle.ledger_writer.proofs.writer.LineSource.fill.Goals.{then-made-eq0, else-made-eq0, then-size-ge-SIZE-via-then-size-ge-SIZE, then-size-ge-SIZE-via-else-size-ge-SIZE+then-day_of-day}
use Rattle.ledger_writer.proofs.writer.LineSource.fill.Goals as goal

pub loop-made-init : goal.loop-made-init
loop-made-init g c = record {
  goes_on = search rules;
  names = refl;
  fills = λ before has lines run. (
    record {
      more = [];
      made = [];
      passed = subst (HasPassed c.args.self.now.entries) (sym (append-nil before)) has;
      are = record {};
      days = record {};
      runs = subst (IsRun (g.D.LedgerDisk.files c.clear.new.self.disk) c.clear.new.self) (sym (append-nil lines)) (c.clear.ensures.run lines run);
    },
    refl,
    refl,
  );
}

pub returns-in_default : goal.returns-in_default
returns-in_default g c = λ before has lines run.
    let so = (c.loop-made.invariant.fills before has lines run).0 in
    record {
      more = so.more;
      made = so.made;
      passed = taken_next c.loop-made.self.entries c.take.new.self (before ++ so.more) c.take.ensures.takes so.passed;
      are = so.are;
      days = so.days;
      runs = so.runs;
    }

pub returns-then-size-ge-SIZE : goal.returns-then-size-ge-SIZE
returns-then-size-ge-SIZE g c = λ before has lines run.
    let so = (c.loop-made.invariant.fills before has lines run).0 in
    let taken : HasPassed c.take.new.self (before ++ so.more) = taken_next c.loop-made.self.entries c.take.new.self (before ++ so.more) c.take.ensures.takes so.passed in
    let same : c.take.new.self ≡ c.then-size-ge-SIZE.self.entries =
    elim c.then-size-ge-SIZE.branch [
      | then-size-ge-SIZE-via-then-size-ge-SIZE w ↦ sym (ap (λ s. s.entries) w.self-is)
      | then-size-ge-SIZE-via-else-size-ge-SIZE+then-day_of-day w ↦ sym (ap (λ s. s.entries) w.self-is)
    ] in
    record {
      more = so.more;
      made = so.made;
      passed = subst (λ buffer. HasPassed buffer (before ++ so.more)) same taken;
      are = so.are;
      days = so.days;
      runs = so.runs;
    }

pub returns-in_err-body : goal.returns-in_err-body
returns-in_err-body g c = λ before has lines run.
    let so = (c.loop-made.invariant.fills before has lines run).0 in
    record {
      more = so.more;
      made = so.made;
      passed = taken_next c.loop-made.self.entries c.take.new.self (before ++ so.more) c.take.ensures.takes so.passed;
      are = so.are;
      days = so.days;
      runs = so.runs;
    }

pub returns-in_err-add : goal.returns-in_err-add
returns-in_err-add g c = λ before has lines run.
    let so = (c.loop-made.invariant.fills before has lines run).0 in
    record {
      more = so.more;
      made = so.made;
      passed = taken_next c.loop-made.self.entries c.take.new.self (before ++ so.more) c.take.ensures.takes so.passed;
      are = so.are;
      days = so.days;
      runs = c.in_err-add.ensures.run (lines ++ so.made) so.runs;
    }

pub loop-made-preserved : goal.loop-made-preserved
loop-made-preserved g c = record {
  goes_on = search rules;
  names = c.loop-made.invariant.names;
  fills = λ before has lines run.
      let found = c.loop-made.invariant.fills before has lines run in
      let so = found.0 in
      let parcel = c.in-Some.parcel in
      let holds = c.in-Some.ensures in
      let one : Taken = held_as parcel.head c.take.new.self.room.items in
      let line = c.as_slice.result.now in
      let taken : HasPassed c.take.new.self (before ++ so.more) = taken_next c.loop-made.self.entries c.take.new.self (before ++ so.more) c.take.ensures.takes so.passed in
      let behind_nothing : HasParcelBehind c.loop-made.self.names parcel [] c.in_ok-body.body.items =
      subst (λ out. HasParcelBehind c.loop-made.self.names parcel out c.in_ok-body.body.items) c.clear-in-loop-made.ensures.items c.in_ok-body.ensures.value in
      let named : HasParcelBehind c.args.self.now.names parcel [] c.in_ok-body.body.items =
      subst (λ names. HasParcelBehind names parcel [] c.in_ok-body.body.items) c.loop-made.invariant.names behind_nothing in
      let is : IsLineOf c.args.self.now.names one line =
      record { parcel = parcel; packets = holds.packets; is = subst (HasParcelBehind c.args.self.now.names parcel []) (sym c.as_slice.ensures.value) named } in
      let within : day_at one ≤ c.if-made-eq0.day = omega (arith, c.if-day_of-day.false, c.day_of-else-size-ge-SIZE.ensures) in
      let days : (c.if-made-eq0.day ≡ last_day c.args.day (so.more ++ one ∷ [])) × AreUntil (last_day c.args.day (so.more ++ one ∷ [])) (so.more ++ one ∷ []) =
      elim c.if-made-eq0.branch [
        | then-made-eq0 w ↦ days_first c.args.day c.loop-made.day c.if-made-eq0.day w.day_of.result so.more one (omega (arith, found.1, w.if-made-eq0.true)) found.2 (w.day-is ∙ w.max-day.ensures) w.day_of.ensures within
        | else-made-eq0 w ↦ days_later c.args.day c.if-made-eq0.day so.more one (omega (arith, found.1, w.if-made-eq0.false)) (w.day-is ∙ found.2) so.days within
      ] in (
        record {
          more = so.more ++ one ∷ [];
          made = so.made ++ line ∷ [];
          passed = subst (HasPassed c.pass.new.self) (append_assoc before so.more (one ∷ [])) (passed_one c.take.new.self c.pass.new.self (before ++ so.more) parcel.head holds.held c.pass.ensures.0 c.pass.ensures.2 taken);
          are = one_line c.args.self.now.names so.more so.made one line so.are is;
          days = days.1;
          runs = subst (IsRun (g.D.LedgerDisk.files c.add.new.self.disk) c.add.new.self) (append_assoc lines so.made (line ∷ [])) (c.in_ok-add.ensures.run (lines ++ so.made) so.runs);
        },
        omega (arith, found.1, length-append so.more (one ∷ [])),
        days.0,
      );
}
