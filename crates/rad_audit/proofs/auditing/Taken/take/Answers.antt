use Rattle.std.proofs.Common.{sym, subst}
use Rattle.std.proofs.lemmas.Result.{on_ok_weaker}
use Rattle.rad_audit.specs.Lanes.{Follow}
use Rattle.rad_audit.specs.declared.judging.Content.{Content}
use Rattle.rad_audit.proofs.Stands.{on_ok, taken_of}
use Rattle.rad_audit.proofs.auditing.Taken.take.Goals as goal

pub returns-in-Begin-clause-taken : goal.returns-in-Begin-clause-taken
returns-in-Begin-clause-taken g c =
    on_ok_weaker c.take_begin.result (λ follow. taken_of c.args.self.now.config.now c.args.line.now.content c.args.self.now.known.runs c.take_begin.new.known.runs
    (subst (λ (x : Content). Follow c.args.self.now.config.now x c.args.self.now.known.runs c.take_begin.new.known.runs) (sym c.in-Begin.is) (follow c.args.self.now.config.now))) c.take_begin.ensures

pub returns-in-Entry-clause-taken : goal.returns-in-Entry-clause-taken
returns-in-Entry-clause-taken g c =
    on_ok_weaker c.take_entry.result (λ follow. taken_of c.args.self.now.config.now c.args.line.now.content c.args.self.now.known.runs c.take_entry.new.known.runs
    (subst (λ (x : Content). Follow c.args.self.now.config.now x c.args.self.now.known.runs c.take_entry.new.known.runs) (sym c.in-Entry.is) (follow c.args.self.now.config.now))) c.take_entry.ensures

pub returns-in-Left-clause-taken : goal.returns-in-Left-clause-taken
returns-in-Left-clause-taken g c =
    on_ok_weaker c.take_left.result (λ follow. taken_of c.args.self.now.config.now c.args.line.now.content c.args.self.now.known.runs c.take_left.new.known.runs
    (subst (λ (x : Content). Follow c.args.self.now.config.now x c.args.self.now.known.runs c.take_left.new.known.runs) (sym c.in-Left.is) follow)) c.take_left.ensures

pub returns-in-Count-clause-taken : goal.returns-in-Count-clause-taken
returns-in-Count-clause-taken g c =
    on_ok_weaker c.take_count.result (λ follow. taken_of c.args.self.now.config.now c.args.line.now.content c.args.self.now.known.runs c.take_count.new.known.runs
    (subst (λ (x : Content). Follow c.args.self.now.config.now x c.args.self.now.known.runs c.take_count.new.known.runs) (sym c.in-Count.is) (follow c.args.self.now.config.now))) c.take_count.ensures

pub returns-in-AgainEarlier-clause-taken : goal.returns-in-AgainEarlier-clause-taken
returns-in-AgainEarlier-clause-taken g c =
    on_ok_weaker c.take_earlier.result (λ follow. taken_of c.args.self.now.config.now c.args.line.now.content c.args.self.now.known.runs c.take_earlier.new.known.runs
    (subst (λ (x : Content). Follow c.args.self.now.config.now x c.args.self.now.known.runs c.take_earlier.new.known.runs) (sym c.in-AgainEarlier.is) (follow c.args.self.now.config.now))) c.take_earlier.ensures

pub returns-in-Resumed-clause-taken : goal.returns-in-Resumed-clause-taken
returns-in-Resumed-clause-taken g c =
    on_ok_weaker c.take_resumed.result (λ follow. taken_of c.args.self.now.config.now c.args.line.now.content c.args.self.now.known.runs c.take_resumed.new.known.runs
    (subst (λ (x : Content). Follow c.args.self.now.config.now x c.args.self.now.known.runs c.take_resumed.new.known.runs) (sym c.in-Resumed.is) (follow c.args.self.now.config.now))) c.take_resumed.ensures

pub returns-in-End-clause-taken : goal.returns-in-End-clause-taken
returns-in-End-clause-taken g c =
    on_ok_weaker c.take_end.result (λ follow. taken_of c.args.self.now.config.now c.args.line.now.content c.args.self.now.known.runs c.take_end.new.known.runs
    (subst (λ (x : Content). Follow c.args.self.now.config.now x c.args.self.now.known.runs c.take_end.new.known.runs) (sym c.in-End.is) (follow c.args.self.now.config.now))) c.take_end.ensures

pub returns-in-Hidden-clause-taken : goal.returns-in-Hidden-clause-taken
returns-in-Hidden-clause-taken g c =
    on_ok c.take_hidden.result (taken_of c.args.self.now.config.now c.args.line.now.content c.args.self.now.known.runs c.take_hidden.new.known.runs
    (subst (λ (x : Content). Follow c.args.self.now.config.now x c.args.self.now.known.runs c.take_hidden.new.known.runs) (sym c.in-Hidden.is) (c.take_hidden.ensures c.args.self.now.config.now)))
