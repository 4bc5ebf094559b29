use Rattle.std.proofs.Common.{rules}
use Rattle.std.proofs.lemmas.Result.{on_ok_weaker}
use Rattle.rad_audit.specs.Lanes.{Follows}
use Rattle.rad_audit.specs.declared.judging.Content.TheVariants as content
use Rattle.rad_audit.proofs.Stands.{entry_not, runs_go}
use Rattle.rad_audit.proofs.runs.Runs.take_entry.Goals as goal

pub returns : goal.returns
returns c =
    on_ok_weaker c.take_entry.result (λ follow config. runs_go c.args.self.now.runs (c.get_mut.follows.lender c.take_entry.new.self) c.args.judged.now.entry.about.run c.in-Some.run'.now c.take_entry.new.self (λ run number. Follows config run number (content.Entry c.args.judged.now))
    (search rules) (c.get_mut.follows.holds c.take_entry.new.self) (follow config) (entry_not config c.args.judged.now)) c.take_entry.ensures
