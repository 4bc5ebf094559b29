use Rattle.std.proofs.Common.{rules}
use Rattle.std.proofs.lemmas.Result.{on_ok_weaker}
use Rattle.rad_audit.specs.Lanes.{Follows}
use Rattle.rad_audit.specs.declared.judging.Content.TheVariants as content
use Rattle.rad_audit.proofs.Stands.{left_not, runs_go}
use Rattle.rad_audit.proofs.runs.Runs.take_left.Goals as goal

pub returns : goal.returns
returns c =
    on_ok_weaker c.take_left.result (λ follow config secret. runs_go c.args.self.now.runs (c.get_mut.follows.lender c.take_left.new.self) c.args.left.now.about.run c.in-Some.run'.now c.take_left.new.self (λ run number. Follows config run number (content.Left c.args.left.now))
    (search rules) (c.get_mut.follows.holds c.take_left.new.self) (follow config secret) (left_not config c.args.left.now)) c.take_left.ensures
