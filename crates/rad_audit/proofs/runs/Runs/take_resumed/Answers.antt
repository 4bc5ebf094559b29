use Rattle.std.proofs.Common.{rules}
use Rattle.rad_audit.specs.Lanes.{Follows}
use Rattle.rad_audit.specs.declared.judging.Content.TheVariants as content
use Rattle.rad_audit.proofs.Stands.{resumed_not, runs_go}
use Rattle.rad_audit.proofs.runs.Runs.take_resumed.Goals as goal

pub returns : goal.returns
returns c =
    λ config. runs_go c.args.self.now.runs (c.get_mut.follows.lender c.take_resumed.new.self) c.args.resumed.now.run c.in-Some.run'.now c.take_resumed.new.self (λ run number. Follows config run number (content.Resumed c.args.resumed.now))
    (search rules) (c.get_mut.follows.holds c.take_resumed.new.self) (c.take_resumed.ensures config) (resumed_not config c.args.resumed.now)
