use Rattle.std.proofs.Common.{rules}
use Rattle.rad_audit.specs.Lanes.{Follows}
use Rattle.rad_audit.specs.declared.judging.Content.TheVariants as content
use Rattle.rad_audit.proofs.Stands.{earlier_not, runs_go}
use Rattle.rad_audit.proofs.runs.Runs.take_earlier.Goals as goal

pub returns : goal.returns
returns c =
    λ config. runs_go c.args.self.now.runs (c.get_mut.follows.lender c.take_earlier.new.self) c.args.count.now.run c.in-Some.run'.now c.take_earlier.new.self (λ run number. Follows config run number (content.AgainEarlier c.args.count.now))
    (search rules) (c.get_mut.follows.holds c.take_earlier.new.self) (c.take_earlier.ensures config) (earlier_not config c.args.count.now)
