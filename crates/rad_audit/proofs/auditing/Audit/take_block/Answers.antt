use Rattle.std.proofs.Common.{rules}
use Rattle.rad_audit.specs.Blocks.{octets_in}
use Rattle.rad_audit.specs.Lanes.{TakesOctets}
use Rattle.rad_audit.proofs.Parts.{ok_both}
use Rattle.rad_audit.proofs.Taken.{takes_parts}
use Rattle.rad_audit.proofs.auditing.Audit.take_block.Goals as goal

pub returns-clause-taken : goal.returns-clause-taken
returns-clause-taken g c =
    let config = c.args.self.now.taken.config.now in
    let octets = octets_in c.args.self.now.block in
    let old = c.args.self.now.taken.known.runs in
    let new = c.take_parts.new.self.known.runs in
    ok_both c.take_parts.result _ _ (λ _. TakesOctets config octets old new) c.take_parts.ensures.whole c.take_parts.ensures.taken
    (λ _ whole taken. takes_parts config octets c.as_slice.result.now old new (search rules) (search rules) whole taken)
