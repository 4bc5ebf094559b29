use Rattle.std.proofs.Common.{◌∙◌, sym}
use Rattle.raw_lists.proofs.Ends.{ends_have, ends_none}
use Rattle.raw_lists.proofs.linked_blocks.LinkedBlocks.ends_empty.Goals as goal

pub returns-clause-is : goal.returns-clause-is
returns-clause-is g c = c.is_empty.ensures ∙ ends_none c.args.self.now c.last.result.now c.last.ensures

pub returns-clause-no : goal.returns-clause-no
returns-clause-no g c = λ some. ends_have c.args.self.now c.last.result.now c.last.ensures c.requires (sym c.is_empty.ensures ∙ some)
