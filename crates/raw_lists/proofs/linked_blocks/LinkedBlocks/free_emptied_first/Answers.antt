use Rattle.std.proofs.Common.{◌≡◌, arith}
use Rattle.raw_lists.specs.Blocks.{first_count}
use Rattle.raw_lists.proofs.Ends.{settled_same}
use Rattle.raw_lists.proofs.Ready.{freed_emptied, chained_first}
use Rattle.raw_lists.proofs.linked_blocks.LinkedBlocks.free_emptied_first.Goals as goal

pub returns-then-left-gt0-clause-blocks : goal.returns-then-left-gt0-clause-blocks
returns-then-left-gt0-clause-blocks g c =
    let n = c.first_len-left.ensures in let some = c.if-left-gt0.true in settled_same c.args.self (chained_first c.args.self c.requires.chained (omega arith))

pub into_empty-requires : goal.into_empty-requires
into_empty-requires g c =
    let r = c.split_first-rest in let n = c.first_len-left.ensures in let none = c.if-left-gt0.false in let no : first_count c.args.self ≡ 0 = omega arith in
    (freed_emptied c.args.self r.result.0 r.result.1.block r.ensures c.requires.chained c.requires.followed no).0

pub returns-clause-blocks : goal.returns-clause-blocks
returns-clause-blocks g c =
    let r = c.split_first-rest in let n = c.first_len-left.ensures in let none = c.if-left-gt0.false in let no : first_count c.args.self ≡ 0 = omega arith in
    (freed_emptied c.args.self r.result.0 r.result.1.block r.ensures c.requires.chained c.requires.followed no).1
