use Rattle.std.proofs.Common.{rules, ◌≡◌, length}
use Rattle.spool_files.proofs.HeadLemmas.{one_by_one}
use Rattle.spool_files.proofs.heads.kind_and_key.Goals as goal

pub returns : goal.returns
returns c =
    let sixteen : length c.args.key.now.authenticator ≡ 16 = search rules in
    let four : length c.args.key.now.client ≡ 4 = search rules in
    one_by_one c.args.kind c.args.key.now c.to_be_bytes-p.result sixteen four c.to_be_bytes-p.ensures
