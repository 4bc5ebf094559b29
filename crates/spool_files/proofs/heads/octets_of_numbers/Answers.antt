use Rattle.std.proofs.Common.{rules, ◌≡◌, length}
use Rattle.spool_files.proofs.HeadLemmas.{numbers_one_by_one}
use Rattle.spool_files.proofs.heads.octets_of_numbers.Goals as goal

pub returns : goal.returns
returns c =
    let four : length c.args.came.now.ours.address ≡ 4 = search rules in
    numbers_one_by_one c.args.came.now.ours.address _ _ _ _ _ _ _ _ _ _ _ _ four c.to_be_bytes-p.ensures c.to_be_bytes-v.ensures c.to_be_bytes-r.ensures c.to_be_bytes-l.ensures c.to_be_bytes-n.ensures c.to_be_bytes-m.ensures
