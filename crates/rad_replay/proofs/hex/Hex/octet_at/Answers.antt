use Rattle.std.proofs.Common.{◌+◌, ◌*◌, ◌<◌, length, arith}
use Rattle.rad_replay.proofs.HexLemmas.{written_octet}
use Rattle.rad_replay.proofs.hex.Hex.octet_at.Goals as goal

pub returns : goal.returns
returns c =
    let digits = c.args.self.now.digits.now in
    let within : 2 * c.args.index + 1 < length digits = omega (arith, c.if-prove.false) in
    cc (written_octet digits c.args.index within)
