use Rattle.std.proofs.Common.{refl}
use Rattle.std.proofs.lemmas.Option.{slice_get_read}
use Rattle.rad_lane.proofs.setup.Setup.of.Goals as goal

pub returns : goal.returns
returns c =
    let home = rw (c.homes.ensures.value, c.from.ensures) at c.index-homes-from.is in
    record {
      home = c.index-homes-from.result;
      there = slice_get_read c.args.config.now.homes _ c.args.lane c.index-homes-from.result refl c.requires home;
      parts = rw (c.limits.ensures, c.secret.ensures, c.in_ok-realms_of.ensures, c.realms.ensures.value, c.in_ok-unlisted_of.ensures, c.is_same_lane.ensures, c.lane_of.ensures.lane) refl;
    }
