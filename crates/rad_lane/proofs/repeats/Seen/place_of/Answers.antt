use Rattle.rad_lane.proofs.SerialFound.{answer_placed, none_placed}
use Rattle.rad_lane.proofs.repeats.Seen.place_of.Goals as goal

pub place_of_serial-requires : goal.place_of_serial-requires
place_of_serial-requires c = c.args.self.now.rising

pub returns-in-Some : goal.returns-in-Some
returns-in-Some c =
    answer_placed c.args.number _ _ _ c.args.self.now.rising c.in-Some.ensures c.place_of_serial.ensures

pub returns-in-None : goal.returns-in-None
returns-in-None c = none_placed c.args.number _ c.in-None.ensures
