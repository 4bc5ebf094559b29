use Rattle.rad_lane.proofs.LawfulAfterCut.{lawful_after_cut, cut_answered, repeats_same}
use Rattle.rad_lane.proofs.laws.a_cut_loses_nothing.Goals as goal

pub returns-clause-lawful : goal.returns-clause-lawful
returns-clause-lawful c = λ book now cut kept l later is. lawful_after_cut book l now later cut kept is

pub returns-clause-answered_once : goal.returns-clause-answered_once
returns-clause-answered_once c = λ book now cut kept l later is. cut_answered book l now later cut kept is

pub returns-clause-repeats : goal.returns-clause-repeats
returns-clause-repeats c = λ book now cut kept l later is. repeats_same book l now later cut kept is
