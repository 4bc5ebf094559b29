use Rattle.std.proofs.Common.{refl, inl, inr}
use Rattle.locked_lanes.proofs.Found.{another}
use Rattle.locked_lanes.proofs.desk.Desk.spent_for.Goals as goal

pub returns-then-not-has_number-clause-lawful : goal.returns-then-not-has_number-clause-lawful
returns-then-not-has_number-clause-lawful c = record {
  book = c.args.self.now.lane;
  lawful = c.keep_law.ensures;
  tells = inr (another _ c.has_number.result c.has_number.ensures c.if-not-has_number.true, refl);
}

pub returns-clause-lawful : goal.returns-clause-lawful
returns-clause-lawful c = record {
  book = c.args.self.now.lane;
  lawful = c.keep_law.ensures;
  tells = inl (c.has_number.ensures.0 c.if-not-has_number.false, c.spent.ensures);
}
