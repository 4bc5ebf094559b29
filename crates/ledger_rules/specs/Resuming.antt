-- Which lines of a lane about requests that it took over from earlier runs are right (own). They stand in the order of acceptance: the
-- numbers ascend, and so do those of one lane of one earlier run.
use Rattle.std.specs.Prelude.{◌≡◌, ◌<◌, ◌+◌, ◌-◌, ◌^◌, ◌⊎◌, ℕ, min, Option, Some, None, ⊤}
use Rattle.ledger_rules.specs.Numbers.{IsKnown}
use Rattle.ledger_rules.specs.declared.account.Account.{Account}
use Rattle.ledger_rules.specs.declared.reason.Reason.{Reason}
use Rattle.ledger_rules.specs.declared.reason.Reason.TheVariants.{RecordTwice, UnknownRecord}
use Rattle.ledger_rules.specs.declared.resumed.Resumed.{Resumed}
use Rattle.ledger_rules.specs.declared.resumed.Resumption.{Resumption}
use Rattle.ledger_rules.specs.declared.resumed.Resumptions.{Resumptions}

abbrev pub resumption_of : Resumed → Resumption
resumption_of its = record { number = its.number; first_run = its.first_run; first_lane = its.first_lane; first_number = its.first_number }

-- It stands behind the last one: under a greater number, and, if both are of one lane of one earlier run, with a greater one there.
pub record IsBehindLast (last : Resumption) (its : Resumed) : Type 0 where
  pub above : last.number < its.number
  pub first_above : (¬ (last.first_run ≡ its.first_run)) ⊎ ((¬ (last.first_lane ≡ its.first_lane)) ⊎ (last.first_number < its.first_number))

abbrev pub IsBehind : Option Resumption → Resumed → Type 0
IsBehind None its = ⊤
IsBehind (Some last) its = IsBehindLast last its

-- Nothing is wrong with it: it is of another run, no line has its number so far, and it stands behind the last one. It counts.
pub record IsCountedResumed (its : Resumed) (account : Account) (old new : Resumptions) : Type 0 where
  pub earlier : ¬ (its.first_run ≡ its.run)
  pub fresh : ¬ IsKnown account.numbers its.number
  pub behind : IsBehind old.last its
  pub last : new.last ≡ Some (resumption_of its)
  pub count : new.count ≡ min (old.count + 1) (2 ^ 64 - 1)

-- What is wrong with it: a run takes nothing over from itself; the record is there twice, or out of order.
abbrev pub IsWronglyResumed : Resumed → Account → Resumptions → Reason → Type 0
IsWronglyResumed its account old reason =
    ((reason ≡ UnknownRecord) × (its.first_run ≡ its.run))
    ⊎ ((reason ≡ RecordTwice) × (¬ (its.first_run ≡ its.run)) × (IsKnown account.numbers its.number ⊎ (¬ IsBehind old.last its)))

abbrev pub Resumes : Resumed → Account → Resumptions → Option Reason → Resumptions → Type 0
Resumes its account old None new = IsCountedResumed its account old new
Resumes its account old (Some reason) new = IsWronglyResumed its account old reason × (new ≡ old)
