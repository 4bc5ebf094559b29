-- What an entry is by itself, and what is wrong with it first.
use Rattle.std.proofs.Common.{◌≡◌, ℕ, false, List, Option, None, refl}
use Rattle.std.specs.Bool.{IsTrue}
use Rattle.ledger_rules.specs.Judging.{IsWrong, IsWrongPacket}
use Rattle.ledger_rules.specs.declared.account.Account.{Account}
use Rattle.ledger_rules.specs.declared.entry.Entry.{Entry}
use Rattle.ledger_rules.specs.declared.reason.Reason.{Reason}
use Rattle.ledger_rules.specs.declared.reason.Reason.TheVariants.{NotEntry, NoPacket, WrongSent, WrongRequest, WrongReply, WrongResponse, SerialNotAbove, UnknownLane, RecordTwice, UnknownRecord, WrongWords, FileAgain, OtherLanes, WrongSum}
use Rattle.ledger_rules.specs.declared.tally.Tally.{Tally}
use Rattle.rad_audit.specs.Taking.{IsWrongEntry}

module _ (e : Entry) (home client : Option (List ℕ)) where
  -- what is wrong with an entry of no lane, but that it has none, is wrong with its packets
  pub wrong_alone : (reason : Reason) → IsWrong e home client None (IsTrue false) reason → ¬ (reason ≡ UnknownLane) → IsWrongPacket e home client reason
  wrong_alone NotEntry w n = w
  wrong_alone NoPacket w n = w
  wrong_alone WrongSent w n = w
  wrong_alone WrongRequest w n = w
  wrong_alone WrongReply w n = w
  wrong_alone WrongResponse w n = w
  wrong_alone SerialNotAbove w n = absurd w.1
  wrong_alone UnknownLane w n = absurd (n refl)
  wrong_alone RecordTwice w n = absurd w.1
  wrong_alone UnknownRecord w n = w
  wrong_alone WrongWords w n = w
  wrong_alone FileAgain w n = w
  wrong_alone OtherLanes w n = w
  wrong_alone WrongSum w n = w

  -- what is wrong with its packets is wrong with it, whichever its lane is
  pub wrong_entry : (old : Tally) (was : Account) (reason : Reason) → IsWrongPacket e home client reason → IsWrongEntry e home client old was reason
  wrong_entry old was NotEntry w = w
  wrong_entry old was NoPacket w = w
  wrong_entry old was WrongSent w = w
  wrong_entry old was WrongRequest w = w
  wrong_entry old was WrongReply w = w
  wrong_entry old was WrongResponse w = w
  wrong_entry old was SerialNotAbove w = absurd w
  wrong_entry old was UnknownLane w = w
  wrong_entry old was RecordTwice w = absurd w
  wrong_entry old was UnknownRecord w = w
  wrong_entry old was WrongWords w = absurd w
  wrong_entry old was FileAgain w = w
  wrong_entry old was OtherLanes w = w
  wrong_entry old was WrongSum w = w

  -- or if it has none
  pub wrong_stray : (reason : Reason) → IsWrongPacket e home client reason → IsWrong e home client None (IsTrue false) reason
  wrong_stray NotEntry w = w
  wrong_stray NoPacket w = w
  wrong_stray WrongSent w = w
  wrong_stray WrongRequest w = w
  wrong_stray WrongReply w = w
  wrong_stray WrongResponse w = w
  wrong_stray SerialNotAbove w = absurd w
  wrong_stray UnknownLane w = absurd w
  wrong_stray RecordTwice w = absurd w
  wrong_stray UnknownRecord w = w
  wrong_stray WrongWords w = w
  wrong_stray FileAgain w = w
  wrong_stray OtherLanes w = w
  wrong_stray WrongSum w = w
