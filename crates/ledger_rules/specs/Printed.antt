-- What is wrong with a line, and what the entries of a lane show, as they are printed (own).
use Rattle.std.specs.Prelude.{ℕ, List, ◌++◌, codes}
use Rattle.std.specs.Fmt.{decimal}
use Rattle.ledger_rules.specs.declared.reason.Reason.{Reason}
use Rattle.ledger_rules.specs.declared.reason.Reason.TheVariants.{NotEntry, NoPacket, WrongSent, WrongRequest, WrongReply, WrongResponse, SerialNotAbove, UnknownLane, RecordTwice, UnknownRecord, WrongWords, FileAgain, OtherLanes, WrongSum}
use Rattle.ledger_rules.specs.declared.tally.Gap.{Gap}
use Rattle.ledger_rules.specs.declared.tally.Verdict.{Verdict}
use Rattle.ledger_rules.specs.declared.tally.Verdict.TheVariants.{Whole, Open, Missing, Unaccounted, Part, Contradicted}

abbrev pub reason_text : Reason → List ℕ
reason_text NotEntry = codes "NotEntry"
reason_text NoPacket = codes "NoPacket"
reason_text WrongSent = codes "WrongSent"
reason_text WrongRequest = codes "WrongRequest"
reason_text WrongReply = codes "WrongReply"
reason_text WrongResponse = codes "WrongResponse"
reason_text SerialNotAbove = codes "SerialNotAbove"
reason_text UnknownLane = codes "UnknownLane"
reason_text RecordTwice = codes "RecordTwice"
reason_text UnknownRecord = codes "UnknownRecord"
reason_text WrongWords = codes "WrongWords"
reason_text FileAgain = codes "FileAgain"
reason_text OtherLanes = codes "OtherLanes"
reason_text WrongSum = codes "WrongSum"

abbrev pub gap_text : Gap → List ℕ
gap_text gap = codes "gap " ++ decimal gap.first ++ codes " to " ++ decimal gap.last

abbrev pub verdict_text : Verdict → List ℕ
verdict_text Whole = codes "whole"
verdict_text Open = codes "open"
verdict_text (Missing gap) = gap_text gap
verdict_text Unaccounted = codes "unaccounted"
verdict_text Part = codes "part"
verdict_text Contradicted = codes "contradicted"
