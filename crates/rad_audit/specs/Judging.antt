-- What a line is by itself (own), whatever the lines before it are.
use Rattle.std.specs.Prelude.{◌≡◌, ◌<◌, ◌^◌, ℕ, List, All, Option, option_copied, ⊤}
use Rattle.ledger_rules.specs.Judging.{ArePacketsRight, IsWrongPacket}
use Rattle.ledger_rules.specs.declared.entry.Entry.{Entry}
use Rattle.ledger_lines.specs.Lines.{IsLine}
use Rattle.ledger_lines.specs.declared.reading.Line.{Line}
use Rattle.ledger_lines.specs.declared.reading.Line.TheVariants as read
use Rattle.ledger_lines.specs.declared.reading.SummedLine.{SummedLine}
use Rattle.rad_audit.specs.Chained.{HasLineSum}
use Rattle.rad_audit.specs.Taking.{HasItsWords, words_of}
use Rattle.rad_audit.specs.declared.blocks.FileLine.{FileLine}
use Rattle.rad_audit.specs.declared.blocks.Found.{Found}
use Rattle.rad_audit.specs.declared.blocks.Found.TheVariants as found
use Rattle.rad_audit.specs.declared.judging.Alone.{Alone}
use Rattle.rad_audit.specs.declared.judging.Alone.TheVariants.{Wrong, OtherWords, Right}
use Rattle.rad_audit.specs.declared.judging.Content.{Content}
use Rattle.rad_audit.specs.declared.judging.Content.TheVariants as content
use Rattle.rad_audit.specs.declared.judging.JudgedEntry.{JudgedEntry}
use Rattle.rad_audit.specs.declared.judging.JudgedLine.{JudgedLine}

-- The packets of an entry are wrong, and this first; or they are right, and its words are theirs or not.
abbrev pub IsAlone : Entry → Option (List ℕ) → Option (List ℕ) → Alone → Type 0
IsAlone e home client (Wrong reason) = IsWrongPacket e home client reason
IsAlone e home client OtherWords = ArePacketsRight e home client × ¬ HasItsWords e.sent.now (words_of e.about)
IsAlone e home client Right = ArePacketsRight e home client × HasItsWords e.sent.now (words_of e.about)

-- An entry is judged by itself, under the secrets that it is told with.
pub record IsJudged (its : JudgedEntry) : Type 0 where
  pub alone : IsAlone its.entry (option_copied its.home) (option_copied its.client) its.alone
  pub below : its.entry.serial < 2 ^ 63

-- The same of a line; only entries are judged by themselves.
abbrev pub IsJudgedContent : Content → Type 0
IsJudgedContent (content.Begin begin) = ⊤
IsJudgedContent (content.Entry entry) = IsJudged entry
IsJudgedContent (content.Left left) = ⊤
IsJudgedContent (content.Count count) = ⊤
IsJudgedContent (content.AgainEarlier count) = ⊤
IsJudgedContent (content.Resumed resumed) = ⊤
IsJudgedContent (content.End end) = ⊤
IsJudgedContent (content.Hidden hidden) = ⊤

abbrev pub IsJudgedLine : JudgedLine → Type 0
IsJudgedLine line = IsJudgedContent line.content

-- A line that was read has this content: an entry with what is judged of it, and the rest as it is.
abbrev pub HasContent : Line → Content → Type 0
HasContent (read.Begin begin) its = its ≡ content.Begin begin
HasContent (read.Entry entry) its = (judged : JudgedEntry) × (its ≡ content.Entry judged) × (judged.entry ≡ entry)
HasContent (read.Left left) its = its ≡ content.Left left
HasContent (read.Unsent count) its = its ≡ content.Count count
HasContent (read.Again count) its = its ≡ content.Count count
HasContent (read.AgainEarlier count) its = its ≡ content.AgainEarlier count
HasContent (read.Resumed resumed) its = its ≡ content.Resumed resumed
HasContent (read.End end) its = its ≡ content.End end
HasContent (read.Hidden hidden) its = its ≡ content.Hidden hidden

-- Octets are a line of a ledger, and this is what is judged of it by itself.
pub record IsJudgedFrom (octets : List ℕ) (line : JudgedLine) : Type 0 where
  pub read : SummedLine
  pub is : IsLine octets read
  pub content : HasContent read.line line.content
  pub judged : IsJudgedLine line
  pub sum : HasLineSum octets line.sum

-- These octets have this in the place of a line of a ledger.
abbrev pub IsFound : List ℕ → Found → Type 0
IsFound octets (found.Line line) = IsJudgedFrom octets line
IsFound octets found.NoLine = ¬ ((line : SummedLine) × IsLine octets line)
IsFound octets found.TooLong = ⊤
IsFound octets found.Unended = ⊤

-- Each of these lines is judged by itself.
abbrev pub AreJudged : List FileLine → Type 0
AreJudged lines = All (λ line. IsFound line.octets.now line.found) lines
