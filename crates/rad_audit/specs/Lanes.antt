-- How the lanes of the runs stand after lines of ledgers (own).
use Rattle.std.specs.Prelude.{◌≡◌, ◌==◌, ◌&&◌, ◌+◌, ◌-◌, ◌^◌, ◌≤◌, not, ℕ, Bool, true, false, List, [], ◌∷◌, ◌++◌, find, filter, map, min, if◌then◌else◌, Option, Some, None, is_some, option_copied, option_map, MatchBool, MatchOption, IsTrue, string_bytes, ◌⊎◌, ◌↔◌}
use Rattle.std.specs.List.{flat_map, list_any}
use Rattle.std.specs.Option.{option_and_then}
use Rattle.std.specs.Str.{bytes_eq}
use Rattle.std.specs.Ordering.{nat_cmp}
use Rattle.std.specs.BTreeMap.{get}
use Rattle.rad_config.specs.Configuration.{Configuration}
use Rattle.rad_config.specs.Realm.{client_of}
use Rattle.ledger_rules.specs.Accounting.{Differs}
use Rattle.ledger_rules.specs.Counting.{Counts}
use Rattle.ledger_rules.specs.Numbers.{Keeps}
use Rattle.ledger_rules.specs.Resuming.{Resumes}
use Rattle.ledger_rules.specs.declared.account.Account.{Account}
use Rattle.ledger_rules.specs.declared.account.Fates.{Fates}
use Rattle.ledger_rules.specs.declared.ending.EndCounts.{EndCounts}
use Rattle.ledger_rules.specs.declared.ending.Ending.{Ending}
use Rattle.ledger_rules.specs.declared.left.Left.{Left}
use Rattle.ledger_rules.specs.declared.line_request.LineRequest.{LineRequest}
use Rattle.ledger_rules.specs.declared.reason.Reason.{Reason}
use Rattle.ledger_rules.specs.declared.record_count.AnswerCount.{AnswerCount}
use Rattle.ledger_rules.specs.declared.record_count.RecordCount.{RecordCount}
use Rattle.ledger_rules.specs.declared.resumed.Resumed.{Resumed}
use Rattle.ledger_rules.specs.declared.resumed.Resumption.{Resumption}
use Rattle.ledger_rules.specs.declared.resumed.Resumptions.{Resumptions}
use Rattle.ledger_rules.specs.declared.tally.Tally.{Tally}
use Rattle.ledger_lines.specs.declared.begin.Begin.{Begin}
use Rattle.ledger_lines.specs.declared.end.LaneCount.{LaneCount}
use Rattle.ledger_lines.specs.declared.lane_start.LaneStart.{LaneStart}
use Rattle.rad_audit.specs.Judging.{AreJudged}
use Rattle.rad_audit.specs.Taking.{LacksRecord, Leaves, Takes}
use Rattle.rad_audit.specs.declared.blocks.FileLine.{FileLine}
use Rattle.rad_audit.specs.declared.blocks.Found.{Found}
use Rattle.rad_audit.specs.declared.blocks.Found.TheVariants as found
use Rattle.rad_audit.specs.declared.judging.Content.{Content}
use Rattle.rad_audit.specs.declared.judging.Content.TheVariants as content
use Rattle.rad_audit.specs.declared.judging.JudgedEntry.{JudgedEntry}
use Rattle.rad_audit.specs.declared.lanes.Lane.{Lane}
use Rattle.rad_audit.specs.declared.runs.Run.{Run}
use Rattle.rad_audit.specs.declared.runs.Runs.{Runs}
use Rattle.rad_audit.specs.declared.taking.TakenEntry.{TakenEntry}
use Rattle.rad_audit.specs.declared.taking.TakenEntry.TheVariants.{Wrong, Counted}

-- What a lane's verdict follows from, and the name of its home server.
pub record Standing : Type 0 where
  pub home : List ℕ
  pub tally : Tally
  pub account : Account
  pub resumed : Resumptions
  pub ending : Ending
  pub not_judged : ℕ

abbrev pub standing : Lane → Standing
standing lane =
    record { home = string_bytes lane.home.0; tally = lane.tally; account = lane.account; resumed = lane.resumed; ending = lane.ending; not_judged = lane.not_judged }

-- That of the lane of a number: none if its run has no such lane. Of a run that no line names there is nothing.
abbrev pub standing_in : ℕ → List Lane → Option Standing
standing_in number lanes = option_map standing (find (λ l. l.number == number) lanes)

abbrev pub standing_at : Runs → ℕ → ℕ → Option (Option Standing)
standing_at runs run number = option_map (λ r. standing_in number r.lanes.items) (get nat_cmp runs.runs run)

-- A line behind an end line shows that this was not the end, if it counts.
pub record GoesOn (counted : Bool) (old new : Ending) : Type 0 where
  pub said : new.said ≡ old.said
  pub contradicted : IsTrue new.contradicted ↔ (IsTrue old.contradicted ⊎ IsTrue (counted && is_some old.said))

-- One more of the lines that were not judged, or not all of them.
abbrev pub one_more_if : Bool → ℕ → ℕ
one_more_if more n = if more then min (n + 1) (2 ^ 64 - 1) else n

abbrev pub is_counted : TakenEntry → Bool
is_counted (Wrong reason) = false
is_counted (Counted gap) = true

-- What an entry of a lane makes of it.
pub record MakesEntry (e : JudgedEntry) (old new : Standing) : Type 0 where
  pub taken : TakenEntry
  pub takes : Takes e.entry (option_copied e.home) (option_copied e.client) old.tally old.account taken new.tally new.account
  pub ending : GoesOn (is_counted taken) old.ending new.ending
  pub not_judged : new.not_judged ≡ one_more_if (is_counted taken && not (is_some e.home && is_some e.client)) old.not_judged
  pub resumed : new.resumed ≡ old.resumed
  pub home : new.home ≡ old.home

-- The secret of a client.
abbrev pub secret_at : Configuration → List ℕ → Option (List ℕ)
secret_at config address = option_map (λ c. c.secret) (client_of config address)

-- What a request that was left makes of it.
pub record MakesLeft (config : Configuration) (left : Left) (old new : Standing) : Type 0 where
  pub wrong : Option Reason
  pub leaves : Leaves left (secret_at config left.about.client) old.account wrong new.account
  pub tally : new.tally ≡ old.tally
  pub ending : GoesOn (not (is_some wrong)) old.ending new.ending
  pub not_judged : new.not_judged ≡ one_more_if (not (is_some wrong) && not (is_some (secret_at config left.about.client))) old.not_judged
  pub resumed : new.resumed ≡ old.resumed
  pub home : new.home ≡ old.home

-- What a count of what became of a response makes of it.
pub record MakesCount (count : RecordCount) (old new : Standing) : Type 0 where
  pub unknown : LacksRecord old.tally old.account count.number → GoesOn false old.ending new.ending
  pub known : ¬ LacksRecord old.tally old.account count.number → GoesOn true old.ending new.ending
  pub tally : new.tally ≡ old.tally
  pub account : new.account ≡ old.account
  pub resumed : new.resumed ≡ old.resumed
  pub not_judged : new.not_judged ≡ old.not_judged
  pub home : new.home ≡ old.home

-- What a count of how often the response of an earlier run was sent again makes of it. It is wrong if it names the run itself.
pub record MakesEarlier (count : AnswerCount) (old new : Standing) : Type 0 where
  pub own : count.answer_run ≡ count.run → GoesOn false old.ending new.ending
  pub earlier : ¬ (count.answer_run ≡ count.run) → GoesOn true old.ending new.ending
  pub tally : new.tally ≡ old.tally
  pub account : new.account ≡ old.account
  pub resumed : new.resumed ≡ old.resumed
  pub not_judged : new.not_judged ≡ old.not_judged
  pub home : new.home ≡ old.home

-- What a request that it took over makes of it.
pub record MakesResumed (its : Resumed) (old new : Standing) : Type 0 where
  pub wrong : Option Reason
  pub resumes : Resumes its old.account old.resumed wrong new.resumed
  pub ending : GoesOn (not (is_some wrong)) old.ending new.ending
  pub tally : new.tally ≡ old.tally
  pub account : new.account ≡ old.account
  pub not_judged : new.not_judged ≡ old.not_judged
  pub home : new.home ≡ old.home

-- An end line counts less requests than the number of the last one that was taken over.
abbrev pub IsBeyond : Option ℕ → Option Resumption → Type 0
IsBeyond None last = ⊥
IsBeyond (Some accepted) last = MatchOption last ⊥ (λ its. accepted ≤ its.number)

-- What an end line says of the requests of a lane, if it does.
abbrev pub fates_in : LaneCount → Option Fates
fates_in count = option_and_then (λ accepted. option_map (λ left. record { accepted = accepted; left = left }) count.left) count.accepted

-- What an end line makes of it.
pub record MakesEnd (count : LaneCount) (old new : Standing) : Type 0 where
  pub counts : (serials : List ℕ) → Counts old.tally serials → Counts new.tally serials
  pub first : new.tally.first ≡ old.tally.first
  pub end : new.tally.end ≡ Some count.entries
  pub numbers : new.account.numbers ≡ old.account.numbers
  pub left : new.account.left ≡ old.account.left
  pub told : new.account.told ≡ fates_in count
  pub said : new.ending.said ≡ Some (record { entries = count.entries; fates = fates_in count })
  pub contradicted : IsTrue new.ending.contradicted ↔ (IsTrue old.ending.contradicted ⊎ Differs old.ending.said (record { entries = count.entries; fates = fates_in count }))
  pub resumed : new.resumed ≡ old.resumed
  pub not_judged : new.not_judged ≡ old.not_judged
  pub home : new.home ≡ old.home

abbrev pub MakeEnds : List LaneCount → Standing → Standing → Type 0
MakeEnds [] old new = new ≡ old
MakeEnds (count ∷ counts) old new = (between : Standing) × MakesEnd count old between × MakeEnds counts between new

-- Whether a request is of the lane of this run, number and home server.
abbrev pub is_about : ℕ → ℕ → List ℕ → LineRequest → Bool
is_about run number home about = about.run == run && (about.lane == number && bytes_eq home about.home.now)

-- Whether a line is of that lane. A line that ends a run is of each of its lanes.
abbrev pub is_of : ℕ → ℕ → List ℕ → Content → Bool
is_of run number home (content.Begin begin) = false
is_of run number home (content.Entry its) = is_about run number home its.entry.about
is_of run number home (content.Left left) = is_about run number home left.about
is_of run number home (content.Count count) = count.run == run && (count.lane == number && bytes_eq home count.home.now)
is_of run number home (content.AgainEarlier count) = count.run == run && (count.lane == number && bytes_eq home count.home.now)
is_of run number home (content.Resumed its) = its.run == run && (its.lane == number && bytes_eq home its.home.now)
is_of run number home (content.End end) = end.run == run
is_of run number home (content.Hidden hidden) = false

-- What such a line makes of it.
abbrev pub Makes : Configuration → ℕ → Content → Standing → Standing → Type 0
Makes config number (content.Begin begin) old new = new ≡ old
Makes config number (content.Entry its) old new = MakesEntry its old new
Makes config number (content.Left left) old new = MakesLeft config left old new
Makes config number (content.Count count) old new = MakesCount count old new
Makes config number (content.AgainEarlier count) old new = MakesEarlier count old new
Makes config number (content.Resumed its) old new = MakesResumed its old new
Makes config number (content.End end) old new = MakeEnds (filter (λ count. count.lane == number) end.lanes.items) old new
Makes config number (content.Hidden hidden) old new = new ≡ old

-- What lines make of it, one after the other.
abbrev pub Make : Configuration → ℕ → List Content → Standing → Standing → Type 0
Make config number [] old new = new ≡ old
Make config number (line ∷ lines) old new = (between : Standing) × Makes config number line old between × Make config number lines between new

-- A lane without lines, as the line that names its run begins it.
pub record IsFresh (start : LaneStart) (its : Standing) : Type 0 where
  pub home : its.home ≡ start.home.now
  pub first : (its.tally.first ≡ start.serial) × (its.tally.end ≡ None) × Counts its.tally []
  pub account : Keeps its.account.numbers [] × (its.account.left ≡ 0) × (its.account.told ≡ None)
  pub resumed : (its.resumed.count ≡ 0) × (its.resumed.last ≡ None)
  pub ending : (its.ending.said ≡ None) × (its.ending.contradicted ≡ false)
  pub not_judged : its.not_judged ≡ 0

abbrev pub is_begin_of : ℕ → Content → Bool
is_begin_of run (content.Begin begin) = begin.run == run
is_begin_of run (content.Entry its) = false
is_begin_of run (content.Left left) = false
is_begin_of run (content.Count count) = false
is_begin_of run (content.AgainEarlier count) = false
is_begin_of run (content.Resumed its) = false
is_begin_of run (content.End end) = false
is_begin_of run (content.Hidden hidden) = false

-- The first line that names a run, and the lines behind it.
pub record HasBegun (run : ℕ) (lines : List Content) (Goes : Begin → List Content → Type 0) : Type 0 where
  pub before : List Content
  pub begin : Begin
  pub after : List Content
  pub split : lines ≡ before ++ content.Begin begin ∷ after
  pub first : list_any (is_begin_of run) before ≡ false
  pub named : begin.run ≡ run
  pub goes : Goes begin after

-- That line names the lane, and the lines of the lane behind it make this of it.
pub record StandsAt (config : Configuration) (run number : ℕ) (its : Standing) (begin : Begin) (after : List Content) : Type 0 where
  pub start : LaneStart
  pub named : find (λ s. s.lane == number) begin.lanes.items ≡ Some start
  pub fresh : Standing
  pub is_fresh : IsFresh start fresh
  pub make : Make config number (filter (is_of run number start.home.now) after) fresh its

-- How a lane stands after lines.
abbrev pub StandsAfter : Configuration → List Content → ℕ → ℕ → Option (Option Standing) → Type 0
StandsAfter config lines run number None = list_any (is_begin_of run) lines ≡ false
StandsAfter config lines run number (Some None) = HasBegun run lines (λ begin _. find (λ s. s.lane == number) begin.lanes.items ≡ None)
StandsAfter config lines run number (Some (Some its)) = HasBegun run lines (StandsAt config run number its)

-- So stands each lane of each run.
abbrev pub StandAfter : Configuration → List Content → Runs → Type 0
StandAfter config lines runs = (run number : ℕ) → StandsAfter config lines run number (standing_at runs run number)

-- What stands in the places of lines of a file, if they are lines of a ledger.
abbrev pub content_of : Found → List Content
content_of (found.Line line) = line.content ∷ []
content_of found.NoLine = []
content_of found.TooLong = []
content_of found.Unended = []

abbrev pub contents_of : List FileLine → List Content
contents_of lines = flat_map (λ line. content_of line.found) lines

-- How the lanes of a run that a line names for the first time stand.
abbrev pub BeginsLane : ℕ → List LaneStart → Option Standing → Type 0
BeginsLane number starts after =
    MatchOption (find (λ s. s.lane == number) starts) (after ≡ None) (λ start. MatchOption after ⊥ (λ its. IsFresh start its))

abbrev pub Begins : ℕ → ℕ → Content → Option (Option Standing) → Type 0
Begins run number (content.Begin begin) after = MatchBool (begin.run == run) (MatchOption after ⊥ (λ its. BeginsLane number begin.lanes.items its)) (after ≡ None)
Begins run number (content.Entry its) after = after ≡ None
Begins run number (content.Left left) after = after ≡ None
Begins run number (content.Count count) after = after ≡ None
Begins run number (content.AgainEarlier count) after = after ≡ None
Begins run number (content.Resumed its) after = after ≡ None
Begins run number (content.End end) after = after ≡ None
Begins run number (content.Hidden hidden) after = after ≡ None

-- What a lane becomes: this, if this is so of its home server, and otherwise nothing changes.
abbrev pub LaneGoes : (List ℕ → Bool) → (Standing → Standing → Type 0) → Option Standing → Option Standing → Type 0
LaneGoes is Becomes None after = after ≡ None
LaneGoes is Becomes (Some old) after = MatchOption after ⊥ (λ new. MatchBool (is old.home) (Becomes old new) (new ≡ old))

-- One line more.
abbrev pub LaneFollows : Configuration → ℕ → ℕ → Content → Option Standing → Option Standing → Type 0
LaneFollows config run number line old new = LaneGoes (λ home. is_of run number home line) (Makes config number line) old new

abbrev pub LanesFollow : Configuration → ℕ → Content → List Lane → List Lane → Type 0
LanesFollow config run line old new = (number : ℕ) → LaneFollows config run number line (standing_in number old) (standing_in number new)

abbrev pub Follows : Configuration → ℕ → ℕ → Content → Option (Option Standing) → Option (Option Standing) → Type 0
Follows config run number line None after = Begins run number line after
Follows config run number line (Some old) after = MatchOption after ⊥ (λ new. LaneFollows config run number line old new)

abbrev pub Follow : Configuration → Content → Runs → Runs → Type 0
Follow config line old new = (run number : ℕ) → Follows config run number line (standing_at old run number) (standing_at new run number)

-- What a line that ends a run counts, as far as it was taken.
abbrev pub LaneEnds : ℕ → ℕ → ℕ → List LaneCount → Option Standing → Option Standing → Type 0
LaneEnds name run number counts old new = LaneGoes (λ _. name == run) (MakeEnds (filter (λ count. count.lane == number) counts)) old new

abbrev pub LanesEnd : LaneCount → List Lane → List Lane → Type 0
LanesEnd count old new = (name number : ℕ) → LaneEnds name name number (count ∷ []) (standing_in number old) (standing_in number new)

abbrev pub RunEnds : ℕ → ℕ → ℕ → List LaneCount → Option (Option Standing) → Option (Option Standing) → Type 0
RunEnds name run number counts None after = after ≡ None
RunEnds name run number counts (Some old) after = MatchOption after ⊥ (λ new. LaneEnds name run number counts old new)

abbrev pub EndWith : ℕ → List LaneCount → Runs → Runs → Type 0
EndWith name counts old new = (run number : ℕ) → RunEnds name run number counts (standing_at old run number) (standing_at new run number)

-- No lane stands otherwise.
abbrev pub StandAlike : Runs → Runs → Type 0
StandAlike old new = (run number : ℕ) → standing_at new run number ≡ standing_at old run number

-- These lines were taken behind all that were taken before.
abbrev pub AreTaken : Configuration → List Content → Runs → Runs → Type 0
AreTaken config lines old new = (before : List Content) → StandAfter config before old → StandAfter config (before ++ lines) new

-- Lines of these octets were, each judged by itself.
abbrev pub TakesOctets : Configuration → List (List ℕ) → Runs → Runs → Type 0
TakesOctets config octets old new =
    (lines : List FileLine) × AreJudged lines × (map (λ line. line.octets.now) lines ≡ octets) × AreTaken config (contents_of lines) old new
