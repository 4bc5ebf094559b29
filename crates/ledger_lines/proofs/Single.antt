-- A value is one line at most, and so are octets.
use Rattle.std.proofs.Common.{◌≡◌, ℕ, ◌^◌, List, [], ◌∷◌, codes, get_or, length, Bool, true, false, Option, Some, None, Result, Ok, Err, inl, inr, refl, sym, ap, ◌∙◌, subst, arith}
use Rattle.std.specs.Prelude.{option_copied}
use Rattle.std.specs.List.{AllZip, each_same}
use Rattle.std.specs.Int.{w64, from_be_bytes}
use Rattle.json.specs.Find.{get}
use Rattle.json.specs.Json.{Json, Items, no_items, item, array, number}
use Rattle.rad_realms.specs.Address.{address_in}
use Rattle.ledger_rules.specs.declared.entry.Entry.{Entry}
use Rattle.ledger_rules.specs.declared.left.Left.{Left}
use Rattle.rad_lane.specs.declared.leftover.LeftState.{LeftState}
use Rattle.ledger_rules.specs.declared.line_request.LineRequest.{LineRequest}
use Rattle.rad_lane.specs.declared.leftover.LeftState.TheVariants.{Queued, Outstanding, Untaken}
use Rattle.ledger_lines.specs.declared.begin.Begin.{Begin}
use Rattle.ledger_lines.specs.declared.end.End.{End}
use Rattle.ledger_lines.specs.declared.begin.FileBefore.{FileBefore}
use Rattle.ledger_lines.specs.declared.end.LaneCount.{LaneCount}
use Rattle.ledger_lines.specs.declared.lane_start.LaneStart.{LaneStart}
use Rattle.ledger_lines.specs.declared.faults.LineFault.{LineFault}
use Rattle.ledger_lines.specs.declared.faults.LineFault.TheVariants.{NotALine, OutOfMemory}
use Rattle.ledger_lines.specs.declared.reading.Line.{Line}
use Rattle.ledger_lines.specs.declared.reading.SummedLine.{SummedLine}
use Rattle.ledger_rules.specs.declared.record_count.AnswerCount.{AnswerCount}
use Rattle.ledger_rules.specs.declared.record_count.RecordCount.{RecordCount}
use Rattle.ledger_rules.specs.declared.resumed.Resumed.{Resumed}
use Rattle.ledger_lines.specs.declared.hidden.Hidden.{Hidden}
use Rattle.ledger_lines.specs.declared.hidden.HiddenKind.{HiddenKind}
use Rattle.ledger_lines.specs.declared.hidden.HiddenKind.TheVariants.{Entry as AnEntry, Left as ALeft, Unsent as AnUnsent, Again as AnAgain, Resumed as AResumed}
use Rattle.ledger_lines.specs.declared.reading.Line.TheVariants.{Begin as begins, Entry as enters, Left as leaves, Unsent as unsends, Again as repeats, AgainEarlier as recalls, Resumed as resumes, End as ends, Hidden as hides}
use Rattle.ledger_lines.specs.Lines.{AreEach, HasArray, HasClient, HasLanes, HasName, HasOctets, HasRun, HasState, HasTime, HasTruth, IsAbout, IsAnswerCount, IsBegin, IsEnd, IsEntry, IsFileBefore, IsLaneCount, IsLaneStart, IsLeft, IsHidden, IsLine, IsLineOf, IsRecordCount, IsResumed, MayHaveFile, MayHaveKind, kind_text, MayHaveNumber, MayHaveSum, MayHaveTime, MayHaveWords, as_items, state_text, truth_if}
use Rattle.ledger_lines.specs.Same.{GivesBack, IsAnswer, IsSameAnswerCount, IsSameBegin, IsSameCount, IsSameEnd, IsSameSummed, IsSameEntry, IsSameFile, IsSameFileIfAny, IsSameLeft, IsSameLine, IsSameRequest, IsSameResumed, IsSameStart}
use Rattle.ledger_lines.proofs.Found.{one_number, one_text, same_some, unlike}

-- ---- what an object has at a key

module _ (key : List ℕ) (value : Json) where
  number_if_any : (limit : ℕ) (n m : Option ℕ) → MayHaveNumber key limit value n → MayHaveNumber key limit value m → n ≡ m
  number_if_any limit None None h i = refl
  number_if_any limit (Some n) (Some m) h i = ap Some (one_number key value limit limit n m h i)
  number_if_any limit n m h i = cc

  one_octets : (xs ys : List ℕ) → HasOctets key value xs → HasOctets key value ys → xs ≡ ys
  one_octets xs ys h i =
      let same : h.digits ≡ i.digits = one_text key value h.digits i.digits h.there i.there in
      cc

  one_array : (count : ℕ) (xs ys : List ℕ) → HasArray key count value xs → HasArray key count value ys → xs ≡ ys
  one_array count xs ys h i =
      one_octets xs ys (record { digits = h.digits; there = h.there; are = h.are }) (record { digits = i.digits; there = i.there; are = i.are })

  sum_if_any : (s t : Option (List ℕ)) → MayHaveSum key value s → MayHaveSum key value t → s ≡ t
  sum_if_any None None h i = refl
  sum_if_any (Some s) (Some t) h i = ap Some (one_array 32 s t h i)
  sum_if_any s t h i = cc

  one_time : (t u : List ℕ) → HasTime key value t → HasTime key value u → t ≡ u
  one_time t u h i = one_text key value t u h.there i.there

  time_if_any : (t u : Option (List ℕ)) → MayHaveTime key value t → MayHaveTime key value u → t ≡ u
  time_if_any None None h i = refl
  time_if_any (Some t) (Some u) h i = ap Some (one_time t u h i)
  time_if_any t u h i = cc

truth_by : (s t : Bool) → truth_if s ≡ truth_if t → s ≡ t
truth_by true true e = refl
truth_by false false e = refl
truth_by s t e = cc

one_truth : (key : List ℕ) (value : Json) (s t : Bool) → HasTruth key value s → HasTruth key value t → s ≡ t
one_truth key value s t h i = truth_by s t (sym h ∙ i)

words_if_any : (key other : List ℕ) (value : Json) (xs ys : Option (List ℕ)) → MayHaveWords key other value xs → MayHaveWords key other value ys → xs ≡ ys
words_if_any key other value None None h i = refl
words_if_any key other value None (Some ys) h (inl i) = cc
words_if_any key other value None (Some ys) h (inr i) = cc
words_if_any key other value (Some xs) None (inl h) i = cc
words_if_any key other value (Some xs) None (inr h) i = cc
words_if_any key other value (Some xs) (Some ys) (inl h) (inl i) = ap Some (one_text key value xs ys h.0 i.0)
words_if_any key other value (Some xs) (Some ys) (inl h) (inr i) = cc
words_if_any key other value (Some xs) (Some ys) (inr h) (inl i) = cc
words_if_any key other value (Some xs) (Some ys) (inr h) (inr i) = ap Some (one_octets other value xs ys h.1 i.1)

state_by : (s t : LeftState) → state_text s ≡ state_text t → s ≡ t
state_by Queued Queued e = refl
state_by Outstanding Outstanding e = refl
state_by Untaken Untaken e = refl
state_by s t e = absurd (omega (arith, ap length e))

module _ (value : Json) where
  one_name : (key : List ℕ) (n m : ℕ) → HasName key value n → HasName key value m → n ≡ m
  one_name key n m h i = sym h.are ∙ ap (from_be_bytes w64) (one_array key value 8 h.octets i.octets h.there i.there) ∙ i.are

  one_run : (n m : ℕ) → HasRun value n → HasRun value m → n ≡ m
  one_run = one_name (codes "run")

  one_client : (xs ys : List ℕ) → HasClient value xs → HasClient value ys → xs ≡ ys
  one_client xs ys h i = same_some xs ys (sym h.is ∙ ap address_in (one_text (codes "client") value h.text i.text h.there i.there) ∙ i.is)

  one_state : (s t : LeftState) → HasState value s → HasState value t → s ≡ t
  one_state s t h i = state_by s t (one_text (codes "state") value (state_text s) (state_text t) h i)

-- ---- the request that a line is about, an entry, and a request that was left

one_about : (value : Json) (one another : LineRequest) → IsAbout value one → IsAbout value another → IsSameRequest one another
one_about value one another h i = record {
  run = one_run value one.run another.run h.run i.run;
  time = one_time (codes "time") value one.time.now another.time.now h.time i.time;
  home = one_text (codes "home") value one.home.now another.home.now h.home i.home;
  lane = one_number (codes "lane") value (2 ^ 16) (2 ^ 16) one.lane another.lane h.lane i.lane;
  number = one_number (codes "record") value (2 ^ 64) (2 ^ 64) one.number another.number h.record_is i.record_is;
  client = one_client value one.client another.client h.client i.client;
  port = one_number (codes "port") value (2 ^ 16) (2 ^ 16) one.port another.port h.port i.port;
  identifier = one_number (codes "identifier") value (2 ^ 8) (2 ^ 8) one.identifier another.identifier h.identifier i.identifier;
  authenticator = one_array (codes "authenticator") value 16 one.authenticator another.authenticator h.authenticator i.authenticator;
  realm = words_if_any (codes "realm") (codes "realm_octets") value (option_copied one.realm) (option_copied another.realm) h.realm i.realm;
  session = words_if_any (codes "session") (codes "session_octets") value (option_copied one.session) (option_copied another.session) h.session i.session;
  status = number_if_any (codes "status") value (2 ^ 32) one.status another.status h.status i.status;
  user = words_if_any (codes "user") (codes "user_octets") value (option_copied one.user) (option_copied another.user) h.user i.user;
}

one_entry : (value : Json) (one another : Entry) → IsEntry value one → IsEntry value another → IsSameEntry one another
one_entry value one another h i = record {
  about = one_about value one.about another.about h.about i.about;
  serial = one_number (codes "serial") value (2 ^ 63) (2 ^ 63) one.serial another.serial h.serial i.serial;
  sent = one_octets (codes "sent") value one.sent.now another.sent.now h.sent i.sent;
  reply = one_octets (codes "reply") value one.reply.now another.reply.now h.reply i.reply;
  response = one_octets (codes "response") value one.response.now another.response.now h.response i.response;
  accepted = time_if_any (codes "accepted") value (option_copied one.accepted) (option_copied another.accepted) h.accepted i.accepted;
  sendings = number_if_any (codes "sendings") value (2 ^ 32) one.sendings another.sendings h.sendings i.sendings;
}

one_left : (value : Json) (one another : Left) → IsLeft value one → IsLeft value another → IsSameLeft one another
one_left value one another h i = record {
  about = one_about value one.about another.about h.about i.about;
  state = one_state value one.state another.state h.state i.state;
  sendings = number_if_any (codes "sendings") value (2 ^ 32) one.sendings another.sendings h.sendings i.sendings;
  accepted = time_if_any (codes "accepted") value (option_copied one.accepted) (option_copied another.accepted) h.accepted i.accepted;
  request = one_octets (codes "request") value one.request.now another.request.now h.request i.request;
  kept = one_truth (codes "kept") value one.kept another.kept h.kept i.kept;
}

-- ---- lists

module _ {X : Type 0} (Is : Json → X → Type 0) (Same : X → X → Type 0) (alike : (value : Json) (x y : X) → Is value x → Is value y → Same x y) where
  alike_each : (items : Items) (xs ys : List X) → AreEach Is items xs → AreEach Is items ys → AllZip Same xs ys
  alike_each no_items [] [] h i = tt
  alike_each no_items [] (y ∷ ys) h i = absurd i
  alike_each no_items (x ∷ xs) ys h i = absurd h
  alike_each (item value values) [] ys h i = absurd h
  alike_each (item value values) (x ∷ xs) [] h i = absurd i
  alike_each (item value values) (x ∷ xs) (y ∷ ys) h i = (alike value x y h.0 i.0, alike_each values xs ys h.1 i.1)

  one_list : (value : Json) (xs ys : List X) → HasLanes Is value xs → HasLanes Is value ys → AllZip Same xs ys
  one_list value xs ys h i =
      let same : h.items ≡ i.items = same_some h.items i.items (ap as_items (same_some (array h.items) (array i.items) (sym h.there ∙ i.there))) in
      alike_each i.items xs ys (subst (λ items. AreEach Is items xs) same h.are) i.are

-- ---- a line that names a run, and one that ends it

one_start : (value : Json) (one another : LaneStart) → IsLaneStart value one → IsLaneStart value another → IsSameStart one another
one_start value one another h i = record {
  lane = one_number (codes "lane") value (2 ^ 16) (2 ^ 16) one.lane another.lane h.lane i.lane;
  home = one_text (codes "home") value one.home.now another.home.now h.home i.home;
  serial = one_number (codes "serial") value (2 ^ 63) (2 ^ 63) one.serial another.serial h.serial i.serial;
}

one_file : (value : Json) (one another : FileBefore) → IsFileBefore value one → IsFileBefore value another → IsSameFile one another
one_file value one another h i = record {
  name = one_text (codes "name") value one.name.now another.name.now h.name i.name;
  sum = sum_if_any (codes "sum") value one.sum another.sum h.sum i.sum;
}

file_if_any : (value : Json) (one another : Option FileBefore) → MayHaveFile value one → MayHaveFile value another → IsSameFileIfAny one another
file_if_any value None None h i = tt
file_if_any value None (Some another) h i = cc
file_if_any value (Some one) None h i = cc
file_if_any value (Some one) (Some another) h i =
    let same : h.found ≡ i.found = same_some h.found i.found (sym h.there ∙ i.there) in
    one_file i.found one another (subst (λ found. IsFileBefore found one) same h.is) i.is

one_begin : (value : Json) (one another : Begin) → IsBegin value one → IsBegin value another → IsSameBegin one another
one_begin value one another h i = record {
  run = one_run value one.run another.run h.run i.run;
  time = one_time (codes "time") value one.time.now another.time.now h.time i.time;
  version = one_text (codes "version") value one.version.now another.version.now h.version i.version;
  file = one_number (codes "file") value (2 ^ 64) (2 ^ 64) one.file another.file h.file i.file;
  before = file_if_any value one.before another.before h.before i.before;
  lanes = one_list IsLaneStart IsSameStart one_start value one.lanes.items another.lanes.items h.lanes i.lanes;
  hidden = number_if_any (codes "hidden") value (2 ^ 32) one.hidden another.hidden h.hidden i.hidden;
}

one_count : (value : Json) (one another : LaneCount) → IsLaneCount value one → IsLaneCount value another → another ≡ one
one_count value one another h i =
    let lane : another.lane ≡ one.lane = one_number (codes "lane") value (2 ^ 16) (2 ^ 16) another.lane one.lane i.lane h.lane in
    let entries : another.entries ≡ one.entries = one_number (codes "entries") value (2 ^ 64) (2 ^ 64) another.entries one.entries i.entries h.entries in
    let accepted : another.accepted ≡ one.accepted = number_if_any (codes "accepted") value (2 ^ 64) another.accepted one.accepted i.accepted h.accepted in
    let left : another.left ≡ one.left = number_if_any (codes "left") value (2 ^ 64) another.left one.left i.left h.left in
    λ d. record { lane = lane d; entries = entries d; accepted = accepted d; left = left d }

one_end : (value : Json) (one another : End) → IsEnd value one → IsEnd value another → IsSameEnd one another
one_end value one another h i = record {
  run = one_run value one.run another.run h.run i.run;
  time = one_time (codes "time") value one.time.now another.time.now h.time i.time;
  lanes = sym (each_same one.lanes.items another.lanes.items (one_list IsLaneCount (λ x y. y ≡ x) one_count value one.lanes.items another.lanes.items h.lanes i.lanes));
  hidden = number_if_any (codes "hidden") value (2 ^ 32) one.hidden another.hidden h.hidden i.hidden;
}

one_record_count : (kind : List ℕ) (value : Json) (one another : RecordCount) → IsRecordCount kind value one → IsRecordCount kind value another → IsSameCount one another
one_record_count kind value one another h i = record {
  run = one_run value one.run another.run h.run i.run;
  time = one_time (codes "time") value one.time.now another.time.now h.time i.time;
  home = one_text (codes "home") value one.home.now another.home.now h.home i.home;
  lane = one_number (codes "lane") value (2 ^ 16) (2 ^ 16) one.lane another.lane h.lane i.lane;
  number = one_number (codes "record") value (2 ^ 64) (2 ^ 64) one.number another.number h.record_is i.record_is;
  count = one_number (codes "count") value (2 ^ 64) (2 ^ 64) one.count another.count h.count.there i.count.there;
}

one_answer_count : (value : Json) (one another : AnswerCount) → IsAnswerCount value one → IsAnswerCount value another → IsSameAnswerCount one another
one_answer_count value one another h i = record {
  run = one_run value one.run another.run h.run i.run;
  time = one_time (codes "time") value one.time.now another.time.now h.time i.time;
  home = one_text (codes "home") value one.home.now another.home.now h.home i.home;
  lane = one_number (codes "lane") value (2 ^ 16) (2 ^ 16) one.lane another.lane h.lane i.lane;
  answer_run = one_name value (codes "answer_run") one.answer_run another.answer_run h.answer_run i.answer_run;
  answer_lane = one_number (codes "answer_lane") value (2 ^ 16) (2 ^ 16) one.answer_lane another.answer_lane h.answer_lane i.answer_lane;
  answer_serial = one_number (codes "answer_serial") value (2 ^ 63) (2 ^ 63) one.answer_serial another.answer_serial h.answer_serial i.answer_serial;
  count = one_number (codes "count") value (2 ^ 64) (2 ^ 64) one.count another.count h.count.there i.count.there;
}

one_resumed : (value : Json) (one another : Resumed) → IsResumed value one → IsResumed value another → IsSameResumed one another
one_resumed value one another h i = record {
  run = one_run value one.run another.run h.run i.run;
  time = one_time (codes "time") value one.time.now another.time.now h.time i.time;
  home = one_text (codes "home") value one.home.now another.home.now h.home i.home;
  lane = one_number (codes "lane") value (2 ^ 16) (2 ^ 16) one.lane another.lane h.lane i.lane;
  number = one_number (codes "record") value (2 ^ 64) (2 ^ 64) one.number another.number h.record_is i.record_is;
  first_run = one_name value (codes "first_run") one.first_run another.first_run h.first_run i.first_run;
  first_lane = one_number (codes "first_lane") value (2 ^ 16) (2 ^ 16) one.first_lane another.first_lane h.first_lane i.first_lane;
  first_number = one_number (codes "first_record") value (2 ^ 64) (2 ^ 64) one.first_number another.first_number h.first_record i.first_record;
}

-- with a record and without one
not_both : (value : Json) (digits : List ℕ) → get (codes "record") value ≡ Some (number digits) → get (codes "record") value ≡ None → ⊥
not_both value digits h i = absurd cc

kind_by : (s t : HiddenKind) → kind_text s ≡ kind_text t → s ≡ t
kind_by AnEntry AnEntry e = refl
kind_by ALeft ALeft e = refl
kind_by AnUnsent AnUnsent e = refl
kind_by AnAgain AnAgain e = refl
kind_by AResumed AResumed e = refl
kind_by s t e = absurd (omega (arith, ap (λ xs. get_or xs 0 0) e))

kind_if_any : (value : Json) (s t : Option HiddenKind) → MayHaveKind value s → MayHaveKind value t → s ≡ t
kind_if_any value None None h i = refl
kind_if_any value (Some s) (Some t) h i = ap Some (kind_by s t (one_text (codes "kind") value (kind_text s) (kind_text t) h i))
kind_if_any value s t h i = cc

one_hidden : (value : Json) (one another : Hidden) → IsHidden value one → IsHidden value another → one ≡ another
one_hidden value one another h i =
    let lane : one.lane ≡ another.lane = number_if_any (codes "lane") value (2 ^ 16) one.lane another.lane h.lane i.lane in
    let kind : one.kind ≡ another.kind = kind_if_any value one.kind another.kind h.kind i.kind in
    let sum : one.sum ≡ another.sum = one_array (codes "sum") value 32 one.sum another.sum h.sum i.sum in
    λ d. record { lane = lane d; kind = kind d; sum = sum d }

-- ---- a line

pub one_line_of : (value : Json) (one another : Line) → IsLineOf value one → IsLineOf value another → IsSameLine one another
one_line_of value (begins one) (begins another) h i = one_begin value one another h i
one_line_of value (enters one) (enters another) h i = one_entry value one another h i
one_line_of value (leaves one) (leaves another) h i = one_left value one another h i
one_line_of value (ends one) (ends another) h i = one_end value one another h i
one_line_of value (unsends one) (unsends another) h i = one_record_count (codes "unsent") value one another h i
one_line_of value (repeats one) (repeats another) h i = one_record_count (codes "again") value one another h i
one_line_of value (hides one) (hides another) h i = one_hidden value one another h i
one_line_of value (recalls one) (recalls another) h i = one_answer_count value one another h i
one_line_of value (resumes one) (resumes another) h i = one_resumed value one another h i
one_line_of value (repeats one) (recalls another) h i = absurd (not_both value h.record_is.digits h.record_is.there i.no_record)
one_line_of value (recalls one) (repeats another) h i = absurd (not_both value i.record_is.digits i.record_is.there h.no_record)
one_line_of value one another h i = absurd (omega (arith, unlike value _ _ h.type_is i.type_is))

module _ (octets : List ℕ) where
  pub one_line : (one another : SummedLine) → IsLine octets one → IsLine octets another → IsSameSummed one another
  one_line one another h i =
      let same : h.value ≡ i.value = same_some h.value i.value (sym h.its_value.read ∙ i.its_value.read) in
      record {
        line = one_line_of i.value one.line another.line (subst (λ value. IsLineOf value one.line) same h.is) i.is;
        sum = sum_if_any (codes "sum") i.value one.sum another.sum (subst (λ value. MayHaveSum (codes "sum") value one.sum) same h.sum) i.sum;
      }

  -- what a reader answers
  pub given_back : (line : SummedLine) (answer : Result SummedLine LineFault) → IsLine octets line → IsAnswer octets answer → GivesBack answer line
  given_back line (Ok its) h a = one_line its line a h
  given_back line (Err NotALine) h a = absurd (a (line, h))
  given_back line (Err OutOfMemory) h a = refl
