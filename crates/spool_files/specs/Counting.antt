-- What counts of the entries of a spool: the requests that are open, and the answers that are remembered. The entries are
-- those of all segments, in their order. Own.
use Rattle.std.specs.Prelude.{◌≡◌, ℕ, ◌+◌, ◌*◌, ◌-◌, ◌≤◌, Bool, true, false, not, nat_le, nat_lt, List, [], ◌∷◌, ◌++◌, reverse, map, Option, Some, None, is_some, if◌then◌else◌}
use Rattle.std.specs.List.{filter, list_any, AllByRecursion}
use Rattle.std.specs.List.Sorted.{IsPermutation, IsNonDecreasingBy}
use Rattle.std.specs.Ordering.{eq_by_cmp}
use Rattle.std.specs.FinMap as table
use Rattle.rad_tables.specs.declared.duplicates.Key.{Key}
use Rattle.rad_tables.specs.Keys.{key_cmp}
use Rattle.spool_files.specs.declared.entry.Head.{Head}
use Rattle.spool_files.specs.declared.entry.Head.TheVariants as heads
use Rattle.spool_files.specs.Entries.{Entry}
use Rattle.spool_files.specs.declared.counting.OpenRequest.{OpenRequest}
use Rattle.spool_files.specs.declared.counting.RememberedAnswer.{RememberedAnswer}
use Rattle.spool_files.specs.declared.counting.Counted.{Counted}

-- the key of the request that an entry is about; the beginning of a segment is about none
abbrev pub key_of : Head → Option Key
key_of (heads.Begun b) = None
key_of (heads.Came c) = Some c.key
key_of (heads.Answered a) = Some a.key
key_of (heads.GivenUp g) = Some g.key

abbrev pub is_key : Key → Option Key → Bool
is_key key None = false
is_key key (Some other) = eq_by_cmp key_cmp key other

-- one of these entries is about the request with this key
abbrev pub has_about : Key → List Entry → Bool
has_about key entries = list_any (λ entry. is_key key (key_of entry.0)) entries

-- an entry is about a request, and none of the later ones is about it
abbrev pub is_last : Head → List Entry → Bool
is_last (heads.Begun b) later = false
is_last (heads.Came c) later = not (has_about c.key later)
is_last (heads.Answered a) later = not (has_about a.key later)
is_last (heads.GivenUp g) later = not (has_about g.key later)

-- those of the entries that are the last about their requests, where other entries follow them
abbrev pub last_of : List Entry → List Entry → List Entry
last_of [] later = []
last_of (entry ∷ entries) later = if is_last entry.0 (entries ++ later) then entry ∷ last_of entries later else last_of entries later

abbrev pub is_request : Entry → Bool
is_request (heads.Begun b, text) = false
is_request (heads.Came c, text) = true
is_request (heads.Answered a, text) = false
is_request (heads.GivenUp g, text) = false

-- an answer that is no older than the span
abbrev pub is_answer_within : ℕ → ℕ → Entry → Bool
is_answer_within now span (heads.Begun b, text) = false
is_answer_within now span (heads.Came c, text) = false
is_answer_within now span (heads.Answered a, text) = nat_le (now - a.moment) span
is_answer_within now span (heads.GivenUp g, text) = false

-- The requests among the entries that are open, where others follow: no later entry is about them. So an answer, or a
-- giving-up, closes what stands before it alone, and each request is there once.
abbrev pub open_before : List Entry → List Entry → List Entry
open_before entries later = filter is_request (last_of entries later)

-- the answers among the entries that are remembered, where others follow: none is about their requests
abbrev pub answers_before : ℕ → ℕ → List Entry → List Entry → List Entry
answers_before now span entries later = filter (is_answer_within now span) (last_of entries later)

-- the requests that are open
abbrev pub open_of : List Entry → List Entry
open_of entries = open_before entries []

-- the answers that are remembered
abbrev pub answers_of : ℕ → ℕ → List Entry → List Entry
answers_of now span entries = answers_before now span entries []

-- requests and answers as the entries that they were read from
abbrev pub request_entries : List OpenRequest → List Entry
request_entries found = map (λ r. (heads.Came r.came, r.octets.items)) found

abbrev pub answer_entries : List RememberedAnswer → List Entry
answer_entries found = map (λ a. (heads.Answered a.answered, a.octets.items)) found

-- these are the keys of the requests that the entries are about
abbrev pub Knows : table.FinMap key_cmp ℕ → List Entry → Type 0
Knows known entries = (key : Key) → is_some (table.get known key) ≡ has_about key entries

-- What was counted of these entries, from the last to the first, where others follow: the requests and the answers among
-- them that count, the last first.
pub record Counts (now span : ℕ) (counted : Counted) (done later : List Entry) : Type 0 where
  pub known : Knows counted.known (done ++ later)
  pub requests : request_entries counted.requests.items ≡ reverse (open_before done later)
  pub answers : answer_entries counted.answers.items ≡ reverse (answers_before now span done later)

-- the same requests, in the order in which they came
pub record AreByArrival (before after : List OpenRequest) : Type 0 where
  pub same : IsPermutation before after
  pub in_order : IsNonDecreasingBy (λ r. r.came.arrival) after

-- What is open and what is remembered stay the same when the oldest entries are removed, if nothing of them counts.
pub record RemovalKeeps (now span : ℕ) (oldest newer : List Entry) : Type 0 where
  pub requests : open_of (oldest ++ newer) ≡ open_of newer
  pub answers : answers_of now span (oldest ++ newer) ≡ answers_of now span newer

-- Of the entries that pass a test: what counts of the older ones and what of the newer ones is what counts of all.
abbrev pub InParts : (Entry → Bool) → Type 0
InParts test = (older newer : List Entry) → filter test (last_of (older ++ newer) []) ≡ filter test (last_of older newer) ++ filter test (last_of newer [])

-- One more entry takes away what is about its own request, and nothing else, and counts itself.
abbrev pub Closes : (Entry → Bool) → Type 0
Closes test = (entries : List Entry) (entry : Entry) → filter test (last_of (entries ++ entry ∷ []) []) ≡ filter (λ other. is_last other.0 (entry ∷ [])) (filter test (last_of entries [])) ++ filter test (entry ∷ [])

-- What is open in the oldest entries, written once more behind the newer ones.
pub record WritingOnceMoreKeeps (now span : ℕ) (oldest newer : List Entry) : Type 0 where
  -- each counts once, with the oldest entries or without
  pub with_oldest : open_of (oldest ++ (newer ++ open_before oldest newer)) ≡ open_of newer ++ open_before oldest newer
  pub without_oldest : open_of (newer ++ open_before oldest newer) ≡ open_of newer ++ open_before oldest newer
  -- and nothing of the oldest ones is open any more, so that they may be removed if no answer of them is remembered
  pub oldest_closed : open_before oldest (newer ++ open_before oldest newer) ≡ []
  -- no answer is forgotten or remembered by it
  pub answers : answers_of now span (newer ++ open_before oldest newer) ≡ answers_of now span newer

-- Of segments: how many octets each has, and the moment of the newest entry in it.
abbrev pub Size : Type 0
Size = ℕ × ℕ

abbrev pub total_of : List Size → ℕ
total_of [] = 0
total_of (size ∷ sizes) = size.0 + total_of sizes

-- those that were written within the span
abbrev pub within_of : ℕ → ℕ → List Size → ℕ
within_of now span [] = 0
within_of now span (size ∷ sizes) = (if nat_le (now - size.1) span then size.0 else 0) + within_of now span sizes

-- Where the segments have more octets than they may, the oldest was not written within the span.
abbrev pub OldestIsPast : Type 0
OldestIsPast =
    (now span most counting : ℕ) (oldest : Size) (newer : List Size) → AllByRecursion (λ size. oldest.1 ≤ size.1) newer
    → nat_lt (4 * counting + within_of now span (oldest ∷ newer) + 3 * most) (total_of (oldest ∷ newer)) ≡ true
    → nat_le (now - oldest.1) span ≡ false

-- no answer is newer than this moment
abbrev pub AnsweredBy : ℕ → Entry → Type 0
AnsweredBy moment (heads.Begun b, text) = Unit {0}
AnsweredBy moment (heads.Came c, text) = Unit {0}
AnsweredBy moment (heads.Answered a, text) = a.moment ≤ moment
AnsweredBy moment (heads.GivenUp g, text) = Unit {0}

-- So nothing but open requests keeps it, and it can be removed once these are written once more.
abbrev pub PastCanGo : Type 0
PastCanGo =
    (now span moment : ℕ) (oldest newer : List Entry) → AllByRecursion (AnsweredBy moment) oldest
    → nat_le (now - moment) span ≡ false
    → RemovalKeeps now span oldest (newer ++ open_before oldest newer)
