-- The entries of a spool and their octets. Own. Numbers are big-endian.
use Rattle.std.specs.Prelude.{◌≡◌, ℕ, ◌<◌, ◌≤◌, ◌^◌, List, [], ◌∷◌, ◌++◌, length, map}
use Rattle.std.specs.Borrow.{Bor}
use Rattle.std.specs.List.{flat_map, AllByRecursion}
use Rattle.std.specs.Int.{w16, w64, to_be_bytes}
use Rattle.rad_tables.specs.declared.duplicates.Key.{Key}
use Rattle.spool_files.specs.declared.entry.LocalAddress.{LocalAddress}
use Rattle.spool_files.specs.declared.entry.Begun.{Begun}
use Rattle.spool_files.specs.declared.entry.Came.{Came}
use Rattle.spool_files.specs.declared.entry.Answered.{Answered}
use Rattle.spool_files.specs.declared.entry.GivenUp.{GivenUp}
use Rattle.spool_files.specs.declared.entry.Head.{Head}
use Rattle.spool_files.specs.declared.entry.Head.TheVariants as heads

-- an entry: its head and its text, which is the octets of a request or of a response, or a reason
abbrev pub Entry : Type 0
Entry = Head × List ℕ

-- entries without where their texts lie
abbrev pub views : List (Head × Bor (List ℕ)) → List Entry
views entries = map (λ e. (e.0, e.1.now)) entries

abbrev pub key_octets : Key → List ℕ
key_octets k = k.authenticator ++ (k.client ++ (to_be_bytes w16 k.port ++ k.identifier ∷ []))

abbrev pub address_octets : LocalAddress → List ℕ
address_octets a = a.address ++ to_be_bytes w16 a.port

abbrev pub begun_octets : Begun → List ℕ
begun_octets b = to_be_bytes w16 b.version ++ (to_be_bytes w64 b.run ++ to_be_bytes w64 b.number)

-- run, lane, number or serial, and moment
abbrev pub origin_octets : ℕ → ℕ → ℕ → ℕ → List ℕ
origin_octets run lane number moment = to_be_bytes w64 run ++ (to_be_bytes w16 lane ++ (to_be_bytes w64 number ++ to_be_bytes w64 moment))

abbrev pub number_octets : Came → List ℕ
number_octets c = to_be_bytes w64 c.arrival ++ origin_octets c.run c.lane c.number c.moment

abbrev pub came_octets : Came → List ℕ
came_octets c = key_octets c.key ++ (address_octets c.ours ++ number_octets c)

abbrev pub answered_octets : Answered → List ℕ
answered_octets a = key_octets a.key ++ origin_octets a.run a.lane a.serial a.moment

abbrev pub given_up_octets : GivenUp → List ℕ
given_up_octets g = key_octets g.key ++ to_be_bytes w64 g.moment

-- a head begins with its kind
abbrev pub head_octets : Head → List ℕ
head_octets (heads.Begun b) = 1 ∷ begun_octets b
head_octets (heads.Came c) = 2 ∷ came_octets c
head_octets (heads.Answered a) = 3 ∷ answered_octets a
head_octets (heads.GivenUp g) = 4 ∷ given_up_octets g

-- an entry: its head, the length of its text, and its text
abbrev pub entry_octets : Entry → List ℕ
entry_octets e = head_octets e.0 ++ (to_be_bytes w16 (length e.1) ++ e.1)

abbrev pub octets_of : List Entry → List ℕ
octets_of entries = flat_map entry_octets entries

-- the numbers of a head have room in its fields
abbrev pub FitsKey : Key → Type 0
FitsKey k = (length k.authenticator ≡ 16) × ((length k.client ≡ 4) × ((k.port < 2 ^ 16) × (k.identifier < 2 ^ 8)))

abbrev pub FitsAddress : LocalAddress → Type 0
FitsAddress a = (length a.address ≡ 4) × (a.port < 2 ^ 16)

abbrev pub FitsBegun : Begun → Type 0
FitsBegun b = (b.version < 2 ^ 16) × ((b.run < 2 ^ 64) × (b.number < 2 ^ 64))

abbrev pub FitsCame : Came → Type 0
FitsCame c =
    FitsKey c.key × (FitsAddress c.ours × ((c.arrival < 2 ^ 64) × ((c.run < 2 ^ 64)
    × ((c.lane < 2 ^ 16) × ((c.number < 2 ^ 64) × (c.moment < 2 ^ 64))))))

abbrev pub FitsAnswered : Answered → Type 0
FitsAnswered a = FitsKey a.key × ((a.run < 2 ^ 64) × ((a.lane < 2 ^ 16) × ((a.serial < 2 ^ 64) × (a.moment < 2 ^ 64))))

abbrev pub FitsGivenUp : GivenUp → Type 0
FitsGivenUp g = FitsKey g.key × (g.moment < 2 ^ 64)

abbrev pub FitsHead : Head → Type 0
FitsHead (heads.Begun b) = FitsBegun b
FitsHead (heads.Came c) = FitsCame c
FitsHead (heads.Answered a) = FitsAnswered a
FitsHead (heads.GivenUp g) = FitsGivenUp g

-- a request and a response are packets, of 20 to 4,096 octets (RFC 2866 section 3, Length); a reason is of 255 octets at most
abbrev pub least_text : Head → ℕ
least_text (heads.Came c) = 20
least_text (heads.Answered a) = 20
least_text head = 0

abbrev pub greatest_text : Head → ℕ
greatest_text (heads.Begun b) = 0
greatest_text (heads.GivenUp g) = 255
greatest_text head = 4096

abbrev pub FitsEntry : Entry → Type 0
FitsEntry e = FitsHead e.0 × ((least_text e.0 ≤ length e.1) × (length e.1 ≤ greatest_text e.0))

abbrev pub AreEntries : List Entry → Type 0
AreEntries entries = AllByRecursion FitsEntry entries

-- the octets are those of these entries, and of nothing else
pub record Spells (octets : List ℕ) (entries : List Entry) : Type 0 where
  pub fit : AreEntries entries
  pub are : octets ≡ octets_of entries

-- octets are those of one list of entries at most
abbrev pub AreOfOneList : Type 0
AreOfOneList = (octets : List ℕ) (one other : List Entry) → Spells octets one → Spells octets other → one ≡ other
