-- Lines of which no more is kept than a command may have.
use Rattle.std.proofs.Common.{◌≡◌, ◌≢◌, ℕ, ◌+◌, ◌-◌, ◌<◌, ◌≤◌, min, List, [], ◌∷◌, ◌++◌, length, take, drop, Option, Some, None, sym, ap, subst, ◌∙◌, arith, ⊎_elim, inl, inr}
use Rattle.std.specs.Prelude.{⊤, codes, slice_get, Ok, Err, MatchOption}
use Rattle.std.proofs.lemmas.Bool.{cases_lt}
use Rattle.std.proofs.Math.Nat.{min_comm}
use Rattle.std.proofs.lemmas.List.{take-append-le, take_min, take_all, take-append-drop, length-take, append-nil, append_assoc, drop_more}
use Rattle.std.proofs.lemmas.List.Elements.{All-append}
use Rattle.std.proofs.lemmas.Option.{slice_get_within, get_or_from_slice_get}
use Rattle.std.proofs.Math.Seq.{take-append-add}
use Rattle.std.specs.Io.KnownBytes.{Consumes, IsAtEnd, Keeps, prepend_known}
use Rattle.rad_console.specs.declared.commands.Command.{Command}
use Rattle.rad_console.specs.declared.commands.Command.TheVariants.{State, Drain, Unknown}
use Rattle.rad_console.specs.Commands.{Asks, HasNoFeed, EndsLine, ReadsNext}

-- as many octets as there is room for stand behind the front
pub fits_behind : (front octets : List ℕ) (count : ℕ) → length front ≤ 64 → count ≡ min (length octets) (64 - length front)
    → front ++ take count octets ≡ take 64 (front ++ octets)
fits_behind front octets count short is =
    let whole : take (length front + (64 - length front)) (front ++ octets) ≡ front ++ take (64 - length front) octets =
    take-append-add front octets (64 - length front) in
    let sum : length front + (64 - length front) ≡ 64 = omega (arith, short) in
    let fit : take count octets ≡ take (64 - length front) octets =
    ap (λ n. take n octets) (is ∙ min_comm (length octets) (64 - length front)) ∙ take_min (64 - length front) octets in
    ap (λ xs. front ++ xs) fit ∙ sym whole ∙ ap (λ n. take n (front ++ octets)) sum

-- what was cut off of the front makes no difference
pub cut_twice : (front octets : List ℕ) → take 64 (take 64 front ++ octets) ≡ take 64 (front ++ octets)
cut_twice front octets = ⊎_elim
    (λ more. let long : length (take 64 front) ≡ 64 = length-take 64 front ∙ omega (arith, more) in
    take-append-le 64 (take 64 front) octets (omega (arith, long)) ∙ take_all 64 (take 64 front) (omega (arith, long))
    ∙ sym (take-append-le 64 front octets (omega (arith, more))))
    (λ few. ap (λ xs. take 64 (xs ++ octets)) (take_all 64 front few))
    (cases_lt 64 (length front))

-- a text that is shorter than what is kept was not cut
short_text : (line text : List ℕ) → length text < 64 → take 64 line ≡ text → line ≡ text
short_text line text short is =
    let counted : min 64 (length line) ≡ length text = sym (length-take 64 line) ∙ ap length is in
    sym (take_all 64 line (omega (arith, counted, short))) ∙ is

-- what the front of a line asks for, the line asks for
pub asks_whole : (line : List ℕ) (command : Command) → Asks (take 64 line) command → Asks line command
asks_whole line State asks = short_text line (codes "state") (omega arith) asks
asks_whole line Drain asks = short_text line (codes "drain") (omega arith) asks
asks_whole line Unknown asks = (
  (λ is. asks.0 (ap (λ xs. take 64 xs) is)),
  (λ is. asks.1 (ap (λ xs. take 64 xs) is)),
)

-- octets are those before one of them, that one, and those behind it
pub split_round : (octets : List ℕ) (place octet : ℕ) → slice_get octets place ≡ Some octet
    → octets ≡ take place octets ++ octet ∷ drop (place + 1) octets
split_round octets place octet there =
    sym (take-append-drop place octets)
    ∙ ap (λ xs. take place octets ++ xs) (drop_more octets place octet (slice_get_within octets place octet there)
    ∙ ap (λ x. x ∷ drop (place + 1) octets) (get_or_from_slice_get octets place octet octet there))

-- of a line this front was read, of which so much is kept; these octets stand behind it, and then those that are left
pub record HasRead (before line unread left : List ℕ) : Type 0 where
  pub front : List ℕ
  pub split : before ≡ front ++ (unread ++ left)
  pub kept : line ≡ take 64 front
  pub unended : HasNoFeed front

-- the same where it is known what is left to be read
abbrev pub HasReadOf : Option (List ℕ) → List ℕ → List ℕ → Option (List ℕ) → Type 0
HasReadOf None line unread left = ⊤
HasReadOf (Some before) line unread None = ⊥
HasReadOf (Some before) line unread (Some left) = HasRead before line unread left

-- nothing was read yet
pub begins : (line unread : List ℕ) (left : Option (List ℕ)) → length line ≤ 64 → HasNoFeed line
    → HasReadOf (prepend_known (line ++ unread) left) line unread left
begins line unread None short unended = tt
begins line unread (Some left) short unended = record {
  front = line;
  split = append_assoc line unread left;
  kept = sym (take_all 64 line short);
  unended = unended;
}

-- the line has not ended, and more was read
pub goes_on : (before : Option (List ℕ)) (line unread : List ℕ) (left : Option (List ℕ)) (given : List ℕ) (after : Option (List ℕ))
    → HasReadOf before line unread left → HasNoFeed unread → Consumes left after given
    → HasReadOf before (take 64 (line ++ unread)) given after
goes_on None line unread left given after read unended more = tt
goes_on (Some before) line unread None given after read unended more = absurd read
goes_on (Some before) line unread (Some left) given None read unended more = absurd more
goes_on (Some before) line unread (Some left) given (Some after) read unended more = record {
  front = read.front ++ unread;
  split = read.split ∙ sym (append_assoc read.front unread left) ∙ ap (λ xs. (read.front ++ unread) ++ xs) more;
  kept = ap (λ xs. take 64 (xs ++ unread)) read.kept ∙ cut_twice read.front unread;
  unended = All-append (λ octet. octet ≢ 10) read.front unread read.unended unended;
}

-- the line ends among the octets that were read
pub reads_line : (E : Type 0) (before : Option (List ℕ)) (line unread : List ℕ) (left : Option (List ℕ)) (command : Command) (empty after : List ℕ)
    → HasReadOf before line unread left → EndsLine line unread command after → empty ≡ []
    → ReadsNext {E = E} before (Ok (Some command)) (prepend_known (empty ++ after) left)
reads_line E None line unread left command empty after read ends is = tt
reads_line E (Some before) line unread None command empty after read ends is = absurd read
reads_line E (Some before) line unread (Some left) command empty after read ends is = record {
  line = read.front ++ ends.rest;
  first = All-append (λ octet. octet ≢ 10) read.front ends.rest read.unended ends.first;
  asks = asks_whole (read.front ++ ends.rest) command (subst (λ xs. Asks xs command) (cut_twice read.front ends.rest)
      (subst (λ xs. Asks (take 64 (xs ++ ends.rest)) command) read.kept ends.asks));
  ends = inl (read.split ∙ ap (λ xs. read.front ++ (xs ++ left)) ends.split
      ∙ ap (λ xs. read.front ++ xs) (append_assoc ends.rest (10 ∷ after) left)
      ∙ sym (append_assoc read.front ends.rest (10 ∷ (after ++ left)))
      ∙ ap (λ xs. (read.front ++ ends.rest) ++ 10 ∷ ((xs ++ after) ++ left)) (sym is));
}

-- the end of what is read ends the line
pub reads_last : (E : Type 0) (before : Option (List ℕ)) (line given : List ℕ) (after : Option (List ℕ)) (result : Option Command) (empty unread : List ℕ)
    → HasReadOf before line given after → given ≡ [] → IsAtEnd after
    → MatchOption result (line ≡ []) (λ command. (line ≢ []) × Asks line command) → empty ≡ [] → unread ≡ given
    → ReadsNext {E = E} before (Ok result) (prepend_known (empty ++ unread) after)
reads_last E None line given after result empty unread read none end told is same = tt
reads_last E (Some before) line given None result empty unread read none end told is same = absurd read
reads_last E (Some before) line given (Some left) None empty unread read none end told is same =
    let nothing : read.front ≡ [] = short_text read.front [] (omega arith) (sym read.kept ∙ told) in (
      read.split ∙ ap (λ xs. xs ++ (given ++ left)) nothing ∙ ap (λ xs. xs ++ left) none ∙ end,
      ap (λ xs. (xs ++ unread) ++ left) is ∙ ap (λ xs. xs ++ left) (same ∙ none) ∙ end,
    )
reads_last E (Some before) line given (Some left) (Some command) empty unread read none end told is same = record {
  line = read.front;
  first = read.unended;
  asks = asks_whole read.front command (subst (λ xs. Asks xs command) read.kept told.1);
  ends = inr (
    read.split ∙ ap (λ xs. read.front ++ (xs ++ left)) none ∙ ap (λ xs. read.front ++ xs) end ∙ append-nil read.front,
    (λ nothing. told.0 (read.kept ∙ ap (λ xs. take 64 xs) nothing ∙ take_all 64 [] (omega arith))),
    ap (λ xs. (xs ++ unread) ++ left) is ∙ ap (λ xs. xs ++ left) (same ∙ none) ∙ end,
  );
}

-- a read that fails keeps the line as far as it was read
pub keeps_front : {E : Type 0} (before : Option (List ℕ)) (line unread : List ℕ) (left : Option (List ℕ)) (error : E) (longer empty : List ℕ) (after : Option (List ℕ))
    → HasReadOf before line unread left → HasNoFeed unread → longer ≡ take 64 (line ++ unread) → empty ≡ [] → Keeps left after
    → ReadsNext before (Err error) (prepend_known (longer ++ empty) after)
keeps_front None line unread left error longer empty after read unended pushed is kept = tt
keeps_front (Some before) line unread None error longer empty after read unended pushed is kept = absurd read
keeps_front (Some before) line unread (Some left) error longer empty None read unended pushed is kept = absurd kept
keeps_front (Some before) line unread (Some left) error longer empty (Some after) read unended pushed is kept = record {
  front = read.front ++ unread;
  rest = left;
  split = read.split ∙ sym (append_assoc read.front unread left);
  kept = ap (λ xs. (xs ++ empty) ++ after) (pushed ∙ ap (λ xs. take 64 (xs ++ unread)) read.kept ∙ cut_twice read.front unread)
      ∙ ap (λ xs. (take 64 (read.front ++ unread) ++ xs) ++ after) is
      ∙ ap (λ xs. xs ++ after) (append-nil (take 64 (read.front ++ unread)))
      ∙ ap (λ xs. take 64 (read.front ++ unread) ++ xs) kept;
  unended = All-append (λ octet. octet ≢ 10) read.front unread read.unended unended;
}

-- so does one that gives up
pub gives_up : {E : Type 0} (before : Option (List ℕ)) (line unread : List ℕ) (left : Option (List ℕ)) (error : E)
    → HasReadOf before line unread left → ReadsNext before (Err error) (prepend_known (line ++ unread) left)
gives_up None line unread left error read = tt
gives_up (Some before) line unread None error read = absurd read
gives_up (Some before) line unread (Some left) error read = record {
  front = read.front;
  rest = unread ++ left;
  split = read.split;
  kept = append_assoc line unread left ∙ ap (λ xs. xs ++ (unread ++ left)) read.kept;
  unended = read.unended;
}
