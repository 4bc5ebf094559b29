-- What a request repeats, as it is found by the last number of its key.
use Rattle.std.proofs.Common.{◌≡◌, ℕ, List, Option, Some, None, IsSome, refl, sym, ap, ◌∙◌, subst}
use Rattle.std.specs.Prelude.{◌≤◌, IfSome, option_map, Ok}
use Rattle.std.specs.FinMap as map
use Rattle.rad_tables.specs.declared.duplicates.Key.{Key}
use Rattle.rad_tables.specs.Keys.{key_cmp}
use Rattle.rad_tables.proofs.KeyLemmas.{there_inserted}
use Rattle.rad_realms.specs.Checking.{Request}
use Rattle.rad_lane.specs.declared.stamp.Stamp.{Stamp}
use Rattle.rad_lane.specs.declared.accepting.Taken.{Taken}
use Rattle.rad_lane.specs.declared.accepting.Taken.TheVariants.{New, Waiting, Again}
use Rattle.rad_lane.specs.Datagrams.{Datagrams}
use Rattle.rad_lane.specs.Accepts.{Accepts, request_key}
use Rattle.rad_lane.specs.Book.{Book, moment_in}
use Rattle.rad_lane.specs.Outstanding.{AnswerKept}
use Rattle.rad_lane.specs.Repeat.{Repeats, fresh, repeats, repeats_last, repeats_answered, of_key, last_of, answer_to}
use Rattle.rad_lane.specs.internal.Invariant.{last_number, repeats_number}
use Rattle.rad_lane.specs.internal.Taking.{TakesRepeat}

none_last : (book : Book) (now : ℕ) (last : Option Stamp) → option_map (λ (s : Stamp). s.number) last ≡ None → fresh ≡ repeats_last book now last
none_last book now None h = refl
none_last book now (Some stamp) h = cc

some_last : (book : Book) (now number : ℕ) (last : Option Stamp) → option_map (λ (s : Stamp). s.number) last ≡ Some number → repeats_answered book now number (answer_to number book.answered) ≡ repeats_last book now last
some_last book now number None h = cc
some_last book now number (Some stamp) h =
    let same : stamp.number ≡ number = cc in
    ap (λ n. repeats_answered book now n (answer_to n book.answered)) (sym same)

module _ (book value : Book) (same : book ≡ value) (numbers : map.FinMap key_cmp ℕ) (last_numbers : (key : Key) → map.get numbers key ≡ last_number key book.accepted) where
  repeats_none : (key : Key) (now : ℕ) → map.get numbers key ≡ None → fresh ≡ repeats value key now
  unfolding repeats
  repeats_none key now h =
      none_last book now (last_of (of_key key book.accepted)) (sym (last_numbers key) ∙ h)
      ∙ ap (λ (b : Book). repeats_last b now (last_of (of_key key b.accepted))) same

  repeats_some : (key : Key) (now number : ℕ) → map.get numbers key ≡ Some number → repeats_answered value now number (answer_to number value.answered) ≡ repeats value key now
  unfolding repeats
  repeats_some key now number h =
      ap (λ (b : Book). repeats_answered b now number (answer_to number b.answered)) (sym same)
      ∙ some_last book now number (last_of (of_key key book.accepted)) (sym (last_numbers key) ∙ h)
      ∙ ap (λ (b : Book). repeats_last b now (last_of (of_key key b.accepted))) same

  pub repeats_known : (key : Key) (now : ℕ) (last : Option ℕ) → last ≡ map.get numbers key → repeats_number value now last ≡ repeats value key now
  repeats_known key now None h = repeats_none key now (sym h)
  repeats_known key now (Some number) h = repeats_some key now number (sym h)

  -- what is told of any book with this span and these answers, holds of this one
  pub repeats_seen : (key : Key) (now span : ℕ) (answered : List AnswerKept) (last : Option ℕ) (told : Repeats) → last ≡ map.get numbers key → span ≡ book.setup.limits.span → answered ≡ book.answered → ((b : Book) → b.setup.limits.span ≡ span → b.answered ≡ answered → told ≡ repeats_number b now last) → repeats value key now ≡ told
  repeats_seen key now span answered last told h spans answers tells =
      sym (tells value (sym (spans ∙ ap (λ (b : Book). b.setup.limits.span) same)) (sym (answers ∙ ap (λ (b : Book). b.answered) same)) ∙ repeats_known key now last h)

  -- the same of a key and a moment that are read
  pub repeats_told : (key read : Key) → read ≡ key → (at now : ℕ) → now ≡ at → (span : ℕ) (answered : List AnswerKept) (last : Option ℕ) (told : Repeats) → last ≡ map.get numbers read → span ≡ book.setup.limits.span → answered ≡ book.answered → ((b : Book) → b.setup.limits.span ≡ span → b.answered ≡ answered → told ≡ repeats_number b now last) → repeats value key at ≡ told
  repeats_told key read read_is at now now_is span answered last told h spans answers tells =
      ap (λ n. repeats value key n) (sym now_is)
      ∙ repeats_seen key now span answered last told (h ∙ ap (λ q. map.get numbers q) read_is) spans answers tells

-- a key that was inserted has a number
pub had_inserted : (numbers replaced : map.FinMap key_cmp ℕ) (key : Key) (number : ℕ) → replaced ≡ map.insert numbers key number → IsSome (map.get replaced key)
had_inserted numbers replaced key number is = subst (λ m. IsSome (map.get m key)) (sym is) (there_inserted numbers key number)

-- the last number of a key is none of those that are gone
pub since_opening : (numbers : map.FinMap key_cmp ℕ) (opening : ℕ) → ((key : Key) (number : ℕ) → map.get numbers key ≡ Some number → opening ≤ number) → (key : Key) (last : Option ℕ) → last ≡ map.get numbers key → IfSome last (λ number. opening ≤ number)
since_opening numbers opening h key None is = tt
since_opening numbers opening h key (Some number) is = h key number (sym is)

-- a repeat is accepted as it was found
module _ (old : Book) (request : Request) (moment now : ℕ) (at : now ≡ moment_in old moment) (told : Repeats) (is : repeats old (request_key request) now ≡ told) where
  found_then : repeats old (request_key request) (moment_in old moment) ≡ told
  found_then = ap (λ n. repeats old (request_key request) n) (sym at) ∙ is

  passed_then : (new : Book) → new ≡ (let b : Book = record old { last = now } in b) → new ≡ (let b : Book = record old { last = moment_in old moment } in b)
  passed_then new same = same ∙ ap (λ n. let b : Book = record old { last = n } in b) at

  pub repeat_accepted : (taken : Taken) (d : Datagrams) (new : Book) → TakesRepeat told (Some taken) d → new ≡ (let b : Book = record old { last = now } in b) → Accepts old request moment (Ok taken) d new
  repeat_accepted (Waiting number) d new takes same = (found_then ∙ takes.0, passed_then new same, takes.1)
  repeat_accepted (Again number) d new takes same = (found_then ∙ takes, passed_then new same)
  repeat_accepted (New number) d new takes same = absurd takes
