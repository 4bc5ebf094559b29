-- What texts and numbers at the keys of a line show of its parts.
use Rattle.std.proofs.Common.{◌≡◌, ◌≢◌, ℕ, ◌*◌, ◌<◌, ◌≤◌, ◌^◌, List, length, codes, Option, Some, None, Result, Ok, Err, refl, sym, ap, ◌∙◌, subst, arith, inl, inr}
use Rattle.std.specs.Prelude.{IsSomeAnd}
use Rattle.std.specs.Int.{w64, from_be_bytes}
use Rattle.std.specs.Str.{IsUtf8}
use Rattle.json.specs.Json.{Json, string, document}
use Rattle.json.specs.Find.{get, as_str}
use Rattle.json.specs.Strict.{HasUniqueKeys}
use Rattle.json.specs.declared.error.Error.{Error}
use Rattle.json.specs.declared.error.Error.TheVariants.{Invalid, OutOfMemory, TooLong, DuplicateKey}
use Rattle.hex.specs.Hex.{decode_of}
use Rattle.rad_realms.specs.Address.{address_in}
use Rattle.json_objects.specs.Written.{IsValue}
use Rattle.ledger_lines.specs.Lines.{Denies, HasText, HasNumber, HasOctets, HasArray, HasName, HasState, HasTime, IsTime, HasClient, MayHaveNumber, MayHaveSum, MayHaveTime, MayHaveWords, state_text}
use Rattle.ledger_lines.specs.declared.faults.LineFault.{LineFault}
use Rattle.rad_lane.specs.declared.leftover.LeftState.{LeftState}
use Rattle.rad_lane.specs.declared.leftover.LeftState.TheVariants.{Queued, Outstanding, Untaken}
use Rattle.ledger_lines.proofs.Lines.{denied, differ}
use Rattle.ledger_lines.proofs.Pairs.{DigitsRead}
use Rattle.ledger_lines.proofs.Found.{same_some, string_by, TextThere, NumberThere, OctetsThere, narrower, too_large, none_below}

-- ---- the value of a line

module _ (octets : List ℕ) where
  abbrev pub ValueThere : Type 0
  ValueThere = (v : Json) × IsValue octets v

  pub is_value : (text : List ℕ) (v : Json) → text ≡ octets → IsUtf8 octets → document text ≡ Some v → HasUniqueKeys v → IsValue octets v
  is_value text v e u d once = record { characters = u; read = ap document (sym e) ∙ d; once = once }

  pub no_utf8 : ¬ IsUtf8 octets → ¬ ValueThere
  no_utf8 n p = n p.1.characters

  pub no_value : {V : Type 0} (text : List ℕ) (result : Result V Error) (e : Error) → result ≡ Err e → text ≡ octets → (result ≡ Err Invalid → document text ≡ None) → (result ≡ Err DuplicateKey → IsSomeAnd (document text) (λ j. ¬ HasUniqueKeys j)) → result ≢ Err TooLong → e ≢ OutOfMemory → ¬ ValueThere
  no_value text result Invalid is same i d t o p = differ (document octets) p.0 (sym (ap document (sym same) ∙ i is)) p.1.read
  no_value text result OutOfMemory is same i d t o p = o refl
  no_value text result TooLong is same i d t o p = t is
  no_value text result DuplicateKey is same i d t o p =
      subst (λ r. IsSomeAnd r (λ j. ¬ HasUniqueKeys j)) (ap document same ∙ p.1.read) (d is) p.1.once

-- ---- arrays of octets

module _ (key : List ℕ) (count : ℕ) (value : Json) where
  abbrev pub ArrayThere : Type 0
  ArrayThere = (octets : List ℕ) × HasArray key count value octets

  module _ (digits : List ℕ) (t : HasText key value digits) where
    pub array_found : (octets : List ℕ) → length digits ≡ 2 * count → decode_of digits ≡ Ok octets → HasArray key count value octets
    array_found octets long are = record { digits = digits; there = t; long = long; are = are }

    pub no_array : (length digits ≡ 2 * count → ¬ DigitsRead digits) → ¬ ArrayThere
    no_array n (octets, h) =
        let same : digits ≡ h.digits = same_some digits h.digits (ap as_str (same_some (string digits) (string h.digits) (sym t ∙ h.there))) in
        n (ap length same ∙ h.long) (octets, ap decode_of same ∙ h.are)

  pub no_array_text : (fault : LineFault) → Denies fault (TextThere key value) → Denies fault ArrayThere
  no_array_text fault d = denied (TextThere key value) ArrayThere (λ p. (p.1.digits, p.1.there)) fault d

-- ---- runs, moments, addresses

module _ (key : List ℕ) (value : Json) where
  abbrev pub NameThere : Type 0
  NameThere = (run : ℕ) × HasName key value run

  pub name_found : (octets : List ℕ) (run : ℕ) → HasArray key 8 value octets → run ≡ from_be_bytes w64 octets → HasName key value run
  name_found octets run h e = record { octets = octets; there = h; are = sym e }

  pub no_name : ¬ ArrayThere key 8 value → ¬ NameThere
  no_name n p = n (p.1.octets, p.1.there)

  pub no_name_text : (fault : LineFault) → Denies fault (TextThere key value) → Denies fault NameThere
  no_name_text fault d = denied (TextThere key value) NameThere (λ p. (p.1.there.digits, p.1.there.there)) fault d

module _ (value : Json) where
  abbrev pub ClientThere : Type 0
  ClientThere = (client : List ℕ) × HasClient value client

  pub client_found : (text client : List ℕ) → HasText (codes "client") value text → Some client ≡ address_in text → HasClient value client
  client_found text client t e = record { text = text; there = t; is = sym e }

  pub no_client : (text : List ℕ) → HasText (codes "client") value text → None ≡ address_in text → ¬ ClientThere
  no_client text t n (client, h) =
      let same : text ≡ h.text = same_some text h.text (ap as_str (same_some (string text) (string h.text) (sym t ∙ h.there))) in
      differ (address_in text) client n (ap address_in same ∙ h.is)

  pub no_client_text : (fault : LineFault) → Denies fault (TextThere (codes "client") value) → Denies fault ClientThere
  no_client_text fault d = denied (TextThere (codes "client") value) ClientThere (λ p. (p.1.text, p.1.there)) fault d

-- ---- what may be there or not

module _ (key other : List ℕ) (value : Json) where
  abbrev pub WordsThere : Type 0
  WordsThere = (words : Option (List ℕ)) × MayHaveWords key other value words

  pub words_none : None ≡ get key value → None ≡ get other value → MayHaveWords key other value None
  words_none a b = (sym a, sym b)

  pub words_text : (found : Json) (text : List ℕ) → Some found ≡ get key value → Some text ≡ as_str found → None ≡ get other value → MayHaveWords key other value (Some text)
  words_text found text a t b = inl (sym a ∙ ap Some (string_by found text (sym t)), sym b)

  pub words_octets : (octets : List ℕ) → None ≡ get key value → HasOctets other value octets → MayHaveWords key other value (Some octets)
  words_octets octets a h = inr (sym a, h)

  pub two_words : (a b : Json) → Some a ≡ get key value → Some b ≡ get other value → ¬ WordsThere
  two_words a b e f (None, w) = differ (get key value) a (sym w.0) (sym e)
  two_words a b e f (Some octets, inl w) = differ (get other value) b (sym w.1) (sym f)
  two_words a b e f (Some octets, inr w) = differ (get key value) a (sym w.0) (sym e)

  pub no_words : (found : Json) → Some found ≡ get key value → None ≡ as_str found → ¬ WordsThere
  no_words found e n (None, w) = differ (get key value) found (sym w.0) (sym e)
  no_words found e n (Some octets, inl w) = differ (as_str found) octets n (ap as_str (same_some found (string octets) (e ∙ w.0)))
  no_words found e n (Some octets, inr w) = differ (get key value) found (sym w.0) (sym e)

  octets_of : None ≡ get key value → (b : Json) → Some b ≡ get other value → WordsThere → OctetsThere other value
  octets_of a b f (None, w) = absurd (differ (get other value) b (sym w.1) (sym f))
  octets_of a b f (Some octets, inl w) = absurd (differ (get other value) b (sym w.1) (sym f))
  octets_of a b f (Some octets, inr w) = (octets, w.1)

  pub no_words_octets : (fault : LineFault) (b : Json) → None ≡ get key value → Some b ≡ get other value → Denies fault (OctetsThere other value) → Denies fault WordsThere
  no_words_octets fault b a f d = denied (OctetsThere other value) WordsThere (octets_of a b f) fault d

module _ (key : List ℕ) (value : Json) where
  abbrev pub TimeThere : Type 0
  TimeThere = (time : List ℕ) × HasTime key value time

  pub time_found : (time : List ℕ) → HasText key value time → IsTime time → HasTime key value time
  time_found time t is = record { there = t; is = is }

  pub no_time : (time : List ℕ) → HasText key value time → ¬ IsTime time → ¬ TimeThere
  no_time time t n (other, h) =
      n (subst IsTime (same_some other time (ap as_str (same_some (string other) (string time) (sym h.there ∙ t)))) h.is)

  pub no_time_text : (fault : LineFault) → Denies fault (TextThere key value) → Denies fault TimeThere
  no_time_text fault d = denied (TextThere key value) TimeThere (λ p. (p.0, p.1.there)) fault d

  abbrev pub TimeIfAnyThere : Type 0
  TimeIfAnyThere = (time : Option (List ℕ)) × MayHaveTime key value time

  pub time_none : None ≡ get key value → MayHaveTime key value None
  time_none e = sym e

  time_of : (found : Json) → Some found ≡ get key value → TimeIfAnyThere → TimeThere
  time_of found f (None, n) = absurd (differ (get key value) found (sym n) (sym f))
  time_of found f (Some time, h) = (time, h)

  pub no_time_if_any : (fault : LineFault) (found : Json) → Some found ≡ get key value → Denies fault TimeThere → Denies fault TimeIfAnyThere
  no_time_if_any fault found f d = denied TimeThere TimeIfAnyThere (time_of found f) fault d

  abbrev pub SumIfAnyThere : Type 0
  SumIfAnyThere = (sum : Option (List ℕ)) × MayHaveSum key value sum

  pub sum_none : None ≡ get key value → MayHaveSum key value None
  sum_none e = sym e

  sum_of : (found : Json) → Some found ≡ get key value → SumIfAnyThere → ArrayThere key 32 value
  sum_of found f (None, n) = absurd (differ (get key value) found (sym n) (sym f))
  sum_of found f (Some sum, h) = (sum, h)

  pub no_sum_if_any : (fault : LineFault) (found : Json) → Some found ≡ get key value → Denies fault (ArrayThere key 32 value) → Denies fault SumIfAnyThere
  no_sum_if_any fault found f d = denied (ArrayThere key 32 value) SumIfAnyThere (sum_of found f) fault d

  abbrev pub CountThere : ℕ → Type 0
  CountThere limit = (its : Option ℕ) × MayHaveNumber key limit value its

  pub count_none : (limit : ℕ) → None ≡ get key value → MayHaveNumber key limit value None
  count_none limit e = sym e

  pub count_found : (n m : ℕ) → HasNumber key (2 ^ 64) value n → m ≡ n → n < 2 ^ 32 → MayHaveNumber key (2 ^ 32) value (Some m)
  count_found n m h e l = narrower key value (2 ^ 32) n m h e l

  number_of : (limit : ℕ) (found : Json) → Some found ≡ get key value → CountThere limit → NumberThere key value limit
  number_of limit found f (None, n) = absurd (differ (get key value) found (sym n) (sym f))
  number_of limit found f (Some its, h) = (its, h)

  pub no_count : (found : Json) (n : ℕ) → Some found ≡ get key value → HasNumber key (2 ^ 64) value n → 2 ^ 32 ≤ n → ¬ CountThere (2 ^ 32)
  no_count found n f h l p = too_large key value (2 ^ 32) n h l (number_of (2 ^ 32) found f p)

  pub no_amount : (fault : LineFault) (found : Json) → Some found ≡ get key value → Denies fault (NumberThere key value (2 ^ 64)) → Denies fault (CountThere (2 ^ 64))
  no_amount fault found f d = denied (NumberThere key value (2 ^ 64)) (CountThere (2 ^ 64)) (number_of (2 ^ 64) found f) fault d

  pub no_count_number : (fault : LineFault) (found : Json) → Some found ≡ get key value → Denies fault (NumberThere key value (2 ^ 64)) → Denies fault (CountThere (2 ^ 32))
  no_count_number fault found f d =
      denied (NumberThere key value (2 ^ 32)) (CountThere (2 ^ 32)) (number_of (2 ^ 32) found f) fault
      (none_below key value (2 ^ 32) (omega arith) fault d)

-- ---- how a request was left

module _ (value : Json) where
  abbrev pub StateThere : Type 0
  StateThere = (state : LeftState) × HasState value state

  module _ (text : List ℕ) (t : HasText (codes "state") value text) where
    one_state : (other : List ℕ) → HasText (codes "state") value other → text ≡ other
    one_state other also = same_some text other (ap as_str (same_some (string text) (string other) (sym t ∙ also)))

    pub no_state : text ≢ codes "queued" → text ≢ codes "outstanding" → text ≢ codes "untaken" → ¬ StateThere
    no_state q o u (Queued, h) = q (one_state (codes "queued") h)
    no_state q o u (Outstanding, h) = o (one_state (codes "outstanding") h)
    no_state q o u (Untaken, h) = u (one_state (codes "untaken") h)

  pub no_state_text : (fault : LineFault) → Denies fault (TextThere (codes "state") value) → Denies fault StateThere
  no_state_text fault d = denied (TextThere (codes "state") value) StateThere (λ p. (state_text p.0, p.1)) fault d
