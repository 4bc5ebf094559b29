-- What is written of a line, with a sum behind it, is read as this line with this sum.
use Rattle.std.proofs.Common.{◌≡◌, ℕ, zero, suc, ◌/◌, ◌%◌, ◌<◌, ◌≤◌, ◌^◌, ◌==◌, Bool, true, false, not, nat_lt, ◌&&◌, List, [], ◌∷◌, ◌++◌, codes, cond, length, option_map, slice_index, ltb-true, Option, Some, None, refl, sym, ap, ap₂, ◌∙◌, subst, arith, append_assoc, inl, inr}
use Rattle.std.specs.Prelude.{option_copied}
use Rattle.std.specs.List.{All, AllByRecursion}
use Rattle.std.specs.Str.{IsAscii, IsUtf8, is_utf8}
use Rattle.std.proofs.lemmas.Bool.{and_parts, cases_lt}
use Rattle.std.proofs.lemmas.Str.{IsUtf8-append, IsUtf8-from_ascii}
use Rattle.std.proofs.lemmas.Str.Ascii.{IsAscii-nil, IsAscii-cons}
use Rattle.std.proofs.lemmas.List.Elements.{recursion_from_All}
use Rattle.json.specs.Json.{Json, string, array, document}
use Rattle.json.specs.Print.{escape, escape_byte}
use Rattle.json.specs.Tree.{HasNumbers}
use Rattle.json.proofs.Printed.Strings.{escape_byte_plain}
use Rattle.json.proofs.Printed.Decimals.{IsNumber-decimal}
use Rattle.json.proofs.Printed.Utf8.{IsUtf8-are_ascii, are_ascii}
use Rattle.hex.specs.Hex.{IsBytes, encode_lower, encode_with, lower_digits}
use Rattle.hex.proofs.HexLemmas.{IsAscii-encode_with}
use Rattle.json_objects.specs.Written.{HasFrontBehind, IsValue, items_of, number_value, object_of}
use Rattle.json_objects.proofs.Fine.{IsFine, names, are_distinct}
use Rattle.json_objects.proofs.Longer.{longer_read, member_text}
use Rattle.json_objects.proofs.Numbers.{AreNumbered, MayBeNumbered, numbered_both, numbered_items, numbered_object}
use Rattle.ledger_rules.specs.declared.entry.Entry.{Entry}
use Rattle.ledger_rules.specs.declared.left.Left.{Left}
use Rattle.ledger_rules.specs.declared.line_request.LineRequest.{LineRequest}
use Rattle.ledger_rules.specs.declared.record_count.AnswerCount.{AnswerCount}
use Rattle.ledger_rules.specs.declared.record_count.RecordCount.{RecordCount}
use Rattle.ledger_rules.specs.declared.resumed.Resumed.{Resumed}
use Rattle.ledger_lines.specs.declared.begin.Begin.{Begin}
use Rattle.ledger_lines.specs.declared.begin.FileBefore.{FileBefore}
use Rattle.ledger_lines.specs.declared.end.End.{End}
use Rattle.ledger_lines.specs.declared.end.LaneCount.{LaneCount}
use Rattle.ledger_lines.specs.declared.lane_start.LaneStart.{LaneStart}
use Rattle.ledger_lines.specs.declared.reading.Line.{Line}
use Rattle.ledger_lines.specs.declared.reading.Line.TheVariants.{AgainEarlier as recalls, Begin as begins, Entry as enters, Left as leaves, Resumed as resumes, End as ends}
use Rattle.ledger_lines.specs.declared.record_count.CountKind.{CountKind}
use Rattle.ledger_lines.specs.declared.record_count.CountKind.TheVariants.{Again, Unsent}
use Rattle.ledger_lines.specs.Lines.{IsLine, IsLineOf, truth_if}
use Rattle.ledger_lines.specs.Written.{IsBelowIfAny, IsReadableAnswerCount, IsReadableBegin, IsReadableCount, IsReadableEnd, IsReadableEntry, IsReadableFileIfAny, IsReadableLeft, IsReadableRecordCount, IsReadableRequest, IsReadableResumed, IsReadableStart, IsSum, IsSummedAs, answer_count_slots, answer_count_value, begin_slots, begin_value, count_slots, count_value, counted_as, digits_if_any, end_slots, end_value, entry_slots, entry_value, file_slots, file_value, kind_name, lane_slots, left_slots, left_value, octets_value, packet_slots, record_count_slots, record_count_value, request_slots, resumed_slots, resumed_value, start_slots, start_value, state_slots, sum_slot, sum_text, text_if_any, words_slots}
use Rattle.ledger_lines.proofs.Fine.{fine_answer_count_summed, fine_begin_summed, fine_end_summed, fine_entry_summed, fine_left_summed, fine_record_count_summed, fine_resumed_summed}
use Rattle.ledger_lines.proofs.Told.{answer_count_read, array_there, begin_read, end_read, entry_read, left_read, record_count_read, resumed_read, summed}
use Rattle.ledger_lines.proofs.Members.{found, get_found}

-- ---- digits need no escape

is_plain : ℕ → Bool
is_plain x = nat_lt 47 x && not (x == 92)

abbrev plain_below : ℕ → Bool
plain_below zero = true
plain_below (suc n) = is_plain (slice_index lower_digits n) && plain_below n

all_plain : plain_below 16 ≡ true
unfolding is_plain
all_plain = refl

plain_at : (n d : ℕ) → plain_below n ≡ true → d < n → is_plain (slice_index lower_digits d) ≡ true
plain_at zero d h lt = absurd (omega arith)
plain_at (suc n) d h lt =
    let parts = and_parts (is_plain (slice_index lower_digits n)) (plain_below n) h in
    elim (cases_lt d n) [
      | inl below ↦ plain_at n d parts.1 below
      | inr top ↦
          let e : d ≡ n = omega arith in
          rw e parts.0
    ]

unescaped : (x : ℕ) → is_plain x ≡ true → escape_byte x ≡ x ∷ []
unfolding is_plain
unescaped x h =
    let parts = and_parts (nat_lt 47 x) (not (x == 92)) h in
    let least : 47 < x = ltb-true 47 x parts.0 in
    escape_byte_plain x (λ e. omega arith) (λ e. other parts.1 e) (omega arith)
  where
    other : not (x == 92) ≡ true → x ≡ 92 → ⊥
    other n e = absurd (by_92 x e n)
      where
        by_92 : (y : ℕ) → y ≡ 92 → not (y == 92) ≡ true → ⊥
        by_92 y e n = let same : not (92 == 92) ≡ true = subst (λ (z : ℕ). not (z == 92) ≡ true) e n in cc

digits_plain : (xs : List ℕ) → IsBytes xs → escape (encode_lower xs) ≡ encode_lower xs
unfolding encode_with
digits_plain [] h = refl
digits_plain (b ∷ rest) h =
    let fits : b < 256 = h 0 in
    let high = unescaped (slice_index lower_digits (b / 16)) (plain_at 16 (b / 16) all_plain (omega arith)) in
    let low = unescaped (slice_index lower_digits (b % 16)) (plain_at 16 (b % 16) all_plain (omega arith)) in
    (λ i. high i ++ (low i ++ digits_plain rest (λ k. h (suc k)) i))

name_plain : escape (codes "sum") ≡ codes "sum"
unfolding escape_byte
name_plain = refl

tail_is : (sum : List ℕ) → member_text (codes "sum") (encode_lower sum) ++ 125 ∷ [] ≡ sum_text sum
tail_is sum = ap (λ xs. codes ",\"sum\":\"" ++ xs) (append_assoc (encode_lower sum) (34 ∷ []) (125 ∷ []))

ascii_by : (xs : List ℕ) → are_ascii xs ≡ true → IsAscii xs
ascii_by [] e = IsAscii-nil
ascii_by (x ∷ xs) e = let p = and_parts _ _ e in IsAscii-cons x xs (ltb-true _ _ p.0) (ascii_by xs p.1)

digits_ascii : IsAscii lower_digits
digits_ascii = ascii_by lower_digits refl

tail_utf8 : (sum : List ℕ) → IsUtf8 (sum_text sum)
tail_utf8 sum =
    IsUtf8-append (codes ",\"sum\":\"") (encode_lower sum ++ codes "\"}") (IsUtf8-are_ascii (codes ",\"sum\":\"") refl)
    (IsUtf8-append (encode_lower sum) (codes "\"}") (IsUtf8-from_ascii (encode_lower sum) (IsAscii-encode_with lower_digits sum digits_ascii)) (IsUtf8-are_ascii (codes "\"}") refl))

-- ---- a line with a sum behind it

module _ (first : List ℕ) (value : Json) (more : List (List ℕ × Option Json)) where
  abbrev slots : List (List ℕ × Option Json)
  slots = (first, Some value) ∷ more

  module _ (sum : List ℕ) (is : IsSum sum) (before all : List ℕ) (h : HasFrontBehind before all (object_of slots)) where
    summed_value : AreNumbered slots → IsFine 128 (object_of (summed slots sum)) → IsValue (h.front ++ sum_text sum) (object_of (summed slots sum))
    summed_value numbers fine = record {
      characters = IsUtf8-append h.front (sum_text sum) h.text (tail_utf8 sum);
      read =
          ap (λ xs. document (h.front ++ xs)) (sym (tail_is sum))
          ∙ longer_read first value more (codes "sum") (encode_lower sum) name_plain (digits_plain sum is.octets)
          (numbered_object (summed slots sum) (numbered_both slots (sum_slot sum ∷ []) numbers (tt, tt))) fine.0 before all h;
      once = fine.1;
    }

    pub summed_line : (line : Line) → are_distinct (names (summed slots sum)) ≡ true → AreNumbered slots → IsFine 128 (object_of (summed slots sum)) → IsLineOf (object_of (summed slots sum)) line → found (codes "sum") (summed slots sum) ≡ Some (octets_value sum) → IsSummedAs h.front sum line
    summed_line line distinct numbers fine its at most = record {
      most = most;
      value = object_of (summed slots sum);
      its_value = summed_value numbers fine;
      sum = array_there (codes "sum") 32 (object_of (summed slots sum)) sum (get_found (codes "sum") (summed slots sum) distinct ∙ at) is.long is.octets;
      is = its;
    }

-- ---- each number is one of JSON

number_is : (n : ℕ) → n < 2 ^ 64 → HasNumbers (number_value n)
number_is n small = IsNumber-decimal n small

any_number : (limit : ℕ) (its : Option ℕ) → limit ≤ 2 ^ 64 → IsBelowIfAny limit its → MayBeNumbered (option_map number_value its)
any_number limit None le below = tt
any_number limit (Some n) le below = number_is n (omega (arith, le, below))

any_octets : (its : Option (List ℕ)) → MayBeNumbered (option_map octets_value its)
any_octets None = tt
any_octets (Some octets) = tt

any_text : (its : Option (List ℕ)) → MayBeNumbered (option_map string its)
any_text None = tt
any_text (Some text) = tt

any_truth : (holds : Bool) → MayBeNumbered (truth_if holds)
any_truth true = tt
any_truth false = tt

either : (t : Bool) (o p : Option Json) → MayBeNumbered o → MayBeNumbered p → MayBeNumbered (cond t o p)
either true o p f g = f
either false o p f g = g

any_words : (octets : Option (List ℕ)) → MayBeNumbered (text_if_any octets)
any_words None = tt
any_words (Some octets) = either (is_utf8 octets) (Some (string octets)) None tt tt

any_digits : (octets : Option (List ℕ)) → MayBeNumbered (digits_if_any octets)
any_digits None = tt
any_digits (Some octets) = either (is_utf8 octets) None (Some (octets_value octets)) tt tt

count_numbered : (count : LaneCount) → IsReadableCount count → HasNumbers (count_value count)
count_numbered count h = numbered_object (count_slots count) (
  number_is count.lane (omega (arith, h.lane)),
  (number_is count.entries h.entries, (any_number (2 ^ 64) count.accepted (omega arith) h.accepted, (any_number (2 ^ 64) count.left (omega arith) h.left, tt))),
)

end_numbered : (end : End) → IsReadableEnd end → AreNumbered (end_slots end)
end_numbered end h =
    let lanes = numbered_items count_value IsReadableCount count_numbered end.lanes.items (recursion_from_All IsReadableCount end.lanes.items h.lanes) in
    (tt, (tt, (tt, (lanes, (any_number (2 ^ 32) end.hidden (omega arith) h.hidden, tt)))))

start_numbered : (start : LaneStart) → IsReadableStart start → HasNumbers (start_value start)
start_numbered start h = numbered_object (start_slots start) (number_is start.lane (omega (arith, h.lane)), (tt, (number_is start.serial (omega (arith, h.serial)), tt)))

file_numbered : (file : FileBefore) → HasNumbers (file_value file)
file_numbered file = numbered_object (file_slots file) (tt, (any_octets file.sum, tt))

any_file : (its : Option FileBefore) → MayBeNumbered (option_map file_value its)
any_file None = tt
any_file (Some file) = file_numbered file

begin_numbered : (begin : Begin) → IsReadableBegin begin → AreNumbered (begin_slots begin)
begin_numbered begin h =
    let lanes = numbered_items start_value IsReadableStart start_numbered begin.lanes.items (recursion_from_All IsReadableStart begin.lanes.items h.lanes) in
    (tt, (tt, (tt, (tt, (number_is begin.file h.file, (any_file begin.before, (lanes, (any_number (2 ^ 32) begin.hidden (omega arith) h.hidden, tt))))))))

lane_numbered : (kind : List ℕ) (about : LineRequest) → IsReadableRequest about → AreNumbered (lane_slots kind about)
lane_numbered kind about h = (tt, (tt, (tt, (tt, (number_is about.lane (omega (arith, h.lane)), tt)))))

request_numbered : (about : LineRequest) → IsReadableRequest about → AreNumbered (request_slots about)
request_numbered about h =
    let user : AreNumbered (words_slots (codes "user") (codes "user_octets") (option_copied about.user)) = (any_words (option_copied about.user), (any_digits (option_copied about.user), tt)) in
    let status = any_number (2 ^ 32) about.status (omega arith) h.status in
    let words : AreNumbered (words_slots (codes "realm") (codes "realm_octets") (option_copied about.realm) ++ (words_slots (codes "session") (codes "session_octets") (option_copied about.session) ++ (codes "status", option_map number_value about.status) ∷ words_slots (codes "user") (codes "user_octets") (option_copied about.user))) = (any_words (option_copied about.realm), (any_digits (option_copied about.realm), (any_words (option_copied about.session), (any_digits (option_copied about.session), (status, user))))) in
    (number_is about.number h.record_is, (tt, (number_is about.port (omega (arith, h.port)), (number_is about.identifier (omega (arith, h.identifier)), (tt, words)))))

entry_numbered : (e : Entry) → IsReadableEntry e → AreNumbered (entry_slots e)
entry_numbered e h =
    let packets : AreNumbered (packet_slots e) = (tt, (tt, (tt, (any_text (option_copied e.accepted), (any_number (2 ^ 32) e.sendings (omega arith) h.sendings, tt))))) in
    let behind = numbered_both (request_slots e.about) (packet_slots e) (request_numbered e.about h.about) packets in
    numbered_both (lane_slots (codes "entry") e.about) ((codes "serial", Some (number_value e.serial)) ∷ (request_slots e.about ++ packet_slots e)) (lane_numbered (codes "entry") e.about h.about)
    (number_is e.serial (omega (arith, h.serial)), behind)

left_numbered : (left : Left) → IsReadableLeft left → AreNumbered (left_slots left)
left_numbered left h =
    let states : AreNumbered (state_slots left) = (tt, (any_number (2 ^ 32) left.sendings (omega arith) h.sendings, (any_text (option_copied left.accepted), (tt, (any_truth left.kept, tt))))) in
    let behind = numbered_both (request_slots left.about) (state_slots left) (request_numbered left.about h.about) states in
    numbered_both (lane_slots (codes "left") left.about) (request_slots left.about ++ state_slots left) (lane_numbered (codes "left") left.about h.about) behind

count_line_numbered : (kind : CountKind) (its : RecordCount) → IsReadableRecordCount its → AreNumbered (record_count_slots kind its)
count_line_numbered kind its h = (tt, (tt, (tt, (tt, (number_is its.lane (omega (arith, h.lane)), (number_is its.number h.record_is, (number_is its.count h.count, tt)))))))

answer_numbered : (its : AnswerCount) → IsReadableAnswerCount its → AreNumbered (answer_count_slots its)
answer_numbered its h =
    let lane = number_is its.lane (omega (arith, h.lane)) in
    let answer_lane = number_is its.answer_lane (omega (arith, h.answer_lane)) in
    let answer_serial = number_is its.answer_serial (omega (arith, h.answer_serial)) in
    (tt, (tt, (tt, (tt, (lane, (tt, (answer_lane, (answer_serial, (number_is its.count h.count, tt)))))))))

resumed_numbered : (its : Resumed) → IsReadableResumed its → AreNumbered (resumed_slots its)
resumed_numbered its h =
    let lane = number_is its.lane (omega (arith, h.lane)) in
    let first_lane = number_is its.first_lane (omega (arith, h.first_lane)) in
    (tt, (tt, (tt, (tt, (lane, (number_is its.number h.record_is, (tt, (first_lane, (number_is its.first_number h.first_record, tt)))))))))

-- ---- each kind of line

-- all slots but the first
abbrev behind : List (List ℕ × Option Json) → List (List ℕ × Option Json)
behind [] = []
behind (slot ∷ slots) = slots

module _ (before all sum : List ℕ) where
  pub begin_line : (begin : Begin) (h : HasFrontBehind before all (begin_value begin)) → IsReadableBegin begin → IsSum sum → IsSummedAs h.front sum (begins begin)
  begin_line begin h its is = summed_line (codes "type") (string (codes "begin")) (behind (begin_slots begin)) sum is before all h (begins begin) refl (begin_numbered begin its) (fine_begin_summed begin sum) (begin_read begin sum its) refl

  pub entry_line : (e : Entry) (h : HasFrontBehind before all (entry_value e)) → IsReadableEntry e → IsSum sum → IsSummedAs h.front sum (enters e)
  entry_line e h its is = summed_line (codes "type") (string (codes "entry")) (behind (entry_slots e)) sum is before all h (enters e) refl (entry_numbered e its) (fine_entry_summed e sum) (entry_read e sum its) refl

  pub left_line : (left : Left) (h : HasFrontBehind before all (left_value left)) → IsReadableLeft left → IsSum sum → IsSummedAs h.front sum (leaves left)
  left_line left h its is = summed_line (codes "type") (string (codes "left")) (behind (left_slots left)) sum is before all h (leaves left) refl (left_numbered left its) (fine_left_summed left sum) (left_read left sum its) refl

  pub end_line : (end : End) (h : HasFrontBehind before all (end_value end)) → IsReadableEnd end → IsSum sum → IsSummedAs h.front sum (ends end)
  end_line end h its is = summed_line (codes "type") (string (codes "end")) (behind (end_slots end)) sum is before all h (ends end) refl (end_numbered end its) (fine_end_summed end sum) (end_read end sum its) refl

  pub answer_count_line : (its : AnswerCount) (h : HasFrontBehind before all (answer_count_value its)) → IsReadableAnswerCount its → IsSum sum → IsSummedAs h.front sum (recalls its)
  answer_count_line its h it is = summed_line (codes "type") (string (codes "again")) (behind (answer_count_slots its)) sum is before all h (recalls its) refl (answer_numbered its it) (fine_answer_count_summed its sum) (answer_count_read its sum it) refl

  pub resumed_line : (its : Resumed) (h : HasFrontBehind before all (resumed_value its)) → IsReadableResumed its → IsSum sum → IsSummedAs h.front sum (resumes its)
  resumed_line its h it is = summed_line (codes "type") (string (codes "resumed")) (behind (resumed_slots its)) sum is before all h (resumes its) refl (resumed_numbered its it) (fine_resumed_summed its sum) (resumed_read its sum it) refl

  pub record_count_line : (kind : CountKind) (its : RecordCount) (h : HasFrontBehind before all (record_count_value kind its)) → IsReadableRecordCount its → IsSum sum → IsSummedAs h.front sum (counted_as kind its)
  record_count_line Unsent its h it is = summed_line (codes "type") (string (kind_name Unsent)) (behind (record_count_slots Unsent its)) sum is before all h (counted_as Unsent its) refl (count_line_numbered Unsent its it) (fine_record_count_summed Unsent its sum) (record_count_read Unsent its sum it) refl
  record_count_line Again its h it is = summed_line (codes "type") (string (kind_name Again)) (behind (record_count_slots Again its)) sum is before all h (counted_as Again its) refl (count_line_numbered Again its it) (fine_record_count_summed Again its sum) (record_count_read Again its sum it) refl
