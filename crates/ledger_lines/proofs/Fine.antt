-- The value of each line nests no deeper than a reader reads, and has no key twice.
use Rattle.std.proofs.Common.{ℕ, List, [], ◌∷◌, ◌++◌, codes, Bool, true, false, cond, Option, Some, None, option_map, refl, arith}
use Rattle.std.specs.Prelude.{option_copied}
use Rattle.std.specs.Str.{is_utf8}
use Rattle.json.specs.Json.{Json, string}
use Rattle.ledger_rules.specs.declared.entry.Entry.{Entry}
use Rattle.ledger_rules.specs.declared.left.Left.{Left}
use Rattle.ledger_rules.specs.declared.line_request.LineRequest.{LineRequest}
use Rattle.ledger_rules.specs.declared.record_count.AnswerCount.{AnswerCount}
use Rattle.ledger_rules.specs.declared.record_count.RecordCount.{RecordCount}
use Rattle.ledger_rules.specs.declared.resumed.Resumed.{Resumed}
use Rattle.ledger_lines.specs.declared.begin.Begin.{Begin}
use Rattle.ledger_lines.specs.declared.end.End.{End}
use Rattle.ledger_lines.specs.declared.begin.FileBefore.{FileBefore}
use Rattle.ledger_lines.specs.declared.end.LaneCount.{LaneCount}
use Rattle.ledger_lines.specs.declared.lane_start.LaneStart.{LaneStart}
use Rattle.ledger_lines.specs.declared.record_count.CountKind.{CountKind}
use Rattle.json_objects.specs.Written.{number_value, object_of}
use Rattle.ledger_lines.specs.Lines.{truth_if}
use Rattle.ledger_lines.specs.Written.{answer_count_slots, answer_count_value, begin_slots, begin_value, count_slots, count_value, digits_if_any, end_slots, end_value, entry_slots, entry_value, file_slots, file_value, lane_slots, left_slots, left_value, octets_value, packet_slots, record_count_slots, record_count_value, request_slots, resumed_slots, resumed_value, start_slots, start_value, state_slots, sum_slot, text_if_any, words_slots}
use Rattle.json_objects.proofs.Fine.{AreFine, IsFine, MayBeFine, deeper, fine_array, fine_both, fine_object}

any_number : (most : ℕ) (its : Option ℕ) → MayBeFine most (option_map number_value its)
any_number most None = tt
any_number most (Some n) = (omega arith, tt)

any_octets : (most : ℕ) (its : Option (List ℕ)) → MayBeFine most (option_map octets_value its)
any_octets most None = tt
any_octets most (Some octets) = (omega arith, tt)

fine_count : (count : LaneCount) → IsFine 1 (count_value count)
fine_count count = fine_object 0 (count_slots count) refl ((omega arith, tt), ((omega arith, tt), (any_number 0 count.accepted, (any_number 0 count.left, tt))))

-- the sum behind a line
sum_fine : (most : ℕ) (sum : List ℕ) → AreFine most (sum_slot sum ∷ [])
sum_fine most sum = ((omega arith, tt), tt)

end_fine : (end : End) → AreFine 2 (end_slots end)
end_fine end = (
  (omega arith, tt),
  ((omega arith, tt), ((omega arith, tt), (fine_array count_value 1 fine_count end.lanes.items, (any_number 2 end.hidden, tt)))),
)

pub fine_end : (end : End) → IsFine 128 (end_value end)
fine_end end = deeper 3 128 (end_value end) (omega arith) (fine_object 2 (end_slots end) refl (end_fine end))

pub fine_end_summed : (end : End) (sum : List ℕ) → IsFine 128 (object_of (end_slots end ++ sum_slot sum ∷ []))
fine_end_summed end sum =
    deeper 3 128 (object_of (end_slots end ++ sum_slot sum ∷ [])) (omega arith)
    (fine_object 2 (end_slots end ++ sum_slot sum ∷ []) refl (fine_both 2 (end_slots end) (sum_slot sum ∷ []) (end_fine end) (sum_fine 2 sum)))

any_text : (most : ℕ) (its : Option (List ℕ)) → MayBeFine most (option_map string its)
any_text most None = tt
any_text most (Some text) = (omega arith, tt)

any_truth : (most : ℕ) (holds : Bool) → MayBeFine most (truth_if holds)
any_truth most true = (omega arith, tt)
any_truth most false = tt

either_fine : (most : ℕ) (t : Bool) (o p : Option Json) → MayBeFine most o → MayBeFine most p → MayBeFine most (cond t o p)
either_fine most true o p f g = f
either_fine most false o p f g = g

any_words : (octets : Option (List ℕ)) → MayBeFine 0 (text_if_any octets)
any_words None = tt
any_words (Some octets) = either_fine 0 (is_utf8 octets) (Some (string octets)) None (omega arith, tt) tt

any_digits : (octets : Option (List ℕ)) → MayBeFine 0 (digits_if_any octets)
any_digits None = tt
any_digits (Some octets) = either_fine 0 (is_utf8 octets) None (Some (octets_value octets)) tt (omega arith, tt)

fine_start : (start : LaneStart) → IsFine 1 (start_value start)
fine_start start = fine_object 0 (start_slots start) refl ((omega arith, tt), ((omega arith, tt), ((omega arith, tt), tt)))

fine_file : (file : FileBefore) → IsFine 1 (file_value file)
fine_file file = fine_object 0 (file_slots file) refl ((omega arith, tt), (any_octets 0 file.sum, tt))

any_file : (its : Option FileBefore) → MayBeFine 2 (option_map file_value its)
any_file None = tt
any_file (Some file) = deeper 1 2 (file_value file) (omega arith) (fine_file file)

begin_fine : (begin : Begin) → AreFine 2 (begin_slots begin)
begin_fine begin = (
  (omega arith, tt),
  (
    (omega arith, tt),
    (
      (omega arith, tt),
      (
        (omega arith, tt),
        ((omega arith, tt), (any_file begin.before, (fine_array start_value 1 fine_start begin.lanes.items, (any_number 2 begin.hidden, tt)))),
      ),
    ),
  ),
)

pub fine_begin : (begin : Begin) → IsFine 128 (begin_value begin)
fine_begin begin = deeper 3 128 (begin_value begin) (omega arith) (fine_object 2 (begin_slots begin) refl (begin_fine begin))

pub fine_begin_summed : (begin : Begin) (sum : List ℕ) → IsFine 128 (object_of (begin_slots begin ++ sum_slot sum ∷ []))
fine_begin_summed begin sum =
    deeper 3 128 (object_of (begin_slots begin ++ sum_slot sum ∷ [])) (omega arith)
    (fine_object 2 (begin_slots begin ++ sum_slot sum ∷ []) refl (fine_both 2 (begin_slots begin) (sum_slot sum ∷ []) (begin_fine begin) (sum_fine 2 sum)))

-- text and numbers
plain : MayBeFine 0 (Some (string []))
plain = (omega arith, tt)

fine_lane : (kind : List ℕ) (about : LineRequest) → AreFine 0 (lane_slots kind about)
fine_lane kind about = (plain, (plain, (plain, (plain, (plain, tt)))))

fine_words : (about : LineRequest) → AreFine 0 (words_slots (codes "realm") (codes "realm_octets") (option_copied about.realm) ++ (words_slots (codes "session") (codes "session_octets") (option_copied about.session) ++ (codes "status", option_map number_value about.status) ∷ words_slots (codes "user") (codes "user_octets") (option_copied about.user)))
fine_words about =
    let status = any_number 0 about.status in (
      any_words (option_copied about.realm),
      (
        any_digits (option_copied about.realm),
        (
          any_words (option_copied about.session),
          (any_digits (option_copied about.session), (status, (any_words (option_copied about.user), (any_digits (option_copied about.user), tt)))),
        ),
      ),
    )

fine_request : (about : LineRequest) → AreFine 0 (request_slots about)
fine_request about = (plain, (plain, (plain, (plain, (plain, fine_words about)))))

entry_fine : (e : Entry) → AreFine 0 (entry_slots e)
entry_fine e =
    let packets : AreFine 0 (packet_slots e) = (plain, (plain, (plain, (any_text 0 (option_copied e.accepted), (any_number 0 e.sendings, tt))))) in
    let behind = fine_both 0 (request_slots e.about) (packet_slots e) (fine_request e.about) packets in
    fine_both 0 (lane_slots (codes "entry") e.about) ((codes "serial", Some (number_value e.serial)) ∷ (request_slots e.about ++ packet_slots e)) (fine_lane (codes "entry") e.about) (plain, behind)

pub fine_entry : (e : Entry) → IsFine 128 (entry_value e)
fine_entry e = deeper 1 128 (entry_value e) (omega arith) (fine_object 0 (entry_slots e) refl (entry_fine e))

pub fine_entry_summed : (e : Entry) (sum : List ℕ) → IsFine 128 (object_of (entry_slots e ++ sum_slot sum ∷ []))
fine_entry_summed e sum =
    deeper 1 128 (object_of (entry_slots e ++ sum_slot sum ∷ [])) (omega arith)
    (fine_object 0 (entry_slots e ++ sum_slot sum ∷ []) refl (fine_both 0 (entry_slots e) (sum_slot sum ∷ []) (entry_fine e) (sum_fine 0 sum)))

left_fine : (left : Left) → AreFine 0 (left_slots left)
left_fine left =
    let states : AreFine 0 (state_slots left) = (plain, (any_number 0 left.sendings, (any_text 0 (option_copied left.accepted), (plain, (any_truth 0 left.kept, tt))))) in
    let behind = fine_both 0 (request_slots left.about) (state_slots left) (fine_request left.about) states in
    fine_both 0 (lane_slots (codes "left") left.about) (request_slots left.about ++ state_slots left) (fine_lane (codes "left") left.about) behind

pub fine_left : (left : Left) → IsFine 128 (left_value left)
fine_left left = deeper 1 128 (left_value left) (omega arith) (fine_object 0 (left_slots left) refl (left_fine left))

pub fine_left_summed : (left : Left) (sum : List ℕ) → IsFine 128 (object_of (left_slots left ++ sum_slot sum ∷ []))
fine_left_summed left sum =
    deeper 1 128 (object_of (left_slots left ++ sum_slot sum ∷ [])) (omega arith)
    (fine_object 0 (left_slots left ++ sum_slot sum ∷ []) refl (fine_both 0 (left_slots left) (sum_slot sum ∷ []) (left_fine left) (sum_fine 0 sum)))

count_fine : (kind : CountKind) (its : RecordCount) → AreFine 0 (record_count_slots kind its)
count_fine kind its = (plain, (plain, (plain, (plain, (plain, (plain, (plain, tt)))))))

pub fine_record_count : (kind : CountKind) (its : RecordCount) → IsFine 128 (record_count_value kind its)
fine_record_count kind its = deeper 1 128 (record_count_value kind its) (omega arith) (fine_object 0 (record_count_slots kind its) refl (count_fine kind its))

pub fine_record_count_summed : (kind : CountKind) (its : RecordCount) (sum : List ℕ) → IsFine 128 (object_of (record_count_slots kind its ++ sum_slot sum ∷ []))
fine_record_count_summed kind its sum =
    deeper 1 128 (object_of (record_count_slots kind its ++ sum_slot sum ∷ [])) (omega arith)
    (fine_object 0 (record_count_slots kind its ++ sum_slot sum ∷ []) refl (fine_both 0 (record_count_slots kind its) (sum_slot sum ∷ []) (count_fine kind its) (sum_fine 0 sum)))

answer_fine : (its : AnswerCount) → AreFine 0 (answer_count_slots its)
answer_fine its = (plain, (plain, (plain, (plain, (plain, (plain, (plain, (plain, (plain, tt)))))))))

pub fine_answer_count : (its : AnswerCount) → IsFine 128 (answer_count_value its)
fine_answer_count its = deeper 1 128 (answer_count_value its) (omega arith) (fine_object 0 (answer_count_slots its) refl (answer_fine its))

pub fine_answer_count_summed : (its : AnswerCount) (sum : List ℕ) → IsFine 128 (object_of (answer_count_slots its ++ sum_slot sum ∷ []))
fine_answer_count_summed its sum =
    deeper 1 128 (object_of (answer_count_slots its ++ sum_slot sum ∷ [])) (omega arith)
    (fine_object 0 (answer_count_slots its ++ sum_slot sum ∷ []) refl (fine_both 0 (answer_count_slots its) (sum_slot sum ∷ []) (answer_fine its) (sum_fine 0 sum)))

resumed_fine : (its : Resumed) → AreFine 0 (resumed_slots its)
resumed_fine its = (plain, (plain, (plain, (plain, (plain, (plain, (plain, (plain, (plain, tt)))))))))

pub fine_resumed : (its : Resumed) → IsFine 128 (resumed_value its)
fine_resumed its = deeper 1 128 (resumed_value its) (omega arith) (fine_object 0 (resumed_slots its) refl (resumed_fine its))

pub fine_resumed_summed : (its : Resumed) (sum : List ℕ) → IsFine 128 (object_of (resumed_slots its ++ sum_slot sum ∷ []))
fine_resumed_summed its sum =
    deeper 1 128 (object_of (resumed_slots its ++ sum_slot sum ∷ [])) (omega arith)
    (fine_object 0 (resumed_slots its ++ sum_slot sum ∷ []) refl (fine_both 0 (resumed_slots its) (sum_slot sum ∷ []) (resumed_fine its) (sum_fine 0 sum)))
