-- The value of each line is what a reader takes for that line.
use Rattle.std.proofs.Common.{◌≡◌, ℕ, zero, suc, ◌/◌, ◌%◌, ◌*◌, ◌<◌, ◌≤◌, ◌^◌, List, [], ◌∷◌, ◌++◌, codes, length, Bool, true, false, cond, option_map, Option, Some, None, decimal, inl, inr, refl, sym, ap, ◌∙◌, subst, arith}
use Rattle.std.specs.Prelude.{⊤, option_copied}
use Rattle.std.specs.Str.{bytes_eq, is_utf8}
use Rattle.std.specs.List.{AllByRecursion, Contains}
use Rattle.std.specs.Int.{w64, to_be_bytes}
use Rattle.std.specs.Str.Parse.{IsNumeral, digits_value, without_leading_plus}
use Rattle.std.proofs.lemmas.Nat.{from_be_bytes-to_be_bytes_8}
use Rattle.std.proofs.lemmas.Fmt.{decimal_is_IsNumeral}
use Rattle.std.proofs.lemmas.Str.Parse.{without_leading_plus_none, digit_at}
use Rattle.std.proofs.lemmas.List.Elements.{All-from_recursion, recursion_from_All}
use Rattle.json.specs.Json.{Json, string}
use Rattle.json.specs.Find.{get}
use Rattle.hex.specs.Hex.{IsBytes, encode_lower, lower_digits}
use Rattle.hex.proofs.HexLemmas.{decode_of-encode_lower, length-encode_with}
use Rattle.json_objects.specs.Written.{IsValue}
use Rattle.ledger_lines.specs.Lines.{AreEach, HasOnly, HasNumber, MayHaveNumber, HasOctets, HasArray, HasName, HasClient, IsAbout, IsAnswerCount, IsBegin, IsEnd, IsEntry, IsFileBefore, IsLaneCount, IsLaneStart, IsLeft, IsLine, IsRecordCount, IsResumed, MayHaveFile, MayHaveSum, MayHaveTime, MayHaveWords}
use Rattle.rad_config.proofs.Addresses.{address_from_text}
use Rattle.rad_realms.specs.Address.{IsAddress}
use Rattle.rad_realms.specs.Printed.{address_text}
use Rattle.ledger_rules.specs.declared.entry.Entry.{Entry}
use Rattle.ledger_rules.specs.declared.left.Left.{Left}
use Rattle.ledger_rules.specs.declared.line_request.LineRequest.{LineRequest}
use Rattle.ledger_rules.specs.declared.record_count.AnswerCount.{AnswerCount}
use Rattle.ledger_rules.specs.declared.record_count.RecordCount.{RecordCount}
use Rattle.ledger_rules.specs.declared.resumed.Resumed.{Resumed}
use Rattle.ledger_lines.specs.declared.begin.Begin.{Begin}
use Rattle.ledger_lines.specs.declared.begin.FileBefore.{FileBefore}
use Rattle.ledger_lines.specs.declared.lane_start.LaneStart.{LaneStart}
use Rattle.json_objects.specs.Written.{items_of, number_value, object_of, present}
use Rattle.json_objects.proofs.Fine.{keys_all}
use Rattle.json.specs.Strict.{keys}
use Rattle.ledger_lines.specs.Written.{AreBytesIfAny, IsBelowIfAny, IsReadableAnswerCount, IsReadableBegin, IsReadableCount, IsReadableEnd, IsReadableEntry, IsReadableFile, IsReadableFileIfAny, IsReadableLeft, IsReadableRecordCount, IsReadableRequest, IsReadableResumed, IsReadableStart, IsSumIfAny, IsTimeIfAny, answer_count_slots, begin_slots, count_slots, count_value, digits_if_any, end_slots, entry_slots, file_slots, file_value, kind_name, lane_slots, left_slots, octets_value, packet_slots, record_count_slots, request_slots, resumed_slots, start_slots, start_value, state_slots, sum_slot, text_if_any}
use Rattle.ledger_lines.specs.declared.end.End.{End}
use Rattle.ledger_lines.specs.declared.end.LaneCount.{LaneCount}
use Rattle.ledger_lines.specs.declared.reading.Line.TheVariants.{Begin as begins, Entry as enters, Left as leaves, End as ends}
use Rattle.ledger_lines.specs.declared.record_count.CountKind.{CountKind}
use Rattle.ledger_lines.proofs.Members.{found, found_without, get_found, only_names}

-- ---- numbers

plain_decimal : (n : ℕ) → n < 2 ^ 64 → without_leading_plus (decimal n) ≡ decimal n
plain_decimal n small =
    let numeral = (decimal_is_IsNumeral n small).0 in
    without_leading_plus_none (decimal n) (λ e. omega (arith, digit_at (decimal n) 0 numeral.1 numeral.0, e))

number_there : (key : List ℕ) (limit : ℕ) (value : Json) (n : ℕ) → get key value ≡ Some (number_value n) → n < 2 ^ 64 → n < limit → HasNumber key limit value n
number_there key limit value n e small below =
    let is = decimal_is_IsNumeral n small in
    let plain = plain_decimal n small in
    record {
      digits = decimal n;
      there = e;
      numeral = subst (IsNumeral 10) (sym plain) is.0;
      its_digits = ap (digits_value 10) plain ∙ is.1;
      below = below;
    }

number_if_there : (key : List ℕ) (limit : ℕ) (value : Json) (its : Option ℕ) → get key value ≡ option_map number_value its → limit ≤ 2 ^ 64 → IsBelowIfAny limit its → MayHaveNumber key limit value its
number_if_there key limit value None e le below = e
number_if_there key limit value (Some n) e le below = number_there key limit value n e (omega (arith, le, below)) below

-- ---- octets

octets_there : (key : List ℕ) (value : Json) (octets : List ℕ) → get key value ≡ Some (octets_value octets) → IsBytes octets → HasOctets key value octets
octets_there key value octets e small = record { digits = encode_lower octets; there = e; are = decode_of-encode_lower octets small }

pub array_there : (key : List ℕ) (count : ℕ) (value : Json) (octets : List ℕ) → get key value ≡ Some (octets_value octets) → length octets ≡ count → IsBytes octets → HasArray key count value octets
array_there key count value octets e long small = record {
  digits = encode_lower octets;
  there = e;
  long = length-encode_with lower_digits octets ∙ ap (λ (n : ℕ). 2 * n) long;
  are = decode_of-encode_lower octets small;
}

pub sum_if_there : (key : List ℕ) (value : Json) (sum : Option (List ℕ)) → get key value ≡ option_map octets_value sum → IsSumIfAny sum → MayHaveSum key value sum
sum_if_there key value None e is = e
sum_if_there key value (Some sum) e is = array_there key 32 value sum e is.long is.octets

-- each octet of a number is one
abbrev AreOctets : List ℕ → Type 0
AreOctets [] = ⊤
AreOctets (x ∷ xs) = (x < 256) × AreOctets xs

bytes_from : (xs : List ℕ) → AreOctets xs → IsBytes xs
bytes_from [] h i = omega arith
bytes_from (x ∷ xs) h zero = h.0
bytes_from (x ∷ xs) h (suc i) = bytes_from xs h.1 i

octet_of : (n : ℕ) → n % 256 < 256
octet_of n = omega arith

run_octets : (run : ℕ) → IsBytes (to_be_bytes w64 run)
run_octets run =
    bytes_from (to_be_bytes w64 run) (
      octet_of (run / 72057594037927936),
      (
        octet_of (run / 281474976710656),
        (
          octet_of (run / 1099511627776),
          (
            octet_of (run / 4294967296),
            (octet_of (run / 16777216), (octet_of (run / 65536), (octet_of (run / 256), (octet_of run, tt)))),
          ),
        ),
      ),
    )

name_there : (key : List ℕ) (value : Json) (run : ℕ) → get key value ≡ Some (octets_value (to_be_bytes w64 run)) → run < 2 ^ 64 → HasName key value run
name_there key value run e small = record {
  octets = to_be_bytes w64 run;
  there = array_there key 8 value (to_be_bytes w64 run) e refl (run_octets run);
  are = from_be_bytes-to_be_bytes_8 run small;
}

-- ---- a line that ends a run

is_count : (count : LaneCount) → IsReadableCount count → IsLaneCount (count_value count) count
is_count count h =
    let at = λ (key : List ℕ). get_found key (count_slots count) refl in
    record {
      no_other = only_names (count_slots count);
      lane = number_there (codes "lane") (2 ^ 16) (count_value count) count.lane (at (codes "lane")) (omega (arith, h.lane)) h.lane;
      entries = number_there (codes "entries") (2 ^ 64) (count_value count) count.entries (at (codes "entries")) h.entries h.entries;
      accepted = number_if_there (codes "accepted") (2 ^ 64) (count_value count) count.accepted (at (codes "accepted")) (omega arith) h.accepted;
      left = number_if_there (codes "left") (2 ^ 64) (count_value count) count.left (at (codes "left")) (omega arith) h.left;
      both_or_none = h.both_or_none;
    }

are_each : {X : Type 0} (value : X → Json) (Is : Json → X → Type 0) (P : X → Type 0) → ((x : X) → P x → Is (value x) x) → (xs : List X) → AllByRecursion P xs → AreEach Is (items_of value xs) xs
are_each value Is P is [] all = tt
are_each value Is P is (x ∷ xs) all = (is x all.0, are_each value Is P is xs all.1)

-- a line's members, with its sum
abbrev pub summed : List (List ℕ × Option Json) → List ℕ → List (List ℕ × Option Json)
summed slots sum = slots ++ sum_slot sum ∷ []

pub end_read : (end : End) (sum : List ℕ) → IsReadableEnd end → IsEnd (object_of (summed (end_slots end) sum)) end
end_read end sum h =
    let slots = summed (end_slots end) sum in
    let at = λ (key : List ℕ). get_found key slots refl in
    record {
      no_other = only_names slots;
      type_is = at (codes "type");
      run = name_there (codes "run") (object_of slots) end.run (at (codes "run")) h.run;
      time = record { there = at (codes "time"); is = h.time };
      hidden = number_if_there (codes "hidden") (2 ^ 32) (object_of slots) end.hidden (at (codes "hidden")) (omega arith) h.hidden;
      lanes = record {
        items = items_of count_value end.lanes.items;
        there = at (codes "lanes");
        are = are_each count_value IsLaneCount IsReadableCount is_count end.lanes.items (recursion_from_All IsReadableCount end.lanes.items h.lanes);
      };
    }

-- ---- what may be there, and a client

time_if_there : (key : List ℕ) (value : Json) (time : Option (List ℕ)) → get key value ≡ option_map string time → IsTimeIfAny time → MayHaveTime key value time
time_if_there key value None e is = e
time_if_there key value (Some time) e is = record { there = e; is = is }

words_by : (key other : List ℕ) (value : Json) (octets : List ℕ) (t : Bool) → get key value ≡ cond t (Some (string octets)) None → get other value ≡ cond t None (Some (octets_value octets)) → IsBytes octets → MayHaveWords key other value (Some octets)
words_by key other value octets true e f small = inl (e, f)
words_by key other value octets false e f small = inr (e, octets_there other value octets f small)

words_there : (key other : List ℕ) (value : Json) (octets : Option (List ℕ)) → get key value ≡ text_if_any octets → get other value ≡ digits_if_any octets → AreBytesIfAny octets → MayHaveWords key other value octets
words_there key other value None e f small = (e, f)
words_there key other value (Some octets) e f small = words_by key other value octets (is_utf8 octets) e f small

client_there : (value : Json) (client : List ℕ) → get (codes "client") value ≡ Some (string (address_text client)) → IsAddress client → HasClient value client
client_there value client e is = record { text = address_text client; there = e; is = address_from_text client is }

-- ---- the request that a line is about, an entry, and a request that was left

module _ (value : Json) (kind : List ℕ) (about : LineRequest) (rest : List (List ℕ × Option Json))
    (at : (key : List ℕ) → bytes_eq (codes "serial") key ≡ false → get key value ≡ found key (lane_slots kind about ++ (request_slots about ++ rest))) where
  about_there : IsReadableRequest about → IsAbout value about
  about_there h = record {
    run = name_there (codes "run") value about.run (at (codes "run") refl) h.run;
    time = record { there = at (codes "time") refl; is = h.time };
    home = at (codes "home") refl;
    lane = number_there (codes "lane") (2 ^ 16) value about.lane (at (codes "lane") refl) (omega (arith, h.lane)) h.lane;
    record_is = number_there (codes "record") (2 ^ 64) value about.number (at (codes "record") refl) h.record_is h.record_is;
    client = client_there value about.client (at (codes "client") refl) h.client;
    port = number_there (codes "port") (2 ^ 16) value about.port (at (codes "port") refl) (omega (arith, h.port)) h.port;
    identifier = number_there (codes "identifier") (2 ^ 8) value about.identifier (at (codes "identifier") refl) (omega (arith, h.identifier)) h.identifier;
    authenticator = array_there (codes "authenticator") 16 value about.authenticator (at (codes "authenticator") refl) h.long h.octets;
    realm = words_there (codes "realm") (codes "realm_octets") value (option_copied about.realm) (at (codes "realm") refl) (at (codes "realm_octets") refl) h.realm;
    session = words_there (codes "session") (codes "session_octets") value (option_copied about.session) (at (codes "session") refl) (at (codes "session_octets") refl) h.session;
    status = number_if_there (codes "status") (2 ^ 32) value about.status (at (codes "status") refl) (omega arith) h.status;
    user = words_there (codes "user") (codes "user_octets") value (option_copied about.user) (at (codes "user") refl) (at (codes "user_octets") refl) h.user;
  }

pub entry_read : (e : Entry) (sum : List ℕ) → IsReadableEntry e → IsEntry (object_of (summed (entry_slots e) sum)) e
entry_read e sum h =
    let slots = summed (entry_slots e) sum in
    let at = λ (key : List ℕ). get_found key slots refl in
    let value = object_of slots in
    let rest = packet_slots e ++ sum_slot sum ∷ [] in
    record {
      no_other = only_names slots;
      type_is = at (codes "type");
      about =
          about_there value (codes "entry") e.about rest
          (λ key other. at key ∙ found_without key (codes "serial") (Some (number_value e.serial)) other (lane_slots (codes "entry") e.about) (request_slots e.about ++ rest)) h.about;
      serial = number_there (codes "serial") (2 ^ 63) value e.serial (at (codes "serial")) (omega (arith, h.serial)) h.serial;
      sent = octets_there (codes "sent") value e.sent.now (at (codes "sent")) h.sent;
      reply = octets_there (codes "reply") value e.reply.now (at (codes "reply")) h.reply;
      response = octets_there (codes "response") value e.response.now (at (codes "response")) h.response;
      accepted = time_if_there (codes "accepted") value (option_copied e.accepted) (at (codes "accepted")) h.accepted;
      sendings = number_if_there (codes "sendings") (2 ^ 32) value e.sendings (at (codes "sendings")) (omega arith) h.sendings;
    }

pub left_read : (left : Left) (sum : List ℕ) → IsReadableLeft left → IsLeft (object_of (summed (left_slots left) sum)) left
left_read left sum h =
    let slots = summed (left_slots left) sum in
    let at = λ (key : List ℕ). get_found key slots refl in
    let value = object_of slots in
    record {
      no_other = only_names slots;
      type_is = at (codes "type");
      about = about_there value (codes "left") left.about (state_slots left ++ sum_slot sum ∷ []) (λ key other. at key) h.about;
      state = at (codes "state");
      sendings = number_if_there (codes "sendings") (2 ^ 32) value left.sendings (at (codes "sendings")) (omega arith) h.sendings;
      accepted = time_if_there (codes "accepted") value (option_copied left.accepted) (at (codes "accepted")) h.accepted;
      request = octets_there (codes "request") value left.request.now (at (codes "request")) h.request;
      kept = at (codes "kept");
    }

-- ---- a line that counts what became of the response of a record

pub record_count_read : (kind : CountKind) (its : RecordCount) (sum : List ℕ) → IsReadableRecordCount its → IsRecordCount (kind_name kind) (object_of (summed (record_count_slots kind its) sum)) its
record_count_read kind its sum h =
    let slots = summed (record_count_slots kind its) sum in
    let at = λ (key : List ℕ). get_found key slots refl in
    let value = object_of slots in
    record {
      no_other = only_names slots;
      type_is = at (codes "type");
      run = name_there (codes "run") value its.run (at (codes "run")) h.run;
      time = record { there = at (codes "time"); is = h.time };
      home = at (codes "home");
      lane = number_there (codes "lane") (2 ^ 16) value its.lane (at (codes "lane")) (omega (arith, h.lane)) h.lane;
      record_is = number_there (codes "record") (2 ^ 64) value its.number (at (codes "record")) h.record_is h.record_is;
      count = record { there = number_there (codes "count") (2 ^ 64) value its.count (at (codes "count")) h.count h.count; some = h.some };
    }

pub answer_count_read : (its : AnswerCount) (sum : List ℕ) → IsReadableAnswerCount its → IsAnswerCount (object_of (summed (answer_count_slots its) sum)) its
answer_count_read its sum h =
    let slots = summed (answer_count_slots its) sum in
    let at = λ (key : List ℕ). get_found key slots refl in
    let value = object_of slots in
    record {
      no_other = only_names slots;
      no_record = at (codes "record");
      type_is = at (codes "type");
      run = name_there (codes "run") value its.run (at (codes "run")) h.run;
      time = record { there = at (codes "time"); is = h.time };
      home = at (codes "home");
      lane = number_there (codes "lane") (2 ^ 16) value its.lane (at (codes "lane")) (omega (arith, h.lane)) h.lane;
      answer_run = name_there (codes "answer_run") value its.answer_run (at (codes "answer_run")) h.answer_run;
      answer_lane = number_there (codes "answer_lane") (2 ^ 16) value its.answer_lane (at (codes "answer_lane")) (omega (arith, h.answer_lane)) h.answer_lane;
      answer_serial = number_there (codes "answer_serial") (2 ^ 63) value its.answer_serial (at (codes "answer_serial")) (omega (arith, h.answer_serial)) h.answer_serial;
      count = record { there = number_there (codes "count") (2 ^ 64) value its.count (at (codes "count")) h.count h.count; some = h.some };
    }

-- ---- a line of a request that was taken over

pub resumed_read : (its : Resumed) (sum : List ℕ) → IsReadableResumed its → IsResumed (object_of (summed (resumed_slots its) sum)) its
resumed_read its sum h =
    let slots = summed (resumed_slots its) sum in
    let at = λ (key : List ℕ). get_found key slots refl in
    let value = object_of slots in
    record {
      no_other = only_names slots;
      type_is = at (codes "type");
      run = name_there (codes "run") value its.run (at (codes "run")) h.run;
      time = record { there = at (codes "time"); is = h.time };
      home = at (codes "home");
      lane = number_there (codes "lane") (2 ^ 16) value its.lane (at (codes "lane")) (omega (arith, h.lane)) h.lane;
      record_is = number_there (codes "record") (2 ^ 64) value its.number (at (codes "record")) h.record_is h.record_is;
      first_run = name_there (codes "first_run") value its.first_run (at (codes "first_run")) h.first_run;
      first_lane = number_there (codes "first_lane") (2 ^ 16) value its.first_lane (at (codes "first_lane")) (omega (arith, h.first_lane)) h.first_lane;
      first_record = number_there (codes "first_record") (2 ^ 64) value its.first_number (at (codes "first_record")) h.first_record h.first_record;
    }

-- ---- a line that names a run

is_start : (start : LaneStart) → IsReadableStart start → IsLaneStart (start_value start) start
is_start start h =
    let at = λ (key : List ℕ). get_found key (start_slots start) refl in
    record {
      no_other = only_names (start_slots start);
      lane = number_there (codes "lane") (2 ^ 16) (start_value start) start.lane (at (codes "lane")) (omega (arith, h.lane)) h.lane;
      home = at (codes "home");
      serial = number_there (codes "serial") (2 ^ 63) (start_value start) start.serial (at (codes "serial")) (omega (arith, h.serial)) h.serial;
    }

-- its keys are among those that a reader knows
file_keys : (file : FileBefore) → HasOnly (codes "name" ∷ codes "sum" ∷ codes "octets" ∷ codes "sha256" ∷ []) (file_value file)
file_keys file =
    let known = codes "name" ∷ codes "sum" ∷ codes "octets" ∷ codes "sha256" ∷ [] in
    All-from_recursion (Contains known) (keys (present (file_slots file))) (keys_all (Contains known) (file_slots file) ((0, omega arith, refl), ((1, omega arith, refl), tt)))

is_file : (file : FileBefore) → IsReadableFile file → IsFileBefore (file_value file) file
is_file file h =
    let at = λ (key : List ℕ). get_found key (file_slots file) refl in
    record {
      no_other = file_keys file;
      name = at (codes "name");
      sum = sum_if_there (codes "sum") (file_value file) file.sum (at (codes "sum")) h.sum;
    }

file_if_there : (value : Json) (file : Option FileBefore) → get (codes "before") value ≡ option_map file_value file → IsReadableFileIfAny file → MayHaveFile value file
file_if_there value None e h = e
file_if_there value (Some file) e h = record { found = file_value file; there = e; is = is_file file h }

pub begin_read : (begin : Begin) (sum : List ℕ) → IsReadableBegin begin → IsBegin (object_of (summed (begin_slots begin) sum)) begin
begin_read begin sum h =
    let slots = summed (begin_slots begin) sum in
    let at = λ (key : List ℕ). get_found key slots refl in
    record {
      no_other = only_names slots;
      type_is = at (codes "type");
      run = name_there (codes "run") (object_of slots) begin.run (at (codes "run")) h.run;
      time = record { there = at (codes "time"); is = h.time };
      version = at (codes "version");
      file = number_there (codes "file") (2 ^ 64) (object_of slots) begin.file (at (codes "file")) h.file h.file;
      before = file_if_there (object_of slots) begin.before (at (codes "before")) h.before;
      hidden = number_if_there (codes "hidden") (2 ^ 32) (object_of slots) begin.hidden (at (codes "hidden")) (omega arith) h.hidden;
      lanes = record {
        items = items_of start_value begin.lanes.items;
        there = at (codes "lanes");
        are = are_each start_value IsLaneStart IsReadableStart is_start begin.lanes.items (recursion_from_All IsReadableStart begin.lanes.items h.lanes);
      };
    }
