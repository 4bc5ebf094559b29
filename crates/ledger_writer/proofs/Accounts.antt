-- What the front's end of the buffer was given, one more.
use Rattle.std.proofs.Common.{◌≡◌, ℕ, List, [], ◌∷◌, ◌++◌, Bool, true, false, Some, None, refl, sym, subst, ap, ◌∙◌, append-nil}
use Rattle.std.specs.Prelude.{MatchBool}
use Rattle.std.specs.List.{flat_map}
use Rattle.std.proofs.lemmas.Grind.{flat_map-append}
use Rattle.std.proofs.lemmas.List.Elements.{All-nil, All-push}
use Rattle.rtrb.specs.Ring.{sent}
use Rattle.rad_desk.specs.HandOver.{Handing}
use Rattle.rad_desk.specs.Leaving.{Left, as_left}
use Rattle.rad_desk.specs.declared.leaving.LeftRecord.{LeftRecord}
use Rattle.ledger_writer.specs.Accounted.{AreAccountedFor, Fate, IsItsParcel, IsRight, Subject, counted, response, request, heads_of, packets_in, request_of, response_of}
use Rattle.ledger_writer.specs.Buffer.{Gives, GivesNothing}
use Rattle.ledger_writer.specs.Parcels.{IsParcelOf, IsParcelOfCount, IsParcelOfLeft}
use Rattle.ledger_writer.specs.declared.giving.ParcelGiver.{ParcelGiver}
use Rattle.ledger_writer.specs.declared.parcel.CountKey.{CountKey}
use Rattle.ledger_writer.specs.declared.parcel.Parcel.{Parcel}

-- What is made of each of some items, and of one more.
made_more : {X Y : Type 0} (f : X → List Y) (xs : List X) (x : X) (made : List Y) → made ≡ flat_map f xs → made ++ f x ≡ flat_map f (xs ++ x ∷ [])
made_more f xs x made is =
    ap (λ l. l ++ f x) is ∙ ap (λ l. flat_map f xs ++ l) (sym (append-nil (f x))) ∙ sym (flat_map-append f xs (x ∷ []))

-- Nothing was given yet.
pub none_given : (giver : ParcelGiver) (handed : List Handing) (left : List Left) → sent giver.heads ≡ [] → sent giver.packets ≡ [] → handed ≡ [] → left ≡ [] → AreAccountedFor giver handed left
none_given giver handed left heads packets none untold =
    record { fates = []; responses = none; requests = untold; heads = heads; packets = packets; right = All-nil IsRight }

-- Nothing more is put into the buffer.
pub still_given : (old new : ParcelGiver) (handed : List Handing) (left : List Left) → GivesNothing old new → AreAccountedFor old handed left → AreAccountedFor new handed left
still_given old new handed left none are = record {
  fates = are.fates;
  responses = are.responses;
  requests = are.requests;
  heads = none.heads ∙ are.heads;
  packets = none.packets ∙ are.packets;
  right = are.right;
}

-- One fate more.
one_given : (old new : ParcelGiver) (handed : List Handing) (left : List Left) (fate : Fate) → IsRight fate → sent new.heads ≡ sent old.heads ++ heads_of fate.put → sent new.packets ≡ sent old.packets ++ packets_in fate.put → AreAccountedFor old handed left → AreAccountedFor new (handed ++ response_of fate.subject) (left ++ request_of fate.subject)
one_given old new handed left fate right heads packets are = record {
  fates = are.fates ++ fate ∷ [];
  responses = made_more (λ (f : Fate). response_of f.subject) are.fates fate handed are.responses;
  requests = made_more (λ (f : Fate). request_of f.subject) are.fates fate left are.requests;
  heads = heads ∙ made_more (λ (f : Fate). heads_of f.put) are.fates fate (sent old.heads) are.heads;
  packets = packets ∙ made_more (λ (f : Fate). packets_in f.put) are.fates fate (sent old.packets) are.packets;
  right = All-push IsRight are.fates fate are.right right;
}

-- It was put into the buffer as its parcel, or it was dropped.
pub put_given : (old new : ParcelGiver) (handed : List Handing) (left : List Left) (subject : Subject) (parcel : Parcel) → IsItsParcel subject parcel → Gives old parcel new → AreAccountedFor old handed left → AreAccountedFor new (handed ++ response_of subject) (left ++ request_of subject)
put_given old new handed left subject parcel its gives = one_given old new handed left (record { subject = subject; put = Some parcel }) its gives.heads gives.packets

pub dropped_given : (old new : ParcelGiver) (handed : List Handing) (left : List Left) (subject : Subject) → GivesNothing old new → AreAccountedFor old handed left → AreAccountedFor new (handed ++ response_of subject) (left ++ request_of subject)
dropped_given old new handed left subject none =
    one_given old new handed left (record { subject = subject; put = None }) tt (none.heads ∙ sym (append-nil (sent old.heads))) (none.packets ∙ sym (append-nil (sent old.packets)))

either_given : (is : Bool) (old new : ParcelGiver) (handed : List Handing) (left : List Left) (subject : Subject) (parcel : Parcel) → IsItsParcel subject parcel → MatchBool is (Gives old parcel new) (GivesNothing old new) → AreAccountedFor old handed left → AreAccountedFor new (handed ++ response_of subject) (left ++ request_of subject)
either_given true old new handed left subject parcel its gives are = put_given old new handed left subject parcel its gives are
either_given false old new handed left subject parcel its gives are = dropped_given old new handed left subject gives are

-- A response is handed over.
pub response_given : (is : Bool) (old new : ParcelGiver) (handed after : List Handing) (left same : List Left) (handing : Handing) (parcel : Parcel) → ((time : ℕ) × IsParcelOf time handing.outgoing parcel) → MatchBool is (Gives old parcel new) (GivesNothing old new) → after ≡ handed ++ handing ∷ [] → same ≡ left → AreAccountedFor old handed left → AreAccountedFor new after same
response_given is old new handed after left same handing parcel its gives more still are =
    let given = either_given is old new handed left (response handing) parcel its gives are in
    record {
      fates = given.fates;
      responses = more ∙ given.responses;
      requests = still ∙ sym (append-nil left) ∙ given.requests;
      heads = given.heads;
      packets = given.packets;
      right = given.right;
    }

-- So many are counted of a record.
pub count_given : (is : Bool) (old new : ParcelGiver) (handed : List Handing) (left : List Left) (key : CountKey) (count : ℕ) (parcel : Parcel) → ((time : ℕ) × IsParcelOfCount time key count parcel) → MatchBool is (Gives old parcel new) (GivesNothing old new) → AreAccountedFor old handed left → AreAccountedFor new handed left
count_given is old new handed left key count parcel its gives are =
    let given = either_given is old new handed left (counted key count) parcel its gives are in
    record {
      fates = given.fates;
      responses = sym (append-nil handed) ∙ given.responses;
      requests = sym (append-nil left) ∙ given.requests;
      heads = given.heads;
      packets = given.packets;
      right = given.right;
    }

-- A parcel for which there was room.
pub gives_if : (is : Bool) (old new : ParcelGiver) (parcel : Parcel) → is ≡ true → MatchBool is (Gives old parcel new) (GivesNothing old new) → Gives old parcel new
gives_if is old new parcel holds gives = subst (λ b. MatchBool b (Gives old parcel new) (GivesNothing old new)) holds gives

-- A request is told as left, and put into the buffer, or dropped.
told_given : (old new : ParcelGiver) (handed : List Handing) (left after : List Left) (told : LeftRecord) → after ≡ left ++ as_left told ∷ [] → AreAccountedFor new (handed ++ []) (left ++ as_left told ∷ []) → AreAccountedFor new handed after
told_given old new handed left after told more given = record {
  fates = given.fates;
  responses = sym (append-nil handed) ∙ given.responses;
  requests = more ∙ given.requests;
  heads = given.heads;
  packets = given.packets;
  right = given.right;
}

pub request_given : (old new : ParcelGiver) (handed : List Handing) (left after : List Left) (told : LeftRecord) (parcel : Parcel) → ((time : ℕ) × IsParcelOfLeft time told parcel) → Gives old parcel new → after ≡ left ++ as_left told ∷ [] → AreAccountedFor old handed left → AreAccountedFor new handed after
request_given old new handed left after told parcel its gives more are =
    told_given old new handed left after told more (put_given old new handed left (request told) parcel its gives are)

pub request_dropped : (giver : ParcelGiver) (handed : List Handing) (left after : List Left) (told : LeftRecord) → after ≡ left ++ as_left told ∷ [] → AreAccountedFor giver handed left → AreAccountedFor giver handed after
request_dropped giver handed left after told more are =
    told_given giver giver handed left after told more (dropped_given giver giver handed left (request told) (record { heads = refl; packets = refl }) are)
