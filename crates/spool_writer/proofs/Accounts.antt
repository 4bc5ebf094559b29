-- What became of what the front was told or handed over, one more.
use Rattle.std.proofs.Common.{◌≡◌, List, [], ◌∷◌, ◌++◌, Option, Some, None, refl, sym, ap, subst, ◌∙◌, append-nil}
use Rattle.std.specs.Prelude.{MatchOption, ⊤}
use Rattle.std.specs.List.{flat_map}
use Rattle.std.proofs.lemmas.Grind.{flat_map-append}
use Rattle.std.proofs.lemmas.List.{map-append}
use Rattle.std.proofs.lemmas.List.Elements.{All-nil, All-push}
use Rattle.rad_desk.specs.Handling.{Outcome}
use Rattle.rad_desk.specs.HandOver.{Handing}
use Rattle.spool_writer.specs.Accounted.{AreAccountedFor, AreEntered, AreKept, in_list}
use Rattle.spool_writer.specs.Parcels.{IsAnsweredOf, IsCameOf, New, news_of}
use Rattle.spool_writer.specs.declared.parcel.Parcel.{Parcel}

-- What is made of each of some items, and of one more.
made_more : {X Y : Type 0} (f : X → List Y) (xs : List X) (x : X) (made : List Y) → made ≡ flat_map f xs → made ++ f x ≡ flat_map f (xs ++ x ∷ [])
made_more f xs x made is =
    ap (λ l. l ++ f x) is ∙ ap (λ l. flat_map f xs ++ l) (sym (append-nil (f x))) ∙ sym (flat_map-append f xs (x ∷ []))

-- One more is put as its parcel, or lost.
one_more : {X : Type 0} (IsIts : X → Parcel → Type 0) (put more : List Parcel) (all all' : List X) (x : X) (parcel : Option Parcel) → MatchOption parcel ⊤ (IsIts x)
    → more ≡ put ++ in_list parcel → all' ≡ all ++ x ∷ [] → AreAccountedFor IsIts put all → AreAccountedFor IsIts more all'
one_more {X} IsIts put more all all' x parcel right is one are =
    let fate : X × Option Parcel = (x, parcel) in
    record {
      fates = are.fates ++ fate ∷ [];
      subjects = one ∙ ap (λ (l : List X). l ++ x ∷ []) are.subjects ∙ sym (map-append (λ (f : X × Option Parcel). f.0) are.fates (fate ∷ []));
      parcels = is ∙ made_more (λ (f : X × Option Parcel). in_list f.1) are.fates fate put are.parcels;
      right = All-push (λ (f : X × Option Parcel). MatchOption f.1 ⊤ (IsIts f.0)) are.fates fate are.right right;
    }

news_more : (old new : List Outcome) (outcome : Outcome) → new ≡ old ++ outcome ∷ [] → flat_map news_of new ≡ flat_map news_of old ++ news_of outcome
news_more old new outcome is = ap (flat_map news_of) is ∙ sym (made_more news_of old outcome (flat_map news_of old) refl)

-- The front was told nothing yet.
pub nothing_told : (put : List Parcel) (outcomes : List Outcome) → put ≡ [] → outcomes ≡ [] → AreEntered (record { put = put; outcomes = outcomes })
nothing_told put outcomes is none =
    record { fates = []; subjects = ap (flat_map news_of) none; parcels = is; right = All-nil (λ fate. MatchOption fate.1 ⊤ (IsCameOf fate.0)) }

-- A request that a lane took as new is put, or lost.
told : (put more : List Parcel) (old new : List Outcome) (outcome : Outcome) (its : New) (parcel : Option Parcel) → news_of outcome ≡ its ∷ [] → MatchOption parcel ⊤ (IsCameOf its)
    → more ≡ put ++ in_list parcel → new ≡ old ++ outcome ∷ [] → AreEntered (record { put = put; outcomes = old }) → AreEntered (record { put = more; outcomes = new })
told put more old new outcome its parcel is_new right is one are =
    one_more IsCameOf put more (flat_map news_of old) (flat_map news_of new) its parcel right is (news_more old new outcome one ∙ ap (λ (l : List New). flat_map news_of old ++ l) is_new) are

pub new_put : (put more : List Parcel) (old new : List Outcome) (outcome : Outcome) (its : New) (asked : Option Parcel) (parcel : Parcel) → asked ≡ Some parcel → news_of outcome ≡ its ∷ [] → MatchOption asked ⊤ (IsCameOf its)
    → more ≡ put ++ parcel ∷ [] → new ≡ old ++ outcome ∷ [] → AreEntered (record { put = put; outcomes = old }) → AreEntered (record { put = more; outcomes = new })
new_put put more old new outcome its asked parcel some is_new right is one are =
    told put more old new outcome its (Some parcel) is_new (subst (λ (p : Option Parcel). MatchOption p ⊤ (IsCameOf its)) some right) is one are

pub new_lost : (put more : List Parcel) (old new : List Outcome) (outcome : Outcome) (its : New) → news_of outcome ≡ its ∷ []
    → more ≡ put → new ≡ old ++ outcome ∷ [] → AreEntered (record { put = put; outcomes = old }) → AreEntered (record { put = more; outcomes = new })
new_lost put more old new outcome its is_new is one are = told put more old new outcome its None is_new tt (is ∙ sym (append-nil put)) one are

-- Another outcome is told.
pub other_told : (put : List Parcel) (old new : List Outcome) (outcome : Outcome) → news_of outcome ≡ [] → new ≡ old ++ outcome ∷ [] → AreEntered (record { put = put; outcomes = old }) → AreEntered (record { put = put; outcomes = new })
other_told put old new outcome none one are = record {
  fates = are.fates;
  subjects = news_more old new outcome one ∙ ap (λ (l : List New). flat_map news_of old ++ l) none ∙ append-nil (flat_map news_of old) ∙ are.subjects;
  parcels = are.parcels;
  right = are.right;
}

-- Nothing was handed over yet.
pub nothing_kept : (put : List Parcel) (handed : List Handing) → put ≡ [] → handed ≡ [] → AreKept (record { put = put; handed = handed })
nothing_kept put handed is none =
    record { fates = []; subjects = none; parcels = is; right = All-nil (λ fate. MatchOption fate.1 ⊤ (IsAnsweredOf fate.0.outgoing)) }

-- A response is put, or lost.
pub response_put : (put more : List Parcel) (old new : List Handing) (handing : Handing) (asked : Option Parcel) (parcel : Parcel) → asked ≡ Some parcel → MatchOption asked ⊤ (IsAnsweredOf handing.outgoing)
    → more ≡ put ++ parcel ∷ [] → new ≡ old ++ handing ∷ [] → AreKept (record { put = put; handed = old }) → AreKept (record { put = more; handed = new })
response_put put more old new handing asked parcel some right is one are =
    one_more (λ (h : Handing) (p : Parcel). IsAnsweredOf h.outgoing p) put more old new handing (Some parcel) (subst (λ (p : Option Parcel). MatchOption p ⊤ (IsAnsweredOf handing.outgoing)) some right) is one are

pub response_lost : (put more : List Parcel) (old new : List Handing) (handing : Handing) → more ≡ put → new ≡ old ++ handing ∷ []
    → AreKept (record { put = put; handed = old }) → AreKept (record { put = more; handed = new })
response_lost put more old new handing is one are =
    one_more (λ (h : Handing) (p : Parcel). IsAnsweredOf h.outgoing p) put more old new handing None tt (is ∙ sym (append-nil put)) one are
