-- What became of what the front was told and handed over: it was put into its ring, or lost. Own.
use Rattle.std.specs.Prelude.{◌≡◌, List, [], ◌∷◌, ⊤, All, map, Option, Some, None, MatchOption}
use Rattle.std.specs.List.{flat_map}
use Rattle.rad_desk.specs.Handling.{Outcome}
use Rattle.rad_desk.specs.HandOver.{Handing}
use Rattle.spool_writer.specs.Parcels.{IsAnsweredOf, IsCameOf, news_of}
use Rattle.spool_writer.specs.declared.parcel.Parcel.{Parcel}

-- what contracts see of the front's ends of the rings: what was put there, and what the front was told or handed over
pub record Entered : Type 0 where
  pub put : List Parcel
  pub outcomes : List Outcome

pub record Kept : Type 0 where
  pub put : List Parcel
  pub handed : List Handing

abbrev pub in_list : Option Parcel → List Parcel
in_list None = []
in_list (Some parcel) = parcel ∷ []

-- Each of these was put into the ring as its parcel or lost, in order, and nothing else was put there.
pub record AreAccountedFor {X : Type 0} (IsIts : X → Parcel → Type 0) (put : List Parcel) (all : List X) : Type 0 where
  pub fates : List (X × Option Parcel)
  pub subjects : all ≡ map (λ fate. fate.0) fates
  pub parcels : put ≡ flat_map (λ fate. in_list fate.1) fates
  pub right : All (λ fate. MatchOption fate.1 ⊤ (IsIts fate.0)) fates

-- the request of each outcome that a lane took as new
abbrev pub AreEntered : Entered → Type 0
AreEntered e = AreAccountedFor IsCameOf e.put (flat_map news_of e.outcomes)

abbrev pub AreKept : Kept → Type 0
AreKept k = AreAccountedFor (λ handing parcel. IsAnsweredOf handing.outgoing parcel) k.put k.handed
