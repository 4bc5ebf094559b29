-- What a configuration leads to a lane is of the realms that it sets the lane up with, and only that is.
use Rattle.std.proofs.Common.{◌≡◌, ℕ, ◌<◌, Bool, true, false, cond, List, [], ◌∷◌, length, Option, Some, None, inl, inr, refl, sym, ap, subst, ◌∙◌, arith, ◌||◌, is_none, zero, suc}
use Rattle.std.specs.Prelude.{map as each, filter, option_map, ◌==◌, ◌↔◌, IsTrue}
use Rattle.std.specs.List.{AllByRecursion, AllPairs}
use Rattle.std.specs.Char.{to_ascii_lowercase}
use Rattle.std.proofs.lemmas.Bool.{eq-eqb, ne_eqb, false≢true}
use Rattle.std.proofs.lemmas.List.Elements.{recursion_from_All}
use Rattle.std.proofs.lemmas.Slice.Eq.{bytes_eq-Decides}
use Rattle.std.proofs.lemmas.Bool.Decides.{eqb_tells}
use Rattle.rad_realms.specs.Checking.{Request, IsChecked}
use Rattle.rad_realms.specs.Configuration.{RealmEntry, Configuration}
use Rattle.rad_realms.specs.WellFormed.{IsWellFormed}
use Rattle.rad_realms.specs.Realm.{same_name, or_else, row_of, lane_in, lane_by, realm_of_packet, realms_of, lane_of_packet}
use Rattle.rad_lane.specs.Setup.{LaneSetup, IsSetUp, is_among, is_beside, LeadsHere, IsOfItsRealms, is_lane}
use Rattle.rad_lane.specs.WithoutOtherHome.{LeadsByTheTable}
use Rattle.rad_lane.specs.Book.{Book}
use Rattle.rad_lane.specs.Accepts.{IsTaken}

or_true : (b : Bool) → (b || true) ≡ true
or_true true = refl
or_true false = refl

is_default : (lane : ℕ) (default : Option ℕ) → default ≡ Some lane → IsTrue (is_lane lane default)
is_default lane None is = cc
is_default lane (Some other) is = let same : other ≡ lane = cc in eq-eqb other lane same

is_its_lane : (lane : ℕ) (other : Option ℕ) → is_lane lane other ≡ true → other ≡ Some lane
is_its_lane lane None is = absurd (false≢true is)
is_its_lane lane (Some other) is = elim (eqb_tells other lane) [
  | inl equal ↦ ap (λ (n : ℕ). Some n) equal.1
  | inr apart ↦ absurd (false≢true (sym apart.0 ∙ is))
]

-- a realm whose row leads to a lane is among those of the lane
module _ (realm : List ℕ) (lane : ℕ) where
  abbrev lane_found : List RealmEntry → Option ℕ
  lane_found table = option_map (λ (r : RealmEntry). r.lane) (row_of table realm)

  abbrev has : List RealmEntry → Bool
  has entries = is_among (each (λ (r : RealmEntry). r.name) entries) realm

  abbrev of_lane : List RealmEntry → List RealmEntry
  of_lane table = filter (λ (r : RealmEntry). r.lane == lane) table

  has_by : (r : RealmEntry) (table : List RealmEntry) (b c : Bool) → b ≡ same_name r.name realm → c ≡ (r.lane == lane) → option_map (λ (r : RealmEntry). r.lane) (cond b (Some r) (row_of table realm)) ≡ Some lane → (lane_found table ≡ Some lane → has (of_lane table) ≡ true) → has (cond c (r ∷ of_lane table) (of_lane table)) ≡ true
  has_by r table true true is here found behind = rw (← is) refl
  has_by r table true false is here found behind = let same : r.lane ≡ lane = cc in let equal = eq-eqb r.lane lane same in cc
  has_by r table false true is here found behind = rw (← is) (behind found)
  has_by r table false false is here found behind = behind found

  has_found : (table : List RealmEntry) → lane_found table ≡ Some lane → has (of_lane table) ≡ true
  has_found [] found = cc
  has_found (r ∷ table) found = has_by r table (same_name r.name realm) (r.lane == lane) refl refl found (has_found table)

  -- at the lane of all other realms, one without a row is beside the table
  abbrev takes : List RealmEntry → Option ℕ → Bool
  takes table other = has (of_lane table) || is_beside (cond (is_lane lane other) (Some table) None) realm

  takes_by : (table : List RealmEntry) (other : Option ℕ) (row : Option RealmEntry) → row ≡ row_of table realm → or_else (option_map (λ (r : RealmEntry). r.lane) row) other ≡ Some lane → IsTrue (takes table other)
  takes_by table other (Some r) is found =
      let there : has (of_lane table) ≡ true = has_found table (rw (← is) found) in
      rw there refl
  takes_by table other None is found =
      let here : is_lane lane other ≡ true = is_default lane other found in
      rw (here, ← is) (or_true (has (of_lane table)))

  there_by : (table : List RealmEntry) (other : Option ℕ) (b : Bool) → b ≡ (length realm == 0) → cond b None (or_else (lane_found table) other) ≡ Some lane → (0 < length realm) × IsTrue (takes table other)
  there_by table other true is found = cc
  there_by table other false is found = elim (eqb_tells (length realm) 0) [
    | inl none ↦ let empty = none.0 in cc
    | inr some ↦ (omega (arith, some.1), takes_by table other (row_of table realm) refl found)
  ]

  found_there : (table : List RealmEntry) (other : Option ℕ) → lane_in table other realm ≡ Some lane → (0 < length realm) × IsTrue (takes table other)
  unfolding lane_in
  found_there table other found = there_by table other (length realm == 0) refl found

-- ---- and only such a realm

same_both : (a b realm : List ℕ) → same_name a realm ≡ true → same_name b realm ≡ true → same_name a b ≡ true
same_both a b realm one other =
    let la = each to_ascii_lowercase a in
    let lb = each to_ascii_lowercase b in
    let lr = each to_ascii_lowercase realm in
    (bytes_eq-Decides la lb).1 ((bytes_eq-Decides la lr).0 one ∙ sym ((bytes_eq-Decides lb lr).0 other))

-- names of the table are not the same
abbrev Apart : List RealmEntry → Type 0
Apart table = AllPairs (λ a b. same_name a.name b.name ≡ false) table

module _ (realm : List ℕ) (lane : ℕ) where
  -- a name that stands before is not the same as one behind
  none_by : (r x : RealmEntry) (rest : List RealmEntry) (b c : Bool) → b ≡ same_name x.name realm → same_name r.name x.name ≡ false → same_name r.name realm ≡ true → has realm lane (cond c (x ∷ of_lane realm lane rest) (of_lane realm lane rest)) ≡ true → has realm lane (of_lane realm lane rest) ≡ true
  none_by r x rest b false is apart same there = there
  none_by r x rest true true is apart same there = absurd (false≢true (sym apart ∙ same_both r.name x.name realm same (sym is)))
  none_by r x rest false true is apart same there = rw (← is) at there

  none_behind : (r : RealmEntry) (table : List RealmEntry) → AllByRecursion (λ x. same_name r.name x.name ≡ false) table → same_name r.name realm ≡ true → has realm lane (of_lane realm lane table) ≡ true → ⊥
  none_behind r [] apart same there = false≢true there
  none_behind r (x ∷ table) apart same there =
      none_behind r table apart.1 same (none_by r x table (same_name x.name realm) (x.lane == lane) refl apart.0 same there)

  only_by : (r : RealmEntry) (table : List RealmEntry) (b c : Bool) → b ≡ same_name r.name realm → c ≡ (r.lane == lane)
      → AllByRecursion (λ x. same_name r.name x.name ≡ false) table
      → (has realm lane (of_lane realm lane table) ≡ true → lane_found realm lane table ≡ Some lane)
      → has realm lane (cond c (r ∷ of_lane realm lane table) (of_lane realm lane table)) ≡ true
      → option_map (λ (r : RealmEntry). r.lane) (cond b (Some r) (row_of table realm)) ≡ Some lane
  only_by r table true true is here apart behind there = elim (eqb_tells r.lane lane) [
    | inl equal ↦ ap (λ (n : ℕ). Some n) equal.1
    | inr other ↦ absurd (false≢true (sym other.0 ∙ sym here))
  ]
  only_by r table true false is here apart behind there = absurd (none_behind r table apart (sym is) there)
  only_by r table false true is here apart behind there = behind (rw (← is) at there)
  only_by r table false false is here apart behind there = behind there

  only_found : (table : List RealmEntry) → Apart table → has realm lane (of_lane realm lane table) ≡ true → lane_found realm lane table ≡ Some lane
  only_found [] apart there = absurd (false≢true there)
  only_found (r ∷ table) apart there =
      let behind = recursion_from_All (λ (x : RealmEntry). same_name r.name x.name ≡ false) table (λ j d within. apart zero (suc j) d (omega arith) (omega arith)) in
      only_by r table (same_name r.name realm) (r.lane == lane) refl refl behind (only_found table (λ i j d lt within. apart (suc i) (suc j) d (omega arith) (omega arith))) there

  without_row : (row : Option RealmEntry) (other : Option ℕ) → is_none row ≡ true → other ≡ Some lane → or_else (option_map (λ (r : RealmEntry). r.lane) row) other ≡ Some lane
  without_row None other none is = is
  without_row (Some r) other none is = absurd (false≢true none)

  beside_by : (table : List RealmEntry) (other : Option ℕ) (b : Bool) → b ≡ is_lane lane other → is_beside (cond b (Some table) None) realm ≡ true → or_else (lane_found realm lane table) other ≡ Some lane
  beside_by table other false is there = absurd (false≢true there)
  beside_by table other true is there = without_row (row_of table realm) other there (is_its_lane lane other (sym is))

  taken_by : (table : List RealmEntry) (other : Option ℕ) (b : Bool) → Apart table → b ≡ has realm lane (of_lane realm lane table) → (b || is_beside (cond (is_lane lane other) (Some table) None) realm) ≡ true → or_else (lane_found realm lane table) other ≡ Some lane
  taken_by table other true apart is there = rw (only_found table apart (sym is)) refl
  taken_by table other false apart is there = beside_by table other (is_lane lane other) refl there

  there_only : (table : List RealmEntry) (other : Option ℕ) → Apart table → 0 < length realm → IsTrue (takes realm lane table other) → lane_in table other realm ≡ Some lane
  unfolding lane_in
  there_only table other apart some there =
      let not_empty : (length realm == 0) ≡ false = ne_eqb (length realm) 0 (λ e. absurd (omega (arith, some, e))) in
      rw not_empty (taken_by table other (has realm lane (of_lane realm lane table)) apart refl there)

leads_by : (config : Configuration) (lane : ℕ) (setup : LaneSetup) (realm : Option (List ℕ)) → IsSetUp config lane setup → lane_by config realm ≡ Some lane → LeadsHere setup realm
leads_by config lane setup None s leads = subst (λ b. IsTrue b) (sym (ap (λ (s : LaneSetup). s.is_default) s.parts)) (is_default lane config.default_lane leads)
leads_by config lane setup (Some realm) s leads =
    let there = found_there realm lane config.realms config.other_lane leads in
    subst (λ (s : LaneSetup). LeadsHere s (Some realm)) (sym s.parts) there

leads_only_by : (config : Configuration) (lane : ℕ) (setup : LaneSetup) (realm : Option (List ℕ)) → IsWellFormed config → IsSetUp config lane setup → LeadsHere setup realm → lane_by config realm ≡ Some lane
leads_only_by config lane setup None w s here = is_its_lane lane config.default_lane (subst (λ (s : LaneSetup). IsTrue s.is_default) s.parts here)
leads_only_by config lane setup (Some realm) w s here =
    let there : LeadsHere (record {
      lane = lane;
      ports = s.home.limits.ports;
      home_secret = s.home.secret;
      limits = s.home.limits;
      realms = realms_of config.realms lane;
      unlisted = cond (is_lane lane config.other_lane) (Some config.realms) None;
      is_default = is_lane lane config.default_lane;
    }) (Some realm) = subst (λ (s : LaneSetup). LeadsHere s (Some realm)) s.parts here in
    there_only realm lane config.realms config.other_lane w.realm_names there.0 there.1

pub of_its_realms : (config : Configuration) (lane : ℕ) (setup : LaneSetup) (text : List ℕ) → IsSetUp config lane setup → lane_of_packet config text ≡ Some lane → IsOfItsRealms setup text
unfolding lane_of_packet
of_its_realms config lane setup text s leads = leads_by config lane setup (realm_of_packet text) s leads

pub only_of_its_realms : (config : Configuration) (lane : ℕ) (setup : LaneSetup) (text : List ℕ) → IsWellFormed config → IsSetUp config lane setup → IsOfItsRealms setup text → lane_of_packet config text ≡ Some lane
unfolding lane_of_packet
only_of_its_realms config lane setup text w s here = leads_only_by config lane setup (realm_of_packet text) w s here

pub is_taken : (book : Book) (request : Request) → IsChecked request → IsSetUp request.config request.lane book.setup → IsTaken book request
is_taken book request checked s = record {
  lane = sym (ap (λ (s : LaneSetup). s.lane) s.parts);
  realm = of_its_realms request.config request.lane book.setup request.text s checked.lane;
}

-- ---- without a lane for all other realms

pub nothing_beside : (config : Configuration) (lane : ℕ) (setup : LaneSetup) → IsSetUp config lane setup → config.other_lane ≡ None → setup.unlisted ≡ None
nothing_beside config lane setup s none = ap (λ (s : LaneSetup). s.unlisted) s.parts ∙ rw none refl

beside_none : (b : Bool) (table : Option (List RealmEntry)) (realm : List ℕ) → table ≡ None → (b || is_beside table realm) ≡ b
beside_none true None realm is = refl
beside_none false None realm is = refl
beside_none b (Some table) realm is = cc

pub takes_as_before : (setup : LaneSetup) (realm : Option (List ℕ)) → setup.unlisted ≡ None → LeadsHere setup realm ↔ LeadsByTheTable setup realm
takes_as_before setup None is = (λ here. here, λ here. here)
takes_as_before setup (Some realm) is =
    let same = beside_none (is_among setup.realms realm) setup.unlisted realm is in
    (λ here. (here.0, sym same ∙ here.1), λ here. (here.0, same ∙ here.1))
