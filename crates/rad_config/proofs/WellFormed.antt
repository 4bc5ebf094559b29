-- What holds of each configuration that a document says.
use Rattle.std.proofs.Common.{◌≡◌, ◌≢◌, ℕ, ◌<◌, ◌≤◌, ◌==◌, Bool, true, false, not, nat_le, List, [], ◌∷◌, ◌++◌, length, get_or, Option, Some, None, is_some, Ok, refl, ap, subst, arith, All}
use Rattle.std.specs.Prelude.{find, position, ok_or, IfSome}
use Rattle.std.specs.List.{AllByRecursion, AllPairs, list_all}
use Rattle.std.specs.Str.{bytes_eq}
use Rattle.std.proofs.lemmas.Bool.{and_parts, leb-true}
use Rattle.std.proofs.lemmas.Bool.Decides.{nat_tests}
use Rattle.std.proofs.lemmas.List.Elements.{All-from_recursion, All-append, All-cons, All-nil}
use Rattle.std.proofs.lemmas.List.Quantifiers.{all_pairs_push, position-Some}
use Rattle.toml.specs.Data.{Members}
use Rattle.rad_config.specs.declared.limits.LimitNumbers.{LimitNumbers}
use Rattle.rad_config.specs.declared.limits.LimitFault.{LimitFault}
use Rattle.rad_config.specs.declared.reading.faults.Part.TheVariants as part
use Rattle.rad_config.specs.declared.reading.faults.Key.{Key}
use Rattle.rad_config.specs.declared.reading.faults.Key.TheVariants.{DefaultHome, OtherHome, Client, Home, Realm, Address, Secret, Name}
use Rattle.rad_config.specs.declared.reading.faults.Spot.{Spot}
use Rattle.rad_config.specs.declared.reading.faults.ConfigFault.TheVariants.{DoubleName, UnknownHome, OutOfRange, Toml}
use Rattle.rad_config.specs.Configuration.{ClientEntry, HomeEntry, RealmEntry, Configuration}
use Rattle.rad_config.specs.Limits.{AreInRange, limits_of, first_fault}
use Rattle.rad_config.specs.Realm.{same_name}
use Rattle.rad_config.specs.WellFormed.{IsRealmName, IsWellFormed}
use Rattle.rad_config.specs.Walk.{refuse_if, spot, array_of, listen_in, home_name_in, linger_in, address_at, secret_at, home_name_at, text_that, text_at, has_length, is_realm_name, realm_name_at, endpoint_at, numbers_at, kept_or_fault, limits_at, client_in, home_in, realm_in_table, lane_named, clients_in, homes_in, realms_in, lane_at, walk, configuration_in}
use Rattle.toml.specs.Parse.{parse_document}
use Rattle.rad_config.proofs.Ranges.{in_range}
use Rattle.rad_config.proofs.Steps.{same_ok, bound, not_refused, known, kept_by}
use Rattle.rad_config.proofs.TableCounts.{some_counted, any_counted}
use Rattle.rad_config.proofs.EachTable.{each_keeps, each_counts}
use Rattle.rad_config.proofs.NewNames.{none_found, none_at, other_text}

-- ---- clients

abbrev ClientsApart : List ClientEntry → Type 0
ClientsApart clients = AllPairs (λ a b. a.address ≢ b.address) clients

client_is_new : (earlier : List ClientEntry) (doc : Members) (c : ClientEntry) → client_in earlier doc ≡ Ok c → All (λ k. k.address ≢ c.address) earlier
unfolding client_in
client_is_new earlier doc c e =
    let address = bound (address_at (spot part.Client (length earlier) Address) doc) _ c e in
    let fresh = bound (refuse_if (is_some (find (λ k. bytes_eq k.address address.0) earlier)) (DoubleName (spot part.Client (length earlier) Address))) _ c address.2 in
    let secret = bound (secret_at (spot part.Client (length earlier) Secret) doc) _ c fresh.2 in
    let none = none_found (λ (k : ClientEntry). bytes_eq k.address address.0) earlier (not_refused _ _ fresh.0 fresh.1) in
    let same : address.0 ≡ c.address = ap (λ (k : ClientEntry). k.address) (same_ok (record { address = address.0; secret = secret.0 }) c _ refl secret.2) in
    let all = All-from_recursion (λ (k : ClientEntry). bytes_eq k.address address.0 ≡ false) earlier none in
    λ k d lt. subst (λ (a : List ℕ). (get_or earlier k d).address ≢ a) same (other_text (get_or earlier k d).address address.0 (all k d lt))

client_apart : (earlier : List ClientEntry) (doc : Members) (c : ClientEntry) → ClientsApart earlier → client_in earlier doc ≡ Ok c → ClientsApart (earlier ++ c ∷ [])
client_apart earlier doc c apart e = all_pairs_push (λ (a b : ClientEntry). a.address ≢ b.address) earlier c apart (client_is_new earlier doc c e)

clients_are : (doc : Members) (clients : List ClientEntry) → clients_in doc ≡ Ok clients → (1 ≤ length clients) × (length clients ≤ 256) × ClientsApart clients
unfolding clients_in
clients_are doc clients e =
    let tables = bound (array_of part.Client doc) _ clients e in
    let counted = some_counted 256 (spot part.Top 0 Client) doc tables.0 tables.1 in
    let as_many = each_counts client_in [] tables.0 clients tables.2 in
    (omega (arith, counted.0, as_many), omega (arith, counted.1, as_many), each_keeps client_in ClientsApart client_apart [] tables.0 clients (λ i j d before lt. absurd (omega (arith, lt))) tables.2)

-- ---- home servers

record HomesKept (homes : List HomeEntry) : Type 0 where
  apart : AllPairs (λ a b. a.name ≢ b.name) homes
  limits : All (λ h. AreInRange h.limits) homes

no_fault : (index : ℕ) (numbers limits : LimitNumbers) (fault : Option LimitFault) → kept_or_fault index numbers fault ≡ Ok limits → (fault ≡ None) × (numbers ≡ limits)
no_fault index numbers limits None e = (refl, same_ok numbers limits (Ok numbers) refl e)
no_fault index numbers limits (Some fault) e = absurd cc

limits_kept : (index : ℕ) (doc : Members) (limits : LimitNumbers) → limits_at index doc ≡ Ok limits → AreInRange limits
unfolding limits_at
limits_kept index doc limits e =
    let numbers = bound (numbers_at index doc) _ limits e in
    let kept = no_fault index numbers.0 limits (first_fault (limits_of numbers.0)) numbers.2 in
    subst AreInRange kept.1 (in_range numbers.0 kept.0)

record HomeIsNew (earlier : List HomeEntry) (h : HomeEntry) : Type 0 where
  name : All (λ k. k.name ≢ h.name) earlier
  limits : AreInRange h.limits

home_is_new : (earlier : List HomeEntry) (doc : Members) (h : HomeEntry) → home_in earlier doc ≡ Ok h → HomeIsNew earlier h
unfolding home_in
home_is_new earlier doc h e =
    let name = bound (home_name_at (spot part.Home (length earlier) Name) doc) _ h e in
    let fresh = bound (refuse_if (is_some (position (λ k. bytes_eq k.name name.0) earlier)) (DoubleName (spot part.Home (length earlier) Name))) _ h name.2 in
    let endpoint = bound (endpoint_at (spot part.Home (length earlier) Address) doc) _ h fresh.2 in
    let secret = bound (secret_at (spot part.Home (length earlier) Secret) doc) _ h endpoint.2 in
    let limits = bound (limits_at (length earlier) doc) _ h secret.2 in
    let none = none_at (λ (k : HomeEntry). bytes_eq k.name name.0) earlier (not_refused _ _ fresh.0 fresh.1) in
    let all = All-from_recursion (λ (k : HomeEntry). bytes_eq k.name name.0 ≡ false) earlier none in
    let same = same_ok (record { name = name.0; endpoint = endpoint.0; secret = secret.0; limits = limits.0 }) h _ refl limits.2 in
    record {
      name = λ k d lt. subst (λ (a : List ℕ). (get_or earlier k d).name ≢ a) (ap (λ (k : HomeEntry). k.name) same) (other_text (get_or earlier k d).name name.0 (all k d lt));
      limits = subst AreInRange (ap (λ (k : HomeEntry). k.limits) same) (limits_kept (length earlier) doc limits.0 limits.1);
    }

one : {X : Type 0} (P : X → Type 0) (x : X) → P x → All P (x ∷ [])
one P x p = All-cons P x [] p (All-nil P)

home_kept : (earlier : List HomeEntry) (doc : Members) (h : HomeEntry) → HomesKept earlier → home_in earlier doc ≡ Ok h → HomesKept (earlier ++ h ∷ [])
home_kept earlier doc h kept e =
    let fresh = home_is_new earlier doc h e in
    record {
      apart = all_pairs_push (λ (a b : HomeEntry). a.name ≢ b.name) earlier h kept.apart fresh.name;
      limits = All-append (λ (k : HomeEntry). AreInRange k.limits) earlier (h ∷ []) kept.limits (one (λ (k : HomeEntry). AreInRange k.limits) h fresh.limits);
    }

homes_are : (doc : Members) (homes : List HomeEntry) → homes_in doc ≡ Ok homes → (1 ≤ length homes) × (length homes ≤ 64) × HomesKept homes
unfolding homes_in
homes_are doc homes e =
    let tables = bound (array_of part.Home doc) _ homes e in
    let counted = some_counted 64 (spot part.Top 0 Home) doc tables.0 tables.1 in
    let as_many = each_counts home_in [] tables.0 homes tables.2 in
    let none : HomesKept [] = record { apart = λ i j d before lt. absurd (omega (arith, lt)); limits = All-nil _ } in
    (omega (arith, counted.0, as_many), omega (arith, counted.1, as_many), each_keeps home_in HomesKept home_kept [] tables.0 homes none tables.2)

-- ---- realms

record RealmsKept (homes : List HomeEntry) (realms : List RealmEntry) : Type 0 where
  forms : All (λ r. IsRealmName r.name) realms
  apart : AllPairs (λ a b. same_name a.name b.name ≡ false) realms
  lanes : All (λ r. r.lane < length homes) realms

place_within : {X : Type 0} (p : X → Bool) (xs : List X) (i : ℕ) → position p xs ≡ Some i → i < length xs
place_within p [] i e = absurd cc
place_within p (x ∷ xs) i e = (position-Some p (x ∷ xs) i x e).0

lane_within : (homes : List HomeEntry) (s : Spot) (name : List ℕ) (lane : ℕ) → lane_named homes s name ≡ Ok lane → lane < length homes
unfolding lane_named
lane_within homes s name lane e =
    place_within (λ (h : HomeEntry). bytes_eq h.name name) homes lane (known (position (λ (h : HomeEntry). bytes_eq h.name name) homes) (UnknownHome s) lane e)

not_equal : (n m : ℕ) → not (n == m) ≡ true → n ≢ m
not_equal n m e same = absurd (grind (arith, nat_tests, e, same))

no_sign_in : (name : List ℕ) → list_all (λ o. not (o == 64)) name ≡ true → AllByRecursion (λ o. o ≢ 64) name
no_sign_in [] e = tt
no_sign_in (o ∷ os) e =
    let parts = and_parts (not (o == 64)) (list_all (λ o. not (o == 64)) os) e in
    (not_equal o 64 parts.0, no_sign_in os parts.1)

realm_form : (text : List ℕ) → is_realm_name text ≡ true → IsRealmName text
realm_form text e =
    let parts = and_parts (has_length 1 252 text) (list_all (λ o. not (o == 64)) text) e in
    let bounds = and_parts (nat_le 1 (length text)) (nat_le (length text) 252) parts.0 in
    record {
      some = leb-true 1 (length text) bounds.0;
      short = leb-true (length text) 252 bounds.1;
      no_sign = All-from_recursion (λ o. o ≢ 64) text (no_sign_in text parts.1);
    }

realm_name_form : (s : Spot) (doc : Members) (text : List ℕ) → realm_name_at s doc ≡ Ok text → IsRealmName text
unfolding realm_name_at text_that
realm_name_form s doc text e =
    let read = bound (text_at s doc) _ text e in
    let kept = kept_by (is_realm_name read.0) read.0 text (OutOfRange s) read.2 in
    subst IsRealmName kept.1 (realm_form read.0 kept.0)

record RealmIsNew (homes : List HomeEntry) (earlier : List RealmEntry) (r : RealmEntry) : Type 0 where
  form : IsRealmName r.name
  name : All (λ k. same_name k.name r.name ≡ false) earlier
  lane : r.lane < length homes

realm_is_new : (homes : List HomeEntry) (earlier : List RealmEntry) (doc : Members) (r : RealmEntry) → realm_in_table homes earlier doc ≡ Ok r → RealmIsNew homes earlier r
unfolding realm_in_table
realm_is_new homes earlier doc r e =
    let name = bound (realm_name_at (spot part.Realm (length earlier) Name) doc) _ r e in
    let fresh = bound (refuse_if (is_some (find (λ k. same_name k.name name.0) earlier)) (DoubleName (spot part.Realm (length earlier) Name))) _ r name.2 in
    let home = bound (text_at (spot part.Realm (length earlier) Home) doc) _ r fresh.2 in
    let lane = bound (lane_named homes (spot part.Realm (length earlier) Home) home.0) _ r home.2 in
    let none = none_found (λ (k : RealmEntry). same_name k.name name.0) earlier (not_refused _ _ fresh.0 fresh.1) in
    let all = All-from_recursion (λ (k : RealmEntry). same_name k.name name.0 ≡ false) earlier none in
    let same = same_ok (record { name = name.0; lane = lane.0 }) r _ refl lane.2 in
    record {
      form = subst IsRealmName (ap (λ (k : RealmEntry). k.name) same) (realm_name_form _ doc name.0 name.1);
      name = subst (λ (a : List ℕ). All (λ (k : RealmEntry). same_name k.name a ≡ false) earlier) (ap (λ (k : RealmEntry). k.name) same) all;
      lane = subst (λ (n : ℕ). n < length homes) (ap (λ (k : RealmEntry). k.lane) same) (lane_within homes _ home.0 lane.0 lane.1);
    }

realm_kept : (homes : List HomeEntry) (earlier : List RealmEntry) (doc : Members) (r : RealmEntry) → RealmsKept homes earlier → realm_in_table homes earlier doc ≡ Ok r → RealmsKept homes (earlier ++ r ∷ [])
realm_kept homes earlier doc r kept e =
    let fresh = realm_is_new homes earlier doc r e in
    record {
      forms = All-append (λ (k : RealmEntry). IsRealmName k.name) earlier (r ∷ []) kept.forms (one (λ (k : RealmEntry). IsRealmName k.name) r fresh.form);
      apart = all_pairs_push (λ (a b : RealmEntry). same_name a.name b.name ≡ false) earlier r kept.apart fresh.name;
      lanes = All-append (λ (k : RealmEntry). k.lane < length homes) earlier (r ∷ []) kept.lanes (one (λ (k : RealmEntry). k.lane < length homes) r fresh.lane);
    }

realms_are : (homes : List HomeEntry) (doc : Members) (realms : List RealmEntry) → realms_in homes doc ≡ Ok realms → (length realms ≤ 256) × RealmsKept homes realms
unfolding realms_in
realms_are homes doc realms e =
    let tables = bound (array_of part.Realm doc) _ realms e in
    let counted = any_counted 256 (spot part.Top 0 Realm) doc tables.0 tables.1 in
    let as_many = each_counts (realm_in_table homes) [] tables.0 realms tables.2 in
    let none : RealmsKept homes [] = record { forms = All-nil _; apart = λ i j d before lt. absurd (omega (arith, lt)); lanes = All-nil _ } in
    (omega (arith, counted, as_many), each_keeps (realm_in_table homes) (RealmsKept homes) (realm_kept homes) [] tables.0 realms none tables.2)

lane_at_within : (key : Key) (homes : List HomeEntry) (name : Option (List ℕ)) (lane : Option ℕ) → lane_at key homes name ≡ Ok lane → IfSome lane (λ n. n < length homes)
lane_at_within key homes None lane e = subst (λ (o : Option ℕ). IfSome o (λ n. n < length homes)) (same_ok None lane (Ok None) refl e) tt
lane_at_within key homes (Some name) lane e =
    let found = bound (lane_named homes (spot part.Top 0 key) name) _ lane e in
    subst (λ (o : Option ℕ). IfSome o (λ n. n < length homes)) (same_ok (Some found.0) lane (Ok (Some found.0)) refl found.2) (lane_within homes _ name found.0 found.1)

-- ---- the whole

pub record IsReadBy (doc : Members) (c : Configuration) : Type 0 where
  pub default_home : Option (List ℕ)
  pub other_home : Option (List ℕ)
  pub clients : clients_in doc ≡ Ok c.clients
  pub homes : homes_in doc ≡ Ok c.homes
  pub realms : realms_in c.homes doc ≡ Ok c.realms
  pub default_lane : lane_at DefaultHome c.homes default_home ≡ Ok c.default_lane
  pub other_lane : lane_at OtherHome c.homes other_home ≡ Ok c.other_lane

parts_of : (doc : Members) (c : Configuration) → walk doc ≡ Ok c → IsReadBy doc c
unfolding walk
parts_of doc c e =
    let listen = bound (listen_in doc) _ c e in
    let default_home = bound (home_name_in DefaultHome doc) _ c listen.2 in
    let other_home = bound (home_name_in OtherHome doc) _ c default_home.2 in
    let linger = bound (linger_in doc) _ c other_home.2 in
    let clients = bound (clients_in doc) _ c linger.2 in
    let homes = bound (homes_in doc) _ c clients.2 in
    let realms = bound (realms_in homes.0 doc) _ c homes.2 in
    let default_lane = bound (lane_at DefaultHome homes.0 default_home.0) _ c realms.2 in
    let other_lane = bound (lane_at OtherHome homes.0 other_home.0) _ c default_lane.2 in
    subst (IsReadBy doc) (same_ok (record { listen = listen.0; linger = linger.0; clients = clients.0; homes = homes.0; realms = realms.0; default_lane = default_lane.0; other_lane = other_lane.0 }) c _ refl other_lane.2)
    (record { default_home = default_home.0; other_home = other_home.0; clients = clients.1; homes = homes.1; realms = realms.1; default_lane = default_lane.1; other_lane = other_lane.1 })

pub read_well : (doc : Members) (c : Configuration) → IsReadBy doc c → IsWellFormed c
read_well doc c parts =
    let clients = clients_are doc c.clients parts.clients in
    let homes = homes_are doc c.homes parts.homes in
    let realms = realms_are c.homes doc c.realms parts.realms in
    record {
      clients = (clients.0, clients.1);
      addresses = clients.2;
      homes = (homes.0, homes.1);
      home_names = homes.2.apart;
      limits = homes.2.limits;
      realms = realms.0;
      realm_forms = realms.1.forms;
      realm_names = realms.1.apart;
      lanes = realms.1.lanes;
      default_lane = lane_at_within DefaultHome c.homes parts.default_home c.default_lane parts.default_lane;
      other_lane = lane_at_within OtherHome c.homes parts.other_home c.other_lane parts.other_lane;
    }

pub well_formed : (text : List ℕ) (c : Configuration) → configuration_in text ≡ Ok c → IsWellFormed c
unfolding configuration_in
well_formed text c e =
    let doc = bound (ok_or (parse_document text) Toml) _ c e in
    read_well doc.0 c (parts_of doc.0 c doc.2)
