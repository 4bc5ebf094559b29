-- The first of all faults of a document is the one at which the walk stops.
use Rattle.std.proofs.Common.{◌≡◌, ℕ, ◌+◌, Bool, true, false, not, cond, List, [], ◌∷◌, ◌++◌, length, Option, Some, None, is_some, option_and_then, option_to_list, Result, Ok, Err, refl, sym, ap, subst, ◌∙◌, inl, inr, append_assoc, length-append}
use Rattle.std.specs.Prelude.{ok_or, find, position}
use Rattle.std.specs.Result.{result_err}
use Rattle.std.specs.List.{list_any, position_from}
use Rattle.std.specs.Str.{bytes_eq, str_eq_ignore_ascii_case}
use Rattle.std.proofs.lemmas.Bool.{cases_Bool, false≢true}
use Rattle.std.proofs.lemmas.List.{append-nil}
use Rattle.std.proofs.lemmas.List.Folds.{list_any-append}
use Rattle.std.proofs.lemmas.Option.{same_Some}
use Rattle.std.proofs.lemmas.Slice.Eq.{bytes_eq-Decides}
use Rattle.std.proofs.lemmas.Iterator.Adapters.{position_from-zero}
use Rattle.toml.specs.Data.{Data, Members, get_member, as_str}
use Rattle.rad_config.specs.declared.reading.faults.Part.{Part}
use Rattle.rad_config.specs.declared.reading.faults.Part.TheVariants as part
use Rattle.rad_config.specs.declared.reading.faults.Key.{Key}
use Rattle.rad_config.specs.declared.reading.faults.Key.TheVariants.{DefaultHome, OtherHome, Home, Address, Secret, Name}
use Rattle.rad_config.specs.declared.reading.faults.Spot.{Spot}
use Rattle.rad_config.specs.declared.reading.faults.ConfigFault.{ConfigFault}
use Rattle.rad_config.specs.declared.reading.faults.ConfigFault.TheVariants.{Missing, WrongType, OutOfRange, DoubleName, UnknownHome, BadAddress}
use Rattle.rad_config.specs.Address.{address_in}
use Rattle.rad_config.specs.Printed.{address_text}
use Rattle.rad_config.specs.Spot.{key_name}
use Rattle.rad_config.specs.Realm.{or_else, same_name}
use Rattle.rad_config.specs.Configuration.{ClientEntry, HomeEntry, RealmEntry}
use Rattle.rad_config.specs.Walk.{◌>>=◌, refuse_if, spot, needed, text_in, text_at, text_that, address_at, endpoint_at, secret_at, is_home_name, home_name_at, is_realm_name, realm_name_at, text_or_none, optional_text_at, lane_named, limits_at, each, client_in, home_in, realm_in_table, array_of, listen_in, home_name_in, linger_in, clients_in, homes_in, realms_in, lane_at, walk}
use Rattle.rad_config.specs.Faults.{text_of, is_text, is_among, or_if, client_faults, home_faults, is_unknown, realm_faults, table_faults, each_faults, array_faults, tables_or_empty, home_tables, part_faults, top_faults, unknown_faults, faults_in, first_of}
use Rattle.rad_config.proofs.Steps.{same_ok, bound, known, kept_by}
use Rattle.rad_config.proofs.Addresses.{address_only}

-- ---- lists of faults, and one reading behind another

first_joined : (xs ys : List ConfigFault) → first_of (xs ++ ys) ≡ or_else (first_of xs) (first_of ys)
first_joined [] ys = refl
first_joined (x ∷ xs) ys = refl

first_single : (o : Option ConfigFault) → first_of (option_to_list o) ≡ o
first_single None = refl
first_single (Some x) = refl

after : {A B : Type 0} (r : Result A ConfigFault) (f : A → Result B ConfigFault) (rest : Option ConfigFault)
    → ((x : A) → r ≡ Ok x → rest ≡ result_err (f x)) → or_else (result_err r) rest ≡ result_err (r >>= f)
after (Ok x) f rest h = h x refl
after (Err e) f rest h = refl

step : {A B : Type 0} (ys zs : List ConfigFault) (r : Result A ConfigFault) (f : A → Result B ConfigFault) → first_of ys ≡ result_err r
    → ((x : A) → r ≡ Ok x → first_of zs ≡ result_err (f x)) → first_of (ys ++ zs) ≡ result_err (r >>= f)
step ys zs r f e h = first_joined ys zs ∙ ap (λ (o : Option ConfigFault). or_else o (first_of zs)) e ∙ after r f (first_of zs) h

-- behind the last reading there is no other fault
behind_all : {A B : Type 0} (r : Result A ConfigFault) (g : A → B) → result_err r ≡ result_err (r >>= λ x. Ok (g x))
behind_all (Ok x) g = refl
behind_all (Err e) g = refl

one : {A : Type 0} (r : Result A ConfigFault) → first_of (option_to_list (result_err r)) ≡ result_err r
one r = first_single (result_err r)

last : {A B : Type 0} (r : Result A ConfigFault) (g : A → B) → first_of (option_to_list (result_err r)) ≡ result_err (r >>= λ x. Ok (g x))
last r g = first_single (result_err r) ∙ behind_all r g

-- a name that may be there twice, with the rest behind it
twice : {A B : Type 0} (r : Result A ConfigFault) (test : Bool) (b : A → Bool) (f : A → Result B ConfigFault) (fault : ConfigFault) (zs : List ConfigFault)
    → ((x : A) → r ≡ Ok x → (test ≡ b x) × (first_of zs ≡ result_err (f x)))
    → first_of (option_to_list (or_if (result_err r) test fault) ++ zs) ≡ result_err (r >>= λ x. refuse_if (b x) fault >>= λ _. f x)
twice (Ok x) true b f fault zs h = rw (← (h x refl).0) refl
twice (Ok x) false b f fault zs h = rw (← (h x refl).0) ((h x refl).1)
twice (Err e) test b f fault zs h = refl

-- ---- what is found among tables and among entries

found_any : {X : Type 0} (p : X → Bool) (xs : List X) → is_some (find p xs) ≡ list_any p xs
found_any p [] = refl
found_any p (x ∷ xs) =
    elim (cases_Bool (p x)) [
      | inl same ↦ rw same refl
      | inr other ↦ rw other (found_any p xs)
    ]

placed_from : {X : Type 0} (p : X → Bool) (i : ℕ) (xs : List X) → is_some (position_from p i xs) ≡ list_any p xs
placed_from p i [] = refl
placed_from p i (x ∷ xs) =
    elim (cases_Bool (p x)) [
      | inl same ↦ rw same refl
      | inr other ↦ rw other (placed_from p (i + 1) xs)
    ]

placed_any : {X : Type 0} (p : X → Bool) (xs : List X) → is_some (position p xs) ≡ list_any p xs
placed_any p xs = ap (λ (o : Option ℕ). is_some o) (position_from-zero p xs) ∙ placed_from p 0 xs

more_any : {X Y : Type 0} (p : X → Bool) (q : Y → Bool) (xs : List X) (ys : List Y) (x : X) (y : Y) → list_any p xs ≡ list_any q ys → p x ≡ q y
    → list_any p (xs ++ x ∷ []) ≡ list_any q (ys ++ y ∷ [])
more_any p q xs ys x y e here = rw (list_any-append p xs (x ∷ []), list_any-append q ys (y ∷ []), e, here) refl

-- ---- the texts that were read

text_read : (s : Spot) (doc : Members) (text : List ℕ) → text_at s doc ≡ Ok text → text_of s.key doc ≡ Some text
unfolding text_at needed text_in
text_read s doc text e =
    let p = bound (ok_or (get_member (key_name s.key) doc) (Missing s)) (λ value. ok_or (as_str value) (WrongType s)) text e in
    ap (λ (o : Option Data). option_and_then as_str o) (known (get_member (key_name s.key) doc) (Missing s) p.0 p.1)
    ∙ known (as_str p.0) (WrongType s) text p.2

named_read : (test : List ℕ → Bool) (s : Spot) (doc : Members) (name : List ℕ) → text_that test s doc ≡ Ok name → text_of s.key doc ≡ Some name
unfolding text_that
named_read test s doc name e =
    let p = bound (text_at s doc) (λ text. cond (test text) (Ok text) (Err (OutOfRange s))) name e in
    text_read s doc p.0 p.1 ∙ ap (λ (n : List ℕ). Some n) ((kept_by (test p.0) p.0 name (OutOfRange s) p.2).1)

home_name_read : (s : Spot) (doc : Members) (name : List ℕ) → home_name_at s doc ≡ Ok name → text_of s.key doc ≡ Some name
unfolding home_name_at
home_name_read s doc name e = named_read is_home_name s doc name e

realm_name_read : (s : Spot) (doc : Members) (name : List ℕ) → realm_name_at s doc ≡ Ok name → text_of s.key doc ≡ Some name
unfolding realm_name_at
realm_name_read s doc name e = named_read is_realm_name s doc name e

address_text_read : (s : Spot) (doc : Members) (address : List ℕ) → address_at s doc ≡ Ok address → (text : List ℕ) × (text_of s.key doc ≡ Some text) × (address_in text ≡ Some address)
unfolding address_at
address_text_read s doc address e =
    let p = bound (text_at s doc) (λ text. ok_or (address_in text) (BadAddress s)) address e in
    (p.0, text_read s doc p.0 p.1, known (address_in p.0) (BadAddress s) address p.2)

default_read : (s : Spot) (value : Option Data) (name : Option (List ℕ)) → text_or_none s value ≡ Ok name → option_and_then as_str value ≡ name
unfolding text_in
default_read s None name e = same_ok None name (Ok None) refl e
default_read s (Some value) name e =
    let p = bound (ok_or (as_str value) (WrongType s)) (λ text. Ok (Some text)) name e in
    known (as_str value) (WrongType s) p.0 p.1 ∙ same_ok (Some p.0) name (Ok (Some p.0)) refl p.2

optional_read : (s : Spot) (doc : Members) (name : Option (List ℕ)) → optional_text_at s doc ≡ Ok name → text_of s.key doc ≡ name
unfolding optional_text_at
optional_read s doc name e = default_read s (get_member (key_name s.key) doc) name e

-- ---- tables, each in turn

module _ {X : Type 0} (read : List X → Members → Result X ConfigFault) (p : Part) (homes : List Members) (K : List X → List Members → Type 0)
    (first : (es : List X) (ts : List Members) (t : Members) → K es ts → first_of (table_faults p homes (length es) ts t) ≡ result_err (read es t))
    (keeps : (es : List X) (ts : List Members) (t : Members) (x : X) → K es ts → read es t ≡ Ok x → K (es ++ x ∷ []) (ts ++ t ∷ [])) where
  each_first : (es : List X) (earlier ts : List Members) → K es earlier → first_of (each_faults p homes (length es) earlier ts) ≡ result_err (each read es ts)
  unfolding each each_faults
  each_first es earlier [] k = refl
  each_first es earlier (t ∷ ts) k =
      step (table_faults p homes (length es) earlier t) (each_faults p homes (length es + 1) (earlier ++ t ∷ []) ts) (read es t) (λ x. each read (es ++ x ∷ []) ts) (first es earlier t k)
      (λ x e.
      let rest = each_first (es ++ x ∷ []) (earlier ++ t ∷ []) ts (keeps es earlier t x k e) in
      subst (λ (n : ℕ). first_of (each_faults p homes n (earlier ++ t ∷ []) ts) ≡ result_err (each read (es ++ x ∷ []) ts)) (length-append es (x ∷ [])) rest)

  all_known : (es : List X) (earlier ts : List Members) (ys : List X) → K es earlier → each read es ts ≡ Ok ys → K ys (earlier ++ ts)
  unfolding each
  all_known es earlier [] ys k e = rw (append-nil earlier, ← same_ok es ys (Ok es) refl e) k
  all_known es earlier (t ∷ ts) ys k e =
      let b = bound (read es t) (λ x. each read (es ++ x ∷ []) ts) ys e in
      subst (λ (us : List Members). K ys us) (append_assoc earlier (t ∷ []) ts)
      (all_known (es ++ b.0 ∷ []) (earlier ++ t ∷ []) ts ys (keeps es earlier t b.0 k b.1) b.2)

  array_first : (r : Result (List Members) ConfigFault) → K [] [] → first_of (array_faults p homes r) ≡ result_err (r >>= each read [])
  array_first (Ok ts) k = each_first [] [] ts k
  array_first (Err fault) k = refl

-- ---- clients

abbrev KnowsClients : List ClientEntry → List Members → Type 0
KnowsClients es ts = (text address : List ℕ) → address_in text ≡ Some address → is_among part.Client ts Address text ≡ list_any (λ c. bytes_eq c.address address) es

same_address : (text other a b : List ℕ) → address_in text ≡ Some a → address_in other ≡ Some b → bytes_eq text other ≡ bytes_eq a b
same_address text other a b is_a is_b =
    elim (cases_Bool (bytes_eq text other)) [
      | inl same ↦
          let texts = (bytes_eq-Decides text other).0 same in
          let ab : a ≡ b = same_Some a b (sym is_a ∙ ap address_in texts ∙ is_b) in
          same ∙ sym ((bytes_eq-Decides a b).1 ab)
      | inr apart ↦
          apart ∙ sym (elim (cases_Bool (bytes_eq a b)) [
            | inl same ↦
                let texts : text ≡ other = (address_only a text is_a).0 ∙ ap address_text ((bytes_eq-Decides a b).0 same) ∙ sym ((address_only b other is_b).0) in
                absurd (false≢true (sym apart ∙ (bytes_eq-Decides text other).1 texts))
            | inr differ ↦ differ
          ])
    ]

client_first : (homes : List Members) (es : List ClientEntry) (ts : List Members) (t : Members) → KnowsClients es ts → first_of (table_faults part.Client homes (length es) ts t) ≡ result_err (client_in es t)
unfolding client_faults client_in
client_first homes es ts t k =
    let s = spot part.Client (length es) Address in
    let secret = secret_at (spot part.Client (length es) Secret) t in
    twice (address_at s t) (is_text (is_among part.Client ts Address) (text_of Address t)) (λ a. is_some (find (λ c. bytes_eq c.address a) es)) (λ a. secret >>= λ x. Ok (record { address = a; secret = x })) (DoubleName s)
    (option_to_list (result_err secret))
    (λ a e.
    let r = address_text_read s t a e in
    (rw r.1 (k r.0 a r.2 ∙ sym (found_any (λ c. bytes_eq c.address a) es)), last secret (λ x. record { address = a; secret = x })))

client_address : (es : List ClientEntry) (t : Members) (x : ClientEntry) → client_in es t ≡ Ok x → address_at (spot part.Client (length es) Address) t ≡ Ok x.address
unfolding client_in
client_address es t x e =
    let s = spot part.Client (length es) Address in
    let a = bound (address_at s t) _ x e in
    let u = bound (refuse_if (is_some (find (λ c. bytes_eq c.address a.0) es)) (DoubleName s)) _ x a.2 in
    let w = bound (secret_at (spot part.Client (length es) Secret) t) _ x u.2 in
    a.1 ∙ ap (λ (c : ClientEntry). Ok c.address) (same_ok (record { address = a.0; secret = w.0 }) x (Ok (record { address = a.0; secret = w.0 })) refl w.2)

client_keeps : (es : List ClientEntry) (ts : List Members) (t : Members) (x : ClientEntry) → KnowsClients es ts → client_in es t ≡ Ok x → KnowsClients (es ++ x ∷ []) (ts ++ t ∷ [])
client_keeps es ts t x k e text address is =
    let r = address_text_read (spot part.Client (length es) Address) t x.address (client_address es t x e) in
    let here : is_text (λ other. bytes_eq other text) (text_of Address t) ≡ bytes_eq x.address address = rw r.1 (same_address r.0 text x.address address r.2 is) in
    more_any (λ u. is_text (λ other. bytes_eq other text) (text_of Address u)) (λ c. bytes_eq c.address address) ts es t x (k text address is) here

-- ---- home servers

abbrev KnowsHomes : List HomeEntry → List Members → Type 0
KnowsHomes es ts = (text : List ℕ) → is_among part.Home ts Name text ≡ list_any (λ h. bytes_eq h.name text) es

home_first : (homes : List Members) (es : List HomeEntry) (ts : List Members) (t : Members) → KnowsHomes es ts → first_of (table_faults part.Home homes (length es) ts t) ≡ result_err (home_in es t)
unfolding home_faults home_in
home_first homes es ts t k =
    let s = spot part.Home (length es) Name in
    let endpoint = endpoint_at (spot part.Home (length es) Address) t in
    let secret = secret_at (spot part.Home (length es) Secret) t in
    let limits = limits_at (length es) t in
    let limits_list = option_to_list (result_err limits) in
    let secret_list = option_to_list (result_err secret) in
    twice (home_name_at s t) (is_text (is_among part.Home ts Name) (text_of Name t)) (λ n. is_some (position (λ h. bytes_eq h.name n) es))
    (λ n. endpoint >>= λ a. secret >>= λ x. limits >>= λ l. Ok (record { name = n; endpoint = a; secret = x; limits = l })) (DoubleName s)
    (option_to_list (result_err endpoint) ++ (secret_list ++ limits_list))
    (λ n e. (
      rw (home_name_read s t n e) (k n ∙ sym (placed_any (λ h. bytes_eq h.name n) es)),
      step (option_to_list (result_err endpoint)) (secret_list ++ limits_list) endpoint (λ a. secret >>= λ x. limits >>= λ l. Ok (record { name = n; endpoint = a; secret = x; limits = l })) (one endpoint)
          (λ a _. step secret_list limits_list secret (λ x. limits >>= λ l. Ok (record { name = n; endpoint = a; secret = x; limits = l })) (one secret)
          (λ x _. last limits (λ l. record { name = n; endpoint = a; secret = x; limits = l }))),
    ))

home_name : (es : List HomeEntry) (t : Members) (x : HomeEntry) → home_in es t ≡ Ok x → home_name_at (spot part.Home (length es) Name) t ≡ Ok x.name
unfolding home_in
home_name es t x e =
    let s = spot part.Home (length es) Name in
    let n = bound (home_name_at s t) _ x e in
    let u = bound (refuse_if (is_some (position (λ h. bytes_eq h.name n.0) es)) (DoubleName s)) _ x n.2 in
    let a = bound (endpoint_at (spot part.Home (length es) Address) t) _ x u.2 in
    let w = bound (secret_at (spot part.Home (length es) Secret) t) _ x a.2 in
    let l = bound (limits_at (length es) t) _ x w.2 in
    n.1 ∙ ap (λ (h : HomeEntry). Ok h.name) (same_ok (record { name = n.0; endpoint = a.0; secret = w.0; limits = l.0 }) x (Ok (record { name = n.0; endpoint = a.0; secret = w.0; limits = l.0 })) refl l.2)

home_keeps : (es : List HomeEntry) (ts : List Members) (t : Members) (x : HomeEntry) → KnowsHomes es ts → home_in es t ≡ Ok x → KnowsHomes (es ++ x ∷ []) (ts ++ t ∷ [])
home_keeps es ts t x k e text =
    let read = home_name_read (spot part.Home (length es) Name) t x.name (home_name es t x e) in
    let here : is_text (λ other. bytes_eq other text) (text_of Name t) ≡ bytes_eq x.name text = rw read refl in
    more_any (λ u. is_text (λ other. bytes_eq other text) (text_of Name u)) (λ h. bytes_eq h.name text) ts es t x (k text) here

-- ---- realms

abbrev KnowsRealms : List RealmEntry → List Members → Type 0
KnowsRealms es ts = (text : List ℕ) → is_among part.Realm ts Name text ≡ list_any (λ r. same_name r.name text) es

unknown_first : {B : Type 0} (o : Option ℕ) (test : Bool) (fault : ConfigFault) (g : ℕ → B) → test ≡ not (is_some o)
    → first_of (option_to_list (or_if None test fault)) ≡ result_err (ok_or o fault >>= λ lane. Ok (g lane))
unknown_first None test fault g e = rw e refl
unknown_first (Some lane) test fault g e = rw e refl

module _ (servers : List HomeEntry) (homes : List Members) (known_homes : KnowsHomes servers homes) where
  is_known : (name : List ℕ) → not (is_among part.Home homes Name name) ≡ not (is_some (position (λ h. bytes_eq h.name name) servers))
  is_known name = ap not (known_homes name ∙ sym (placed_any (λ h. bytes_eq h.name name) servers))

  reference_first : {B : Type 0} (s : Spot) (read : Result (List ℕ) ConfigFault) (text : Option (List ℕ)) (g : ℕ → B) → ((name : List ℕ) → read ≡ Ok name → text ≡ Some name)
      → first_of (option_to_list (or_if (result_err read) (is_unknown homes text) (UnknownHome s))) ≡ result_err (read >>= λ name. lane_named servers s name >>= λ lane. Ok (g lane))
  unfolding lane_named
  reference_first s (Ok name) text g h = rw (h name refl) (unknown_first (position (λ x. bytes_eq x.name name) servers) (not (is_among part.Home homes Name name)) (UnknownHome s) g (is_known name))
  reference_first s (Err fault) text g h = refl

  realm_first : (es : List RealmEntry) (ts : List Members) (t : Members) → KnowsRealms es ts → first_of (table_faults part.Realm homes (length es) ts t) ≡ result_err (realm_in_table servers es t)
  unfolding realm_faults realm_in_table
  realm_first es ts t k =
      let s = spot part.Realm (length es) Name in
      let s2 = spot part.Realm (length es) Home in
      twice (realm_name_at s t) (is_text (is_among part.Realm ts Name) (text_of Name t)) (λ n. is_some (find (λ r. same_name r.name n) es))
      (λ n. text_at s2 t >>= λ home. lane_named servers s2 home >>= λ lane. Ok (record { name = n; lane = lane })) (DoubleName s)
      (option_to_list (or_if (result_err (text_at s2 t)) (is_unknown homes (text_of Home t)) (UnknownHome s2)))
      (λ n e. (
        rw (realm_name_read s t n e) (k n ∙ sym (found_any (λ r. same_name r.name n) es)),
        reference_first s2 (text_at s2 t) (text_of Home t) (λ lane. record { name = n; lane = lane }) (text_read s2 t),
      ))

  realm_name : (es : List RealmEntry) (t : Members) (x : RealmEntry) → realm_in_table servers es t ≡ Ok x → realm_name_at (spot part.Realm (length es) Name) t ≡ Ok x.name
  unfolding realm_in_table
  realm_name es t x e =
      let s = spot part.Realm (length es) Name in
      let s2 = spot part.Realm (length es) Home in
      let n = bound (realm_name_at s t) _ x e in
      let u = bound (refuse_if (is_some (find (λ r. same_name r.name n.0) es)) (DoubleName s)) _ x n.2 in
      let h = bound (text_at s2 t) _ x u.2 in
      let l = bound (lane_named servers s2 h.0) _ x h.2 in
      n.1 ∙ ap (λ (r : RealmEntry). Ok r.name) (same_ok (record { name = n.0; lane = l.0 }) x (Ok (record { name = n.0; lane = l.0 })) refl l.2)

  realm_keeps : (es : List RealmEntry) (ts : List Members) (t : Members) (x : RealmEntry) → KnowsRealms es ts → realm_in_table servers es t ≡ Ok x → KnowsRealms (es ++ x ∷ []) (ts ++ t ∷ [])
  realm_keeps es ts t x k e text =
      let read = realm_name_read (spot part.Realm (length es) Name) t x.name (realm_name es t x e) in
      let here : is_text (λ other. str_eq_ignore_ascii_case other text) (text_of Name t) ≡ same_name x.name text = rw read refl in
      more_any (λ u. is_text (λ other. str_eq_ignore_ascii_case other text) (text_of Name u)) (λ r. same_name r.name text) ts es t x (k text) here

  -- ---- the home servers that are named at the top

  lane_first : (key : Key) (name : Option (List ℕ))
      → first_of (option_to_list (or_if None (is_unknown homes name) (UnknownHome (spot part.Top 0 key)))) ≡ result_err (lane_at key servers name)
  unfolding lane_named
  lane_first key None = refl
  lane_first key (Some name) =
      unknown_first (position (λ h. bytes_eq h.name name) servers) (not (is_among part.Home homes Name name)) (UnknownHome (spot part.Top 0 key)) (λ lane. Some lane) (is_known name)

-- ---- the whole

homes_are_known : (doc : Members) (servers : List HomeEntry) → homes_in doc ≡ Ok servers → KnowsHomes servers (home_tables doc)
unfolding homes_in
homes_are_known doc servers e =
    let b = bound (array_of part.Home doc) (each home_in []) servers e in
    let tables : home_tables doc ≡ b.0 = ap tables_or_empty b.1 in
    rw tables (all_known home_in part.Home [] KnowsHomes (home_first []) home_keeps [] [] b.0 servers (λ text. refl) b.2)

pub first_of_document : (doc : Members) → first_of (faults_in doc) ≡ result_err (walk doc)
unfolding faults_in top_faults part_faults unknown_faults clients_in homes_in realms_in walk
first_of_document doc =
    let homes = home_tables doc in
    let listen = listen_in doc in
    let default = home_name_in DefaultHome doc in
    let other = home_name_in OtherHome doc in
    let linger = linger_in doc in
    let a = option_to_list (result_err listen) in
    let b = option_to_list (result_err default) in
    let o = option_to_list (result_err other) in
    let c = option_to_list (result_err linger) in
    let cs = array_faults part.Client homes (array_of part.Client doc) in
    let hs = array_faults part.Home homes (array_of part.Home doc) in
    let rs = array_faults part.Realm homes (array_of part.Realm doc) in
    let ends = unknown_faults DefaultHome doc ++ unknown_faults OtherHome doc in
    let rest = cs ++ (hs ++ (rs ++ ends)) in
    ap first_of (append_assoc a (b ++ (o ++ c)) rest ∙ ap (λ (fs : List ConfigFault). a ++ fs) (append_assoc b (o ++ c) rest ∙ ap (λ (fs : List ConfigFault). b ++ fs) (append_assoc o c rest)))
    ∙ step a (b ++ (o ++ (c ++ rest))) listen _ (one listen) (λ l _.
    step b (o ++ (c ++ rest)) default _ (one default) (λ d is_default.
    step o (c ++ rest) other _ (one other) (λ t is_other.
    step c rest linger _ (one linger) (λ n _.
    step cs (hs ++ (rs ++ ends)) (clients_in doc) _ (array_first client_in part.Client homes KnowsClients (client_first homes) client_keeps (array_of part.Client doc) (λ text address is. refl)) (λ clients _.
    step hs (rs ++ ends) (homes_in doc) _ (array_first home_in part.Home homes KnowsHomes (home_first homes) home_keeps (array_of part.Home doc) (λ text. refl)) (λ servers are.
    let known_homes = homes_are_known doc servers are in
    step rs ends (realms_in servers doc) _ (array_first (realm_in_table servers) part.Realm homes KnowsRealms (realm_first servers homes known_homes) (realm_keeps servers homes known_homes) (array_of part.Realm doc) (λ text. refl)) (λ realms _.
    rw (optional_read (spot part.Top 0 DefaultHome) doc d is_default, optional_read (spot part.Top 0 OtherHome) doc t is_other)
    (step (option_to_list (or_if None (is_unknown homes d) (UnknownHome (spot part.Top 0 DefaultHome)))) (option_to_list (or_if None (is_unknown homes t) (UnknownHome (spot part.Top 0 OtherHome)))) (lane_at DefaultHome servers d) _ (lane_first servers homes known_homes DefaultHome d) (λ lane _.
    lane_first servers homes known_homes OtherHome t ∙ behind_all (lane_at OtherHome servers t) (λ (more : Option ℕ). record { listen = l; linger = n; clients = clients; homes = servers; realms = realms; default_lane = lane; other_lane = more }))))))))))
