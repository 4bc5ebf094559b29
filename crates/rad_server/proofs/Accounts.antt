-- What becomes of datagrams, one step after the other.
use Rattle.std.specs.Prelude.{◌≡◌, ◌≢◌, ℕ, ◌+◌, ◌<◌, ◌==◌, Bool, true, false, List, [], ◌∷◌, ◌++◌, length, map, Option, Some, None, IfSome, if◌then◌else◌, option_to_list}
use Rattle.std.specs.List.{filter_map}
use Rattle.std.proofs.Common.{refl, sym, ap, subst, ◌∙◌, ⊎_elim, inl, inr, append_assoc, get_or, take}
use Rattle.std.proofs.lemmas.List.{append-nil, map-append, take_more}
use Rattle.std.proofs.lemmas.List.Elements.{All-cons, All-nil, filter-append, filter_map-append}
use Rattle.rad_desk.specs.Traffic.{Event, departed}
use Rattle.rad_desk.specs.declared.wire.Delivery.{Delivery}
use Rattle.rad_desk.specs.declared.wire.Delivery.TheVariants.{Sent, Fault}
use Rattle.rad_config.specs.declared.reading.address.Endpoint.{Endpoint}
use Rattle.rad_server.specs.internal.Accounts.{AreInOrder, GoesOn, came_if}
use Rattle.rad_server.specs.internal.Keeping.{IsFirst, KeepsOrder, departure_of, for_client, is_for, sent_departure}
use Rattle.rad_server.specs.internal.Taken.{Datagram, Departure, HaveTaken, SameTook, Sends, at_socket, from_socket, given, given_in, plain, taken, taken_in, took_after, took_at, with_one}
use Rattle.rad_server.specs.declared.sockets.datagram_socket.Handed.{Handed}
use Rattle.rad_server.specs.declared.sockets.datagram_socket.Handed.TheVariants.{Accepted, Full, Refused}
use Rattle.rad_server.specs.declared.sending.outbox.Sent.{Sent as Sending}
use Rattle.rad_server.specs.declared.sending.outbox.Waiting.{Waiting}
use Rattle.rad_server.specs.declared.sockets.ready_socket.ReadySocket.{ReadySocket}
use Rattle.rad_server.proofs.Keeping.{for_other, one_empty, same_or_not}

-- A datagram more, on a list.
pub given_one : (events : List Event) (socket : ℕ) (to : Endpoint) (octets : List ℕ) (delivery : Delivery)
    → given (events ++ departed socket to octets delivery ∷ []) ≡ given events ++ record { socket = socket; to = to; octets = octets } ∷ []
given_one events socket to octets delivery = filter_map-append given_in events (departed socket to octets delivery ∷ [])

pub taken_one : (events : List Event) (socket : ℕ) (to : Endpoint) (octets : List ℕ) (delivery : Delivery)
    → taken (events ++ departed socket to octets delivery ∷ []) ≡ taken events ++ came_if delivery (record { socket = socket; to = to; octets = octets })
taken_one events socket to octets Sent = filter_map-append taken_in events (departed socket to octets Sent ∷ [])
taken_one events socket to octets Fault = filter_map-append taken_in events (departed socket to octets Fault ∷ [])

pub taken_not : (events : List Event) (socket : ℕ) (to : Endpoint) (octets : List ℕ) → taken (events ++ departed socket to octets Fault ∷ []) ≡ taken events
taken_not events socket to octets = taken_one events socket to octets Fault ∙ append-nil (taken events)

-- Nothing happens.
pub goes_none : (gone kept : List Departure) → GoesOn gone kept [] gone kept
goes_none gone kept client = append-nil (for_client client gone ++ for_client client kept)

-- What came first, and then more goes on.
pub goes_then : (g0 k0 came g1 k1 g2 k2 : List Departure) → GoesOn g0 k0 came g1 k1 → GoesOn g1 k1 [] g2 k2 → GoesOn g0 k0 came g2 k2
goes_then g0 k0 came g1 k1 g2 k2 first next client =
    first client ∙ (sym (append-nil (for_client client g1 ++ for_client client k1)) ∙ next client)

-- One thing changes, then something came.
pub then_goes : (g0 k0 came g1 k1 g2 k2 : List Departure) → GoesOn g0 k0 [] g1 k1 → GoesOn g1 k1 came g2 k2 → GoesOn g0 k0 came g2 k2
then_goes g0 k0 came g1 k1 g2 k2 first next client =
    ap (λ l. l ++ for_client client came) (sym (append-nil (for_client client g0 ++ for_client client k0)) ∙ first client) ∙ next client

-- What is kept changes, and what is gone by that.
pub goes_by : (g0 g1 k0 came gone k1 : List Departure) → g1 ≡ g0 ++ gone → KeepsOrder k0 came gone k1 → GoesOn g0 k0 came g1 k1
goes_by g0 g1 k0 came gone k1 more order client =
    append_assoc (for_client client g0) (for_client client k0) (for_client client came)
    ∙ (ap (λ l. for_client client g0 ++ l) (order client)
    ∙ (sym (append_assoc (for_client client g0) (for_client client gone) (for_client client k1))
    ∙ ap (λ l. l ++ for_client client k1) (sym (ap (for_client client) more ∙ filter-append (is_for client) g0 gone))))

-- Where nothing is kept for its client, a datagram goes at once.
pub goes_at_once : (g0 g1 kept : List Departure) (d : Departure) → g1 ≡ g0 ++ d ∷ [] → for_client d.to.address kept ≡ [] → GoesOn g0 kept (d ∷ []) g1 kept
goes_at_once g0 g1 kept d more none =
    goes_by g0 g1 kept (d ∷ []) (d ∷ []) kept more (λ client. one_empty (for_client client kept) (for_client client (d ∷ []))
    (⊎_elim (λ same. inl (subst (λ x. for_client x kept ≡ []) same none))
    (λ other. inr (for_other d.to.address client (d ∷ []) other (All-cons (λ e. e.to.address ≡ d.to.address) d [] refl (All-nil (λ e. e.to.address ≡ d.to.address)))))
    (same_or_not d.to.address client)))

-- In order, so far.
pub order_then : (on on' came gone kept gone' kept' : List Departure) → on' ≡ on ++ came → GoesOn gone kept came gone' kept' → AreInOrder on gone kept → AreInOrder on' gone' kept'
order_then on on' came gone kept gone' kept' more goes order client =
    ap (for_client client) more ∙ (filter-append (is_for client) on came ∙ (ap (λ l. l ++ for_client client came) (order client) ∙ goes client))

pub order_kept : (on gone kept gone' kept' : List Departure) → GoesOn gone kept [] gone' kept' → AreInOrder on gone kept → AreInOrder on gone' kept'
order_kept on gone kept gone' kept' goes order = order_then on on [] gone kept gone' kept' (sym (append-nil on)) goes order

-- The list of a socket.
list_after : (b : Bool) (before after : Option (List Datagram)) (gone gone' : List Datagram) (d : Datagram)
    → after ≡ (if b then with_one before d else before) → gone' ≡ gone ++ option_to_list (if b then Some d else None)
    → IfSome before (λ l. l ≡ gone) → IfSome after (λ l. l ≡ gone')
list_after true None after gone gone' d is more had = subst (λ o. IfSome o (λ l. l ≡ gone')) (sym is) tt
list_after true (Some list) after gone gone' d is more had = subst (λ o. IfSome o (λ l. l ≡ gone')) (sym is) (ap (λ l. l ++ d ∷ []) had ∙ sym more)
list_after false None after gone gone' d is more had = subst (λ o. IfSome o (λ l. l ≡ gone')) (sym is) tt
list_after false (Some list) after gone gone' d is more had = subst (λ o. IfSome o (λ l. l ≡ gone')) (sym is) (had ∙ (sym (append-nil gone) ∙ sym more))

one_from : (b : Bool) (d : Datagram) (e : Departure) → filter_map (λ (f : Departure). if b then Some d else None) (e ∷ []) ≡ option_to_list (if b then Some d else None)
one_from true d e = refl
one_from false d e = refl

at_more : (place : ℕ) (g g' : List Departure) (d : Departure) → g' ≡ g ++ d ∷ []
    → from_socket place g' ≡ from_socket place g ++ option_to_list (at_socket place d)
at_more place g g' d more =
    ap (from_socket place) more ∙ (filter_map-append (at_socket place) g (d ∷ []) ∙ ap (λ l. from_socket place g ++ l) (one_from (place == d.socket) (record { to = d.to; octets = d.octets }) d))

pub taken_more : {S : Type 0} (took : S → Option (List Datagram)) (old new : List (ReadySocket S)) (d : Departure) (handed : Handed) (g g' : List Departure)
    → Sends took old new d.socket d.to d.octets handed → handed ≡ Accepted → g' ≡ g ++ d ∷ [] → HaveTaken took old g → HaveTaken took new g'
taken_more took old new d handed g g' sends accepted more had place =
    list_after (place == d.socket) (took_at took old place) (took_at took new place) (from_socket place g) (from_socket place g') (record { to = d.to; octets = d.octets })
    (subst (λ h. took_at took new place ≡ (if place == d.socket then took_after (took_at took old place) d.to d.octets h else took_at took old place)) accepted (sends place))
    (at_more place g g' d more) (had place)

not_taken : {X : Type 0} (b : Bool) (one other : X) → one ≡ other → (if b then one else other) ≡ other
not_taken true one other same = same
not_taken false one other same = refl

untaken : (before : Option (List Datagram)) (to : Endpoint) (octets : List ℕ) (handed : Handed) → handed ≢ Accepted → took_after before to octets handed ≡ before
untaken before to octets Accepted other = absurd (other refl)
untaken before to octets Full other = refl
untaken before to octets Refused other = refl

pub taken_same : {S : Type 0} (took : S → Option (List Datagram)) (old new : List (ReadySocket S)) (g g' : List Departure) → SameTook took old new → g' ≡ g → HaveTaken took old g → HaveTaken took new g'
taken_same took old new g g' same is had place =
    subst (λ l. IfSome (took_at took new place) (λ datagrams. datagrams ≡ from_socket place l)) (sym is) (subst (λ o. IfSome o (λ datagrams. datagrams ≡ from_socket place g)) (sym (same place)) (had place))

pub taken_none : {S : Type 0} (took : S → Option (List Datagram)) (old new : List (ReadySocket S)) (d : Departure) (handed : Handed) (g g' : List Departure)
    → Sends took old new d.socket d.to d.octets handed → handed ≢ Accepted → g' ≡ g → HaveTaken took old g → HaveTaken took new g'
taken_none took old new d handed g g' sends other is had =
    taken_same took old new g g' (λ place. sends place ∙ not_taken (place == d.socket) _ (took_at took old place) (untaken (took_at took old place) d.to d.octets handed other)) is had

-- All that waited is handed over.
pub over_all : (sent waiting box g0 g1 g2 g3 : List Departure) → sent ≡ g0 ++ waiting → g1 ≡ g0 → g2 ≡ g1 ++ waiting → g3 ≡ g2 → box ≡ [] → sent ≡ g3 ++ box
over_all sent waiting box g0 g1 g2 g3 all first each last none =
    all ∙ (ap (λ l. l ++ waiting) (sym first) ∙ (sym each ∙ (sym last ∙ (sym (append-nil g3) ∙ ap (λ l. g3 ++ l) (sym none)))))

pub order_same : (on on' gone kept gone' kept' : List Departure) → on' ≡ on → GoesOn gone kept [] gone' kept' → AreInOrder on gone kept → AreInOrder on' gone' kept'
order_same on on' gone kept gone' kept' same goes order = order_then on on' [] gone kept gone' kept' (same ∙ sym (append-nil on)) goes order

-- The first one of a queue is the one that was taken.
pub first_same : (o : Option Waiting) (w : Waiting) (s : Sending) → IsFirst o s → Some w ≡ o → sent_departure s ≡ departure_of w
first_same o w s first same = (subst (λ p. IsFirst p s) (sym same) first).departure

-- One more of a list is handed over.
pub handed_more : (all : List Waiting) (i : ℕ) (w : Waiting) (sent : Departure) (was now before after : List Departure)
    → i < length all → w ≡ get_or all i w → sent ≡ departure_of w → before ≡ was ++ map departure_of (take i all) → now ≡ before → after ≡ now ++ sent ∷ []
    → after ≡ was ++ map departure_of (take (i + 1) all)
handed_more all i w sent was now before after below at same so_far here more =
    let rest = map departure_of (take i all) in
    let next : map departure_of (take (i + 1) all) ≡ rest ++ sent ∷ [] =
    ap (map departure_of) (take_more all i w below) ∙ (map-append departure_of (take i all) (get_or all i w ∷ []) ∙ ap (λ d. rest ++ d ∷ []) (ap departure_of (sym at) ∙ sym same)) in
    more ∙ (ap (λ l. l ++ sent ∷ []) (here ∙ so_far) ∙ (append_assoc was rest (sent ∷ []) ∙ ap (λ l. was ++ l) (sym next)))

-- One more is handed over at once, or waits.
pub over_one : (before box g0 g1 g2 : List Departure) (d : Departure) → before ≡ g0 ++ box → box ≡ [] → g1 ≡ g0 → g2 ≡ g1 ++ d ∷ [] → before ++ d ∷ [] ≡ g2 ++ box
over_one before box g0 g1 g2 d all none same more =
    ap (λ l. l ++ d ∷ []) (all ∙ (ap (λ l. g0 ++ l) none ∙ (append-nil g0 ∙ sym same)))
    ∙ (sym more ∙ (sym (append-nil g2) ∙ ap (λ l. g2 ++ l) (sym none)))

pub waits_one : (before g box box' : List Departure) (d : Departure) → before ≡ g ++ box → box' ≡ box ++ d ∷ [] → before ++ d ∷ [] ≡ g ++ box'
waits_one before g box box' d all more = ap (λ l. l ++ d ∷ []) all ∙ (append_assoc g box (d ∷ []) ∙ ap (λ l. g ++ l) (sym more))

-- What else passes over a wire takes nothing on.
pub taken_beside : (events : List Event) (event : Event) → taken (event ∷ []) ≡ [] → taken (events ++ event ∷ []) ≡ taken events
taken_beside events event none = filter_map-append taken_in events (event ∷ []) ∙ (ap (λ l. taken events ++ l) none ∙ append-nil (taken events))

-- One more passes over a wire, and leaves from sockets.
pub plain_more : (on on' off off' : List Departure) (delivery : Delivery) (one other : Departure)
    → on' ≡ on ++ came_if delivery one → off' ≡ off ++ came_if delivery other → plain one ≡ plain other → map plain on ≡ map plain off → map plain on' ≡ map plain off'
plain_more on on' off off' Sent one other more more' alike same =
    ap (map plain) more ∙ (map-append plain on (one ∷ []) ∙ (ap (λ l. l ++ plain one ∷ []) same ∙ (ap (λ d. map plain off ++ d ∷ []) alike
    ∙ (sym (map-append plain off (other ∷ [])) ∙ ap (map plain) (sym more')))))
plain_more on on' off off' Fault one other more more' alike same =
    ap (map plain) (more ∙ append-nil on) ∙ (same ∙ ap (map plain) (sym (more' ∙ append-nil off)))

pub same_more : (on on' off off' : List Departure) (delivery : Delivery) (one other : Departure)
    → on' ≡ on ++ came_if delivery one → off' ≡ off ++ came_if delivery other → one ≡ other → on ≡ off → on' ≡ off'
same_more on on' off off' delivery one other more more' alike same =
    more ∙ (ap (λ l. l ++ came_if delivery one) same ∙ (ap (λ d. off ++ came_if delivery d) alike ∙ sym more'))
