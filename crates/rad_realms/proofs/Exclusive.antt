-- No datagram is dropped for two reasons, and none that is taken is dropped.
use Rattle.std.proofs.Common.{◌≡◌, ℕ, List, Option, Some, None, refl, sym, ap, subst, ◌∙◌, ◌⊎◌, inl, inr, arith}
use Rattle.rad_packet.specs.Packet.{code_of}
use Rattle.rad_packet.specs.Reading.{Refuses}
use Rattle.rad_packet.specs.declared.faults.ReadFault.{ReadFault}
use Rattle.rad_packet.proofs.Exclusive.{read_or_refused, one_fault}
use Rattle.rad_packet.proofs.OneReading.{one_packet}
use Rattle.rad_realms.specs.declared.checking.Dropped.{Dropped}
use Rattle.rad_realms.specs.declared.checking.Dropped.TheVariants.{UnknownClient, Unread, WrongCode, BadAuthenticator, BadMessageAuthenticator, MessageAuthenticatorHere, NoRealm}
use Rattle.rad_config.specs.Configuration.{ClientEntry, Configuration}
use Rattle.rad_auth.specs.Status.{IsRightStatus}
use Rattle.rad_realms.specs.declared.checking.Incoming.{Incoming}
use Rattle.rad_realms.specs.declared.checking.Incoming.TheVariants as incoming
use Rattle.rad_config.specs.Realm.{client_of, lane_of_packet}
use Rattle.rad_realms.specs.Checking.{IsRequest, DropsPacket, DropsArrived, Drops}
use Rattle.rad_realms.specs.Incoming.{TakesPacket, Takes}

two_codes : (n : ℕ) → n ≡ 4 → n ≡ 12 → ⊥
two_codes n a b = absurd (omega arith)

-- one packet is dropped for one reason
one_reason : (config : Configuration) (secret text : List ℕ) (e f : Dropped) → DropsPacket config secret text e → DropsPacket config secret text f → e ≡ f
one_reason config secret text WrongCode WrongCode d h = refl
one_reason config secret text WrongCode BadAuthenticator d h = absurd (d.0 h.0)
one_reason config secret text WrongCode BadMessageAuthenticator d h = absurd (d.1 h.0)
one_reason config secret text WrongCode MessageAuthenticatorHere d h = absurd (d.0 h.0)
one_reason config secret text WrongCode NoRealm d h = absurd (d.0 h.0.code)
one_reason config secret text BadAuthenticator WrongCode d h = absurd (h.0 d.0)
one_reason config secret text BadAuthenticator BadAuthenticator d h = refl
one_reason config secret text BadAuthenticator BadMessageAuthenticator d h = absurd (two_codes _ d.0 h.0)
one_reason config secret text BadAuthenticator MessageAuthenticatorHere d h = absurd (d.1 h.1)
one_reason config secret text BadAuthenticator NoRealm d h = absurd (d.1 h.0.right)
one_reason config secret text BadMessageAuthenticator WrongCode d h = absurd (h.1 d.0)
one_reason config secret text BadMessageAuthenticator BadAuthenticator d h = absurd (two_codes _ h.0 d.0)
one_reason config secret text BadMessageAuthenticator BadMessageAuthenticator d h = refl
one_reason config secret text BadMessageAuthenticator MessageAuthenticatorHere d h = absurd (two_codes _ h.0 d.0)
one_reason config secret text BadMessageAuthenticator NoRealm d h = absurd (two_codes _ h.0.code d.0)
one_reason config secret text MessageAuthenticatorHere WrongCode d h = absurd (h.0 d.0)
one_reason config secret text MessageAuthenticatorHere BadAuthenticator d h = absurd (h.1 d.1)
one_reason config secret text MessageAuthenticatorHere BadMessageAuthenticator d h = absurd (two_codes _ d.0 h.0)
one_reason config secret text MessageAuthenticatorHere MessageAuthenticatorHere d h = refl
one_reason config secret text MessageAuthenticatorHere NoRealm d h = absurd (d.2 h.0.unsigned)
one_reason config secret text NoRealm WrongCode d h = absurd (h.0 d.0.code)
one_reason config secret text NoRealm BadAuthenticator d h = absurd (h.1 d.0.right)
one_reason config secret text NoRealm BadMessageAuthenticator d h = absurd (two_codes _ d.0.code h.0)
one_reason config secret text NoRealm MessageAuthenticatorHere d h = absurd (h.2 d.0.unsigned)
one_reason config secret text NoRealm NoRealm d h = refl
one_reason config secret text UnknownClient f d h = absurd d
one_reason config secret text (Unread fault) f d h = absurd d
one_reason config secret text e UnknownClient d h = absurd h
one_reason config secret text e (Unread fault) d h = absurd h

same_client : (a b : ClientEntry) (o : Option ClientEntry) → o ≡ Some a → o ≡ Some b → a ≡ b
same_client a b o p q = cc

no_lane : (lane : ℕ) (o : Option ℕ) → o ≡ None → o ≡ Some lane → ⊥
no_lane lane o p q = cc

known : (c : ClientEntry) (o : Option ClientEntry) → o ≡ None → o ≡ Some c → ⊥
known c o p q = cc

-- what arrives is dropped for one reason
arrived_once : (config : Configuration) (address datagram : List ℕ) (e f : Dropped) → DropsArrived config address datagram e → DropsArrived config address datagram f → e ≡ f
arrived_once config address datagram e f d h =
    let packets = one_packet datagram d.0 h.0 d.2.reads h.2.reads in
    let clients = same_client d.1 h.1 (client_of config address) d.2.sender h.2.sender in
    let there : DropsPacket config h.1.secret h.0 e = subst (λ (c : ClientEntry). DropsPacket config c.secret h.0 e) clients (subst (λ (t : List ℕ). DropsPacket config d.1.secret t e) packets d.3) in
    one_reason config h.1.secret h.0 e f there h.3

arrived_known : (config : Configuration) (address datagram : List ℕ) (f : Dropped) → DropsArrived config address datagram f → client_of config address ≡ None → ⊥
arrived_known config address datagram f h none = known h.1 (client_of config address) none h.2.sender

arrived_read : (config : Configuration) (address datagram : List ℕ) (f : Dropped) (fault : ReadFault) → DropsArrived config address datagram f → Refuses datagram fault → ⊥
arrived_read config address datagram f fault h refused = read_or_refused datagram h.0 fault h.2.reads refused

-- the three ways to be dropped
abbrev Ways : Configuration → List ℕ → List ℕ → Dropped → Type 0
Ways config address datagram e =
    ((e ≡ UnknownClient) × (client_of config address ≡ None))
    ⊎ (((fault : ReadFault) × (e ≡ Unread fault) × (client : ClientEntry) × (client_of config address ≡ Some client) × Refuses datagram fault) ⊎ DropsArrived config address datagram e)

ways : (config : Configuration) (address datagram : List ℕ) (e : Dropped) → Drops config address datagram e → Ways config address datagram e
ways config address datagram UnknownClient d = inl (refl, d)
ways config address datagram (Unread fault) d = inr (inl (fault, refl, d.0, d.1, d.2))
ways config address datagram WrongCode d = inr (inr d)
ways config address datagram BadAuthenticator d = inr (inr d)
ways config address datagram BadMessageAuthenticator d = inr (inr d)
ways config address datagram MessageAuthenticatorHere d = inr (inr d)
ways config address datagram NoRealm d = inr (inr d)

one_way : (config : Configuration) (address datagram : List ℕ) (e f : Dropped) → Ways config address datagram e → Ways config address datagram f → e ≡ f
one_way config address datagram e f (inl d) (inl h) = d.0 ∙ sym h.0
one_way config address datagram e f (inl d) (inr (inl h)) = absurd (known h.2 (client_of config address) d.1 h.3)
one_way config address datagram e f (inl d) (inr (inr h)) = absurd (arrived_known config address datagram f h d.1)
one_way config address datagram e f (inr (inl d)) (inl h) = absurd (known d.2 (client_of config address) h.1 d.3)
one_way config address datagram e f (inr (inl d)) (inr (inl h)) = d.1 ∙ ap (λ (x : ReadFault). Unread x) (one_fault datagram d.0 h.0 d.4 h.4) ∙ sym h.1
one_way config address datagram e f (inr (inl d)) (inr (inr h)) = absurd (arrived_read config address datagram f d.0 h d.4)
one_way config address datagram e f (inr (inr d)) (inl h) = absurd (arrived_known config address datagram e d h.1)
one_way config address datagram e f (inr (inr d)) (inr (inl h)) = absurd (arrived_read config address datagram e h.0 d h.4)
one_way config address datagram e f (inr (inr d)) (inr (inr h)) = arrived_once config address datagram e f d h

pub dropped_once : (config : Configuration) (address datagram : List ℕ) (e f : Dropped) → Drops config address datagram e → Drops config address datagram f → e ≡ f
dropped_once config address datagram e f d h = one_way config address datagram e f (ways config address datagram e d) (ways config address datagram f h)

-- ---- what is taken

not_a_request : (config : Configuration) (secret text : List ℕ) (lane : ℕ) (e : Dropped) → IsRequest secret text → lane_of_packet config text ≡ Some lane → DropsPacket config secret text e → ⊥
not_a_request config secret text lane UnknownClient r found d = d
not_a_request config secret text lane (Unread fault) r found d = d
not_a_request config secret text lane WrongCode r found d = d.0 r.code
not_a_request config secret text lane BadAuthenticator r found d = d.1 r.right
not_a_request config secret text lane BadMessageAuthenticator r found d = two_codes (code_of text) r.code d.0
not_a_request config secret text lane MessageAuthenticatorHere r found d = d.2 r.unsigned
not_a_request config secret text lane NoRealm r found d = no_lane lane (lane_of_packet config text) d.1 found

not_a_status : (config : Configuration) (secret text : List ℕ) (e : Dropped) → code_of text ≡ 12 → IsRightStatus secret text → DropsPacket config secret text e → ⊥
not_a_status config secret text UnknownClient code right d = d
not_a_status config secret text (Unread fault) code right d = d
not_a_status config secret text WrongCode code right d = d.1 code
not_a_status config secret text BadAuthenticator code right d = two_codes (code_of text) d.0 code
not_a_status config secret text BadMessageAuthenticator code right d = d.1 right
not_a_status config secret text MessageAuthenticatorHere code right d = two_codes (code_of text) d.0 code
not_a_status config secret text NoRealm code right d = two_codes (code_of text) d.0.code code

packet_not_dropped : (config : Configuration) (client : ClientEntry) (port : ℕ) (text : List ℕ) (taken : Incoming) (e : Dropped) → TakesPacket config client port text taken → DropsPacket config client.secret text e → ⊥
packet_not_dropped config client port text (incoming.Request r) e t d =
    let request : IsRequest client.secret text = subst (λ (s : List ℕ). IsRequest s text) t.same_secret (subst (λ (x : List ℕ). IsRequest r.secret x) t.same_text t.checked.request) in
    let lane : lane_of_packet config text ≡ Some r.lane = subst (λ (c : Configuration). lane_of_packet c text ≡ Some r.lane) t.same_config (subst (λ (x : List ℕ). lane_of_packet r.config x ≡ Some r.lane) t.same_text t.checked.lane) in
    not_a_request config client.secret text r.lane e request lane d
packet_not_dropped config client port text (incoming.Status s) e t d =
    let code : code_of text ≡ 12 = subst (λ (x : List ℕ). code_of x ≡ 12) t.same_text t.checked.code in
    let right : IsRightStatus client.secret text = subst (λ (x : List ℕ). IsRightStatus x text) t.same_secret (subst (λ (x : List ℕ). IsRightStatus s.secret x) t.same_text t.checked.right) in
    not_a_status config client.secret text e code right d

pub taken_not_dropped : (config : Configuration) (address : List ℕ) (port : ℕ) (datagram : List ℕ) (taken : Incoming) (e : Dropped) → Takes config address port datagram taken → Drops config address datagram e → ⊥
taken_not_dropped config address port datagram taken e t d =
    elim (ways config address datagram e d) [
      | inl unknown ↦ known t.client (client_of config address) unknown.1 t.arrives.sender
      | inr (inl unread) ↦ read_or_refused datagram t.text unread.0 t.arrives.reads unread.4
      | inr (inr h) ↦
          let packets = one_packet datagram h.0 t.text h.2.reads t.arrives.reads in
          let clients = same_client h.1 t.client (client_of config address) h.2.sender t.arrives.sender in
          let there : DropsPacket config t.client.secret t.text e = subst (λ (c : ClientEntry). DropsPacket config c.secret t.text e) clients (subst (λ (x : List ℕ). DropsPacket config h.1.secret x e) packets h.3) in
          packet_not_dropped config t.client port t.text taken e t.packet there
    ]
