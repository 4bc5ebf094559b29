-- What the sockets took, where one of them is written.
use Rattle.std.specs.Prelude.{◌≡◌, ℕ, zero, suc, ◌+◌, ◌<◌, List, [], ◌∷◌, ◌++◌, drop, length, take, Option, Some, None, IfSome}
use Rattle.std.specs.List.{All}
use Rattle.std.proofs.Common.{refl, sym, subst, ◌∙◌, get_or, arith}
use Rattle.std.proofs.lemmas.List.{take_at}
use Rattle.std.proofs.lemmas.List.Elements.{All-head, All-tail}
use Rattle.std.proofs.lemmas.Option.{none-some, same_Some}
use Rattle.std.proofs.Math.Dec.{eqb-suc-zero, eqb-zero-suc, eqb-suc-suc}
use Rattle.std.proofs.Math.ListN.{set}
use Rattle.rad_config.specs.declared.reading.address.Endpoint.{Endpoint}
use Rattle.rad_server.specs.internal.Taken.{Datagram, Departure, HaveTaken, TookThese, from_socket, list_of, took_at, took_after, SameTook, Sends}
use Rattle.rad_server.specs.declared.sockets.datagram_socket.Handed.{Handed}
use Rattle.rad_server.specs.declared.sockets.datagram_socket.Listed.{Listed}
use Rattle.rad_server.specs.declared.sockets.ready_socket.ReadySocket.{ReadySocket}

-- The socket at a place took what it was handed.
at_place : {S : Type 0} (took : S → Option (List Datagram)) (to : Endpoint) (octets : List ℕ) (handed : Handed) (sockets : List (ReadySocket S)) (i : ℕ) (s d : ReadySocket S)
    → i < length sockets → took s.socket ≡ took_after (took (get_or sockets i d).socket) to octets handed → Sends took sockets (set sockets i s) i to octets handed
at_place took to octets handed [] i s d below is place = absurd (omega arith)
at_place took to octets handed (x ∷ xs) zero s d below is zero = is
at_place took to octets handed (x ∷ xs) zero s d below is (suc place) = rw (eqb-suc-zero place) refl
at_place took to octets handed (x ∷ xs) (suc i) s d below is zero = rw (eqb-zero-suc i) refl
at_place took to octets handed (x ∷ xs) (suc i) s d below is (suc place) = rw (eqb-suc-suc place i) (at_place took to octets handed xs i s d (omega arith) is place)

pub sent_at : {S : Type 0} (took : S → Option (List Datagram)) (to : Endpoint) (octets : List ℕ) (handed : Handed) (sockets : List (ReadySocket S)) (i at : ℕ) (s d : ReadySocket S)
    → i < length sockets → i ≡ at → took s.socket ≡ took_after (took (get_or sockets i d).socket) to octets handed → Sends took sockets (set sockets i s) at to octets handed
sent_at took to octets handed sockets i at s d below same is =
    subst (λ n. Sends took sockets (set sockets i s) n to octets handed) same (at_place took to octets handed sockets i s d below is)

-- It took nothing.
pub same_at : {S : Type 0} (took : S → Option (List Datagram)) (sockets : List (ReadySocket S)) (i : ℕ) (s d : ReadySocket S)
    → i < length sockets → took s.socket ≡ took (get_or sockets i d).socket → SameTook took sockets (set sockets i s)
same_at took [] i s d below is place = absurd (omega arith)
same_at took (x ∷ xs) zero s d below is zero = is
same_at took (x ∷ xs) zero s d below is (suc place) = refl
same_at took (x ∷ xs) (suc i) s d below is zero = refl
same_at took (x ∷ xs) (suc i) s d below is (suc place) = same_at took xs i s d (omega arith) is place

-- Sockets that keep a list.
if_some : {X : Type 0} (o : Option X) (P : X → Type 0) → ((x : X) → o ≡ Some x → P x) → IfSome o P
if_some None P each = tt
if_some (Some x) P each = each x refl

these_have : {S : Type 0} (sockets : List (ReadySocket (Listed S))) (gone : List Departure) → TookThese sockets gone → HaveTaken list_of sockets gone
these_have sockets gone these place = if_some (took_at list_of sockets place) (λ datagrams. datagrams ≡ from_socket place gone) (these place)

have_these : {S : Type 0} (sockets : List (ReadySocket (Listed S))) (gone : List Departure) → HaveTaken list_of sockets gone → TookThese sockets gone
have_these sockets gone have place datagrams is = subst (λ o. IfSome o (λ datagrams. datagrams ≡ from_socket place gone)) is (have place)

-- What is written back over all of a list.
these_back : {S : Type 0} (n : ℕ) (new old : List (ReadySocket (Listed S))) (gone : List Departure) → length new ≡ n → TookThese new gone → TookThese (take n (new ++ drop (length new) old)) gone
these_back n new old gone all these = subst (λ l. TookThese l gone) (sym (take_at new (drop (length new) old) n all)) these

pub these_on : {S : Type 0} (old at new : List (ReadySocket (Listed S))) (gone gone' : List Departure) (n : ℕ)
    → at ≡ old → length new ≡ n → (HaveTaken list_of at gone → HaveTaken list_of new gone') → TookThese old gone → TookThese (take n (new ++ drop (length new) old)) gone'
these_on old at new gone gone' n is all on these =
    these_back n new old gone' all (have_these new gone' (on (these_have at gone (subst (λ l. TookThese l gone) (sym is) these))))

pub these_same : {S : Type 0} (old at new : List (ReadySocket (Listed S))) (gone : List Departure) (n : ℕ)
    → at ≡ old → length new ≡ n → SameTook list_of at new → TookThese old gone → TookThese (take n (new ++ drop (length new) old)) gone
these_same old at new gone n is all same these =
    these_back n new old gone all
    (λ place datagrams took. these place datagrams (sym (subst (λ l. took_at list_of new place ≡ took_at list_of l place) is (same place)) ∙ took))

pub these_new : {S : Type 0} (sockets : List (ReadySocket (Listed S))) → All (λ socket. list_of socket.socket ≡ Some []) sockets → TookThese sockets []
these_new [] new place datagrams is = absurd (none-some datagrams is)
these_new (socket ∷ sockets) new zero datagrams is =
    same_Some datagrams [] (sym is ∙ All-head (λ s. list_of s.socket ≡ Some []) socket sockets new)
these_new (socket ∷ sockets) new (suc place) datagrams is = these_new sockets (All-tail (λ s. list_of s.socket ≡ Some []) socket sockets new) place datagrams is
