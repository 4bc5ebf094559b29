-- The fields of the entries.
use Rattle.std.proofs.Common.{◌≡◌, ℕ, List, [], ◌∷◌, ◌++◌, length, get_or, refl, sym, ap, ◌∙◌, append_assoc}
use Rattle.std.specs.Int.{w16, w64, to_be_bytes}
use Rattle.rad_tables.specs.declared.duplicates.Key.{Key}
use Rattle.spool_files.specs.declared.entry.LocalAddress.{LocalAddress}
use Rattle.spool_files.specs.declared.entry.Begun.{Begun}
use Rattle.spool_files.specs.declared.entry.Came.{Came}
use Rattle.spool_files.specs.declared.entry.Answered.{Answered}
use Rattle.spool_files.specs.declared.entry.GivenUp.{GivenUp}
use Rattle.spool_files.specs.Entries.{key_octets, address_octets, origin_octets, begun_octets, came_octets, answered_octets, given_up_octets, FitsKey, FitsAddress, FitsBegun, FitsCame, FitsAnswered, FitsGivenUp}
use Rattle.spool_files.specs.internal.Fields.{key_at, address_at, begun_at, came_at, answered_at, given_up_at}
use Rattle.spool_files.proofs.FieldLemmas.{IsField, both, as_other, octets_field, first_field, field16, field64, from_on, whole}

pub key_field : IsField key_at key_octets FitsKey
unfolding key_at
key_field =
    as_other _ _ _ _ (λ (k : Key). (k.authenticator, (k.client, (k.port, k.identifier)))) (λ _. refl) (λ _. refl)
    (both _ _ _ _ _ _ (octets_field 16) (both _ _ _ _ _ _ (octets_field 4) (both _ _ _ _ _ _ field16 first_field)))

pub address_field : IsField address_at address_octets FitsAddress
unfolding address_at
address_field = as_other _ _ _ _ (λ (a : LocalAddress). (a.address, a.port)) (λ _. refl) (λ _. refl) (both _ _ _ _ _ _ (octets_field 4) field16)

pub begun_field : IsField begun_at begun_octets FitsBegun
unfolding begun_at
begun_field =
    as_other _ _ _ _ (λ (b : Begun). (b.version, (b.run, b.number))) (λ _. refl) (λ _. refl)
    (both _ _ _ _ _ _ field16 (both _ _ _ _ _ _ field64 field64))

pub came_field : IsField came_at came_octets FitsCame
unfolding came_at
came_field =
    as_other _ _ _ _ (λ (c : Came). (c.key, (c.ours, (c.arrival, (c.run, (c.lane, (c.number, c.moment))))))) (λ _. refl) (λ _. refl)
    (both _ _ _ _ _ _ key_field (both _ _ _ _ _ _ address_field (both _ _ _ _ _ _ field64 (both _ _ _ _ _ _ field64
    (both _ _ _ _ _ _ field16 (both _ _ _ _ _ _ field64 field64))))))

pub answered_field : IsField answered_at answered_octets FitsAnswered
unfolding answered_at
answered_field =
    as_other _ _ _ _ (λ (a : Answered). (a.key, (a.run, (a.lane, (a.serial, a.moment))))) (λ _. refl) (λ _. refl)
    (both _ _ _ _ _ _ key_field (both _ _ _ _ _ _ field64 (both _ _ _ _ _ _ field16 (both _ _ _ _ _ _ field64 field64))))

pub given_up_field : IsField given_up_at given_up_octets FitsGivenUp
unfolding given_up_at
given_up_field = as_other _ _ _ _ (λ (g : GivenUp). (g.key, g.moment)) (λ _. refl) (λ _. refl) (both _ _ _ _ _ _ key_field field64)

pub one_by_one : (kind : ℕ) (k : Key) (p : List ℕ) → length k.authenticator ≡ 16 → length k.client ≡ 4 → p ≡ to_be_bytes w16 k.port
    → kind ∷ (from_on 16 0 k.authenticator ++ (from_on 4 0 k.client ++ (get_or p 0 0 ∷ get_or p 1 0 ∷ k.identifier ∷ []))) ≡ kind ∷ key_octets k
one_by_one kind k p sixteen four p_is =
    ap (λ (l : List ℕ). kind ∷ (l ++ (from_on 4 0 k.client ++ (get_or p 0 0 ∷ get_or p 1 0 ∷ k.identifier ∷ [])))) (whole 16 k.authenticator sixteen)
    ∙ ap (λ (l : List ℕ). kind ∷ (k.authenticator ++ (l ++ (get_or p 0 0 ∷ get_or p 1 0 ∷ k.identifier ∷ [])))) (whole 4 k.client four)
    ∙ ap (λ (l : List ℕ). kind ∷ (k.authenticator ++ (k.client ++ (get_or l 0 0 ∷ get_or l 1 0 ∷ k.identifier ∷ [])))) p_is

pub numbers_one_by_one : (a p v r l n m : List ℕ) (port arrival run lane number moment : ℕ) → length a ≡ 4 → p ≡ to_be_bytes w16 port → v ≡ to_be_bytes w64 arrival
    → r ≡ to_be_bytes w64 run → l ≡ to_be_bytes w16 lane → n ≡ to_be_bytes w64 number → m ≡ to_be_bytes w64 moment
    → from_on 4 0 a ++ (from_on 2 0 p ++ (from_on 8 0 v ++ (from_on 8 0 r ++ (from_on 2 0 l ++ (from_on 8 0 n ++ from_on 8 0 m)))))
    ≡ (a ++ to_be_bytes w16 port) ++ (to_be_bytes w64 arrival ++ origin_octets run lane number moment)
numbers_one_by_one a p v r l n m port arrival run lane number moment four p_is v_is r_is l_is n_is m_is =
    ap (λ (x : List ℕ). x ++ (from_on 2 0 p ++ (from_on 8 0 v ++ (from_on 8 0 r ++ (from_on 2 0 l ++ (from_on 8 0 n ++ from_on 8 0 m)))))) (whole 4 a four)
    ∙ ap (λ (x : List ℕ). a ++ (from_on 2 0 x ++ (from_on 8 0 v ++ (from_on 8 0 r ++ (from_on 2 0 l ++ (from_on 8 0 n ++ from_on 8 0 m)))))) p_is
    ∙ ap (λ (x : List ℕ). a ++ (to_be_bytes w16 port ++ x)) numbers
    ∙ sym (append_assoc a (to_be_bytes w16 port) (to_be_bytes w64 arrival ++ origin_octets run lane number moment))
  where
    numbers : from_on 8 0 v ++ (from_on 8 0 r ++ (from_on 2 0 l ++ (from_on 8 0 n ++ from_on 8 0 m))) ≡ to_be_bytes w64 arrival ++ origin_octets run lane number moment
    numbers = rw (v_is, r_is, l_is, n_is, m_is) refl
