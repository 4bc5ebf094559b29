-- The User-Name of a packet, and the walk that finds it where there is no Message-Authenticator.
use Rattle.std.proofs.Common.{◌≡◌, ◌≢◌, ℕ, ◌==◌, true, false, List, [], ◌∷◌, Option, Some, None, refl, sym, ap, ◌∙◌}
use Rattle.std.specs.Option.{option_or}
use Rattle.rad_packet.specs.Attribute.{Attribute, attributes_of, of_kind}
use Rattle.rad_packet.specs.Packet.{packet_attributes}
use Rattle.rad_config.specs.Realm.{user_name}
use Rattle.rad_realms.proofs.FirstValue.{first_value, first_here, first_later}

pub user_name_is : (text : List ℕ) → first_value 1 (packet_attributes text) ≡ user_name text
unfolding user_name
user_name_is text = refl

-- none of the attributes that were seen is a Message-Authenticator, rest has the others, and the name that was seen,
-- or else the first one of the others, is the packet's
pub record Unsigned (text rest : List ℕ) (name : Option (List ℕ)) : Type 0 where
  pub signs : of_kind 80 (attributes_of rest) ≡ of_kind 80 (packet_attributes text)
  pub name_is : option_or name (first_value 1 (attributes_of rest)) ≡ user_name text

-- before the first step
pub unsigned_none : (text rest : List ℕ) → attributes_of rest ≡ packet_attributes text → Unsigned text rest None
unsigned_none text rest e = record { signs = ap (of_kind 80) e; name_is = ap (first_value 1) e ∙ user_name_is text }

-- at the end
pub unsigned_all : (text rest : List ℕ) (name : Option (List ℕ)) → Unsigned text rest name → attributes_of rest ≡ [] → (of_kind 80 (packet_attributes text) ≡ []) × (name ≡ user_name text)
unsigned_all text rest None u e = (sym u.signs ∙ ap (of_kind 80) e, sym (ap (first_value 1) e) ∙ u.name_is)
unsigned_all text rest (Some value) u e = (sym u.signs ∙ ap (of_kind 80) e, u.name_is)

one_more : (a : Attribute) (rest : List Attribute) → (a.kind == 80) ≡ true → of_kind 80 (a ∷ rest) ≡ a ∷ of_kind 80 rest
one_more a rest same = rw same refl

no_more : (a : Attribute) (rest : List Attribute) → (a.kind == 80) ≡ false → of_kind 80 (a ∷ rest) ≡ of_kind 80 rest
no_more a rest other = rw other refl

not_none : (a : Attribute) (rest all : List Attribute) → a ∷ rest ≡ all → all ≢ []
not_none a rest all e h = let both : a ∷ rest ≡ [] = e ∙ h in absurd cc

-- one step: the next attribute is a, and rest' has the others
module _ (text rest rest' : List ℕ) (a : Attribute) (next : attributes_of rest ≡ a ∷ attributes_of rest') where
  -- a Message-Authenticator
  pub signed_here : (name : Option (List ℕ)) → Unsigned text rest name → (a.kind == 80) ≡ true → of_kind 80 (packet_attributes text) ≢ []
  signed_here name u same =
      not_none a (of_kind 80 (attributes_of rest')) (of_kind 80 (packet_attributes text))
      (sym (one_more a (attributes_of rest') same) ∙ ap (of_kind 80) (sym next) ∙ u.signs)

  signs_on : (name : Option (List ℕ)) → Unsigned text rest name → (a.kind == 80) ≡ false → of_kind 80 (attributes_of rest') ≡ of_kind 80 (packet_attributes text)
  signs_on name u other = sym (no_more a (attributes_of rest') other) ∙ ap (of_kind 80) (sym next) ∙ u.signs

  -- the first User-Name
  pub named_here : Unsigned text rest None → (a.kind == 80) ≡ false → (a.kind == 1) ≡ true → Unsigned text rest' (Some a.value)
  named_here u other same = record {
    signs = signs_on None u other;
    name_is = sym (first_here 1 a (attributes_of rest') same) ∙ ap (first_value 1) (sym next) ∙ u.name_is;
  }

  -- another attribute
  pub unsigned_on : (name : Option (List ℕ)) → Unsigned text rest name → (a.kind == 80) ≡ false → (a.kind == 1) ≡ false → Unsigned text rest' name
  unsigned_on None u other unnamed = record {
    signs = signs_on None u other;
    name_is = sym (first_later 1 a (attributes_of rest') unnamed) ∙ ap (first_value 1) (sym next) ∙ u.name_is;
  }
  unsigned_on (Some value) u other unnamed = record { signs = signs_on (Some value) u other; name_is = u.name_is }

  -- an attribute behind the first User-Name
  pub named_before : (value : List ℕ) → Unsigned text rest (Some value) → (a.kind == 80) ≡ false → Unsigned text rest' (Some value)
  named_before value u other = record { signs = signs_on (Some value) u other; name_is = u.name_is }
