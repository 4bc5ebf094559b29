-- The label of all other realms is no realm's: behind the quotation mark it has an `@`.
use Rattle.std.proofs.Common.{◌≡◌, ℕ, List, [], ◌∷◌, ◌++◌, codes, Some, inl, inr, ap, arith}
use Rattle.std.specs.Prelude.{◌≢◌, slice_get, unwrap_or, flat_map}
use Rattle.std.proofs.lemmas.Bool.{cases_Bool}
use Rattle.rad_log.specs.Escaped.{is_plain, octet_text}
use Rattle.rad_realms.specs.WellFormed.{IsRealmName}
use Rattle.rad_metrics.specs.Samples.{realm_label, others_realm_label}

-- the text of an octet begins with that octet, or with `%`
no_sign_first : (octet : ℕ) (rest more : List ℕ) → octet ≢ 64 → slice_get ((octet_text (Some 92) octet ++ rest) ++ more) 0 ≢ Some 64
no_sign_first octet rest more other =
    elim (cases_Bool (is_plain (Some 92) octet)) [
      | inl plain ↦ rw plain (λ same. other (ap (λ o. unwrap_or o 0) same))
      | inr escaped ↦ rw escaped (λ same. absurd (omega (arith, ap (λ o. unwrap_or o 0) same)))
    ]

pub own_label : (name : List ℕ) → IsRealmName name → realm_label name ≢ others_realm_label
own_label [] is same = absurd (omega (arith, is.some))
own_label (o ∷ os) is same =
    no_sign_first o (flat_map (octet_text (Some 92)) os) (codes "\"") (is.no_sign 0 0 (omega arith)) (ap (λ text. slice_get text 7) same)
