-- What several writes leave on a disk.
use Rattle.std.proofs.Common.{◌≡◌, ℕ, ◌+◌, ◌-◌, ◌≤◌, List, [], ◌∷◌, ◌++◌, Option, Some, None, take, drop, refl, sym, ap, ◌∙◌, append-nil, append_assoc, arith}
use Rattle.std.specs.List.{slice_range}
use Rattle.std.proofs.Math.Nat.{sub_self}
use Rattle.std.proofs.Math.Seq.{take-add}
use Rattle.std.proofs.lemmas.List.{drop-drop}
use Rattle.ledger_files.specs.Files.{File, with_octets, wrote}

with_nothing : (files : List File) → with_octets files [] ≡ files
with_nothing [] = refl
with_nothing (file ∷ older) = rw append-nil

with_both : (files : List File) (a b : List ℕ) → with_octets (with_octets files a) b ≡ with_octets files (a ++ b)
with_both [] a b = refl
with_both (file ∷ older) a b = rw append_assoc

pub wrote_nothing : (before : Option (List File)) → wrote before [] ≡ before
wrote_nothing None = refl
wrote_nothing (Some files) = ap Some (with_nothing files)

pub wrote_both : (before : Option (List File)) (a b : List ℕ) → wrote (wrote before a) b ≡ wrote before (a ++ b)
wrote_both None a b = refl
wrote_both (Some files) a b = ap Some (with_both files a b)

pub no_range : (octets : List ℕ) (done : ℕ) → slice_range octets done done ≡ []
no_range octets done = rw (sub_self done) refl

-- The octets up to `at`, and `count` more.
pub range_goes_on : (octets : List ℕ) (done at count : ℕ) → done ≤ at → slice_range octets done at ++ take count (drop at octets) ≡ slice_range octets done (at + count)
range_goes_on octets done at count l =
    let parts : at + count - done ≡ (at - done) + count = omega arith in
    let place : done + (at - done) ≡ at = omega arith in
    let rest : drop (at - done) (drop done octets) ≡ drop at octets = drop-drop (at - done) done octets ∙ ap (λ n. drop n octets) place in
    ap (λ xs. take (at - done) (drop done octets) ++ take count xs) (sym rest)
    ∙ sym (take-add (at - done) count (drop done octets))
    ∙ ap (λ n. take n (drop done octets)) (sym parts)

pub writes_begin : (before : Option (List File)) (octets : List ℕ) (done : ℕ) → before ≡ wrote before (slice_range octets done done)
writes_begin before octets done = sym (rw (no_range octets done) (wrote_nothing before))

pub writes_go_on : (before here after : Option (List File)) (octets : List ℕ) (done at count : ℕ) → done ≤ at
    → here ≡ wrote before (slice_range octets done at) → after ≡ wrote here (take count (drop at octets)) → after ≡ wrote before (slice_range octets done (at + count))
writes_go_on before here after octets done at count l e f =
    f ∙ ap (λ d. wrote d (take count (drop at octets))) e
    ∙ wrote_both before (slice_range octets done at) (take count (drop at octets))
    ∙ ap (wrote before) (range_goes_on octets done at count l)
