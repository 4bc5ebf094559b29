-- Lines that are taken behind others.
use Rattle.std.proofs.Common.{◌≡◌, ℕ, ◌<◌, ◌≤◌, ◌+◌, suc, List, [], ◌∷◌, ◌++◌, length, take, get_or, map, add-one, append_assoc, All, flat_map, refl, sym, ap, subst, ◌∙◌, arith}
use Rattle.std.proofs.Math.Seq.{take-suc}
use Rattle.std.proofs.lemmas.List.{append-nil, map-append, take_all}
use Rattle.std.proofs.lemmas.Grind.{flat_map-append}
use Rattle.std.proofs.lemmas.List.Elements.{All-append}
use Rattle.rad_config.specs.Configuration.{Configuration}
use Rattle.rad_audit.proofs.Parts.{all_more}
use Rattle.rad_audit.specs.Blocks.{IsJudgedPart, IsWhole, lines_of, octets_of}
use Rattle.rad_audit.specs.Judging.{AreJudged, IsFound}
use Rattle.rad_audit.specs.Lanes.{AreTaken, StandAfter, TakesOctets, content_of, contents_of}
use Rattle.rad_audit.specs.declared.blocks.FileLine.{FileLine}
use Rattle.rad_audit.specs.declared.blocks.Part.{Part}
use Rattle.rad_audit.specs.declared.blocks.Part.TheVariants as part
use Rattle.rad_audit.specs.declared.judging.Content.{Content}
use Rattle.rad_audit.specs.declared.runs.Runs.{Runs}

pub taken_none : (config : Configuration) (a b : Runs) → b ≡ a → AreTaken config [] a b
taken_none config a b same before stand = subst (λ (r : Runs). StandAfter config (before ++ []) r) (sym same) (subst (λ (ls : List Content). StandAfter config ls a) (sym (append-nil before)) stand)

pub taken_more : (config : Configuration) (xs ys : List Content) (a b c : Runs) → AreTaken config xs a b → AreTaken config ys b c → AreTaken config (xs ++ ys) a c
taken_more config xs ys a b c first next before stand = subst (λ (ls : List Content). StandAfter config ls c) (append_assoc before xs ys) (next (before ++ xs) (first before stand))

-- by what is the same
pub taken_by : (config its : Configuration) (xs : List Content) (a b c : Runs) → its ≡ config → b ≡ a → AreTaken its xs b c → AreTaken config xs a c
taken_by config its xs a b c same alike taken = subst (λ (k : Configuration). AreTaken k xs a c) same (subst (λ (r : Runs). AreTaken its xs r c) alike taken)

-- the next one of a list, whatever each of them has
pub taken_next : {X : Type 0} (config : Configuration) (f : X → List Content) (xs : List X) (i : ℕ) (x : X) (a b c : Runs) → i < length xs → x ≡ get_or xs i x
    → AreTaken config (flat_map f (take i xs)) a b → AreTaken config (f x) b c → AreTaken config (flat_map f (take (i + 1) xs)) a c
taken_next config f xs i x a b c h is first next =
    let grown : take (i + 1) xs ≡ take i xs ++ x ∷ [] = rw add-one (take-suc xs i x h ∙ ap (λ y. take i xs ++ y ∷ []) (sym is)) in
    let split : flat_map f (take (i + 1) xs) ≡ flat_map f (take i xs) ++ f x = ap (flat_map f) grown ∙ flat_map-append f (take i xs) (x ∷ []) ∙ ap (λ y. flat_map f (take i xs) ++ y) (append-nil (f x)) in
    subst (λ (ls : List Content). AreTaken config ls a c) (sym split) (taken_more config (flat_map f (take i xs)) (f x) a b c first next)

-- all of a list
pub taken_all : {X : Type 0} (config : Configuration) (f : X → List Content) (xs : List X) (i : ℕ) (a b : Runs) → length xs ≤ i → AreTaken config (flat_map f (take i xs)) a b → AreTaken config (flat_map f xs) a b
taken_all {X} config f xs i a b past taken = subst (λ (ys : List X). AreTaken config (flat_map f ys) a b) (take_all i xs past) taken

pub whole_next : (ps : List Part) (i : ℕ) (p : Part) → i < length ps → p ≡ get_or ps i p → All IsWhole (take i ps) → IsWhole p → All IsWhole (take (i + 1) ps)
whole_next ps i p h is each one =
    let grown : take (i + 1) ps ≡ take i ps ++ p ∷ [] = rw add-one (take-suc ps i p h ∙ ap (λ y. take i ps ++ y ∷ []) (sym is)) in
    subst (λ (qs : List Part). All IsWhole qs) (sym grown) (all_more IsWhole (take i ps) p each one)

-- the parts, by their lines
contents_parts : (ps : List Part) → contents_of (flat_map lines_of ps) ≡ flat_map (λ p. contents_of (lines_of p)) ps
contents_parts [] = refl
contents_parts (p ∷ ps) = flat_map-append (λ line. content_of line.found) (lines_of p) (flat_map lines_of ps) ∙ ap (λ y. contents_of (lines_of p) ++ y) (contents_parts ps)

pub taken_parts : (config : Configuration) (ps : List Part) (a b : Runs) → AreTaken config (flat_map (λ p. contents_of (lines_of p)) ps) a b → AreTaken config (contents_of (flat_map lines_of ps)) a b
taken_parts config ps a b taken = subst (λ (ls : List Content). AreTaken config ls a b) (sym (contents_parts ps)) taken

none_judged : AreJudged []
none_judged k d h = absurd omega (arith, h)

judged_lines : (p : Part) → IsJudgedPart p → AreJudged (lines_of p)
judged_lines (part.Lines lines) judged = judged
judged_lines part.NoMemory judged = none_judged

octets_lines : (p : Part) → map (λ line. line.octets.now) (lines_of p) ≡ octets_of p
octets_lines (part.Lines lines) = refl
octets_lines part.NoMemory = refl

judged_parts : (ps : List Part) → All IsJudgedPart ps → AreJudged (flat_map lines_of ps)
judged_parts [] all = none_judged
judged_parts (p ∷ ps) all =
    All-append (λ line. IsFound line.octets.now line.found) (lines_of p) (flat_map lines_of ps) (judged_lines p (all 0 p (omega arith))) (judged_parts ps (λ k d h. all (suc k) d (omega (arith, h))))

octets_parts : (ps : List Part) → map (λ line. line.octets.now) (flat_map lines_of ps) ≡ flat_map octets_of ps
octets_parts [] = refl
octets_parts (p ∷ ps) =
    map-append (λ line. line.octets.now) (lines_of p) (flat_map lines_of ps) ∙ ap (λ x. x ++ map (λ line. line.octets.now) (flat_map lines_of ps)) (octets_lines p) ∙ ap (λ x. octets_of p ++ x) (octets_parts ps)

-- what a block was judged to have, and was taken
pub takes_parts : (config : Configuration) (octets : List (List ℕ)) (ps : List Part) (a b : Runs) → All IsJudgedPart ps → (All IsWhole ps → flat_map octets_of ps ≡ octets) → All IsWhole ps
    → AreTaken config (contents_of (flat_map lines_of ps)) a b → TakesOctets config octets a b
takes_parts config octets ps a b judged have whole taken = (flat_map lines_of ps, judged_parts ps judged, octets_parts ps ∙ have whole, taken)
