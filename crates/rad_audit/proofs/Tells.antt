-- What is told of lanes and runs, one after the other.
use Rattle.std.proofs.Common.{◌≡◌, ℕ, List, [], ◌∷◌, ◌++◌, append_assoc, ◌<◌, ◌+◌, length, take, get_or, add-one, subst, Option, Some, None, refl, sym, ap, ◌∙◌}
use Rattle.std.proofs.Math.Seq.{take-suc}
use Rattle.std.specs.Prelude.{MatchOption}
use Rattle.std.specs.BTreeMap.{get}
use Rattle.std.specs.Io.KnownBytes.{Appends}
use Rattle.std.specs.Ordering.{nat_cmp}
use Rattle.std.proofs.lemmas.List.{append-nil}
use Rattle.rad_audit.specs.Telling.{Gets, HasCounts, TellsLane, TellsLanes, TellsRun, TellsRuns, back_of, fates_of, part_of, printed, printed_if, ranges_of, resumed_of}
use Rattle.rad_audit.specs.declared.lanes.Lane.{Lane}
use Rattle.rad_audit.specs.declared.printing.Finding.{Finding}
use Rattle.rad_audit.specs.declared.printing.Finding.TheVariants as finding
use Rattle.rad_audit.specs.declared.printing.LaneCounts.{LaneCounts}
use Rattle.rad_audit.specs.declared.runs.Run.{Run}
use Rattle.rad_audit.specs.declared.runs.Runs.{Runs}

pub appends_more : (a b c : Option (List ℕ)) (xs ys : List ℕ) → Appends a b xs → Appends b c ys → Appends a c (xs ++ ys)
appends_more None b c xs ys first next = tt
appends_more (Some a) None c xs ys first next = absurd first
appends_more (Some a) (Some b) None xs ys first next = absurd next
appends_more (Some a) (Some b) (Some c) xs ys first next = next ∙ ap (λ z. z ++ ys) first ∙ append_assoc a xs ys

pub appends_none : (a : Option (List ℕ)) → Appends a a []
appends_none None = tt
appends_none (Some a) = sym (append-nil a)

lanes_more : (name : ℕ) (run : Run) (lanes : List Lane) (lane : Lane) (t u : List ℕ) → TellsLanes name run lanes t → TellsLane name run lane u → TellsLanes name run (lanes ++ lane ∷ []) (t ++ u)
lanes_more name run [] lane t u tells its = (u, [], ap (λ z. z ++ u) tells ∙ sym (append-nil u), its, refl)
lanes_more name run (l ∷ ls) lane t u tells its = (tells.0, tells.1 ++ u, ap (λ z. z ++ u) tells.2 ∙ append_assoc tells.0 tells.1 u, tells.3, lanes_more name run ls lane tells.1 u tells.4 its)

runs_more : (runs : Runs) (names : List ℕ) (name : ℕ) (t u : List ℕ) → TellsRuns runs names t → MatchOption (get nat_cmp runs.runs name) (u ≡ []) (λ run. TellsRun name run u) → TellsRuns runs (names ++ name ∷ []) (t ++ u)
runs_more runs [] name t u tells its = (u, [], ap (λ z. z ++ u) tells ∙ sym (append-nil u), its, refl)
runs_more runs (n ∷ ns) name t u tells its = (tells.0, tells.1 ++ u, ap (λ z. z ++ u) tells.2 ∙ append_assoc tells.0 tells.1 u, tells.3, runs_more runs ns name tells.1 u tells.4 its)

-- one lane more
pub gets_lane : (name : ℕ) (run : Run) (lanes : List Lane) (lane : Lane) (a b c : Option (List ℕ)) → Gets (TellsLanes name run lanes) a b → Gets (TellsLane name run lane) b c → Gets (TellsLanes name run (lanes ++ lane ∷ [])) a c
gets_lane name run lanes lane a b c first next = (first.0 ++ next.0, appends_more a b c first.0 next.0 first.1 next.1, lanes_more name run lanes lane first.0 next.0 first.2 next.2)

-- one run more
pub gets_run : (runs : Runs) (names : List ℕ) (name : ℕ) (a b c : Option (List ℕ)) → Gets (TellsRuns runs names) a b → Gets (λ text. MatchOption (get nat_cmp runs.runs name) (text ≡ []) (λ run. TellsRun name run text)) b c
    → Gets (TellsRuns runs (names ++ name ∷ [])) a c
gets_run runs names name a b c first next = (first.0 ++ next.0, appends_more a b c first.0 next.0 first.1 next.1, runs_more runs names name first.0 next.0 first.2 next.2)

-- a run whose lanes are told, and three things besides
pub gets_rest : (name : ℕ) (run : Run) (xs ys zs : List ℕ) (a b c d e : Option (List ℕ)) → Gets (TellsLanes name run run.lanes.items) a b → Appends b c xs → Appends c d ys → Appends d e zs → Gets (TellsRun name run) a e
gets_rest name run xs ys zs a b c d e lanes x y z = (
  lanes.0 ++ (xs ++ (ys ++ zs)),
  appends_more a b e lanes.0 (xs ++ (ys ++ zs)) lanes.1 (appends_more b c e xs (ys ++ zs) x (appends_more c d e ys zs y z)),
  record { lanes = lanes.0; rest = xs ++ (ys ++ zs); is = refl; tells = lanes.2 },
)

-- six things that are told, one after the other
pub appends_six : (a b c d e f g : Option (List ℕ)) (u v w x y z : List ℕ) → Appends a b u → Appends b c v → Appends c d w → Appends d e x → Appends e f y → Appends f g z → Appends a g (u ++ (v ++ (w ++ (x ++ (y ++ z)))))
appends_six a b c d e f g u v w x y z o p q r s t =
    appends_more a b g u (v ++ (w ++ (x ++ (y ++ z)))) o
    (appends_more b c g v (w ++ (x ++ (y ++ z))) p (appends_more c d g w (x ++ (y ++ z)) q (appends_more d e g x (y ++ z) r (appends_more e f g y z s t))))

-- a lane of a run, by what is found of it
pub lane_told : (name : ℕ) (run : Run) (lane : Lane) (counts : LaneCounts) (p f r b m : Option Finding) (s t u v w x y : Option (List ℕ)) → HasCounts name run lane counts
    → p ≡ part_of counts → f ≡ fates_of counts lane → r ≡ ranges_of counts lane → b ≡ back_of counts lane → m ≡ resumed_of counts lane
    → Appends s t (printed (finding.Lane counts)) → Appends t u (printed_if p) → Appends u v (printed_if f) → Appends v w (printed_if r) → Appends w x (printed_if b) → Appends x y (printed_if m)
    → Gets (TellsLane name run lane) s y
lane_told name run lane counts p f r b m s t u v w x y has is_p is_f is_r is_b is_m first second third fourth fifth sixth = (
  printed (finding.Lane counts) ++ (printed_if p ++ (printed_if f ++ (printed_if r ++ (printed_if b ++ printed_if m)))),
  appends_six s t u v w x y (printed (finding.Lane counts)) (printed_if p) (printed_if f) (printed_if r) (printed_if b) (printed_if m) first second third fourth fifth sixth,
  record { counts = counts; has = has; is = rw (is_p, is_f, is_r, is_b, is_m) refl },
)

-- the next run
pub gets_next : (runs : Runs) (names : List ℕ) (i name : ℕ) (a b c : Option (List ℕ)) → i < length names → name ≡ get_or names i name → Gets (TellsRuns runs (take i names)) a b
    → Gets (λ text. MatchOption (get nat_cmp runs.runs name) (text ≡ []) (λ run. TellsRun name run text)) b c → Gets (TellsRuns runs (take (i + 1) names)) a c
gets_next runs names i name a b c h is first next =
    let grown : take (i + 1) names ≡ take i names ++ name ∷ [] = rw add-one (take-suc names i name h ∙ ap (λ y. take i names ++ y ∷ []) (sym is)) in
    subst (λ (ns : List ℕ). Gets (TellsRuns runs ns) a c) (sym grown) (gets_run runs (take i names) name a b c first next)
