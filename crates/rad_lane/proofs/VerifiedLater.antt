-- What has passed by a moment has passed by a later one.
use Rattle.std.proofs.Common.{ℕ, ◌≤◌, List, arith}
use Rattle.std.specs.Prelude.{All}
use Rattle.std.proofs.lemmas.List.Elements.{All-weaker}
use Rattle.rad_lane.specs.declared.stamp.Stamp.{Stamp}
use Rattle.rad_lane.specs.Outstanding.{AnswerKept}
use Rattle.rad_lane.specs.Setup.{LaneSetup}
use Rattle.rad_lane.specs.Lawful.{IsVerified}

pub passed_later : (stamps : List Stamp) (last now : ℕ) → last ≤ now → All (λ s. s.moment ≤ last) stamps → All (λ s. s.moment ≤ now) stamps
passed_later stamps last now later h = All-weaker (λ s. s.moment ≤ last) (λ s. s.moment ≤ now) (λ s earlier. omega arith) stamps h

verified_by : (setup : LaneSetup) (last now served more : ℕ) (answer : AnswerKept) → last ≤ now → served ≤ more → IsVerified setup last served answer → IsVerified setup now more answer
verified_by setup last now served more answer later above v = record {
  answered = v.answered;
  lane = v.lane;
  home = v.home;
  until = omega (arith, v.until);
  before = omega (arith, v.before);
}

pub verified_more : (setup : LaneSetup) (last now served more : ℕ) (answers : List AnswerKept) → last ≤ now → served ≤ more → All (IsVerified setup last served) answers → All (IsVerified setup now more) answers
verified_more setup last now served more answers later above h =
    All-weaker (IsVerified setup last served) (IsVerified setup now more) (λ answer v. verified_by setup last now served more answer later above v) answers h

pub verified_later : (setup : LaneSetup) (last now served : ℕ) (answers : List AnswerKept) → last ≤ now → All (IsVerified setup last served) answers → All (IsVerified setup now served) answers
verified_later setup last now served answers later h = verified_more setup last now served served answers later (omega arith) h
