-- A cut takes answers away, and leaves the responses that were given.
use Rattle.std.proofs.Common.{◌≡◌, ℕ, ◌≤◌, sym, subst}
use Rattle.std.specs.Prelude.{List, not, Result, Ok, Err}
use Rattle.std.proofs.lemmas.List.Elements.{All-filter}
use Rattle.rad_config.specs.declared.limits.LimitNumbers.{LimitNumbers}
use Rattle.rad_lane.specs.declared.outgoing.Outgoing.{Outgoing}
use Rattle.rad_lane.specs.declared.turning.Volume.{Volume}
use Rattle.rad_lane.specs.declared.turning.TurnFault.{TurnFault}
use Rattle.rad_lane.specs.declared.turning.TurnFault.TheVariants.{NothingToTurn, OutOfMemory}
use Rattle.rad_lane.specs.Book.{Book}
use Rattle.rad_lane.specs.Volumes.{Turns, is_below, opening_after}
use Rattle.locked_lanes.specs.Outlet.{AgreesAtItsSerial, IsOutlet}

pub outlet_turned : (old new : Book) (moment : ℕ) (result : Result Volume TurnFault) (given : List Outgoing) → Turns old moment result new → IsOutlet old given → IsOutlet new given
outlet_turned old new moment (Ok volume) given t outlet =
    subst (λ book. IsOutlet book given) (sym t.5)
    (record {
      served = outlet.served;
      in_order = outlet.in_order;
      agree = All-filter (λ answer. not (is_below (opening_after old t.0) answer)) (AgreesAtItsSerial given) old.answered outlet.agree;
    })
outlet_turned old new moment (Err NothingToTurn) given t outlet = subst (λ book. IsOutlet book given) (sym t.1) outlet
outlet_turned old new moment (Err OutOfMemory) given t outlet = subst (λ book. IsOutlet book given) (sym t.4) outlet

-- The lane's limits stay.
pub bounded_turned : (old new : Book) (moment : ℕ) (result : Result Volume TurnFault) → Turns old moment result new → old.setup.limits.queue ≤ 65536 → new.setup.limits.queue ≤ 65536
bounded_turned old new moment (Ok volume) t h = subst (λ (book : Book). book.setup.limits.queue ≤ 65536) (sym t.5) h
bounded_turned old new moment (Err NothingToTurn) t h = subst (λ (book : Book). book.setup.limits.queue ≤ 65536) (sym t.1) h
bounded_turned old new moment (Err OutOfMemory) t h = subst (λ (book : Book). book.setup.limits.queue ≤ 65536) (sym t.4) h

-- The lane's number stays.
pub numbered_turned : (old new : Book) (number moment : ℕ) (result : Result Volume TurnFault) → Turns old moment result new → old.setup.lane ≡ number → new.setup.lane ≡ number
numbered_turned old new number moment (Ok volume) t h = subst (λ (book : Book). book.setup.lane ≡ number) (sym t.5) h
numbered_turned old new number moment (Err NothingToTurn) t h = subst (λ (book : Book). book.setup.lane ≡ number) (sym t.1) h
numbered_turned old new number moment (Err OutOfMemory) t h = subst (λ (book : Book). book.setup.lane ≡ number) (sym t.4) h

pub limited_turned : (old new : Book) (limits : LimitNumbers) (moment : ℕ) (result : Result Volume TurnFault) → Turns old moment result new → old.setup.limits ≡ limits → new.setup.limits ≡ limits
limited_turned old new limits moment (Ok volume) t h = subst (λ (book : Book). book.setup.limits ≡ limits) (sym t.5) h
limited_turned old new limits moment (Err NothingToTurn) t h = subst (λ (book : Book). book.setup.limits ≡ limits) (sym t.1) h
limited_turned old new limits moment (Err OutOfMemory) t h = subst (λ (book : Book). book.setup.limits ≡ limits) (sym t.4) h
