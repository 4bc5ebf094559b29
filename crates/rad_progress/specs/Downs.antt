-- How long a home server is marked down, and when the next probe is (own).
use Rattle.std.specs.Prelude.{◌≡◌, ⊤, ℕ}
use Rattle.rad_lane.specs.declared.watch.Watch.{Watch}
use Rattle.rad_lane.specs.declared.watch.Watch.TheVariants.{Up as up, Down as down}
use Rattle.rad_lane.specs.declared.stepping.Action.{Action}
use Rattle.rad_lane.specs.declared.stepping.Action.TheVariants.{Probed, WentDown, WentUp}
use Rattle.rad_lane.specs.declared.running.GivenAnswer.{GivenAnswer}
use Rattle.rad_lane.specs.declared.running.GivenAnswer.TheVariants.{Step as stepped}

-- If the home server is marked down, then until this moment.
abbrev pub IsUpOrDownUntil : ℕ → Watch → Type 0
IsUpOrDownUntil until up = ⊤
IsUpOrDownUntil until (down its_until next out) = its_until ≡ until

-- And if so, the next probe is due at this moment.
abbrev pub ProbesNextAt : ℕ → Watch → Type 0
ProbesNextAt moment up = ⊤
ProbesNextAt moment (down until its_next out) = its_next ≡ moment

-- The call did not mark the home server down; and it did not probe it either.
abbrev pub IsNotDown : GivenAnswer → Type 0
IsNotDown (stepped WentDown) = ⊥
IsNotDown answer = ⊤

abbrev pub IsNoProbe : GivenAnswer → Type 0
IsNoProbe (stepped WentDown) = ⊥
IsNoProbe (stepped (Probed slot)) = ⊥
IsNoProbe answer = ⊤

-- The call did not mark the home server up.
abbrev pub IsNotUp : GivenAnswer → Type 0
IsNotUp (stepped WentUp) = ⊥
IsNotUp answer = ⊤

-- A step that probes the home server, or marks it up.
abbrev pub ProbesOrGoesUp : Action → Type 0
ProbesOrGoesUp (Probed slot) = ⊤
ProbesOrGoesUp WentUp = ⊤
ProbesOrGoesUp action = ⊥
