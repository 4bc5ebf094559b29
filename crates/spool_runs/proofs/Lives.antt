-- What holds of a new spool, and after each happening if it did before it, holds in each life.
use Rattle.std.proofs.Common.{ℕ, List, [], ◌∷◌, ◌++◌, refl, sym, subst}
use Rattle.spool_runs.specs.World.{World, new_world}
use Rattle.spool_runs.specs.Happens.{Happening, Happens, Lives, Life}

-- one more happening
lives_on : (first : World) (happenings : List Happening) (old : World) (happening : Happening) (new : World) → Lives first happenings old → Happens old happening new → Lives first (happenings ++ happening ∷ []) new
lives_on first [] old happening new lives h = (new, subst (λ (w : World). Happens w happening new) lives h, refl)
lives_on first (one ∷ happenings) old happening new lives h = (lives.0, lives.1, lives_on lives.0 happenings old happening new lives.2 h)

pub life_on : (old : World) (happening : Happening) (new : World) → Life old → Happens old happening new → Life new
life_on old happening new life h = record {
  span = life.span;
  happenings = life.happenings ++ happening ∷ [];
  lives = lives_on (new_world life.span) life.happenings old happening new life.lives h;
}

module _ (P : World → Type 0) (first : (span : ℕ) → P (new_world span)) (step : (old : World) (happening : Happening) (new : World) → Life old → Happens old happening new → P old → P new) where
  from_there : (old : World) (happenings : List Happening) (new : World) → Life old → Lives old happenings new → P old → P new
  from_there old [] new life lives here = subst P (sym lives) here
  from_there old (happening ∷ later) new life lives here = from_there lives.0 later new (life_on old happening lives.0 life lives.1) lives.2 (step old happening lives.0 life lives.1 here)

  pub from_new : (world : World) → Life world → P world
  from_new world life = from_there (new_world life.span) life.happenings world (record { span = life.span; happenings = []; lives = refl }) life.lives (first life.span)

pub in_life : (P : World → Type 0) → ((span : ℕ) → P (new_world span)) → ((old : World) (happening : Happening) (new : World) → Happens old happening new → P old → P new) → (world : World) → Life world → P world
in_life P first step = from_new P first (λ old happening new life. step old happening new)
