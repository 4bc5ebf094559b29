-- What a call leaves as it was of a worker's shift (own).
use Rattle.std.specs.Prelude.{◌≡◌}
use Rattle.rad_desk.specs.declared.shift.Shift.{Shift}

-- The worker still has the same wire and the same lanes, and began no turn.
pub record Keeps {R W G : Type 0} (old new : Shift R W G) : Type 0 where
  pub wire : new.wire.ghost_name ≡ old.wire.ghost_name
  pub proxy : new.proxy.now ≡ old.proxy.now
  pub turns : new.tally.turns ≡ old.tally.turns
