use Rattle.std.proofs.Common.{◌≡◌, take, map}
use Rattle.std.specs.Prelude.{string_bytes}
use Rattle.ledger_writer.proofs.run_names.RunNames.new.Given as goal

-- The names of the home servers so far.
abbrev pub invariant-loop-home : goal.invariant-loop-home
invariant-loop-home l = map string_bytes l.names.items ≡ map (λ home. home.name) (take l.home-index l.homes)
