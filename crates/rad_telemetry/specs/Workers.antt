-- The names of the workers of a configuration (own).
use Rattle.std.specs.Prelude.{ℕ, ◌-◌, ◌==◌, if◌then◌else◌, List, codes, slice_get, Option, Some, None}
use Rattle.rad_realms.specs.Configuration.{Configuration, HomeEntry}

-- The name of a home server, or `none` if there is no such one.
abbrev pub home_text : Option HomeEntry → List ℕ
home_text None = codes "none"
home_text (Some home) = home.name

-- The name of the worker in a row: `front`, or the name of its lane's home server.
abbrev pub worker_text : Configuration → ℕ → List ℕ
worker_text config row = if row == 0 then codes "front" else home_text (slice_get config.homes (row - 1))
