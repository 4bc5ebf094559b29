-- What the lines of a run name.
use Rattle.std.specs.Prelude.{◌≡◌, List, String, map, string_bytes}
use Rattle.rad_realms.specs.Configuration.{HomeEntry}

-- These are the names of these home servers, in their order.
abbrev pub AreNamesOf : {A : Type 0} → List HomeEntry → List (String A) → Type 0
AreNamesOf homes names = map string_bytes names ≡ map (λ home. home.name) homes
