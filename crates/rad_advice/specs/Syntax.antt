-- Which octets are TOML, and the places in a text (own).
use Rattle.std.specs.Prelude.{◌≡◌, ℕ, ◌≤◌, List, length, IsUtf8, IsSome}
use Rattle.toml.specs.Parse.{parse_document}
use Rattle.rad_advice.specs.declared.config_text.TextFault.{TextFault}
use Rattle.rad_advice.specs.declared.config_text.TextFault.TheVariants.{NoToml, OutOfMemory}
use Rattle.rad_advice.specs.declared.place.TextPlace.{TextPlace}
use Rattle.rad_advice.specs.declared.syntax.SyntaxError.{SyntaxError}
use Rattle.rad_advice.specs.Place.{place_at}

abbrev pub IsToml : List ℕ → Type 0
IsToml text = IsUtf8 text × IsSome (parse_document text)

-- The place of an octet of the text, or of its end.
abbrev pub IsPlaceIn : List ℕ → TextPlace → Type 0
IsPlaceIn text place = (offset : ℕ) × (offset ≤ length text) × (place ≡ place_at offset text)

-- What holds of the error of octets that are not TOML.
abbrev pub IfNoToml : TextFault → (SyntaxError → Type 0) → Type 0
IfNoToml (NoToml error) P = P error
IfNoToml OutOfMemory P = Unit {0}
