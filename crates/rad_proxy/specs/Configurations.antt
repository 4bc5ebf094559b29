-- Configurations that are read from a file, and their counts (own).
use Rattle.std.specs.Prelude.{◌≡◌, ◌≤◌, ℕ, List, length, Option, IfSome, Ok}
use Rattle.rad_realms.specs.Configuration.{Configuration}
use Rattle.rad_console.specs.Lines.{counts_of}
use Rattle.rad_console.specs.declared.lines.CountLine.{CountLine}
use Rattle.rad_files.specs.Configurations.{ReadsOctets}

-- The configuration is that of a text of at most `most` octets. The text is the octets given, if these are known.
pub record IsLoaded (given : Option (List ℕ)) (most : ℕ) (config : Configuration) : Type 0 where
  pub text : List ℕ
  pub whole : IfSome given (λ octets. text ≡ octets)
  pub bounded : length text ≤ most
  pub reads : ReadsOctets text (Ok config)

-- The counts are those of such a configuration.
pub record IsCounted (given : Option (List ℕ)) (most : ℕ) (line : CountLine) : Type 0 where
  pub config : Configuration
  pub loaded : IsLoaded given most config
  pub counts : line ≡ counts_of config
