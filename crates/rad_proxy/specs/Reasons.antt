-- What is logged of a file that can't be read, of unread keys, faults and warnings that are not listed, and of where all other
-- realms lead (own).
use Rattle.std.specs.Prelude.{ℕ, List, ◌++◌, codes, Option, option_map, option_and_then}
use Rattle.std.specs.List.{slice_get}
use Rattle.std.specs.Fmt.{decimal}
use Rattle.rad_proxy.specs.declared.reasons.FileReason.{FileReason}
use Rattle.rad_proxy.specs.declared.reasons.FileReason.TheVariants.{Absent, Folder, TooLong, System}
use Rattle.rad_realms.specs.Configuration.{Configuration}
use Rattle.rad_proxy.specs.declared.reasons.MoreLine.{MoreLine}
use Rattle.rad_proxy.specs.declared.reasons.OtherHomeLine.{OtherHomeLine}
use Rattle.rad_proxy.specs.declared.reasons.Told.{Told}
use Rattle.rad_proxy.specs.declared.reasons.Told.TheVariants.{UnreadKeys, Faults, Warnings}

-- Why a file can't be read. After the last text the log line has the system's error.
abbrev pub file_reason_text : FileReason → List ℕ
file_reason_text Absent = codes "there is no such file"
file_reason_text Folder = codes "it is a folder"
file_reason_text TooLong = codes "it is longer than 1048576 octets"
file_reason_text System = codes "it can't be read"

-- This number is there, besides those that are logged one by one.
abbrev pub more_text : Told → List ℕ
more_text UnreadKeys = codes "event=unread-keys count="
more_text Faults = codes "event=configuration-faults count="
more_text Warnings = codes "event=configuration-warnings count="

abbrev pub more_line : MoreLine → List ℕ
more_line line = more_text line.told ++ decimal line.count

-- The name of the home server to which all realms lead that are not listed, if there is one.
abbrev pub name_of_other_home : Configuration → Option (List ℕ)
name_of_other_home c = option_map (λ home. home.name) (option_and_then (slice_get c.homes) c.other_lane)

abbrev pub other_home_line : OtherHomeLine → List ℕ
other_home_line line = codes "event=other-home home=" ++ line.home.now
