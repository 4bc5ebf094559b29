-- The places of faults in a configuration, and its faults as they are printed (own).
use Rattle.std.specs.Prelude.{ℕ, List, ◌++◌, codes}
use Rattle.std.specs.Fmt.{decimal}
use Rattle.rad_config.specs.declared.reading.faults.Part.{Part}
use Rattle.rad_config.specs.declared.reading.faults.Part.TheVariants as part
use Rattle.rad_config.specs.declared.reading.faults.Key.{Key}
use Rattle.rad_config.specs.declared.reading.faults.Key.TheVariants.{Listen, DefaultHome, OtherHome, Linger, Client, Home, Realm, Address, Secret, Name, Window, Queue, Book, Tries, FirstWait, ProbeEvery, DownWait, Span, Ring, Ports}
use Rattle.rad_config.specs.declared.reading.faults.Spot.{Spot}
use Rattle.rad_config.specs.declared.reading.faults.ConfigFault.{ConfigFault}
use Rattle.rad_config.specs.declared.reading.faults.ConfigFault.TheVariants.{Toml, OutOfMemory, Missing, WrongType, OutOfRange, DoubleName, UnknownHome, BadAddress, TooMany}

abbrev pub part_name : Part → List ℕ
part_name part.Top = codes "top"
part_name part.Client = codes "client"
part_name part.Home = codes "home"
part_name part.Realm = codes "realm"

abbrev pub key_name : Key → List ℕ
key_name Listen = codes "listen"
key_name DefaultHome = codes "default_home"
key_name OtherHome = codes "other_home"
key_name Linger = codes "linger"
key_name Client = codes "client"
key_name Home = codes "home"
key_name Realm = codes "realm"
key_name Address = codes "address"
key_name Secret = codes "secret"
key_name Name = codes "name"
key_name Window = codes "window"
key_name Queue = codes "queue"
key_name Book = codes "book"
key_name Tries = codes "tries"
key_name FirstWait = codes "first_wait"
key_name ProbeEvery = codes "probe_every"
key_name DownWait = codes "down_wait"
key_name Span = codes "span"
key_name Ring = codes "ring"
key_name Ports = codes "ports"

-- the text after the part: the index, which the top does not have
abbrev pub index_text : Part → ℕ → List ℕ
index_text part.Top index = codes " "
index_text part.Client index = codes " " ++ decimal index ++ codes " "
index_text part.Home index = codes " " ++ decimal index ++ codes " "
index_text part.Realm index = codes " " ++ decimal index ++ codes " "

abbrev pub spot_text : Spot → List ℕ
spot_text s = part_name s.part ++ index_text s.part s.index ++ key_name s.key

-- the text of a fault after `configuration: `
abbrev pub fault_text : ConfigFault → List ℕ
fault_text Toml = codes "Toml"
fault_text OutOfMemory = codes "OutOfMemory"
fault_text (Missing s) = codes "Missing at " ++ spot_text s
fault_text (WrongType s) = codes "WrongType at " ++ spot_text s
fault_text (OutOfRange s) = codes "OutOfRange at " ++ spot_text s
fault_text (DoubleName s) = codes "DoubleName at " ++ spot_text s
fault_text (UnknownHome s) = codes "UnknownHome at " ++ spot_text s
fault_text (BadAddress s) = codes "BadAddress at " ++ spot_text s
fault_text (TooMany s) = codes "TooMany at " ++ spot_text s
