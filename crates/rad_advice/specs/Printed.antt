-- The printed reports on a configuration (own).
use Rattle.std.specs.Prelude.{ℕ, nat_le, Bool, if◌then◌else◌, List, [], ◌++◌, length, take, codes, Option, Some, None, string_bytes}
use Rattle.std.specs.Fmt.{decimal}
use Rattle.rad_log.specs.Escaped.{escaped}
use Rattle.rad_config.specs.declared.reading.faults.Part.{Part}
use Rattle.rad_realms.specs.Spot.{part_name, index_text}
use Rattle.rad_realms.specs.Printed.{endpoint_text}
use Rattle.rad_advice.specs.declared.place.TextPlace.{TextPlace}
use Rattle.rad_advice.specs.declared.syntax.SyntaxError.{SyntaxError}
use Rattle.rad_advice.specs.declared.unread.UnreadKey.{UnreadKey}
use Rattle.rad_advice.specs.declared.homes.HomeAdvice.{HomeAdvice}
use Rattle.rad_advice.specs.declared.homes.AddressFault.{AddressFault}
use Rattle.rad_advice.specs.declared.homes.AddressFault.TheVariants.{Listen, Unspecified, Broadcast, Multicast, Reserved}

abbrev pub place_text : TextPlace → List ℕ
place_text place = codes "line " ++ decimal place.line ++ codes ", column " ++ decimal place.column

abbrev pub syntax_text : SyntaxError → List ℕ
syntax_text e = place_text e.place ++ codes ": " ++ string_bytes e.message

-- A name: its first 64 octets, as in a line of the log, and `..` if it has more.
abbrev pub name_text : List ℕ → List ℕ
name_text name = if nat_le (length name) 64 then escaped None name else escaped None (take 64 name) ++ codes ".."

abbrev pub table_text : Part → ℕ → List ℕ
table_text part index = part_name part ++ index_text part index

abbrev pub at_text : Option TextPlace → List ℕ
at_text None = []
at_text (Some place) = codes " at " ++ place_text place

-- A key by its name, if that is near a known one.
abbrev pub key_text : Bool → List ℕ → List ℕ
key_text near name = if near then name_text name else codes "a key"

abbrev pub unread_text : UnreadKey → List ℕ
unread_text k = table_text k.key.part k.key.index ++ key_text k.is_near k.key.name.now ++ at_text k.place

abbrev pub address_fault_text : AddressFault → List ℕ
address_fault_text Listen = codes "listen serves it, so requests would come back"
address_fault_text Unspecified = codes "no host has this address"
address_fault_text Broadcast = codes "it is the broadcast address"
address_fault_text Multicast = codes "it is a multicast address"
address_fault_text Reserved = codes "it is a reserved address"

abbrev pub home_advice_text : HomeAdvice → List ℕ
home_advice_text a = codes "home " ++ a.name.now ++ codes " at " ++ endpoint_text a.endpoint ++ codes ": " ++ address_fault_text a.fault
