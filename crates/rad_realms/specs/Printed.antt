-- The reasons to drop a datagram: their names and places, and how they are printed; and addresses and the faults of limits, which `rad_config` prints.
use Rattle.std.specs.Prelude.{ℕ, List, ◌++◌, codes}
use Rattle.rad_packet.specs.Faults.{read_fault_text}
use Rattle.rad_realms.specs.declared.checking.Dropped.{Dropped}
use Rattle.rad_realms.specs.declared.checking.Dropped.TheVariants.{UnknownClient, Unread, WrongCode, BadAuthenticator, BadMessageAuthenticator, MessageAuthenticatorHere, NoRealm}
pub use Rattle.rad_config.specs.Printed.{address_text, endpoint_text, limit_text}

-- The name of a reason. All read faults have one.
abbrev pub dropped_name : Dropped → List ℕ
dropped_name UnknownClient = codes "UnknownClient"
dropped_name (Unread fault) = codes "Unread"
dropped_name WrongCode = codes "WrongCode"
dropped_name BadAuthenticator = codes "BadAuthenticator"
dropped_name BadMessageAuthenticator = codes "BadMessageAuthenticator"
dropped_name MessageAuthenticatorHere = codes "MessageAuthenticatorHere"
dropped_name NoRealm = codes "NoRealm"

-- The place of a reason among all, in the order in which they are looked for. All read faults have one.
abbrev pub dropped_place : Dropped → ℕ
dropped_place UnknownClient = 0
dropped_place (Unread fault) = 1
dropped_place WrongCode = 2
dropped_place BadAuthenticator = 3
dropped_place BadMessageAuthenticator = 4
dropped_place MessageAuthenticatorHere = 5
dropped_place NoRealm = 6

-- A reason as it is printed: its name; after `Unread` follows the name of the read fault.
abbrev pub dropped_text : Dropped → List ℕ
dropped_text (Unread fault) = codes "Unread " ++ read_fault_text fault
dropped_text reason = dropped_name reason
