use Rattle.std.proofs.Common.{◌≡◌, ◌≤◌, take}
use Rattle.std.specs.List.{count_by}
use Rattle.rad_advice.specs.Place.{begins_character}
use Rattle.rad_advice.proofs.place.count_characters.Given as goal

abbrev pub invariant-loop-octet : goal.invariant-loop-octet
invariant-loop-octet l = (l.count ≡ count_by begins_character (take l.octet-index l.octets)) × (l.count ≤ l.octet-index)
