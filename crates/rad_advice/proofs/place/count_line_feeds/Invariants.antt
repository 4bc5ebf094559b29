use Rattle.std.proofs.Common.{◌≡◌, ◌≤◌, take}
use Rattle.std.specs.List.{count_by}
use Rattle.rad_advice.specs.Place.{is_line_feed}
use Rattle.rad_advice.proofs.place.count_line_feeds.Given as goal

abbrev pub invariant-loop-octet : goal.invariant-loop-octet
invariant-loop-octet l = (l.count ≡ count_by is_line_feed (take l.octet-index l.octets)) × (l.count ≤ l.octet-index)
