-- What holds of the list of all metrics: of the name, the kind and the help text of each, and of what counts the events (own).
use Rattle.std.specs.Prelude.{◌≡◌, ℕ, ◌==◌, nat_eq, nat_le, Bool, true, false, not, ◌&&◌, ◌||◌, bytes_eq, if◌then◌else◌, List, [], ◌∷◌, map, codes, count_by, filter_map, slice_get, Option, Some, None}
use Rattle.std.specs.List.{list_all, list_any, ends_with}
use denote.Enum.Bare.{sameb}
use denote.Enum.Declared.{tag_of}
use Rattle.rad_metrics.specs.contracts.counted.Counted.{the_type}
use Rattle.rad_metrics.specs.declared.counted.Counted as counted
use Rattle.rad_metrics.specs.declared.family.Kind.{Kind}
use Rattle.rad_metrics.specs.declared.family.Kind.TheVariants.{Counter, Gauge, Histogram}
use Rattle.rad_metrics.specs.declared.family.Family.{Family}
use Rattle.rad_metrics.specs.declared.metric.Metric.{Metric}
use Rattle.rad_metrics.specs.declared.metric.Metric.TheVariants.{Counted, Timed}

-- No text of a list stands in it twice.
abbrev pub are_distinct : List (List ℕ) → Bool
are_distinct [] = true
are_distinct (text ∷ rest) = not (list_any (bytes_eq text) rest) && are_distinct rest

abbrev pub HaveOwnNames : List Family → Type 0
HaveOwnNames rows = are_distinct (map (λ row. row.name.now) rows) ≡ true

-- The octets that a name may have: `a` to `z`, and `_`.
abbrev pub is_of_name : ℕ → Bool
is_of_name octet = (nat_le 97 octet && nat_le octet 122) || (octet == 95)

abbrev pub HaveRightNames : List Family → Type 0
HaveRightNames rows = list_all (λ row. list_all is_of_name row.name.now) rows ≡ true

-- What is timed is a histogram, any other metric whose name ends in `_total` a counter, and the rest are gauges.
abbrev pub kind_of : Metric → List ℕ → Kind
kind_of (Timed timed) name = Histogram
kind_of metric name = if ends_with nat_eq name (codes "_total") then Counter else Gauge

abbrev pub HaveRightKinds : List Family → Type 0
HaveRightKinds rows = map (λ row. row.kind) rows ≡ map (λ row. kind_of row.metric row.name.now) rows

-- The octets that a help text has as they are: neither a line feed nor `\`, which the format would escape.
abbrev pub is_plain : ℕ → Bool
is_plain octet = not (octet == 10) && not (octet == 92)

abbrev pub HavePlainHelps : List Family → Type 0
HavePlainHelps rows = list_all (λ row. list_all is_plain row.help.now) rows ≡ true

-- Whether a metric is the one that counts these events.
abbrev pub counts : counted.Counted → Metric → Bool
counts its (Counted other) = sameb the_type its other
counts its metric = false

abbrev pub CountsEachOnce : List Family → Type 0
CountsEachOnce rows = (its : counted.Counted) → count_by (λ row. counts its row.metric) rows ≡ 1

-- What a metric counts, if that is events.
abbrev pub counted_by : Metric → Option counted.Counted
counted_by (Counted its) = Some its
counted_by metric = None

-- Those that count events have the order of their variants, whose number tells where the words of each begin.
abbrev pub AreInOrder : List Family → Type 0
AreInOrder rows = (its : counted.Counted) → slice_get (filter_map (λ row. counted_by row.metric) rows) (tag_of the_type its) ≡ Some its
