-- Samples in Prometheus' text format (own).
use Rattle.std.specs.Prelude.{ℕ, List, ◌++◌, codes, Option, Some, None}
use Rattle.std.specs.Fmt.{decimal}
use Rattle.rad_log.specs.Escaped.{escaped}
use Rattle.rad_realms.specs.Printed.{address_text, endpoint_text}
use Rattle.rad_metrics.specs.Buckets.{bound_text}
use Rattle.rad_metrics.specs.Reasons.{reason_name}
use Rattle.rad_metrics.specs.Values.{value_text}
use Rattle.rad_metrics.specs.declared.sample.Label.{Label}
use Rattle.rad_metrics.specs.declared.sample.Label.TheVariants as label
use Rattle.rad_metrics.specs.declared.reason.Reason.{Reason}
use Rattle.rad_metrics.specs.declared.reason.Reason.TheVariants as reason
use Rattle.rad_metrics.specs.declared.value.Value.{Value}

-- The key of a reason's label.
abbrev pub reason_key : Reason → List ℕ
reason_key (reason.Repeat why) = codes "repeat"
reason_key why = codes "reason"

-- A realm's label. In its name `\` is escaped too.
abbrev pub realm_label : List ℕ → List ℕ
realm_label name = codes "realm=\"" ++ escaped (Some 92) name ++ codes "\""

-- The label of all realms that are in no row of the table. A name in the table has no `@`.
abbrev pub others_realm_label : List ℕ
others_realm_label = codes "realm=\"@other\""

-- The labels of a lane: its number and its home server's name.
unfoldable pub home_labels : ℕ → List ℕ → List ℕ
home_labels lane home = codes "lane=\"" ++ decimal lane ++ codes "\",home=\"" ++ home ++ codes "\""

-- The text of a label.
abbrev pub label_text : Label → List ℕ
label_text (label.Version version) = codes "version=\"" ++ version.now ++ codes "\""
label_text label.Clients = codes "side=\"clients\""
label_text (label.Client address) = codes "client=\"" ++ address_text address ++ codes "\""
label_text (label.Home lane home) = home_labels lane home.now
label_text (label.Realm name) = realm_label name.now
label_text label.OtherRealms = others_realm_label
label_text (label.Reason why) = reason_key why ++ codes "=\"" ++ reason_name why ++ codes "\""
label_text (label.Bound bucket) = codes "le=\"" ++ bound_text bucket ++ codes "\""
label_text (label.Port place) = codes "port=\"" ++ decimal place ++ codes "\""
label_text (label.Socket at) = codes "socket=\"" ++ endpoint_text at ++ codes "\""

-- The label of all realms that are in no row of the table, if they lead to this lane. Without a lane there is none.
abbrev pub others_label : Option ℕ → Option Label
others_label None = None
others_label (Some lane) = Some label.OtherRealms

-- The labels of a sample, its owner's and another one: in braces, with a comma between two, and nothing where it has none.
abbrev pub labels_text : Option Label → Option Label → List ℕ
labels_text None None = codes ""
labels_text (Some owner) None = codes "{" ++ label_text owner ++ codes "}"
labels_text None (Some label) = codes "{" ++ label_text label ++ codes "}"
labels_text (Some owner) (Some label) = codes "{" ++ label_text owner ++ codes "," ++ label_text label ++ codes "}"

-- The line of a sample: its name, its labels and its value.
abbrev pub sample_text : List ℕ → List ℕ → Value → List ℕ
sample_text name labels value = codes "rad_proxy_" ++ name ++ labels ++ codes " " ++ value_text value ++ codes "\n"
