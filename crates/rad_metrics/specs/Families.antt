-- Families of metrics in Prometheus' text format (own).
use Rattle.std.specs.Prelude.{ℕ, List, ◌++◌, codes}
use Rattle.rad_metrics.specs.declared.family.Kind.{Kind}
use Rattle.rad_metrics.specs.declared.family.Kind.TheVariants.{Counter, Gauge, Histogram}
use Rattle.rad_metrics.specs.declared.family.Family.{Family}

abbrev pub kind_text : Kind → List ℕ
kind_text Counter = codes "counter"
kind_text Gauge = codes "gauge"
kind_text Histogram = codes "histogram"

-- The lines of the help text and of the kind of a family, which precede its samples.
unfoldable pub head_text : Family → List ℕ
head_text family =
    codes "# HELP rad_proxy_" ++ family.name.now ++ codes " " ++ family.help.now
    ++ codes "\n# TYPE rad_proxy_" ++ family.name.now ++ codes " " ++ kind_text family.kind ++ codes "\n"
