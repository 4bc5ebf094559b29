-- Which line a value is, by its type; and which line octets are.
use Rattle.std.proofs.Common.{◌≡◌, ◌≢◌, ℕ, ◌<◌, ◌≤◌, List, length, codes, Option, Some, None, sym, ◌∙◌, subst, arith}
use Rattle.json.specs.Find.{get}
use Rattle.json.specs.Json.{Json, number}
use Rattle.json_objects.specs.Written.{IsValue}
use Rattle.ledger_rules.specs.declared.entry.Entry.{Entry}
use Rattle.ledger_rules.specs.declared.left.Left.{Left}
use Rattle.ledger_lines.specs.declared.begin.Begin.{Begin}
use Rattle.ledger_lines.specs.declared.end.End.{End}
use Rattle.ledger_lines.specs.declared.hidden.Hidden.{Hidden}
use Rattle.ledger_lines.specs.Lines.{Denies, HasText, IsAnswerCount, IsBegin, IsEnd, IsEntry, IsHidden, IsLeft, IsLine, IsLineOf, IsRecordCount, IsResumed, Lacks, MayHaveSum}
use Rattle.ledger_lines.specs.declared.faults.LineFault.{LineFault}
use Rattle.ledger_lines.specs.declared.reading.Line.{Line}
use Rattle.ledger_lines.specs.declared.reading.SummedLine.{SummedLine}
use Rattle.ledger_rules.specs.declared.record_count.AnswerCount.{AnswerCount}
use Rattle.ledger_rules.specs.declared.record_count.RecordCount.{RecordCount}
use Rattle.ledger_rules.specs.declared.resumed.Resumed.{Resumed}
use Rattle.ledger_lines.specs.declared.reading.Line.TheVariants.{Begin as begins, Entry as enters, Left as leaves, Unsent as unsends, Again as repeats, AgainEarlier as recalls, Resumed as resumes, End as ends, Hidden as hides}
use Rattle.ledger_lines.proofs.Lines.{denied, differ}
use Rattle.ledger_lines.proofs.Found.{same_some, one_text, unlike, TextThere}
use Rattle.ledger_lines.proofs.Parts.{ValueThere}

module _ (value : Json) where
  abbrev pub LineThere : Type 0
  LineThere = (line : Line) × IsLineOf value line

  pub type_of : LineThere → TextThere (codes "type") value
  type_of (begins b, p) = (codes "begin", p.type_is)
  type_of (enters e, p) = (codes "entry", p.type_is)
  type_of (leaves l, p) = (codes "left", p.type_is)
  type_of (unsends c, p) = (codes "unsent", p.type_is)
  type_of (repeats c, p) = (codes "again", p.type_is)
  type_of (recalls c, p) = (codes "again", p.type_is)
  type_of (resumes r, p) = (codes "resumed", p.type_is)
  type_of (ends e, p) = (codes "end", p.type_is)
  type_of (hides h, p) = (codes "hidden", p.type_is)

  pub entry_in : HasText (codes "type") value (codes "entry") → LineThere → (x : Entry) × IsEntry value x
  entry_in t (enters x, p) = (x, p)
  entry_in t (other, p) = absurd (omega (arith, unlike value _ _ t p.type_is))

  pub left_in : HasText (codes "type") value (codes "left") → LineThere → (x : Left) × IsLeft value x
  left_in t (leaves x, p) = (x, p)
  left_in t (other, p) = absurd (omega (arith, unlike value _ _ t p.type_is))

  pub begin_in : HasText (codes "type") value (codes "begin") → LineThere → (x : Begin) × IsBegin value x
  begin_in t (begins x, p) = (x, p)
  begin_in t (other, p) = absurd (omega (arith, unlike value _ _ t p.type_is))

  pub end_in : HasText (codes "type") value (codes "end") → LineThere → (x : End) × IsEnd value x
  end_in t (ends x, p) = (x, p)
  end_in t (other, p) = absurd (omega (arith, unlike value _ _ t p.type_is))

  pub hidden_in : HasText (codes "type") value (codes "hidden") → LineThere → (x : Hidden) × IsHidden value x
  hidden_in t (hides x, p) = (x, p)
  hidden_in t (other, p) = absurd (omega (arith, unlike value _ _ t p.type_is))

  pub unsent_in : HasText (codes "type") value (codes "unsent") → LineThere → (x : RecordCount) × IsRecordCount (codes "unsent") value x
  unsent_in t (unsends x, p) = (x, p)
  unsent_in t (other, p) = absurd (omega (arith, unlike value _ _ t p.type_is))

  pub again_in : HasText (codes "type") value (codes "again") → ¬ Lacks (codes "record") value → LineThere → (x : RecordCount) × IsRecordCount (codes "again") value x
  again_in t r (repeats x, p) = (x, p)
  again_in t r (recalls x, p) = absurd (r p.no_record)
  again_in t r (other, p) = absurd (omega (arith, unlike value _ _ t p.type_is))

  pub earlier_in : HasText (codes "type") value (codes "again") → Lacks (codes "record") value → LineThere → (x : AnswerCount) × IsAnswerCount value x
  earlier_in t r (recalls x, p) = (x, p)
  earlier_in t r (repeats x, p) = absurd (differ (get (codes "record") value) (number p.record_is.digits) (sym r) p.record_is.there)
  earlier_in t r (other, p) = absurd (omega (arith, unlike value _ _ t p.type_is))

  pub resumed_in : HasText (codes "type") value (codes "resumed") → LineThere → (x : Resumed) × IsResumed value x
  resumed_in t (resumes x, p) = (x, p)
  resumed_in t (other, p) = absurd (omega (arith, unlike value _ _ t p.type_is))

  module _ (text : List ℕ) (there : HasText (codes "type") value text) where
    one_type : (other : List ℕ) → HasText (codes "type") value other → text ≡ other
    one_type other also = one_text (codes "type") value text other there also

    pub other_denied : text ≢ codes "entry" → text ≢ codes "left" → text ≢ codes "begin" → text ≢ codes "end" → text ≢ codes "hidden" → text ≢ codes "unsent" → text ≢ codes "again" → text ≢ codes "resumed" → ¬ LineThere
    other_denied n l b e h u a r (begins x, p) = b (one_type (codes "begin") p.type_is)
    other_denied n l b e h u a r (enters x, p) = n (one_type (codes "entry") p.type_is)
    other_denied n l b e h u a r (leaves x, p) = l (one_type (codes "left") p.type_is)
    other_denied n l b e h u a r (unsends c, p) = u (one_type (codes "unsent") p.type_is)
    other_denied n l b e h u a r (repeats c, p) = a (one_type (codes "again") p.type_is)
    other_denied n l b e h u a r (recalls c, p) = a (one_type (codes "again") p.type_is)
    other_denied n l b e h u a r (resumes x, p) = r (one_type (codes "resumed") p.type_is)
    other_denied n l b e h u a r (ends x, p) = e (one_type (codes "end") p.type_is)
    other_denied n l b e h u a r (hides x, p) = h (one_type (codes "hidden") p.type_is)

module _ (octets : List ℕ) (fault : LineFault) where
  abbrev pub IsLineThere : Type 0
  IsLineThere = (line : SummedLine) × IsLine octets line

  pub too_long : 65536 < length octets → ¬ IsLineThere
  too_long long p = omega (arith, long, p.1.most)

  pub no_value_no_line : Denies fault (ValueThere octets) → Denies fault IsLineThere
  no_value_no_line d = denied (ValueThere octets) IsLineThere (λ p. (p.1.value, p.1.its_value)) fault d

  module _ (value : Json) (its : IsValue octets value) where
    pub no_line : Denies fault (LineThere value) → Denies fault IsLineThere
    no_line d =
        denied (LineThere value) IsLineThere
        (λ p. (p.0.line, subst (λ v. IsLineOf v p.0.line) (same_some p.1.value value (sym p.1.its_value.read ∙ its.read)) p.1.is)) fault d

    pub no_sum_no_line : Denies fault ((sum : Option (List ℕ)) × MayHaveSum (codes "sum") value sum) → Denies fault IsLineThere
    no_sum_no_line d =
        denied ((sum : Option (List ℕ)) × MayHaveSum (codes "sum") value sum) IsLineThere
        (λ p. (p.0.sum, subst (λ v. MayHaveSum (codes "sum") v p.0.sum) (same_some p.1.value value (sym p.1.its_value.read ∙ its.read)) p.1.sum)) fault d

    pub is_line : (line : SummedLine) → length octets ≤ 65536 → MayHaveSum (codes "sum") value line.sum → IsLineOf value line.line → IsLine octets line
    is_line line most sum is = record { most = most; value = value; its_value = its; sum = sum; is = is }
