-- What texts and numbers at the keys of a line show of its kind and its counts.
use Rattle.std.proofs.Common.{◌≡◌, ◌≢◌, ℕ, ◌<◌, ◌≤◌, ◌^◌, List, codes, Option, Some, None, sym, ap, ◌∙◌, arith}
use Rattle.json.specs.Json.{Json, string}
use Rattle.json.specs.Find.{get, as_str}
use Rattle.ledger_lines.specs.Lines.{Denies, HasKind, HasNumber, HasSome, HasText, MayHaveKind, MayHaveNumber, kind_text}
use Rattle.ledger_lines.specs.declared.faults.LineFault.{LineFault}
use Rattle.ledger_lines.specs.declared.hidden.HiddenKind.{HiddenKind}
use Rattle.ledger_lines.specs.declared.hidden.HiddenKind.TheVariants.{Entry, Left, Unsent, Again, Resumed}
use Rattle.ledger_lines.proofs.Lines.{denied, differ}
use Rattle.ledger_lines.proofs.Found.{one_number, same_some, NumberThere, TextThere}

module _ (value : Json) where
  abbrev pub KindThere : Type 0
  KindThere = (kind : HiddenKind) × HasKind value kind

  module _ (text : List ℕ) (t : HasText (codes "kind") value text) where
    one_kind : (other : List ℕ) → HasText (codes "kind") value other → text ≡ other
    one_kind other also = same_some text other (ap as_str (same_some (string text) (string other) (sym t ∙ also)))

    pub no_kind : text ≢ codes "entry" → text ≢ codes "left" → text ≢ codes "unsent" → text ≢ codes "again" → text ≢ codes "resumed" → ¬ KindThere
    no_kind e l u a r (Entry, h) = e (one_kind (codes "entry") h)
    no_kind e l u a r (Left, h) = l (one_kind (codes "left") h)
    no_kind e l u a r (Unsent, h) = u (one_kind (codes "unsent") h)
    no_kind e l u a r (Again, h) = a (one_kind (codes "again") h)
    no_kind e l u a r (Resumed, h) = r (one_kind (codes "resumed") h)

  pub no_kind_text : (fault : LineFault) → Denies fault (TextThere (codes "kind") value) → Denies fault KindThere
  no_kind_text fault d = denied (TextThere (codes "kind") value) KindThere (λ p. (kind_text p.0, p.1)) fault d

  abbrev pub KindIfAnyThere : Type 0
  KindIfAnyThere = (kind : Option HiddenKind) × MayHaveKind value kind

  pub kind_none : None ≡ get (codes "kind") value → MayHaveKind value None
  kind_none e = sym e

  kind_of : (found : Json) → Some found ≡ get (codes "kind") value → KindIfAnyThere → KindThere
  kind_of found f (None, n) = absurd (differ (get (codes "kind") value) found (sym n) (sym f))
  kind_of found f (Some kind, h) = (kind, h)

  pub no_kind_if_any : (fault : LineFault) (found : Json) → Some found ≡ get (codes "kind") value → Denies fault KindThere → Denies fault KindIfAnyThere
  no_kind_if_any fault found f d = denied KindThere KindIfAnyThere (kind_of found f) fault d

  -- how often
  abbrev pub SomeThere : Type 0
  SomeThere = (its : ℕ) × HasSome value its

  pub no_some : (n : ℕ) → HasNumber (codes "count") (2 ^ 64) value n → n ≡ 0 → ¬ SomeThere
  no_some n h e (its, s) = omega (arith, one_number (codes "count") value (2 ^ 64) (2 ^ 64) n its h s.there, e, s.some)

  pub no_count_there : (fault : LineFault) → Denies fault (NumberThere (codes "count") value (2 ^ 64)) → Denies fault SomeThere
  no_count_there fault d = denied (NumberThere (codes "count") value (2 ^ 64)) SomeThere (λ p. (p.0, p.1.there)) fault d

module _ (key : List ℕ) (value : Json) where
  abbrev ShortIfAnyThere : Type 0
  ShortIfAnyThere = (its : Option ℕ) × MayHaveNumber key (2 ^ 16) value its

  short_of : (found : Json) → Some found ≡ get key value → ShortIfAnyThere → NumberThere key value (2 ^ 16)
  short_of found f (None, n) = absurd (differ (get key value) found (sym n) (sym f))
  short_of found f (Some its, h) = (its, h)

  pub no_short_if_any : (fault : LineFault) (found : Json) → Some found ≡ get key value → Denies fault (NumberThere key value (2 ^ 16)) → Denies fault ((its : Option ℕ) × MayHaveNumber key (2 ^ 16) value its)
  no_short_if_any fault found f d = denied (NumberThere key value (2 ^ 16)) ((its : Option ℕ) × MayHaveNumber key (2 ^ 16) value its) (short_of found f) fault d
