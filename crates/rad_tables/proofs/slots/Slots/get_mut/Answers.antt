use Rattle.std.specs.Borrow.{Bor}
use Rattle.std.specs.Option.{option_copied}
use Rattle.std.proofs.lemmas.Bool.{false≢true}
use Rattle.std.proofs.Common.{◌≡◌, Option, Some, None, is_some, false, refl, sym, ap, ◌∙◌}
use Rattle.rad_tables.proofs.slots.Slots.get_mut.Goals as goal

some_copied : {X : Type 0} (o : Option (Bor X)) → is_some (option_copied o) ≡ is_some o
some_copied None = refl
some_copied (Some x) = refl

none_copied : {X : Type 0} (o : Option (Bor X)) → is_some o ≡ false → option_copied o ≡ None
none_copied None h = refl
none_copied (Some x) h = absurd (false≢true (sym h))

pub entry_mut-requires : goal.entry_mut-requires
entry_mut-requires g c = ap is_some (sym c.get.ensures.value) ∙ some_copied c.get.result ∙ sym c.is_some.ensures ∙ c.if-is_some.true

pub returns-then-is_some : goal.returns-then-is_some
returns-then-is_some g c = (
  refl,
  record {
    writes_back = tt;
    value = sym c.entry_mut.ensures.value;
    in_range = λ _. c.get.ensures.in_range (sym c.is_some.ensures ∙ c.if-is_some.true);
  },
)

pub returns-else-is_some : goal.returns-else-is_some
returns-else-is_some g c = (
  refl,
  record {
    writes_back = tt;
    value = sym (none_copied c.get.result (sym c.is_some.ensures ∙ c.if-is_some.false)) ∙ c.get.ensures.value;
    in_range = λ wrong. absurd (false≢true wrong);
  },
)
