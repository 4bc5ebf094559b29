use Rattle.std.proofs.Common.{◌∷◌, [], ◌++◌, List, ap, ◌∙◌}
use Rattle.spool_writer.specs.declared.parcel.Parcel.{Parcel}
use Rattle.spool_writer.proofs.giving.put_entry_into.Goals as goal

pub returns-clause-put : goal.returns-clause-put
returns-clause-put c = λ _. record {
  parcel = c.in-Some.parcel;
  head = c.in-Some.ensures.0;
  octets = c.in-Some.ensures.1;
  put = c.push_reserved.ensures.sent.0 ∙ ap (λ (l : List Parcel). l ++ c.in-Some.parcel ∷ []) c.is_full.ensures.looked.1;
}
