use Rattle.std.proofs.Common.{sym, subst, refl, ◌∙◌, rules}
use Rattle.std.proofs.lemmas.Bool.{false≢true}
use Rattle.rad_auth.specs.Status.{IsRightStatus}
use Rattle.rad_realms.proofs.checking.check_status_server.Goals as goal

pub invariant_of-result : goal.invariant_of-result
invariant_of-result c = record {
  packet = search rules;
  code = c.requires;
  right = c.check_status-right.ensures.0 c.if-right.true;
}

pub returns-then-right : goal.returns-then-right
returns-then-right c = record {
  checked = record {
    packet = search rules;
    code = c.requires;
    right = c.check_status-right.ensures.0 c.if-right.true;
  };
  same_text = refl;
  same_secret = c.secret-secret.ensures;
}

pub returns-else-right : goal.returns-else-right
returns-else-right c = (
  c.requires,
  λ right. false≢true (sym c.if-right.false ∙ c.check_status-right.ensures.1 (subst (λ s. IsRightStatus s c.args.packet) (sym c.secret-secret.ensures) right)),
)
