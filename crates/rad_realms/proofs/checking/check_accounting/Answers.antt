use Rattle.std.proofs.Common.{sym, subst, refl, ◌∙◌, rules}
use Rattle.std.proofs.lemmas.Bool.{false≢true}
use Rattle.std.proofs.lemmas.Result.{err_from_is_err_and}
use Rattle.rad_auth.specs.Authenticator.{IsRightRequest}
use Rattle.rad_realms.proofs.Lanes.{realm_is, lane_is}
use Rattle.rad_realms.proofs.checking.check_accounting.Goals as goal

pub returns-then-not-check_request : goal.returns-then-not-check_request
returns-then-not-check_request c = (
  c.requires.code,
  λ right. false≢true (sym c.if-not-check_request.true ∙ c.check_request.ensures.1 (subst (λ s. IsRightRequest s c.args.packet) (sym c.secret.ensures) right)),
)

pub returns-in_err-name : goal.returns-in_err-name
returns-in_err-name c =
    let p = err_from_is_err_and c.from_residual.result c.from_residual.ensures.1 in
    let right = subst (λ s. IsRightRequest s c.args.packet) c.secret.ensures (c.check_request.ensures.0 c.if-not-check_request.false) in
    rw (p.1, p.2, c.in_err-name.ensures.0) (c.requires.code, right, c.in_err-name.ensures.1)

pub invariant_of-result : goal.invariant_of-result
invariant_of-result c =
    let right = subst (λ s. IsRightRequest s c.args.packet) c.secret.ensures (c.check_request.ensures.0 c.if-not-check_request.false) in
    let realm = realm_is c.args.packet _ _ c.realm_of_name-realm.ensures c.in_ok-name.ensures.1 in (
      record {
        request = record { packet = search rules; code = c.requires.code; right = right; unsigned = c.in_ok-name.ensures.0 };
        client = c.requires.client;
        lane = lane_is c.args.config.now c.args.packet _ _ c.in-Some.ensures.lane realm;
        within = c.in-Some.ensures.within;
      },
      realm,
      c.in-Some.ensures.rank,
    )

pub returns-in-Some : goal.returns-in-Some
returns-in-Some c =
    let right = subst (λ s. IsRightRequest s c.args.packet) c.secret.ensures (c.check_request.ensures.0 c.if-not-check_request.false) in
    let realm = realm_is c.args.packet _ _ c.realm_of_name-realm.ensures c.in_ok-name.ensures.1 in
    record {
      checked = record {
        request = record { packet = search rules; code = c.requires.code; right = right; unsigned = c.in_ok-name.ensures.0 };
        client = c.requires.client;
        lane = lane_is c.args.config.now c.args.packet _ _ c.in-Some.ensures.lane realm;
        within = c.in-Some.ensures.within;
      };
      same_config = refl;
      same_text = refl;
      same_client = refl;
      same_port = refl;
      same_secret = refl;
    }

pub returns-in-None : goal.returns-in-None
returns-in-None c =
    let right = subst (λ s. IsRightRequest s c.args.packet) c.secret.ensures (c.check_request.ensures.0 c.if-not-check_request.false) in
    let realm = realm_is c.args.packet _ _ c.realm_of_name-realm.ensures c.in_ok-name.ensures.1 in (
      record { packet = search rules; code = c.requires.code; right = right; unsigned = c.in_ok-name.ensures.0 },
      lane_is c.args.config.now c.args.packet _ _ c.in-None.ensures.lane realm,
    )
