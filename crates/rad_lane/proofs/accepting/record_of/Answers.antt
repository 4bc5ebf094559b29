use Rattle.std.proofs.Common.{◌≡◌, ◌≤◌, ◌∙◌, ℕ, List, length, refl, sym, ap, subst}
use Rattle.rad_realms.specs.Checking.{Request, IsChecked}
use Rattle.rad_lane.specs.declared.stamp.Stamp.{Stamp}
use Rattle.rad_lane.specs.Accepts.{stamp_of, record_of}
use Rattle.rad_lane.specs.Stamp.{Recorded, IsRecord, Kept}
use Rattle.rad_lane.proofs.accepting.record_of.Goals as goal

-- the parts of a record are those of the request
same_parts : (number now : ℕ) (request : Request) (stamp : Stamp) (text secret : List ℕ) → stamp ≡ stamp_of number request now → text ≡ request.text → secret ≡ request.secret → record_of number request now ≡ (let r : Recorded = record { stamp = stamp; text = text; client_secret = secret } in r)
same_parts number now request stamp text secret stamps texts secrets = λ i. record { stamp = (sym stamps) i; text = (sym texts) i; client_secret = (sym secrets) i }

is_record_of : (number now : ℕ) (request : Request) → IsChecked request → length request.text ≤ 4084 → IsRecord (record_of number request now)
is_record_of number now request checked fits = record {
  packet = checked.request.packet;
  code = checked.request.code;
  fits = fits;
  identifier = refl;
  authenticator = refl;
  unsigned = checked.request.unsigned;
  right = checked.request.right;
}

pub new-requires : goal.new-requires
new-requires c =
    let text = c.in_ok-text.ensures ∙ c.octets-octets.ensures.value ∙ c.packet.ensures.text in
    let same = same_parts c.args.number c.args.moment c.args.request.now c.stamp_of-stamp.result c.in_ok-text.text c.secret.result.now c.stamp_of-stamp.ensures text c.secret.ensures in
    subst (λ (r : Recorded). IsRecord r) same (is_record_of c.args.number c.args.moment c.args.request.now c.packet.ensures.checked c.requires)

pub returns-clause-record : goal.returns-clause-record
returns-clause-record c =
    let text = c.in_ok-text.ensures ∙ c.octets-octets.ensures.value ∙ c.packet.ensures.text in
    let same = same_parts c.args.number c.args.moment c.args.request.now c.stamp_of-stamp.result c.in_ok-text.text c.secret.result.now c.stamp_of-stamp.ensures text c.secret.ensures in
    ap (λ (kept : Kept). kept.recorded) c.new.ensures ∙ sym same
