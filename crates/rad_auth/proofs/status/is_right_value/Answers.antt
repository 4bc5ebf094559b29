use Rattle.std.proofs.Common.{◌≡◌, ◌+◌, ◌-◌, ◌++◌, length, take, drop, slice_range, Decides, ap, sym, ◌∙◌}
use Rattle.std.proofs.lemmas.Bool.Decides.{Decides-eqb}
use Rattle.std.proofs.lemmas.List.{take_rest}
use Rattle.std.proofs.lemmas.Slice.Eq.{slice_eq-Decides}
use Rattle.rad_auth.specs.Hmac.{hmac_md5}
use Rattle.rad_auth.specs.Status.{no_value}
use Rattle.rad_auth.specs.internal.Zeroed.{zeroed_at}
use Rattle.rad_auth.proofs.status.is_right_value.Goals as goal

pub returns : goal.returns
unfolding no_value zeroed_at
returns c =
    let text = c.args.packet.now in
    let place = c.args.place in
    let value : c.as_slice.result.now ≡ hmac_md5 c.args.secret.now (zeroed_at place text) =
    c.as_slice.ensures ∙ c.hmac_md5_of_parts.ensures
    ∙ ap (λ key. hmac_md5 key (take place text ++ no_value ++ take (length text - (place + 16)) (drop (place + 16) text))) c.octets.ensures.value
    ∙ ap (λ xs. hmac_md5 c.args.secret.now (take place text ++ no_value ++ xs)) (take_rest text (place + 16)) in
    let same : Decides c.eq.result (slice_range text place (place + 16) ≡ c.as_slice.result.now) =
    slice_eq-Decides Decides-eqb (slice_range text place (place + 16)) c.as_slice.result.now c.eq.result c.eq.ensures in
    (λ t. same.0 t ∙ value, λ e. same.1 (e ∙ sym value))
