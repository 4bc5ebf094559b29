use Rattle.std.proofs.Common.{◌≡◌, ◌∙◌, List, ℕ, ap, drop, refl}
use Rattle.std.proofs.lemmas.List.{take_rest}
use Rattle.rad_packet.specs.Packet.{with_attributes}
use Rattle.rad_packet.specs.Attribute.{attribute_text}
use Rattle.rad_auth.proofs.Forwards.{forwarded-made}
use Rattle.rad_auth.proofs.Signing.{response_authenticator-unknown}
use Rattle.rad_auth.proofs.forwarding.forward.Goals as goal

-- What was appended to which datagram. A wrong body breaks one of the two equations, and antt tells so at once.
appended : (old begun new xs ys : List ℕ) → new ≡ with_attributes old xs → old ≡ begun → xs ≡ ys → new ≡ with_attributes begun ys
appended old begun new xs ys added same is = added ∙ ap (λ t. with_attributes t xs) same ∙ ap (with_attributes begun) is

pub returns-clause-ok : goal.returns-clause-ok
returns-clause-ok c =
    forwarded-made c.args.request.now c.args.secret.now c.begin.new.self c.push_all.new.self c.push.new.self _ _ c.args.mark c.args.identifier
    c.begin.ensures
    (appended _ c.begin.new.self _ _ _ c.in_ok-push_all.ensures.added refl (take_rest c.octets-octets.result.now 20 ∙ ap (drop 20) c.octets-octets.ensures.value))
    (appended _ c.push_all.new.self _ _ _ c.in_ok-push.ensures.added refl (ap (λ xs. attribute_text (record { kind = 33; value = xs })) c.value.ensures))
    (response_authenticator-unknown c.args.secret.now c.push.new.self)
    c.sign_datagram.ensures
