use Rattle.std.proofs.Common.{◌≡◌, ◌∷◌, ◌∙◌, ◌+◌, ◌-◌, ◌/◌, ◌%◌, ◌++◌, length, take, drop, sym, ap, arith, length-take-le, length-drop}
use Rattle.rad_packet.specs.Packet.{packet_text}
use Rattle.rad_desk.specs.Leaving.{restored}
use Rattle.rad_desk.proofs.LeftTold.{restored_is, request_is}
use Rattle.rad_desk.proofs.leaving.restore.Goals as goal

pub returns : goal.returns
returns c =
    let s = c.sending-sending.result.now in
    let id = c.head-head.result.identifier in
    let auth = c.head-head.result.authenticator in
    let n = length s - 12 in
    let more = take (n - 20) (drop 20 s) in
    let len : length auth ≡ 16 = c.put_authenticator.ensures.counted in
    let count : length more ≡ n - 20 = length-take-le (n - 20) (drop 20 s) (omega (arith, length-drop 20 s)) in
    let total : n ≡ 20 + length more = omega (arith, count) in
    let made : take n c.put-2.new.buffer ≡ 4 ∷ id ∷ (n / 256) ∷ (n % 256) ∷ (auth ++ more) =
    request_is c.args.room.now c.put.new.buffer c.put_authenticator.new.packet c.put-2.new.buffer auth more 4 id (n / 256) (n % 256) 4 (4 + length auth) (20 + length more) n
    c.put.ensures c.put_authenticator.ensures.written c.put-2.ensures (omega arith) (omega (arith, len)) len total (sym total) in
    let few : n - 20 ≡ length s - 32 = omega arith in
    made
    ∙ ap (λ k. 4 ∷ id ∷ (k / 256) ∷ (k % 256) ∷ (auth ++ more)) total
    ∙ ap (λ k. packet_text 4 id auth (take k (drop 20 s))) few
    ∙ sym (restored_is c.head-head.result s (omega arith) (omega arith))
    ∙ ap (λ h. restored h s) c.head-head.ensures.value
    ∙ ap (restored c.args.reply.now.head) c.sending-sending.ensures
