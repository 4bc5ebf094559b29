use Rattle.std.proofs.Common.{◌≡◌, ℕ, ◌+◌, ◌/◌, ◌%◌, List, [], ◌∷◌, ◌++◌, length, ap, arith, ◌∙◌}
use Rattle.md5.specs.Md5.{md5}
use Rattle.rad_auth.proofs.Signing.{accounting_response-put}
use Rattle.rad_auth.proofs.responding.write_response.Goals as goal

pub returns-clause-made : goal.returns-clause-made
returns-clause-made c =
    let sixteen : length c.args.head.authenticator ≡ 16 = omega arith in
    let before : List ℕ = c.attributes_around.result.0.now in
    let after : List ℕ = c.attributes_around.result.1.now in
    let signature : List ℕ = c.digest_of_parts-signature.result in
    let count : ℕ = 20 + length before + length after in
    let counted : count ≡ 20 + length before + length after = omega arith in
    let start : List ℕ = c.packet_start-start.result in
    let begun : start ≡ 5 ∷ c.args.head.identifier ∷ (count / 256) ∷ (count % 256) ∷ [] = c.packet_start-start.ensures in
    let whole : c.extend_from_slice-4.new.self.items ≡ start ++ signature ++ before ++ after =
    c.in_ok-extend_from_slice-4.ensures.items
    ∙ ap (λ xs. xs ++ after) c.in_ok-extend_from_slice-3.ensures.items
    ∙ ap (λ xs. xs ++ before ++ after) c.in_ok-extend_from_slice-2.ensures.items
    ∙ ap (λ xs. xs ++ signature ++ before ++ after) c.in_ok-extend_from_slice.ensures.items
    ∙ ap (λ xs. xs ++ start ++ signature ++ before ++ after) c.in_ok-octets.ensures.items in
    let signed = c.digest_of_parts-signature.ensures ∙ ap (λ xs. md5 (xs ++ c.args.head.authenticator ++ before ++ after ++ c.args.client.now)) begun in
    whole
    ∙ ap (λ xs. xs ++ signature ++ before ++ after) begun
    ∙ accounting_response-put c.args.head.identifier c.args.head.authenticator before after _ c.args.client.now signature count sixteen counted c.attributes_around.ensures.others signed
