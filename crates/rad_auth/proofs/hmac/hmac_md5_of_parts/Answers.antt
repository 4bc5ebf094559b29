use Rattle.std.proofs.Common.{◌≡◌, List, ℕ, ◌++◌, append_assoc, ◌∙◌}
use Rattle.md5.specs.Md5.{md5}
use Rattle.rad_auth.specs.Hmac.{hmac_md5, each_xor, key_block}
use Rattle.rad_auth.proofs.hmac.hmac_md5_of_parts.Goals as goal

-- two digests, the inner one of three parts
hmac_md5_is : (key inner outer first second third inside : List ℕ) → inner ≡ each_xor 0x36 (key_block key) → outer ≡ each_xor 0x5c (key_block key) → inside ≡ md5 (inner ++ first ++ second ++ third) → md5 (outer ++ inside) ≡ hmac_md5 key (first ++ second ++ third)
unfolding hmac_md5
hmac_md5_is key inner outer first second third inside i o d = simp (d, i, o, append_assoc)

pub returns : goal.returns
returns c =
    let inside = c.finalize.ensures _ (c.update-4.ensures _ (c.update-3.ensures _ (c.update-2.ensures _ (c.update.ensures _ c.new-inner.ensures)))) in
    let outside = c.finalize-2.ensures _ (c.update-6.ensures _ (c.update-5.ensures _ c.new-outer.ensures)) in
    outside ∙ hmac_md5_is c.args.key.now _ _ c.args.first.now c.args.second.now c.args.third.now _ (cc) (cc) inside
