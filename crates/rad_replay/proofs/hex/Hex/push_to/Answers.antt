use Rattle.std.proofs.Common.{◌≡◌, ◌+◌, ◌∷◌, [], ◌++◌, take, get_or, append_assoc, ap, sym, ◌∙◌, arith}
use Rattle.std.proofs.lemmas.List.{append-nil, take_all, take_more}
use Rattle.rad_replay.specs.Hex.{octets_of}
use Rattle.rad_replay.proofs.hex.Hex.push_to.Goals as goal

pub loop-index-init : goal.loop-index-init
loop-index-init c = record {
  items = c.in_ok-reserve.ensures.items ∙ sym (append-nil c.args.octets.now.items);
  len = omega arith;
  room = omega (arith, c.in_ok-reserve.ensures.ok, c.count.ensures);
}

pub loop-index-preserved : goal.loop-index-preserved
loop-index-preserved c =
    let octets = octets_of c.args.self.now in
    let index = c.loop-index.index in
    let before = c.args.octets.now.items in
    let next : take (index + 1) octets ≡ take index octets ++ get_or octets index 0 ∷ [] = take_more octets index 0 (omega arith) in
    record {
      items = c.push_reserved.ensures.items
          ∙ ap (λ xs. xs ++ c.octet_at.result ∷ []) c.loop-index.invariant.items
          ∙ append_assoc before (take index octets) (c.octet_at.result ∷ [])
          ∙ ap (λ xs. before ++ xs) (ap (λ x. take index octets ++ x ∷ []) c.octet_at.ensures ∙ sym next);
      len = omega arith;
      room = omega arith;
    }

pub octet_at-requires : goal.octet_at-requires
octet_at-requires c = omega arith

pub push_reserved-requires : goal.push_reserved-requires
push_reserved-requires c = omega arith

pub returns : goal.returns
returns c =
    let octets = octets_of c.args.self.now in
    let whole : take c.loop-index.index octets ≡ octets = take_all c.loop-index.index octets (omega arith) in
    record {
      added = c.loop-index.invariant.items ∙ ap (λ xs. c.args.octets.now.items ++ xs) whole;
      len = omega arith;
      refused = tt;
    }
