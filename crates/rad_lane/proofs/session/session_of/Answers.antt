use Rattle.std.proofs.Common.{◌≡◌, ◌∙◌, sym, ap, ◌==◌, true, false, arith}
use Rattle.std.proofs.lemmas.Bool.Decides.{nat_tests}
use Rattle.rad_packet.specs.Attribute.{attributes_of}
use Rattle.rad_packet.specs.Item.{attribute_at}
use Rattle.rad_realms.proofs.FirstValue.{first_value, first_here, first_later}
use Rattle.rad_lane.proofs.Sessions.{session_is}
use Rattle.rad_lane.proofs.session.session_of.Goals as goal

pub loop-attribute-init : goal.loop-attribute-init
loop-attribute-init c =
    rw (c.into_iter-attribute-iterator.ensures.into_iter_gives, c.attributes-attribute-items.ensures.attributes) (session_is c.args.packet.now)

pub returns-then-attribute-eq-ACCT_SESSION_ID : goal.returns-then-attribute-eq-ACCT_SESSION_ID
returns-then-attribute-eq-ACCT_SESSION_ID c =
    let same : (c.in-Some.attribute.kind == 44) ≡ true = grind (arith, nat_tests) in
    sym (first_here 44 (attribute_at c.in-Some.attribute) (attributes_of c.next.new.self) same) ∙ ap (first_value 44) (sym c.in-Some.ensures.steps) ∙ c.loop-attribute.invariant

pub loop-attribute-preserved : goal.loop-attribute-preserved
loop-attribute-preserved c =
    let other : (c.in-Some.attribute.kind == 44) ≡ false = grind (arith, nat_tests) in
    sym (first_later 44 (attribute_at c.in-Some.attribute) (attributes_of c.next.new.self) other) ∙ ap (first_value 44) (sym c.in-Some.ensures.steps) ∙ c.loop-attribute.invariant

pub returns : goal.returns
returns c = sym (ap (first_value 44) c.in-None.ensures.steps.0) ∙ c.loop-attribute.invariant
