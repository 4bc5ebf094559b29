use Rattle.std.proofs.Common.{List, ℕ, Vec, Global, ap, ◌∙◌}
use Rattle.std.proofs.lemmas.List.{take_all}
use Rattle.rad_realms.specs.Realm.{realms_of}
use Rattle.rad_lane.proofs.RealmsKept.{realm_added, realm_skipped}
use Rattle.rad_lane.proofs.setup.realms_of.Goals as goal
use Rattle.rad_lane.proofs.setup.realms_of.Goals.{then-lane+in_ok-name+in_ok-push, else-lane}

pub loop-realm-preserved : goal.loop-realm-preserved
loop-realm-preserved c = elim c.if-lane.branch [
  | then-lane+in_ok-name+in_ok-push w ↦
      realm_added c.args.realms.now c.args.lane c.loop-realm.realm-index c.realm-item.result c.loop-realm-test.true c.realm-item.is c.lane.result c.lane.ensures c.loop-realm.names.items c.loop-realm.invariant w.if-lane.true
      w.in_ok-name.name (w.in_ok-name.ensures ∙ w.as_bytes.ensures.value ∙ w.name.ensures)
      c.if-lane.names.items (ap (λ (v : Vec (List ℕ) Global). v.items) w.names-is ∙ w.in_ok-push.ensures.items)
  | else-lane w ↦
      realm_skipped c.args.realms.now c.args.lane c.loop-realm.realm-index c.realm-item.result c.loop-realm-test.true c.realm-item.is c.lane.result c.lane.ensures c.loop-realm.names.items c.loop-realm.invariant w.if-lane.false c.if-lane.names.items (ap (λ (v : Vec (List ℕ) Global). v.items) w.names-is)
]

pub returns : goal.returns
returns c = c.from_vec.ensures ∙ c.loop-realm.invariant ∙ ap (λ realms. realms_of realms c.args.lane) (take_all c.loop-realm.realm-index c.args.realms.now c.loop-realm-test.false)
