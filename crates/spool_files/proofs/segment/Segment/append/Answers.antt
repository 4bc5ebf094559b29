use Rattle.std.proofs.Common.{◌<◌, ◌^◌, ◌∙◌, length, refl, arith}
use Rattle.spool_files.specs.Batches.{sealed}
use Rattle.spool_files.proofs.AppendLemmas.{ended, gate_in, gate_in_staged, kept, opened, synced, wrote}
use Rattle.spool_files.proofs.segment.Segment.append.Goals as goal

pub write_at-requires : goal.write_at-requires
write_at-requires g c = omega (arith, gate_in g.D.Device.seen g.D.Device.may_leave g.D.Device.moment g.D.Device.left_since g.met.D.Device.only_now c.args.self.now c.requires.0 c.requires.1 (sealed c.args.body.now))

pub returns-in_err-write_at-clause-failed : goal.returns-in_err-write_at-clause-failed
returns-in_err-write_at-clause-failed g c = λ fault _. c.in_err-write_at.ensures.cause

pub returns-in_err-sync-clause-failed : goal.returns-in_err-sync-clause-failed
returns-in_err-sync-clause-failed g c = λ fault _. omega (arith, c.write_at.ensures.later, c.in_err-sync.ensures.cause)

pub returns-in_err-write_at-2-clause-failed : goal.returns-in_err-write_at-2-clause-failed
returns-in_err-write_at-2-clause-failed g c = λ fault _. omega (arith, c.write_at.ensures.later, c.sync.ensures.later, c.in_err-write_at-2.ensures.cause)

pub returns-in_err-sync-2-clause-failed : goal.returns-in_err-sync-2-clause-failed
returns-in_err-sync-2-clause-failed g c = λ fault _. omega (arith, c.write_at.ensures.later, c.sync.ensures.later, c.write_at-2.ensures.later, c.in_err-sync-2.ensures.cause)

pub write_at-requires-2 : goal.write_at-requires-2
write_at-requires-2 g c =
    let few : length c.args.body.now < 2 ^ 32 = omega (arith, c.saturating_sub-room.ensures, c.if-room-lt-BESIDE.false, c.if-room-body.false) in
    omega (arith, gate_in_staged g.D.Device.seen g.D.Device.may_leave g.D.Device.moment g.D.Device.left_since g.met.D.Device.only_now c.args.self.now c.requires.0 c.requires.1 (sealed c.args.body.now) _ c.write_at.new.self c.write_at.ensures.crash c.write_at.ensures.time c.deref.result.now (c.deref.ensures.value ∙ c.in_ok-frame.ensures.framed) c.in_ok-write_at.ensures.written (few, c.in_ok-frame.ensures.fits) c.sync.new.self c.sync.ensures.crash c.sync.ensures.time c.sync.ensures.seen c.in_ok-sync.ensures.durable)

pub returns-in_err-write_at-clause-any_moment : goal.returns-in_err-write_at-clause-any_moment
returns-in_err-write_at-clause-any_moment g c = λ batches settled.
    wrote g.D.Device.seen g.D.Device.may_leave g.D.Device.moment g.D.Device.left_since g.met.D.Device.only_now c.args.self.now batches settled (sealed c.args.body.now) _ c.write_at.new.self c.write_at.ensures.crash c.write_at.ensures.time

pub returns-in_err-sync-clause-any_moment : goal.returns-in_err-sync-clause-any_moment
returns-in_err-sync-clause-any_moment g c = λ batches settled.
    synced g.D.Device.seen g.D.Device.may_leave g.D.Device.moment g.D.Device.left_since g.met.D.Device.only_now c.args.self.now batches settled (sealed c.args.body.now) _ c.write_at.new.self c.write_at.ensures.crash c.write_at.ensures.time c.sync.new.self c.sync.ensures.crash c.sync.ensures.time

pub returns-in_err-write_at-2-clause-any_moment : goal.returns-in_err-write_at-2-clause-any_moment
returns-in_err-write_at-2-clause-any_moment g c = λ batches settled.
    let few : length c.args.body.now < 2 ^ 32 = omega (arith, c.saturating_sub-room.ensures, c.if-room-lt-BESIDE.false, c.if-room-body.false) in
    opened g.D.Device.seen g.D.Device.may_leave g.D.Device.moment g.D.Device.left_since g.met.D.Device.only_now c.args.self.now batches settled (sealed c.args.body.now) _ c.write_at.new.self c.write_at.ensures.crash c.write_at.ensures.time c.deref.result.now (c.deref.ensures.value ∙ c.in_ok-frame.ensures.framed) c.in_ok-write_at.ensures.written (few, c.in_ok-frame.ensures.fits) c.sync.new.self c.sync.ensures.crash c.sync.ensures.time c.sync.ensures.seen c.in_ok-sync.ensures.durable c.write_at-2.new.self c.write_at-2.ensures.crash c.write_at-2.ensures.time

pub returns-in_err-sync-2-clause-any_moment : goal.returns-in_err-sync-2-clause-any_moment
returns-in_err-sync-2-clause-any_moment g c = λ batches settled.
    let few : length c.args.body.now < 2 ^ 32 = omega (arith, c.saturating_sub-room.ensures, c.if-room-lt-BESIDE.false, c.if-room-body.false) in
    ended g.D.Device.seen g.D.Device.may_leave g.D.Device.moment g.D.Device.left_since g.met.D.Device.only_now c.args.self.now batches settled (sealed c.args.body.now) _ c.write_at.new.self c.write_at.ensures.crash c.write_at.ensures.time c.deref.result.now (c.deref.ensures.value ∙ c.in_ok-frame.ensures.framed) c.in_ok-write_at.ensures.written (few, c.in_ok-frame.ensures.fits) c.sync.new.self c.sync.ensures.crash c.sync.ensures.time c.sync.ensures.seen c.in_ok-sync.ensures.durable c.write_at-2.new.self c.write_at-2.ensures.crash c.write_at-2.ensures.time c.sync-2.new.self c.sync-2.ensures.crash c.sync-2.ensures.time

pub returns-clause-any_moment : goal.returns-clause-any_moment
returns-clause-any_moment g c = λ batches settled.
    let few : length c.args.body.now < 2 ^ 32 = omega (arith, c.saturating_sub-room.ensures, c.if-room-lt-BESIDE.false, c.if-room-body.false) in
    ended g.D.Device.seen g.D.Device.may_leave g.D.Device.moment g.D.Device.left_since g.met.D.Device.only_now c.args.self.now batches settled (sealed c.args.body.now) _ c.write_at.new.self c.write_at.ensures.crash c.write_at.ensures.time c.deref.result.now (c.deref.ensures.value ∙ c.in_ok-frame.ensures.framed) c.in_ok-write_at.ensures.written (few, c.in_ok-frame.ensures.fits) c.sync.new.self c.sync.ensures.crash c.sync.ensures.time c.sync.ensures.seen c.in_ok-sync.ensures.durable c.write_at-2.new.self c.write_at-2.ensures.crash c.write_at-2.ensures.time c.sync-2.new.self c.sync-2.ensures.crash c.sync-2.ensures.time

pub returns-clause-kept : goal.returns-clause-kept
returns-clause-kept g c = λ batches settled.
    let few : length c.args.body.now < 2 ^ 32 = omega (arith, c.saturating_sub-room.ensures, c.if-room-lt-BESIDE.false, c.if-room-body.false) in
    kept g.D.Device.seen g.D.Device.may_leave g.D.Device.moment g.D.Device.left_since g.met.D.Device.only_now c.args.self.now batches settled (sealed c.args.body.now) _ c.write_at.new.self c.write_at.ensures.crash c.write_at.ensures.time c.deref.result.now (c.deref.ensures.value ∙ c.in_ok-frame.ensures.framed) c.in_ok-write_at.ensures.written (few, c.in_ok-frame.ensures.fits) c.sync.new.self c.sync.ensures.crash c.sync.ensures.time c.sync.ensures.seen c.in_ok-sync.ensures.durable c.write_at-2.new.self c.sync-2.new.self _ c.in_ok-write_at-2.ensures.written c.sync-2.ensures.seen c.in_ok-sync-2.ensures.durable refl
