use Rattle.spool_files.proofs.AppendLemmas.{closed, closed_synced}
use Rattle.spool_files.proofs.segment.begin.Goals as goal

pub returns-in_err-write_at-clause-any_moment : goal.returns-in_err-write_at-clause-any_moment
returns-in_err-write_at-clause-any_moment g c =
    closed g.D.Device.moment g.D.Device.left_since g.D.Device.may_leave g.met.D.Device.only_now c.args.device.now c.requires.durable c.write_at.new.self c.write_at.ensures.crash c.write_at.ensures.time

pub returns-clause-any_moment : goal.returns-clause-any_moment
returns-clause-any_moment g c =
    closed_synced g.D.Device.moment g.D.Device.left_since g.D.Device.may_leave g.met.D.Device.only_now c.args.device.now c.requires.durable c.write_at.new.self c.write_at.ensures.crash c.write_at.ensures.time c.sync.new.self c.sync.ensures.crash c.sync.ensures.time
