use Rattle.spool_files.proofs.AppendLemmas.{only_synced}
use Rattle.spool_files.proofs.segment.recover.Goals as goal

pub returns-in_err-sync-clause-any_moment : goal.returns-in_err-sync-clause-any_moment
returns-in_err-sync-clause-any_moment g c = only_synced g.D.Device.moment g.D.Device.left_since g.D.Device.may_leave g.met.D.Device.only_now c.args.device.now c.sync.new.self c.sync.ensures.crash c.sync.ensures.time

pub returns-clause-any_moment : goal.returns-clause-any_moment
returns-clause-any_moment g c = only_synced g.D.Device.moment g.D.Device.left_since g.D.Device.may_leave g.met.D.Device.only_now c.args.device.now c.sync.new.self c.sync.ensures.crash c.sync.ensures.time
