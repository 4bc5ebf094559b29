use Rattle.rad_lane.proofs.SentSeen.{queued_within, front_length, front_is}
use Rattle.rad_lane.proofs.lane.Lane.sent.Goals as goal

pub slice_bounds-result-count : goal.slice_bounds-result-count
slice_bounds-result-count g c = queued_within c.self.inside.setup c.self.inside.opening c.self.inside.accepted.items (g.Q.Fifo.items c.self.inside.queued) c.self.inside.answered.items c.self.inside.served c.self.inside.slots c.self.inside.drain c.self.inside.watch c.self.inside.last c.args.self.now c.self.view_is c.self.invariant.consistent.lawful c.accepted-accepted.result.now c.accepted-accepted.ensures.value c.len.result c.len.ensures

pub slice_bounds-result-length : goal.slice_bounds-result-length
slice_bounds-result-length g c = front_length c.self.inside.setup c.self.inside.opening c.self.inside.accepted.items (g.Q.Fifo.items c.self.inside.queued) c.self.inside.answered.items c.self.inside.served c.self.inside.slots c.self.inside.drain c.self.inside.watch c.self.inside.last c.args.self.now c.self.view_is c.self.invariant.consistent.lawful c.accepted-accepted.result.now c.accepted-accepted.ensures.value c.len.result c.len.ensures

pub returns : goal.returns
returns g c = front_is c.self.inside.setup c.self.inside.opening c.self.inside.accepted.items (g.Q.Fifo.items c.self.inside.queued) c.self.inside.answered.items c.self.inside.served c.self.inside.slots c.self.inside.drain c.self.inside.watch c.self.inside.last c.args.self.now c.self.view_is c.self.invariant.consistent.lawful c.accepted-accepted.result.now c.accepted-accepted.ensures.value c.len.result c.len.ensures
