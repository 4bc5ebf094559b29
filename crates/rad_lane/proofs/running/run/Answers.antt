use Rattle.std.proofs.Common.{[], ◌≡◌, ℕ, ◌+◌, ◌<◌, ap, ◌∙◌, arith, rules}
use Rattle.std.specs.Prelude.{replicate}
use Rattle.rad_packet.specs.Packet.{packet_text}
use Rattle.rad_lane.specs.declared.running.Given.{Given}
use Rattle.std.proofs.lemmas.List.{take_all}
use Rattle.rad_lane.proofs.RunsLoseNone.{runs_lose_none}
use Rattle.rad_lane.proofs.RunsOneMore.{takes_here, runs_on, came_on, gives_stays}
use Rattle.rad_lane.proofs.running.run.Goals as goal

pub give-answer-requires : goal.give-answer-requires
give-answer-requires g c =
    takes_here (packet_text 0 0 (replicate 16 0) []) c.args.events.now c.loop-event.event-index c.event-item.result c.loop-event-test.true c.event-item.is
    c.args.lane.now c.loop-event.lane c.loop-event.invariant.setup c.requires

pub loop-event-preserved : goal.loop-event-preserved
loop-event-preserved g c =
    let given : Given = record { answer = c.give-answer.result; datagram = c.copy.result } in
    record {
      runs = runs_on _ c.args.events.now c.loop-event.event-index c.event-item.result c.loop-event-test.true c.event-item.is _ _ _ _ _ given c.push_reserved.ensures.items _ c.loop-event.invariant.datagram _ c.copy.ensures c.loop-event.invariant.runs c.give-answer.ensures;
      datagram = came_on _ c.args.events.now c.loop-event.event-index c.event-item.result c.loop-event-test.true c.event-item.is c.args.lane.now c.loop-event.lane c.give-answer.new.lane _ _ given c.push_reserved.ensures.items _ c.loop-event.invariant.datagram _ c.copy.ensures;
      setup = gives_stays _ _ _ _ _ c.give-answer.ensures ∙ c.loop-event.invariant.setup;
      count = c.push_reserved.ensures.len ∙ ap (λ n. n + 1) c.loop-event.invariant.count;
      room = c.push_reserved.ensures.capacity ∙ c.loop-event.invariant.room;
    }

pub returns-clause-headline : goal.returns-clause-headline
returns-clause-headline g c =
    let all = take_all c.loop-event.event-index c.args.events.now c.loop-event-test.false in
    record {
      was_lawful = c.keep_law.ensures;
      is_lawful = c.keep_law-2.ensures;
      each_call = rw all at c.loop-event.invariant.runs;
      none_lost = runs_lose_none _ _ _ _ _ (rw all at c.loop-event.invariant.runs);
    }

-- each event has its place in the list of results
place_left : (count index room events : ℕ) → count ≡ index → room ≡ events → index < events → count < room
place_left count index room events counted all below = omega (arith, counted, all, below)

pub push_reserved-requires : goal.push_reserved-requires
push_reserved-requires g c = place_left _ _ _ _ c.loop-event.invariant.count c.loop-event.invariant.room c.loop-event-test.true

-- what the search proves is written here, so that a change of a call that a run makes does not repeat it
pub loop-event-init : goal.loop-event-init
loop-event-init g c = search rules

pub bounds-events-event-index : goal.bounds-events-event-index
bounds-events-event-index g c = c.loop-event-test.true

pub loop-event-smaller : goal.loop-event-smaller
loop-event-smaller g c = search rules

pub returns-in_default-clause-headline : goal.returns-in_default-clause-headline
returns-in_default-clause-headline g c = search rules

pub returns-in_default-clause-stays : goal.returns-in_default-clause-stays
returns-in_default-clause-stays g c = search rules

pub returns-clause-stays : goal.returns-clause-stays
returns-clause-stays g c = search rules
