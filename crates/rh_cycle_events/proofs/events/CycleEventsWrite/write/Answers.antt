use Rattle.std.proofs.Common.{refl, ap, rules, ◌∙◌}
use Rattle.rh_text.specs.lemmas.Appends.{Appends-at, Appends-none}
use Rattle.rh_cycle_events.specs.Events.{events_in, heard_after}
use Rattle.rh_cycle_events.proofs.Spelled.{all-taken, bytes-heard, bytes-sent}
use Rattle.rh_cycle_events.proofs.events.CycleEventsWrite.write.Goals as goal

pub loop-byte-init : goal.loop-byte-init
loop-byte-init g c = record {
  sent = Appends-none (g.W.Write.contents c.args.self.now.out);
  heard = refl;
  ended = refl;
}

pub loop-byte-preserved : goal.loop-byte-preserved
loop-byte-preserved g c = record {
  sent = bytes-sent (g.W.Write.contents c.args.self.now.out) (g.W.Write.contents c.loop-byte.self.out) (g.W.Write.contents c.take.new.self.out) c.args.self.now.heard c.loop-byte.self.heard c.take.new.self.heard c.args.buf.now c.loop-byte.byte-index _
      c.loop-byte-test.true c.loop-byte.invariant.heard c.in_ok-take.ensures.heard c.loop-byte.invariant.sent c.in_ok-take.ensures.events;
  heard = bytes-heard (g.W.Write.contents c.args.self.now.out) (g.W.Write.contents c.loop-byte.self.out) (g.W.Write.contents c.take.new.self.out) c.args.self.now.heard c.loop-byte.self.heard c.take.new.self.heard c.args.buf.now c.loop-byte.byte-index _
      c.loop-byte-test.true c.loop-byte.invariant.heard c.in_ok-take.ensures.heard;
  ended = c.take.ensures.ended ∙ c.loop-byte.invariant.ended;
}

pub returns-in_err-take-clause-ended : goal.returns-in_err-take-clause-ended
returns-in_err-take-clause-ended g c = c.take.ensures.ended ∙ c.loop-byte.invariant.ended

pub returns-clause-whole : goal.returns-clause-whole
returns-clause-whole g c = search rules

pub returns-clause-events : goal.returns-clause-events
returns-clause-events g c =
    Appends-at (g.W.Write.contents c.args.self.now.out) (g.W.Write.contents c.loop-byte.self.out) _ _ (ap (events_in c.args.self.now.heard) (all-taken c.args.buf.now c.loop-byte.byte-index c.loop-byte-test.false)) c.loop-byte.invariant.sent

pub returns-clause-heard : goal.returns-clause-heard
returns-clause-heard g c = c.loop-byte.invariant.heard ∙ ap (heard_after c.args.self.now.heard) (all-taken c.args.buf.now c.loop-byte.byte-index c.loop-byte-test.false)

pub returns-clause-ended : goal.returns-clause-ended
returns-clause-ended g c = c.loop-byte.invariant.ended
