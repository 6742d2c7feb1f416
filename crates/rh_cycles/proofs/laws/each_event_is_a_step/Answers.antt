use Rattle.std.proofs.Common.{ℕ, ap, inl, arith}
use Rattle.std.specs.Prelude.{is_ok}
use Rattle.rh_core.specs.declared.event.Event.{Event}
use Rattle.rh_core.specs.declared.event.Event.TheVariants as events
use Rattle.rh_core.specs.declared.stat.Stat.{Stat}
use Rattle.rh_core.specs.Heap.{HeapState, IsWellFormed}
use Rattle.rh_core.specs.Stat.{stat_of}
use Rattle.rh_core.specs.runs.Run.{event_step}
use Rattle.rh_cycles.specs.Runs.{IsStep, step_of}
use Rattle.rh_cycles.proofs.Events.{FlipLaws, flip-step, left}
use Rattle.rh_cycles.proofs.laws.each_event_is_a_step.Goals as goal

pub returns : goal.returns
returns g c = λ h well line event. by h well line event
  where
    laws : (h : HeapState) → IsWellFormed h → FlipLaws h
    laws h well = record {
      told = λ flipped is. (let told = c.what_a_heap_tells_follows_its_calls.ensures.flipped h flipped is in (told.0, told.1, told.3));
      on = λ flipped is. ((c.a_flip_is_refused_exactly_where_its_cycle_is_not_closed.ensures.flipped h well).0 (ap is_ok is)).0;
      live = λ flipped is.
          let live = (c.a_flip_ends_the_cycle.ensures.live h flipped is).0 in
          let room = (c.a_well_formed_heap_is_bounded.ensures.bounded h well).room in
          omega (arith, live, room);
      refused = λ why is. c.a_flip_is_refused_exactly_where_its_cycle_is_not_closed.ensures.refused h why is;
    }

    by : (h : HeapState) → IsWellFormed h → (line : ℕ) (event : Event (g.row.A.Denot)) → IsStep (step_of line h event).0 (stat_of h) (stat_of (event_step h event).0)
    by h well line (events.Command owner command) =
        inl (record { used = c.what_a_heap_tells_follows_its_calls.ensures.made h owner command; flips = ap (λ (s : Stat). s.flips) (c.each_call_leaves_the_rest_of_what_a_heap_tells.ensures.command h owner command) })
    by h well line events.Begin = left (stat_of h) _ (ap (λ (s : Stat). s.used) (c.each_call_leaves_the_rest_of_what_a_heap_tells.ensures.begin h)) (ap (λ (s : Stat). s.flips) (c.each_call_leaves_the_rest_of_what_a_heap_tells.ensures.begin h))
    by h well line (events.Shade root) = left (stat_of h) _ (ap (λ (s : Stat). s.used) (c.each_call_leaves_the_rest_of_what_a_heap_tells.ensures.shade h root)) (ap (λ (s : Stat). s.flips) (c.each_call_leaves_the_rest_of_what_a_heap_tells.ensures.shade h root))
    by h well line (events.Deal kind most) = left (stat_of h) _ (ap (λ (s : Stat). s.used) (c.each_call_leaves_the_rest_of_what_a_heap_tells.ensures.deal h kind most)) (ap (λ (s : Stat). s.flips) (c.each_call_leaves_the_rest_of_what_a_heap_tells.ensures.deal h kind most))
    by h well line (events.Give replica) = left (stat_of h) _ (ap (λ (s : Stat). s.used) (c.each_call_leaves_the_rest_of_what_a_heap_tells.ensures.give h replica)) (ap (λ (s : Stat). s.flips) (c.each_call_leaves_the_rest_of_what_a_heap_tells.ensures.give h replica))
    by h well line events.Flip = flip-step h (laws h well)
    by h well line events.Recall = left (stat_of h) _ (ap (λ (s : Stat). s.used) (c.each_call_leaves_the_rest_of_what_a_heap_tells.ensures.recall h)) (ap (λ (s : Stat). s.flips) (c.each_call_leaves_the_rest_of_what_a_heap_tells.ensures.recall h))
    by h well line events.Abandon = left (stat_of h) _ (ap (λ (s : Stat). s.used) (c.each_call_leaves_the_rest_of_what_a_heap_tells.ensures.abandon h)) (ap (λ (s : Stat). s.flips) (c.each_call_leaves_the_rest_of_what_a_heap_tells.ensures.abandon h))
    by h well line (events.Idle words) = left (stat_of h) _ (ap (λ (s : Stat). s.used) (c.each_call_leaves_the_rest_of_what_a_heap_tells.ensures.idle h words)) (ap (λ (s : Stat). s.flips) (c.each_call_leaves_the_rest_of_what_a_heap_tells.ensures.idle h words))
