use Rattle.std.proofs.Common.{◌≡◌, ℕ, ap, arith, Some}
use Rattle.std.specs.Prelude.{is_ok}
use Rattle.rh_core.specs.declared.event.Event.{Event}
use Rattle.rh_core.specs.declared.event.Event.TheVariants as events
use Rattle.rh_core.specs.declared.stat.Stat.{Stat}
use Rattle.rh_core.specs.Heap.{HeapState, IsWellFormed}
use Rattle.rh_core.specs.Stat.{stat_of}
use Rattle.rh_cycles.specs.declared.cycle.Cycle.{Cycle}
use Rattle.rh_cycles.specs.declared.cycle.CycleEnd.TheVariants as ends
use Rattle.rh_cycles.specs.Cycles.{ReaderState, read_step}
use Rattle.rh_cycles.specs.Runs.{IsEndedBy, step_of}
use Rattle.rh_cycles.proofs.Events.{FlipLaws}
use Rattle.rh_cycles.proofs.Flips.{flip-ended, no-end}
use Rattle.rh_cycles.proofs.laws.a_cycle_that_a_flip_ended_has_its_numbers.Goals as goal

pub returns : goal.returns
returns g c = λ h well r last line event cycle. by h well r last line event cycle
  where
    laws : (h : HeapState) → IsWellFormed h → FlipLaws h
    laws h well = record {
      told = λ flipped is. (let told = c.what_a_heap_tells_follows_its_calls.ensures.flipped h flipped is in (told.0, told.1, told.3));
      on = λ flipped is. ((c.a_flip_is_refused_exactly_where_its_cycle_is_not_closed.ensures.flipped h well).0 (ap is_ok is)).0;
      live = λ flipped is.
          let live = (c.a_flip_ends_the_cycle.ensures.live h flipped is).0 in
          let room = (c.a_well_formed_heap_is_bounded.ensures.bounded h well).room in
          omega (arith, live, room);
      refused = λ why is. c.a_flip_is_refused_exactly_where_its_cycle_is_not_closed.ensures.refused h why is;
    }

    by : (h : HeapState) → IsWellFormed h → (r : ReaderState) → r.last ≡ stat_of h → (line : ℕ) (event : Event (g.row.A.Denot)) (cycle : Cycle) → (read_step r (step_of line h event).1).1 ≡ Some cycle → cycle.end ≡ ends.Flipped → IsEndedBy line h event cycle
    by h well r last line (events.Command owner command) cycle = no-end h r last line (events.Command owner command) cycle (ap (λ (s : Stat). s.flips) (c.each_call_leaves_the_rest_of_what_a_heap_tells.ensures.command h owner command))
    by h well r last line events.Begin cycle = no-end h r last line events.Begin cycle (ap (λ (s : Stat). s.flips) (c.each_call_leaves_the_rest_of_what_a_heap_tells.ensures.begin h))
    by h well r last line (events.Shade root) cycle = no-end h r last line (events.Shade root) cycle (ap (λ (s : Stat). s.flips) (c.each_call_leaves_the_rest_of_what_a_heap_tells.ensures.shade h root))
    by h well r last line (events.Deal kind most) cycle = no-end h r last line (events.Deal kind most) cycle (ap (λ (s : Stat). s.flips) (c.each_call_leaves_the_rest_of_what_a_heap_tells.ensures.deal h kind most))
    by h well r last line (events.Give replica) cycle = no-end h r last line (events.Give replica) cycle (ap (λ (s : Stat). s.flips) (c.each_call_leaves_the_rest_of_what_a_heap_tells.ensures.give h replica))
    by h well r last line events.Flip cycle = flip-ended (g.row.A.Denot) h (laws h well) r last line cycle
    by h well r last line events.Recall cycle = no-end h r last line events.Recall cycle (ap (λ (s : Stat). s.flips) (c.each_call_leaves_the_rest_of_what_a_heap_tells.ensures.recall h))
    by h well r last line events.Abandon cycle = no-end h r last line events.Abandon cycle (ap (λ (s : Stat). s.flips) (c.each_call_leaves_the_rest_of_what_a_heap_tells.ensures.abandon h))
    by h well r last line (events.Idle words) cycle = no-end h r last line (events.Idle words) cycle (ap (λ (s : Stat). s.flips) (c.each_call_leaves_the_rest_of_what_a_heap_tells.ensures.idle h words))
