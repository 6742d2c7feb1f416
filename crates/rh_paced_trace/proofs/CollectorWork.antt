-- What a paced heap does after a command is made of steps of its collector.
use Rattle.std.proofs.Common.{ℕ, zero, suc, Bool, true, false, List, [], ◌∷◌, Result, Ok, Err}
use Rattle.std.specs.Prelude.{if◌then◌else◌}
use Rattle.rh_work.specs.Work.{credit}
use Rattle.rh_layout.specs.declared.command.Command.{Command}
use Rattle.rh_layout.specs.declared.command.Command.TheVariants.{Alloc, Raw, Load, Store, Copy, Same, Drop}
use Rattle.rh_layout.specs.declared.command.Reply.{Reply}
use Rattle.rh_layout.specs.declared.command.RootId.{RootId}
use Rattle.rh_layout.specs.declared.refusal.Refusal.{Refusal}
use Rattle.rh_core.specs.Heap.{HeapState}
use Rattle.rh_core.specs.Cycle.{begin_step, flip_step}
use Rattle.rh_core.specs.Holding.{hold_step}
use Rattle.rh_core.specs.Idle.{idle_step}
use Rattle.rh_core.specs.Shading.{shade_step}
use Rattle.rh_pace.specs.Increment.{wants_cycle, after_begin, with_held, with_shaded, roots_due, before_shading, shaded_heap, before_flip, after_increment}
use Rattle.rh_pace.specs.Paced.{PacedState, after_accepted, after_answer, with_increment, with_store_paid}

-- each step of a collector leads to a heap that is so related to the one before it
pub record WorkLaws (R : HeapState → HeapState → Type 0) : Type 0 where
  pub none : (h : HeapState) → R h h
  pub both : (g h k : HeapState) → R g h → R h k → R g k
  pub begin : (h : HeapState) → R h (begin_step h).0
  pub shade : (h : HeapState) (root : RootId) → R h (shade_step h root).0
  pub hold : (h : HeapState) → R h (hold_step h).0
  pub flip : (h : HeapState) → R h (flip_step h).0
  pub idle : (h : HeapState) (words : ℕ) → R h (idle_step h words).0

module _ {R : HeapState → HeapState → Type 0} (laws : WorkLaws R) where
  held : (n : ℕ) (h : HeapState) → R h (with_held n h)
  held zero h = laws.none h
  held (suc n) h = laws.both h (hold_step h).0 (with_held n (hold_step h).0) (laws.hold h) (held n (hold_step h).0)

  shaded : (roots : List RootId) (h : HeapState) → R h (with_shaded roots h)
  shaded [] h = laws.none h
  shaded (root ∷ roots) h = laws.both h (shade_step h root).0 (with_shaded roots (shade_step h root).0) (laws.shade h root) (shaded roots (shade_step h root).0)

  begun : (wanted : Bool) (h : HeapState) → R h (if wanted then (begin_step h).0 else h)
  begun true h = laws.begin h
  begun false h = laws.none h

  incremented : (mark : ℕ) (h : HeapState) → R h (after_increment mark h)
  unfolding after_increment
  incremented mark h =
      let first = after_begin mark h in
      let second = before_shading mark h in
      let third = shaded_heap mark h in
      let fourth = before_flip mark h in
      laws.both h fourth (flip_step fourth).0
      (laws.both h third fourth
      (laws.both h second third
      (laws.both h first second (begun (wants_cycle mark h) h) (held (credit first.work) first))
      (shaded (roots_due second) second))
      (held (credit third.work) third))
      (laws.flip fourth)

  paid : (on : Bool) (s : PacedState) → R s.heap (if on then with_increment (with_store_paid s) else s).heap
  paid true s =
      let rich = (idle_step s.heap s.pace.store_units).0 in
      laws.both s.heap rich (after_increment s.pace.mark rich) (laws.idle s.heap s.pace.store_units) (incremented s.pace.mark rich)
  paid false s = laws.none s.heap

  accepted : (command : Command) (s : PacedState) → R s.heap (after_accepted command s).heap
  accepted (Alloc dst fields) s = incremented s.pace.mark s.heap
  accepted (Raw dst fields) s = incremented s.pace.mark s.heap
  accepted (Load dst src field) s = laws.none s.heap
  accepted (Store obj field operand) s = paid s.heap.mutators.cycle s
  accepted (Copy dst src) s = laws.none s.heap
  accepted (Same a b) s = laws.none s.heap
  accepted (Drop root) s = laws.none s.heap

  -- what follows an answer does too
  pub answered : (answer : Result Reply Refusal) (command : Command) (s : PacedState) → R s.heap (after_answer answer command s).heap
  answered (Ok reply) command s = accepted command s
  answered (Err refusal) command s = laws.none s.heap
