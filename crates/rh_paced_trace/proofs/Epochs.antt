-- Each cycle that ends begins the next epoch: a paced heap has as many flips more as it has epochs.
use Rattle.std.proofs.Common.{◌≡◌, ℕ, ◌+◌, List, [], ◌∷◌, Result, Ok, Err, refl, ap, arith}
use Rattle.rh_layout.specs.declared.command.Command.{Command}
use Rattle.rh_layout.specs.declared.command.RootId.{RootId}
use Rattle.rh_layout.specs.declared.item.Item.{Item}
use Rattle.rh_layout.specs.declared.kind.Kind.{Kind}
use Rattle.rh_core.specs.declared.errors.DealError.{DealError}
use Rattle.rh_core.specs.declared.errors.FlipError.{FlipError}
use Rattle.rh_core.specs.declared.outcomes.Dealt.{Dealt}
use Rattle.rh_core.specs.declared.outcomes.Flipped.{Flipped}
use Rattle.rh_core.specs.Heap.{HeapState}
use Rattle.rh_core.specs.Commands.{heap_step}
use Rattle.rh_core.specs.Cycle.{begin_step, flip_step}
use Rattle.rh_core.specs.Dealing.{deal_step}
use Rattle.rh_core.specs.Giving.{give_step}
use Rattle.rh_core.specs.Holding.{hold_step, next_kind, replica_with, with_dealt_given}
use Rattle.rh_core.specs.Idle.{idle_step}
use Rattle.rh_core.specs.Shading.{shade_step}
use Rattle.rh_pace.specs.InTime.{paced_after}
use Rattle.rh_pace.specs.Paced.{PacedState, after_answer, paced_step, with_command}
use Rattle.rh_paced_trace.specs.Lines.{Commands}
use Rattle.rh_paced_trace.proofs.CollectorWork.{WorkLaws, answered}

-- neither flips nor epoch changed
abbrev pub CountsStay : HeapState → HeapState → Type 0
CountsStay a b = (b.flips ≡ a.flips) × (b.epoch ≡ a.epoch)

-- as many flips came as epochs
abbrev pub CountsAgree : HeapState → HeapState → Type 0
CountsAgree a b = b.flips + a.epoch ≡ a.flips + b.epoch

-- what a heap's own steps do to both
pub record CountLaws : Type 0 where
  pub command : (h : HeapState) (owner : ℕ) (command : Command) → CountsStay h (heap_step h owner command).0
  pub begin : (h : HeapState) → CountsStay h (begin_step h).0
  pub shade : (h : HeapState) (root : RootId) → CountsStay h (shade_step h root).0
  pub deal : (h : HeapState) (kind : Kind) (most : ℕ) → CountsStay h (deal_step h kind most).0
  pub give : (h : HeapState) (epoch : ℕ) (items : List Item) → CountsStay h (give_step h (replica_with epoch items)).0
  pub idle : (h : HeapState) (words : ℕ) → CountsStay h (idle_step h words).0
  pub flipped : (h : HeapState) (f : Flipped) → (flip_step h).1 ≡ Ok f → ((flip_step h).0.flips ≡ h.flips + 1) × ((flip_step h).0.epoch ≡ h.epoch + 1)
  pub refused : (h : HeapState) (why : FlipError) → (flip_step h).1 ≡ Err why → (flip_step h).0 ≡ h

agree : (a b : HeapState) → CountsStay a b → CountsAgree a b
agree a b stay = omega (arith, stay.0, stay.1)

agree_by : (a b : HeapState) (answer : Result Flipped FlipError) → ((f : Flipped) → answer ≡ Ok f → (b.flips ≡ a.flips + 1) × (b.epoch ≡ a.epoch + 1)) → ((why : FlipError) → answer ≡ Err why → b ≡ a) → CountsAgree a b
agree_by a b (Ok f) flipped refused = let both = flipped f refl in omega (arith, both.0, both.1)
agree_by a b (Err why) flipped refused =
    let same = refused why refl in
    agree a b (ap (λ (h : HeapState). h.flips) same, ap (λ (h : HeapState). h.epoch) same)

module _ (laws : CountLaws) where
  given : (a h : HeapState) (dealt : Result Dealt DealError) → CountsStay a h → CountsStay a (with_dealt_given h dealt)
  given a h (Ok dealt) stay =
      let more = laws.give h dealt.piece.epoch dealt.piece.items in
      (omega (arith, stay.0, more.0), omega (arith, stay.1, more.1))
  given a h (Err why) stay = stay

  held : (h : HeapState) → CountsStay h (hold_step h).0
  unfolding hold_step
  held h = given h (deal_step h (next_kind h) 1).0 (deal_step h (next_kind h) 1).1 (laws.deal h (next_kind h) 1)

  work : WorkLaws CountsAgree
  work = record {
    none = λ h. omega arith;
    both = λ g h k first second. omega (arith, first, second);
    begin = λ h. agree h (begin_step h).0 (laws.begin h);
    shade = λ h root. agree h (shade_step h root).0 (laws.shade h root);
    hold = λ h. agree h (hold_step h).0 (held h);
    flip = λ h. agree_by h (flip_step h).0 (flip_step h).1 (laws.flipped h) (laws.refused h);
    idle = λ h words. agree h (idle_step h words).0 (laws.idle h words);
  }

  agree-command : (s : PacedState) (owner : ℕ) (command : Command) → CountsAgree s.heap (paced_step s owner command).0.heap
  unfolding paced_step
  agree-command s owner command =
      let done = heap_step s.heap owner command in
      let next = after_answer done.1 command (with_command s owner command) in
      work.both s.heap done.0 next.heap (agree s.heap done.0 (laws.command s.heap owner command)) (answered work done.1 command (with_command s owner command))

  pub agree-commands : (s : PacedState) (commands : Commands) → CountsAgree s.heap (paced_after s commands).heap
  agree-commands s [] = omega arith
  agree-commands s (owned ∷ others) =
      let next = (paced_step s owned.0 owned.1).0 in
      work.both s.heap next.heap (paced_after next others).heap (agree-command s owned.0 owned.1) (agree-commands next others)
