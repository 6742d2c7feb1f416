-- A command after which no heap grows: it is one of the heap inside, and the rest stays.
use Rattle.std.proofs.Common.{◌≡◌, ℕ, Bool, true, false, Result, refl, sym, ap, ◌∙◌, arith}
use Rattle.std.specs.Prelude.{nat_lt, if◌then◌else◌}
use Rattle.std.proofs.lemmas.Bool.{ltb-true}
use Rattle.rh_layout.specs.declared.command.Command.{Command}
use Rattle.rh_layout.specs.declared.command.Reply.{Reply}
use Rattle.rh_layout.specs.declared.refusal.Refusal.{Refusal}
use Rattle.rh_pace.specs.Paced.{PacedState, after_accepted, paced_step}
use Rattle.rh_growing.specs.Calls.{IsGrowingCall}
use Rattle.rh_growing.specs.Growing.{GrowingState, after_call, grown, growing_step, with_paced}
use Rattle.rh_growing.proofs.Flips.{accepted, epoch-quiet}

abbrev pub paced_of : GrowingState → PacedState
paced_of s = s.paced

-- another heap inside, twice
pub with_paced-again : (first mid new : GrowingState) (p : PacedState) → mid ≡ with_paced first mid.paced → new ≡ with_paced mid p
    → new ≡ with_paced first new.paced
with_paced-again first mid new p rest is =
    is ∙ ap (λ (s : GrowingState). with_paced s p) rest ∙ ap (with_paced first) (sym (ap paced_of is))

-- what is not followed by a flip
not-grown : (given : Bool) (s : GrowingState) (t : PacedState) → t.heap.epoch ≡ s.paced.heap.epoch → after_call given 0 s t ≡ with_paced s t
not-grown given s t same = by (nat_lt s.paced.heap.epoch t.heap.epoch) refl
  where
    by : (b : Bool) → nat_lt s.paced.heap.epoch t.heap.epoch ≡ b → (if b then grown given 0 (with_paced s t) else with_paced s t) ≡ with_paced s t
    by true is = let more = ltb-true s.paced.heap.epoch t.heap.epoch is in absurd (omega (arith, more, same))
    by false is = refl

module _ (given : Bool) (old new : GrowingState) (owner : ℕ) (command : Command) (told : Result Reply Refusal)
    (quiet : after_accepted command (accepted old.paced owner command) ≡ accepted old.paced owner command)
    (call : IsGrowingCall given old new owner command told) where
  pub quiet-state : new ≡ with_paced old (paced_step old.paced owner command).0
  unfolding growing_step
  quiet-state = call.state ∙ not-grown given old (paced_step old.paced owner command).0 (epoch-quiet old.paced owner command quiet)

  pub quiet-answer : told ≡ (paced_step old.paced owner command).1
  unfolding growing_step
  quiet-answer = call.answer
