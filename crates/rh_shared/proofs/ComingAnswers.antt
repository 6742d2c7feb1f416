-- Answers that come from something that may lie under a lock.
use Rattle.std.proofs.Common.{◌≡◌, ℕ, Bool, true, false, Option, Some, None, Result, Ok, Err, refl, sym, ap, subst, ◌∙◌}
use Rattle.rh_layout.specs.Refusal.{is_limit}
use Rattle.rh_layout.specs.declared.command.Command.{Command}
use Rattle.rh_layout.specs.declared.command.Reply.{Reply}
use Rattle.rh_layout.specs.declared.refusal.Refusal.{Refusal}
use Rattle.rh_model.specs.Plain.{step}
use Rattle.rh_mutator.specs.Commands.{AnswersAs}
use Rattle.rh_mutator.specs.Mutator.{MutatorState}
use Rattle.rh_core.specs.Commands.{heap_step}
use Rattle.rh_core.proofs.commands.LimitsExactly.{heap_step-limits}
use Rattle.rh_core.proofs.commands.Simulation.{heap_step-stands}
use Rattle.rh_replay.specs.History.{HistoryState}
use Rattle.rh_replay.specs.Legal.{replay}
use Rattle.rh_shared.specs.declared.kept.CallError.{CallError}
use Rattle.rh_shared.specs.declared.kept.CallError.TheVariants as call_errors
use Rattle.rh_shared.specs.Kept.{KeptState, full_refusal}
use Rattle.rh_shared.specs.Answers.{AnswersAfter, AnswersUnderLock, ComesAfterHistory, RefusesAfter}
use Rattle.rh_shared.proofs.KeptCalls.{full_refusal-kind, kept_call-accepted, kept_call-full, kept_call-refused, same_answer}

pub answer-comes : {A : Type 0} (owner : ℕ) (command : Command) (answer : Result Reply CallError) → AnswersUnderLock A owner command answer
    → ComesAfterHistory owner command answer
answer-comes {A} owner command answer a = record {
  history = h;
  legal = a.under.kept.legal;
  heap = m;
  is_heap = a.under.heap.heap.mutators;
  stands = a.under.kept.stands;
  answers = by_room (full_refusal k) refl;
}
  where
    k : KeptState A
    k = a.held

    h : HistoryState
    h = k.recorder.history

    m : MutatorState
    m = k.collector.heap.mutators

    plain : Result Reply Refusal
    plain = (step (replay h) owner command).1

    as_plain : AnswersAs (heap_step k.collector.heap owner command).1 plain
    as_plain = (heap_step-stands k.collector.heap (replay h) a.under.kept.stands owner command).0

    by_limit : (refusal : Refusal) → (heap_step k.collector.heap owner command).1 ≡ Err refusal → (b : Bool) → is_limit refusal ≡ b → RefusesAfter b h m owner command refusal
    by_limit refusal is false kept = sym (same_answer (Err refusal) plain (subst (λ x. AnswersAs x plain) is as_plain) kept)
    by_limit refusal is true limited = (heap_step-limits k.collector.heap a.under.heap.heap (replay h) a.under.kept.stands owner command refusal limited).0 is

    by_step : (x : Result Reply Refusal) → (heap_step k.collector.heap owner command).1 ≡ x → full_refusal k ≡ None → AnswersAfter h m owner command answer
    by_step (Ok reply) is room =
        let told : answer ≡ Ok reply = a.answered ∙ ap (λ p. p.1) (kept_call-accepted a.met k owner command reply room is) in
        subst (λ x. AnswersAfter h m owner command x) (sym told) (sym (same_answer (Ok reply) plain (subst (λ x. AnswersAs x plain) is as_plain) refl))
    by_step (Err refusal) is room =
        let told : answer ≡ Err (call_errors.Heap refusal) = a.answered ∙ ap (λ p. p.1) (kept_call-refused a.met k owner command refusal room is) in
        subst (λ x. AnswersAfter h m owner command x) (sym told) (by_limit refusal is (is_limit refusal) refl)

    by_room : (o : Option CallError) → full_refusal k ≡ o → AnswersAfter h m owner command answer
    by_room None room = by_step (heap_step k.collector.heap owner command).1 refl room
    by_room (Some e) full =
        let which : e ≡ call_errors.TraceFull = full_refusal-kind k e full in
        let told : answer ≡ Err call_errors.TraceFull = a.answered ∙ ap (λ p. p.1) (kept_call-full a.met k owner command (full ∙ ap Some which)) in
        subst (λ x. AnswersAfter h m owner command x) (sym told) tt
