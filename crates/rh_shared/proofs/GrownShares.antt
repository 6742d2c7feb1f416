-- How a mutator's share grows beside the history.
use Rattle.std.proofs.Common.{◌≡◌, Bool, true, false, List, [], ◌∷◌, ◌++◌, Some, None, Result, Ok, Err, length, refl, sym}
use Rattle.std.specs.Prelude.{nat_lt, if◌then◌else◌}
use Rattle.std.proofs.lemmas.List.{append-nil}
use Rattle.rh_layout.specs.Refusing.{unless}
use Rattle.rh_layout.specs.Refusal.{is_limit}
use Rattle.rh_layout.specs.declared.command.Command.{Command}
use Rattle.rh_layout.specs.declared.command.Reply.{Reply}
use Rattle.rh_layout.specs.declared.refusal.Refusal.{Refusal}
use Rattle.rh_core.specs.Commands.{heap_step}
use Rattle.rh_replay.specs.declared.call.Call.{Call}
use Rattle.rh_shared.specs.declared.kept.CallError.{CallError}
use Rattle.rh_shared.specs.declared.kept.CallError.TheVariants as call_errors
use Rattle.rh_collector.specs.Increment.{increment, Met}
use Rattle.rh_shared.specs.Kept.{KeptState, kept_after, kept_call, kept_increment, refused_where, with_command}
use Rattle.rh_shared.specs.Shares.{MutatorState, with_answer, with_refused}

module _ {A : Type 0} where
  -- the share grew as the history did
  abbrev HasGrown : KeptState A → MutatorState → KeptState A → MutatorState → Type 0
  HasGrown k m k' m' =
      (m'.owner ≡ m.owner)
      × ((noted : List Call) × (k'.recorder.history.calls ≡ k.recorder.history.calls ++ noted) × (m'.share.history.calls ≡ m.share.history.calls ++ noted))

  none-grown : (k : KeptState A) (m : MutatorState) → HasGrown k m k m
  none-grown k m = (refl, ([], sym (append-nil k.recorder.history.calls), sym (append-nil m.share.history.calls)))

  refused-grown : (b : Bool) (k : KeptState A) (m : MutatorState) (command : Command) (refusal : Refusal)
      → HasGrown k m (refused_where b k m.owner command refusal) (with_refused b m command refusal)
  refused-grown true k m command refusal = none-grown k m
  refused-grown false k m command refusal = (refl, (record { owner = m.owner; command = command; answer = Err refusal } ∷ [], refl, refl))

  answer-grown : (o : Result Reply Refusal) (met : Met) (k : KeptState A) (m : MutatorState) (command : Command)
      → (let done = kept_after o met (with_command k m.owner command) m.owner command in HasGrown k m done.0 (with_answer m command done.1))
  unfolding kept_increment
  answer-grown (Ok reply) met k m command = (refl, (record { owner = m.owner; command = command; answer = Ok reply } ∷ [], refl, refl))
  answer-grown (Err refusal) met k m command = refused-grown (is_limit refusal) (with_command k m.owner command) m command refusal

  room-grown : (b : Bool) (met : Met) (k : KeptState A) (m : MutatorState) (command : Command)
      → (let done = unless (if b then None else Some call_errors.TraceFull) k
      (kept_after (heap_step k.collector.heap m.owner command).1 met (with_command k m.owner command) m.owner command) in HasGrown k m done.0 (with_answer m command done.1))
  room-grown true met k m command = answer-grown (heap_step k.collector.heap m.owner command).1 met k m command
  room-grown false met k m command = none-grown k m

  pub share-grows : (met : Met) (k : KeptState A) (m : MutatorState) (command : Command)
      → (let done = kept_call met k m.owner command in let after = with_answer m command done.1 in
      (after.owner ≡ m.owner)
      × ((noted : List Call) × (done.0.recorder.history.calls ≡ k.recorder.history.calls ++ noted) × (after.share.history.calls ≡ m.share.history.calls ++ noted)))
  unfolding kept_call
  share-grows met k m command = room-grown (nat_lt (length k.recorder.history.calls) k.recorder.limit) met k m command

  pub increment-told : (met : Met) (k : KeptState A) → (kept_increment met k).1 ≡ (increment met k.collector).1
  unfolding kept_increment
  increment-told met k = refl

  pub increment-kept : (met : Met) (k : KeptState A) → (kept_increment met k).0 ≡ record k { collector = (increment met k.collector).0; last = (increment met k.collector).1 }
  unfolding kept_increment
  increment-kept met k = refl
