use Rattle.std.proofs.Common.{◌≡◌, List, Bool, true, false, Result, Ok, Err, refl, sym, ap, ◌∙◌}
use Rattle.std.proofs.lemmas.List.{append-nil}
use Rattle.rh_layout.specs.declared.command.Reply.{Reply}
use Rattle.rh_layout.specs.declared.refusal.Refusal.{Refusal}
use Rattle.rh_mutator.specs.Commands.{is_limit_answer}
use Rattle.rh_replay.specs.declared.call.Call.{Call}
use Rattle.rh_replay.specs.History.{HistoryState, is_left_out, noted_unless}
use Rattle.rh_trace_views.specs.History.{kept_unless, with_calls}
use Rattle.rh_trace_views.proofs.noted.note.Goals as goal

left_out : (answer : Result Reply Refusal) → is_left_out answer ≡ is_limit_answer answer
left_out (Ok reply) = refl
left_out (Err refusal) = refl

noted : (h : HistoryState) (limited : Bool) (call : Call) → noted_unless limited h call ≡ with_calls h (kept_unless limited call)
noted h true call = ap (λ (calls : List Call). record h { calls = calls }) (sym (append-nil h.calls))
noted h false call = refl

pub returns-clause-history : goal.returns-clause-history
returns-clause-history g c =
    let call : Call = record { owner = c.args.owner; command = c.args.command.now; answer = c.args.answer } in
    let h = c.args.recorder.now.history in
    c.note_unless_limited.ensures.history ∙ ap (λ (limited : Bool). noted_unless limited h call) (left_out c.args.answer) ∙ noted h (is_limit_answer c.args.answer) call
