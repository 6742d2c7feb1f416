-- Told as answers, lines of commands have the text of a run that isn't viewed.
use Rattle.std.proofs.Common.{◌≡◌, ℕ, suc, ◌+◌, Bool, List, [], ◌∷◌, ◌++◌, length, None, Result, refl, ap, arith}
use Rattle.std.specs.List.{flat_map}
use Rattle.rh_layout.specs.declared.command.Command.{Command}
use Rattle.rh_layout.specs.declared.command.Reply.{Reply}
use Rattle.rh_layout.specs.declared.refusal.Refusal.{Refusal}
use Rattle.rh_core.specs.runs.Programs.{CommandAnswers}
use Rattle.rh_pace.specs.InTime.{paced_replies}
use Rattle.rh_pace.specs.Paced.{PacedState, paced_step}
use Rattle.rh_pace.specs.declared.pace.Pace.{Pace}
use Rattle.rh_growing.specs.Growing.{growing_step}
use Rattle.rh_syntax.specs.declared.request.Request.{Request}
use Rattle.rh_syntax.specs.declared.request.Request.TheVariants as requests
use Rattle.rh_syntax.specs.Spelling.{Script}
use Rattle.rh_trace.specs.declared.summary.Summary.{Summary}
use Rattle.rh_trace.specs.Answers.{answer_line, total_line}
use Rattle.rh_paced_trace.specs.Commanded.{answered_by}
use Rattle.rh_paced_trace.specs.Growing.{growing_answers_of, growing_sum_of, growing_text_of, new_growing_run}
use Rattle.rh_paced_trace.specs.Lines.{Commands, commands_in, other_fault}
use Rattle.rh_paced_trace.specs.Playing.{replies_by}
use Rattle.rh_paced_trace.specs.Run as paced
use Rattle.rh_choices.specs.declared.telling.Telling.TheVariants.{Answers}
use Rattle.rh_trace_views.specs.Run.{told_of}
use Rattle.rh_trace_views.specs.Views.{numbered, views_text}
use Rattle.rh_commands.specs.Ways.{growing_answered, paced_answered}

reply_views : (number line : ℕ) (requests : List Request) (replies : CommandAnswers) → other_fault number requests ≡ None → length replies ≡ length (commands_in requests)
    → views_text Answers (numbered line requests (answered_by replies)) ≡ flat_map answer_line replies
reply_views number line [] [] none same = refl
reply_views number line [] (a ∷ replies) none same = absurd (omega (arith, same))
reply_views number line (requests.Command owner command ∷ others) [] none same = absurd (omega (arith, same))
reply_views number line (requests.Command owner command ∷ others) (a ∷ replies) none same = ap (λ (t : List ℕ). answer_line a ++ t) (reply_views (number + 1) (line + 1) others replies none (omega (arith, same)))
reply_views number line (other ∷ others) replies none same = absurd cc

replies_told : (requests : List Request) (replies : CommandAnswers) (summary : Summary) → other_fault 2 requests ≡ None → length replies ≡ length (commands_in requests)
    → told_of Answers requests (answered_by replies) summary ≡ paced.output_of replies summary
replies_told requests replies summary none same = ap (λ (t : List ℕ). t ++ total_line summary) (reply_views 2 2 requests replies none same)

length-paced : (s : PacedState) (commands : Commands) → length (paced_replies s commands) ≡ length commands
length-paced s [] = refl
length-paced s (owned ∷ others) = ap suc (length-paced (paced_step s owned.0 owned.1).0 others)

length-replies : {X S : Type 0} (step : X → S → ℕ → Command → S × Result Reply Refusal) (given : ℕ → X) (s : S) (commands : Commands) → length (replies_by step given s commands) ≡ length commands
length-replies step given s [] = refl
length-replies step given s (owned ∷ others) = ap suc (length-replies step (λ i. given (suc i)) (step (given 0) s owned.0 owned.1).0 others)

pub told_paced : (script : Script) → other_fault 2 script.requests ≡ None → (pace : Pace) → told_of Answers script.requests (paced_answered script pace) (paced.sum_of script pace) ≡ paced.text_of script pace
told_paced script none pace =
    let commands = commands_in script.requests in
    replies_told script.requests (paced_replies (paced.new_run script pace) commands) (paced.sum_of script pace) none (length-paced (paced.new_run script pace) commands)

pub told_growing : (script : Script) → other_fault 2 script.requests ≡ None → (at_most : ℕ) (given : ℕ → Bool) → told_of Answers script.requests (growing_answered script at_most given) (growing_sum_of script at_most given) ≡ growing_text_of script at_most given
told_growing script none at_most given =
    let commands = commands_in script.requests in
    replies_told script.requests (growing_answers_of script at_most given) (growing_sum_of script at_most given) none (length-replies growing_step given (new_growing_run script at_most) commands)
