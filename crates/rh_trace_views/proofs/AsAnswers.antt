-- Told as answers, lines have the text of a run that isn't viewed.
use Rattle.std.proofs.Common.{◌≡◌, ℕ, ◌+◌, List, [], ◌∷◌, ◌++◌, refl, ap}
use Rattle.std.specs.List.{flat_map}
use Rattle.rh_engine.specs.Engine.{EngineState}
use Rattle.rh_syntax.specs.declared.request.Request.{Request}
use Rattle.rh_syntax.specs.Spelling.{Script}
use Rattle.rh_trace.specs.Answers.{answered_text, total_line}
use Rattle.rh_trace.specs.Run.{answers_of, answers_to, new_run, output_of, request_step, summary_of}
use Rattle.rh_choices.specs.declared.telling.Telling.TheVariants.{Answers}
use Rattle.rh_trace_views.specs.Run.{view_of_run}
use Rattle.rh_trace_views.specs.Views.{numbered, views_text}

answer_views : (line : ℕ) (e : EngineState) (requests : List Request) → views_text Answers (numbered line requests (answers_to e requests)) ≡ flat_map answered_text (answers_to e requests)
answer_views line e [] = refl
answer_views line e (r ∷ requests) = ap (λ (t : List ℕ). answered_text (request_step e r).1 ++ t) (answer_views (line + 1) (request_step e r).0 requests)

pub told_plain : (script : Script) → view_of_run Answers script ≡ output_of (answers_of script)
told_plain script = ap (λ (t : List ℕ). t ++ total_line (summary_of (answers_of script))) (answer_views 2 (new_run script) script.requests)
