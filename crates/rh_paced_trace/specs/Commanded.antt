-- Lines of commands alone, played on a heap that collects by itself.
use Rattle.std.specs.Prelude.{◌≡◌, ℕ, List, map, Result}
use Rattle.rh_layout.specs.declared.command.Command.{Command}
use Rattle.rh_layout.specs.declared.command.Reply.{Reply}
use Rattle.rh_layout.specs.declared.refusal.Refusal.{Refusal}
use Rattle.rh_core.specs.runs.Programs.{CommandAnswers}
use Rattle.rh_syntax.specs.declared.request.Request.{Request}
use Rattle.rh_syntax.specs.declared.request.Request.TheVariants as requests
use Rattle.rh_trace.specs.declared.summary.Summary.{Summary}
use Rattle.rh_trace.specs.Answers as answers
use Rattle.rh_trace.specs.Answers.{Answered}
use Rattle.rh_pace.specs.Paced.{PacedState}

module _ {X S : Type 0} (step : X → S → ℕ → Command → S × Result Reply Refusal) where
  -- A heap that collects by itself plays commands alone. Each is one step of it, in which something
  -- may be given, with that step's answer.
  abbrev pub CommandSteps : S → Request → S → Answered → Type 0
  CommandSteps s (requests.Command owner command) t answered =
      (given : X) × (t ≡ (step given s owner command).0)
      × (answered ≡ answers.Answer (step given s owner command).1)
  CommandSteps s other t answered = ⊥

-- what a run of commands adds up to: those that were counted, and the flips that the heap did
abbrev pub total_at : PacedState → Summary → Summary
total_at s counted = record counted { flips = s.heap.flips; root_words = s.heap.root_words }

-- answers to commands, as those of the lines of a trace
abbrev pub answered_by : CommandAnswers → List Answered
answered_by replies = map answers.Answer replies
