-- Which lines a history keeps, said of pairs of a request and its answer.
use Rattle.std.specs.Prelude.{Bool, false, not}
use Rattle.rh_mutator.specs.Commands.{is_limit_answer}
use Rattle.rh_syntax.specs.declared.request.Request.{Request}
use Rattle.rh_syntax.specs.declared.request.Request.TheVariants as requests
use Rattle.rh_trace.specs.Answers as answers
use Rattle.rh_trace.specs.Answers.{Answered}
use Rattle.rh_replay.specs.declared.call.Call.{Call}

-- whether it is a command that no limit refused
abbrev pub is_kept : Request → Answered → Bool
is_kept (requests.Command owner command) (answers.Answer answer) = not (is_limit_answer answer)
is_kept request answered = false

-- the request that a call was, and its answer
abbrev pub line_of_call : Call → Request × Answered
line_of_call c = (requests.Command c.owner c.command, answers.Answer c.answer)
