-- A trace within its bounds: what its lines are answered, and how many there are.
use Rattle.std.proofs.Common.{◌≡◌, ℕ, zero, suc, ◌+◌, ◌*◌, ◌≤◌, List, [], ◌∷◌, ◌++◌, length, map, refl, ap, arith, length-append}
use Rattle.std.specs.List.{flat_map}
use Rattle.rh_layout.specs.declared.command.Command.{Command}
use Rattle.rh_model.specs.Plain.{empty_plain}
use Rattle.rh_core.specs.runs.Programs.{CommandAnswers}
use Rattle.rh_syntax.specs.declared.request.Request.{Request}
use Rattle.rh_syntax.specs.declared.request.Request.TheVariants as requests
use Rattle.rh_syntax.specs.Spelling.{Script}
use Rattle.rh_trace.specs.Answers.{answer_line, total_line}
use Rattle.rh_pace.specs.declared.pace.Pace.{Pace}
use Rattle.rh_pace.specs.InTime.{paced_replies}
use Rattle.rh_pace.specs.PlainReplies.{plain_replies}
use Rattle.rh_pace.specs.Worked.{one_joins, one_leaves, queue_calls, times}
use Rattle.rh_paced_trace.specs.Lines.{Commands, commands_in}
use Rattle.rh_paced_trace.specs.Run.{new_run, sum_of, text_of}

-- the text, where the answers are those of the plain heap
pub plain_text : (script : Script) (pace : Pace) → paced_replies (new_run script pace) (commands_in script.requests) ≡ plain_replies (empty_plain script.header.owners script.header.slots) (commands_in script.requests)
    → text_of script pace ≡ flat_map answer_line (plain_replies (empty_plain script.header.owners script.header.slots) (commands_in script.requests)) ++ total_line (sum_of script pace)
plain_text script pace same = ap (λ (answers : CommandAnswers). flat_map answer_line answers ++ total_line (sum_of script pace)) same

-- no more commands than lines
pub commands_in-few : (all : List Request) → length (commands_in all) ≤ length all
commands_in-few [] = omega arith
commands_in-few (requests.Command owner command ∷ others) = let rest = commands_in-few others in omega (arith, rest)
commands_in-few (other ∷ others) = let rest = commands_in-few others in omega (arith, rest)

-- the commands of a trace that has these alone
pub commands_in-map : (calls : Commands) → commands_in (map (λ (call : ℕ × Command). requests.Command call.0 call.1) calls) ≡ calls
commands_in-map [] = refl
commands_in-map (call ∷ rest) = ap (λ (left : Commands). call ∷ left) (commands_in-map rest)

-- how many commands a queue has
length-times : (n : ℕ) (calls : Commands) (k : ℕ) → length calls ≡ k → length (times n calls) ≡ n * k
length-times zero calls k is = omega arith
length-times (suc n) calls k is =
    let both = length-append calls (times n calls) in
    let rest = length-times n calls k is in
    omega (arith, both, rest, is)

pub length-queue : (rounds : ℕ) → length (queue_calls 248 rounds) ≡ 994 + rounds * 5
length-queue rounds =
    let joins = length-times 248 one_joins 4 refl in
    let turns = length-times rounds (one_joins ++ one_leaves) 5 refl in
    let both = length-append (times 248 one_joins) (times rounds (one_joins ++ one_leaves)) in
    omega (arith, joins, turns, both)
