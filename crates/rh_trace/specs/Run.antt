-- What a run of an input gives, and how a run ends.
use Rattle.std.specs.Prelude.{◌≡◌, ℕ, ◌^◌, Bool, false, List, [], ◌∷◌, ◌++◌, length, count_by, cond, ◌+◌, Option, Some, None, Result, Ok, Err, nat_lt, if◌then◌else◌}
use Rattle.std.specs.List.{flat_map}
use Rattle.std.specs.Io.KnownBytes.{Appends, Consumes, Keeps}
use Rattle.rh_layout.specs.declared.command.Reply.{Reply}
use Rattle.rh_layout.specs.declared.refusal.Refusal.{Refusal}
use Rattle.rh_mutator.specs.declared.config.Config.{Config}
use Rattle.rh_mutator.specs.declared.config.ConfigFault.{ConfigFault}
use Rattle.rh_core.specs.declared.outcomes as outcomes
use Rattle.rh_core.specs.declared.errors.BeginError.{BeginError}
use Rattle.rh_core.specs.declared.errors.FlipError.{FlipError}
use Rattle.rh_core.specs.declared.errors.IdleError.{IdleError}
use Rattle.rh_core.specs.declared.errors.NoCycle.{NoCycle}
use Rattle.rh_core.specs.declared.errors.RecallError.{RecallError}
use Rattle.rh_core.specs.declared.errors.ShadeError.{ShadeError}
use Rattle.rh_core.specs.declared.errors.WatchError.{WatchError}
use Rattle.rh_core.specs.declared.stat.Stat.{Stat}
use Rattle.rh_core.specs.Config.{fault_of}
use Rattle.rh_core.specs.Heap.{new_heap}
use Rattle.rh_core.specs.Commands.{is_limit_answer, AnswersAs, plain_unless}
use Rattle.rh_core.specs.Stat.{stat_of}
use Rattle.rh_model.specs.Plain.{PlainHeap, empty_plain, step}
use Rattle.rh_dump.specs.PlainDump.{plain_dump_of}
use Rattle.rh_heap_dump.specs.HeapDump.{dump_of}
use Rattle.rh_engine.specs.declared.engine.TrayDeal.{TrayDeal}
use Rattle.rh_engine.specs.declared.engine.DealRefusal.{DealRefusal}
use Rattle.rh_engine.specs.declared.engine.GiveRefusal.{GiveRefusal}
use Rattle.rh_engine.specs.declared.engine.ResizeRefusal.{ResizeRefusal}
use Rattle.rh_engine.specs.declared.engine.TicketsRefusal.{TicketsRefusal}
use Rattle.rh_syntax.specs.declared.fault.TraceFault.{TraceFault}
use Rattle.rh_trace.specs.declared.run_fault.RunFault.{RunFault}
use Rattle.rh_trace.specs.declared.run_fault.RunFault.TheVariants as faults
use Rattle.rh_syntax.specs.declared.request.Request.{Request}
use Rattle.rh_syntax.specs.declared.request.Request.TheVariants as requests
use Rattle.rh_syntax.specs.declared.line.Header.{Header}
use Rattle.rh_trace.specs.declared.stop.Stop.{Stop}
use Rattle.rh_trace.specs.declared.summary.Summary.{Summary}
use Rattle.rh_engine.specs.declared.trays.JoinRefusal.{JoinRefusal}
use Rattle.rh_engine.specs.Trays.{Trays}
use Rattle.rh_syntax.specs.Spelling.{Script, IsScript, spelling}
use Rattle.rh_syntax.specs.Reading.{trace_of}
use Rattle.rh_trace.specs.Answers as answers
use Rattle.rh_trace.specs.Answers.{Answered, answered_text, is_answer, is_refused, is_flip, flip_of, words_of, root_words_of, total_line}
use Rattle.rh_engine.specs.Engine.{EngineState, command_step, begin_line_step, shade_line_step, deal_line_step, give_line_step, join_line_step, flip_line_step, recall_line_step, abandon_line_step, idle_line_step, resize_line_step, tickets_line_step, watch_line_step, unwatch_line_step, gone_line_step}
use Rattle.rh_text.specs.Output.{AppendsPrefix, AppendsLess}

-- the heap of a trace: the numbers of its first line, and 2^62 store numbers and epochs
abbrev pub config_of : Header → Config
config_of header = record {
  words = header.words;
  ratio = header.ratio;
  owners = header.owners;
  slots = header.slots;
  log_limit = header.log;
  last_number = 2 ^ 62;
  last_epoch = 2 ^ 62;
}

-- the engine after a step of its own, and what is answered
abbrev pub answered_by : {X : Type 0} → (X → Answered) → EngineState × X → EngineState × Answered
answered_by answer stepped = (stepped.0, answer stepped.1)

-- what a request does: the engine afterwards, and what is answered
abbrev pub request_step : EngineState → Request → EngineState × Answered
request_step e (requests.Command owner command) =
    answered_by answers.Answer (command_step e owner command)
request_step e requests.Begin = answered_by answers.Begin (begin_line_step e)
request_step e (requests.Shade root) = answered_by answers.Shade (shade_line_step e root)
request_step e (requests.Deal kind most tray) =
    answered_by answers.Deal (deal_line_step e kind most tray)
request_step e (requests.Give tray) = answered_by answers.Give (give_line_step e tray)
request_step e (requests.Join into other) = answered_by answers.Join (join_line_step e into other)
request_step e requests.Flip = answered_by answers.Flip (flip_line_step e)
request_step e requests.Recall = answered_by answers.Recall (recall_line_step e)
request_step e requests.Abandon = answered_by answers.Abandon (abandon_line_step e)
request_step e (requests.Idle words) = answered_by answers.Idle (idle_line_step e words)
request_step e (requests.Resize words) = answered_by answers.Resize (resize_line_step e words)
request_step e (requests.Tickets tickets) =
    answered_by answers.Tickets (tickets_line_step e tickets)
request_step e (requests.Watch owner root) =
    answered_by answers.Watch (watch_line_step e owner root)
request_step e (requests.Unwatch ticket) =
    answered_by answers.Unwatch (unwatch_line_step e ticket)
request_step e requests.Gone = answered_by answers.Gone (gone_line_step e)
request_step e requests.Trays = (e, answers.Listing e.trays)
request_step e requests.Stat = (e, answers.Numbers (stat_of e.heap))
request_step e requests.Dump = (e, answers.Dump (dump_of e.heap))

-- what is answered to each request, in order
abbrev pub answers_to : EngineState → List Request → List Answered
answers_to e [] = []
answers_to e (request ∷ others) =
    (request_step e request).1 ∷ answers_to (request_step e request).0 others

-- the engine after all requests
abbrev pub engine_after : EngineState → List Request → EngineState
engine_after e [] = e
engine_after e (request ∷ others) = engine_after (request_step e request).0 others

-- what the answers add up to
abbrev pub summary_of : List Answered → Summary
summary_of answers = record {
  commands = count_by is_answer answers;
  refused = count_by is_refused answers;
  flips = count_by is_flip answers;
  root_words = root_words_of answers;
}

-- the sum with one more that was answered
abbrev pub summary_with : Summary → Answered → Summary
summary_with sum answered = record sum {
  commands = sum.commands + cond (is_answer answered) 1 0;
  refused = sum.refused + cond (is_refused answered) 1 0;
  flips = sum.flips + cond (is_flip answered) 1 0;
  root_words = sum.root_words + words_of (flip_of answered);
}

-- the text of each answer, and the total line
abbrev pub output_of : List Answered → List ℕ
output_of answers = flat_map answered_text answers ++ total_line (summary_of answers)

-- what a trace begins with: a new heap, and no trays
abbrev pub new_run : Script → EngineState
new_run script = record { heap = new_heap (config_of script.header); trays = [] }

-- what is answered to all requests of a trace
abbrev pub answers_of : Script → List Answered
answers_of script = answers_to (new_run script) script.requests

-- what a run of this trace gives: the fault of its heap's sizes, or the text that is written and
-- its summary
abbrev pub run_of_script : Option ConfigFault → Script → Result (List ℕ × Summary) RunFault
run_of_script (Some fault) script = Err (faults.New fault)
run_of_script None script = Ok (output_of (answers_of script), summary_of (answers_of script))

-- what a run gives where this was read: a trace, or the fault that the text has
abbrev pub run_of_trace : Result Script TraceFault → Result (List ℕ × Summary) RunFault
run_of_trace (Err fault) = Err (faults.Trace fault)
run_of_trace (Ok script) = run_of_script (fault_of (config_of script.header)) script

-- What a run of this input gives: the first fault, or the text that is written and its summary.
abbrev pub run_of : List ℕ → Result (List ℕ × Summary) RunFault
run_of input =
    if nat_lt 16777216 (length input) then Err faults.Long else run_of_trace (trace_of input)

-- the text that a run writes, if it writes any
abbrev pub text_of : Result (List ℕ × Summary) RunFault → List ℕ
text_of (Ok run) = run.0
text_of (Err fault) = []

-- a fault that the input has was found, and nothing is written
abbrev pub IsFault : RunFault → Result (List ℕ × Summary) RunFault → Option (List ℕ)
    → Option (List ℕ) → Type 0
IsFault fault due old new = (due ≡ Err fault) × Keeps old new

-- How writing this text ends: all of it is written; or a write failed or memory was refused, and a
-- prefix of it is written, and not all.
abbrev pub Writes : {X : Type 0} → List ℕ → Result X Stop → Option (List ℕ) → Option (List ℕ)
    → Type 0
Writes text (Ok x) old new = Appends old new text
Writes text (Err stop) old new = AppendsLess old new text

-- of the text that was to be written a prefix is written that ends before the total line; where
-- there is no such text, nothing is written
abbrev pub StopsBeforeTotal : Result (List ℕ × Summary) RunFault → Option (List ℕ)
    → Option (List ℕ) → Type 0
StopsBeforeTotal (Ok run) old new =
    (text : List ℕ) × (run.0 ≡ text ++ total_line run.1) × AppendsPrefix old new text
StopsBeforeTotal (Err fault) old new = Keeps old new

-- How a run ends that was to give this: with its text written; with a fault of the input and
-- nothing written; where a read failed with nothing written; where a write failed with a prefix of
-- its text written, and not all; where memory was refused with a prefix of its answers written and
-- nothing of the total line, or, if the input has a fault, with nothing written.
abbrev pub Ends : Result (List ℕ × Summary) RunFault → Result Summary RunFault → Option (List ℕ)
    → Option (List ℕ) → Type 0
Ends due (Ok summary) old new = (due ≡ Ok (text_of due, summary)) × Appends old new (text_of due)
Ends due (Err faults.Long) old new = IsFault faults.Long due old new
Ends due (Err (faults.Trace fault)) old new = IsFault (faults.Trace fault) due old new
Ends due (Err (faults.New fault)) old new = IsFault (faults.New fault) due old new
Ends due (Err faults.Read) old new = Keeps old new
Ends due (Err faults.Write) old new = AppendsLess old new (text_of due)
Ends due (Err faults.OutOfMemory) old new = StopsBeforeTotal due old new

-- A request is answered as a plain heap does: a command by its step, or by a limit refusal
-- where the step is accepted; a dump by that of the plain heap. A plain heap has no cycles, no
-- trays, no sizes and no tickets: of the other requests it says nothing but which sort of answer
-- they have.
abbrev pub IsPlainAnswer : PlainHeap → Request → Answered → Type 0
IsPlainAnswer p (requests.Command owner command) answered =
    (answer : Result Reply Refusal) × (answered ≡ answers.Answer answer)
    × AnswersAs answer (step p owner command).1
IsPlainAnswer p requests.Begin answered =
    (answer : Result ℕ BeginError) × (answered ≡ answers.Begin answer)
IsPlainAnswer p (requests.Shade root) answered =
    (answer : Result outcomes.Shaded.Shaded ShadeError) × (answered ≡ answers.Shade answer)
IsPlainAnswer p (requests.Deal kind most tray) answered =
    (answer : Result TrayDeal DealRefusal) × (answered ≡ answers.Deal answer)
IsPlainAnswer p (requests.Give tray) answered =
    (answer : Result outcomes.Given.Given GiveRefusal) × (answered ≡ answers.Give answer)
IsPlainAnswer p (requests.Join into other) answered =
    (answer : Result ℕ JoinRefusal) × (answered ≡ answers.Join answer)
IsPlainAnswer p requests.Flip answered =
    (answer : Result outcomes.Flipped.Flipped FlipError) × (answered ≡ answers.Flip answer)
IsPlainAnswer p requests.Recall answered =
    (answer : Result ℕ RecallError) × (answered ≡ answers.Recall answer)
IsPlainAnswer p requests.Abandon answered =
    (answer : Result ℕ NoCycle) × (answered ≡ answers.Abandon answer)
IsPlainAnswer p (requests.Idle words) answered =
    (answer : Result ℕ IdleError) × (answered ≡ answers.Idle answer)
IsPlainAnswer p (requests.Resize words) answered =
    (answer : Result ℕ ResizeRefusal) × (answered ≡ answers.Resize answer)
IsPlainAnswer p (requests.Tickets tickets) answered =
    (answer : Result ℕ TicketsRefusal) × (answered ≡ answers.Tickets answer)
IsPlainAnswer p (requests.Watch owner root) answered =
    (answer : Result ℕ WatchError) × (answered ≡ answers.Watch answer)
IsPlainAnswer p (requests.Unwatch ticket) answered =
    (watched : Bool) × (answered ≡ answers.Unwatch watched)
IsPlainAnswer p requests.Gone answered = (tickets : List ℕ) × (answered ≡ answers.Gone tickets)
IsPlainAnswer p requests.Trays answered = (listed : Trays) × (answered ≡ answers.Listing listed)
IsPlainAnswer p requests.Stat answered = (stat : Stat) × (answered ≡ answers.Numbers stat)
IsPlainAnswer p requests.Dump answered = answered ≡ answers.Dump (plain_dump_of p)

-- whether a limit refused a command
abbrev pub is_limited : Answered → Bool
is_limited (answers.Answer answer) = is_limit_answer answer
is_limited other = false

-- the plain heap after a request: it goes on by each command that no limit refused, and stays
-- through all other requests
abbrev pub plain_after : PlainHeap → Request → Answered → PlainHeap
plain_after p (requests.Command owner command) answered =
    plain_unless (is_limited answered) p owner command
plain_after p other answered = p

-- Request by request the answers are those of a plain heap, but for limits.
abbrev pub AreTransparent : PlainHeap → List Request → List Answered → Type 0
AreTransparent p [] [] = Unit {0}
AreTransparent p [] (answered ∷ answers) = ⊥
AreTransparent p (request ∷ others) [] = ⊥
AreTransparent p (request ∷ others) (answered ∷ answers) =
    IsPlainAnswer p request answered
    × AreTransparent (plain_after p request answered) others answers

-- The bytes that a reader gave spell this trace, and the answers to its requests are those of a
-- plain heap that begins empty, but for limits.
pub record IsPlainRun (script : Script) (answers : List Answered) (old new : Option (List ℕ))
    : Type 0 where
  pub fits : IsScript script
  pub read : Consumes old new (spelling script)
  pub answered :
      AreTransparent (empty_plain script.header.owners script.header.slots) script.requests answers
