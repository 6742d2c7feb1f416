-- What a run writes are the answers of a plain heap.
use Rattle.std.proofs.Common.{◌≡◌, ◌⊎◌, inl, inr, ℕ, ◌<◌, List, [], ◌∷◌, ◌++◌, length, Option, Some, None, Result, Ok, Err, refl, sym, ap, subst, ◌∙◌, arith}
use Rattle.std.specs.Prelude.{IfOk, IsErrOf}
use Rattle.std.specs.List.{flat_map}
use Rattle.std.specs.Io.KnownBytes.{Appends, Consumes, Keeps}
use Rattle.std.proofs.lemmas.List.{length-append, append_cancel_right}
use Rattle.rh_model.specs.Plain.{PlainHeap, empty_plain}
use Rattle.rh_mutator.specs.declared.config.Config.{Config}
use Rattle.rh_mutator.specs.declared.config.ConfigFault.{ConfigFault}
use Rattle.rh_core.specs.Config.{fault_of}
use Rattle.rh_core.specs.Mutator.{StandsFor}
use Rattle.rh_core.specs.Heap.{HeapState, new_heap, IsWellFormed}
use Rattle.rh_core.specs.declared.event.Event.{Event}
use Rattle.rh_core.specs.declared.event.Event.TheVariants as happenings
use Rattle.rh_core.specs.declared.outcomes.Dealt.{Dealt}
use Rattle.rh_layout.specs.declared.kind.Kind.{Kind}
use Rattle.rh_core.specs.declared.errors.DealError.{DealError}
use Rattle.rh_core.specs.Dealing.{deal_step}
use Rattle.rh_core.specs.runs.Run as events
use Rattle.rh_core.specs.runs.Run.{event_step}
use Rattle.rh_core.specs.Stat.{stat_of}
use Rattle.rh_engine.specs.declared.engine.DealRefusal.{DealRefusal}
use Rattle.rh_engine.specs.Trays.{Trays, Tray, tray_named, replica_of}
use Rattle.rh_engine.specs.Engine.{EngineState, command_step, begin_line_step, shade_line_step, deal_line_step, deal_unless, deal_done, tray_refusal, give_line_step, give_found, join_line_step, flip_line_step, recall_line_step, abandon_line_step, idle_line_step, resize_line_step, tickets_line_step, watch_line_step, unwatch_line_step, gone_line_step}
use Rattle.rh_syntax.specs.declared.fault.TraceFault.{TraceFault}
use Rattle.rh_trace.specs.declared.run_fault.RunFault.{RunFault}
use Rattle.rh_trace.specs.declared.run_fault.RunFault.TheVariants as faults
use Rattle.rh_trace.specs.declared.summary.Summary.{Summary}
use Rattle.rh_text.specs.Output.{AppendsPrefix, AppendsLess}
use Rattle.rh_syntax.specs.Spelling.{Script}
use Rattle.rh_syntax.specs.Reading.{trace_of}
use Rattle.rh_dump.specs.PlainDump.{plain_dump_of}
use Rattle.rh_heap_dump.specs.HeapDump.{dump_of}
use Rattle.rh_syntax.specs.declared.request.Request.{Request}
use Rattle.rh_syntax.specs.declared.request.Request.TheVariants as requests
use Rattle.rh_trace.specs.Answers as answers
use Rattle.rh_trace.specs.Answers.{Answered, answered_text, total_line}
use Rattle.rh_trace.specs.Run.{config_of, request_step, answers_to, new_run, answers_of, summary_of, output_of, run_of_script, run_of_trace, text_of, StopsBeforeTotal, Ends, IsPlainAnswer, plain_after, AreTransparent, IsPlainRun}
use Rattle.rh_syntax.specs.lemmas.ReadIsSpelled.{trace_of-means}
use Rattle.rh_core.proofs.runs.NewHeaps.{new-well_formed}
use Rattle.rh_trace.specs.Fixed.{EngineSteps, IsFixedRun}
use Rattle.rh_trace.specs.Lines.{Runs, Seen, answers_in}
use Rattle.rh_trace.proofs.EngineLines.{answers_of_runs}
use Rattle.rh_trace.proofs.ResizedHeaps.{resize-well_formed, resize-stands}
use Rattle.rh_trace.proofs.WatchedHeaps.{watched-well_formed, watched-stands}

-- a new heap stands for the empty plain heap
abbrev pub Begins : Type 0
Begins = (c : Config) → StandsFor (new_heap c).mutators (empty_plain c.owners c.slots)

-- a heap has the dump of each plain heap that it stands for
abbrev pub Dumps : Type 0
Dumps = (h : HeapState) (p : PlainHeap) → StandsFor h.mutators p → dump_of h ≡ plain_dump_of p

-- each event keeps a heap well formed
abbrev pub StaysWellFormed : Type 0 → Type 0
StaysWellFormed A = (h : HeapState) → IsWellFormed h → (event : Event A) → IsWellFormed (event_step h event).0

-- a well-formed heap that stands for a plain heap answers an event as it does, and goes on to stand for it
abbrev pub Steps : Type 0 → Type 0
Steps A = (h : HeapState) → IsWellFormed h → (p : PlainHeap) → StandsFor h.mutators p → (event : Event A)
    → events.IsPlainAnswer p event (event_step h event).1
    × StandsFor (event_step h event).0.mutators (events.plain_after p event (event_step h event).1)

-- a well-formed heap that stands for a plain heap
abbrev IsPlain : HeapState → PlainHeap → Type 0
IsPlain h p = IsWellFormed h × StandsFor h.mutators p

-- once a deal was answered, the heap is what it was given as
heap-deal_done : (h : HeapState) (dealt : Result Dealt DealError) (trays : Trays) (name : List ℕ) → (deal_done h dealt trays name).0.heap ≡ h
heap-deal_done h (Ok dealt) trays name = refl
heap-deal_done h (Err why) trays name = refl

module _ {A : Type 0} (keeps : StaysWellFormed A) (steps : Steps A) where
  event-plain : (h : HeapState) (p : PlainHeap) → IsPlain h p → (event : Event A) → IsPlain (event_step h event).0 (events.plain_after p event (event_step h event).1)
  event-plain h p plain event = (keeps h plain.0 event, (steps h plain.0 p plain.1 event).1)

  deal-plain : (refusal : Option DealRefusal) (e : EngineState) (p : PlainHeap) (kind : Kind) (most : ℕ) (name : List ℕ) → IsPlain e.heap p → IsPlain (deal_unless refusal e kind most name).0.heap p
  deal-plain (Some why) e p kind most name plain = plain
  deal-plain None e p kind most name plain =
      subst (λ (h : HeapState). IsPlain h p) (sym (heap-deal_done (deal_step e.heap kind most).0 (deal_step e.heap kind most).1 e.trays name)) (event-plain e.heap p plain (happenings.Deal kind most))

  give-plain : (found : Option Tray) (e : EngineState) (p : PlainHeap) → IsPlain e.heap p → IsPlain (give_found found e).0.heap p
  give-plain None e p plain = plain
  give-plain (Some t) e p plain = event-plain e.heap p plain (happenings.Give (replica_of t))

  -- a request is answered as by the plain heap
  request-answer : Dumps → (request : Request) (e : EngineState) (p : PlainHeap) → IsPlain e.heap p → IsPlainAnswer p request (request_step e request).1
  request-answer dumps (requests.Command owner command) e p plain = ((command_step e owner command).1, refl, (steps e.heap plain.0 p plain.1 (happenings.Command owner command)).0)
  request-answer dumps requests.Begin e p plain = ((begin_line_step e).1, refl)
  request-answer dumps (requests.Shade root) e p plain = ((shade_line_step e root).1, refl)
  request-answer dumps (requests.Deal kind most tray) e p plain = ((deal_line_step e kind most tray).1, refl)
  request-answer dumps (requests.Give tray) e p plain = ((give_line_step e tray).1, refl)
  request-answer dumps (requests.Join into other) e p plain = ((join_line_step e into other).1, refl)
  request-answer dumps requests.Flip e p plain = ((flip_line_step e).1, refl)
  request-answer dumps requests.Recall e p plain = ((recall_line_step e).1, refl)
  request-answer dumps requests.Abandon e p plain = ((abandon_line_step e).1, refl)
  request-answer dumps (requests.Idle words) e p plain = ((idle_line_step e words).1, refl)
  request-answer dumps (requests.Resize words) e p plain = ((resize_line_step e words).1, refl)
  request-answer dumps (requests.Tickets tickets) e p plain = ((tickets_line_step e tickets).1, refl)
  request-answer dumps (requests.Watch owner root) e p plain = ((watch_line_step e owner root).1, refl)
  request-answer dumps (requests.Unwatch ticket) e p plain = ((unwatch_line_step e ticket).1, refl)
  request-answer dumps requests.Gone e p plain = ((gone_line_step e).1, refl)
  request-answer dumps requests.Trays e p plain = (e.trays, refl)
  request-answer dumps requests.Stat e p plain = (stat_of e.heap, refl)
  request-answer dumps requests.Dump e p plain = ap answers.Dump (dumps e.heap p plain.1)

  -- and the heap goes on to stand for it
  request-plain : (request : Request) (e : EngineState) (p : PlainHeap) → IsPlain e.heap p → IsPlain (request_step e request).0.heap (plain_after p request (request_step e request).1)
  request-plain (requests.Command owner command) e p plain = event-plain e.heap p plain (happenings.Command owner command)
  request-plain requests.Begin e p plain = event-plain e.heap p plain happenings.Begin
  request-plain (requests.Shade root) e p plain = event-plain e.heap p plain (happenings.Shade root)
  request-plain (requests.Deal kind most tray) e p plain = deal-plain (tray_refusal e tray) e p kind most tray plain
  request-plain (requests.Give tray) e p plain = give-plain (tray_named e.trays tray) e p plain
  request-plain (requests.Join into other) e p plain = plain
  request-plain requests.Flip e p plain = event-plain e.heap p plain happenings.Flip
  request-plain requests.Recall e p plain = event-plain e.heap p plain happenings.Recall
  request-plain requests.Abandon e p plain = event-plain e.heap p plain happenings.Abandon
  request-plain (requests.Idle words) e p plain = event-plain e.heap p plain (happenings.Idle words)
  request-plain (requests.Resize words) e p plain = (resize-well_formed e words plain.0, resize-stands e words p plain.1)
  request-plain (requests.Tickets tickets) e p plain = (watched-well_formed e (requests.Tickets tickets) tt plain.0, watched-stands e (requests.Tickets tickets) tt p plain.1)
  request-plain (requests.Watch owner root) e p plain = (watched-well_formed e (requests.Watch owner root) tt plain.0, watched-stands e (requests.Watch owner root) tt p plain.1)
  request-plain (requests.Unwatch ticket) e p plain = (watched-well_formed e (requests.Unwatch ticket) tt plain.0, watched-stands e (requests.Unwatch ticket) tt p plain.1)
  request-plain requests.Gone e p plain = (watched-well_formed e requests.Gone tt plain.0, watched-stands e requests.Gone tt p plain.1)
  request-plain requests.Trays e p plain = plain
  request-plain requests.Stat e p plain = plain
  request-plain requests.Dump e p plain = plain

  answers-transparent : Dumps → (requests : List Request) (e : EngineState) (p : PlainHeap) → IsPlain e.heap p → AreTransparent p requests (answers_to e requests)
  answers-transparent dumps [] e p plain = tt
  answers-transparent dumps (request ∷ others) e p plain = (
    request-answer dumps request e p plain,
    answers-transparent dumps others (request_step e request).0 (plain_after p request (request_step e request).1) (request-plain request e p plain),
  )

  -- requests that are played on a new heap are answered as a plain heap that begins empty does
  pub new_run-transparent : Begins → Dumps → (script : Script) (requests : List Request) → fault_of (config_of script.header) ≡ None → AreTransparent (empty_plain script.header.owners script.header.slots) requests (answers_to (new_run script) requests)
  new_run-transparent begins dumps script requests good =
      let config = config_of script.header in
      answers-transparent dumps requests (new_run script) (empty_plain script.header.owners script.header.slots) (new-well_formed config good, begins config)

  -- so are those of which this is seen
  pub fixed-transparent : Begins → Dumps → (script : Script) (s : EngineState) → IsFixedRun script s → (requests : List Request) (seen : List (Seen EngineState)) → Runs EngineSteps 2 s requests seen → AreTransparent (empty_plain script.header.owners script.header.slots) requests (answers_in seen)
  fixed-transparent begins dumps script s fit requests seen runs =
      let plain = empty_plain script.header.owners script.header.slots in
      subst (AreTransparent plain requests) (ap (λ (e : EngineState). answers_to e requests) (sym fit.1) ∙ sym (answers_of_runs 2 s requests seen runs))
      (new_run-transparent begins dumps script requests fit.0)

  -- a trace that was read, with its answers
  pub plain_run : Begins → Dumps → (input : List ℕ) (script : Script) (old new : Option (List ℕ)) → Consumes old new input → trace_of input ≡ Ok script → fault_of (config_of script.header) ≡ None → IsPlainRun script (answers_of script) old new
  plain_run begins dumps input script old new consumed is good =
      let takes = trace_of-means input script is in
      record {
        fits = takes.0;
        read = subst (Consumes old new) takes.1 consumed;
        answered = new_run-transparent begins dumps script script.requests good;
      }

-- ---- from what a run was to give to the trace that was read

-- a text that is given, and its summary, are those of a trace that was read
pub record IsRunOf (read : Result Script TraceFault) (run : List ℕ × Summary) : Type 0 where
  pub script : Script
  pub is : read ≡ Ok script
  pub faultless : fault_of (config_of script.header) ≡ None
  pub text : run.0 ≡ output_of (answers_of script)
  pub summary : run.1 ≡ summary_of (answers_of script)

run_of_script_ok : (fault : Option ConfigFault) (script : Script) (run : List ℕ × Summary) → run_of_script fault script ≡ Ok run → (fault ≡ None) × (run ≡ (output_of (answers_of script), summary_of (answers_of script)))
run_of_script_ok (Some fault) script run e = absurd cc
run_of_script_ok None script run e = (refl, cc)

run_ok : (read : Result Script TraceFault) (run : List ℕ × Summary) → run_of_trace read ≡ Ok run → IsRunOf read run
run_ok (Err fault) run e = absurd cc
run_ok (Ok script) run e =
    let same = run_of_script_ok (fault_of (config_of script.header)) script run e in
    record { script = script; is = refl; faultless = same.0; text = ap (λ (r : List ℕ × Summary). r.0) same.1; summary = ap (λ (r : List ℕ × Summary). r.1) same.1 }

-- some text was to be written
run_is_due : (due : Result (List ℕ × Summary) RunFault) (prefix rest : List ℕ) → text_of due ≡ prefix ++ rest → 0 < length rest → (run : List ℕ × Summary) × (due ≡ Ok run)
run_is_due (Ok run) prefix rest e some = (run, refl)
run_is_due (Err fault) prefix rest e some = absurd (omega (arith, ap length e, length-append prefix rest, some))

-- a text was to be written, and nothing of its total line was
abbrev IsStopped : Result (List ℕ × Summary) RunFault → Option (List ℕ) → Option (List ℕ) → Type 0
IsStopped due old new = (run : List ℕ × Summary) × (due ≡ Ok run) × StopsBeforeTotal (Ok run) old new

-- a text was to be written, or nothing was written
stops : (due : Result (List ℕ × Summary) RunFault) (old new : Option (List ℕ)) → StopsBeforeTotal due old new → Keeps old new ⊎ IsStopped due old new
stops (Ok run) old new ends = inr (run, refl, ends)
stops (Err fault) old new kept = inl kept

-- not all was written that a plain heap answers to a trace
abbrev pub IsPlainCut : Option (List ℕ) → Option (List ℕ) → Option (List ℕ) → Option (List ℕ) → Type 0
IsPlainCut from to old new = (script : Script) × (answers : List Answered) × IsPlainRun script answers from to × AppendsLess old new (output_of answers)

-- of what a plain heap answers to a trace a prefix was written, and nothing of the total line
abbrev pub IsPlainStop : Option (List ℕ) → Option (List ℕ) → Option (List ℕ) → Option (List ℕ) → Type 0
IsPlainStop from to old new = (script : Script) × (answers : List Answered) × IsPlainRun script answers from to × AppendsPrefix old new (flat_map answered_text answers)

module _ {A : Type 0} (keeps : StaysWellFormed A) (steps : Steps A) (begins : Begins) (dumps : Dumps) (input : List ℕ) (from to old new : Option (List ℕ)) (consumed : Consumes from to input) where
  pub plain : (result : Result Summary RunFault) → Ends (run_of_trace (trace_of input)) result old new
      → IfOk result (λ summary. (script : Script) × (answers : List Answered) × IsPlainRun script answers from to × (summary ≡ summary_of answers) × Appends old new (output_of answers))
  plain (Err fault) ends = tt
  plain (Ok summary) ends =
      let due = run_of_trace (trace_of input) in
      let ran = run_ok (trace_of input) (text_of due, summary) ends.0 in
      (ran.script, answers_of ran.script, plain_run keeps steps begins dumps input ran.script from to consumed ran.is ran.faultless, ran.summary, subst (Appends old new) ran.text ends.1)

  pub plain_prefix : (result : Result Summary RunFault) → Ends (run_of_trace (trace_of input)) result old new → IsErrOf result faults.Write → IsPlainCut from to old new
  plain_prefix result ends failed =
      let due = run_of_trace (trace_of input) in
      let less : AppendsLess old new (text_of due) = subst (λ (r : Result Summary RunFault). Ends due r old new) failed ends in
      let some = run_is_due due less.0 less.1 less.2 less.3 in
      let ran = run_ok (trace_of input) some.0 some.1 in
      (ran.script, answers_of ran.script, plain_run keeps steps begins dumps input ran.script from to consumed ran.is ran.faultless, subst (AppendsLess old new) (ap text_of some.1 ∙ ran.text) less)

  stop_is_plain : Keeps old new ⊎ IsStopped (run_of_trace (trace_of input)) old new → Keeps old new ⊎ IsPlainStop from to old new
  stop_is_plain (inl kept) = inl kept
  stop_is_plain (inr stopped) =
      let ran = run_ok (trace_of input) stopped.0 stopped.1 in
      let answers = answers_of ran.script in
      let text = flat_map answered_text answers in
      let same : stopped.2.0 ≡ text = append_cancel_right stopped.2.0 text (total_line (summary_of answers)) (ap (λ (s : Summary). stopped.2.0 ++ total_line s) (sym ran.summary) ∙ sym stopped.2.1 ∙ ran.text) in
      inr (ran.script, answers, plain_run keeps steps begins dumps input ran.script from to consumed ran.is ran.faultless, subst (AppendsPrefix old new) same stopped.2.2)

  pub plain_memory : (result : Result Summary RunFault) → Ends (run_of_trace (trace_of input)) result old new → IsErrOf result faults.OutOfMemory → Keeps old new ⊎ IsPlainStop from to old new
  plain_memory result ends failed =
      let due = run_of_trace (trace_of input) in
      stop_is_plain (stops due old new (subst (λ (r : Result Summary RunFault). Ends due r old new) failed ends))
