-- What a paced run writes are the answers of a plain heap.
use Rattle.std.proofs.Common.{◌≡◌, ℕ, false, inl, inr, List, [], ◌∷◌, Option, None, Result, Ok, Err, refl, sym, ap, subst, ◌∙◌}
use Rattle.std.specs.Prelude.{IfOk}
use Rattle.std.specs.Io.KnownBytes.{Appends, Consumes}
use Rattle.std.proofs.lemmas.List.Elements.{All-head, All-tail}
use Rattle.rh_layout.specs.declared.command.Command.{Command}
use Rattle.rh_layout.specs.declared.command.Reply.{Reply}
use Rattle.rh_layout.specs.declared.refusal.Refusal.{Refusal}
use Rattle.rh_model.specs.Plain.{PlainHeap, empty_plain, step}
use Rattle.rh_mutator.specs.declared.config.Config.{Config}
use Rattle.rh_mutator.specs.Config.{fault_of}
use Rattle.rh_mutator.specs.Mutator.{StandsFor}
use Rattle.rh_mutator.specs.Commands.{is_limit_answer, AnswersAs, plain_unless}
use Rattle.rh_core.specs.Heap.{HeapState, new_heap, IsWellFormed}
use Rattle.rh_layout.specs.declared.command.RootId.{RootId}
use Rattle.rh_core.specs.Commands.{heap_step}
use Rattle.rh_core.specs.Cycle.{begin_step, flip_step}
use Rattle.rh_core.specs.Holding.{hold_step}
use Rattle.rh_core.specs.Idle.{idle_step}
use Rattle.rh_core.specs.Shading.{shade_step}
use Rattle.rh_core.specs.declared.event.Event.{Event}
use Rattle.rh_core.specs.declared.event.Event.TheVariants as events
use Rattle.rh_core.specs.runs.Collected.{IsCollected}
use Rattle.rh_core.specs.runs.Programs.{CommandAnswers, AreUnlimited}
use Rattle.rh_core.specs.runs.Run as runs
use Rattle.rh_core.specs.runs.Run.{event_step}
use Rattle.rh_text.specs.Output.{AppendsLess}
use Rattle.rh_syntax.specs.Spelling.{Script}
use Rattle.rh_syntax.specs.lemmas.ReadIsSpelled.{trace_of-means}
use Rattle.rh_trace.specs.declared.summary.Summary.{Summary}
use Rattle.rh_trace.specs.declared.way_fault.WayFault.{WayFault}
use Rattle.rh_trace.specs.declared.way_fault.WayFault.TheVariants as faults
use Rattle.rh_trace.specs.Run.{config_of}
use Rattle.rh_pace.specs.declared.pace.Pace.{Pace}
use Rattle.rh_pace.specs.InTime.{paced_replies}
use Rattle.rh_pace.specs.Paced.{PacedState, after_answer, paced_step, with_command}
use Rattle.rh_paced_trace.specs.declared.fault.Unpaced.{Unpaced}
use Rattle.rh_paced_trace.specs.Lines.{Commands, commands_in}
use Rattle.rh_paced_trace.specs.Run.{new_run, output_of, sum_of, IsCommandTrace, IsRun, Ends, AreTransparent, IsPlainRun, AreSumsOf}
use Rattle.rh_paced_trace.proofs.CollectorWork.{WorkLaws, answered}

-- no limit refused by the answer
abbrev IsUnlimited : Result Reply Refusal → Type 0
IsUnlimited answer = is_limit_answer answer ≡ false

-- a well-formed heap that stands for a plain heap
abbrev IsPlain : HeapState → PlainHeap → Type 0
IsPlain h p = IsWellFormed h × StandsFor h.mutators p

-- what the laws of a heap say of it and the plain heap that it stands for
pub record PlainLaws (A : Type 0) : Type 0 where
  pub work : WorkLaws (IsCollected A)
  pub new : (c : Config) → fault_of c ≡ None → IsWellFormed (new_heap c)
  pub begins : (c : Config) → StandsFor (new_heap c).mutators (empty_plain c.owners c.slots)
  pub steps : (h : HeapState) → IsWellFormed h → (p : PlainHeap) → StandsFor h.mutators p → (event : Event A)
      → runs.IsPlainAnswer p event (event_step h event).1 × StandsFor (event_step h event).0.mutators (runs.plain_after p event (event_step h event).1)
  pub keeps : (h : HeapState) → IsWellFormed h → (event : Event A) → IsWellFormed (event_step h event).0
  pub well : (h k : HeapState) → IsWellFormed h → IsCollected A h k → IsWellFormed k
  pub stands : (h k : HeapState) → IsWellFormed h → IsCollected A h k → (p : PlainHeap) → StandsFor h.mutators p → StandsFor k.mutators p

-- what the public laws of a heap say
pub laws_of : {A : Type 0}
    → ((h : HeapState) → IsCollected A h h)
    → ((g h k : HeapState) → IsCollected A g h → IsCollected A h k → IsCollected A g k)
    → ((h : HeapState) → IsCollected A h (begin_step h).0)
    → ((h : HeapState) (root : RootId) → IsCollected A h (shade_step h root).0)
    → ((h : HeapState) → IsCollected A h (hold_step h).0)
    → ((h : HeapState) → IsCollected A h (flip_step h).0)
    → ((h : HeapState) (words : ℕ) → IsCollected A h (idle_step h words).0)
    → ((h k : HeapState) → IsWellFormed h → IsCollected A h k → IsWellFormed k)
    → ((h k : HeapState) → IsWellFormed h → IsCollected A h k → (p : PlainHeap) → StandsFor h.mutators p → StandsFor k.mutators p)
    → ((c : Config) → fault_of c ≡ None → IsWellFormed (new_heap c))
    → ((c : Config) → StandsFor (new_heap c).mutators (empty_plain c.owners c.slots))
    → ((h : HeapState) → IsWellFormed h → (p : PlainHeap) → StandsFor h.mutators p → (event : Event A)
    → runs.IsPlainAnswer p event (event_step h event).1 × StandsFor (event_step h event).0.mutators (runs.plain_after p event (event_step h event).1))
    → ((h : HeapState) → IsWellFormed h → (event : Event A) → IsWellFormed (event_step h event).0)
    → PlainLaws A
laws_of none both begin shade hold flip idle well stands new begins steps keeps = record {
  work = record { none = none; both = both; begin = begin; shade = shade; hold = hold; flip = flip; idle = idle };
  new = new;
  begins = begins;
  steps = steps;
  keeps = keeps;
  well = well;
  stands = stands;
}

-- an answer by which no limit refused is the plain heap's
unlimited : (answer plain_answer : Result Reply Refusal) → AnswersAs answer plain_answer → is_limit_answer answer ≡ false → answer ≡ plain_answer
unlimited answer plain_answer (inl same) within = same.1
unlimited answer plain_answer (inr limited) within = absurd (let full = limited.0 in cc)

-- Answers of which each is a plain heap's, and by which no limit refused, are the same.
pub alike : (commands : Commands) (p : PlainHeap) (first second : CommandAnswers) → AreTransparent p commands first → AreTransparent p commands second → AreUnlimited first → AreUnlimited second → first ≡ second
alike [] p [] [] one other within also = refl
alike [] p [] (b ∷ bs) one other within also = absurd other
alike [] p (a ∷ left) second one other within also = absurd one
alike (owned ∷ others) p [] second one other within also = absurd one
alike (owned ∷ others) p (a ∷ left) [] one other within also = absurd other
alike (owned ∷ others) p (a ∷ left) (b ∷ bs) one other within also =
    let here = unlimited a (step p owned.0 owned.1).1 one.0 (All-head IsUnlimited a left within) in
    let there = unlimited b (step p owned.0 owned.1).1 other.0 (All-head IsUnlimited b bs also) in
    let same : a ≡ b = here ∙ sym there in
    let later = subst (λ (answer : Result Reply Refusal). AreTransparent (plain_unless (is_limit_answer answer) p owned.0 owned.1) others bs) (sym same) other.1 in
    let rest = alike others (plain_unless (is_limit_answer a) p owned.0 owned.1) left bs one.1 later (All-tail IsUnlimited a left within) (All-tail IsUnlimited b bs also) in
    ap (λ (answer : Result Reply Refusal). answer ∷ left) same ∙ ap (λ (answers : CommandAnswers). b ∷ answers) rest

-- a trace of commands whose answers are a plain heap's
pub plain_run_of : (input : List ℕ) (script : Script) (answers : CommandAnswers) (old new : Option (List ℕ)) → IsCommandTrace input script → Consumes old new input
    → AreTransparent (empty_plain script.header.owners script.header.slots) (commands_in script.requests) answers → IsPlainRun script answers old new
plain_run_of input script answers old new trace consumed answered =
    let takes = trace_of-means input script trace.read in
    record {
      fits = takes.0;
      read = subst (Consumes old new) takes.1 consumed;
      commands = trace.commands;
      answered = answered;
    }

module _ {A : Type 0} (laws : PlainLaws A) where
  -- a command is answered as by the plain heap, and the heap goes on to stand for it
  one : (s : PacedState) (p : PlainHeap) → IsPlain s.heap p → (owner : ℕ) (command : Command)
      → AnswersAs (paced_step s owner command).1 (step p owner command).1
      × IsPlain (paced_step s owner command).0.heap (plain_unless (is_limit_answer (paced_step s owner command).1) p owner command)
  unfolding paced_step
  one s p plain owner command =
      let event : Event A = events.Command owner command in
      let done = heap_step s.heap owner command in
      let next = after_answer done.1 command (with_command s owner command) in
      let steps = laws.steps s.heap plain.0 p plain.1 event in
      let well = laws.keeps s.heap plain.0 event in
      let work = answered laws.work done.1 command (with_command s owner command) in
      (steps.0, (laws.well done.0 next.heap well work, laws.stands done.0 next.heap well work (plain_unless (is_limit_answer done.1) p owner command) steps.1))

  transparent : (commands : Commands) (s : PacedState) (p : PlainHeap) → IsPlain s.heap p → AreTransparent p commands (paced_replies s commands)
  transparent [] s p plain = tt
  transparent (owned ∷ others) s p plain =
      let first = one s p plain owned.0 owned.1 in
      (first.0, transparent others (paced_step s owned.0 owned.1).0 (plain_unless (is_limit_answer (paced_step s owned.0 owned.1).1) p owned.0 owned.1) first.1)

  -- what a run is answered
  abbrev answers_of : Script → Pace → CommandAnswers
  answers_of script pace = paced_replies (new_run script pace) (commands_in script.requests)

  -- so is what a run is answered to any commands
  pub started_plainly : (script : Script) → fault_of (config_of script.header) ≡ None → (pace : Pace) (commands : Commands)
      → AreTransparent (empty_plain script.header.owners script.header.slots) commands (paced_replies (new_run script pace) commands)
  started_plainly script sizes pace commands =
      let c = config_of script.header in
      transparent commands (new_run script pace) (empty_plain script.header.owners script.header.slots) (laws.new c sizes, laws.begins c)

  pub answered_plainly : (script : Script) → fault_of (config_of script.header) ≡ None → (pace : Pace)
      → AreTransparent (empty_plain script.header.owners script.header.slots) (commands_in script.requests) (answers_of script pace)
  answered_plainly script sizes pace = started_plainly script sizes pace (commands_in script.requests)

  -- so two runs at any paces are answered alike, where no limit refused
  pub unseen : (script : Script) → fault_of (config_of script.header) ≡ None → (first second : Pace)
      → AreUnlimited (paced_replies (new_run script first) (commands_in script.requests)) → AreUnlimited (paced_replies (new_run script second) (commands_in script.requests))
      → paced_replies (new_run script first) (commands_in script.requests) ≡ paced_replies (new_run script second) (commands_in script.requests)
  unseen script sizes first second within also =
      alike (commands_in script.requests) (empty_plain script.header.owners script.header.slots) (answers_of script first) (answers_of script second)
      (answered_plainly script sizes first) (answered_plainly script sizes second) within also

  plain_run : (mark : Option ℕ) (input : List ℕ) (script : Script) (pace : Pace) (old new : Option (List ℕ)) → IsRun mark input script pace → Consumes old new input → IsPlainRun script (answers_of script pace) old new
  plain_run mark input script pace old new run consumed =
      plain_run_of input script (answers_of script pace) old new run.trace consumed (answered_plainly script run.sizes pace)

  sums : (script : Script) (pace : Pace) → AreSumsOf (answers_of script pace) (sum_of script pace)
  sums script pace = record { commands = refl; refused = refl }

  module _ (mark : Option ℕ) (input : List ℕ) (from to old new : Option (List ℕ)) (consumed : Consumes from to input) where
    pub plain : (result : Result Summary (WayFault Unpaced)) → Ends mark input result old new
        → IfOk result (λ summary. (script : Script) × (answers : CommandAnswers) × IsPlainRun script answers from to × AreSumsOf answers summary × Appends old new (output_of answers summary))
    plain (Err fault) ends = tt
    plain (Ok summary) ends =
        let answers = answers_of ends.0 ends.1 in (
          ends.0,
          answers,
          plain_run mark input ends.0 ends.1 from to ends.2 consumed,
          subst (AreSumsOf answers) (sym ends.3) (sums ends.0 ends.1),
          subst (λ (s : Summary). Appends old new (output_of answers s)) (sym ends.3) ends.4,
        )

    pub plain_prefix : Ends mark input (Err faults.Write) old new → (script : Script) × (answers : CommandAnswers) × (summary : Summary) × IsPlainRun script answers from to × AreSumsOf answers summary × AppendsLess old new (output_of answers summary)
    plain_prefix cut = (cut.0, answers_of cut.0 cut.1, sum_of cut.0 cut.1, plain_run mark input cut.0 cut.1 from to cut.2 consumed, sums cut.0 cut.1, cut.3)
