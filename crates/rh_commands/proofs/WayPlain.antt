-- What viewed runs on heaps that collect by themselves tell and note are the answers of a plain heap.
use Rattle.std.proofs.Common.{◌≡◌, ℕ, Bool, List, Option, None, Result, Ok, Err, refl, sym, subst}
use Rattle.std.specs.Prelude.{IfOk}
use Rattle.std.specs.Io.KnownBytes.{Appends, Consumes}
use Rattle.rh_model.specs.Plain.{empty_plain}
use Rattle.rh_mutator.specs.Config.{fault_of}
use Rattle.rh_core.specs.runs.Programs.{CommandAnswers}
use Rattle.rh_pace.specs.InTime.{paced_replies}
use Rattle.rh_pace.specs.declared.pace.Pace.{Pace}
use Rattle.rh_growing.specs.Growth.{IsGrowth}
use Rattle.rh_syntax.specs.declared.request.Request.{Request}
use Rattle.rh_syntax.specs.Spelling.{Script}
use Rattle.rh_replay.specs.Legal.{IsLegal}
use Rattle.rh_replay.specs.Spelling.{spelling}
use Rattle.rh_trace.specs.declared.summary.Summary.{Summary}
use Rattle.rh_trace.specs.Run.{config_of}
use Rattle.rh_trace.specs.declared.way_fault.WayFault.{WayFault}
use Rattle.rh_paced_trace.specs.declared.fault.Unpaced.{Unpaced}
use Rattle.rh_paced_trace.specs.Growing.{growing_answers_of, growth_of}
use Rattle.rh_paced_trace.specs.Lines.{commands_in, other_fault}
use Rattle.rh_paced_trace.specs.Run.{AreSumsOf, AreTransparent, IsCommandTrace, new_run}
use Rattle.rh_paced_trace.proofs.PlainAnswers.{plain_run_of}
use Rattle.rh_choices.specs.declared.telling.Telling.{Telling}
use Rattle.rh_trace_views.specs.History.{history_of}
use Rattle.rh_trace_views.specs.Run.{Written, history_with, told_of}
use Rattle.rh_trace_views.specs.Views.{numbered}
use Rattle.rh_paced_trace.specs.Commanded.{answered_by}
use Rattle.rh_commands.specs.Ways.{EndsGrowing, EndsPaced, IsToldPlainly}

-- the history of commands that are answered as by a plain heap is legal
abbrev pub RepliesAreLegal : Type 0
RepliesAreLegal = (owners slots : ℕ) (requests : List Request) (answers : CommandAnswers) → other_fault 2 requests ≡ None → AreTransparent (empty_plain owners slots) (commands_in requests) answers
    → IsLegal (history_of owners slots (numbered 2 requests (answered_by answers)))

module _ (legal : RepliesAreLegal) (telling : Telling) (input : List ℕ) (from to : Option (List ℕ)) (w : Written) (consumed : Consumes from to input) where
  plainly_told : (script : Script) (answers : CommandAnswers) (summary : Summary) → IsCommandTrace input script → AreTransparent (empty_plain script.header.owners script.header.slots) (commands_in script.requests) answers → AreSumsOf answers summary
      → Appends w.old w.new (told_of telling script.requests (answered_by answers) summary) → Appends w.history_old w.history_new (spelling (history_with script (answered_by answers))) → IsToldPlainly telling from to w summary
  plainly_told script answers summary trace plain sums told noted = record {
    script = script;
    answers = answers;
    run = plain_run_of input script answers from to trace consumed plain;
    sums = sums;
    told = told;
    noted = noted;
    legal = legal script.header.owners script.header.slots script.requests answers trace.commands plain;
  }

  pub told-paced : ((script : Script) → fault_of (config_of script.header) ≡ None → (pace : Pace) → AreTransparent (empty_plain script.header.owners script.header.slots) (commands_in script.requests) (paced_replies (new_run script pace) (commands_in script.requests)))
      → (mark : Option ℕ) (result : Result Summary (WayFault Unpaced)) → EndsPaced mark telling input result w → IfOk result (λ summary. IsToldPlainly telling from to w summary)
  told-paced plainly mark (Err fault) ends = tt
  told-paced plainly mark (Ok summary) ends =
      let script = ends.0 in
      let answers = paced_replies (new_run script ends.1) (commands_in script.requests) in
      plainly_told script answers summary ends.2.trace (plainly script ends.2.sizes ends.1) (subst (AreSumsOf answers) (sym ends.3) (record { commands = refl; refused = refl })) ends.4.0 ends.4.1

  pub told-growing : ((script : Script) (at_most : ℕ) → IsGrowth (growth_of script at_most) → (given : ℕ → Bool) → AreTransparent (empty_plain script.header.owners script.header.slots) (commands_in script.requests) (growing_answers_of script at_most given))
      → (at_most : ℕ) (result : Result Summary (WayFault Unpaced)) → EndsGrowing at_most telling input result w → IfOk result (λ summary. IsToldPlainly telling from to w summary)
  told-growing plainly at_most (Err fault) ends = tt
  told-growing plainly at_most (Ok summary) ends =
      let script = ends.0 in
      let answers = growing_answers_of script at_most ends.1 in
      plainly_told script answers summary ends.2.trace (plainly script at_most ends.2.grows ends.1) (subst (AreSumsOf answers) (sym ends.3) (record { commands = refl; refused = refl })) ends.4.0 ends.4.1
