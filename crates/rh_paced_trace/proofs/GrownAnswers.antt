-- What a growing run writes are the answers of a plain heap.
use Rattle.std.proofs.Common.{ℕ, suc, Bool, false, List, [], ◌∷◌, Option, Result, Ok, Err, refl, sym, subst}
use Rattle.std.specs.Prelude.{IfOk}
use Rattle.std.specs.Io.KnownBytes.{Appends, Consumes}
use Rattle.rh_model.specs.Plain.{PlainHeap, empty_plain}
use Rattle.rh_mutator.specs.Commands.{is_limit_answer, plain_unless}
use Rattle.rh_core.specs.runs.Programs.{CommandAnswers}
use Rattle.rh_text.specs.Output.{AppendsLess}
use Rattle.rh_syntax.specs.Spelling.{Script}
use Rattle.rh_trace.specs.declared.summary.Summary.{Summary}
use Rattle.rh_trace.specs.declared.way_fault.WayFault.{WayFault}
use Rattle.rh_trace.specs.declared.way_fault.WayFault.TheVariants as faults
use Rattle.rh_pace.proofs.PacedPrograms.{ProgramLaws}
use Rattle.rh_growing.specs.Growing.{GrowingState, growing_step}
use Rattle.rh_growing.specs.Growth.{IsGrowth}
use Rattle.rh_growing.proofs.Programs.{GrowingStands, plainly-growing}
use Rattle.rh_paced_trace.specs.declared.fault.Unpaced.{Unpaced}
use Rattle.rh_paced_trace.specs.Growing.{EndsGrowing, IsGrowingRun, growing_answers_of, growing_replies, growing_sum_of, growth_of}
use Rattle.rh_paced_trace.specs.Lines.{Commands, commands_in}
use Rattle.rh_paced_trace.specs.Run.{AreSumsOf, AreTransparent, IsPlainRun, output_of}
use Rattle.rh_paced_trace.proofs.PlainAnswers.{plain_run_of}

-- each answer is the plain heap's, whatever memory is given
module _ (A : Type 0) (laws : ProgramLaws A) where
  pub grown-transparent : (commands : Commands) (given : ℕ → Bool) (s : GrowingState) (p : PlainHeap) → GrowingStands s p → AreTransparent p commands (growing_replies given s commands)
  grown-transparent [] given s p on = tt
  grown-transparent (owned ∷ others) given s p on =
      let plainly = plainly-growing A laws (λ so_far. false) (λ so_far i. given 0) in
      let done = growing_step (given 0) s owned.0 owned.1 in (
        plainly.answered [] s p on owned.0 owned.1,
        grown-transparent others (λ i. given (suc i)) done.0 (plain_unless (is_limit_answer done.1) p owned.0 owned.1) (plainly.stands [] s p on owned.0 owned.1),
      )

-- what the law of traces says
abbrev pub AnswersPlainly : Type 0
AnswersPlainly = (script : Script) (at_most : ℕ) → IsGrowth (growth_of script at_most) → (given : ℕ → Bool)
    → AreTransparent (empty_plain script.header.owners script.header.slots) (commands_in script.requests) (growing_answers_of script at_most given)

module _ (plainly : AnswersPlainly) (at_most : ℕ) (input : List ℕ) (from to old new : Option (List ℕ)) (consumed : Consumes from to input) where
  grown_run : (script : Script) (given : ℕ → Bool) → IsGrowingRun at_most input script → IsPlainRun script (growing_answers_of script at_most given) from to
  grown_run script given run =
      plain_run_of input script (growing_answers_of script at_most given) from to run.trace consumed (plainly script at_most run.grows given)

  sums : (script : Script) (given : ℕ → Bool) → AreSumsOf (growing_answers_of script at_most given) (growing_sum_of script at_most given)
  sums script given = record { commands = refl; refused = refl }

  pub grown-plain : (result : Result Summary (WayFault Unpaced)) → EndsGrowing at_most input result old new
      → IfOk result (λ summary. (script : Script) × (answers : CommandAnswers) × IsPlainRun script answers from to × AreSumsOf answers summary × Appends old new (output_of answers summary))
  grown-plain (Err fault) ends = tt
  grown-plain (Ok summary) ends =
      let answers = growing_answers_of ends.0 at_most ends.1 in (
        ends.0,
        answers,
        grown_run ends.0 ends.1 ends.2,
        subst (AreSumsOf answers) (sym ends.3) (sums ends.0 ends.1),
        subst (λ (s : Summary). Appends old new (output_of answers s)) (sym ends.3) ends.4,
      )

  pub grown-plain_prefix : EndsGrowing at_most input (Err faults.Write) old new → (script : Script) × (answers : CommandAnswers) × (summary : Summary) × IsPlainRun script answers from to × AreSumsOf answers summary × AppendsLess old new (output_of answers summary)
  grown-plain_prefix cut = (cut.0, growing_answers_of cut.0 at_most cut.1, growing_sum_of cut.0 at_most cut.1, grown_run cut.0 cut.1 cut.2, sums cut.0 cut.1, cut.3)
