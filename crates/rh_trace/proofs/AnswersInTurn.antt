-- What a run gives, and what a new heap is refused for.
use Rattle.std.proofs.Common.{◌≡◌, ◌≤◌, Bool, true, false, cond, List, ℕ, Option, Some, None, Result, Ok, Err, refl, ap, ◌∙◌, arith}
use Rattle.rh_mutator.specs.declared.config.ConfigFault.{ConfigFault}
use Rattle.rh_core.specs.declared.errors.HeapError.{HeapError}
use Rattle.rh_core.specs.Config.{fault_of}
use Rattle.rh_core.specs.Heap.{HeapState}
use Rattle.rh_syntax.specs.declared.fault.TraceFault.{TraceFault}
use Rattle.rh_syntax.specs.Spelling.{Script}
use Rattle.rh_trace.specs.declared.run_fault.RunFault.TheVariants as faults
use Rattle.rh_trace.specs.Run.{config_of, answers_of, summary_of, output_of, run_of_script, run_of_trace}

pub bit_le : (b : Bool) → cond b 1 0 ≤ 1
bit_le true = omega arith
bit_le false = omega arith

pub run-new : (read : Result Script TraceFault) (script : Script) (fault : ConfigFault) → read ≡ Ok script → fault_of (config_of script.header) ≡ Some fault → run_of_trace read ≡ Err (faults.New fault)
run-new read script fault is bad = ap run_of_trace is ∙ ap (λ (o : Option ConfigFault). run_of_script o script) bad

pub run-made : (read : Result Script TraceFault) (script : Script) → read ≡ Ok script → fault_of (config_of script.header) ≡ None → run_of_trace read ≡ Ok (output_of (answers_of script), summary_of (answers_of script))
run-made read script is good = ap run_of_trace is ∙ ap (λ (o : Option ConfigFault). run_of_script o script) good

pub no_fault : (o : Option ConfigFault) → ((f : ConfigFault) → o ≡ Some f → ⊥) → o ≡ None
no_fault None h = refl
no_fault (Some f) h = absurd (h f refl)

pub refused_with : (made : Result HeapState HeapError) (e d : HeapError) → made ≡ Err e → e ≡ d → made ≡ Err d
refused_with made e d p q = cc
