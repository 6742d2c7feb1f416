-- What drawing the picture of a trace's heap wrote.
use Rattle.std.proofs.Common.{◌≡◌, ℕ, List, Option, Result, Ok, Err, refl}
use Rattle.std.specs.Prelude.{IfErr, IsErrOf, OnOk}
use Rattle.std.specs.Io.KnownBytes.{Appends, Keeps}
use Rattle.rh_text.specs.Output.{AppendsLess}
use Rattle.rh_text.specs.lemmas.Appends.{Keeps-same}
use Rattle.rh_draw.specs.Picture.{IsWhole}
use Rattle.rh_trace.specs.declared.run_fault.RunFault.{RunFault}
use Rattle.rh_trace.specs.declared.run_fault.RunFault.TheVariants as faults
use Rattle.rh_trace_views.specs.Drawing.{DrawsTrace}

-- before a write nothing is
pub undrawn : (fault : RunFault) (a : Option (List ℕ)) → ¬ (fault ≡ faults.Write) → DrawsTrace {X = Unit {0}} (Err fault) a a
undrawn faults.Write a other = absurd (other refl)
undrawn fault a other = Keeps-same a

module _ (old new : Option (List ℕ)) where
  pub drawn_whole : (result : Result (Unit {0}) RunFault) → DrawsTrace result old new → OnOk result ((text : List ℕ) × IsWhole text × Appends old new text)
  drawn_whole (Ok done) drawn = drawn
  drawn_whole (Err fault) drawn = tt

  pub drawn_less : (result : Result (Unit {0}) RunFault) → DrawsTrace result old new → IsErrOf result faults.Write → (text : List ℕ) × IsWhole text × AppendsLess old new text
  drawn_less (Ok done) drawn is = absurd cc
  drawn_less (Err faults.Write) drawn is = drawn
  drawn_less (Err faults.Read) drawn is = absurd cc
  drawn_less (Err faults.Long) drawn is = absurd cc
  drawn_less (Err (faults.Trace fault)) drawn is = absurd cc
  drawn_less (Err (faults.New fault)) drawn is = absurd cc
  drawn_less (Err faults.OutOfMemory) drawn is = absurd cc

  pub drawn_not : (result : Result (Unit {0}) RunFault) → DrawsTrace result old new → IfErr result (λ e. ¬ (e ≡ faults.Write) → Keeps old new)
  drawn_not (Ok done) drawn = tt
  drawn_not (Err faults.Write) drawn = λ other. absurd (other refl)
  drawn_not (Err fault) drawn = λ other. drawn
