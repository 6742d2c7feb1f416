use Rattle.std.proofs.Common.{rules, ◌≡◌, ◌-◌, take, Result, Some, Err, ap, sym, ◌∙◌}
use Rattle.rh_mutator.specs.declared.config.ConfigFault.{ConfigFault}
use Rattle.rh_core.specs.declared.errors.HeapError.{HeapError}
use Rattle.rh_core.specs.declared.errors.HeapError.TheVariants as errors
use Rattle.rh_core.specs.Config.{fault_of}
use Rattle.rh_trace.specs.declared.run_fault.RunFault.{RunFault}
use Rattle.rh_trace.specs.declared.run_fault.RunFault.TheVariants as faults
use Rattle.rh_engine.specs.Engine.{EngineState}
use Rattle.rh_trace.specs.Run.{config_of, engine_after, new_run}
use Rattle.rh_trace.proofs.EngineLines.{all_played}
use Rattle.rh_trace_views.proofs.EngineRuns.{left_by-engine}
use Rattle.rh_trace_views.proofs.partway.engine_at.Goals as goal

refused_with : {X : Type 0} (made : Result X HeapError) (e d : HeapError) → made ≡ Err e → e ≡ d → made ≡ Err d
refused_with made e d p q = cc

same_fault : {X : Type 0} (a b : ConfigFault) → ◌≡◌ {A = Result X RunFault} (Err (faults.New a)) (Err (faults.New b)) → a ≡ b
same_fault a b e = cc

pub returns-in-Err-Config-clause-fault : goal.returns-in-Err-Config-clause-fault
returns-in-Err-Config-clause-fault g c =
    let fault = c.in-Err-Config.fault in
    let config_is : c.config_of.result ≡ config_of c.args.trace.now.header = c.config_of.ensures ∙ ap config_of c.header.ensures in
    let refused = refused_with c.new.result c.in-Err-Config.field-0 (errors.Config fault) c.in-Err-Config.is c.in-Err-Config.field-0-is in
    let bad : fault_of (config_of c.args.trace.now.header) ≡ Some fault = ap fault_of (sym config_is) ∙ (c.new.ensures.fault fault).0 refused in
    rw c.in-Err-Config.field-0-is (λ f same. bad ∙ ap Some (same_fault fault f same))

pub run_lines-requires-clause-plays : goal.run_lines-requires-clause-plays
run_lines-requires-clause-plays g c = all_played c.first_of-requests.result.now

pub returns-in-Ok-run_lines-clause-engine : goal.returns-in-Ok-run_lines-clause-engine
returns-in-Ok-run_lines-clause-engine g c =
    let left = c.in-Ok-run_lines.ensures.left in
    let first = c.first_of-requests.result.now in
    let script = c.args.trace.now in
    let begins : c.new-engine.result ≡ new_run script = search rules in
    let some : first ≡ take (c.args.lines - 1) script.requests = search rules in
    left.2 ∙ left_by-engine 2 c.new-engine.result first left.0 left.1 ∙ ap (λ (e : EngineState). engine_after e first) begins ∙ ap (engine_after (new_run script)) some
