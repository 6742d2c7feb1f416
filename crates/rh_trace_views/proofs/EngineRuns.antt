-- Lines played on the engine of traces: their cycles are those of what is read after each, and they leave the engine as it is after their requests.
use Rattle.std.proofs.Common.{◌≡◌, ℕ, ◌+◌, List, [], ◌∷◌, ◌++◌, refl, ap, ◌∙◌}
use Rattle.rh_engine.specs.Engine.{EngineState}
use Rattle.rh_cycles.specs.declared.cycle.Cycle.{Cycle}
use Rattle.rh_cycles.specs.Cycles.{Reading, ReaderState, cycles_of, read_step, told_cycles}
use Rattle.rh_syntax.specs.declared.request.Request.{Request}
use Rattle.rh_trace.specs.Answers.{Answered}
use Rattle.rh_trace.specs.Fixed.{EngineSteps}
use Rattle.rh_trace.specs.Lines.{Runs, Seen, left_by}
use Rattle.rh_trace.specs.Run.{engine_after, request_step}
use Rattle.rh_trace_views.specs.Cycles.{entries_of, reading_after, readings_to}
use Rattle.rh_trace_views.specs.Listening.{engine_read}
use Rattle.rh_trace_views.proofs.Listened.{cycles_in}

pub cycles_in-engine : (line : ℕ) (e : EngineState) (q : ReaderState) (requests : List Request) (seen : List (Seen EngineState)) → Runs EngineSteps line e requests seen → cycles_in engine_read q seen ≡ cycles_of q (readings_to line e requests)
cycles_in-engine line e q [] [] runs = refl
cycles_in-engine line e q [] (one ∷ seen) runs = absurd runs
cycles_in-engine line e q (r ∷ requests) [] runs = absurd runs
cycles_in-engine line e q (r ∷ requests) (one ∷ seen) runs =
    let done = request_step e r in
    let x = reading_after done.0 line (entries_of done.1) in
    let read : reading_after one.after one.line (entries_of one.answered) ≡ x =
    ap (λ (n : ℕ). reading_after one.after n (entries_of one.answered)) runs.0 ∙ ap (λ (m : EngineState). reading_after m line (entries_of one.answered)) runs.2.0 ∙ ap (λ (a : Answered). reading_after done.0 line (entries_of a)) runs.2.1 in
    let reader = (read_step q x).0 in
    ap (λ (y : Reading). told_cycles (read_step q y).1 ++ cycles_in engine_read (read_step q y).0 seen) read
    ∙ ap (λ (cs : List Cycle). told_cycles (read_step q x).1 ++ cs) (cycles_in-engine (line + 1) one.after reader requests seen runs.3 ∙ ap (λ (m : EngineState). cycles_of reader (readings_to (line + 1) m requests)) runs.2.0)

pub left_by-engine : (line : ℕ) (e : EngineState) (requests : List Request) (seen : List (Seen EngineState)) → Runs EngineSteps line e requests seen → left_by e seen ≡ engine_after e requests
left_by-engine line e [] [] runs = refl
left_by-engine line e [] (one ∷ seen) runs = absurd runs
left_by-engine line e (r ∷ requests) [] runs = absurd runs
left_by-engine line e (r ∷ requests) (one ∷ seen) runs = left_by-engine (line + 1) one.after requests seen runs.3 ∙ ap (λ (m : EngineState). engine_after m requests) runs.2.0
