-- Requests that stand in two parts: the second goes on from the engine that the first leaves.
use Rattle.std.proofs.Common.{◌≡◌, List, [], ◌∷◌, ◌++◌, refl, ap}
use Rattle.rh_syntax.specs.declared.request.Request.{Request}
use Rattle.rh_engine.specs.Engine.{EngineState}
use Rattle.rh_trace.specs.Answers.{Answered}
use Rattle.rh_trace.specs.Run.{request_step, answers_to, engine_after}

pub engine_after-parts : (e : EngineState) (before after : List Request) → engine_after e (before ++ after) ≡ engine_after (engine_after e before) after
engine_after-parts e [] after = refl
engine_after-parts e (request ∷ before) after = engine_after-parts (request_step e request).0 before after

pub answers_to-parts : (e : EngineState) (before after : List Request) → answers_to e (before ++ after) ≡ answers_to e before ++ answers_to (engine_after e before) after
answers_to-parts e [] after = refl
answers_to-parts e (request ∷ before) after = ap (λ (answers : List Answered). (request_step e request).1 ∷ answers) (answers_to-parts (request_step e request).0 before after)
