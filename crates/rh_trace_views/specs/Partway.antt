-- A trace that is run up to one of its lines.
use Rattle.std.specs.Prelude.{ℕ, ◌-◌, take}
use Rattle.rh_syntax.specs.Spelling.{Script}
use Rattle.rh_engine.specs.Engine.{EngineState}
use Rattle.rh_trace.specs.Run.{engine_after, new_run}

-- The engine of a trace once so many of its lines were played, of which the first is the heap's:
-- all of them, where it has no more.
abbrev pub engine_at : Script → ℕ → EngineState
engine_at script lines = engine_after (new_run script) (take (lines - 1) script.requests)
