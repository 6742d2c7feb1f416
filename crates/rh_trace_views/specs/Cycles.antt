-- The cycles of a run, and their text.
use Rattle.std.specs.Prelude.{ℕ, ◌+◌, List, [], ◌∷◌, ◌++◌, Result, Ok}
use Rattle.std.specs.List.{flat_map}
use Rattle.rh_core.specs.Stat.{stat_of}
use Rattle.rh_pace.specs.Paced.{PacedState}
use Rattle.rh_engine.specs.Engine.{EngineState}
use Rattle.rh_syntax.specs.declared.request.Request.{Request}
use Rattle.rh_trace.specs.Answers as answers
use Rattle.rh_trace.specs.Answers.{Answered}
use Rattle.rh_trace.specs.Run.{request_step}
use Rattle.rh_cycles.specs.declared.cycle.Cycle.{Cycle}
use Rattle.rh_cycles.specs.declared.cycle.EntryCounts.{EntryCounts}
use Rattle.rh_cycles.specs.Cycles.{Reading, dealt_counts, given_counts, no_counts}
use Rattle.rh_cycles.specs.Heaps.{CyclesState, after_step, new_cycles}
use Rattle.rh_cycles.specs.Line.{cycle_line, cycles_header}

-- the entries of a deal or a give, of what was answered
abbrev pub entries_of : Answered → EntryCounts
entries_of (answers.Deal (Ok dealt)) = dealt_counts dealt.passed
entries_of (answers.Give (Ok given)) = given_counts given
entries_of answered = no_counts

-- what is read of an engine after a line
abbrev pub reading_after : EngineState → ℕ → EntryCounts → Reading
reading_after e line entries =
    record { line = line; stat = stat_of e.heap; entries = entries }

-- what is read after each of the requests that an engine runs, from this line on
abbrev pub readings_to : ℕ → EngineState → List Request → List Reading
readings_to line e [] = []
readings_to line e (request ∷ others) =
    reading_after (request_step e request).0 line (entries_of (request_step e request).1)
    ∷ readings_to (line + 1) (request_step e request).0 others

-- what reads the cycles of a heap that collects by itself, once it read line 1, which made the heap
abbrev pub first_read : PacedState → CyclesState
first_read s = (after_step (new_cycles s) s).0

-- the lines of cycles
abbrev pub cycle_lines : List Cycle → List ℕ
cycle_lines cycles = flat_map cycle_line cycles

-- the text of cycles: the names of the columns, and a line for each
abbrev pub cycles_text : List Cycle → List ℕ
cycles_text cycles = cycles_header ++ cycle_lines cycles
