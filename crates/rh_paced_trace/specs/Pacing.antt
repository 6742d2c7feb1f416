-- The pace of a run.
use Rattle.std.specs.Prelude.{◌≡◌, ◌↔◌, ℕ, ◌+◌, ◌<◌, ◌≤◌, Option, Some, None, Result, Ok, Err}
use Rattle.rh_syntax.specs.declared.line.Header.{Header}
use Rattle.rh_syntax.specs.Spelling.{Script}
use Rattle.rh_pace.specs.declared.errors.PaceError.{PaceError}
use Rattle.rh_pace.specs.declared.errors.PaceError.TheVariants.{RatioTooLow, TooSmall}
use Rattle.rh_pace.specs.declared.pace.Pace.{Pace}
use Rattle.rh_pace.specs.Pace.{AsksForLog, CanKeepUp, IsLowestFilling, KeepsUp, words_left}
use Rattle.rh_paced_trace.specs.Lines.{biggest_of, commands_in}

-- the pace that begins a cycle where fewer words than the mark are free
abbrev pub pace_at : ℕ → Header → Pace
pace_at mark header = record { mark = mark; store_units = header.ratio; log_limit = header.log }

-- The filling pace of a space of so many words: the lowest that keeps up with all words that it
-- leaves, with a log for its lag. Or why there is none: the ratio is less than 4, or else the space
-- has fewer words than are needed, which are told.
abbrev pub IsFilling : ℕ → ℕ → ℕ → Result Pace PaceError → Type 0
IsFilling words biggest ratio (Ok pace) =
    KeepsUp words (words_left words pace) biggest ratio pace
    × IsLowestFilling words biggest ratio pace × AsksForLog biggest pace
    × CanKeepUp words (biggest + 1) biggest ratio
IsFilling words biggest ratio (Err RatioTooLow) = ratio < 4
IsFilling words biggest ratio (Err (TooSmall need)) =
    (4 ≤ ratio) × (words < need)
    × ((n : ℕ) → CanKeepUp n (biggest + 1) biggest ratio ↔ (need ≤ n))

-- the pace of a run: by the mark, where one is asked for, and else the filling pace for the biggest
-- object that the trace asks for
abbrev pub IsPaceOf : Option ℕ → Script → Result Pace PaceError → Type 0
IsPaceOf (Some mark) script paced = paced ≡ Ok (pace_at mark script.header)
IsPaceOf None script paced =
    IsFilling script.header.words (biggest_of (commands_in script.requests)) script.header.ratio
    paced
