-- What is written of the lines of cycles: events.
use Rattle.std.specs.Prelude.{ℕ, true, false, nat_eq, if◌then◌else◌, List, [], ◌∷◌, ◌++◌}
use Rattle.rh_cycle_events.specs.declared.heard.Heard.{Heard}
use Rattle.rh_cycle_events.specs.declared.line.CycleLine.{CycleLine}
use Rattle.rh_cycle_events.specs.Line.{capped, no_line, number_at, with_byte}
use Rattle.rh_cycle_events.specs.Texts.{Told, cycle_events, opening_text}

-- before the first byte
abbrev pub nothing_heard : Heard
nothing_heard = record { begun = false; freed = 0; line = no_line }

-- what a line tells, by its columns
abbrev pub told_by : CycleLine → Told
told_by line = record {
  number = number_at line 0;
  abandoned = line.is_abandoned;
  began = number_at line 3;
  ended = number_at line 4;
  used = number_at line 5;
  live = number_at line 6;
  freed = number_at line 7;
  objects = number_at line 8;
  granted = number_at line 9;
  idle = number_at line 10;
  spent = number_at line 11;
  logged = number_at line 13;
}

-- Times are words that were allocated: those that are used, and those that were freed before. So a
-- cycle began once these words were, and ended so.
abbrev pub begins_at : ℕ → Told → ℕ
begins_at freed t = capped freed t.used

abbrev pub freed_after : ℕ → Told → ℕ
freed_after freed t = capped freed t.freed

abbrev pub ends_at : ℕ → Told → ℕ
ends_at freed t = capped (freed_after freed t) t.live

-- the events of what a line tells, after cycles that freed so many words
abbrev pub events_of : ℕ → Told → List ℕ
events_of freed t = cycle_events t (begins_at freed t) (ends_at freed t)

-- What is heard once a line came to its end: the first has the names of the columns.
abbrev pub line_heard : Heard → Heard
line_heard h = record {
  begun = true;
  freed = if h.begun then freed_after h.freed (told_by h.line) else h.freed;
  line = no_line;
}

-- and what is written then
abbrev pub line_events : Heard → List ℕ
line_events h = if h.begun then events_of h.freed (told_by h.line) else opening_text

-- once a byte came, and what is written then
abbrev pub byte_heard : Heard → ℕ → Heard
byte_heard h byte =
    if nat_eq byte 10 then line_heard h else record h { line = with_byte h.line byte }

abbrev pub byte_events : Heard → ℕ → List ℕ
byte_events h byte = if nat_eq byte 10 then line_events h else []

-- once bytes came, and what is written of them
abbrev pub heard_after : Heard → List ℕ → Heard
heard_after h [] = h
heard_after h (byte ∷ bytes) = heard_after (byte_heard h byte) bytes

abbrev pub events_in : Heard → List ℕ → List ℕ
events_in h [] = []
events_in h (byte ∷ bytes) = byte_events h byte ++ events_in (byte_heard h byte) bytes
