-- When each fault holds of a history's text, in the order of the format. No reader is named here.
use Rattle.std.specs.Prelude.{◌≡◌, ◌≢◌, ℕ, ◌+◌, ◌<◌, ◌≤◌, ◌⊎◌, ⊤, Bool, true, false, List, [], ◌∷◌, ◌++◌, length, Result, codes, decimal}
use Rattle.std.specs.List.{AllByRecursion}
use Rattle.std.specs.Str.{bytes_eq}
use Rattle.rh_layout.specs.declared.command.Reply.{Reply}
use Rattle.rh_layout.specs.declared.refusal.Refusal.{Refusal}
use Rattle.rh_text.specs.Number.{IsU32}
use Rattle.rh_text.specs.RawLine.{RawLine}
use Rattle.rh_text.specs.Parts.{parts_of, IsFormedLine}
use Rattle.rh_text.specs.Stages.{◌when◌, no_fault, ◌▸◌, in_lines, IsFaultless}
use Rattle.rh_syntax.specs.declared.fault.Kind.{Kind}
use Rattle.rh_syntax.specs.declared.fault.Kind.TheVariants.{Empty, Long, Cut, Form, Header, Word, Number}
use Rattle.rh_syntax.specs.Faults.{IsNumber, IsFirstPart, command_part_faults, raw_line_faults}
use Rattle.rh_replay.specs.declared.fault.HistoryKind.{HistoryKind}
use Rattle.rh_replay.specs.declared.fault.HistoryKind.TheVariants.{Line, Trailing, Answer, Count, End}
use Rattle.rh_replay.specs.History.{AnswerFits}
use Rattle.rh_replay.specs.Spelling.{answer_parts}

-- the faults of a chain, and of another that is looked at only where none of these holds
infixr 6 ◌▹◌
abbrev pub ◌▹◌ : {K : Type 0} → (ℕ → K → Type 0) → (ℕ → K → Type 0) → ℕ → K → Type 0
(faults ▹ later) position kind = faults position kind ⊎ (IsFaultless faults × later position kind)

-- one of two chains of faults, by a test
abbrev pub chosen_faults : {K : Type 0} → Bool → (ℕ → K → Type 0) → (ℕ → K → Type 0) → ℕ → K
    → Type 0
chosen_faults true these those position kind = these position kind
chosen_faults false these those position kind = those position kind

-- faults that a trace's line has too
abbrev pub of_line : (ℕ → Kind → Type 0) → ℕ → HistoryKind → Type 0
of_line faults position (Line kind) = faults position kind
of_line faults position Trailing = ⊥
of_line faults position Answer = ⊥
of_line faults position Count = ⊥
of_line faults position End = ⊥

-- the part is the decimal of a number from 1 to this one
abbrev pub IsUpTo : ℕ → List ℕ → Type 0
IsUpTo most part = (n : ℕ) × (1 ≤ n) × (n ≤ most) × (part ≡ decimal n)

-- the faults of OWNERS and SLOTS
abbrev pub size_faults : List (List ℕ) → ℕ → Kind → Type 0
size_faults (word ∷ owners ∷ slots ∷ parts) =
    Number when (¬ IsUpTo 16 owners) ▸ Number when (¬ IsUpTo 256 slots) ▸ no_fault
size_faults parts = no_fault

-- the faults of the parts of the first line
abbrev pub header_part_faults : List (List ℕ) → ℕ → Kind → Type 0
header_part_faults parts =
    Header when ((¬ IsFirstPart (codes "history") parts) ⊎ (length parts ≢ 3))
    ▸ size_faults parts

-- the faults of the first line
abbrev pub header_faults : RawLine → ℕ → HistoryKind → Type 0
header_faults line = of_line (raw_line_faults header_part_faults 1 line)

-- the parts are those of an answer that a history may have
abbrev pub IsAnswer : List (List ℕ) → Type 0
IsAnswer parts = (answer : Result Reply Refusal) × AnswerFits answer × (parts ≡ answer_parts answer)

-- the faults of the parts before `=`; where there is none, `=` stands where the keyword should
abbrev pub command_before_faults : List (List ℕ) → ℕ → Kind → Type 0
command_before_faults [] = Word when ⊤ ▸ no_fault
command_before_faults (part ∷ parts) = command_part_faults (part ∷ parts)

-- the parts stand before and after the first of them that is `=`; where none is, all stand before
abbrev pub AreCutAtEquals : List (List ℕ) → List (List ℕ) → List (List ℕ) → Type 0
AreCutAtEquals parts before after =
    AllByRecursion (λ part. part ≢ codes "=") before
    × ((parts ≡ before ++ codes "=" ∷ after) ⊎ ((parts ≡ before) × (after ≡ [])))

-- the faults of a command that stands before `=`, and then of the answer that stands after it
abbrev pub cut_call_faults : List (List ℕ) → List (List ℕ) → ℕ → HistoryKind → Type 0
cut_call_faults before after =
    of_line (command_before_faults before) ▹ Answer when (¬ IsAnswer after) ▸ no_fault

-- the faults of the parts of a call's line
abbrev pub call_faults : List (List ℕ) → ℕ → HistoryKind → Type 0
call_faults parts position kind =
    (before : List (List ℕ)) × (after : List (List ℕ))
    × AreCutAtEquals parts before after × cut_call_faults before after position kind

-- the part is the decimal of the number of lines between the first line and the line of this number
abbrev pub IsCount : ℕ → List ℕ → Type 0
IsCount number part = (count : ℕ) × IsU32 count × (count + 2 ≡ number) × (part ≡ decimal count)

-- the faults of what stands after `end` in the line of this number
abbrev pub end_faults : ℕ → List (List ℕ) → ℕ → HistoryKind → Type 0
end_faults number [] = Line Form when ⊤ ▸ no_fault
end_faults number (part ∷ []) =
    Line Number when (¬ IsNumber part) ▸ Count when (¬ IsCount number part) ▸ no_fault
end_faults number (part ∷ another ∷ parts) = Line Form when ⊤ ▸ no_fault

-- the faults of the parts of the line of this number, after the first line
abbrev pub line_part_faults : ℕ → List (List ℕ) → ℕ → HistoryKind → Type 0
line_part_faults number [] = Line Form when ⊤ ▸ no_fault
line_part_faults number (word ∷ args) =
    chosen_faults (bytes_eq word (codes "end")) (end_faults number args) (call_faults (word ∷ args))

-- the faults of the line of this number, after the first line
abbrev pub line_faults : ℕ → RawLine → ℕ → HistoryKind → Type 0
line_faults number line =
    Line Long when ((1048576 < number) ⊎ (256 < length line.bytes))
    ▸ Line Cut when (line.ended ≡ false)
    ▸ Line Form when (¬ IsFormedLine line.bytes)
    ▸ line_part_faults number (parts_of line.bytes)

-- the faults of a line after one that begins with `end`
abbrev pub trailing_faults : ℕ → RawLine → ℕ → HistoryKind → Type 0
trailing_faults number line =
    Line Long when ((1048576 < number) ⊎ (256 < length line.bytes))
    ▸ Line Cut when (line.ended ≡ false)
    ▸ Trailing when ⊤
    ▸ no_fault

-- the line begins with `end`
abbrev pub begins_with_end : List (List ℕ) → Bool
begins_with_end [] = false
begins_with_end (word ∷ args) = bytes_eq word (codes "end")

-- the faults of the lines from this number on, each on its line and at its position there; where no
-- line begins with `end`, that is the fault of the line after the last
abbrev pub later_faults : ℕ → List RawLine → ℕ → ℕ → HistoryKind → Type 0
later_faults number [] line position kind = (line ≡ number) × (position ≡ 0) × (kind ≡ End)
later_faults number (l ∷ ls) line position kind =
    ((line ≡ number) × line_faults number l position kind)
    ⊎ chosen_faults (begins_with_end (parts_of l.bytes))
    (in_lines trailing_faults (number + 1) ls line)
    (later_faults (number + 1) ls line) position kind

-- the faults of a text of these lines
abbrev pub text_faults : List RawLine → ℕ → ℕ → HistoryKind → Type 0
text_faults [] line position kind = (line ≡ 1) × (position ≡ 0) × (kind ≡ Line Empty)
text_faults (first ∷ others) line position kind =
    ((line ≡ 1) × header_faults first position kind) ⊎ later_faults 2 others line position kind
