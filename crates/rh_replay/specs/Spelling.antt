-- The one text of each history.
use Rattle.std.specs.Prelude.{ℕ, ◌≤◌, true, false, List, [], ◌∷◌, ◌++◌, length, Result, Ok, Err, codes, decimal}
use Rattle.std.specs.Fmt.{signed_decimal}
use Rattle.std.specs.List.{flat_map}
use Rattle.rh_layout.specs.declared.command.Reply.{Reply}
use Rattle.rh_layout.specs.declared.command.Reply.TheVariants.{Done, Nil, Int, Object, Raw, Same}
use Rattle.rh_layout.specs.declared.refusal.Refusal.{Refusal}
use Rattle.rh_text.specs.Parts.{spell_parts}
use Rattle.rh_syntax.specs.CommandAnswers.{answer_text, refusal_name}
use Rattle.rh_syntax.specs.Spelling.{command_text}
use Rattle.rh_replay.specs.declared.call.Call.{Call}
use Rattle.rh_replay.specs.History.{HistoryState, IsHistory}

-- the parts of the first line: history OWNERS SLOTS
abbrev pub header_parts : ℕ → ℕ → List (List ℕ)
header_parts owners slots = codes "history" ∷ decimal owners ∷ decimal slots ∷ []

-- the first line
abbrev pub header_line : ℕ → ℕ → List ℕ
header_line owners slots = spell_parts (header_parts owners slots)

-- the line of a call: COMMAND LINE = ANSWER
abbrev pub call_line : Call → List ℕ
call_line call =
    command_text call.owner call.command ++ (codes " = " ++ (answer_text call.answer ++ 10 ∷ []))

-- the parts of the last line: end N
abbrev pub end_parts : ℕ → List (List ℕ)
end_parts count = codes "end" ∷ decimal count ∷ []

-- the last line
abbrev pub end_line : ℕ → List ℕ
end_line count = spell_parts (end_parts count)

-- the text of a history
abbrev pub spelling : HistoryState → List ℕ
spelling h =
    header_line h.owners h.slots ++ (flat_map call_line h.calls ++ end_line (length h.calls))

-- the parts of an answer
abbrev pub answer_parts : Result Reply Refusal → List (List ℕ)
answer_parts (Ok Done) = codes "done" ∷ []
answer_parts (Ok Nil) = codes "nil" ∷ []
answer_parts (Ok (Int n)) = codes "int" ∷ signed_decimal n ∷ []
answer_parts (Ok (Object fields)) = codes "object" ∷ decimal fields ∷ []
answer_parts (Ok (Raw fields)) = codes "raw" ∷ decimal fields ∷ []
answer_parts (Ok (Same true)) = codes "same" ∷ codes "yes" ∷ []
answer_parts (Ok (Same false)) = codes "same" ∷ codes "no" ∷ []
answer_parts (Err refusal) = codes "refused" ∷ refusal_name refusal ∷ []

-- a history whose text is within the limit of 1,048,576 lines, the first and the last with them
abbrev pub IsReadable : HistoryState → Type 0
IsReadable h = IsHistory h × (length h.calls ≤ 1048574)
