-- What is told as JSON.
use Rattle.std.specs.Prelude.{ℕ, ◌+◌, ◌/◌, ◌%◌, zero, suc, ◌==◌, nat_lt, if◌then◌else◌, List, [], ◌∷◌, ◌++◌, Option, Some, None, codes, decimal}
use Rattle.std.specs.List.{flat_map}
use Rattle.rh_syntax.specs.CommandAnswers.{answer_text}
use Rattle.rh_replay.specs.declared.call.Call.{Call}
use Rattle.rh_replay.specs.declared.checking.Verdict.{Verdict}
use Rattle.rh_replay.specs.declared.checking.Verdict.TheVariants.{Legal, Wrong}
use Rattle.rh_replay.specs.History.{HistoryState}
use Rattle.rh_replay.specs.Report.{count_of}

-- a digit to base 16
abbrev pub hex_digit : ℕ → ℕ
hex_digit n = if nat_lt n 10 then n + 48 else n + 87

-- a byte of a text within quotes: quotes and backslashes stand after a backslash, and line ends and
-- other bytes below 32 are \u and four digits to base 16
abbrev pub json_byte : ℕ → List ℕ
json_byte b =
    if b == 34 then codes "\\\"" else if b == 92 then codes "\\\\"
    else if nat_lt b 32 then codes "\\u00" ++ hex_digit (b / 16) ∷ hex_digit (b % 16) ∷ []
    else b ∷ []

abbrev pub json_string : List ℕ → List ℕ
json_string text = flat_map json_byte text

-- the members of a place, where there is one: its line, and the kind of what is wrong with it
abbrev pub json_place : Option (ℕ × List ℕ) → List ℕ
json_place None = []
json_place (Some at) =
    codes ",\"line\":" ++ (decimal at.0 ++ (codes ",\"kind\":\"" ++ (json_string at.1
    ++ codes "\"")))

-- the object of a fault
abbrev pub json_fault : List ℕ → Option (ℕ × List ℕ) → List ℕ
json_fault fault at =
    codes "{\"fault\":\"" ++ (json_string fault ++ (codes "\"" ++ (json_place at ++ codes "}\n")))

-- the object of an owner with so many calls, and none where there is no call
abbrev pub json_owner : ℕ → ℕ → List ℕ
json_owner owner count =
    if count == 0 then []
    else codes "{\"owner\":" ++ (decimal owner ++ (codes ",\"calls\":" ++ (decimal count
    ++ codes "}\n")))

-- those of the owners below a number, in order
abbrev pub json_owners : List Call → ℕ → List ℕ
json_owners calls zero = []
json_owners calls (suc owner) =
    json_owners calls owner ++ json_owner owner (count_of calls owner)

-- the object of a verdict
abbrev pub json_verdict : Verdict → List ℕ
json_verdict (Legal count) = codes "{\"legal\":" ++ (decimal count ++ codes "}\n")
json_verdict (Wrong at expected) =
    codes "{\"wrong\":" ++ (decimal at ++ (codes ",\"expected\":\"" ++ (answer_text expected
    ++ codes "\"}\n")))

-- the report on a history with this verdict
abbrev pub json_report : HistoryState → Verdict → List ℕ
json_report h verdict = json_owners h.calls h.owners ++ json_verdict verdict

-- the object of a dump: how many roots and objects it has
abbrev pub json_dump : ℕ → ℕ → List ℕ
json_dump roots objects =
    codes "{\"roots\":" ++ (decimal roots ++ (codes ",\"objects\":" ++ (decimal objects
    ++ codes "}\n")))
