-- The report on a history.
use Rattle.std.specs.Prelude.{ℕ, zero, suc, List, [], ◌∷◌, ◌++◌, count_by, ◌==◌, if◌then◌else◌, codes, decimal}
use Rattle.rh_syntax.specs.CommandAnswers.{answer_text}
use Rattle.rh_replay.specs.declared.call.Call.{Call}
use Rattle.rh_replay.specs.declared.checking.Verdict.{Verdict}
use Rattle.rh_replay.specs.declared.checking.Verdict.TheVariants.{Legal, Wrong}
use Rattle.rh_replay.specs.History.{HistoryState}

-- how many of the calls are this owner's
abbrev pub count_of : List Call → ℕ → ℕ
count_of calls owner = count_by (λ call. call.owner == owner) calls

-- the line of an owner with so many calls, and none where there is no call: owner O calls N
abbrev pub owner_line : ℕ → ℕ → List ℕ
owner_line owner count =
    if count == 0 then []
    else codes "owner " ++ (decimal owner ++ (codes " calls " ++ (decimal count ++ 10 ∷ [])))

-- the lines of the owners below a number, in order
abbrev pub owner_lines : List Call → ℕ → List ℕ
owner_lines calls zero = []
owner_lines calls (suc owner) = owner_lines calls owner ++ owner_line owner (count_of calls owner)

-- the last line: legal N, or wrong AT expected ANSWER
abbrev pub verdict_line : Verdict → List ℕ
verdict_line (Legal count) = codes "legal " ++ (decimal count ++ 10 ∷ [])
verdict_line (Wrong at expected) =
    codes "wrong " ++ (decimal at ++ (codes " expected " ++ (answer_text expected ++ 10 ∷ [])))

-- the report on a history with this verdict
abbrev pub report_text : HistoryState → Verdict → List ℕ
report_text h verdict = owner_lines h.calls h.owners ++ verdict_line verdict
