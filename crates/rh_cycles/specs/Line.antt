-- The line of a cycle.
use Rattle.std.specs.Prelude.{ℕ, List, [], ◌∷◌, ◌++◌, Option, Some, None, codes, decimal}
use Rattle.rh_cycles.specs.declared.cycle.Cycle.{Cycle}
use Rattle.rh_cycles.specs.declared.cycle.CycleEnd.{CycleEnd}
use Rattle.rh_cycles.specs.declared.cycle.CycleEnd.TheVariants.{Flipped, Abandoned}
use Rattle.rh_cycles.specs.declared.cycle.EntryCounts.{EntryCounts}

-- the names of the columns, with a line end
abbrev pub cycles_header : List ℕ
cycles_header =
    codes "number\tend\tepoch\tbegan\tended\tused\tlive\tfreed\tobjects\tgranted\tidle\tspent\tmost\tlogged\tjoined\trepeated\tstale\tpassed\twords\n"

-- the next column: a tab and a number
abbrev pub column : ℕ → List ℕ
column n = 9 ∷ decimal n

-- the next column, of a number that isn't known: a tab and a minus
abbrev pub unknown : List ℕ
unknown = 9 ∷ 45 ∷ []

-- how a cycle ended
abbrev pub end_text : CycleEnd → List ℕ
end_text Flipped = codes "flipped"
end_text Abandoned = codes "abandoned"

-- which cycle it was, how it ended, and when
abbrev pub ends_text : Cycle → List ℕ
ends_text c =
    decimal c.number ++ (9 ∷ end_text c.end
    ++ (column c.epoch ++ (column c.began ++ column c.ended)))

-- words, and the objects that were placed
abbrev pub words_text : Cycle → List ℕ
words_text c =
    column c.used ++ (column c.live ++ (column c.freed ++ column c.objects))

-- units, and what was logged
abbrev pub work_text : Cycle → List ℕ
work_text c =
    column c.granted
    ++ (column c.idle ++ (column c.spent ++ (column c.most ++ column c.logged)))

-- the entries of deals and gives, by class
abbrev pub entries_text : Option EntryCounts → List ℕ
entries_text None =
    unknown ++ (unknown ++ (unknown ++ unknown))
entries_text (Some e) =
    column e.joined ++ (column e.repeated ++ (column e.stale ++ column e.passed))

-- The line of a cycle, with its end.
abbrev pub cycle_line : Cycle → List ℕ
cycle_line c =
    ends_text c ++ (words_text c ++ (work_text c
    ++ (entries_text c.entries ++ (column c.words ++ 10 ∷ []))))
