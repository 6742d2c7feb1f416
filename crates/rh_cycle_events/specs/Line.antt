-- The line of a cycle, as its bytes come.
use Rattle.std.specs.Prelude.{ℕ, ◌+◌, ◌-◌, ◌*◌, ◌^◌, min, nat_eq, nat_le, nat_lt, false, true, ◌&&◌, if◌then◌else◌, get_or, set, replicate}
use Rattle.rh_cycle_events.specs.declared.line.Column.{Column}
use Rattle.rh_cycle_events.specs.declared.line.Column.TheVariants.{Number, Began, Ended, Used, Live, Freed, Objects, Granted, Idle, Spent, Logged}
use Rattle.rh_cycle_events.specs.declared.line.CycleLine.{CycleLine}

-- the sum and the product, as a number of 64 bits keeps them
abbrev pub capped : ℕ → ℕ → ℕ
capped m n = min (m + n) (2 ^ 64 - 1)

abbrev pub capped_product : ℕ → ℕ → ℕ
capped_product m n = min (m * n) (2 ^ 64 - 1)

-- a line of which nothing came
abbrev pub no_line : CycleLine
no_line = record { numbers = replicate 19 0; column = 0; is_abandoned = false }

-- the number in a column, counted from 0; 0 where it has none
abbrev pub number_at : CycleLine → ℕ → ℕ
number_at line column = get_or line.numbers column 0

-- once a digit of the column's number came
abbrev pub with_digit : CycleLine → ℕ → CycleLine
with_digit line digit =
    if nat_lt line.column 19
    then record line {
      numbers = set line.numbers line.column
          (capped (capped_product (number_at line line.column) 10) digit);
    }
    else line

-- Once a byte came: a tab begins the next column, a digit is one of the column's number, and of the
-- words for how a cycle ended only `abandoned` has an a.
abbrev pub with_byte : CycleLine → ℕ → CycleLine
with_byte line byte =
    if nat_eq byte 9 then record line { column = capped line.column 1 }
    else if nat_le 48 byte && nat_le byte 57 then with_digit line (byte - 48)
    else if nat_eq byte 97 && nat_eq line.column 1 then record line { is_abandoned = true }
    else line

-- the place of a column among them, from 0
abbrev pub place_of : Column → ℕ
place_of Number = 0
place_of Began = 3
place_of Ended = 4
place_of Used = 5
place_of Live = 6
place_of Freed = 7
place_of Objects = 8
place_of Granted = 9
place_of Idle = 10
place_of Spent = 11
place_of Logged = 13
