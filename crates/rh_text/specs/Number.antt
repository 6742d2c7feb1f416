-- What a part says: a number below 2^32, or a whole number of 64 bits with sign.
use Rattle.std.specs.Prelude.{ℕ, ◌<◌, ◌^◌, Bool, List, Option, Some, None, nat_lt, ◌&&◌, if◌then◌else◌, decimal, ℤ, pos, negsuc, ◌-◌, int_le, ◌≤ℤ◌}
use Rattle.std.specs.Fmt.{signed_decimal}
use Rattle.std.specs.Str.{bytes_eq}
use Rattle.std.specs.Str.Parse.{digits_value, signed_digits_value}

-- a number that has 32 bits
abbrev pub IsU32 : ℕ → Type 0
IsU32 n = n < 2 ^ 32

-- a whole number of 64 bits with sign: -2^63 to 2^63 - 1
abbrev pub IsI64 : ℤ → Type 0
IsI64 n = (negsuc (2 ^ 63 - 1) ≤ℤ n) × (n ≤ℤ pos (2 ^ 63 - 1))

-- the same as a test
abbrev pub is_i64 : ℤ → Bool
is_i64 n = int_le (negsuc (2 ^ 63 - 1)) n && int_le n (pos (2 ^ 63 - 1))

-- the number below 2^32 of which the part is the decimal
unfoldable pub number_of : List ℕ → Option ℕ
number_of part =
    let n = digits_value 10 part in
    if nat_lt n (2 ^ 32) && bytes_eq part (decimal n) then Some n else None

-- the whole number of 64 bits with sign of which the part is the decimal
unfoldable pub integer_of : List ℕ → Option ℤ
integer_of part =
    let n = signed_digits_value 10 part in
    if is_i64 n && bytes_eq part (signed_decimal n) then Some n else None
