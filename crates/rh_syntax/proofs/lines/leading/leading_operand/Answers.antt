use Rattle.std.proofs.Common.{◌≡◌, ℕ, ◌<◌, pos, to_z, of_z, w64, arith}
use Rattle.std.proofs.lemmas.Int.{ints}
use Rattle.rh_syntax.proofs.Begins.{joined}
use Rattle.rh_syntax.proofs.lines.leading.leading_operand.Goals as goal

-- a number below 2 ^ 32 as one of 64 bits with sign
as_signed : (n : ℕ) → n < 4294967296 → to_z w64 (of_z w64 (pos n)) ≡ pos n
as_signed n small = omega (arith, ints)

pub returns-in-Some : goal.returns-in-Some
returns-in-Some c = (tt, c.in-Some.ensures)

pub returns-in_err-number : goal.returns-in_err-number
returns-in_err-number c = rw c.from_residual.ensures tt

pub returns-in_default-after_byte : goal.returns-in_default-after_byte
returns-in_default-after_byte c =
    let number = c.in_ok-number.ensures in
    rw (c.from.ensures, as_signed c.in_ok-number.number number.0) ((omega (arith, ints), omega (arith, ints)), number.1)

pub returns-in_err-slot : goal.returns-in_err-slot
returns-in_err-slot c = rw c.from_residual-in_err-slot.ensures tt

pub returns : goal.returns
returns c = (
  (c.in_ok-number.ensures.0, c.in_ok-slot.ensures.0),
  joined 46 _ _ _ _ _ _ c.in_ok-number.ensures.1 c.in-Some-after_byte.ensures c.in_ok-slot.ensures.1,
)
