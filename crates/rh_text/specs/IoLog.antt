-- The calls of a reader or a writer, which of them fail, and which come to the end.
use Rattle.std.specs.Prelude.{◌≡◌, ◌≢◌, ℕ, ◌+◌, ◌-◌, ◌^◌, ◌<◌, ◌≤◌, min, ◌⊎◌, Bool, true, false, List, length, Result, Ok, Err}
use Rattle.std.specs.IoError.{error_kind}
use Rattle.std.specs.declared.io.Error.{Error}
use Rattle.std.specs.declared.io.ErrorKind.TheVariants.{Interrupted}

-- What is known of the calls of one reader or one writer: whether one failed, whether a read came
-- to the end, how many were made, counted up to 2^64 - 1, and how many may still be made.
pub record IoLogState : Type 0 where
  pub failed : Bool
  pub ended : Bool
  pub made : ℕ
  pub left : ℕ

-- no call was made yet
abbrev pub no_calls : IoLogState
no_calls = record { failed = false; ended = false; made = 0; left = 33554432 }

-- the count of calls after one more
abbrev pub one_more : ℕ → ℕ
one_more made = min (made + 1) (2 ^ 64 - 1)

-- Of so many calls some were made, and the others are left. The count tells how many were made,
-- unless it is full.
abbrev pub CountsDown : ℕ → IoLogState → IoLogState → Type 0
CountsDown limit old new =
    (new.left ≤ limit) × (new.made < 2 ^ 64 - 1 → new.made + new.left ≡ old.made + limit)

-- At least so many calls were made since; the count tells it, unless it is full.
abbrev pub MadeSince : ℕ → IoLogState → IoLogState → Type 0
MadeSince calls old new = new.made < 2 ^ 64 - 1 → old.made + calls ≤ new.made

-- a read fails where it answers an error and was not interrupted
abbrev pub IsFailedRead : Result ℕ Error → Type 0
IsFailedRead (Ok n) = ⊥
IsFailedRead (Err error) = error_kind error ≢ Interrupted

-- a read comes to the end where it gives no byte of some that were asked
abbrev pub ComesToEnd : Result ℕ Error → List ℕ → Type 0
ComesToEnd (Ok n) room = (n ≡ 0) × (0 < length room)
ComesToEnd (Err error) room = ⊥

-- a write fails where it answers an error and was not interrupted, or where it takes no byte of
-- some
abbrev pub IsFailedWrite : Result ℕ Error → List ℕ → Type 0
IsFailedWrite (Ok n) bytes = (n ≡ 0) × (0 < length bytes)
IsFailedWrite (Err error) bytes = error_kind error ≢ Interrupted

-- a call failed, or none is left
abbrev pub AreSpent : IoLogState → Type 0
AreSpent calls = (calls.failed ≡ true) ⊎ (calls.left ≡ 0)

-- A call failed, or at least as many were made since as one text may take. The count tells it,
-- unless it is full.
abbrev pub AreSpentSince : IoLogState → IoLogState → Type 0
AreSpentSince old new = new.failed ≡ false → MadeSince 33554432 old new
