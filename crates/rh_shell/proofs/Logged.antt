-- How many reads and writes were made, over several calls.
use Rattle.std.proofs.Common.{◌≡◌, ◌+◌, ◌≤◌, inl, inr, refl, arith}
use Rattle.rh_text.specs.IoLog.{IoLogState, CountsDown, MadeSince}
use Rattle.rh_shell.specs.OutputLog.{OutputLogState, IsSpentSince}

pub made_none : (log : IoLogState) → MadeSince 0 log log
made_none log full = omega arith

pub made_then : (old mid new : IoLogState) → MadeSince 0 old mid → MadeSince 0 mid new → MadeSince 0 old new
made_then old mid new before after full =
    let n : mid.made + 0 ≤ new.made = after full in
    let o : old.made + 0 ≤ mid.made = before (omega (arith, full, n)) in
    omega (arith, n, o)

-- what is spent since a later moment is spent since an earlier one
pub spent_then : (old mid new : OutputLogState) → MadeSince 0 old.writes mid.writes → IsSpentSince mid new → IsSpentSince old new
spent_then old mid new before (inl spent) = inl (λ none full.
    let n : mid.writes.made + 33554432 ≤ new.writes.made = spent none full in
    let o : old.writes.made + 0 ≤ mid.writes.made = before (omega (arith, full, n)) in
    omega (arith, n, o))
spent_then old mid new before (inr failed) = inr failed

pub counts_none : (log : IoLogState) → CountsDown log.left log log
counts_none log = (omega arith, λ few. refl)

-- calls that are counted down, and then more of them
pub counts_then : (old mid new : IoLogState) → CountsDown old.left old mid → CountsDown mid.left mid new → CountsDown old.left old new
counts_then old mid new before after = (
  omega (arith, before.0, after.0),
  λ few.
      let n : new.made + new.left ≡ mid.made + mid.left = after.1 few in
      let m : mid.made + mid.left ≡ old.made + old.left = before.1 (omega (arith, few, n, after.0)) in
      omega (arith, n, m),
)
