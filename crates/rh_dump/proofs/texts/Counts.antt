-- How many writes were made, and that none is left, where a text is sent in parts.
use Rattle.std.proofs.Common.{◌≡◌, ◌≤◌, ◌+◌, inl, inr, sym, ◌∙◌, arith}
use Rattle.std.specs.Prelude.{Result, Ok, Err, OnOk, OnErr}
use Rattle.std.specs.Result.{IsErr}
use Rattle.std.proofs.lemmas.Bool.{false≢true}
use Rattle.rh_text.specs.IoLog.{IoLogState, CountsDown, MadeSince, AreSpent, AreSpentSince}

pub made_none : (log : IoLogState) → MadeSince 0 log log
made_none log full = omega arith

-- a part was sent
pub made_by : (old new : IoLogState) → CountsDown 33554432 old new → MadeSince 0 old new
made_by old new counts full =
    let e : new.made + new.left ≡ old.made + 33554432 = counts.1 full in
    omega (arith, counts.0)

pub spent_by : (old new : IoLogState) → AreSpent new → CountsDown 33554432 old new → AreSpentSince old new
spent_by old new (inl failed) counts none full = absurd (false≢true (sym none ∙ failed))
spent_by old new (inr empty) counts none full =
    let e : new.made + new.left ≡ old.made + 33554432 = counts.1 full in
    omega (arith, empty)

module _ (old mid new : IoLogState) (before : MadeSince 0 old mid) where
  pub made_after : MadeSince 0 mid new → MadeSince 0 old new
  made_after after full =
      let n : mid.made + 0 ≤ new.made = after full in
      let o : old.made + 0 ≤ mid.made = before (omega (arith, full)) in
      omega arith

  pub spent_after : AreSpentSince mid new → AreSpentSince old new
  spent_after spent none full =
      let n : mid.made + 33554432 ≤ new.made = spent none full in
      let o : old.made + 0 ≤ mid.made = before (omega (arith, full)) in
      omega arith

  -- the same where what came after is a part that was sent
  pub made_more : CountsDown 33554432 mid new → MadeSince 0 old new
  made_more counts = made_after (made_by mid new counts)

  pub spent_more : AreSpent new → CountsDown 33554432 mid new → AreSpentSince old new
  spent_more spent counts = spent_after (spent_by mid new spent counts)

-- what is said of an Ok is not said of an Err, and what is known is said of an Err too
pub err_ok : {A E : Type 0} (P : Type 0) (r : Result A E) → IsErr r → OnOk r P
err_ok P (Ok x) is = absurd (false≢true is)
err_ok P (Err e) is = tt

pub err_err : {A E P : Type 0} (r : Result A E) → P → OnErr r P
err_err (Ok x) p = tt
err_err (Err e) p = p
