-- The calls of a writer that is flushed.
use Rattle.std.specs.Prelude.{◌≡◌, ◌⊎◌, Bool, true, false}
use Rattle.rh_text.specs.IoLog.{IoLogState, no_calls, AreSpent, AreSpentSince}

-- What is known of the calls of a writer: of its writes, and whether its last flush failed.
pub record OutputLogState : Type 0 where
  pub writes : IoLogState
  pub flush_failed : Bool

-- no call was made yet
abbrev pub no_output : OutputLogState
no_output = record { writes = no_calls; flush_failed = false }

-- a write failed or none is left, or the last flush failed
abbrev pub IsSpent : OutputLogState → Type 0
IsSpent log = AreSpent log.writes ⊎ (log.flush_failed ≡ true)

-- A write failed, or at least as many were made since as one text may take; or the last flush
-- failed.
abbrev pub IsSpentSince : OutputLogState → OutputLogState → Type 0
IsSpentSince old new = AreSpentSince old.writes new.writes ⊎ (new.flush_failed ≡ true)
