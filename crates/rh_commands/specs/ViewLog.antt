-- The calls of what is viewed, and what its endings come from.
use Rattle.std.specs.Prelude.{◌≡◌, ◌↔◌, ◌+◌, ◌-◌, ◌^◌, ◌<◌, ◌≤◌, ℕ, Bool, true, false, Result, IsErrOf, IsOk}
use Rattle.rh_text.specs.IoLog.{IoLogState, no_calls, AreSpent}

-- What is known of the calls of what is viewed: of its reads, of its writes to all writers, whether
-- a flush failed, and how many flushes were made, counted up to 2^64 - 1.
pub record ViewLogState : Type 0 where
  pub reads : IoLogState
  pub writes : IoLogState
  pub flush_failed : Bool
  pub flushes : ℕ

-- no write and no flush was made yet, and the reads are these
abbrev pub new_log : IoLogState → ViewLogState
new_log reads = record { reads = reads; writes = no_calls; flush_failed = false; flushes = 0 }

-- at least so many flushes were made since; the count tells it, unless it is full
abbrev pub FlushedSince : ℕ → ViewLogState → ViewLogState → Type 0
FlushedSince count old new = new.flushes < 2 ^ 64 - 1 → old.flushes + count ≤ new.flushes

-- What an outcome and its status come from. The fault of reading comes where a read failed or none
-- was left, that of writing where a write did, and else none failed. What is done ends with 1
-- exactly where a flush failed.
pub record HasCause (X E : Type 0) (read write : E) (outcome : Result X E) (status : ℕ)
    (log : ViewLogState) : Type 0 where
  pub read_failed : IsErrOf outcome read → AreSpent log.reads
  pub no_read_failed : ¬ IsErrOf outcome read → log.reads.failed ≡ false
  pub write_failed : IsErrOf outcome write → AreSpent log.writes
  pub no_write_failed : ¬ IsErrOf outcome write → log.writes.failed ≡ false
  pub flush_failed : IsOk outcome → (status ≡ 1) ↔ (log.flush_failed ≡ true)
