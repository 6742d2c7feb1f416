-- How a shared run of an input ends.
use Rattle.std.specs.Prelude.{◌≡◌, ℕ, ◌<◌, ◌≤◌, nat_le, List, length, Option, Some, None, Result, Ok, Err}
use Rattle.std.specs.Io.KnownBytes.{Appends, Keeps}
use Rattle.rh_mutator.specs.Config.{fault_of}
use Rattle.rh_text.specs.Output.{AppendsLess}
use Rattle.rh_syntax.specs.Reading.{trace_of}
use Rattle.rh_syntax.specs.Spelling.{Script}
use Rattle.rh_trace.specs.declared.run_fault.RunFault.{RunFault}
use Rattle.rh_trace.specs.declared.run_fault.RunFault.TheVariants as read_faults
use Rattle.rh_trace.specs.Run.{config_of}
use Rattle.rh_replay.specs.History.{HistoryState, IsHistory}
use Rattle.rh_replay.specs.Legal.{IsLegal}
use Rattle.rh_replay.specs.Spelling.{spelling}
use Rattle.rh_collector.specs.SharedConfig.{shared_fault_of}
use Rattle.rh_shared_trace.specs.declared.fault.SharedRunFault.{SharedRunFault}
use Rattle.rh_shared_trace.specs.declared.fault.SharedRunFault.TheVariants as faults
use Rattle.rh_shared_trace.specs.declared.options.RunOptions.{RunOptions}
use Rattle.rh_shared_trace.specs.Lines.{fault_in, line_fault}
use Rattle.rh_shared_trace.specs.Matching.{AreOfTrace}
use Rattle.rh_shared_trace.specs.Options.{shared_config_of}

-- the input is this trace, of commands of its owners alone, and within the limit of bytes
pub record IsSharedTrace (input : List ℕ) (script : Script) : Type 0 where
  pub few : length input ≤ 16777216
  pub read : trace_of input ≡ Ok script
  pub commands : line_fault script.header.owners 2 script.requests ≡ None

-- the input is such a trace, and neither the sizes of its heap nor what was asked for has a fault
pub record IsSharedRun (options : RunOptions) (input : List ℕ) (script : Script) : Type 0 where
  pub trace : IsSharedTrace input script
  pub sizes : fault_of (config_of script.header) ≡ None
  pub shared : shared_fault_of (shared_config_of script.header options) ≡ None

-- A history that a run of a trace may write: it has the trace's owners and slots, and no more than
-- 65,536 calls, and it is legal; each owner's calls are of its lines, in order, of which only those
-- that a limit may refuse are left out, unless the history has its 65,536 calls.
pub record IsHistoryOf (script : Script) (h : HistoryState) : Type 0 where
  pub history : IsHistory h
  pub owners : h.owners ≡ script.header.owners
  pub slots : h.slots ≡ script.header.slots
  pub few : length h.calls ≤ 65536
  pub legal : IsLegal h
  pub lines : AreOfTrace (nat_le 65536 (length h.calls)) script h.calls

-- a fault of reading a trace, as one of a shared run
abbrev pub read_fault : RunFault → SharedRunFault
read_fault read_faults.Read = faults.Read
read_fault read_faults.Long = faults.Long
read_fault (read_faults.Trace fault) = faults.Trace fault
read_fault (read_faults.New fault) = faults.New fault
read_fault read_faults.Write = faults.Write
read_fault read_faults.OutOfMemory = faults.OutOfMemory

-- How a shared run of an input ends: with the text of such a history written; with the first fault
-- of the input or of what was asked for, and nothing written; where a write failed with a prefix of
-- such a text written, and not all; and else, as where a read failed or memory was refused, with
-- nothing written.
abbrev pub Ends : RunOptions → List ℕ → Result (Unit {0}) SharedRunFault → Option (List ℕ)
    → Option (List ℕ) → Type 0
Ends options input (Ok done) old new =
    (script : Script) × (h : HistoryState) × IsSharedRun options input script
    × IsHistoryOf script h × Appends old new (spelling h)
Ends options input (Err faults.Write) old new =
    (script : Script) × (h : HistoryState) × IsSharedRun options input script
    × IsHistoryOf script h × AppendsLess old new (spelling h)
Ends options input (Err faults.Long) old new = (16777216 < length input) × Keeps old new
Ends options input (Err (faults.Trace fault)) old new =
    (length input ≤ 16777216) × (fault_in (trace_of input) ≡ Some fault) × Keeps old new
Ends options input (Err (faults.New fault)) old new =
    (script : Script) × IsSharedTrace input script
    × (fault_of (config_of script.header) ≡ Some fault) × Keeps old new
Ends options input (Err (faults.Shared fault)) old new =
    (script : Script) × IsSharedTrace input script
    × (fault_of (config_of script.header) ≡ None)
    × (shared_fault_of (shared_config_of script.header options) ≡ Some fault) × Keeps old new
Ends options input (Err faults.HistoryDiffers) old new =
    (script : Script) × IsSharedRun options input script × Keeps old new
Ends options input (Err faults.Read) old new = Keeps old new
Ends options input (Err faults.OutOfMemory) old new = Keeps old new

-- what comes of writing a history: it is of the trace and its text was written; or a write failed,
-- with a prefix of the text written; or nothing was, where the history isn't of the trace or memory
-- was refused
abbrev pub EndsWriting : Script → HistoryState → Result (Unit {0}) SharedRunFault
    → Option (List ℕ) → Option (List ℕ) → Type 0
EndsWriting script h (Ok done) old new = IsHistoryOf script h × Appends old new (spelling h)
EndsWriting script h (Err faults.Write) old new =
    IsHistoryOf script h × AppendsLess old new (spelling h)
EndsWriting script h (Err faults.HistoryDiffers) old new = (¬ IsHistoryOf script h) × Keeps old new
EndsWriting script h (Err faults.OutOfMemory) old new = Keeps old new
EndsWriting script h (Err other) old new = ⊥
