-- What lies under the lock, and what its calls make of it.
use Rattle.std.specs.Prelude.{◌≡◌, ℕ, nat_lt, Bool, true, false, if◌then◌else◌, [], length, Option, Some, None, Result, Ok, Err, IsOk}
use Rattle.rh_layout.specs.Refusing.{unless}
use Rattle.rh_layout.specs.Refusal.{is_limit}
use Rattle.rh_layout.specs.declared.command.Command.{Command}
use Rattle.rh_layout.specs.declared.command.Reply.{Reply}
use Rattle.rh_layout.specs.declared.refusal.Refusal.{Refusal}
use Rattle.rh_mutator.specs.Mutator.{StandsFor}
use Rattle.rh_core.specs.Heap.{HeapState}
use Rattle.rh_core.specs.Commands.{heap_step}
use Rattle.rh_replay.specs.declared.call.Call.{Call}
use Rattle.rh_replay.specs.History.{HistoryState, RecorderState, with_call}
use Rattle.rh_replay.specs.Legal.{IsLegal, replay}
use Rattle.rh_collector.specs.declared.did.Did.{Did}
use Rattle.rh_shared.specs.declared.kept.CallError.{CallError}
use Rattle.rh_shared.specs.declared.kept.CallError.TheVariants as call_errors
use Rattle.rh_collector.specs.SharedConfig.{shared_fault_of}
use Rattle.rh_shared.specs.Start.{AreNewLinks, StartState}
use Rattle.rh_collector.specs.Collector.{CollectorState, with_heap}
use Rattle.rh_collector.specs.Did.{did_nothing}
use Rattle.rh_collector.specs.Increment.{Meets, Met, increment}

-- the heap with what increments keep, the history with its limit, and what the last increment did
pub record KeptState (A : Type 0) : Type 0 where
  pub collector : CollectorState A
  pub recorder : RecorderState
  pub last : Did

-- The recorded history is legal, and the heap stands for its replay.
pub record IsKept (history : HistoryState) (h : HeapState) : Type 0 where
  pub legal : IsLegal history
  pub stands : StandsFor h.mutators (replay history)

-- What every start keeps: its configuration has no fault, its history is one of its heap, with the
-- limit of the configuration, and it has new rings to each replicator.
pub record IsStart {A : Type 0} (s : StartState A) : Type 0 where
  pub kept : IsKept s.recorder.history s.heap
  pub config : shared_fault_of s.config ≡ None
  pub limit : s.recorder.limit ≡ s.config.history
  pub owners : s.recorder.history.owners ≡ s.heap.mutators.config.owners
  pub slots : s.recorder.history.slots ≡ s.heap.mutators.config.slots
  pub count : length s.rings ≡ s.config.replicators
  pub links : AreNewLinks 0 s.rings s.ends

module _ {A : Type 0} where
  -- what lies under the lock at the start: nothing was folded, and no increment came yet
  abbrev pub new_kept : StartState A → KeptState A
  new_kept s = record {
    collector = record {
      heap = s.heap;
      folded = record { epoch = 0; entries = []; room = 64 };
      waits = false;
      rings = s.rings;
      turn = 0;
      stalled = 0;
      alone = false;
      saw = false;
      config = s.config;
    };
    recorder = s.recorder;
    last = did_nothing;
  }

  -- the same of another heap
  abbrev pub of_heap : KeptState A → HeapState → KeptState A
  of_heap k h = record k { collector = with_heap k.collector h }

  -- one increment, which is the last one then
  unfoldable pub kept_increment : Met → KeptState A → KeptState A × Did
  kept_increment met k = (
    record k { collector = (increment met k.collector).0; last = (increment met k.collector).1 },
    (increment met k.collector).1,
  )

  -- a call is noted with its answer
  abbrev pub with_noted : KeptState A → ℕ → Command → Result Reply Refusal → KeptState A
  with_noted k owner command answer = record k {
    recorder = record k.recorder {
      history = with_call k.recorder.history
          (record { owner = owner; command = command; answer = answer });
    };
  }

  -- a refused call is noted unless it was refused for a limit
  abbrev pub refused_where : Bool → KeptState A → ℕ → Command → Refusal → KeptState A
  refused_where true k owner command refusal = k
  refused_where false k owner command refusal = with_noted k owner command (Err refusal)

  -- what comes of a call that the heap answered so: an increment follows an accepted one, and the
  -- call is noted
  abbrev pub kept_after : Result Reply Refusal → Met → KeptState A → ℕ → Command
      → KeptState A × Result Reply CallError
  kept_after (Ok reply) met k owner command =
      (with_noted (kept_increment met k).0 owner command (Ok reply), Ok reply)
  kept_after (Err refusal) met k owner command =
      (refused_where (is_limit refusal) k owner command refusal, Err (call_errors.Heap refusal))

  -- why no call is taken: as many are noted as the limit
  abbrev pub full_refusal : KeptState A → Option CallError
  full_refusal k =
      if nat_lt (length k.recorder.history.calls) k.recorder.limit then None
      else Some call_errors.TraceFull

  -- the state of the heap once it was given the command
  abbrev pub with_command : KeptState A → ℕ → Command → KeptState A
  with_command k owner command = record k {
    collector = with_heap k.collector (heap_step k.collector.heap owner command).0;
  }

  -- One call of an owner, whose increment meets this.
  unfoldable pub kept_call : Met → KeptState A → ℕ → Command → KeptState A × Result Reply CallError
  kept_call met k owner command = unless (full_refusal k) k
      (kept_after (heap_step k.collector.heap owner command).1 met (with_command k owner command)
      owner command)

  -- where the call is accepted, what its increment meets is true
  unfoldable pub CallMeets : Met → KeptState A → ℕ → Command → Type 0
  CallMeets met k owner command =
      full_refusal k ≡ None → IsOk (heap_step k.collector.heap owner command).1
      → Meets met (with_command k owner command).collector
