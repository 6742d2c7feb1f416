-- What a call of C's does that loads, stores or drops roots in a row, or follows a path: it is a list
-- of commands, done one after the other, up to the first that is refused. By the state of the handle
-- before and after it; where no heap is open it does nothing, with status 12.
use Rattle.std.specs.Prelude.{◌≡◌, ℕ, zero, suc, ◌+◌, min, List, [], ◌∷◌, ◌++◌, drop, length, map, Option, Some, None, Result, Ok, Err}
use Rattle.rh_layout.specs.declared.command.Command.{Command}
use Rattle.rh_layout.specs.declared.command.Command.TheVariants.{Drop, Load, Store}
use Rattle.rh_layout.specs.declared.command.Operand.TheVariants as operands
use Rattle.rh_layout.specs.declared.command.Reply.{Reply}
use Rattle.rh_layout.specs.declared.command.RootId.{RootId}
use Rattle.rh_layout.specs.declared.refusal.Refusal.{Refusal}
use Rattle.rh_pace.specs.Collecting.{insist_step}
use Rattle.rh_pace.specs.Paced.{PacedState, paced_step}
use Rattle.rheap_c.specs.declared.value.RheapValue.{RheapValue}
use Rattle.rheap_c.specs.Rows.{row_status}
use Rattle.rheap_c.specs.Told.{no_value, value_of_reply}

-- the next slot or field; the last number of 32 bits has none behind it, and no heap has so many
abbrev pub next_index : ℕ → ℕ
next_index n = min (n + 1) 4294967295

-- the root in the next slot
abbrev pub next_root : RootId → RootId
next_root r = record { owner = r.owner; slot = next_index r.slot }

-- so many loads: the fields of an object, from one on, into the slots of an owner, from one on
abbrev pub row_loads : ℕ → RootId → RootId → ℕ → ℕ → List (ℕ × Command)
row_loads owner dst src field zero = []
row_loads owner dst src field (suc count) =
    (owner, Load dst src field) ∷ row_loads owner (next_root dst) src (next_index field) count

-- so many stores the other way
abbrev pub row_stores : ℕ → RootId → ℕ → RootId → ℕ → List (ℕ × Command)
row_stores owner object field src zero = []
row_stores owner object field src (suc count) =
    (owner, Store object field (operands.Root src))
    ∷ row_stores owner object (next_index field) (next_root src) count

-- so many roots become nil
abbrev pub row_drops : ℕ → RootId → ℕ → List (ℕ × Command)
row_drops owner root zero = []
row_drops owner root (suc count) = (owner, Drop root) ∷ row_drops owner (next_root root) count

-- the loads of a path: a field of the object that a root names, of the object that this holds, and
-- so on, each into one root
abbrev pub path_loads : ℕ → RootId → RootId → List ℕ → List (ℕ × Command)
path_loads owner dst src [] = []
path_loads owner dst src (field ∷ fields) =
    (owner, Load dst src field) ∷ path_loads owner dst dst fields

-- what is left by commands that are done up to the first that is refused, the replies to those that
-- were done, and why the next one was refused, if there is one
pub record DoneUntil : Type 0 where
  pub state : PacedState
  pub replies : List Reply
  pub refusal : Option Refusal

-- the same with replies before these
abbrev pub after_replies : List Reply → DoneUntil → DoneUntil
after_replies told end = record end { replies = told ++ end.replies }

-- a command was answered so, which left this, and what comes of the commands behind it
abbrev pub until_answered : Result Reply Refusal → PacedState → DoneUntil → DoneUntil
until_answered (Ok reply) s end = after_replies (reply ∷ []) end
until_answered (Err why) s end = record { state = s; replies = []; refusal = Some why }

-- what commands come to that are done so, each by this step
abbrev pub done_until : (PacedState → ℕ → Command → PacedState × Result Reply Refusal) → PacedState
    → List (ℕ × Command) → DoneUntil
done_until step s [] = record { state = s; replies = []; refusal = None }
done_until step s (call ∷ rest) =
    until_answered (step s call.0 call.1).1 (step s call.0 call.1).0
    (done_until step (step s call.0 call.1).0 rest)

-- The status is that of the refusal, and so many commands were done.
pub record IsRowEnd (end : DoneUntil) (new : PacedState) (count status : ℕ) : Type 0 where
  pub left : new ≡ end.state
  pub done : count ≡ length end.replies
  pub told : status ≡ row_status end.refusal

-- A call that does commands so, and tells how many.
abbrev pub IsRowDone : Option PacedState → Option PacedState → List (ℕ × Command) → ℕ → ℕ → Type 0
IsRowDone None new given count status = (new ≡ None) × (count ≡ 0) × (status ≡ 12)
IsRowDone (Some old) new given count status =
    (after : PacedState) × (new ≡ Some after)
    × IsRowEnd (done_until paced_step old given) after count status

-- A call that does each by insisting on it.
abbrev pub IsRowInsisted : Option PacedState → Option PacedState → List (ℕ × Command) → ℕ → ℕ
    → Type 0
IsRowInsisted None new given count status = (new ≡ None) × (count ≡ 0) × (status ≡ 12)
IsRowInsisted (Some old) new given count status =
    (after : PacedState) × (new ≡ Some after)
    × IsRowEnd (done_until insist_step old given) after count status

-- the values of replies, before what stays of a list
abbrev pub values_over : List Reply → List RheapValue → List RheapValue
values_over replies before = map value_of_reply replies ++ drop (length replies) before

-- A call that loads so, and tells the value of each load that was done; what is behind them stays.
abbrev pub IsRowLoaded : Option PacedState → Option PacedState → List (ℕ × Command)
    → List RheapValue → List RheapValue → ℕ → ℕ → Type 0
IsRowLoaded None new given before values count status =
    (new ≡ None) × (values ≡ before) × (count ≡ 0) × (status ≡ 12)
IsRowLoaded (Some old) new given before values count status =
    (after : PacedState) × (new ≡ Some after)
    × IsRowEnd (done_until paced_step old given) after count status
    × (values ≡ values_over (done_until paced_step old given).replies before)

-- the value of the last reply, and nil where there is none
abbrev pub last_value : List Reply → RheapValue
last_value [] = no_value
last_value (reply ∷ []) = value_of_reply reply
last_value (reply ∷ next ∷ replies) = last_value (next ∷ replies)

-- A call that follows a path, and tells the value to which it came.
abbrev pub IsPathLoaded : Option PacedState → Option PacedState → List (ℕ × Command) → ℕ
    → RheapValue → ℕ → Type 0
IsPathLoaded None new given count value status =
    (new ≡ None) × (count ≡ 0) × (value ≡ no_value) × (status ≡ 12)
IsPathLoaded (Some old) new given count value status =
    (after : PacedState) × (new ≡ Some after)
    × IsRowEnd (done_until paced_step old given) after count status
    × (value ≡ last_value (done_until paced_step old given).replies)
