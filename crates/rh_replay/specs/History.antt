-- Histories: the calls of a heap that were answered, with their answers, in order.
use Rattle.std.specs.Prelude.{◌≡◌, ℕ, ◌≤◌, ⊤, Bool, true, false, List, [], ◌∷◌, ◌++◌, length, take, Result, Ok, Err}
use Rattle.std.specs.List.{AllByRecursion}
use Rattle.rh_layout.specs.declared.command.Reply.{Reply}
use Rattle.rh_layout.specs.declared.command.Reply.TheVariants.{Done, Nil, Int, Object, Raw, Same}
use Rattle.rh_layout.specs.declared.refusal.Refusal.{Refusal}
use Rattle.rh_layout.specs.Refusal.{is_limit}
use Rattle.rh_text.specs.Number.{IsU32, IsI64}
use Rattle.rh_syntax.specs.Spelling.{CommandFits}
use Rattle.rh_replay.specs.declared.call.Call.{Call}

-- a history: how many owners there are, how many slots each has, and the calls in the order in
-- which they were made
pub record HistoryState : Type 0 where
  pub owners : ℕ
  pub slots : ℕ
  pub calls : List Call

-- a history in memory: what it holds, and for how many further calls it has room there
pub record HistoryInMemory : Type 0 where
  pub contents : HistoryState
  pub room : ℕ

-- a number that is replied has 32 bits, or 64 with sign
abbrev pub ReplyFits : Reply → Type 0
ReplyFits Done = ⊤
ReplyFits Nil = ⊤
ReplyFits (Int n) = IsI64 n
ReplyFits (Object fields) = IsU32 fields
ReplyFits (Raw fields) = IsU32 fields
ReplyFits (Same same) = ⊤

-- the same of an answer's numbers, where the answer is kept: it is a reply, or a refusal that isn't
-- for a limit
abbrev pub AnswerFits : Result Reply Refusal → Type 0
AnswerFits (Ok reply) = ReplyFits reply
AnswerFits (Err refusal) = is_limit refusal ≡ false

-- an answer that a history keeps, whatever its numbers: a reply, or a refusal that isn't for a
-- limit
abbrev pub AnswerIsKept : Result Reply Refusal → Type 0
AnswerIsKept (Ok reply) = ⊤
AnswerIsKept (Err refusal) = is_limit refusal ≡ false

-- an answer whose call is left out of histories: a refusal for a limit
abbrev pub is_left_out : Result Reply Refusal → Bool
is_left_out (Ok reply) = false
is_left_out (Err refusal) = is_limit refusal

-- a call whose numbers fit their types, and whose answer a history may have
abbrev pub CallFits : Call → Type 0
CallFits call = CommandFits call.owner call.command × AnswerFits call.answer

-- what every history keeps: 1 to 16 owners, 1 to 256 slots of each, and at most 1,048,576 calls
-- that fit
pub record IsHistory (h : HistoryState) : Type 0 where
  pub some_owner : 1 ≤ h.owners
  pub few_owners : h.owners ≤ 16
  pub some_slot : 1 ≤ h.slots
  pub few_slots : h.slots ≤ 256
  pub calls : AllByRecursion CallFits h.calls
  pub few_calls : length h.calls ≤ 1048576

-- no call was made yet
abbrev pub empty_history : ℕ → ℕ → HistoryState
empty_history owners slots = record { owners = owners; slots = slots; calls = [] }

-- one call more, after the others
abbrev pub with_call : HistoryState → Call → HistoryState
with_call h call = record h { calls = h.calls ++ call ∷ [] }

-- one call more, unless it is left out
abbrev pub noted_unless : Bool → HistoryState → Call → HistoryState
noted_unless true history call = history
noted_unless false history call = with_call history call

-- the first calls of a history, so many of them
abbrev pub first_calls : ℕ → HistoryState → HistoryState
first_calls count h = record h { calls = take count h.calls }

-- a recorder: its history, and the most calls that it notes
pub record RecorderState : Type 0 where
  pub history : HistoryState
  pub limit : ℕ
