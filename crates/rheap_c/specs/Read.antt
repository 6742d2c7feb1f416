-- What a call of C's answers that reads a root, or a field of the object that it names.
use Rattle.std.specs.Prelude.{◌≡◌, ℕ, List, if◌then◌else◌, Option, Some, None, Result, Ok, Err}
use Rattle.rh_layout.specs.declared.command.Command.TheVariants.{Load}
use Rattle.rh_layout.specs.declared.command.Reply.{Reply}
use Rattle.rh_layout.specs.declared.command.Reply.TheVariants as replies
use Rattle.rh_layout.specs.declared.command.RootId.{RootId}
use Rattle.rh_layout.specs.declared.refusal.Refusal.{Refusal}
use Rattle.rh_layout.specs.declared.refusal.Refusal.TheVariants.{NoRoot, NotObject}
use Rattle.rh_layout.specs.declared.value.Value.{Value}
use Rattle.rh_layout.specs.Root.{has_root}
use Rattle.rh_model.specs.Graph.{Graph, field_fault, field_value, refusal_of, reply_of, reply_to, root_value, value_fields}
use Rattle.rh_mutator.specs.Mutator.{graph_of}
use Rattle.rh_pace.specs.Paced.{PacedState}
use Rattle.rheap_c.specs.declared.value.RheapValue.{RheapValue}
use Rattle.rheap_c.specs.Told.{no_value, status_of, told_value}

-- the heap as a graph
abbrev pub graph_in : PacedState → Graph
graph_in s = graph_of s.heap.mutators

-- what a root is answered with: the value that it holds, unless it isn't there
abbrev pub root_answer : PacedState → RootId → Result Reply Refusal
root_answer s r =
    if has_root (graph_in s).owners (graph_in s).slots r
    then Ok (reply_of (graph_in s) (root_value (graph_in s) r)) else Err NoRoot

-- an answer, unless there is a reason why not
abbrev pub answer_unless : Option Refusal → Reply → Result Reply Refusal
answer_unless None reply = Ok reply
answer_unless (Some why) reply = Err why

-- what a field of these fields is answered with
abbrev pub answer_in : Graph → Option (List Value) → ℕ → Result Reply Refusal
answer_in g fields f = answer_unless (field_fault fields f) (reply_of g (field_value fields f))

-- What a field of the object that a root names is answered with: the value that it holds, unless
-- the root isn't there, or names no object, or that has no such field.
abbrev pub field_answer : PacedState → RootId → ℕ → Result Reply Refusal
field_answer s r f =
    if has_root (graph_in s).owners (graph_in s).slots r
    then answer_in (graph_in s) (value_fields (graph_in s) (root_value (graph_in s) r)) f
    else Err NoRoot

-- What a load by an owner is answered with, whatever root takes the value.
abbrev pub peek_answer : PacedState → ℕ → RootId → ℕ → Result Reply Refusal
peek_answer s owner src f =
    answer_unless (refusal_of (graph_in s) owner (Load src src f))
    (reply_to (graph_in s) (Load src src f))

-- how many fields the object has to which a value refers that is replied so, if it does
abbrev pub count_of_reply : Reply → Result ℕ Refusal
count_of_reply replies.Done = Err NotObject
count_of_reply replies.Nil = Err NotObject
count_of_reply (replies.Int n) = Err NotObject
count_of_reply (replies.Object fields) = Ok fields
count_of_reply (replies.Raw fields) = Ok fields
count_of_reply (replies.Same equal) = Err NotObject

-- the same of an answer
abbrev pub count_in : Result Reply Refusal → Result ℕ Refusal
count_in (Ok reply) = count_of_reply reply
count_in (Err why) = Err why

-- the status of a count, and the number that is told: 0 after a refusal
abbrev pub count_status : Result ℕ Refusal → ℕ
count_status (Ok count) = 0
count_status (Err why) = status_of (Err why)

abbrev pub count_told : Result ℕ Refusal → ℕ
count_told (Ok count) = count
count_told (Err why) = 0

-- A call that reads a value, and changes nothing. Where no heap is open, its status is 12.
abbrev pub IsAnswered : (PacedState → Result Reply Refusal) → Option PacedState
    → Option PacedState → ℕ → RheapValue → Type 0
IsAnswered answer None new status value = (new ≡ None) × (status ≡ 12) × (value ≡ no_value)
IsAnswered answer (Some s) new status value =
    (new ≡ Some s) × (status ≡ status_of (answer s)) × (value ≡ told_value (answer s))

-- A call that counts fields, and changes nothing. Where no heap is open, its status is 12.
abbrev pub IsCounted : (PacedState → Result ℕ Refusal) → Option PacedState
    → Option PacedState → ℕ → ℕ → Type 0
IsCounted counts None new status count = (new ≡ None) × (status ≡ 12) × (count ≡ 0)
IsCounted counts (Some s) new status count =
    (new ≡ Some s) × (status ≡ count_status (counts s)) × (count ≡ count_told (counts s))
