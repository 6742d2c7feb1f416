-- What is told to C: statuses, and values as they cross.
use Rattle.std.specs.Prelude.{ℕ, pos, true, Result, Ok, Err}
use Rattle.rh_layout.specs.declared.command.RootId.{RootId}
use Rattle.rh_layout.specs.declared.command.Reply.{Reply}
use Rattle.rh_layout.specs.declared.command.Reply.TheVariants as replies
use Rattle.rh_layout.specs.declared.refusal.Refusal.{Refusal}
use Rattle.rh_layout.specs.Refusal.{rank_of}
use Rattle.rheap_c.specs.declared.value.RheapRoot.{RheapRoot}
use Rattle.rheap_c.specs.declared.value.RheapValue.{RheapValue}

-- the status of an answer: 0, or the number of the refusal, from 1 to 10
abbrev pub status_of : Result Reply Refusal → ℕ
status_of (Ok reply) = 0
status_of (Err refusal) = rank_of refusal

-- the root that C names
abbrev pub root_of : RheapRoot → RootId
root_of r = record { owner = r.owner; slot = r.slot }

-- nil
abbrev pub no_value : RheapValue
no_value = record { kind = 0; fields = 0; number = pos 0 }

-- the value of a reply, and nil where it has none
abbrev pub value_of_reply : Reply → RheapValue
value_of_reply replies.Done = no_value
value_of_reply replies.Nil = no_value
value_of_reply (replies.Int n) = record { kind = 1; fields = 0; number = n }
value_of_reply (replies.Object fields) = record { kind = 2; fields = fields; number = pos 0 }
value_of_reply (replies.Raw fields) = record { kind = 3; fields = fields; number = pos 0 }
value_of_reply (replies.Same equal) = no_value

-- the value that is told by an answer, and nil after a refusal
abbrev pub told_value : Result Reply Refusal → RheapValue
told_value (Ok reply) = value_of_reply reply
told_value (Err refusal) = no_value

-- 1 where a reply says that two values are equal, and else 0
abbrev pub same_of_reply : Reply → ℕ
same_of_reply (replies.Same true) = 1
same_of_reply reply = 0

-- the same of an answer
abbrev pub same_told : Result Reply Refusal → ℕ
same_told (Ok reply) = same_of_reply reply
same_told (Err refusal) = 0
