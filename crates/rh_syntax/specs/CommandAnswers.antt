-- The texts of the answers to commands, without line ends.
use Rattle.std.specs.Prelude.{ℕ, ◌<◌, ◌^◌, ⊤, true, false, List, [], ◌++◌, Result, Ok, Err, codes, decimal}
use Rattle.std.specs.Fmt.{signed_decimal}
use Rattle.rh_layout.specs.declared.command.Reply.{Reply}
use Rattle.rh_layout.specs.declared.command.Reply.TheVariants.{Done, Nil, Int, Object, Raw, Same}
use Rattle.rh_layout.specs.declared.refusal.Refusal.{Refusal}
use Rattle.rh_layout.specs.declared.refusal.Refusal.TheVariants.{NoRoot, NotYours, NotObject, NoField, RawField, IntRange, FieldsRange, SpaceFull, LogFull, NumbersSpent}
use Rattle.rh_text.specs.Number.{IsI64}

-- what a reply is written as
abbrev pub reply_text : Reply → List ℕ
reply_text Done = codes "done"
reply_text Nil = codes "nil"
reply_text (Int n) = codes "int " ++ signed_decimal n
reply_text (Object fields) = codes "object " ++ decimal fields
reply_text (Raw fields) = codes "raw " ++ decimal fields
reply_text (Same true) = codes "same yes"
reply_text (Same false) = codes "same no"

-- the name of a refusal
abbrev pub refusal_name : Refusal → List ℕ
refusal_name NoRoot = codes "NoRoot"
refusal_name NotYours = codes "NotYours"
refusal_name NotObject = codes "NotObject"
refusal_name NoField = codes "NoField"
refusal_name RawField = codes "RawField"
refusal_name IntRange = codes "IntRange"
refusal_name FieldsRange = codes "FieldsRange"
refusal_name (SpaceFull need free) = codes "SpaceFull"
refusal_name LogFull = codes "LogFull"
refusal_name NumbersSpent = codes "NumbersSpent"

-- what a refusal tells after its name
abbrev pub refusal_parts : Refusal → List ℕ
refusal_parts NoRoot = []
refusal_parts NotYours = []
refusal_parts NotObject = []
refusal_parts NoField = []
refusal_parts RawField = []
refusal_parts IntRange = []
refusal_parts FieldsRange = []
refusal_parts (SpaceFull need free) =
    codes " need " ++ (decimal need ++ (codes " free " ++ decimal free))
refusal_parts LogFull = []
refusal_parts NumbersSpent = []

-- what a refusal is written as
abbrev pub refused_text : Refusal → List ℕ
refused_text refusal = codes "refused " ++ (refusal_name refusal ++ refusal_parts refusal)

-- what an answer is written as
abbrev pub answer_text : Result Reply Refusal → List ℕ
answer_text (Ok reply) = reply_text reply
answer_text (Err refusal) = refused_text refusal

-- a number of at most 128 bits, as each is that an answer tells
abbrev pub IsU128 : ℕ → Type 0
IsU128 n = n < 2 ^ 128

-- what a reply tells fits: a whole number of 64 bits, or a number of fields
abbrev pub IsToldReply : Reply → Type 0
IsToldReply (Int n) = IsI64 n
IsToldReply (Object fields) = IsU128 fields
IsToldReply (Raw fields) = IsU128 fields
IsToldReply other = ⊤

-- the numbers that a refusal tells fit
abbrev pub IsToldRefusal : Refusal → Type 0
IsToldRefusal (SpaceFull need free) = IsU128 need × IsU128 free
IsToldRefusal other = ⊤

-- what an answer tells fits
abbrev pub IsToldAnswer : Result Reply Refusal → Type 0
IsToldAnswer (Ok reply) = IsToldReply reply
IsToldAnswer (Err refusal) = IsToldRefusal refusal
