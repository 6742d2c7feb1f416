-- The calls of a program in C on one handle, one after the other.
use Rattle.std.specs.Prelude.{◌≡◌, ℕ, ℤ, ◌⊎◌, Bool, true, false, nat_le, ◌&&◌, List, [], ◌∷◌, length, Option, Some, None, Result, IsOk}
use Rattle.rh_layout.specs.declared.command.Command.{Command}
use Rattle.rh_layout.specs.declared.command.Command.TheVariants.{Copy, Load, Same}
use Rattle.rh_layout.specs.declared.command.Reply.{Reply}
use Rattle.rh_layout.specs.declared.command.RootId.{RootId}
use Rattle.rh_layout.specs.declared.refusal.Refusal.{Refusal}
use Rattle.rh_layout.specs.Refusal.{rank_of}
use Rattle.rh_model.specs.Graph.{Graph}
use Rattle.rh_model.specs.Plain.{PlainHeap, graph_of, step}
use Rattle.rh_mutator.specs.Commands.{plain_unless}
use Rattle.rh_mutator.specs.LoadingAll.{field_loads, number_told}
use Rattle.rh_mutator.specs.StoringAll.{first_refusal, number_stores}
use Rattle.rh_mutator.specs.Texts.{fields_of_bytes}
use Rattle.rh_pace.specs.Collecting.{collect_step, insist_step}
use Rattle.rh_pace.specs.Paced.{PacedState, paced_step, with_increment}
use Rattle.rheap_c.specs.declared.value.RheapValue.{RheapValue}
use Rattle.rheap_c.specs.Called.{IsCompared, IsDone, IsLoaded}
use Rattle.rheap_c.specs.Collected.{Collects, Increments, collect_status}
use Rattle.rheap_c.specs.Insisted.{IsInsisted}
use Rattle.rheap_c.specs.Read.{IsAnswered, IsCounted, count_in, count_status, count_told, field_answer, graph_in, peek_answer, root_answer}
use Rattle.rheap_c.specs.Rows.{after_row, byte_in, plain_refusal, plain_unless_refused, read_into, ready_for, row_refusal, row_status}
use Rattle.rheap_c.specs.Several.{AreBytesTold, AreStored, AreStoredInsisting, AreTold}
use Rattle.rheap_c.specs.Told.{no_value, same_told, status_of, told_value}

-- A call: an owner's command, a load, a comparison, a command that insists on room, a collection,
-- an increment; a reading of a field for an owner, of a field, of a root, or of how many fields
-- there are; one that tells numbers of the heap; one that stores a row of numbers to the fields of
-- an object, from one on, or insists on it, as a text is stored too: a row of its numbers; or one
-- that reads such a row into a list, or the bytes that it holds.
pub data Call : Type 0 where
  Does : ℕ → Command → Call
  Loads : ℕ → RootId → RootId → ℕ → Call
  Compares : ℕ → RootId → RootId → Call
  InsistsOn : ℕ → Command → Call
  CollectsNow : Call
  IncrementsNow : Call
  Peeks : ℕ → RootId → ℕ → Call
  ReadsField : RootId → ℕ → Call
  ReadsRoot : RootId → Call
  Counts : RootId → Call
  TellsNumbers : Call
  StoresInts : ℕ → RootId → ℕ → List ℤ → Call
  InsistsOnInts : ℕ → RootId → ℕ → List ℤ → Call
  LoadsInts : ℕ → RootId → ℕ → List ℤ → Call
  LoadsText : ℕ → RootId → ℕ → List ℕ → Call

-- What a call tells: its status, the value, whether two are the same, how many fields there are, or
-- numbers or bytes were read, and what its list of numbers or its text holds then. Where it tells
-- no value, that is nil; where it compares or counts none, that is 0; where it has no such list or
-- text to read into, that is [].
pub record Answer : Type 0 where
  pub status : ℕ
  pub value : RheapValue
  pub same : ℕ
  pub count : ℕ
  pub ints : List ℤ
  pub text : List ℕ

-- a status alone
abbrev pub with_status : ℕ → Answer
with_status status =
    record { status = status; value = no_value; same = 0; count = 0; ints = []; text = [] }

-- a status and a value
abbrev pub with_value : ℕ → RheapValue → Answer
with_value status value =
    record { status = status; value = value; same = 0; count = 0; ints = []; text = [] }

-- a status and whether two are the same
abbrev pub with_same : ℕ → ℕ → Answer
with_same status same =
    record { status = status; value = no_value; same = same; count = 0; ints = []; text = [] }

-- a status and how many fields there are
abbrev pub with_count : ℕ → ℕ → Answer
with_count status count =
    record { status = status; value = no_value; same = 0; count = count; ints = []; text = [] }

-- a status, what a list holds, and how many of these were read
abbrev pub with_numbers : ℕ → List ℤ → ℕ → Answer
with_numbers status numbers count =
    record { status = status; value = no_value; same = 0; count = count; ints = numbers; text = [] }

-- a status, what a text holds, and how many of its bytes were read
abbrev pub with_text : ℕ → List ℕ → ℕ → Answer
with_text status text count =
    record { status = status; value = no_value; same = 0; count = count; ints = []; text = text }

-- the call tells something of the heap, with status 0; where no heap is open it is 12
abbrev pub IsTelling : Option PacedState → Option PacedState → ℕ → Type 0
IsTelling None new status = (new ≡ None) × (status ≡ 12)
IsTelling (Some s) new status = (new ≡ Some s) × (status ≡ 0)

-- the call was made, with the handle before and after it, and with what it told
abbrev pub IsMade : Option PacedState → Option PacedState → Call → Answer → Type 0
IsMade old new (Does owner command) a =
    IsDone old new owner command a.status × (a ≡ with_status a.status)
IsMade old new (Loads owner dst src field) a =
    IsLoaded old new owner dst src field a.status a.value × (a ≡ with_value a.status a.value)
IsMade old new (Compares owner r q) a =
    IsCompared old new owner r q a.status a.same × (a ≡ with_same a.status a.same)
IsMade old new (InsistsOn owner command) a =
    IsInsisted old new owner command a.status × (a ≡ with_status a.status)
IsMade old new CollectsNow a = Collects old new a.status × (a ≡ with_status a.status)
IsMade old new IncrementsNow a = Increments old new a.status × (a ≡ with_status a.status)
IsMade old new (Peeks owner src field) a =
    IsAnswered (λ s. peek_answer s owner src field) old new a.status a.value
    × (a ≡ with_value a.status a.value)
IsMade old new (ReadsField root field) a =
    IsAnswered (λ s. field_answer s root field) old new a.status a.value
    × (a ≡ with_value a.status a.value)
IsMade old new (ReadsRoot root) a =
    IsAnswered (λ s. root_answer s root) old new a.status a.value
    × (a ≡ with_value a.status a.value)
IsMade old new (Counts root) a =
    IsCounted (λ s. count_in (root_answer s root)) old new a.status a.count
    × (a ≡ with_count a.status a.count)
IsMade old new TellsNumbers a = IsTelling old new a.status × (a ≡ with_status a.status)
IsMade old new (StoresInts owner object from numbers) a =
    AreStored old new owner object from numbers a.status × (a ≡ with_status a.status)
IsMade old new (InsistsOnInts owner object from numbers) a =
    AreStoredInsisting old new owner object from numbers a.status × (a ≡ with_status a.status)
IsMade old new (LoadsInts owner object from before) a =
    AreTold old new owner object from before a.ints a.count a.status
    × (a ≡ with_numbers a.status a.ints a.count)
IsMade old new (LoadsText owner object from before) a =
    AreBytesTold old new owner object from before a.text a.count a.status
    × (a ≡ with_text a.status a.text a.count)

-- these calls were made, each on what the one before it left
abbrev pub AreMade : Option PacedState → Option PacedState → List Call → List Answer → Type 0
AreMade old new [] [] = new ≡ old
AreMade old new [] (a ∷ more) = ⊥
AreMade old new (call ∷ calls) [] = ⊥
AreMade old new (call ∷ calls) (a ∷ more) =
    (between : Option PacedState) × IsMade old between call a × AreMade between new calls more

-- what a heap is after a call
abbrev pub after_call : PacedState → Call → PacedState
after_call s (Does owner command) = (paced_step s owner command).0
after_call s (Loads owner dst src field) = (paced_step s owner (Load dst src field)).0
after_call s (Compares owner r q) = (paced_step s owner (Same r q)).0
after_call s (InsistsOn owner command) = (insist_step s owner command).0
after_call s CollectsNow = (collect_step s).0
after_call s IncrementsNow = with_increment s
after_call s (Peeks owner src field) = s
after_call s (ReadsField root field) = s
after_call s (ReadsRoot root) = s
after_call s (Counts root) = s
after_call s TellsNumbers = s
after_call s (StoresInts owner object from numbers) = after_row s owner object from numbers
after_call s (InsistsOnInts owner object from numbers) =
    after_row (ready_for s owner object from numbers) owner object from numbers
after_call s (LoadsInts owner object from before) = s
after_call s (LoadsText owner object from before) = s

-- what a call tells that does a command, or asks for its answer, where this is the answer
abbrev pub tells : Call → Result Reply Refusal → Answer
tells (Does owner command) told = with_status (status_of told)
tells (Loads owner dst src field) told = with_value (status_of told) (told_value told)
tells (Compares owner r q) told = with_same (status_of told) (same_told told)
tells (InsistsOn owner command) told = with_status (status_of told)
tells CollectsNow told = with_status (status_of told)
tells IncrementsNow told = with_status (status_of told)
tells (Peeks owner src field) told = with_value (status_of told) (told_value told)
tells (ReadsField root field) told = with_value (status_of told) (told_value told)
tells (ReadsRoot root) told = with_value (status_of told) (told_value told)
tells (Counts root) told = with_count (count_status (count_in told)) (count_told (count_in told))
tells call told = with_status (status_of told)

-- what was read, told so, unless there is a reason why not: then the list is as it was
abbrev pub with_read : {X : Type 0} → (ℕ → List X → ℕ → Answer) → Option Refusal → List X
    → List X × ℕ → Answer
with_read tell None before read = tell 0 read.0 read.1
with_read tell (Some why) before read = tell (rank_of why) before 0

-- what a call tells that reads a row, by the graph, and by what a load of each field is answered
abbrev pub row_answer : Graph → (ℕ → Result Reply Refusal) → ℕ → RootId → ℕ → List ℤ → Answer
row_answer g load owner object from before =
    with_read with_numbers (first_refusal g (field_loads owner object from (length before))) before
    (read_into (λ f. number_told (load f)) from before)

-- and what one tells that reads a text
abbrev pub text_answer : Graph → (ℕ → Result Reply Refusal) → ℕ → RootId → ℕ → List ℕ → Answer
text_answer g load owner object from before =
    with_read with_text
    (first_refusal g (field_loads owner object from (fields_of_bytes (length before)))) before
    (read_into (byte_in (λ f. number_told (load f)) from) 0 before)

-- what a call tells on a heap
abbrev pub answer_to : PacedState → Call → Answer
answer_to s (Does owner command) = tells (Does owner command) (paced_step s owner command).1
answer_to s (Loads owner dst src field) =
    tells (Loads owner dst src field) (paced_step s owner (Load dst src field)).1
answer_to s (Compares owner r q) = tells (Compares owner r q) (paced_step s owner (Same r q)).1
answer_to s (InsistsOn owner command) =
    tells (InsistsOn owner command) (insist_step s owner command).1
answer_to s CollectsNow = with_status (collect_status (collect_step s).1)
answer_to s IncrementsNow = with_status 0
answer_to s (Peeks owner src field) = tells (Peeks owner src field) (peek_answer s owner src field)
answer_to s (ReadsField root field) = tells (ReadsField root field) (field_answer s root field)
answer_to s (ReadsRoot root) = tells (ReadsRoot root) (root_answer s root)
answer_to s (Counts root) = tells (Counts root) (root_answer s root)
answer_to s TellsNumbers = with_status 0
answer_to s (StoresInts owner object from numbers) =
    with_status (row_status (row_refusal s owner object from numbers))
answer_to s (InsistsOnInts owner object from numbers) = with_status
    (row_status (row_refusal (ready_for s owner object from numbers) owner object from numbers))
answer_to s (LoadsInts owner object from before) =
    row_answer (graph_in s) (λ f. (paced_step s owner (Load object object f)).1) owner object from
    before
answer_to s (LoadsText owner object from before) =
    text_answer (graph_in s) (λ f. (paced_step s owner (Load object object f)).1) owner object from
    before

-- what a heap is after a list of calls, and what they tell
abbrev pub after_calls : PacedState → List Call → PacedState
after_calls s [] = s
after_calls s (call ∷ calls) = after_calls (after_call s call) calls

abbrev pub answers_to : PacedState → List Call → List Answer
answers_to s [] = []
answers_to s (call ∷ calls) = answer_to s call ∷ answers_to (after_call s call) calls

-- the call that does an owner's command, and tells its status alone
abbrev pub doing : ℕ × Command → Call
doing c = Does c.0 c.1

-- The same on a heap that never moves its objects.

-- the owner's command that a call does, if it does one
abbrev pub command_of : Call → Option (ℕ × Command)
command_of (Does owner command) = Some (owner, command)
command_of (Loads owner dst src field) = Some (owner, Load dst src field)
command_of (Compares owner r q) = Some (owner, Same r q)
command_of (InsistsOn owner command) = Some (owner, command)
command_of call = None

-- the stores that a call does, all of them or none, if it does any
abbrev pub row_of : Call → Option (List (ℕ × Command))
row_of (StoresInts owner object from numbers) = Some (number_stores owner object from numbers)
row_of (InsistsOnInts owner object from numbers) = Some (number_stores owner object from numbers)
row_of call = None

-- The owner's command that a call does not do, but tells the answer of, if there is one: a load of
-- the field into the root that is read, or a copy of this root to itself.
abbrev pub question_of : Call → Option (ℕ × Command)
question_of (Peeks owner src field) = Some (owner, Load src src field)
question_of (ReadsField root field) = Some (root.owner, Load root root field)
question_of (ReadsRoot root) = Some (root.owner, Copy root root)
question_of (Counts root) = Some (root.owner, Copy root root)
question_of call = None

-- whether a status is that of a limit: of the space, the log or the numbers
abbrev pub is_limit_status : ℕ → Bool
is_limit_status status = nat_le 8 status && nat_le status 10

-- What a plain heap is after a call, which it skips where a limit refused it: after a command.
abbrev pub plain_after_command : Option (ℕ × Command) → Bool → PlainHeap → PlainHeap
plain_after_command None limited p = p
plain_after_command (Some c) limited p = plain_unless limited p c.0 c.1

-- after a row, of which it does all stores, or none where it refuses one
abbrev pub plain_after_row : Option (List (ℕ × Command)) → Bool → PlainHeap → PlainHeap
plain_after_row None limited p = p
plain_after_row (Some row) true p = p
plain_after_row (Some row) false p = plain_unless_refused (plain_refusal p row) p row

-- after a call that a limit refused, or not
abbrev pub plain_unless_limited : Bool → PlainHeap → Call → PlainHeap
plain_unless_limited limited p call =
    plain_after_row (row_of call) limited (plain_after_command (command_of call) limited p)

-- and after one that was answered so
abbrev pub plain_after_call : PlainHeap → Call → Answer → PlainHeap
plain_after_call p call a = plain_unless_limited (is_limit_status a.status) p call

-- a call that does a command tells what the plain heap answers, unless a limit refuses what the
-- plain heap accepts
abbrev pub DoesAsPlain : Option (ℕ × Command) → (Result Reply Refusal → Answer) → PlainHeap
    → Answer → Type 0
DoesAsPlain None tells p a = Unit {0}
DoesAsPlain (Some c) tells p a =
    ((is_limit_status a.status ≡ false) × (a ≡ tells (step p c.0 c.1).1))
    ⊎ ((is_limit_status a.status ≡ true) × IsOk (step p c.0 c.1).1)

-- a call that asks for a command's answer tells the plain heap's
abbrev pub AsksAsPlain : Option (ℕ × Command) → (Result Reply Refusal → Answer) → PlainHeap
    → Answer → Type 0
AsksAsPlain None tells p a = Unit {0}
AsksAsPlain (Some c) tells p a = a ≡ tells (step p c.0 c.1).1

-- a row tells the first refusal that the plain heap meets in its stores, if it meets one, unless a
-- limit refuses what the plain heap accepts
abbrev pub StoresAsPlain : Option (List (ℕ × Command)) → PlainHeap → Answer → Type 0
StoresAsPlain None p a = Unit {0}
StoresAsPlain (Some row) p a =
    ((is_limit_status a.status ≡ false) × (a ≡ with_status (row_status (plain_refusal p row))))
    ⊎ ((is_limit_status a.status ≡ true) × (plain_refusal p row ≡ None))

-- a call that reads a row or a text tells what the plain heap's loads tell
abbrev pub ReadsAsPlain : PlainHeap → Call → Answer → Type 0
ReadsAsPlain p (LoadsInts owner object from before) a =
    a ≡ row_answer (graph_of p) (λ f. (step p owner (Load object object f)).1) owner object from
    before
ReadsAsPlain p (LoadsText owner object from before) a =
    a ≡ text_answer (graph_of p) (λ f. (step p owner (Load object object f)).1) owner object from
    before
ReadsAsPlain p call a = Unit {0}

-- so does each call, of whichever kind it is
abbrev pub TellsAsPlain : PlainHeap → Call → Answer → Type 0
TellsAsPlain p call a =
    DoesAsPlain (command_of call) (tells call) p a × AsksAsPlain (question_of call) (tells call) p a
    × StoresAsPlain (row_of call) p a × ReadsAsPlain p call a

-- so do calls one after the other, and what the plain heap is after them
abbrev pub TellAsPlain : PlainHeap → List Call → List Answer → Type 0
TellAsPlain p [] [] = Unit {0}
TellAsPlain p [] (a ∷ more) = ⊥
TellAsPlain p (call ∷ calls) [] = ⊥
TellAsPlain p (call ∷ calls) (a ∷ more) =
    TellsAsPlain p call a × TellAsPlain (plain_after_call p call a) calls more

abbrev pub plain_after_calls : PlainHeap → List Call → List Answer → PlainHeap
plain_after_calls p [] more = p
plain_after_calls p (call ∷ calls) [] = p
plain_after_calls p (call ∷ calls) (a ∷ more) =
    plain_after_calls (plain_after_call p call a) calls more
