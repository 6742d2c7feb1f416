-- Calls that were made one after the other make one run, whose answers are a plain heap's.
use Rattle.std.proofs.Common.{◌≡◌, ℕ, zero, suc, ℤ, drop, take, inl, inr, List, [], ◌∷◌, length, refl, sym, ap, ◌∙◌, subst}
use Rattle.std.specs.Prelude.{All, map, Option, Some, None, Result}
use Rattle.std.proofs.lemmas.List.Elements.{All-nil, All-cons}
use Rattle.rh_layout.specs.declared.command.Command.{Command}
use Rattle.rh_layout.specs.declared.command.Command.TheVariants.{Copy, Load, Same}
use Rattle.rh_layout.specs.declared.command.Reply.{Reply}
use Rattle.rh_layout.specs.declared.refusal.Refusal.{Refusal}
use Rattle.rh_layout.specs.declared.command.RootId.{RootId}
use Rattle.rh_layout.specs.Refusal.{rank_of}
use Rattle.rh_model.specs.Graph.{Graph}
use Rattle.rh_model.specs.Plain.{PlainHeap, step}
use Rattle.rh_mutator.specs.Commands.{AnswersAs, plain_unless}
use Rattle.rh_mutator.specs.LoadingAll.{field_loads, number_told}
use Rattle.rh_mutator.specs.Mutator.{MutatorState, StandsFor, graph_of}
use Rattle.rh_mutator.specs.StoringAll.{first_refusal, log_limit_for, number_stores}
use Rattle.rh_mutator.specs.Texts.{fields_of_bytes}
use Rattle.rh_pace.specs.Calls.{IsTransparent}
use Rattle.rh_pace.specs.InTime.{paced_after, paced_replies}
use Rattle.rh_pace.specs.Paced.{PacedState, paced_step}
use Rattle.rh_pace.proofs.StoringAll.{first_refusal-met, first_refusal-plain}
use Rattle.rheap_c.specs.declared.value.RheapValue.{RheapValue}
use Rattle.rheap_c.specs.Collected.{collect_status}
use Rattle.rheap_c.specs.Read.{field_answer, peek_answer, root_answer}
use Rattle.rheap_c.specs.Rows.{after_row, byte_in, read_into, ready_for, row_refusal, row_status}
use Rattle.rheap_c.specs.Several.{AreBytesRead, AreRead, AreReadUnless, AreStored}
use Rattle.rheap_c.specs.Runs.{Answer, Call, IsMade, AreMade, after_call, answer_to, after_calls, answers_to, doing, is_limit_status, command_of, question_of, row_of, plain_after_call, plain_after_command, plain_after_row, plain_after_calls, tells, DoesAsPlain, StoresAsPlain, TellsAsPlain, TellAsPlain, with_count, with_numbers, with_read, with_same, with_status, with_text, with_value}
use Rattle.rheap_c.specs.Runs.Call.{Does, Loads, Compares, InsistsOn, CollectsNow, IncrementsNow, Peeks, ReadsField, ReadsRoot, Counts, TellsNumbers, StoresInts, InsistsOnInts, LoadsInts, LoadsText}
use Rattle.rheap_c.specs.Told.{same_told, status_of, told_value}
use Rattle.rheap_c.proofs.Readings.{field_answer-plain, peek_answer-plain, root_answer-plain}
use Rattle.rheap_c.proofs.Rows.{AreStoredInsisting-ready, AreStoredInsisting-stands, AreStoredUnless-after, AreStoredUnless-plain, AreStoredUnless-status, is_limit_status-status_of, log_limit_for-IsOnlyLimit, read_into-loaded, read_into-text}
use Rattle.rh_pace.proofs.StoredInTime.{asked-no_limit}

-- One run.

pub both_values : {m n : ℕ} {v w : RheapValue} → m ≡ n → v ≡ w → with_value m v ≡ with_value n w
both_values {m} {n} {v} {w} e f =
    ap (λ status. with_value status v) e ∙ ap (λ value. with_value n value) f

pub both_same : {m n x y : ℕ} → m ≡ n → x ≡ y → with_same m x ≡ with_same n y
both_same {m} {n} {x} {y} e f = ap (λ status. with_same status x) e ∙ ap (λ same. with_same n same) f

both_count : {m n x y : ℕ} → m ≡ n → x ≡ y → with_count m x ≡ with_count n y
both_count {m} {n} {x} {y} e f = ap (λ status. with_count status x) e ∙ ap (λ count. with_count n count) f

module _ (s : PacedState) (new : Option PacedState) (owner : ℕ) (object : RootId) (from : ℕ)
    (numbers : List ℤ) (status : ℕ) (stored : AreStored (Some s) new owner object from numbers status) where
  AreStored-after : new ≡ Some (after_row s owner object from numbers)
  AreStored-after = stored.1 ∙ ap Some (AreStoredUnless-after (row_refusal s owner object from numbers) s stored.0 (number_stores owner object from numbers) status stored.2)

  AreStored-status : status ≡ row_status (row_refusal s owner object from numbers)
  AreStored-status = AreStoredUnless-status (row_refusal s owner object from numbers) s stored.0 (number_stores owner object from numbers) status stored.2

-- what is read is told, or that it is refused
told_read : {X : Type 0} (tell : ℕ → List X → ℕ → Answer) (before after : List X) (count : ℕ) (a : Answer) (read : List X × ℕ) (is : Type 0)
    → a ≡ tell a.status after count → (is → read ≡ (after, count)) → (r : Option Refusal) → AreReadUnless r is before after count a.status
    → a ≡ with_read tell r before read
told_read {X} tell before after count a read is shape that None (done, zero_is) =
    shape ∙ ap (λ status. tell status after count) zero_is
    ∙ ap (λ (x : List X × ℕ). with_read tell None before x) (sym (that done))
told_read {X} tell before after count a read is shape that (Some why) (same, none, rank) =
    shape ∙ ap (λ status. tell status after count) rank ∙ ap (tell (rank_of why) after) none
    ∙ ap (λ xs. tell (rank_of why) xs 0) same

-- a call on a heap leaves what the heap is after it
pub IsMade-after : (s : PacedState) (new : Option PacedState) (call : Call) (a : Answer)
    → IsMade (Some s) new call a → new ≡ Some (after_call s call)
IsMade-after s new (Does owner command) a ((told, after, e, done, st), shape) = e ∙ ap Some done.state
IsMade-after s new (Loads owner dst src field) a ((told, after, e, done, st, v), shape) = e ∙ ap Some done.state
IsMade-after s new (Compares owner r q) a ((told, after, e, done, st, v), shape) = e ∙ ap Some done.state
IsMade-after s new (InsistsOn owner command) a ((told, after, e, done, st), shape) = e ∙ ap Some done.state
IsMade-after s new CollectsNow a ((told, after, e, done, st), shape) = e ∙ ap Some done.state
IsMade-after s new IncrementsNow a ((after, e, done, st), shape) = e ∙ ap Some done.state
IsMade-after s new (Peeks owner src field) a ((e, st, v), shape) = e
IsMade-after s new (ReadsField root field) a ((e, st, v), shape) = e
IsMade-after s new (ReadsRoot root) a ((e, st, v), shape) = e
IsMade-after s new (Counts root) a ((e, st, v), shape) = e
IsMade-after s new TellsNumbers a ((e, st), shape) = e
IsMade-after s new (StoresInts owner object from numbers) a (stored, shape) =
    AreStored-after s new owner object from numbers a.status stored
IsMade-after s new (InsistsOnInts owner object from numbers) a (stored, shape) =
    AreStored-after (ready_for s owner object from numbers) new owner object from numbers a.status
    (AreStoredInsisting-ready s owner object from numbers new a.status stored)
IsMade-after s new (LoadsInts owner object from before) a ((e, read), shape) = e
IsMade-after s new (LoadsText owner object from before) a ((e, read), shape) = e

-- and tells what it tells on that heap
pub IsMade-answer : (s : PacedState) (new : Option PacedState) (call : Call) (a : Answer)
    → IsMade (Some s) new call a → a ≡ answer_to s call
IsMade-answer s new (Does owner command) a ((told, after, e, done, st), shape) =
    shape ∙ ap with_status (st ∙ ap status_of done.answer)
IsMade-answer s new (Loads owner dst src field) a ((told, after, e, done, st, v), shape) =
    shape ∙ both_values (st ∙ ap status_of done.answer) (v ∙ ap told_value done.answer)
IsMade-answer s new (Compares owner r q) a ((told, after, e, done, st, v), shape) =
    shape ∙ both_same (st ∙ ap status_of done.answer) (v ∙ ap same_told done.answer)
IsMade-answer s new (InsistsOn owner command) a ((told, after, e, done, st), shape) =
    shape ∙ ap with_status (st ∙ ap status_of done.answer)
IsMade-answer s new CollectsNow a ((told, after, e, done, st), shape) =
    shape ∙ ap with_status (st ∙ ap collect_status done.answer)
IsMade-answer s new IncrementsNow a ((after, e, done, st), shape) = shape ∙ ap with_status st
IsMade-answer s new (Peeks owner src field) a ((e, st, v), shape) = shape ∙ both_values st v
IsMade-answer s new (ReadsField root field) a ((e, st, v), shape) = shape ∙ both_values st v
IsMade-answer s new (ReadsRoot root) a ((e, st, v), shape) = shape ∙ both_values st v
IsMade-answer s new (Counts root) a ((e, st, v), shape) = shape ∙ both_count st v
IsMade-answer s new TellsNumbers a ((e, st), shape) = shape ∙ ap with_status st
IsMade-answer s new (StoresInts owner object from numbers) a (stored, shape) =
    shape ∙ ap with_status (AreStored-status s new owner object from numbers a.status stored)
IsMade-answer s new (InsistsOnInts owner object from numbers) a (stored, shape) =
    shape ∙ ap with_status
    (AreStored-status (ready_for s owner object from numbers) new owner object from numbers a.status
    (AreStoredInsisting-ready s owner object from numbers new a.status stored))
IsMade-answer s new (LoadsInts owner object from before) a ((e, read), shape) =
    let loaded_at : ℕ → Option ℤ = λ f. number_told (paced_step s owner (Load object object f)).1 in
    told_read with_numbers before a.ints a.count a (read_into loaded_at from before) (AreRead s owner object from before a.ints a.count) shape
    (λ done. read_into-loaded loaded_at from before a.ints a.count done.loaded)
    (first_refusal (graph_of s.heap.mutators) (field_loads owner object from (length before))) read
IsMade-answer s new (LoadsText owner object from before) a ((e, read), shape) =
    let loaded_at : ℕ → Option ℤ = λ f. number_told (paced_step s owner (Load object object f)).1 in
    told_read with_text before a.text a.count a (read_into (byte_in loaded_at from) 0 before) (AreBytesRead s owner object from before a.text a.count) shape
    (λ done. read_into-text loaded_at from before a.text a.count done.read)
    (first_refusal (graph_of s.heap.mutators) (field_loads owner object from (fields_of_bytes (length before)))) read

-- so do calls one after the other
pub AreMade-run : (s : PacedState) (new : Option PacedState) (calls : List Call) (more : List Answer)
    → AreMade (Some s) new calls more
    → (new ≡ Some (after_calls s calls)) × (more ≡ answers_to s calls)
AreMade-run s new [] [] e = (e, refl)
AreMade-run s new [] (a ∷ more) e = absurd e
AreMade-run s new (call ∷ calls) [] e = absurd e
AreMade-run s new (call ∷ calls) (a ∷ more) (between, made, rest) =
    let further = AreMade-run (after_call s call) new calls more
    (subst (λ b. AreMade b new calls more) (IsMade-after s between call a made) rest) in (
      further.0,
      ap (λ x. x ∷ more) (IsMade-answer s between call a made)
          ∙ ap (λ xs. answer_to s call ∷ xs) further.1,
    )

-- each is made on what those before it make of the heap
pub AreMade-between : (k : ℕ) (s : PacedState) (new : Option PacedState) (calls : List Call) (more : List Answer)
    → AreMade (Some s) new calls more
    → AreMade (Some (after_calls s (take k calls))) new (drop k calls) (drop k more)
AreMade-between zero s new calls more made = made
AreMade-between (suc k) s new [] [] made = made
AreMade-between (suc k) s new [] (a ∷ more) made = absurd made
AreMade-between (suc k) s new (call ∷ calls) [] made = absurd made
AreMade-between (suc k) s new (call ∷ calls) (a ∷ more) (between, made, rest) =
    AreMade-between k (after_call s call) new calls more
    (subst (λ b. AreMade b new calls more) (IsMade-after s between call a made) rest)

-- calls that do commands alone are the commands, one after the other, on the heap
after_calls-doing : (s : PacedState) (given : List (ℕ × Command))
    → after_calls s (map doing given) ≡ paced_after s given
after_calls-doing s [] = refl
after_calls-doing s (c ∷ given) = after_calls-doing (paced_step s c.0 c.1).0 given

statuses-doing : (s : PacedState) (given : List (ℕ × Command))
    → map (λ a. a.status) (answers_to s (map doing given))
    ≡ map status_of (paced_replies s given)
statuses-doing s [] = refl
statuses-doing s (c ∷ given) = ap (λ statuses. status_of (paced_step s c.0 c.1).1 ∷ statuses)
    (statuses-doing (paced_step s c.0 c.1).0 given)

pub AreMade-doing : (s : PacedState) (new : Option PacedState) (given : List (ℕ × Command))
    (answers : List Answer) → AreMade (Some s) new (map doing given) answers
    → (new ≡ Some (paced_after s given))
    × (map (λ a. a.status) answers ≡ map status_of (paced_replies s given))
AreMade-doing s new given answers made = let run = AreMade-run s new (map doing given) answers made in (
  run.0 ∙ ap Some (after_calls-doing s given),
  ap (map (λ a. a.status)) run.1 ∙ statuses-doing s given,
)

-- where no heap is open a call leaves none, and has status 12
pub IsMade-none : (new : Option PacedState) (call : Call) (a : Answer) → IsMade None new call a
    → (new ≡ None) × (a.status ≡ 12)
IsMade-none new (Does owner command) a ((e, st), shape) = (e, st)
IsMade-none new (Loads owner dst src field) a ((e, st, v), shape) = (e, st)
IsMade-none new (Compares owner r q) a ((e, st, v), shape) = (e, st)
IsMade-none new (InsistsOn owner command) a ((e, st), shape) = (e, st)
IsMade-none new CollectsNow a ((e, st), shape) = (e, st)
IsMade-none new IncrementsNow a ((e, st), shape) = (e, st)
IsMade-none new (Peeks owner src field) a ((e, st, v), shape) = (e, st)
IsMade-none new (ReadsField root field) a ((e, st, v), shape) = (e, st)
IsMade-none new (ReadsRoot root) a ((e, st, v), shape) = (e, st)
IsMade-none new (Counts root) a ((e, st, v), shape) = (e, st)
IsMade-none new TellsNumbers a ((e, st), shape) = (e, st)
IsMade-none new (StoresInts owner object from numbers) a ((e, st), shape) = (e, st)
IsMade-none new (InsistsOnInts owner object from numbers) a ((e, st), shape) = (e, st)
IsMade-none new (LoadsInts owner object from before) a ((e, st, same, none), shape) = (e, st)
IsMade-none new (LoadsText owner object from before) a ((e, st, same, none), shape) = (e, st)

abbrev IsUnopened : Answer → Type 0
IsUnopened a = a.status ≡ 12

pub AreMade-none : (new : Option PacedState) (calls : List Call) (more : List Answer)
    → AreMade None new calls more → (new ≡ None) × All IsUnopened more
AreMade-none new [] [] e = (e, All-nil IsUnopened)
AreMade-none new [] (a ∷ more) e = absurd e
AreMade-none new (call ∷ calls) [] e = absurd e
AreMade-none new (call ∷ calls) (a ∷ more) (between, made, rest) =
    let here = IsMade-none between call a made in
    let further = AreMade-none new calls more (subst (λ b. AreMade b new calls more) here.0 rest) in
    (further.0, All-cons IsUnopened a more here.1 further.1)

-- As a plain heap.

-- what is answered so is told so
told_as_plain : (owner : ℕ) (command : Command) (tell : Result Reply Refusal → Answer)
    (p : PlainHeap) (a : Answer) (told : Result Reply Refusal)
    → a.status ≡ status_of told → a ≡ tell told → AnswersAs told (step p owner command).1
    → DoesAsPlain (Some (owner, command)) tell p a
told_as_plain owner command tell p a told st e (inl same) =
    inl (ap is_limit_status st ∙ is_limit_status-status_of told ∙ same.0, e ∙ ap tell same.1)
told_as_plain owner command tell p a told st e (inr limited) =
    inr (ap is_limit_status st ∙ is_limit_status-status_of told ∙ limited.0, limited.1)

-- a command's call tells as the plain heap does, and leaves a heap that stands for it
pub transparent_call : (old new : PacedState) (owner : ℕ) (command : Command)
    (tell : Result Reply Refusal → Answer) (p : PlainHeap) (a : Answer) (told : Result Reply Refusal)
    → a.status ≡ status_of told → a ≡ tell told → IsTransparent old new owner command told
    → StandsFor old.heap.mutators p
    → DoesAsPlain (Some (owner, command)) tell p a
    × StandsFor new.heap.mutators
    (plain_after_command (Some (owner, command)) (is_limit_status a.status) p)
transparent_call old new owner command tell p a told st e transparent stands =
    let said = transparent p stands in (
      told_as_plain owner command tell p a told st e said.0,
      subst (λ limited. StandsFor new.heap.mutators (plain_unless limited p owner command))
          (sym (ap is_limit_status st ∙ is_limit_status-status_of told)) said.1,
    )

-- what is asked is told as the plain heap answers it
asked_as_plain : (s : PacedState) (new : Option PacedState) (call : Call) (a : Answer)
    (p : PlainHeap) → IsMade (Some s) new call a → (told plain_told : Result Reply Refusal)
    → answer_to s call ≡ tells call told → told ≡ plain_told → a ≡ tells call plain_told
asked_as_plain s new call a p made told plain_told is same =
    IsMade-answer s new call a made ∙ is ∙ ap (tells call) same

abbrev Plainly : PacedState → Call → Answer → PlainHeap → Type 0
Plainly s call a p = TellsAsPlain p call a
    × StandsFor (after_call s call).heap.mutators (plain_after_call p call a)

-- a row is stored so
stored_plain : (s : PacedState) (new : Option PacedState) (owner : ℕ) (object : RootId) (from : ℕ)
    (numbers : List ℤ) (a : Answer) (p : PlainHeap) → AreStored (Some s) new owner object from numbers a.status
    → a ≡ with_status a.status → StandsFor s.heap.mutators p
    → StoresAsPlain (Some (number_stores owner object from numbers)) p a
    × StandsFor (after_row s owner object from numbers).heap.mutators
    (plain_after_row (Some (number_stores owner object from numbers)) (is_limit_status a.status) p)
stored_plain s new owner object from numbers a p (after, e, stored) shape stands =
    let m : MutatorState = s.heap.mutators in
    let row : List (ℕ × Command) = number_stores owner object from numbers in
    let both = AreStoredUnless-plain row s after p a shape stands
    (first_refusal (graph_of m) row) (log_limit_for (length numbers) m.cycle m.log)
    (asked-no_limit (graph_of m) row) (log_limit_for-IsOnlyLimit m (length numbers))
    (first_refusal-met m p stands owner object from numbers) stored in (
      both.0,
      subst (λ (t : PacedState). StandsFor t.heap.mutators (plain_after_row (Some row) (is_limit_status a.status) p))
          (AreStoredUnless-after (row_refusal s owner object from numbers) s after row a.status stored) both.1,
    )

pub IsMade-plain : (s : PacedState) (new : Option PacedState) (call : Call) (a : Answer) (p : PlainHeap)
    → IsMade (Some s) new call a → StandsFor s.heap.mutators p → Plainly s call a p
IsMade-plain s new (Does owner command) a p ((told, after, e, done, st), shape) stands =
    let both = transparent_call s after owner command (tells (Does owner command)) p a told st
    (shape ∙ ap with_status st) done.transparent stands in
    ((both.0, tt, tt, tt), subst (λ t. StandsFor t.heap.mutators (plain_after_call p (Does owner command) a)) done.state both.1)
IsMade-plain s new (Loads owner dst src field) a p ((told, after, e, done, st, v), shape) stands =
    let call = Loads owner dst src field in
    let both = transparent_call s after owner (Load dst src field) (tells call) p a told st
    (shape ∙ both_values st v)
    done.transparent stands in
    ((both.0, tt, tt, tt), subst (λ t. StandsFor t.heap.mutators (plain_after_call p call a)) done.state both.1)
IsMade-plain s new (Compares owner r q) a p ((told, after, e, done, st, v), shape) stands =
    let call = Compares owner r q in
    let both = transparent_call s after owner (Same r q) (tells call) p a told st
    (shape ∙ both_same st v)
    done.transparent stands in
    ((both.0, tt, tt, tt), subst (λ t. StandsFor t.heap.mutators (plain_after_call p call a)) done.state both.1)
IsMade-plain s new (InsistsOn owner command) a p ((told, after, e, done, st), shape) stands =
    let call = InsistsOn owner command in
    let both = transparent_call s after owner command (tells call) p a told st
    (shape ∙ ap with_status st) done.transparent stands in
    ((both.0, tt, tt, tt), subst (λ t. StandsFor t.heap.mutators (plain_after_call p call a)) done.state both.1)
IsMade-plain s new CollectsNow a p ((told, after, e, done, st), shape) stands =
    ((tt, tt, tt, tt), subst (λ t. StandsFor t.heap.mutators p) done.state (done.stands p stands))
IsMade-plain s new IncrementsNow a p ((after, e, done, st), shape) stands =
    ((tt, tt, tt, tt), subst (λ t. StandsFor t.heap.mutators p) done.state (done.stands p stands))
IsMade-plain s new (Peeks owner src field) a p made stands =
    ((tt, asked_as_plain s new (Peeks owner src field) a p made (peek_answer s owner src field) (step p owner (Load src src field)).1 refl (peek_answer-plain s p stands owner src field), tt, tt), stands)
IsMade-plain s new (ReadsField root field) a p made stands =
    ((tt, asked_as_plain s new (ReadsField root field) a p made (field_answer s root field) (step p root.owner (Load root root field)).1 refl (field_answer-plain s p stands root field), tt, tt), stands)
IsMade-plain s new (ReadsRoot root) a p made stands =
    ((tt, asked_as_plain s new (ReadsRoot root) a p made (root_answer s root) (step p root.owner (Copy root root)).1 refl (root_answer-plain s p stands root), tt, tt), stands)
IsMade-plain s new (Counts root) a p made stands =
    ((tt, asked_as_plain s new (Counts root) a p made (root_answer s root) (step p root.owner (Copy root root)).1 refl (root_answer-plain s p stands root), tt, tt), stands)
IsMade-plain s new TellsNumbers a p made stands = ((tt, tt, tt, tt), stands)
IsMade-plain s new (StoresInts owner object from numbers) a p (stored, shape) stands =
    let both = stored_plain s new owner object from numbers a p stored shape stands in
    ((tt, tt, both.0, tt), both.1)
IsMade-plain s new (InsistsOnInts owner object from numbers) a p (stored, shape) stands =
    let both = stored_plain (ready_for s owner object from numbers) new owner object from numbers a p
    (AreStoredInsisting-ready s owner object from numbers new a.status stored) shape
    (AreStoredInsisting-stands s owner object from numbers new a.status p stored stands) in
    ((tt, tt, both.0, tt), both.1)
IsMade-plain s new (LoadsInts owner object from before) a p ((e, read), shape) stands =
    let g : Graph = graph_of s.heap.mutators in
    let loads = field_loads owner object from (length before) in
    let loaded_at : ℕ → Option ℤ = λ f. number_told (step p owner (Load object object f)).1 in
    let into : List ℤ × ℕ = read_into loaded_at from before in (
      (
        tt,
        tt,
        tt,
        told_read with_numbers before a.ints a.count a into (AreRead s owner object from before a.ints a.count) shape
            (λ done. read_into-loaded loaded_at from before a.ints a.count (done.plain p stands)) (first_refusal g loads) read
            ∙ ap (λ r. with_read with_numbers r before into) (first_refusal-plain s.heap.mutators p stands loads),
      ),
      stands,
    )
IsMade-plain s new (LoadsText owner object from before) a p ((e, read), shape) stands =
    let g : Graph = graph_of s.heap.mutators in
    let loads = field_loads owner object from (fields_of_bytes (length before)) in
    let loaded_at : ℕ → Option ℤ = λ f. number_told (step p owner (Load object object f)).1 in
    let into : List ℕ × ℕ = read_into (byte_in loaded_at from) 0 before in (
      (
        tt,
        tt,
        tt,
        told_read with_text before a.text a.count a into (AreBytesRead s owner object from before a.text a.count) shape
            (λ done. read_into-text loaded_at from before a.text a.count (done.plain p stands)) (first_refusal g loads) read
            ∙ ap (λ r. with_read with_text r before into) (first_refusal-plain s.heap.mutators p stands loads),
      ),
      stands,
    )

-- so do calls one after the other
pub AreMade-plain : (s : PacedState) (new : Option PacedState) (calls : List Call) (more : List Answer)
    (p : PlainHeap) → AreMade (Some s) new calls more → StandsFor s.heap.mutators p
    → TellAsPlain p calls more
    × StandsFor (after_calls s calls).heap.mutators (plain_after_calls p calls more)
AreMade-plain s new [] [] p made stands = (tt, stands)
AreMade-plain s new [] (a ∷ more) p made stands = absurd made
AreMade-plain s new (call ∷ calls) [] p made stands = absurd made
AreMade-plain s new (call ∷ calls) (a ∷ more) p (between, made, rest) stands =
    let here = IsMade-plain s between call a p made stands in
    let further = AreMade-plain (after_call s call) new calls more (plain_after_call p call a)
    (subst (λ b. AreMade b new calls more) (IsMade-after s between call a made) rest) here.1 in
    ((here.0, further.0), further.1)

-- what does a row does no other command, and asks for no answer
pub row_of-only : (call : Call) (row : List (ℕ × Command)) → row_of call ≡ Some row
    → (command_of call ≡ None) × (question_of call ≡ None)
row_of-only (Does owner command) row is = absurd (cc)
row_of-only (Loads owner dst src field) row is = absurd (cc)
row_of-only (Compares owner r q) row is = absurd (cc)
row_of-only (InsistsOn owner command) row is = absurd (cc)
row_of-only CollectsNow row is = absurd (cc)
row_of-only IncrementsNow row is = absurd (cc)
row_of-only (Peeks owner src field) row is = absurd (cc)
row_of-only (ReadsField root field) row is = absurd (cc)
row_of-only (ReadsRoot root) row is = absurd (cc)
row_of-only (Counts root) row is = absurd (cc)
row_of-only TellsNumbers row is = absurd (cc)
row_of-only (StoresInts owner object from numbers) row is = (refl, refl)
row_of-only (InsistsOnInts owner object from numbers) row is = (refl, refl)
row_of-only (LoadsInts owner object from before) row is = absurd (cc)
row_of-only (LoadsText owner object from before) row is = absurd (cc)
