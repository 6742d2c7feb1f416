-- How a session ends the program.
use Rattle.std.proofs.Common.{◌≡◌, ℕ, ◌⊎◌, List, [], Option, Result, Ok, Err, IfSome, inl, inr, refl, sym}
use Rattle.std.proofs.lemmas.List.{append-nil}
use Rattle.std.specs.Io.KnownBytes.{Consumes, IsAtEnd}
use Rattle.rh_text.specs.Output.{AppendsPrefix}
use Rattle.rh_trace.specs.declared.summary.Summary.{Summary}
use Rattle.rh_shell.specs.declared.fault.ShellFault.{ShellFault}
use Rattle.rh_shell.specs.declared.fault.ShellFault.TheVariants as shell_faults
use Rattle.rh_shell.specs.Typing.{AnswersEnded, AnswersFirst, Ends, StopsWithin}
use Rattle.rh_commands.specs.declared.ending.Ending.{Ending}
use Rattle.rh_commands.specs.declared.fault.LineFault.{LineFault}
use Rattle.rh_commands.specs.declared.fault.LineFault.TheVariants as faults
use Rattle.rh_commands.specs.Session.{AnswersWithin, ConcludesSession, IsSessionStatus, session_told_as}
use Rattle.rh_commands.specs.lemmas.Known.{known_so}
use Rattle.rh_commands.proofs.Inputs.{begun_input, whole_input}

-- what was answered of the bytes that were taken
within_taken : (typed text : List ℕ) (left : Option (List ℕ)) → AnswersEnded typed text ⊎ (IsAtEnd left × AnswersFirst typed text) → AnswersEnded typed text ⊎ ((◌≡◌ {A = List ℕ} [] []) × AnswersFirst typed text)
within_taken typed text left (inl ended) = inl ended
within_taken typed text left (inr all) = inr (refl, all.1)

-- and of all bytes that were known
within_known : (known left old new : Option (List ℕ)) (typed text : List ℕ) → Consumes known left typed → AnswersEnded typed text ⊎ (IsAtEnd left × AnswersFirst typed text) → AppendsPrefix old new text
    → IfSome known (λ input. AnswersWithin input old new)
within_known known left old new typed text taken (inl ended) cut =
    begun_input (λ (input : List ℕ). AnswersWithin input old new) known left typed taken (λ rest. (typed, rest, text, refl, inl ended, cut))
within_known known left old new typed text taken (inr all) cut =
    whole_input (λ (input : List ℕ). AnswersWithin input old new) known left typed taken all.0 (typed, [], text, sym (append-nil typed), inr (refl, all.1), cut)

within_told : (known left old new : Option (List ℕ)) → StopsWithin known left old new → IfSome known (λ input. AnswersWithin input old new)
within_told known left old new e = within_known known left old new e.0 e.1 e.2 e.3 e.4

within_read : (known left old new : Option (List ℕ)) (e : StopsWithin known left old new) → AnswersWithin e.0 old new
within_read known left old new e = (e.0, [], e.1, sym (append-nil e.0), within_taken e.0 e.1 left e.3, e.4)

-- how a session ended is how it ended by all bytes that were known
pub session_told : (r : Result Summary ShellFault) (status : ℕ) (known left old new : Option (List ℕ)) → Ends r known left old new → IsSessionStatus r status → IfSome known (λ input. ConcludesSession input status old new)
session_told (Ok summary) status known left old new e s =
    whole_input (λ (input : List ℕ). ConcludesSession input status old new) known left e.0 e.2 e.3 (Ok summary, (e.1, e.4, e.5), s)
session_told (Err shell_faults.Read) status known left old new e s =
    begun_input (λ (input : List ℕ). ConcludesSession input status old new) known left e.0 e.4 (λ rest. (Err shell_faults.Read, (e.0, rest, e.1, e.2, e.3, refl, e.5, e.6), s))
session_told (Err shell_faults.Write) status known left old new (inl e) s =
    known_so (λ (input : List ℕ). AnswersWithin input old new) (λ (input : List ℕ). ConcludesSession input status old new) known (λ input within. (Err shell_faults.Write, inl within, s)) (within_told known left old new e)
session_told (Err shell_faults.Write) status known left old new (inr e) s =
    whole_input (λ (input : List ℕ). ConcludesSession input status old new) known left e.0 e.4 e.5 (Err shell_faults.Write, inr (e.1, e.2, e.3, e.6, e.7, e.8), s)
session_told (Err shell_faults.OutOfMemory) status known left old new e s =
    known_so (λ (input : List ℕ). AnswersWithin input old new) (λ (input : List ℕ). ConcludesSession input status old new) known (λ input within. (Err shell_faults.OutOfMemory, within, s)) (within_told known left old new e)

-- and by those that it took
pub session_read : (r : Result Summary ShellFault) (status : ℕ) (known left old new : Option (List ℕ)) → Ends r known left old new → IsSessionStatus r status
    → (input : List ℕ) × Consumes known left input × ConcludesSession input status old new
session_read (Ok summary) status known left old new e s = (e.0, e.2, (Ok summary, (e.1, e.4, e.5), s))
session_read (Err shell_faults.Read) status known left old new e s = (e.0, e.4, (Err shell_faults.Read, (e.0, [], e.1, e.2, e.3, sym (append-nil e.0), e.5, e.6), s))
session_read (Err shell_faults.Write) status known left old new (inl e) s = (e.0, e.2, (Err shell_faults.Write, inl (within_read known left old new e), s))
session_read (Err shell_faults.Write) status known left old new (inr e) s = (e.0, e.4, (Err shell_faults.Write, inr (e.1, e.2, e.3, e.6, e.7, e.8), s))
session_read (Err shell_faults.OutOfMemory) status known left old new e s = (e.0, e.2, (Err shell_faults.OutOfMemory, within_read known left old new e, s))

-- what is told as a failed read came from one
pub session_unread : (fault : ShellFault) (told : LineFault) (known left old new : Option (List ℕ)) → told ≡ session_told_as fault → ◌≡◌ {A = Result Ending LineFault} (Err told) (Err faults.Read) → Ends (Err fault) known left old new
    → Ends (Err shell_faults.Read) known left old new
session_unread shell_faults.Read told known left old new is read ends = ends
session_unread shell_faults.Write told known left old new is read ends = absurd cc
session_unread shell_faults.OutOfMemory told known left old new is read ends = absurd cc
