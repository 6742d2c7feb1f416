-- A trace that wasn't read, and what holds of bytes that were known.
use Rattle.std.proofs.Common.{◌≡◌, ℕ, List, Option, Some, None, Err, IfSome, ap, sym, subst}
use Rattle.rh_text.specs.lemmas.Appends.{Keeps-same}
use Rattle.rh_trace.specs.declared.run_fault.RunFault.{RunFault}
use Rattle.rh_trace.specs.declared.run_fault.RunFault.TheVariants as read_faults
use Rattle.rh_trace.specs.Ways.{IsUnread}
use Rattle.rh_shared_trace.specs.declared.fault.SharedRunFault.{SharedRunFault}
use Rattle.rh_shared_trace.specs.Lines.{fault_in}
use Rattle.rh_shared_trace.specs.Run.{Ends, read_fault}
use Rattle.rh_shared_trace.specs.declared.options.RunOptions.{RunOptions}

-- what follows from what holds of all bytes that were known holds of them
pub known_so : (P Q : List ℕ → Type 0) (known : Option (List ℕ)) → ((input : List ℕ) → P input → Q input) → IfSome known P → IfSome known Q
known_so P Q None step p = tt
known_so P Q (Some xs) step p = step xs p

ends_unread : (options : RunOptions) (input : List ℕ) (fault : RunFault) (a : Option (List ℕ)) → IsUnread input fault → Ends options input (Err (read_fault fault)) a a
ends_unread options input read_faults.Read a is = Keeps-same a
ends_unread options input read_faults.Long a is = (is, Keeps-same a)
ends_unread options input (read_faults.Trace fault) a is = (is.0, ap fault_in is.1, Keeps-same a)
ends_unread options input (read_faults.New fault) a is = absurd is
ends_unread options input read_faults.Write a is = absurd is
ends_unread options input read_faults.OutOfMemory a is = Keeps-same a

-- how a shared run ends whose trace wasn't read
pub unread_ends : (options : RunOptions) (input : List ℕ) (fault : RunFault) (told : SharedRunFault) (a : Option (List ℕ)) → told ≡ read_fault fault → IsUnread input fault → Ends options input (Err told) a a
unread_ends options input fault told a is unread = subst (λ (f : SharedRunFault). Ends options input (Err f) a a) (sym is) (ends_unread options input fault a unread)
