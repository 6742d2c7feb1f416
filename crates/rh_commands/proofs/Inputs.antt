-- What is known of a reader whose bytes are known, and how a check ends of which nothing was written.
use Rattle.std.proofs.Common.{◌≡◌, ℕ, ◌<◌, List, ◌++◌, length, Option, Some, None, Err, IfSome, refl, ap, subst, sym, ◌∙◌, arith}
use Rattle.std.proofs.lemmas.List.{append-nil, length-append}
use Rattle.std.specs.Io.KnownBytes.{Consumes, IsAtEnd, Keeps}
use Rattle.rh_text.specs.lemmas.Appends.{Keeps-same}
use Rattle.rh_text.specs.declared.input.InputFault.{InputFault}
use Rattle.rh_text.specs.declared.input.InputFault.TheVariants.{Long}
use Rattle.rh_text.specs.Input.{ReadEnds}
use Rattle.rh_commands.specs.declared.fault.LineFault.TheVariants as faults
use Rattle.rh_commands.specs.Replay.{ConcludesReplay}

-- what holds of the bytes that were taken up to the end holds of all that were known
pub whole_input : (P : List ℕ → Type 0) (known left : Option (List ℕ)) (taken : List ℕ) → Consumes known left taken → IsAtEnd left → P taken → IfSome known P
whole_input P None left taken c end p = tt
whole_input P (Some xs) None taken c end p = absurd c
whole_input P (Some xs) (Some ys) taken c end p = subst P (sym (c ∙ ap (λ (rest : List ℕ). taken ++ rest) end ∙ append-nil taken)) p

-- what holds of the bytes that were taken, whatever follows them, holds of all that were known
pub begun_input : (P : List ℕ → Type 0) (known left : Option (List ℕ)) (taken : List ℕ) → Consumes known left taken → ((rest : List ℕ) → P (taken ++ rest)) → IfSome known P
begun_input P None left taken c p = tt
begun_input P (Some xs) None taken c p = absurd c
begun_input P (Some xs) (Some ys) taken c p = subst P (sym c) (p ys)

-- what holds of any bytes holds of all that were known
pub any_input : (P : List ℕ → Type 0) (known : Option (List ℕ)) → ((input : List ℕ) → P input) → IfSome known P
any_input P None p = tt
any_input P (Some xs) p = p xs

-- a read failed
pub read_failed : (input : List ℕ) (a : Option (List ℕ)) → ConcludesReplay input 1 a a
read_failed input a = (Err faults.Read, Keeps-same a, refl)

-- memory was refused
pub memory_refused : (input : List ℕ) (a : Option (List ℕ)) → ConcludesReplay input 3 a a
memory_refused input a = (Err faults.OutOfMemory, Keeps-same a, refl)

-- there were too many bytes, and whatever follows them
pub too_long : (taken rest : List ℕ) (a : Option (List ℕ)) → 16777216 < length taken → ConcludesReplay (taken ++ rest) 1 a a
too_long taken rest a many = (Err faults.TooLong, (omega (arith, many, length-append taken rest), Keeps-same a), refl)

-- what nothing was written to is as it was
pub keeps_itself : (a : Option (List ℕ)) → Keeps a a
keeps_itself = Keeps-same

-- too many bytes were read
pub long_is : (fault : InputFault) (bytes : List ℕ) (left : Option (List ℕ)) → fault ≡ Long → ReadEnds (λ (x : List ℕ). x) (Err fault) bytes left → 16777216 < length bytes
long_is fault bytes left is ends = subst (λ (f : InputFault). ReadEnds (λ (x : List ℕ). x) (Err f) bytes left) is ends
