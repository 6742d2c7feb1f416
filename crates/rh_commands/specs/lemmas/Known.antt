-- What holds of bytes that were known.
use Rattle.std.proofs.Common.{ℕ, List, Option, Some, None, IfSome}

-- what follows from what holds of all bytes that were known holds of them
pub known_so : (P Q : List ℕ → Type 0) (known : Option (List ℕ)) → ((input : List ℕ) → P input → Q input) → IfSome known P → IfSome known Q
known_so P Q None step p = tt
known_so P Q (Some xs) step p = step xs p

-- what holds whatever the bytes are holds of them
pub known_is : (P : Type 0) (known : Option (List ℕ)) → P → IfSome known (λ input. P)
known_is P None p = tt
known_is P (Some xs) p = p
