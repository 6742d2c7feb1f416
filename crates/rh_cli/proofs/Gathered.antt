-- What a writer has that gathered nothing yet is what the other has.
use Rattle.std.proofs.Common.{◌≡◌, ℕ, List, [], Option, Some, None, refl, ap, append-nil}
use Rattle.std.specs.Io.KnownBytes.{append_known}

pub append_known-nil : (a : Option (List ℕ)) → append_known a [] ≡ a
append_known-nil None = refl
append_known-nil (Some x) = ap (λ (l : List ℕ). Some l) (append-nil x)
