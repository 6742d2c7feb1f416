-- An owner's calls, call by call.
use Rattle.std.proofs.Common.{◌≡◌, ℕ, Bool, true, false, List, ◌∷◌, refl}
use Rattle.std.specs.Prelude.{◌==◌}
use Rattle.std.proofs.lemmas.Bool.{eqb-true, eq-eqb}
use Rattle.rh_replay.specs.declared.call.Call.{Call}
use Rattle.rh_shared.specs.Shares.{calls_of}

-- two numbers that differ aren't told equal
differ-eqb : (m n : ℕ) → (m ≡ n → ⊥) → (m == n) ≡ false
differ-eqb m n apart = by_test (m == n) refl
  where
    by_test : (b : Bool) → (m == n) ≡ b → (m == n) ≡ false
    by_test true e = absurd (apart (eqb-true m n e))
    by_test false e = e

-- Lines.

-- Calls.

pub calls_of-own : (owner : ℕ) (c : Call) (cs : List Call) → c.owner ≡ owner → calls_of owner (c ∷ cs) ≡ c ∷ calls_of owner cs
calls_of-own owner c cs same = rw (eq-eqb c.owner owner same) refl

pub calls_of-other : (owner : ℕ) (c : Call) (cs : List Call) → (c.owner ≡ owner → ⊥) → calls_of owner (c ∷ cs) ≡ calls_of owner cs
calls_of-other owner c cs other = rw (differ-eqb c.owner owner other) refl

-- Calls that are of lines.
