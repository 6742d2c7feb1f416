-- The order of faults, written once: a chain of named conditions, apart from any reader.
use Rattle.std.specs.Prelude.{◌≡◌, ℕ, zero, suc, ◌+◌, ◌<◌, ◌⊎◌, List, [], ◌∷◌}
use Rattle.rh_text.specs.RawLine.{RawLine}

-- a stage: this kind of fault, where P holds
infix 8 ◌when◌
abbrev pub ◌when◌ : {K : Type 0} → K → Type 0 → K → Type 0
(kind when P) other = (other ≡ kind) × P

-- no stage, so no fault
abbrev pub no_fault : {K : Type 0} → ℕ → K → Type 0
no_fault stage kind = ⊥

-- one stage before the others: it is stage 0, and the others are those after it
infixr 6 ◌▸◌
abbrev pub ◌▸◌ : {K : Type 0} → (K → Type 0) → (ℕ → K → Type 0) → ℕ → K → Type 0
(first ▸ others) zero kind = first kind
(first ▸ others) (suc stage) kind = others stage kind

-- the faults of raw lines that are numbered from this number on: those of each line, by its number
abbrev pub in_lines : {K : Type 0} → (ℕ → RawLine → ℕ → K → Type 0) → ℕ → List RawLine → ℕ → ℕ → K
    → Type 0
in_lines faults number [] line stage kind = ⊥
in_lines faults number (l ∷ ls) line stage kind =
    ((line ≡ number) × faults number l stage kind) ⊎ in_lines faults (number + 1) ls line stage kind

-- no fault holds anywhere in a line
abbrev pub IsFaultless : {K : Type 0} → (ℕ → K → Type 0) → Type 0
IsFaultless {K = K} faults = (stage : ℕ) (kind : K) → ¬ faults stage kind

-- the kind of fault that comes first: it holds at a stage, and any other that holds stands at
-- a later stage, or is the same
pub record IsLeast {K : Type 0} (Holds : ℕ → K → Type 0) (kind : K) : Type 0 where
  pub stage : ℕ
  pub holds : Holds stage kind
  pub least : (p : ℕ) (k : K) → Holds p k → (stage < p) ⊎ ((p ≡ stage) × (k ≡ kind))

-- the fault of lines that comes first: it holds on this line at a stage, and any other that
-- holds is on a later line, or on this line at a later stage, or is the same
pub record IsFirst {K : Type 0} (Holds : ℕ → ℕ → K → Type 0) (line : ℕ) (kind : K) : Type 0 where
  pub stage : ℕ
  pub holds : Holds line stage kind
  pub first : (n p : ℕ) (k : K) → Holds n p k → (line < n)
      ⊎ ((n ≡ line) × ((stage < p) ⊎ ((p ≡ stage) × (k ≡ kind))))
