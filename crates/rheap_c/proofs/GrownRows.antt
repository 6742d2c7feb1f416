-- Values that are stored one after the other on a heap that grows.
use Rattle.std.proofs.Common.{◌≡◌, ℕ, ◌+◌, ◌<◌, ◌≤◌, Bool, true, List, [], ◌∷◌, length, drop, get_or, Option, Some, None, Result, refl, sym, subst, ◌∙◌, arith}
use Rattle.std.specs.Prelude.{is_none}
use Rattle.std.proofs.lemmas.Bool.{true≢false}
use Rattle.std.proofs.lemmas.List.{drop_all, drop_more}
use Rattle.rh_layout.specs.declared.command.Command.{Command}
use Rattle.rh_layout.specs.declared.command.Command.TheVariants.{Store}
use Rattle.rh_layout.specs.declared.command.Operand.{Operand}
use Rattle.rh_layout.specs.declared.command.Reply.{Reply}
use Rattle.rh_layout.specs.declared.command.RootId.{RootId}
use Rattle.rh_layout.specs.declared.refusal.Refusal.{Refusal}
use Rattle.rh_growing.specs.Growing.{GrowingState}
use Rattle.rheap_c.specs.declared.init.RheapInit.{RheapInit}
use Rattle.rheap_c.specs.Grown.{DoInTurn, IsGrownRowDone, IsGrownRowInsisted}
use Rattle.rheap_c.specs.Init.{operand_of}
use Rattle.rheap_c.specs.RootRows.{next_index}
use Rattle.rheap_c.specs.ValueRows.{value_stores}
use Rattle.rheap_c.proofs.InTurn.{Leads}
use Rattle.rheap_c.proofs.ValueRows.{no_init}

module _ (Does : GrowingState → GrowingState → ℕ → Command → Result Reply Refusal → Type 0) (first : GrowingState) (row : List (ℕ × Command)) where
  -- none was done so far
  pub leads-all : Leads Does first row 0 first row
  leads-all = λ new count status done.
      let same : count ≡ 0 + count = omega arith in
      subst (λ (i : ℕ). DoInTurn Does first new row i status) same done

  module _ (owner : ℕ) (object : RootId) (field : ℕ) (values : List RheapInit) (i : ℕ) (mid : GrowingState) where
    -- the value at this place is next, which means this
    pub leads-value : i < length values → (operand : Operand) → operand ≡ operand_of (get_or values i no_init)
        → Leads Does first row i mid (value_stores owner object field (drop i values))
        → Leads Does first row i mid ((owner, Store object field operand) ∷ value_stores owner object (next_index field) (drop (i + 1) values))
    leads-value within operand means leads =
        subst (λ (o : Operand). Leads Does first row i mid ((owner, Store object field o) ∷ value_stores owner object (next_index field) (drop (i + 1) values))) (sym means)
        (subst (λ (l : List RheapInit). Leads Does first row i mid (value_stores owner object field l)) (drop_more values i no_init within) leads)

    -- none is left
    pub leads-end : length values ≤ i → i ≤ length values
        → Leads Does first row i mid (value_stores owner object field (drop i values))
        → DoInTurn Does first mid row (length values) 0
    leads-end past few leads =
        let all : i + 0 ≡ length values = omega (arith, past, few) in
        let last : Leads Does first row i mid [] =
        subst (λ (l : List RheapInit). Leads Does first row i mid (value_stores owner object field l)) (drop_all i values past) leads in
        subst (λ (k : ℕ). DoInTurn Does first mid row k 0) all (last mid 0 0 (refl, refl, refl))

-- Where no heap is open, a row does nothing.
module _ (empty : Bool) (new : Option GrowingState) (given : List (ℕ × Command)) (count : ℕ) (zero : count ≡ 0) where
  pub closed-grown-row : (old : Option GrowingState) → empty ≡ is_none old → empty ≡ true → new ≡ old → IsGrownRowDone old new given count 12
  closed-grown-row None is shut kept = (kept, zero, refl)
  closed-grown-row (Some s) is shut kept = absurd (true≢false (sym shut ∙ is))

  pub closed-grown-insisted-row : (old : Option GrowingState) → empty ≡ is_none old → empty ≡ true → new ≡ old → IsGrownRowInsisted old new given count 12
  closed-grown-insisted-row None is shut kept = (kept, zero, refl)
  closed-grown-insisted-row (Some s) is shut kept = absurd (true≢false (sym shut ∙ is))

-- A row that was done on what was looked at before.
module _ (old mid new : Option GrowingState) (kept : mid ≡ old) (given : List (ℕ × Command)) (count status : ℕ) where
  pub kept-row : IsGrownRowDone mid new given count status → IsGrownRowDone old new given count status
  kept-row = subst (λ (o : Option GrowingState). IsGrownRowDone o new given count status) kept

  pub kept-insisted-row : IsGrownRowInsisted mid new given count status → IsGrownRowInsisted old new given count status
  kept-insisted-row = subst (λ (o : Option GrowingState). IsGrownRowInsisted o new given count status) kept
