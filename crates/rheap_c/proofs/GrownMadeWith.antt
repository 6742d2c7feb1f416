-- What a call says of a heap that grows that makes an object with its values.
use Rattle.std.proofs.Common.{◌≡◌, ℕ, ◌<◌, ◌≤◌, Bool, true, false, List, length, Option, Some, None, Result, refl, sym, subst}
use Rattle.rh_layout.specs.declared.command.Operand.{Operand}
use Rattle.rh_layout.specs.declared.command.Reply.{Reply}
use Rattle.rh_layout.specs.declared.command.RootId.{RootId}
use Rattle.rh_layout.specs.declared.refusal.Refusal.{Refusal}
use Rattle.rh_layout.specs.declared.shape.Shape.{Shape}
use Rattle.rh_growing.specs.Growing.{GrowingState}
use Rattle.rheap_c.specs.declared.init.RheapInit.{RheapInit}
use Rattle.rheap_c.specs.GrownMaking.{GrownMakes, InsistsOnMaking, IsGrownMadeUnless, MakesOnce, growing_making}
use Rattle.rheap_c.specs.Making.{have_kinds, operands_of, values_fault}
use Rattle.rheap_c.specs.Told.{status_of}
use Rattle.rheap_c.proofs.MadeWith.{fault-by, few-lt, many-lt}

module _ (IsMake : GrownMakes) (values : List RheapInit) (s t : GrowingState) (owner : ℕ) (dst : RootId) (shape : Shape) where
  refused-by : (why : Option ℕ) → values_fault values ≡ why → (status : ℕ)
      → IsGrownMadeUnless IsMake why s t owner dst shape (operands_of values) status
      → IsGrownMadeUnless IsMake (values_fault values) s t owner dst shape (operands_of values) status
  refused-by why is status made =
      subst (λ (o : Option ℕ). IsGrownMadeUnless IsMake o s t owner dst shape (operands_of values) status) (sym is) made

  pub grown-too-many : 4095 < length values → t ≡ s
      → IsGrownMadeUnless IsMake (values_fault values) s t owner dst shape (operands_of values) 7
  grown-too-many many same = refused-by (Some 7) (fault-by values true (have_kinds values) (many-lt (length values) many) refl) 7 (same, refl)

  pub grown-no-kind : length values ≤ 4095 → have_kinds values ≡ false → t ≡ s
      → IsGrownMadeUnless IsMake (values_fault values) s t owner dst shape (operands_of values) 20
  grown-no-kind few bad same = refused-by (Some 20) (fault-by values false false (few-lt (length values) few) bad) 20 (same, refl)

  pub grown-made-of : length values ≤ 4095 → have_kinds values ≡ true
      → (operands : List Operand) → operands ≡ operands_of values → (status : ℕ)
      → IsGrownMadeUnless IsMake None s t owner dst shape operands status
      → IsGrownMadeUnless IsMake (values_fault values) s t owner dst shape (operands_of values) status
  grown-made-of few good operands are status made =
      refused-by None (fault-by values false true (few-lt (length values) few) good) status
      (subst (λ (l : List Operand). IsGrownMadeUnless IsMake None s t owner dst shape l status) are made)

-- An object was made, or insisted on, as it was asked for.
module _ (s t : GrowingState) (owner : ℕ) (dst : RootId) (shape : Shape) (operands : List Operand) where
  pub grown-made : (insists : Bool) → insists ≡ false → (told : Result Reply Refusal)
      → MakesOnce s t owner dst shape operands told → (status : ℕ) → status ≡ status_of told
      → IsGrownMadeUnless (growing_making insists) None s t owner dst shape operands status
  grown-made insists is told call status says =
      let made : IsGrownMadeUnless (growing_making false) None s t owner dst shape operands status = (told, call, says) in
      subst (λ (b : Bool). IsGrownMadeUnless (growing_making b) None s t owner dst shape operands status) (sym is) made

  pub grown-insisted : (insists : Bool) → insists ≡ true → (told : Result Reply Refusal)
      → InsistsOnMaking s t owner dst shape operands told → (status : ℕ) → status ≡ status_of told
      → IsGrownMadeUnless (growing_making insists) None s t owner dst shape operands status
  grown-insisted insists is told call status says =
      let made : IsGrownMadeUnless (growing_making true) None s t owner dst shape operands status = (told, call, says) in
      subst (λ (b : Bool). IsGrownMadeUnless (growing_making b) None s t owner dst shape operands status) (sym is) made
