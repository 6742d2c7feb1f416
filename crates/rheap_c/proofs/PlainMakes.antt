-- An object that C makes with its values is made as on the plain heap.
use Rattle.std.proofs.Common.{◌≡◌, ℕ, Bool, true, false, List, length, Option, Some, None, Result, Ok, Err, refl, sym, ap, subst, ◌∙◌, inl, inr}
use Rattle.std.specs.Prelude.{◌⊎◌, IsOk, nat_lt, if◌then◌else◌}
use Rattle.rh_layout.specs.declared.command.Operand.{Operand}
use Rattle.rh_layout.specs.declared.command.Reply.{Reply}
use Rattle.rh_layout.specs.declared.command.RootId.{RootId}
use Rattle.rh_layout.specs.declared.refusal.Refusal.{Refusal}
use Rattle.rh_layout.specs.declared.shape.Shape.{Shape}
use Rattle.rh_model.specs.Plain.{PlainHeap}
use Rattle.rh_mutator.specs.Commands.{AnswersAs, is_limit_answer}
use Rattle.rh_mutator.specs.Mutator.{MutatorState, StandsFor}
use Rattle.rh_core.specs.Making.{plain_make_step}
use Rattle.rh_pace.specs.Making.{IsMadePlainly}
use Rattle.rh_pace.specs.Paced.{PacedState}
use Rattle.rh_growing.specs.Growing.{GrowingState}
use Rattle.rheap_c.specs.declared.init.RheapInit.{RheapInit}
use Rattle.rheap_c.specs.GrownMaking.{IsGrownMadeUnless, IsGrownMadeWith, growing_making}
use Rattle.rheap_c.specs.Making.{IsMadeUnless, IsMadeWith, have_kinds, making, operands_of, values_fault}
use Rattle.rheap_c.specs.PlainMaking.{IsMadeAsOnPlain, plain_unless_fault, status_unless}
use Rattle.rheap_c.specs.Runs.{is_limit_status}
use Rattle.rheap_c.specs.Told.{status_of}
use Rattle.rheap_c.proofs.Rows.{is_limit_status-status_of}

fine-status : (answer : Result Reply Refusal) → IsOk answer → status_of answer ≡ 0
fine-status (Ok reply) ok = refl
fine-status (Err why) ok = absurd (cc)

-- By what refuses the values.
module _ (left : MutatorState) (p : PlainHeap) (owner : ℕ) (dst : RootId) (shape : Shape) (operands : List Operand) (status : ℕ) where
  abbrev plain : PlainHeap × Result Reply Refusal
  plain = plain_make_step p owner dst shape operands

  abbrev AsOnPlain : Option ℕ → Type 0
  AsOnPlain o =
      ((is_limit_status status ≡ false) × (status ≡ status_unless o plain.1) × StandsFor left (plain_unless_fault o p plain.0))
      ⊎ ((is_limit_status status ≡ true) × (status_unless o plain.1 ≡ 0) × StandsFor left p)

  plainly-by : (told : Result Reply Refusal) → status ≡ status_of told → AnswersAs told plain.1
      → StandsFor left (if is_limit_answer told then p else plain.0) → AsOnPlain None
  plainly-by told says (inl (none, same)) stands =
      inl (ap is_limit_status says ∙ is_limit_status-status_of told ∙ none, says ∙ ap status_of same, subst (λ (b : Bool). StandsFor left (if b then p else plain.0)) none stands)
  plainly-by told says (inr (limited, ok)) stands =
      inr (ap is_limit_status says ∙ is_limit_status-status_of told ∙ limited, fine-status plain.1 ok, subst (λ (b : Bool). StandsFor left (if b then p else plain.0)) limited stands)

-- the values are refused by no status of a limit
abbrev IsNoLimitFault : Option ℕ → Type 0
IsNoLimitFault None = Unit {0}
IsNoLimitFault (Some why) = is_limit_status why ≡ false

fault-no_limit : (many kinds : Bool) → IsNoLimitFault (if many then Some 7 else (if kinds then None else Some 20))
fault-no_limit true kinds = refl
fault-no_limit false true = tt
fault-no_limit false false = refl

-- on a heap of fixed sizes
module _ (insists : Bool) (s : PacedState) (p : PlainHeap) (stands : StandsFor s.heap.mutators p) (owner : ℕ) (dst : RootId) (shape : Shape) (status : ℕ) where
  transparent : (b : Bool) (after : PacedState) (operands : List Operand) (told : Result Reply Refusal) → making b s after owner dst shape operands told
      → IsMadePlainly s after owner dst shape operands told
  transparent false after operands told made = made.transparent
  transparent true after operands told made = made.transparent

  made-by : (o : Option ℕ) → IsNoLimitFault o → (after : PacedState) (operands : List Operand) → IsMadeUnless (making insists) o s after owner dst shape operands status
      → AsOnPlain after.heap.mutators p owner dst shape operands status o
  made-by (Some why) other after operands (same, is) =
      inl (ap is_limit_status is ∙ other, is, subst (λ (t : PacedState). StandsFor t.heap.mutators p) (sym same) stands)
  made-by None other after operands (told, made, says) =
      let both = transparent insists after operands told made p stands in
      plainly-by after.heap.mutators p owner dst shape operands status told says both.0 both.1

  pub made-as_plain : (new : Option PacedState) (values : List RheapInit) → IsMadeWith (making insists) (Some s) new owner dst shape values status
      → (after : PacedState) × (new ≡ Some after) × IsMadeAsOnPlain after.heap.mutators p owner dst shape values status
  made-as_plain new values (after, is, made) =
      (after, is, made-by (values_fault values) (fault-no_limit (nat_lt 4095 (length values)) (have_kinds values)) after (operands_of values) made)

-- and on one that grows
module _ (insists : Bool) (s : GrowingState) (p : PlainHeap) (stands : StandsFor s.paced.heap.mutators p) (owner : ℕ) (dst : RootId) (shape : Shape) (status : ℕ) where
  grown-transparent : (b : Bool) (after : GrowingState) (operands : List Operand) (told : Result Reply Refusal) → growing_making b s after owner dst shape operands told
      → IsMadePlainly s.paced after.paced owner dst shape operands told
  grown-transparent false after operands told made = made.1.transparent
  grown-transparent true after operands told made = made.1.transparent

  grown-by : (o : Option ℕ) → IsNoLimitFault o → (after : GrowingState) (operands : List Operand) → IsGrownMadeUnless (growing_making insists) o s after owner dst shape operands status
      → AsOnPlain after.paced.heap.mutators p owner dst shape operands status o
  grown-by (Some why) other after operands (same, is) =
      inl (ap is_limit_status is ∙ other, is, subst (λ (t : GrowingState). StandsFor t.paced.heap.mutators p) (sym same) stands)
  grown-by None other after operands (told, made, says) =
      let both = grown-transparent insists after operands told made p stands in
      plainly-by after.paced.heap.mutators p owner dst shape operands status told says both.0 both.1

  pub grown-as_plain : (new : Option GrowingState) (values : List RheapInit) → IsGrownMadeWith (growing_making insists) (Some s) new owner dst shape values status
      → (after : GrowingState) × (new ≡ Some after) × IsMadeAsOnPlain after.paced.heap.mutators p owner dst shape values status
  grown-as_plain new values (after, is, made) =
      (after, is, grown-by (values_fault values) (fault-no_limit (nat_lt 4095 (length values)) (have_kinds values)) after (operands_of values) made)
