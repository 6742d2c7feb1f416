-- The derived tests of values, roots and shapes tell them apart.
use Rattle.std.proofs.Common.{◌≡◌, ℕ, Bool, false, ◌&&◌, eqb, refl, ap, ◌∙◌}
use Rattle.std.specs.Bool.{Decides}
use Rattle.std.specs.Cmp.{booleans_Decides}
use Rattle.std.proofs.Math.Bool.{beq}
use Rattle.std.specs.Ordering.{int_eq}
use Rattle.std.proofs.lemmas.Bool.{false≢true, and_parts, and_from}
use Rattle.std.proofs.lemmas.Bool.Decides.{Decides-eqb, Decides-int_eq}
use Rattle.rh_layout.specs.declared.value.Value.{Value}
use Rattle.rh_layout.specs.declared.value.Value.TheVariants.{Nil, Int, Ref}
use Rattle.rh_layout.specs.declared.command.RootId.{RootId}
use Rattle.rh_layout.specs.contracts.value.ValuePartialEq.TheImpl as values
use Rattle.rh_layout.specs.declared.shape.Shape.{Shape}
use Rattle.rh_layout.specs.contracts.command.RootIdPartialEq.TheImpl as roots
use Rattle.rh_layout.specs.contracts.shape.ShapePartialEq.TheImpl as shapes

abbrev made : ℕ → ℕ → RootId
made owner slot = record { owner = owner; slot = slot }

abbrev pair : RootId → Value → RootId × Value
pair root value = (root, value)

by : (t : Bool) (P Q : Type 0) → Decides t P → (P → Q) → (Q → P) → Decides t Q
by t P Q d to from = (λ e. to (d.0 e), λ q. d.1 (from q))

never : (Q : Type 0) → (Q → ⊥) → Decides false Q
never Q differ = (λ e. absurd (false≢true e), λ q. absurd (differ q))

pub value_eq-Decides : (a b : Value) → Decides (values.eq-value.it a b) (a ≡ b)
value_eq-Decides Nil Nil = (λ e. refl, λ e. refl)
value_eq-Decides Nil (Int n) = never (Nil ≡ Int n) (λ e. cc)
value_eq-Decides Nil (Ref b) = never (Nil ≡ Ref b) (λ e. cc)
value_eq-Decides (Int m) Nil = never (Int m ≡ Nil) (λ e. cc)
value_eq-Decides (Int m) (Int n) = by (int_eq m n) (m ≡ n) (Int m ≡ Int n) (Decides-int_eq m n) (λ e. ap Int e) (λ e. cc)
value_eq-Decides (Int m) (Ref b) = never (Int m ≡ Ref b) (λ e. cc)
value_eq-Decides (Ref a) Nil = never (Ref a ≡ Nil) (λ e. cc)
value_eq-Decides (Ref a) (Int n) = never (Ref a ≡ Int n) (λ e. cc)
value_eq-Decides (Ref a) (Ref b) = by (eqb a b) (a ≡ b) (Ref a ≡ Ref b) (Decides-eqb a b) (λ e. ap Ref e) (λ e. cc)

root_from : (a b : RootId) → (a.owner ≡ b.owner) × (a.slot ≡ b.slot) → a ≡ b
root_from a b h = ap (λ (o : ℕ). made o a.slot) h.0 ∙ ap (λ (s : ℕ). made b.owner s) h.1

both : (s t : Bool) (P Q : Type 0) → Decides s P → Decides t Q → Decides (s && t) (P × Q)
both s t P Q d e = (λ h. let p = and_parts s t h in (d.0 p.0, e.0 p.1), λ h. and_from s t (d.1 h.0) (e.1 h.1))

pub root_eq-Decides : (a b : RootId) → Decides (roots.ghosts.eq a b) (a ≡ b)
root_eq-Decides a b =
    by (eqb a.owner b.owner && eqb a.slot b.slot) ((a.owner ≡ b.owner) × (a.slot ≡ b.slot)) (a ≡ b) (both (eqb a.owner b.owner) (eqb a.slot b.slot) (a.owner ≡ b.owner) (a.slot ≡ b.slot) (Decides-eqb a.owner b.owner) (Decides-eqb a.slot b.slot)) (root_from a b) (λ e. (ap (λ (r : RootId). r.owner) e, ap (λ (r : RootId). r.slot) e))

pair_from : (a b : RootId × Value) → (a.0 ≡ b.0) × (a.1 ≡ b.1) → a ≡ b
pair_from a b h = ap (λ (r : RootId). pair r a.1) h.0 ∙ ap (λ (v : Value). pair b.0 v) h.1

pub entry_eq-Decides : (a b : RootId × Value) → Decides (roots.ghosts.eq a.0 b.0 && values.ghosts.eq a.1 b.1) (a ≡ b)
entry_eq-Decides a b =
    by (roots.ghosts.eq a.0 b.0 && values.ghosts.eq a.1 b.1) ((a.0 ≡ b.0) × (a.1 ≡ b.1)) (a ≡ b) (both (roots.ghosts.eq a.0 b.0) (values.ghosts.eq a.1 b.1) (a.0 ≡ b.0) (a.1 ≡ b.1) (root_eq-Decides a.0 b.0) (value_eq-Decides a.1 b.1)) (pair_from a b) (λ e. (ap (λ (r : RootId × Value). r.0) e, ap (λ (r : RootId × Value). r.1) e))

abbrev shaped : ℕ → Bool → Shape
shaped fields raw = record { fields = fields; raw = raw }

shape_from : (a b : Shape) → (a.fields ≡ b.fields) × (a.raw ≡ b.raw) → a ≡ b
shape_from a b h = ap (λ (n : ℕ). shaped n a.raw) h.0 ∙ ap (λ (t : Bool). shaped b.fields t) h.1

pub shape_eq-Decides : (a b : Shape) → Decides (shapes.ghosts.eq a b) (a ≡ b)
shape_eq-Decides a b =
    by (eqb a.fields b.fields && beq a.raw b.raw) ((a.fields ≡ b.fields) × (a.raw ≡ b.raw)) (a ≡ b) (both (eqb a.fields b.fields) (beq a.raw b.raw) (a.fields ≡ b.fields) (a.raw ≡ b.raw) (Decides-eqb a.fields b.fields) (booleans_Decides a.raw b.raw)) (shape_from a b) (λ e. (ap (λ (s : Shape). s.fields) e, ap (λ (s : Shape). s.raw) e))
