-- What a step gave, and what the step before it gave then.
use Rattle.std.proofs.Common.{◌≡◌, Bool, true, false, cond, Option, Some, None, Result, Ok, Err, refl, sym, ◌∙◌}
use Rattle.rh_text.specs.Steps.{◌>>=◌, or_fault}

pub ok_err : {A K : Type 0} (x : A) (k : K) → ◌≡◌ {A = Result A K} (Ok x) (Err k) → ⊥
ok_err x k e = cc

pub err_ok : {A K : Type 0} (x : A) (k : K) → ◌≡◌ {A = Result A K} (Err k) (Ok x) → ⊥
err_ok x k e = cc

pub err_is : {A K : Type 0} (k j : K) → ◌≡◌ {A = Result A K} (Err k) (Err j) → k ≡ j
err_is k j e = cc

pub ok_is : {A K : Type 0} (x y : A) → ◌≡◌ {A = Result A K} (Ok x) (Ok y) → x ≡ y
ok_is x y e = cc

pub none_some : {A : Type 0} (o : Option A) (x : A) → o ≡ None → o ≡ Some x → ⊥
none_some o x e f = let clash : ◌≡◌ {A = Option _} None (Some x) = sym e ∙ f in absurd cc

-- the value of a step that did not fail
pub bind_ok : {A B E : Type 0} (r : Result A E) (f : A → Result B E) (y : B) → (r >>= f) ≡ Ok y → (x : A) × (r ≡ Ok x) × (f x ≡ Ok y)
bind_ok (Ok x) f y e = (x, refl, e)
bind_ok (Err d) f y e = absurd cc

-- one step after another
pub bind_bind : {A B C E : Type 0} (r : Result A E) (g : A → Result B E) (f : B → Result C E) → ((r >>= g) >>= f) ≡ (r >>= λ x. g x >>= f)
bind_bind (Ok x) g f = refl
bind_bind (Err kind) g f = refl

-- a test that was passed
pub chosen : {A K : Type 0} (b : Bool) (d : K) (r : Result A K) (y : A) → cond b r (Err d) ≡ Ok y → (b ≡ true) × (r ≡ Ok y)
chosen true d r y e = (refl, e)
chosen false d r y e = absurd cc

pub refused : {A K : Type 0} (b : Bool) (d : K) (r : Result A K) (y : A) → cond b (Err d) r ≡ Ok y → (b ≡ false) × (r ≡ Ok y)
refused true d r y e = absurd cc
refused false d r y e = (refl, e)

pub or_fault_ok : {A K : Type 0} (o : Option A) (kind : K) (x : A) → or_fault o kind ≡ Ok x → o ≡ Some x
or_fault_ok (Some y) kind x e = cc
or_fault_ok None kind x e = absurd cc
