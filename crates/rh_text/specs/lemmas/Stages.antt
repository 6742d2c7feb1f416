-- A reader whose steps follow a chain of stages finds the fault that comes first.
use Rattle.std.proofs.Common.{◌≡◌, ℕ, zero, suc, ◌+◌, ◌<◌, ◌≤◌, ◌⊎◌, Bool, true, false, cond, List, [], ◌∷◌, Option, Some, None, Result, Ok, Err, refl, sym, ap, subst, arith, inl, inr}
use Rattle.std.specs.Bool.{Decides}
use Rattle.std.proofs.lemmas.Bool.{false≢true}
use Rattle.rh_text.specs.RawLine.{RawLine}
use Rattle.rh_text.specs.Steps.{◌>>=◌, or_fault, with_fault}
use Rattle.rh_text.specs.Stages.{◌when◌, no_fault, ◌▸◌, in_lines, IsLeast, IsFirst}
use Rattle.rh_text.specs.lemmas.Steps.{ok_err, err_ok, err_is}

-- what was read is judged right by the faults of a line: where it is read none holds, and the kind that is found comes first
pub record Judges {K A : Type 0} (faults : ℕ → K → Type 0) (r : Result A K) : Type 0 where
  pub none : (x : A) → r ≡ Ok x → (p : ℕ) (k : K) → faults p k → ⊥
  pub least : (kind : K) → r ≡ Err kind → IsLeast faults kind

-- nothing more is looked at
pub judges-end : {K A : Type 0} (x : A) → Judges {K = K} no_fault (Ok x)
judges-end {K = K} {A = A} x = record { none = λ y e p k h. h; least = λ kind e. absurd (ok_err {A = A} {K = K} x kind e) }

stands_first : {K : Type 0} (kind : K) (P : Type 0) (others : ℕ → K → Type 0) (p : ℕ) (k : K) → (kind when P ▸ others) p k → (0 < p) ⊎ ((p ≡ 0) × (k ≡ kind))
stands_first kind P others zero k h = inr (refl, h.0)
stands_first kind P others (suc p) k h = inl (omega arith)

-- the first stage holds, and it is what is found
pub judges-here : {K A : Type 0} (kind : K) (P : Type 0) (others : ℕ → K → Type 0) → P → Judges {A = A} (kind when P ▸ others) (Err kind)
judges-here {K = K} {A = A} kind P others holds = record {
  none = λ x e p k h. err_ok {A = A} {K = K} x kind e;
  least = λ found e. subst (IsLeast (kind when P ▸ others)) (err_is {A = A} kind found e) (record { stage = 0; holds = (refl, holds); least = stands_first kind P others });
}

none_later : {K : Type 0} (kind : K) (P : Type 0) (others : ℕ → K → Type 0) → (P → ⊥) → ((p : ℕ) (k : K) → others p k → ⊥) → (p : ℕ) (k : K) → (kind when P ▸ others) p k → ⊥
none_later kind P others fails none zero k h = fails h.1
none_later kind P others fails none (suc p) k h = none p k h

stands_later : {K : Type 0} (kind : K) (P : Type 0) (others : ℕ → K → Type 0) (found : K) → (P → ⊥) → (l : IsLeast others found) → (p : ℕ) (k : K) → (kind when P ▸ others) p k → (suc l.stage < p) ⊎ ((p ≡ suc l.stage) × (k ≡ found))
stands_later kind P others found fails l zero k h = absurd (fails h.1)
stands_later kind P others found fails l (suc p) k h = elim (l.least p k h) [ inl lt ↦ inl (omega (arith, lt)) | inr same ↦ inr (ap suc same.0, same.1) ]

-- the first stage doesn't hold, and the others decide
pub judges-later : {K A : Type 0} (kind : K) (P : Type 0) (others : ℕ → K → Type 0) (r : Result A K) → (P → ⊥) → Judges others r → Judges (kind when P ▸ others) r
judges-later kind P others r fails judged = record {
  none = λ x e. none_later kind P others fails (judged.none x e);
  least = λ found e. let l = judged.least found e in record { stage = suc l.stage; holds = l.holds; least = stands_later kind P others found fails l };
}

-- a test that decides the stage, and then the other steps
pub judges-test : {K A B : Type 0} (t : Bool) (kind : K) (P : Type 0) (others : ℕ → K → Type 0) (r : Result A K) (f : A → Result B K) → Decides t P → ((P → ⊥) → Judges others (r >>= f)) → Judges (kind when P ▸ others) (cond t (Err kind) r >>= f)
judges-test true kind P others r f decides next = judges-here kind P others (decides.0 refl)
judges-test false kind P others r f decides next =
    let fails : P → ⊥ = λ h. false≢true (decides.1 h) in
    judges-later kind P others (r >>= f) fails (next fails)

-- what is looked for is found exactly where the stage doesn't hold, and then the other steps
pub judges-found : {K A B : Type 0} (o : Option A) (kind : K) (P : Type 0) (others : ℕ → K → Type 0) (f : A → Result B K) → (o ≡ None → P) → ((x : A) → o ≡ Some x → P → ⊥) → ((x : A) → o ≡ Some x → Judges others (f x)) → Judges (kind when P ▸ others) (or_fault o kind >>= f)
judges-found None kind P others f lacks fails next = judges-here kind P others (lacks refl)
judges-found (Some x) kind P others f lacks fails next = judges-later kind P others (f x) (fails x refl) (next x refl)

map_ok : {A B F : Type 0} (r : Result A F) (g : A → B) (y : B) → (r >>= λ x. Ok (g x)) ≡ Ok y → (x : A) × (r ≡ Ok x)
map_ok (Ok x) g y e = (x, refl)
map_ok {B = B} {F = F} (Err f) g y e = absurd (err_ok {A = B} {K = F} y f e)

map_err : {A B F : Type 0} (r : Result A F) (g : A → B) (f : F) → (r >>= λ x. Ok (g x)) ≡ Err f → r ≡ Err f
map_err {B = B} {F = F} (Ok x) g f e = absurd (ok_err {A = B} {K = F} (g x) f e)
map_err {A = A} {B = B} {F = F} (Err h) g f e = let fail : F → Result A F = λ j. Err j in ap fail (err_is {A = B} h f e)

-- what is made of a line
pub judges-step : {K A B : Type 0} {faults : ℕ → K → Type 0} (r : Result A K) (g : A → B) → Judges faults r → Judges faults (r >>= λ x. Ok (g x))
judges-step r g judged = record {
  none = λ y e. let m = map_ok r g y e in judged.none m.0 m.1;
  least = λ kind e. judged.least kind (map_err r g kind e);
}

-- ---- lines

-- what was read of lines is judged right by their faults: where it is read none holds, and the fault that is found comes first
pub record JudgesLines {K A F : Type 0} (line : F → ℕ) (kind : F → K) (faults : ℕ → ℕ → K → Type 0) (r : Result A F) : Type 0 where
  pub none : (x : A) → r ≡ Ok x → (n p : ℕ) (k : K) → faults n p k → ⊥
  pub first : (f : F) → r ≡ Err f → IsFirst faults (line f) (kind f)

-- a fault of lines is on one of them
pub in_lines-from : {K : Type 0} (faults : ℕ → RawLine → ℕ → K → Type 0) (number : ℕ) (lines : List RawLine) (n p : ℕ) (k : K) → in_lines faults number lines n p k → number ≤ n
in_lines-from faults number [] n p k h = absurd h
in_lines-from faults number (l ∷ ls) n p k h = elim h [ inl this ↦ omega (arith, this.0) | inr other ↦ omega (arith, in_lines-from faults (number + 1) ls n p k other) ]

-- the faults of a line, and those of others
abbrev pub this_or : {K : Type 0} → ℕ → (ℕ → K → Type 0) → (ℕ → ℕ → K → Type 0) → ℕ → ℕ → K → Type 0
this_or number this others n p k = ((n ≡ number) × this p k) ⊎ others n p k

first_of_line : {K : Type 0} (number : ℕ) (this : ℕ → K → Type 0) (others : ℕ → ℕ → K → Type 0) (kind : K) → ((n p : ℕ) (k : K) → others n p k → number < n) → IsLeast this kind → IsFirst (this_or number this others) number kind
first_of_line number this others kind after l = record {
  stage = l.stage;
  holds = inl (refl, l.holds);
  first = λ n p k h. elim h [
    | inl here ↦ inr (here.0, l.least p k here.1)
    | inr other ↦ inl (after n p k other)
  ];
}

first_of_others : {K : Type 0} (number : ℕ) (this : ℕ → K → Type 0) (others : ℕ → ℕ → K → Type 0) (line : ℕ) (kind : K) → ((p : ℕ) (k : K) → this p k → ⊥) → IsFirst others line kind → IsFirst (this_or number this others) line kind
first_of_others number this others line kind none i = record {
  stage = i.stage;
  holds = inr i.holds;
  first = λ n p k h. elim h [
    | inl here ↦ absurd (none p k here.1)
    | inr other ↦ i.first n p k other
  ];
}

-- a line, and then the others
pub judges-line : {K A B F : Type 0} (line : F → ℕ) (kind : F → K) (fault : K → F) (number : ℕ) (this : ℕ → K → Type 0) (others : ℕ → ℕ → K → Type 0) (r : Result A K) (f : A → Result B F)
    → ((k : K) → line (fault k) ≡ number) → ((k : K) → kind (fault k) ≡ k) → ((n p : ℕ) (k : K) → others n p k → number < n)
    → Judges this r → ((x : A) → r ≡ Ok x → JudgesLines line kind others (f x)) → JudgesLines line kind (this_or number this others) (with_fault fault r >>= f)
judges-line {K = K} {A = A} line kind fault number this others (Ok x) f at is after judged next =
    let rest = next x refl in
    let none = judged.none x refl in
    record {
      none = λ y e n p k h. elim h [
        | inl here ↦ none p k here.1
        | inr other ↦ rest.none y e n p k other
      ];
      first = λ g e. first_of_others number this others (line g) (kind g) none (rest.first g e);
    }
judges-line {K = K} {A = A} {B = B} {F = F} line kind fault number this others (Err k) f at is after judged next = record {
  none = λ y e n p j h. err_ok {A = B} {K = F} y (fault k) e;
  first = λ g e.
      let same : fault k ≡ g = err_is {A = B} (fault k) g e in
      subst (λ (h : F). IsFirst (this_or number this others) (line h) (kind h)) same
      (subst (λ (n : ℕ). IsFirst (this_or number this others) n (kind (fault k))) (sym (at k))
      (subst (IsFirst (this_or number this others) number) (sym (is k)) (first_of_line number this others k after (judged.least k refl))));
}

-- no line
pub judges-no_lines : {K A F : Type 0} (line : F → ℕ) (kind : F → K) (faults : ℕ → RawLine → ℕ → K → Type 0) (number : ℕ) (x : A) → JudgesLines line kind (in_lines faults number []) (Ok x)
judges-no_lines {A = A} {F = F} line kind faults number x = record { none = λ y e n p k h. h; first = λ g e. absurd (ok_err {A = A} {K = F} x g e) }

-- what is made of the lines
pub judges-made : {K A B F : Type 0} (line : F → ℕ) (kind : F → K) (faults : ℕ → ℕ → K → Type 0) (r : Result A F) (g : A → B) → JudgesLines line kind faults r → JudgesLines line kind faults (r >>= λ x. Ok (g x))
judges-made line kind faults r g judged = record {
  none = λ y e. let m = map_ok r g y e in judged.none m.0 m.1;
  first = λ f e. judged.first f (map_err r g f e);
}
