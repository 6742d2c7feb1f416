-- A line is found to be formed exactly where it is well formed; its end, and how many parts it has.
use Rattle.std.proofs.Common.{◌≡◌, ℕ, Bool, true, false, cond, not, leb, List, [], ◌∷◌, ◌++◌, Some, refl, sym, ap}
use Rattle.std.specs.Bool.{Decides}
use Rattle.std.specs.List.{AllByRecursion, list_all}
use Rattle.std.proofs.lemmas.Bool.{false≢true, and_parts, and_from, leb-true, le-leb}
use Rattle.rh_text.specs.Parts.{parts_of, is_formed, is_printable, is_filled, IsPrintable, IsFormedLine, one_part, two_parts, three_parts}
use Rattle.rh_text.specs.lemmas.Cuts.{some_is}

all_Decides : {A : Type 0} (test : A → Bool) (P : A → Type 0) → ((x : A) → Decides (test x) (P x)) → (xs : List A) → Decides (list_all test xs) (AllByRecursion P xs)
all_Decides test P each [] = (λ e. tt, λ h. refl)
all_Decides test P each (x ∷ xs) =
    let others = all_Decides test P each xs in (
      λ e. let p = and_parts (test x) (list_all test xs) e in ((each x).0 p.0, others.0 p.1),
      λ h. and_from (test x) (list_all test xs) ((each x).1 h.0) (others.1 h.1),
    )

cons_nil : {A : Type 0} (x : A) (xs : List A) → ◌≡◌ {A = List A} (x ∷ xs) [] → ⊥
cons_nil x xs e = cc

is_filled-Decides : (part : List ℕ) → Decides (is_filled part) (¬ (part ≡ []))
is_filled-Decides [] = (λ e. absurd (false≢true e), λ h. absurd (h refl))
is_filled-Decides (b ∷ bs) = (λ e f. cons_nil b bs f, λ h. refl)

is_printable-Decides : (b : ℕ) → Decides (is_printable b) (IsPrintable b)
is_printable-Decides b = (
  λ e. let p = and_parts (leb 32 b) (leb b 126) e in (leb-true 32 b p.0, leb-true b 126 p.1),
  λ h. and_from (leb 32 b) (leb b 126) (le-leb 32 b h.0) (le-leb b 126 h.1),
)

pub is_formed-Decides : (line : List ℕ) → Decides (is_formed line) (IsFormedLine line)
unfolding is_formed
is_formed-Decides line =
    let bytes = all_Decides is_printable IsPrintable is_printable-Decides line in
    let filled = all_Decides is_filled (λ part. ¬ (part ≡ [])) is_filled-Decides (parts_of line) in (
      λ e. let p = and_parts (list_all is_printable line) (list_all is_filled (parts_of line)) e in (bytes.0 p.0, filled.0 p.1),
      λ h. and_from (list_all is_printable line) (list_all is_filled (parts_of line)) (bytes.1 h.0) (filled.1 h.1),
    )

pub not_ended : (ended : Bool) → Decides (not ended) (ended ≡ false)
not_ended true = (λ e. absurd (false≢true e), λ e. absurd (false≢true (sym e)))
not_ended false = (λ e. refl, λ e. refl)

pub ended_text : (ended : Bool) (bytes parts : List ℕ) → ended ≡ true → bytes ≡ parts → cond ended (bytes ++ 10 ∷ []) bytes ≡ parts ++ 10 ∷ []
ended_text true bytes parts is e = ap (λ (t : List ℕ). t ++ 10 ∷ []) e
ended_text false bytes parts is e = absurd (cc)

-- so many parts
pub one_part-means : (args : List (List ℕ)) (x : List ℕ) → one_part args ≡ Some x → args ≡ x ∷ []
unfolding one_part
one_part-means [] x e = absurd cc
one_part-means (a ∷ []) x e = ap (λ (y : List ℕ). y ∷ []) (some_is a x e)
one_part-means (a ∷ b ∷ args) x e = absurd cc

pub two_parts-means : (args : List (List ℕ)) (x : List ℕ × List ℕ) → two_parts args ≡ Some x → args ≡ x.0 ∷ x.1 ∷ []
unfolding two_parts
two_parts-means [] x e = absurd cc
two_parts-means (a ∷ []) x e = absurd cc
two_parts-means (a ∷ b ∷ []) x e = ap (λ (y : List ℕ × List ℕ). y.0 ∷ y.1 ∷ []) (some_is (a, b) x e)
two_parts-means (a ∷ b ∷ c ∷ args) x e = absurd cc

pub three_parts-means : (args : List (List ℕ)) (x : List ℕ × List ℕ × List ℕ) → three_parts args ≡ Some x → args ≡ x.0 ∷ x.1 ∷ x.2 ∷ []
unfolding three_parts
three_parts-means [] x e = absurd cc
three_parts-means (a ∷ []) x e = absurd cc
three_parts-means (a ∷ b ∷ []) x e = absurd cc
three_parts-means (a ∷ b ∷ c ∷ []) x e = ap (λ (y : List ℕ × List ℕ × List ℕ). y.0 ∷ y.1 ∷ y.2 ∷ []) (some_is (a, b, c) x e)
three_parts-means (a ∷ b ∷ c ∷ d ∷ args) x e = absurd cc
