-- Three parts and six parts by the first three of them.
use Rattle.std.proofs.Common.{◌≡◌, ℕ, Option, Some, None, List, [], ◌∷◌, refl, sym, ◌∙◌, ap}
use Rattle.rh_text.specs.Parts.{◌>>=◌, first_three, end_of, three_parts, six_parts}

abbrev Parts : Type 0
Parts = List (List ℕ)

abbrev Three : Type 0
Three = List ℕ × List ℕ × List ℕ × Parts

abbrev six_with : Three → List ℕ × List ℕ × List ℕ → Option (List ℕ × List ℕ × List ℕ × List ℕ × List ℕ × List ℕ)
six_with x y = Some (x.0, x.1, x.2, y.0, y.1, y.2)

three_by : (parts : Parts) → three_parts parts ≡ first_three parts >>= (λ x. end_of x.3 >>= (λ end. Some (x.0, x.1, x.2)))
unfolding three_parts
three_by [] = refl
three_by (a ∷ []) = refl
three_by (a ∷ b ∷ []) = refl
three_by (a ∷ b ∷ c ∷ parts) = refl

six_by : (parts : Parts) → six_parts parts ≡ first_three parts >>= (λ x. three_parts x.3 >>= six_with x)
unfolding three_parts six_parts
six_by [] = refl
six_by (a ∷ []) = refl
six_by (a ∷ b ∷ []) = refl
six_by (a ∷ b ∷ c ∷ []) = refl
six_by (a ∷ b ∷ c ∷ d ∷ []) = refl
six_by (a ∷ b ∷ c ∷ d ∷ e ∷ []) = refl
six_by (a ∷ b ∷ c ∷ d ∷ e ∷ f ∷ []) = refl
six_by (a ∷ b ∷ c ∷ d ∷ e ∷ f ∷ g ∷ parts) = refl

pub three-too_few : (parts : Parts) → None ≡ first_three parts → None ≡ three_parts parts
three-too_few parts first = ap (λ o. o >>= (λ x. end_of x.3 >>= (λ end. Some (x.0, x.1, x.2)))) first ∙ sym (three_by parts)

pub three-then : (parts : Parts) (a b c : List ℕ) (rest : Parts) (end : Option (Unit {0})) → Some (a, b, c, rest) ≡ first_three parts → end ≡ end_of rest
    → end >>= (λ done. Some (a, b, c)) ≡ three_parts parts
three-then parts a b c rest end first last =
    ap (λ o. o >>= (λ done. Some (a, b, c))) last
    ∙ ap (λ o. o >>= (λ x. end_of x.3 >>= (λ done. Some (x.0, x.1, x.2)))) first ∙ sym (three_by parts)

pub six-too_few : (parts : Parts) → None ≡ first_three parts → None ≡ six_parts parts
six-too_few parts first = ap (λ o. o >>= (λ x. three_parts x.3 >>= six_with x)) first ∙ sym (six_by parts)

pub six-then : (parts : Parts) (a b c : List ℕ) (rest : Parts) (next : Option (List ℕ × List ℕ × List ℕ))
    → Some (a, b, c, rest) ≡ first_three parts → next ≡ three_parts rest
    → next >>= six_with (a, b, c, rest) ≡ six_parts parts
six-then parts a b c rest next first second =
    ap (λ o. o >>= six_with (a, b, c, rest)) second
    ∙ ap (λ o. o >>= (λ x. three_parts x.3 >>= six_with x)) first ∙ sym (six_by parts)
