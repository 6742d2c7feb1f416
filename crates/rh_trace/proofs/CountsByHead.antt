-- A count, taken from the head of the list.
use Rattle.std.proofs.Common.{◌≡◌, ℕ, ◌+◌, Bool, true, false, cond, List, [], ◌∷◌, refl, sym, ap, ◌∙◌, arith}
use Rattle.std.specs.Prelude.{count_by}
use Rattle.std.proofs.lemmas.List.Recursion.{is_count_by}

module _ {X : Type 0} (p : X → Bool) where
  -- how many are so, counted from the head
  abbrev so_in : List X → ℕ
  so_in [] = 0
  so_in (x ∷ xs) = cond (p x) (1 + so_in xs) (so_in xs)

  one_more : (b : Bool) (n : ℕ) → cond b (1 + n) n ≡ cond b 1 0 + n
  one_more true n = refl
  one_more false n = omega arith

  count_by-so : (xs : List X) → so_in xs ≡ count_by p xs
  count_by-so xs = is_count_by so_in p refl (λ y ys. refl) xs

  -- what is counted is that of the head and that of the others
  pub count_by-head : (x : X) (xs : List X) → count_by p (x ∷ xs) ≡ cond (p x) 1 0 + count_by p xs
  count_by-head x xs = sym (count_by-so (x ∷ xs)) ∙ one_more (p x) (so_in xs) ∙ ap (λ n. cond (p x) 1 0 + n) (count_by-so xs)
