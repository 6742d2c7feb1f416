-- Loops over the rows of a table.
use Rattle.std.proofs.Common.{◌≡◌, ◌∙◌, ◌+◌, ◌<◌, ◌||◌, ℕ, Bool, List, [], ◌∷◌, refl, ap, fold, get_or, length, map, sym, take}
use Rattle.std.specs.List.{list_any}
use Rattle.std.proofs.lemmas.List.Folds.{fold-map}
use Rattle.std.proofs.lemmas.List.Sums.{fold_more}

module _ {A B C : Type 0} where
  -- one row more
  pub fold-map_more : (f : B → A → B) (h : C → A) (a : B) (xs : List C) (i : ℕ) (d : C) → i < length xs
      → fold f a (map h (take (i + 1) xs)) ≡ f (fold f a (map h (take i xs))) (h (get_or xs i d))
  fold-map_more f h a xs i d below =
      fold-map f h a (take (i + 1) xs) ∙ fold_more (λ (b : B) (x : C). f b (h x)) a xs i d below ∙ ap (λ (b : B). f b (h (get_or xs i d))) (sym (fold-map f h a (take i xs)))

-- whether a row is so that is made of one of these
pub list_any-map : {A C : Type 0} (p : A → Bool) (h : C → A) (xs : List C) → list_any p (map h xs) ≡ list_any (λ (x : C). p (h x)) xs
list_any-map p h [] = refl
list_any-map p h (x ∷ xs) = ap (λ (b : Bool). p (h x) || b) (list_any-map p h xs)
