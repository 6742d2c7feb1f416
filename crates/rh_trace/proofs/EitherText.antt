-- What is written to one of two.
use Rattle.std.proofs.Common.{◌≡◌, ℕ, List, [], ◌∷◌, Option, Result, Ok, Err, refl, ◌⊎◌, inl, inr, arith}
use Rattle.std.specs.Io.KnownBytes.{Appends}
use Rattle.rh_text.specs.Output.{AppendsLess, AppendsPrefix}
use Rattle.rh_text.specs.lemmas.Appends.{Appends-none}
use Rattle.rh_trace.specs.Either.{by_either}
use Rattle.rh_trace.specs.Lines.{Shows}
use Rattle.rh_trace.proofs.LinesInTurn.{whole_prefix}

-- nothing was written, which is a prefix of each text
pub prefix_none : (a : Option (List ℕ)) (text : List ℕ) → AppendsPrefix a a text
prefix_none a text = ([], text, refl, Appends-none a)

-- and less than each, but for the empty one
pub less_or_empty : (a : Option (List ℕ)) (text : List ℕ) → (text ≡ []) ⊎ AppendsLess a a text
less_or_empty a [] = inl refl
less_or_empty a (x ∷ xs) = inr ([], x ∷ xs, refl, omega arith, Appends-none a)

module _ {L M : Type 0} (f : L → List ℕ) (g : M → List ℕ) where
  -- the first was stopped, and nothing was written to the second
  pub first_stopped : (a b : L → Option (List ℕ)) (c : M → Option (List ℕ)) → ((l : L) → AppendsPrefix (a l) (b l) (f l)) → (w : L ⊎ M) → AppendsPrefix (by_either a c w) (by_either b c w) (by_either f g w)
  first_stopped a b c cut (inl l) = cut l
  first_stopped a b c cut (inr m) = prefix_none (c m) (g m)

  -- the second was stopped, and nothing was written to the first
  pub second_stopped : (a : L → Option (List ℕ)) (c d : M → Option (List ℕ)) → ((m : M) → AppendsPrefix (c m) (d m) (g m)) → (w : L ⊎ M) → AppendsPrefix (by_either a c w) (by_either a d w) (by_either f g w)
  second_stopped a c d cut (inl l) = prefix_none (a l) (f l)
  second_stopped a c d cut (inr m) = cut m

  -- all was written to the first, and then to the second, as it ended
  pub second_shown : (X E : Type 0) (r : Result X E) (a b : L → Option (List ℕ)) (c d : M → Option (List ℕ)) → ((l : L) → Appends (a l) (b l) (f l)) → ((m : M) → Shows (g m) r (c m) (d m)) → (w : L ⊎ M) → Shows (by_either f g w) r (by_either a c w) (by_either b d w)
  second_shown X E (Ok x) a b c d whole ends (inl l) = whole l
  second_shown X E (Ok x) a b c d whole ends (inr m) = ends m
  second_shown X E (Err e) a b c d whole ends (inl l) = whole_prefix (a l) (b l) (f l) (whole l)
  second_shown X E (Err e) a b c d whole ends (inr m) = ends m

  -- all was written to the second, and then to the first, as it ended
  pub first_shown : (X E : Type 0) (r : Result X E) (a b : L → Option (List ℕ)) (c d : M → Option (List ℕ)) → ((m : M) → Appends (c m) (d m) (g m)) → ((l : L) → Shows (f l) r (a l) (b l)) → (w : L ⊎ M) → Shows (by_either f g w) r (by_either a c w) (by_either b d w)
  first_shown X E (Ok x) a b c d whole ends (inl l) = ends l
  first_shown X E (Ok x) a b c d whole ends (inr m) = whole m
  first_shown X E (Err e) a b c d whole ends (inl l) = ends l
  first_shown X E (Err e) a b c d whole ends (inr m) = whole_prefix (c m) (d m) (g m) (whole m)
