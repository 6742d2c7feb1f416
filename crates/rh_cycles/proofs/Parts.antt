-- A first part of a text was put.
use Rattle.std.proofs.Common.{◌≡◌, ℕ, List, ◌++◌, length, take, Result, Ok, Err, refl, sym, ap, ◌∙◌}
use Rattle.std.specs.Prelude.{OnErr}
use Rattle.std.proofs.lemmas.List.{take_at}

-- where what was put is a first part of a whole, the text has as many bytes of the whole
pub part_of : (old put rest whole text : List ℕ) → text ≡ old ++ put → whole ≡ put ++ rest → (n : ℕ) × (text ≡ old ++ take n whole)
part_of old put rest whole text is all = (length put, is ∙ ap (λ (t : List ℕ). old ++ t) (sym (ap (λ (t : List ℕ). take (length put) t) all ∙ take_at put rest (length put) refl)))

-- what holds anyhow holds where a call fails
pub on_err : {T E P : Type 0} (r : Result T E) → P → OnErr r P
on_err (Ok x) p = tt
on_err (Err e) p = p
