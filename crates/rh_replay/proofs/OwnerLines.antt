-- The lines of the owners of a report, one after the other.
use Rattle.std.proofs.Common.{◌≡◌, ℕ, zero, suc, ◌+◌, ◌<◌, ◌≤◌, List, [], ◌++◌, Option, sym, ap, subst, ◌∙◌, arith, inl, inr, append_assoc, add-one}
use Rattle.std.specs.Io.KnownBytes.{Appends}
use Rattle.std.proofs.lemmas.Bool.{cases_lt}
use Rattle.std.proofs.lemmas.List.{append-nil}
use Rattle.rh_text.specs.Output.{AppendsLess}
use Rattle.rh_text.specs.lemmas.Appends.{Appends-then, Appends-at, Appends-less, less-more}
use Rattle.rh_replay.specs.declared.call.Call.{Call}
use Rattle.rh_replay.specs.Report.{count_of, owner_line, owner_lines}

-- the lines of some owners come before those of further ones
pub lines_of_more : (calls : List Call) (k n : ℕ) → k ≤ n → (rest : List ℕ) × (owner_lines calls n ≡ owner_lines calls k ++ rest)
lines_of_more calls k zero le =
    let same : k ≡ 0 = omega arith in
    ([], sym (append-nil (owner_lines calls zero)) ∙ ap (λ (i : ℕ). owner_lines calls i ++ []) (sym same))
lines_of_more calls k (suc n) le = elim (cases_lt n k) [
  | inl lt ↦
      let same : k ≡ suc n = omega arith in
      ([], sym (append-nil (owner_lines calls (suc n))) ∙ ap (λ (i : ℕ). owner_lines calls i ++ []) (sym same))
  | inr small ↦
      let others = lines_of_more calls k n small in (
        others.0 ++ owner_line n (count_of calls n),
        ap (λ (t : List ℕ). t ++ owner_line n (count_of calls n)) others.1 ∙ append_assoc (owner_lines calls k) others.0 (owner_line n (count_of calls n)),
      )
]

module _ (a b c : Option (List ℕ)) (calls : List Call) (owner : ℕ) (sent : List ℕ) (is : sent ≡ owner_line owner (count_of calls owner)) (so_far : Appends a b (owner_lines calls owner)) where
  pub owner_sent : Appends b c sent → Appends a c (owner_lines calls (owner + 1))
  owner_sent more =
      let text : owner_lines calls owner ++ sent ≡ owner_lines calls (owner + 1) = ap (λ (t : List ℕ). owner_lines calls owner ++ t) is ∙ ap (owner_lines calls) (sym (add-one owner)) in
      Appends-at a c (owner_lines calls owner ++ sent) (owner_lines calls (owner + 1)) text (Appends-then a b c (owner_lines calls owner) sent so_far more)

  pub owner_less : (owners : ℕ) (last : List ℕ) → owner < owners → AppendsLess b c sent → AppendsLess a c (owner_lines calls owners ++ last)
  owner_less owners last lt less =
      let others = lines_of_more calls (owner + 1) owners (omega arith) in
      let this : owner_lines calls owner ++ sent ≡ owner_lines calls (owner + 1) = ap (λ (t : List ℕ). owner_lines calls owner ++ t) is ∙ ap (owner_lines calls) (sym (add-one owner)) in
      let text : (owner_lines calls owner ++ sent) ++ others.0 ≡ owner_lines calls owners = ap (λ (t : List ℕ). t ++ others.0) this ∙ sym others.1 in
      less-more a c (owner_lines calls owners) last (subst (AppendsLess a c) text (less-more a c (owner_lines calls owner ++ sent) others.0 (Appends-less a b c (owner_lines calls owner) sent so_far less)))
