-- The columns of a part, counted from the line's beginning, part by part.
use Rattle.std.proofs.Common.{◌≡◌, ℕ, suc, ◌+◌, ◌<◌, ◌≤◌, List, [], ◌∷◌, ◌++◌, length, take, drop, get_or, Some, None, refl, sym, ap, ◌∙◌, arith, append_assoc}
use Rattle.std.proofs.lemmas.List.{take-append-drop, take_at, take_all, length-append, length-take-le}
use Rattle.rh_text.specs.Parts.{parts_of, cut_at}
use Rattle.rh_text.specs.lemmas.Cuts.{parts_of-cut, cut_means, parts_from}
use Rattle.rh_explain.specs.Explain.{IsPartAt, spaced}

take_past : (first rest : List ℕ) (n m : ℕ) → n ≤ length rest → m ≡ length first + 1 + n → take m (first ++ 32 ∷ rest) ≡ first ++ 32 ∷ take n rest
take_past first rest n m le e =
    ap (λ (t : List ℕ). take m (first ++ 32 ∷ t)) (sym (take-append-drop n rest))
    ∙ ap (take m) (sym (append_assoc first (32 ∷ take n rest) (drop n rest)))
    ∙ take_at (first ++ 32 ∷ take n rest) (drop n rest) m (omega (arith, length-append first (32 ∷ take n rest), length-take-le n rest le, e))

module _ (line first rest : List ℕ) (cut : Some (first, rest) ≡ cut_at 32 line) where
  line_is : line ≡ first ++ 32 ∷ rest
  line_is = cut_means 32 line first rest (sym cut)

  parts_are : parts_of line ≡ first ∷ parts_of rest
  parts_are = parts_of-cut line ∙ ap (λ o. parts_from o line) (sym cut)

  pub length_is : length line ≡ length first + 1 + length rest
  length_is = ap length line_is ∙ omega (arith, length-append first (32 ∷ rest))

  pub first_at : IsPartAt line 0 0 (length first)
  first_at = record {
    before = λ lt. refl;
    part = λ lt. ap (take (length first)) line_is ∙ take_at first (32 ∷ rest) (length first) refl ∙ ap (λ (ps : List (List ℕ)). get_or ps 0 []) (sym parts_are);
    missing = λ le. absurd (omega (arith, le, ap length parts_are));
  }

  pub later_at : (index begins ends start : ℕ) → start ≡ length first + 1 → begins ≤ length rest → ends ≤ length rest → IsPartAt rest index begins ends → IsPartAt line (suc index) (start + begins) (start + ends)
  later_at index begins ends start is low high at = record {
    before = λ lt.
        let less : index < length (parts_of rest) = omega (arith, lt, ap length parts_are) in
        ap (take (start + begins)) line_is ∙ take_past first rest begins (start + begins) low (omega (arith, is))
        ∙ ap (λ (t : List ℕ). first ++ 32 ∷ t) (at.before less) ∙ sym (append_assoc first (32 ∷ []) (spaced (take index (parts_of rest))))
        ∙ ap (λ (ps : List (List ℕ)). spaced (take (suc index) ps)) (sym parts_are);
    part = λ lt.
        let less : index < length (parts_of rest) = omega (arith, lt, ap length parts_are) in
        ap (take (start + ends)) line_is ∙ take_past first rest ends (start + ends) high (omega (arith, is))
        ∙ ap (λ (t : List ℕ). first ++ 32 ∷ t) (at.part less)
        ∙ sym (append_assoc first (32 ∷ []) (spaced (take index (parts_of rest)) ++ get_or (parts_of rest) index []))
        ∙ sym (append_assoc (first ++ 32 ∷ []) (spaced (take index (parts_of rest))) (get_or (parts_of rest) index []))
        ∙ ap (λ (ps : List (List ℕ)). spaced (take (suc index) ps) ++ get_or ps (suc index) []) (sym parts_are);
    missing = λ le.
        let gone = at.missing (omega (arith, le, ap length parts_are)) in
        (omega (arith, gone.0, is, length_is), omega (arith, gone.1, is, length_is));
  }

module _ (line : List ℕ) (whole : None ≡ cut_at 32 line) where
  one_part_is : parts_of line ≡ line ∷ []
  one_part_is = parts_of-cut line ∙ ap (λ o. parts_from o line) (sym whole)

  pub only_at : IsPartAt line 0 0 (length line)
  only_at = record {
    before = λ lt. refl;
    part = λ lt. take_all (length line) line (omega arith) ∙ ap (λ (ps : List (List ℕ)). get_or ps 0 []) (sym one_part_is);
    missing = λ le. absurd (omega (arith, le, ap length one_part_is));
  }

  pub gone_at : (index : ℕ) → 0 < index → IsPartAt line index (length line) (length line)
  gone_at index more = record {
    before = λ lt. absurd (omega (arith, lt, more, ap length one_part_is));
    part = λ lt. absurd (omega (arith, lt, more, ap length one_part_is));
    missing = λ le. (refl, refl);
  }
