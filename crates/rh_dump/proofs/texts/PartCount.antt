-- How many parts a line has, counted byte by byte.
use Rattle.std.proofs.Common.{◌≡◌, ℕ, suc, ◌+◌, ◌<◌, Bool, true, false, cond, eqb, List, [], ◌∷◌, length, get_or, drop, Option, Some, None, refl, sym, ap, ◌∙◌}
use Rattle.std.specs.List.{onto_first}
use Rattle.std.proofs.lemmas.Bool.{ne_eqb}
use Rattle.std.proofs.lemmas.List.{drop_more}
use Rattle.rh_text.specs.Parts.{parts_of, cut_at}
use Rattle.rh_text.specs.lemmas.Cuts.{parts_of-cut, parts_from}

length-onto_first : (b : ℕ) (cut : Option (List ℕ × List ℕ)) (bs : List ℕ) → length (onto_first b (parts_from cut bs)) ≡ length (parts_from cut bs)
length-onto_first b None bs = refl
length-onto_first b (Some cut) bs = refl

onto_parts : (b : ℕ) (bs : List ℕ) → length (onto_first b (parts_of bs)) ≡ length (parts_of bs)
onto_parts b bs = ap (λ (ps : List (List ℕ)). length (onto_first b ps)) (parts_of-cut bs) ∙ length-onto_first b (cut_at 32 bs) bs ∙ ap length (sym (parts_of-cut bs))

by_other : (b : ℕ) (bs : List ℕ) (ends : Bool) → ends ≡ false → length (cond ends ([] ∷ parts_of bs) (onto_first b (parts_of bs))) ≡ length (parts_of bs)
by_other b bs true is = absurd cc
by_other b bs false is = onto_parts b bs

-- a space begins one part more
pub after_space : (line : List ℕ) (i d : ℕ) → i < length line → get_or line i d ≡ 32 → length (parts_of (drop i line)) ≡ suc (length (parts_of (drop (i + 1) line)))
after_space line i d lt is =
    ap (λ (t : List ℕ). length (parts_of t)) (drop_more line i d lt) ∙ ap (λ (b : ℕ). length (parts_of (b ∷ drop (i + 1) line))) is

-- another byte goes on with a part
pub after_other : (line : List ℕ) (i d : ℕ) → i < length line → (get_or line i d ≡ 32 → ⊥) → length (parts_of (drop i line)) ≡ length (parts_of (drop (i + 1) line))
after_other line i d lt isnt =
    ap (λ (t : List ℕ). length (parts_of t)) (drop_more line i d lt) ∙ by_other (get_or line i d) (drop (i + 1) line) (eqb (get_or line i d) 32) (ne_eqb (get_or line i d) 32 isnt)
