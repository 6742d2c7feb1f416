-- A text that is cut at a byte: what that says of its lines and of its parts.
use Rattle.std.proofs.Common.{◌≡◌, ℕ, ◌<◌, Bool, true, false, cond, eqb, List, [], ◌∷◌, ◌++◌, length, Option, Some, None, refl, sym, ap, ◌∙◌, arith}
use Rattle.std.specs.Option.{option_map}
use Rattle.std.specs.Borrow.{Bor}
use Rattle.std.proofs.lemmas.Bool.{eqb-true}
use Rattle.std.proofs.lemmas.List.{length-append}
use Rattle.std.specs.List.{onto_first}
use Rattle.rh_text.specs.RawLine.{RawLine, lines_of, onto_line}
use Rattle.rh_text.specs.Parts.{cut_at, parts_of, parts_left, first_and_rest, end_of}

-- a cut of what stands after a prefix, as a cut of the whole
abbrev pub after_prefix : List ℕ → Option (List ℕ × List ℕ) → Option (List ℕ × List ℕ)
after_prefix prefix cut = option_map (λ cut. (prefix ++ cut.0, cut.1)) cut

-- a cut, with one byte more before it
abbrev onto_cut : ℕ → Option (List ℕ × List ℕ) → Option (List ℕ × List ℕ)
onto_cut b cut = option_map (λ cut. (b ∷ cut.0, cut.1)) cut

-- the lines of a text, by its first line end
abbrev pub lines_from : Option (List ℕ × List ℕ) → List ℕ → List RawLine
lines_from None bs = record { bytes = bs; ended = false } ∷ []
lines_from (Some cut) bs = record { bytes = cut.0; ended = true } ∷ lines_of cut.1

onto_line-lines_from : (b : ℕ) (cut : Option (List ℕ × List ℕ)) (bs : List ℕ) → onto_line b (lines_from cut bs) ≡ lines_from (onto_cut b cut) (b ∷ bs)
onto_line-lines_from b None bs = refl
onto_line-lines_from b (Some cut) bs = refl

lines_step : (b : ℕ) (bs : List ℕ) (ends : Bool) → onto_line b (lines_of bs) ≡ lines_from (onto_cut b (cut_at 10 bs)) (b ∷ bs)
    → cond ends (record { bytes = []; ended = true } ∷ lines_of bs) (onto_line b (lines_of bs)) ≡ lines_from (cond ends (Some ([], bs)) (onto_cut b (cut_at 10 bs))) (b ∷ bs)
lines_step b bs true h = refl
lines_step b bs false h = h

pub lines_of-cut : (b : ℕ) (bs : List ℕ) → lines_of (b ∷ bs) ≡ lines_from (cut_at 10 (b ∷ bs)) (b ∷ bs)
lines_of-cut b [] = lines_step b [] (eqb b 10) refl
lines_of-cut b (c ∷ cs) = lines_step b (c ∷ cs) (eqb b 10) (ap (onto_line b) (lines_of-cut c cs) ∙ onto_line-lines_from b (cut_at 10 (c ∷ cs)) (c ∷ cs))

-- the parts of a line, by its first space
abbrev pub parts_from : Option (List ℕ × List ℕ) → List ℕ → List (List ℕ)
parts_from None bs = bs ∷ []
parts_from (Some cut) bs = cut.0 ∷ parts_of cut.1

onto_first-parts_from : (b : ℕ) (cut : Option (List ℕ × List ℕ)) (bs : List ℕ) → onto_first b (parts_from cut bs) ≡ parts_from (onto_cut b cut) (b ∷ bs)
onto_first-parts_from b None bs = refl
onto_first-parts_from b (Some cut) bs = refl

parts_step : (b : ℕ) (bs : List ℕ) (ends : Bool) → onto_first b (parts_of bs) ≡ parts_from (onto_cut b (cut_at 32 bs)) (b ∷ bs)
    → cond ends ([] ∷ parts_of bs) (onto_first b (parts_of bs)) ≡ parts_from (cond ends (Some ([], bs)) (onto_cut b (cut_at 32 bs))) (b ∷ bs)
parts_step b bs true h = refl
parts_step b bs false h = h

pub parts_of-cut : (bs : List ℕ) → parts_of bs ≡ parts_from (cut_at 32 bs) bs
parts_of-cut [] = refl
parts_of-cut (b ∷ bs) = parts_step b bs (eqb b 32) (ap (onto_first b) (parts_of-cut bs) ∙ onto_first-parts_from b (cut_at 32 bs) bs)

pub lines_found : (bs line rest : List ℕ) → 0 < length bs → Some (line, rest) ≡ cut_at 10 bs → lines_of bs ≡ record { bytes = line; ended = true } ∷ lines_of rest
lines_found [] line rest lt e = absurd (omega arith)
lines_found (b ∷ bs) line rest lt e = lines_of-cut b bs ∙ ap (λ (o : Option (List ℕ × List ℕ)). lines_from o (b ∷ bs)) (sym e)

pub last_line : (bs : List ℕ) → 0 < length bs → None ≡ cut_at 10 bs → lines_of bs ≡ record { bytes = bs; ended = false } ∷ []
last_line [] lt e = absurd (omega arith)
last_line (b ∷ bs) lt e = lines_of-cut b bs ∙ ap (λ (o : Option (List ℕ × List ℕ)). lines_from o (b ∷ bs)) (sym e)

pub part_found : (left : Option (Bor (List ℕ))) (bytes : Bor (List ℕ)) (part rest : List ℕ) → left ≡ Some bytes → Some (part, rest) ≡ cut_at 32 bytes.now → ◌≡◌ {A = Option (List ℕ × List (List ℕ))} (Some (part, parts_of rest)) (first_and_rest (parts_left left))
part_found left bytes part rest is e =
    let parts : parts_of bytes.now ≡ part ∷ parts_of rest = parts_of-cut bytes.now ∙ ap (λ (o : Option (List ℕ × List ℕ)). parts_from o bytes.now) (sym e) in
    sym (ap (λ (l : Option (Bor (List ℕ))). first_and_rest (parts_left l)) is ∙ ap first_and_rest parts)

pub last_part : (left : Option (Bor (List ℕ))) (bytes : Bor (List ℕ)) → left ≡ Some bytes → None ≡ cut_at 32 bytes.now → ◌≡◌ {A = Option (List ℕ × List (List ℕ))} (Some (bytes.now, [])) (first_and_rest (parts_left left))
last_part left bytes is e =
    let parts : parts_of bytes.now ≡ bytes.now ∷ [] = parts_of-cut bytes.now ∙ ap (λ (o : Option (List ℕ × List ℕ)). parts_from o bytes.now) (sym e) in
    sym (ap (λ (l : Option (Bor (List ℕ))). first_and_rest (parts_left l)) is ∙ ap first_and_rest parts)

end_of-parts_from : (cut : Option (List ℕ × List ℕ)) (bs : List ℕ) → end_of (parts_from cut bs) ≡ None
end_of-parts_from None bs = refl
end_of-parts_from (Some cut) bs = refl

pub more_parts : (left : Option (Bor (List ℕ))) (bytes : Bor (List ℕ)) → left ≡ Some bytes → None ≡ end_of (parts_left left)
more_parts left bytes is = sym (ap (λ (l : Option (Bor (List ℕ))). end_of (parts_left l)) is ∙ ap end_of (parts_of-cut bytes.now) ∙ end_of-parts_from (cut_at 32 bytes.now) bytes.now)

pub some_is : {A : Type 0} (x y : A) → ◌≡◌ {A = Option A} (Some x) (Some y) → x ≡ y
some_is x y e = cc

means_step : (c b : ℕ) (bs : List ℕ) (here : Bool) (cut : Option (List ℕ × List ℕ)) → eqb b c ≡ here → ((l r : List ℕ) → cut ≡ Some (l, r) → bs ≡ l ++ c ∷ r)
    → (l r : List ℕ) → cond here (Some ([], bs)) (onto_cut b cut) ≡ Some (l, r) → b ∷ bs ≡ l ++ c ∷ r
means_step c b bs true cut is h l r e =
    let p = some_is ([], bs) (l, r) e in
    let nothing : [] ≡ l = ap (λ (x : List ℕ × List ℕ). x.0) p in
    let rest : bs ≡ r = ap (λ (x : List ℕ × List ℕ). x.1) p in
    let same : b ≡ c = eqb-true b c is in
    rw (← nothing, ← rest, same) refl
means_step c b bs false None is h l r e = absurd cc
means_step c b bs false (Some x) is h l r e =
    let p = some_is (b ∷ x.0, x.1) (l, r) e in
    let first : b ∷ x.0 ≡ l = ap (λ (y : List ℕ × List ℕ). y.0) p in
    let rest : x.1 ≡ r = ap (λ (y : List ℕ × List ℕ). y.1) p in
    rw (← first, ← rest) (ap (λ (t : List ℕ). b ∷ t) (h x.0 x.1 refl))

-- what is cut is joined again by the byte
pub cut_means : (c : ℕ) (bs l r : List ℕ) → cut_at c bs ≡ Some (l, r) → bs ≡ l ++ c ∷ r
cut_means c [] l r e = absurd cc
cut_means c (b ∷ bs) l r e = means_step c b bs (eqb b c) (cut_at c bs) refl (cut_means c bs) l r e

pub cut_shorter : (c : ℕ) (bs l r : List ℕ) → Some (l, r) ≡ cut_at c bs → length r < length bs
cut_shorter c bs l r e = omega (arith, ap length (cut_means c bs l r (sym e)), length-append l (c ∷ r))
