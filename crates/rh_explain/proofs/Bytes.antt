-- A line read byte by byte: where it can't go on as a line of printable bytes and filled parts.
use Rattle.std.proofs.Common.{◌≡◌, ℕ, zero, suc, ◌+◌, ◌<◌, ◌≤◌, Bool, true, false, cond, eqb, not, ◌&&◌, List, [], ◌∷◌, ◌++◌, length, take, drop, get_or, Option, Some, None, refl, sym, ap, subst, ◌∙◌, arith}
use Rattle.std.specs.List.{list_all, onto_first}
use Rattle.std.proofs.lemmas.Bool.{false≢true}
use Rattle.std.proofs.lemmas.List.{append-nil, drop_more, take-append-drop, take_all, length-take-le}
use Rattle.rh_text.specs.Parts.{parts_of, is_formed, is_printable, is_filled, may_follow, cut_at, IsFormedLine}
use Rattle.rh_text.specs.lemmas.Cuts.{parts_from, parts_of-cut}
use Rattle.rh_text.specs.lemmas.Formed.{is_formed-Decides}

-- the rest of a line is formed, where the part that it goes on with is empty so far or not
abbrev pub goes_well : Bool → List ℕ → Bool
goes_well part_empty [] = not part_empty
goes_well part_empty (b ∷ bs) = may_follow b part_empty && goes_well (eqb b 32) bs

-- no part is empty, but for the first where it goes on with one that isn't
abbrev others_filled : Bool → List (List ℕ) → Bool
others_filled true parts = list_all is_filled parts
others_filled false [] = true
others_filled false (part ∷ parts) = list_all is_filled parts

-- what is left of a line is formed, where the part that it goes on with is empty or not
abbrev formed_after : Bool → List ℕ → Bool
formed_after part_empty rest = list_all is_printable rest && others_filled part_empty (parts_of rest)

and_false : (a : Bool) → (a && false) ≡ false
and_false true = refl
and_false false = refl

-- a byte more, where it is a space or not
by_space : (space printable all : Bool) (part_empty : Bool) (b : ℕ) (bs : List ℕ) (cut : Option (List ℕ × List ℕ))
    → ((printable && all) && others_filled part_empty (cond space ([] ∷ parts_from cut bs) (onto_first b (parts_from cut bs)))) ≡ ((printable && not (space && part_empty)) && (all && others_filled space (parts_from cut bs)))
by_space space false all part_empty b bs cut = refl
by_space true true true true b bs cut = refl
by_space true true true false b bs cut = refl
by_space true true false true b bs cut = refl
by_space true true false false b bs cut = refl
by_space false true true true b bs None = refl
by_space false true true false b bs None = refl
by_space false true false true b bs None = refl
by_space false true false false b bs None = refl
by_space false true true true b bs (Some c) = refl
by_space false true true false b bs (Some c) = refl
by_space false true false true b bs (Some c) = refl
by_space false true false false b bs (Some c) = refl

goes_well-formed : (part_empty : Bool) (rest : List ℕ) → formed_after part_empty rest ≡ goes_well part_empty rest
goes_well-formed true [] = refl
goes_well-formed false [] = refl
goes_well-formed part_empty (b ∷ bs) =
    ap (λ (ps : List (List ℕ)). (is_printable b && list_all is_printable bs) && others_filled part_empty (cond (eqb b 32) ([] ∷ ps) (onto_first b ps))) (parts_of-cut bs)
    ∙ by_space (eqb b 32) (is_printable b) (list_all is_printable bs) part_empty b bs (cut_at 32 bs)
    ∙ ap (λ (ps : List (List ℕ)). may_follow b part_empty && (list_all is_printable bs && others_filled (eqb b 32) ps)) (sym (parts_of-cut bs))
    ∙ ap (λ (t : Bool). may_follow b part_empty && t) (goes_well-formed (eqb b 32) bs)

is_formed-goes : (line : List ℕ) → is_formed line ≡ goes_well true line
unfolding is_formed
is_formed-goes line = goes_well-formed true line

-- these bytes may stand where a part is empty so far or not, and then it is so or so
abbrev pub Leads : Bool → List ℕ → Bool → Type 0
Leads from [] to = from ≡ to
Leads from (b ∷ bs) to = (may_follow b from ≡ true) × Leads (eqb b 32) bs to

leads_goes : (from to : Bool) (bytes rest : List ℕ) → Leads from bytes to → goes_well from (bytes ++ rest) ≡ goes_well to rest
leads_goes from to [] rest h = ap (λ (t : Bool). goes_well t rest) h
leads_goes from to (b ∷ bs) rest h = ap (λ (t : Bool). t && goes_well (eqb b 32) (bs ++ rest)) h.0 ∙ leads_goes (eqb b 32) to bs rest h.1

pub leads_more : (from to : Bool) (bytes : List ℕ) (b : ℕ) → Leads from bytes to → may_follow b to ≡ true → Leads from (bytes ++ b ∷ []) (eqb b 32)
leads_more from to [] b h may = (subst (λ (t : Bool). may_follow b t ≡ true) (sym h) may, refl)
leads_more from to (c ∷ cs) b h may = (h.0, leads_more (eqb c 32) to cs b h.1 may)

-- a letter may follow whatever stands before it
pub viable : (to : Bool) (bytes : List ℕ) → Leads true bytes to → IsFormedLine (bytes ++ 97 ∷ [])
viable to bytes h = (is_formed-Decides (bytes ++ 97 ∷ [])).0 (is_formed-goes (bytes ++ 97 ∷ []) ∙ leads_goes true to bytes (97 ∷ []) h)

-- what leads somewhere leads somewhere before
pub record LeadsSomewhere (from : Bool) (bytes : List ℕ) : Type 0 where
  pub to : Bool
  pub leads : Leads from bytes to

pub leads_before : (from to : Bool) (bytes : List ℕ) (n : ℕ) → Leads from bytes to → LeadsSomewhere from (take n bytes)
leads_before from to [] zero h = record { to = from; leads = refl }
leads_before from to [] (suc n) h = record { to = from; leads = refl }
leads_before from to (b ∷ bs) zero h = record { to = from; leads = refl }
leads_before from to (b ∷ bs) (suc n) h = let l = leads_before (eqb b 32) to bs n h.1 in record { to = l.to; leads = (h.0, l.leads) }

-- ---- no line goes on so

heads : (a b : ℕ) (x y : List ℕ) → a ∷ x ≡ b ∷ y → a ≡ b
heads a b x y e = cc

tails : (a b : ℕ) (x y : List ℕ) → a ∷ x ≡ b ∷ y → x ≡ y
tails a b x y e = cc

-- a line end alone is no text of two bytes or more
too_short : (n b : ℕ) (bs : List ℕ) → take (suc (suc n)) (10 ∷ []) ≡ take (suc (suc n)) (b ∷ (bs ++ 10 ∷ [])) → ⊥
too_short n b [] e = cc
too_short n b (c ∷ cs) e = cc

ill_at : (from to : Bool) (bytes : List ℕ) (b : ℕ) (after other : List ℕ) → Leads from bytes to → may_follow b to ≡ false
    → take (suc (suc (length bytes))) (other ++ 10 ∷ []) ≡ take (suc (suc (length bytes))) ((bytes ++ b ∷ after) ++ 10 ∷ []) → goes_well from other ≡ false
ill_at from to [] b after [] h ill e = absurd (too_short 0 b after e)
ill_at from to [] b after (a ∷ other) h ill e =
    let same : a ≡ b = heads a b _ _ e in
    ap (λ (t : Bool). t && goes_well (eqb a 32) other) (ap (λ (x : ℕ). may_follow x from) same ∙ ap (λ (t : Bool). may_follow b t) h ∙ ill)
ill_at from to (c ∷ cs) b after [] h ill e = absurd (too_short (suc (length cs)) c (cs ++ b ∷ after) e)
ill_at from to (c ∷ cs) b after (a ∷ other) h ill e =
    let same : a ≡ c = heads a c _ _ e in
    let others = ill_at (eqb c 32) to cs b after other h.1 ill (tails a c _ _ e) in
    ap (λ (t : Bool). may_follow a from && t) (ap (λ (x : ℕ). goes_well (eqb x 32) other) same ∙ others) ∙ and_false (may_follow a from)

ill_end : (from : Bool) (bytes other : List ℕ) → Leads from bytes true → take (suc (length bytes)) (other ++ 10 ∷ []) ≡ take (suc (length bytes)) (bytes ++ 10 ∷ []) → goes_well from other ≡ false
ill_end from [] [] h e = ap not h
ill_end from [] (a ∷ other) h e =
    let same : a ≡ 10 = heads a 10 _ _ e in
    ap (λ (x : ℕ). may_follow x from && goes_well (eqb x 32) other) same
ill_end from (b ∷ bs) [] h e = absurd (too_short (length bs) b bs e)
ill_end from (b ∷ bs) (a ∷ other) h e =
    let same : a ≡ b = heads a b _ _ e in
    let others = ill_end (eqb b 32) bs other h.1 (tails a b _ _ e) in
    ap (λ (t : Bool). may_follow a from && t) (ap (λ (x : ℕ). goes_well (eqb x 32) other) same ∙ others) ∙ and_false (may_follow a from)

not_formed : (other : List ℕ) → goes_well true other ≡ false → ¬ IsFormedLine other
not_formed other e formed = false≢true (sym e ∙ sym (is_formed-goes other) ∙ (is_formed-Decides other).1 formed)

pub none_goes_on : (to : Bool) (bytes : List ℕ) (b : ℕ) (after other : List ℕ) → Leads true bytes to → may_follow b to ≡ false
    → take (suc (suc (length bytes))) (other ++ 10 ∷ []) ≡ take (suc (suc (length bytes))) ((bytes ++ b ∷ after) ++ 10 ∷ []) → ¬ IsFormedLine other
none_goes_on to bytes b after other h ill e = not_formed other (ill_at true to bytes b after other h ill e)

pub none_ends : (bytes other : List ℕ) → Leads true bytes true → take (suc (length bytes)) (other ++ 10 ∷ []) ≡ take (suc (length bytes)) (bytes ++ 10 ∷ []) → ¬ IsFormedLine other
none_ends bytes other h e = not_formed other (ill_end true bytes other h e)

-- a line that leads to a filled part is formed
pub is_formed_line : (line : List ℕ) → Leads true line false → IsFormedLine line
is_formed_line line h = (is_formed-Decides line).0 (is_formed-goes line ∙ ap (goes_well true) (sym (append-nil line)) ∙ leads_goes true false line [] h)

-- ---- the columns that are found

pub ill_here : (line other : List ℕ) (i d : ℕ) (to : Bool) → i < length line → Leads true (take i line) to → may_follow (get_or line i d) to ≡ false
    → take (i + 1 + 1) (other ++ 10 ∷ []) ≡ take (i + 1 + 1) (line ++ 10 ∷ []) → ¬ IsFormedLine other
ill_here line other i d to lt h ill e =
    let count : suc (suc (length (take i line))) ≡ i + 1 + 1 = omega (arith, length-take-le i line (omega (arith, lt))) in
    let split : line ≡ take i line ++ get_or line i d ∷ drop (i + 1) line = sym (take-append-drop i line) ∙ ap (λ (t : List ℕ). take i line ++ t) (drop_more line i d lt) in
    none_goes_on to (take i line) (get_or line i d) (drop (i + 1) line) other h ill
    (ap (λ (n : ℕ). take n (other ++ 10 ∷ [])) count ∙ e ∙ ap (λ (n : ℕ). take n (line ++ 10 ∷ [])) (sym count) ∙ ap (λ (t : List ℕ). take (suc (suc (length (take i line)))) (t ++ 10 ∷ [])) split)

pub all_lead : (line : List ℕ) (to : Bool) (i : ℕ) → length line ≤ i → Leads true (take i line) to → Leads true line to
all_lead line to i le h = subst (λ (t : List ℕ). Leads true t to) (take_all i line le) h

ends_empty : (line : List ℕ) (to : Bool) → ¬ IsFormedLine line → Leads true line to → Leads true line true
ends_empty line true ill h = h
ends_empty line false ill h = absurd (ill (is_formed_line line h))

pub ill_at_end : (line other : List ℕ) (to : Bool) (n : ℕ) → n ≡ length line → ¬ IsFormedLine line → Leads true line to
    → take (n + 1) (other ++ 10 ∷ []) ≡ take (n + 1) (line ++ 10 ∷ []) → ¬ IsFormedLine other
ill_at_end line other to n is ill h e =
    let count : suc (length line) ≡ n + 1 = omega (arith, is) in
    none_ends line other (ends_empty line to ill h) (ap (λ (m : ℕ). take m (other ++ 10 ∷ [])) count ∙ e ∙ ap (λ (m : ℕ). take m (line ++ 10 ∷ [])) (sym count))

pub viable_before : (line : List ℕ) (to : Bool) (n : ℕ) → Leads true line to → IsFormedLine (take n line ++ 97 ∷ [])
viable_before line to n h = let l = leads_before true to line n h in viable l.to (take n line) l.leads
