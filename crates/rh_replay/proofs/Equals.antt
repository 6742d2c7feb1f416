-- A line cut at its first part that is `=`.
use Rattle.std.proofs.Common.{◌≡◌, ℕ, ◌≤◌, ◌⊎◌, Bool, true, false, cond, eqb, List, [], ◌∷◌, ◌++◌, length, Option, Some, None, refl, sym, ap, subst, ◌∙◌, arith, inl, inr, append_assoc}
use Rattle.std.specs.Prelude.{codes}
use Rattle.std.specs.Borrow.{Bor}
use Rattle.std.specs.List.{onto_first}
use Rattle.std.specs.Option.{option_map}
use Rattle.std.specs.Str.{bytes_eq}
use Rattle.std.proofs.lemmas.List.{append-nil, length-append}
use Rattle.rh_text.specs.Parts.{cut_at, parts_of, parts_left}
use Rattle.rh_text.specs.lemmas.Cuts.{parts_from, parts_of-cut, cut_means, some_is}
use Rattle.rh_syntax.specs.Reading.{owned_command}
use Rattle.rh_replay.specs.Reading.{before_equals, after_equals, command_before}

-- ---- parts of a line that is put together at a space

some_part : (o : Option (List ℕ × List ℕ)) (bs : List ℕ) → (first : List ℕ) × (others : List (List ℕ)) × (parts_from o bs ≡ first ∷ others)
some_part None bs = (bs, [], refl)
some_part (Some cut) bs = (cut.0, parts_of cut.1, refl)

onto_first-append : (b : ℕ) (xs : List ℕ) (qs : List (List ℕ)) → onto_first b (parts_of xs ++ qs) ≡ onto_first b (parts_of xs) ++ qs
onto_first-append b xs qs =
    let shape = some_part (cut_at 32 xs) xs in
    let is : parts_of xs ≡ shape.0 ∷ shape.1 = parts_of-cut xs ∙ shape.2 in
    ap (λ (ps : List (List ℕ)). onto_first b (ps ++ qs)) is ∙ sym (ap (λ (ps : List (List ℕ)). onto_first b ps ++ qs) is)

space_step : (b : ℕ) (xs ys : List ℕ) (t : Bool) → parts_of (xs ++ 32 ∷ ys) ≡ parts_of xs ++ parts_of ys
    → cond t ([] ∷ parts_of (xs ++ 32 ∷ ys)) (onto_first b (parts_of (xs ++ 32 ∷ ys))) ≡ cond t ([] ∷ parts_of xs) (onto_first b (parts_of xs)) ++ parts_of ys
space_step b xs ys true ih = ap (λ (ps : List (List ℕ)). [] ∷ ps) ih
space_step b xs ys false ih = ap (onto_first b) ih ∙ onto_first-append b xs (parts_of ys)

pub parts_of-space : (xs ys : List ℕ) → parts_of (xs ++ 32 ∷ ys) ≡ parts_of xs ++ parts_of ys
parts_of-space [] ys = refl
parts_of-space (b ∷ xs) ys = space_step b xs ys (eqb b 32) (parts_of-space xs ys)

-- a cut, with one byte more before it, or at this byte
abbrev onto_cut : Bool → ℕ → List ℕ → Option (List ℕ × List ℕ) → Option (List ℕ × List ℕ)
onto_cut here b bs cut = cond here (Some ([], bs)) (option_map (λ cut. (b ∷ cut.0, cut.1)) cut)

free_step : (b : ℕ) (bs : List ℕ) (here : Bool) (cut : Option (List ℕ × List ℕ)) → eqb b 32 ≡ here → ((l r : List ℕ) → cut ≡ Some (l, r) → parts_of l ≡ l ∷ [])
    → (l r : List ℕ) → onto_cut here b bs cut ≡ Some (l, r) → parts_of l ≡ l ∷ []
free_step b bs true cut is h l r e =
    let nothing : [] ≡ l = ap (λ (x : List ℕ × List ℕ). x.0) (some_is ([], bs) (l, r) e) in
    subst (λ (t : List ℕ). parts_of t ≡ t ∷ []) nothing refl
free_step b bs false None is h l r e = absurd cc
free_step b bs false (Some x) is h l r e =
    let first : b ∷ x.0 ≡ l = ap (λ (y : List ℕ × List ℕ). y.0) (some_is (b ∷ x.0, x.1) (l, r) e) in
    subst (λ (t : List ℕ). parts_of t ≡ t ∷ []) first (ap (λ (t : Bool). cond t ([] ∷ parts_of x.0) (onto_first b (parts_of x.0))) is ∙ ap (onto_first b) (h x.0 x.1 refl))

-- what stands before the first space is one part
free_part : (bs l r : List ℕ) → cut_at 32 bs ≡ Some (l, r) → parts_of l ≡ l ∷ []
free_part [] l r e = absurd cc
free_part (b ∷ bs) l r e = free_step b bs (eqb b 32) (cut_at 32 bs) refl (free_part bs) l r e

pub cut_parts : (bs part after : List ℕ) → Some (part, after) ≡ cut_at 32 bs → parts_of bs ≡ part ∷ parts_of after
cut_parts bs part after e = parts_of-cut bs ∙ ap (λ (o : Option (List ℕ × List ℕ)). parts_from o bs) (sym e)

pub uncut_part : (bs : List ℕ) → None ≡ cut_at 32 bs → parts_of bs ≡ bs ∷ []
uncut_part bs e = parts_of-cut bs ∙ ap (λ (o : Option (List ℕ × List ℕ)). parts_from o bs) (sym e)

-- ---- before `=`

same_rest : (x y : List ℕ) (xs ys : List (List ℕ)) → x ∷ xs ≡ y ∷ ys → xs ≡ ys
same_rest x y xs ys e = cc

nothing_is : (x : List ℕ) (xs : List (List ℕ)) → ◌≡◌ {A = List (List ℕ)} [] (x ∷ xs) → ⊥
nothing_is x xs e = cc

before_step : (t : Bool) (x : List ℕ) (xs ys : List (List ℕ)) → (before_equals xs ≡ xs → before_equals (xs ++ ys) ≡ xs ++ before_equals ys)
    → cond t [] (x ∷ before_equals xs) ≡ x ∷ xs → cond t [] (x ∷ before_equals (xs ++ ys)) ≡ x ∷ (xs ++ before_equals ys)
before_step true x xs ys ih free = absurd (nothing_is x xs free)
before_step false x xs ys ih free = ap (λ (ps : List (List ℕ)). x ∷ ps) (ih (same_rest x x (before_equals xs) xs free))

-- parts without `=`, and then others
pub before_equals-append : (xs ys : List (List ℕ)) → before_equals xs ≡ xs → before_equals (xs ++ ys) ≡ xs ++ before_equals ys
before_equals-append [] ys free = refl
before_equals-append (x ∷ xs) ys free = before_step (bytes_eq x (codes "=")) x xs ys (before_equals-append xs ys) free

after_step : (t : Bool) (x : List ℕ) (xs ys : List (List ℕ)) → (before_equals xs ≡ xs → after_equals (xs ++ ys) ≡ after_equals ys)
    → cond t [] (x ∷ before_equals xs) ≡ x ∷ xs → cond t (xs ++ ys) (after_equals (xs ++ ys)) ≡ after_equals ys
after_step true x xs ys ih free = absurd (nothing_is x xs free)
after_step false x xs ys ih free = ih (same_rest x x (before_equals xs) xs free)

pub after_equals-append : (xs ys : List (List ℕ)) → before_equals xs ≡ xs → after_equals (xs ++ ys) ≡ after_equals ys
after_equals-append [] ys free = refl
after_equals-append (x ∷ xs) ys free = after_step (bytes_eq x (codes "=")) x xs ys (after_equals-append xs ys) free

-- the rest of a line begins with a part, and no part before it is `=`
abbrev pub Stands : List ℕ → List ℕ → Type 0
Stands line rest = (line ≡ rest) ⊎ ((left : List ℕ) × (line ≡ left ++ 32 ∷ rest) × (before_equals (parts_of left) ≡ parts_of left))

pub stands_short : (line rest : List ℕ) → Stands line rest → length rest ≤ length line
stands_short line rest (inl same) = omega (arith, ap length same)
stands_short line rest (inr left) = omega (arith, ap length left.1, length-append left.0 (32 ∷ rest))

-- the rest begins with `=`
pub mark_first : (rest part after : List ℕ) → Some (part, after) ≡ cut_at 32 rest → bytes_eq part (codes "=") ≡ true → before_equals (parts_of rest) ≡ []
mark_first rest part after e is = ap before_equals (cut_parts rest part after e) ∙ ap (λ (t : Bool). cond t [] (part ∷ before_equals (parts_of after))) is

pub mark_last : (rest : List ℕ) → None ≡ cut_at 32 rest → bytes_eq rest (codes "=") ≡ true → before_equals (parts_of rest) ≡ []
mark_last rest e is = ap before_equals (uncut_part rest e) ∙ ap (λ (t : Bool). cond t [] (rest ∷ [])) is

pub found_before : (line rest : List ℕ) → Stands line rest → before_equals (parts_of rest) ≡ [] → (r : Option (Bor (List ℕ))) → (length rest ≡ length line → r ≡ None)
    → ((left others : List ℕ) → line ≡ left ++ 32 ∷ others → length others ≡ length rest → parts_left r ≡ parts_of left) → parts_left r ≡ before_equals (parts_of line)
found_before line rest (inl same) none r empty some =
    ap parts_left (empty (ap length (sym same))) ∙ sym none ∙ ap (λ (t : List ℕ). before_equals (parts_of t)) (sym same)
found_before line rest (inr left) none r empty some =
    let all : before_equals (parts_of line) ≡ parts_of left.0 =
    ap (λ (t : List ℕ). before_equals (parts_of t)) left.1 ∙ ap before_equals (parts_of-space left.0 rest) ∙ before_equals-append (parts_of left.0) (parts_of rest) left.2
    ∙ ap (λ (ps : List (List ℕ)). parts_of left.0 ++ ps) none ∙ append-nil (parts_of left.0) in
    some left.0 rest left.1 refl ∙ sym all

-- a part that isn't `=`
one_free : (part : List ℕ) → parts_of part ≡ part ∷ [] → bytes_eq part (codes "=") ≡ false → before_equals (parts_of part) ≡ parts_of part
one_free part one is = ap before_equals one ∙ ap (λ (t : Bool). cond t [] (part ∷ [])) is ∙ sym one

pub stands_next : (line rest part after : List ℕ) → Stands line rest → Some (part, after) ≡ cut_at 32 rest → bytes_eq part (codes "=") ≡ false → Stands line after
stands_next line rest part after (inl same) e is =
    inr (part, same ∙ cut_means 32 rest part after (sym e), one_free part (free_part rest part after (sym e)) is)
stands_next line rest part after (inr left) e is =
    let one = free_part rest part after (sym e) in
    let cut : rest ≡ part ++ 32 ∷ after = cut_means 32 rest part after (sym e) in
    let free : before_equals (parts_of (left.0 ++ 32 ∷ part)) ≡ parts_of (left.0 ++ 32 ∷ part) =
    ap before_equals (parts_of-space left.0 part) ∙ before_equals-append (parts_of left.0) (parts_of part) left.2
    ∙ ap (λ (ps : List (List ℕ)). parts_of left.0 ++ ps) (one_free part one is) ∙ sym (parts_of-space left.0 part) in
    inr (left.0 ++ 32 ∷ part, left.1 ∙ ap (λ (t : List ℕ). left.0 ++ 32 ∷ t) cut ∙ sym (append_assoc left.0 (32 ∷ part) (32 ∷ after)), free)

pub nothing_before : (line rest : List ℕ) → Stands line rest → None ≡ cut_at 32 rest → bytes_eq rest (codes "=") ≡ false → parts_of line ≡ before_equals (parts_of line)
nothing_before line rest (inl same) e is =
    ap parts_of same ∙ sym (one_free rest (uncut_part rest e) is) ∙ ap (λ (t : List ℕ). before_equals (parts_of t)) (sym same)
nothing_before line rest (inr left) e is =
    let whole : parts_of line ≡ parts_of left.0 ++ parts_of rest = ap parts_of left.1 ∙ parts_of-space left.0 rest in
    whole ∙ ap (λ (ps : List (List ℕ)). parts_of left.0 ++ ps) (sym (one_free rest (uncut_part rest e) is))
    ∙ sym (before_equals-append (parts_of left.0) (parts_of rest) left.2) ∙ sym (ap before_equals whole)

-- ---- after `=`

pub after_found : (rest part after : List ℕ) → Some (part, after) ≡ cut_at 32 rest → bytes_eq part (codes "=") ≡ true → after_equals (parts_of rest) ≡ parts_of after
after_found rest part after e is = ap after_equals (cut_parts rest part after e) ∙ ap (λ (t : Bool). cond t (parts_of after) (after_equals (parts_of after))) is

pub after_next : (rest part after : List ℕ) → Some (part, after) ≡ cut_at 32 rest → bytes_eq part (codes "=") ≡ false → after_equals (parts_of rest) ≡ after_equals (parts_of after)
after_next rest part after e is = ap after_equals (cut_parts rest part after e) ∙ ap (λ (t : Bool). cond t (parts_of after) (after_equals (parts_of after))) is

no_part : (t : Bool) → ◌≡◌ {A = List (List ℕ)} (cond t [] []) []
no_part true = refl
no_part false = refl

pub after_none : (rest : List ℕ) → None ≡ cut_at 32 rest → after_equals (parts_of rest) ≡ []
after_none rest e = ap after_equals (uncut_part rest e) ∙ no_part (bytes_eq rest (codes "="))

-- ---- parts that are left, and some bytes have a part

pub command_before_some : (left : Option (Bor (List ℕ))) (bytes : Bor (List ℕ)) → left ≡ Some bytes → owned_command (parts_left left) ≡ command_before (parts_left left)
unfolding command_before
command_before_some left bytes is =
    let shape = some_part (cut_at 32 bytes.now) bytes.now in
    let parts : parts_left left ≡ shape.0 ∷ shape.1 = ap parts_left is ∙ parts_of-cut bytes.now ∙ shape.2 in
    ap owned_command parts ∙ sym (ap command_before parts)
