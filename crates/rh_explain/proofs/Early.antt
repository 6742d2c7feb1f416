-- What stands before a part that fails is the beginning of parts that have no fault as early.
use Rattle.std.proofs.Common.{◌≡◌, ◌≢◌, ℕ, zero, suc, ◌-◌, ◌<◌, ◌≤◌, inl, inr, true, false, List, [], ◌∷◌, ◌++◌, length, replicate, map, Option, Some, None, Err, refl, sym, ap, subst, ◌∙◌, arith}
use Rattle.std.specs.Prelude.{codes}
use Rattle.std.specs.Str.{bytes_eq}
use Rattle.std.proofs.lemmas.List.{append-nil, length-append, length-replicate}
use Rattle.std.proofs.lemmas.Slice.Eq.{bytes_eq-Decides}
use Rattle.rh_text.specs.Parts.{begins_with_digit}
use Rattle.rh_syntax.specs.declared.fault.Kind.{Kind}
use Rattle.rh_syntax.specs.declared.fault.Kind.TheVariants.{Form, Header, Word}
use Rattle.rh_syntax.specs.Faults.{Sort, keyword, number, root, lookup, header_form, owned_forms, keyword_forms, each_part, form_faults, line_part_faults, header_part_faults, IsFirstPart}
use Rattle.rh_explain.specs.Explain.{BeginWell}
use Rattle.rh_explain.specs.Judging.{Passes, Fails}
use Rattle.rh_explain.proofs.Legal.{legal, keyword_viable, owned_viable, header_viable, flip_viable}
use Rattle.rh_explain.proofs.Lines.{digit_first, no_digit_first}

fst_of : {P Q : Type 0} → P × Q → P
fst_of h = h.0

snd_of : {P Q : Type 0} → P × Q → Q
snd_of h = h.1

some_none : {A : Type 0} (x : A) → ◌≡◌ {A = Option A} (Some x) None → ⊥
some_none x e = cc

cons_nil : (x : List ℕ) (xs : List (List ℕ)) → x ∷ xs ≡ [] → ⊥
cons_nil x xs e = cc

-- ---- no early fault

module _ (word : List ℕ) (bare : begins_with_digit word ≡ false) (form : List Sort) (e : lookup word keyword_forms ≡ Some form) where
  keyword_early : (args : List (List ℕ)) → length (word ∷ args) ≡ length form → (early : ℕ) (k : Kind) → early ≤ 2 → ¬ line_part_faults (word ∷ args) early k
  keyword_early args same zero k le h = elim h [ inl o ↦ no_digit_first word bare (fst_of o) | inr b ↦ cons_nil word args (snd_of (snd_of b)) ]
  keyword_early args same (suc zero) k le h = elim h [ inl o ↦ no_digit_first word bare (fst_of o) | inr b ↦ some_none form (sym e ∙ snd_of (snd_of b)) ]
  keyword_early args same (suc (suc zero)) k le h = elim h [
    | inl o ↦ no_digit_first word bare (fst_of o)
    | inr b ↦
        let fault = subst (λ (f : Option (List Sort)). form_faults f (word ∷ args) 0 k) e (snd_of b) in
        snd_of fault same
  ]
  keyword_early args same (suc (suc (suc early))) k le h = absurd (omega (arith, le))

  keyword_count : (args : List (List ℕ)) → length (word ∷ args) ≢ length form → line_part_faults (word ∷ args) 2 Form
  keyword_count args differs = inr (no_digit_first word bare, subst (λ (f : Option (List Sort)). form_faults f (word ∷ args) 0 Form) (sym e) (refl, differs))

  pub keyword_missing : (args : List (List ℕ)) → length (word ∷ args) < length form → BeginWell line_part_faults (word ∷ args) (word ∷ args) Form
  keyword_missing args few = record {
    stage = 2;
    holds = keyword_count args (λ same. absurd (omega (arith, few, same)));
    others = replicate (length form - length (word ∷ args)) [];
    none = keyword_early (args ++ replicate (length form - length (word ∷ args)) []) (omega (arith, few, length-append args (replicate (length form - length (word ∷ args)) []), length-replicate (length form - length (word ∷ args)) (codes "")));
  }

  pub keyword_more : (args ahead : List (List ℕ)) → length form < length (word ∷ args) → length (word ∷ ahead) ≡ length form → BeginWell line_part_faults (word ∷ args) (word ∷ ahead) Form
  keyword_more args ahead many same = record {
    stage = 2;
    holds = keyword_count args (λ differs. absurd (omega (arith, many, differs)));
    others = [];
    none = keyword_early (ahead ++ []) (omega (arith, same, ap length (append-nil ahead)));
  }

module _ (owner : List ℕ) (digit : begins_with_digit owner ≡ true) where
  -- a known command after the owner
  drop_early : (early : ℕ) (k : Kind) → early ≤ 1 → ¬ line_part_faults (owner ∷ codes "drop" ∷ []) early k
  drop_early zero k le h = elim h [ inl o ↦ snd_of (snd_of o) | inr b ↦ fst_of b (digit_first owner digit) ]
  drop_early (suc zero) k le h = elim h [
    | inl o ↦ elim (snd_of (snd_of o)) [ inl bare ↦ bare (digit_first owner digit) | inr none ↦ some_none (number ∷ keyword ∷ root ∷ []) none ]
    | inr b ↦ fst_of b (digit_first owner digit)
  ]
  drop_early (suc (suc early)) k le h = absurd (omega (arith, le))

  pub owner_alone : BeginWell line_part_faults (owner ∷ []) (owner ∷ []) Form
  owner_alone = record {
    stage = 0;
    holds = inl (digit_first owner digit, (refl, digit_first owner digit));
    others = codes "drop" ∷ [];
    none = λ early k le. drop_early early k (omega (arith, le));
  }

  pub command_unknown : (word : List ℕ) (args : List (List ℕ)) → lookup word owned_forms ≡ None → BeginWell line_part_faults (owner ∷ word ∷ args) (owner ∷ []) Word
  command_unknown word args e = record {
    stage = 1;
    holds = inl (digit_first owner digit, (refl, inr e));
    others = codes "drop" ∷ [];
    none = drop_early;
  }

  module _ (word : List ℕ) (form : List Sort) (e : lookup word owned_forms ≡ Some form) where
    owned_early : (args : List (List ℕ)) → length (owner ∷ word ∷ args) ≡ length form → (early : ℕ) (k : Kind) → early ≤ 2 → ¬ line_part_faults (owner ∷ word ∷ args) early k
    owned_early args same zero k le h = elim h [ inl o ↦ snd_of (snd_of o) | inr b ↦ fst_of b (digit_first owner digit) ]
    owned_early args same (suc zero) k le h = elim h [
      | inl o ↦ elim (snd_of (snd_of o)) [ inl bare ↦ bare (digit_first owner digit) | inr none ↦ some_none form (sym e ∙ none) ]
      | inr b ↦ fst_of b (digit_first owner digit)
    ]
    owned_early args same (suc (suc zero)) k le h = elim h [
      | inl o ↦
          let fault = subst (λ (f : Option (List Sort)). form_faults f (owner ∷ word ∷ args) 0 k) e (snd_of o) in
          snd_of fault same
      | inr b ↦ fst_of b (digit_first owner digit)
    ]
    owned_early args same (suc (suc (suc early))) k le h = absurd (omega (arith, le))

    owned_count : (args : List (List ℕ)) → length (owner ∷ word ∷ args) ≢ length form → line_part_faults (owner ∷ word ∷ args) 2 Form
    owned_count args differs = inl (digit_first owner digit, subst (λ (f : Option (List Sort)). form_faults f (owner ∷ word ∷ args) 0 Form) (sym e) (refl, differs))

    pub owned_missing : (args : List (List ℕ)) → length (owner ∷ word ∷ args) < length form → BeginWell line_part_faults (owner ∷ word ∷ args) (owner ∷ word ∷ args) Form
    owned_missing args few = record {
      stage = 2;
      holds = owned_count args (λ same. absurd (omega (arith, few, same)));
      others = replicate (length form - length (owner ∷ word ∷ args)) [];
      none = owned_early (args ++ replicate (length form - length (owner ∷ word ∷ args)) []) (omega (arith, few, length-append args (replicate (length form - length (owner ∷ word ∷ args)) []), length-replicate (length form - length (owner ∷ word ∷ args)) (codes "")));
    }

    pub owned_more : (args ahead : List (List ℕ)) → length form < length (owner ∷ word ∷ args) → length (owner ∷ word ∷ ahead) ≡ length form → BeginWell line_part_faults (owner ∷ word ∷ args) (owner ∷ word ∷ ahead) Form
    owned_more args ahead many same = record {
      stage = 2;
      holds = owned_count args (λ differs. absurd (omega (arith, many, differs)));
      others = [];
      none = owned_early (ahead ++ []) (omega (arith, same, ap length (append-nil ahead)));
    }

pub blank_begins : BeginWell line_part_faults [] [] Form
blank_begins = record {
  stage = 0;
  holds = inr ((λ h. h), (refl, refl));
  others = codes "flip" ∷ [];
  none = λ early k le. flip_viable early k;
}

pub keyword_unknown_begins : (word : List ℕ) (args : List (List ℕ)) → begins_with_digit word ≡ false → lookup word keyword_forms ≡ None → BeginWell line_part_faults (word ∷ args) [] Word
keyword_unknown_begins word args bare e = record {
  stage = 1;
  holds = inr (no_digit_first word bare, (refl, e));
  others = codes "flip" ∷ [];
  none = λ early k le. flip_viable early k;
}

-- ---- the first line

header_early : (first : List ℕ) (others : List (List ℕ)) → bytes_eq first (codes "heap") ≡ true → length (first ∷ others) ≡ 6 → (early : ℕ) (k : Kind) → early ≤ 0 → ¬ header_part_faults (first ∷ others) early k
header_early first others e six zero k le h = elim (snd_of h) [ inl other ↦ other ((bytes_eq-Decides first (codes "heap")).0 e) | inr differs ↦ differs six ]
header_early first others e six (suc early) k le h = absurd (omega (arith, le))

-- a first line
abbrev some_header : List (List ℕ)
some_header = codes "heap" ∷ [] ∷ [] ∷ [] ∷ [] ∷ [] ∷ []

pub no_heap_begins : (parts : List (List ℕ)) → ¬ IsFirstPart (codes "heap") parts → BeginWell header_part_faults parts [] Header
no_heap_begins parts other = record {
  stage = 0;
  holds = (refl, inl other);
  others = some_header;
  none = header_early (codes "heap") ([] ∷ [] ∷ [] ∷ [] ∷ [] ∷ []) refl refl;
}

pub header_missing : (first : List ℕ) (others : List (List ℕ)) → bytes_eq first (codes "heap") ≡ true → length (first ∷ others) < 6 → BeginWell header_part_faults (first ∷ others) (first ∷ others) Header
header_missing first others e few = record {
  stage = 0;
  holds = (refl, inr (λ same. absurd (omega (arith, few, same))));
  others = replicate (6 - length (first ∷ others)) [];
  none = header_early first (others ++ replicate (6 - length (first ∷ others)) []) e (omega (arith, few, length-append others (replicate (6 - length (first ∷ others)) []), length-replicate (6 - length (first ∷ others)) (codes "")));
}

pub header_more : (first : List ℕ) (others ahead : List (List ℕ)) → bytes_eq first (codes "heap") ≡ true → 6 < length (first ∷ others) → length (first ∷ ahead) ≡ 6 → BeginWell header_part_faults (first ∷ others) (first ∷ ahead) Header
header_more first others ahead e many six = record {
  stage = 0;
  holds = (refl, inr (λ same. absurd (omega (arith, many, same))));
  others = [];
  none = header_early first (ahead ++ []) e (omega (arith, six, ap length (append-nil ahead)));
}

-- ---- a part that isn't what it should be

module _ (done : List Sort) (sort : Sort) (due : List Sort) (ahead : List (List ℕ)) (part : List ℕ) (behind : List (List ℕ)) (kind : Kind) (passes : Passes done ahead) (fails : Fails sort part kind) (even : length done ≡ length ahead) where
  -- the stage at which it fails
  record Stage : Type 0 where
    stage : ℕ
    holds : each_part (done ++ sort ∷ due) (ahead ++ part ∷ behind) stage kind

  stage_of : Stage
  stage_of =
      let l = (passes (sort ∷ due) (part ∷ behind) (Err kind) (fails due behind)).least kind refl in
      record { stage = l.stage; holds = l.holds }

  pub keyword_unfit_begins : (word : List ℕ) (left args : List (List ℕ)) → ahead ≡ word ∷ left → word ∷ args ≡ ahead ++ part ∷ behind → begins_with_digit word ≡ false → lookup word keyword_forms ≡ Some (done ++ sort ∷ due)
      → BeginWell line_part_faults (word ∷ args) ahead kind
  keyword_unfit_begins word left args is whole bare e = record {
    stage = suc (suc (suc stage_of.stage));
    holds = inr (
      no_digit_first word bare,
      subst (λ (f : Option (List Sort)). form_faults f (word ∷ args) (suc stage_of.stage) kind) (sym e)
          (subst (λ (ps : List (List ℕ)). each_part (done ++ sort ∷ due) ps stage_of.stage kind) (sym whole) stage_of.holds),
    );
    others = map legal (sort ∷ due);
    none = λ early k le. keyword_viable done (sort ∷ due) ahead passes even word left is bare e early k;
  }

  pub owned_unfit_begins : (owner word : List ℕ) (left args : List (List ℕ)) → ahead ≡ owner ∷ word ∷ left → owner ∷ word ∷ args ≡ ahead ++ part ∷ behind → begins_with_digit owner ≡ true → lookup word owned_forms ≡ Some (done ++ sort ∷ due)
      → BeginWell line_part_faults (owner ∷ word ∷ args) ahead kind
  owned_unfit_begins owner word left args is whole digit e = record {
    stage = suc (suc (suc stage_of.stage));
    holds = inl (
      digit_first owner digit,
      subst (λ (f : Option (List Sort)). form_faults f (owner ∷ word ∷ args) (suc stage_of.stage) kind) (sym e)
          (subst (λ (ps : List (List ℕ)). each_part (done ++ sort ∷ due) ps stage_of.stage kind) (sym whole) stage_of.holds),
    );
    others = map legal (sort ∷ due);
    none = λ early k le. owned_viable done (sort ∷ due) ahead passes even owner word left is digit e early k;
  }

  pub owner_unfit_begins : (owner word : List ℕ) (args : List (List ℕ)) → owner ∷ word ∷ args ≡ ahead ++ part ∷ behind → begins_with_digit owner ≡ true → lookup word owned_forms ≡ Some (done ++ sort ∷ due)
      → BeginWell line_part_faults (owner ∷ word ∷ args) [] kind
  owner_unfit_begins owner word args whole digit e = record {
    stage = suc (suc (suc stage_of.stage));
    holds = inl (
      digit_first owner digit,
      subst (λ (f : Option (List Sort)). form_faults f (owner ∷ word ∷ args) (suc stage_of.stage) kind) (sym e)
          (subst (λ (ps : List (List ℕ)). each_part (done ++ sort ∷ due) ps stage_of.stage kind) (sym whole) stage_of.holds),
    );
    others = codes "flip" ∷ [];
    none = λ early k le. flip_viable early k;
  }

  pub header_unfit_begins : (parts : List (List ℕ)) (word : List ℕ) (left : List (List ℕ)) → ahead ≡ word ∷ left → parts ≡ ahead ++ part ∷ behind → bytes_eq word (codes "heap") ≡ true → header_form ≡ done ++ sort ∷ due
      → BeginWell header_part_faults parts ahead kind
  header_unfit_begins parts word left is whole heap e = record {
    stage = suc stage_of.stage;
    holds = subst (λ (f : List Sort). each_part f parts stage_of.stage kind) (sym e) (subst (λ (ps : List (List ℕ)). each_part (done ++ sort ∷ due) ps stage_of.stage kind) (sym whole) stage_of.holds);
    others = map legal (sort ∷ due);
    none = λ early k le. header_viable done (sort ∷ due) ahead passes even word left is heap e early k;
  }
