-- Where the parts of a line fail: what stands before the part may go on well, and what has it too can't.
use Rattle.std.proofs.Common.{◌≡◌, ℕ, zero, suc, ◌<◌, ◌≤◌, inl, inr, Bool, true, false, cond, List, [], ◌∷◌, ◌++◌, length, take, drop, Option, Some, None, Ok, Err, refl, sym, ap, subst, ◌∙◌, arith}
use Rattle.std.specs.Prelude.{codes, ⊤, IfSome, MatchOption}
use Rattle.std.specs.Str.{bytes_eq}
use Rattle.std.proofs.lemmas.Bool.Decides.{not_from_Decides}
use Rattle.std.proofs.lemmas.List.{append-nil, take-append-drop, length-append, length-take-le}
use Rattle.std.proofs.lemmas.Slice.Eq.{bytes_eq-Decides}
use Rattle.rh_text.specs.Parts.{begins_with_digit}
use Rattle.rh_text.specs.Stages.{IsFaultless}
use Rattle.rh_text.specs.lemmas.Stages.{Judges}
use Rattle.rh_syntax.specs.declared.fault.Kind.{Kind}
use Rattle.rh_syntax.specs.declared.fault.Kind.TheVariants.{Form, Header, Word, Number}
use Rattle.rh_syntax.specs.Faults.{Sort, keyword, number, lookup, header_form, owned_forms, keyword_forms, each_part, form_faults, line_part_faults, header_part_faults, IsNumber}
use Rattle.rh_explain.specs.declared.part.Misfit.{Misfit}
use Rattle.rh_explain.specs.Explain.{BeginWell, IsFirstMisfit, class, part_faults_of}
use Rattle.rh_explain.specs.Judging.{Passes, Fails, FailsAt, IsMiscounted, MisfitAt}
use Rattle.rh_explain.proofs.Early.{keyword_missing, keyword_more, owner_alone, command_unknown, owned_missing, owned_more, blank_begins, keyword_unknown_begins, no_heap_begins, header_missing, header_more, keyword_unfit_begins, owned_unfit_begins, owner_unfit_begins, header_unfit_begins}
use Rattle.rh_explain.proofs.Lines.{digit_first, no_digit_first}

-- ---- the shapes of the forms

-- a form that begins so
abbrev pub Begins : List Sort → List Sort → Type 0
Begins first form = (rest : List Sort) × (form ≡ first ++ rest)

-- each form of a table begins so
abbrev EachBegins : List Sort → List (List ℕ × List Sort) → Type 0
EachBegins first [] = ⊤
EachBegins first (entry ∷ entries) = Begins first entry.1 × EachBegins first entries

found_begins : (first : List Sort) (word : List ℕ) (t : Bool) (entry : List ℕ × List Sort) (entries : List (List ℕ × List Sort)) (form : List Sort)
    → Begins first entry.1 → (lookup word entries ≡ Some form → Begins first form) → cond t (Some entry.1) (lookup word entries) ≡ Some form → Begins first form
found_begins first word true entry entries form here there e =
    let same : entry.1 ≡ form = cc in
    subst (Begins first) same here
found_begins first word false entry entries form here there e = there e

lookup_begins : (first : List Sort) (word : List ℕ) (entries : List (List ℕ × List Sort)) (form : List Sort) → EachBegins first entries → lookup word entries ≡ Some form → Begins first form
lookup_begins first word [] form each e = absurd cc
lookup_begins first word (entry ∷ entries) form each e = found_begins first word (bytes_eq word entry.0) entry entries form each.0 (lookup_begins first word entries form each.1) e

owned_begins : (word : List ℕ) (form : List Sort) → lookup word owned_forms ≡ Some form → Begins (number ∷ keyword ∷ []) form
owned_begins word form e = lookup_begins (number ∷ keyword ∷ []) word owned_forms form ((_, refl), ((_, refl), ((_, refl), ((_, refl), ((_, refl), ((_, refl), ((_, refl), ((_, refl), tt)))))))) e

keyword_begins : (word : List ℕ) (form : List Sort) → lookup word keyword_forms ≡ Some form → Begins (keyword ∷ []) form
keyword_begins word form e =
    lookup_begins (keyword ∷ []) word keyword_forms form ((_, refl), ((_, refl), ((_, refl), ((_, refl), ((_, refl), ((_, refl), ((_, refl), ((_, refl), ((_, refl), ((_, refl), ((_, refl), ((_, refl), ((_, refl), ((_, refl), ((_, refl), ((_, refl), tt)))))))))))))))) e

-- ---- what fails, fails whatever stands behind it

keyword_fits : (part : List ℕ) (kind : Kind) → Fails keyword part kind → ⊥
keyword_fits part kind fails = let l = (fails [] []).least kind refl in l.holds

number_stage : (part : List ℕ) (stage : ℕ) (kind : Kind) → each_part (number ∷ []) (part ∷ []) stage kind → ¬ IsNumber part
number_stage part zero kind h = h.1
number_stage part (suc stage) kind h = absurd h

number_unfit : (part : List ℕ) (kind : Kind) → Fails number part kind → ¬ IsNumber part
number_unfit part kind fails = let l = (fails [] []).least kind refl in number_stage part l.stage kind l.holds

-- the parts up to one that fails, and any others
fails_on : (done : List Sort) (sort : Sort) (due : List Sort) (ahead : List (List ℕ)) (part : List ℕ) (others : List (List ℕ)) (kind : Kind) → Passes done ahead → Fails sort part kind
    → ¬ IsFaultless (each_part (done ++ sort ∷ due) (ahead ++ part ∷ others))
fails_on done sort due ahead part others kind passes fails none =
    let j = passes (sort ∷ due) (part ∷ others) (Err kind) (fails due others) in
    let l = j.least kind refl in
    none l.stage kind l.holds

too_many : (form : List Sort) (parts : List (List ℕ)) → length form < length parts → ¬ IsFaultless (form_faults (Some form) parts)
too_many form parts more none = none 0 Form (refl, λ same. absurd (omega (arith, more, same)))

-- ---- a line that begins with its keyword

module _ (word : List ℕ) (bare : begins_with_digit word ≡ false) where
  keyword_faultless : (form : List Sort) (args : List (List ℕ)) → lookup word keyword_forms ≡ Some form → IsFaultless (line_part_faults (word ∷ args)) → IsFaultless (form_faults (Some form) (word ∷ args))
  keyword_faultless form args e none = λ stage kind h.
      none (suc (suc stage)) kind (inr (no_digit_first word bare, subst (λ (o : Option (List Sort)). form_faults o (word ∷ args) stage kind) (sym e) h))

  unknown_keyword : (args : List (List ℕ)) → lookup word keyword_forms ≡ None → ¬ IsFaultless (line_part_faults (word ∷ args))
  unknown_keyword args e none = none 1 Word (inr (no_digit_first word bare, (refl, e)))

-- ---- a line that begins with an owner

module _ (owner : List ℕ) (digit : begins_with_digit owner ≡ true) where
  owned_faultless : (word : List ℕ) (form : List Sort) (args : List (List ℕ)) → lookup word owned_forms ≡ Some form → IsFaultless (line_part_faults (owner ∷ word ∷ args)) → IsFaultless (form_faults (Some form) (owner ∷ word ∷ args))
  owned_faultless word form args e none = λ stage kind h.
      none (suc (suc stage)) kind (inl (digit_first owner digit, subst (λ (o : Option (List Sort)). form_faults o (owner ∷ word ∷ args) stage kind) (sym e) h))

  unknown_command : (word : List ℕ) (args : List (List ℕ)) → lookup word owned_forms ≡ None → ¬ IsFaultless (line_part_faults (owner ∷ word ∷ args))
  unknown_command word args e none = none 1 Word (inl (digit_first owner digit, (refl, inr e)))

  no_owner_found : (word : List ℕ) (args : List (List ℕ)) (found : Option (List Sort)) → lookup word owned_forms ≡ found → ¬ IsNumber owner → ¬ IsFaultless (line_part_faults (owner ∷ word ∷ args))
  no_owner_found word args None e unfit none = unknown_command word args e none
  no_owner_found word args (Some form) e unfit none =
      let shape = owned_begins word form e in
      let faultless = subst (λ (f : List Sort). IsFaultless (form_faults (Some f) (owner ∷ word ∷ args))) shape.1 (owned_faultless word form args e none) in
      faultless 1 Number (refl, unfit)

  no_owner : (others : List (List ℕ)) → ¬ IsNumber owner → ¬ IsFaultless (line_part_faults (owner ∷ others))
  no_owner [] unfit none = none 0 Form (inl (digit_first owner digit, (refl, digit_first owner digit)))
  no_owner (word ∷ args) unfit none = no_owner_found word args (lookup word owned_forms) refl unfit none

-- ---- where a line fails

-- at its end, where a part is missing
pub missing_place : (faults : List (List ℕ) → ℕ → Kind → Type 0) (parts : List (List ℕ)) (index : ℕ) (kind : Kind) → index ≡ length parts → BeginWell faults parts parts kind → IsFirstMisfit faults parts index kind
missing_place faults parts index kind is before = record {
  ahead = parts;
  behind = [];
  parts_are = sym (append-nil parts);
  index_is = is;
  before = before;
  after = λ part left others e. absurd cc;
}

first_of : (a b : List ℕ) (x y : List (List ℕ)) → a ∷ x ≡ b ∷ y → a ≡ b
first_of a b x y e = cc

rest_of : (a b : List ℕ) (x y : List (List ℕ)) → a ∷ x ≡ b ∷ y → x ≡ y
rest_of a b x y e = cc

sort_first : (a b : Sort) (x y : List Sort) → a ∷ x ≡ b ∷ y → a ≡ b
sort_first a b x y e = cc

sort_second : (a b c d : Sort) (x y : List Sort) → a ∷ b ∷ x ≡ c ∷ d ∷ y → b ≡ d
sort_second a b c d x y e = cc

-- at a part that may not stand behind these, whatever stands behind it
stops_at : (faults : List (List ℕ) → ℕ → Kind → Type 0) (parts ahead : List (List ℕ)) (part : List ℕ) (behind : List (List ℕ)) (index : ℕ) (kind : Kind) → parts ≡ ahead ++ part ∷ behind → index ≡ length ahead → BeginWell faults parts ahead kind
    → ((others : List (List ℕ)) → ¬ IsFaultless (faults (ahead ++ part ∷ others))) → IsFirstMisfit faults parts index kind
stops_at faults parts ahead part behind index kind is at before never = record {
  ahead = ahead;
  behind = part ∷ behind;
  parts_are = is;
  index_is = at;
  before = before;
  after = λ other left others e. subst (λ (p : List ℕ). ¬ IsFaultless (faults (ahead ++ p ∷ others))) (first_of part other behind left e) (never others);
}

-- at the first part that is too many
surplus_place : (faults : List (List ℕ) → ℕ → Kind → Type 0) (parts : List (List ℕ)) (index : ℕ) (kind : Kind) → index < length parts → BeginWell faults parts (take index parts) kind
    → ((part : List ℕ) (others : List (List ℕ)) → ¬ IsFaultless (faults (take index parts ++ part ∷ others))) → IsFirstMisfit faults parts index kind
surplus_place faults parts index kind less before never = record {
  ahead = take index parts;
  behind = drop index parts;
  parts_are = sym (take-append-drop index parts);
  index_is = sym (length-take-le index parts (omega (arith, less)));
  before = before;
  after = λ part left others e. never part others;
}

-- the kind of what was found
of_kind : (faults : List (List ℕ) → ℕ → Kind → Type 0) (parts : List (List ℕ)) (index : ℕ) (kind other : Kind) → kind ≡ other → IsFirstMisfit faults parts index other → IsFirstMisfit faults parts index kind
of_kind faults parts index kind other same place = subst (IsFirstMisfit faults parts index) (sym same) place

pub blank_place : (parts : List (List ℕ)) → parts ≡ [] → IsFirstMisfit line_part_faults parts 0 Form
blank_place parts is = subst (λ (ps : List (List ℕ)). IsFirstMisfit line_part_faults ps 0 Form) (sym is) (missing_place line_part_faults [] 0 Form refl blank_begins)

pub alone_place : (parts : List (List ℕ)) (owner : List ℕ) → parts ≡ owner ∷ [] → begins_with_digit owner ≡ true → IsFirstMisfit line_part_faults parts 1 Form
alone_place parts owner is digit = subst (λ (ps : List (List ℕ)). IsFirstMisfit line_part_faults ps 1 Form) (sym is) (missing_place line_part_faults (owner ∷ []) 1 Form refl (owner_alone owner digit))

pub unknown_keyword_place : (parts : List (List ℕ)) (word : List ℕ) (args : List (List ℕ)) (kind : Kind) → parts ≡ word ∷ args → begins_with_digit word ≡ false → lookup word keyword_forms ≡ None → kind ≡ Word → IsFirstMisfit line_part_faults parts 0 kind
unknown_keyword_place parts word args kind is bare e same =
    of_kind line_part_faults parts 0 kind Word same (subst (λ (ps : List (List ℕ)). IsFirstMisfit line_part_faults ps 0 Word) (sym is)
    (stops_at line_part_faults (word ∷ args) [] word args 0 Word refl refl (keyword_unknown_begins word args bare e) (λ others. unknown_keyword word bare others e)))

pub unknown_command_place : (parts : List (List ℕ)) (owner word : List ℕ) (args : List (List ℕ)) (kind : Kind) → parts ≡ owner ∷ word ∷ args → begins_with_digit owner ≡ true → lookup word owned_forms ≡ None → kind ≡ Word → IsFirstMisfit line_part_faults parts 1 kind
unknown_command_place parts owner word args kind is digit e same =
    of_kind line_part_faults parts 1 kind Word same (subst (λ (ps : List (List ℕ)). IsFirstMisfit line_part_faults ps 1 Word) (sym is)
    (stops_at line_part_faults (owner ∷ word ∷ args) (owner ∷ []) word args 1 Word refl refl (command_unknown owner digit word args e) (λ others. unknown_command owner digit word others e)))

-- ---- the form of a line that begins with its keyword

keyword_unfit : (done : List Sort) (sort : Sort) (due : List Sort) (ahead : List (List ℕ)) (part : List ℕ) (behind : List (List ℕ)) (index : ℕ) (kind : Kind) (word : List ℕ) (args : List (List ℕ)) (form rest : List Sort)
    → begins_with_digit word ≡ false → lookup word keyword_forms ≡ Some form → form ≡ keyword ∷ rest → form ≡ done ++ sort ∷ due → length done ≡ length ahead → index ≡ length ahead
    → Passes done ahead → Fails sort part kind → word ∷ args ≡ ahead ++ part ∷ behind → IsFirstMisfit line_part_faults (word ∷ args) index kind
keyword_unfit [] sort due [] part behind index kind word args form rest bare e shape sorts even at passes fails is =
    let same : keyword ≡ sort = sort_first keyword sort rest due (sym shape ∙ sorts) in
    absurd (keyword_fits part kind (subst (λ (s : Sort). Fails s part kind) (sym same) fails))
keyword_unfit (s ∷ done) sort due [] part behind index kind word args form rest bare e shape sorts even at passes fails is = absurd (omega (arith, even))
keyword_unfit [] sort due (w ∷ ahead) part behind index kind word args form rest bare e shape sorts even at passes fails is = absurd (omega (arith, even))
keyword_unfit (s ∷ done) sort due (w ∷ ahead) part behind index kind word args form rest bare e shape sorts even at passes fails is =
    let same : w ≡ word = sym (first_of word w args (ahead ++ part ∷ behind) is) in
    let some : List Sort → Option (List Sort) = λ f. Some f in
    let before = keyword_unfit_begins (s ∷ done) sort due (w ∷ ahead) part behind kind passes fails even word ahead args (ap (λ (x : List ℕ). x ∷ ahead) same) is bare (e ∙ ap some sorts) in
    stops_at line_part_faults (word ∷ args) (w ∷ ahead) part behind index kind is at before (λ others none.
    let mine = subst (λ (x : List ℕ). IsFaultless (line_part_faults (x ∷ (ahead ++ part ∷ others)))) same none in
    let faultless = keyword_faultless word bare form (ahead ++ part ∷ others) e mine in
    let again = subst (λ (x : List ℕ). IsFaultless (form_faults (Some form) (x ∷ (ahead ++ part ∷ others)))) (sym same) faultless in
    let sorted = subst (λ (f : List Sort). IsFaultless (form_faults (Some f) (w ∷ (ahead ++ part ∷ others)))) sorts again in
    fails_on (s ∷ done) sort due (w ∷ ahead) part others kind passes fails (λ stage k h. sorted (suc stage) k h))

keyword_surplus : (word : List ℕ) (args : List (List ℕ)) (form rest : List Sort) → begins_with_digit word ≡ false → lookup word keyword_forms ≡ Some form → form ≡ keyword ∷ rest → length form < length (word ∷ args)
    → IsFirstMisfit line_part_faults (word ∷ args) (suc (length rest)) Form
keyword_surplus word args form rest bare e shape more =
    let few : length rest ≤ length args = omega (arith, more, ap length shape) in
    let count = length-take-le (length rest) args few in
    surplus_place line_part_faults (word ∷ args) (suc (length rest)) Form (omega (arith, more, ap length shape))
    (keyword_more word bare form e args (take (length rest) args) more (omega (arith, ap length shape, count)))
    (λ part others none.
    too_many form (word ∷ (take (length rest) args ++ part ∷ others)) (omega (arith, more, ap length shape, length-append (take (length rest) args) (part ∷ others), count))
    (keyword_faultless word bare form (take (length rest) args ++ part ∷ others) e none))

keyword_count_place : (parts : List (List ℕ)) (word : List ℕ) (args : List (List ℕ)) (form : List Sort) (index : ℕ) → parts ≡ word ∷ args → begins_with_digit word ≡ false → lookup word keyword_forms ≡ Some form
    → IsMiscounted (length form) (length parts) index → IsFirstMisfit line_part_faults parts index Form
keyword_count_place parts word args form index is bare e (inl few) =
    missing_place line_part_faults parts index Form few.1 (subst (λ (ps : List (List ℕ)). BeginWell line_part_faults ps ps Form) (sym is) (keyword_missing word bare form e args (omega (arith, few.0, ap length is))))
keyword_count_place parts word args form index is bare e (inr many) =
    let shape = keyword_begins word form e in
    let more : length form < length (word ∷ args) = omega (arith, many.0, ap length is) in
    let place = keyword_surplus word args form shape.0 bare e shape.1 more in
    let count : suc (length shape.0) ≡ index = omega (arith, many.1, ap length shape.1) in
    rw (is, sym count) place

pub keyword_place : (parts : List (List ℕ)) (word : List ℕ) (args : List (List ℕ)) (form : List Sort) (index : ℕ) (kind : Kind) → parts ≡ word ∷ args → begins_with_digit word ≡ false → lookup word keyword_forms ≡ Some form
    → MisfitAt form parts index kind → IsFirstMisfit line_part_faults parts index kind
keyword_place parts word args form index kind is bare e (inl miscount) = of_kind line_part_faults parts index kind Form miscount.0 (keyword_count_place parts word args form index is bare e miscount.1)
keyword_place parts word args form index kind is bare e (inr at) =
    let shape = keyword_begins word form e in
    rw is (keyword_unfit at.done at.sort at.due at.ahead at.part at.behind index kind word args form shape.0 bare e shape.1 at.sorts_are at.even at.index_is at.passes at.fails (sym is ∙ at.parts_are))

-- ---- the form of a line that begins with an owner

owned_unfit : (done : List Sort) (sort : Sort) (due : List Sort) (ahead : List (List ℕ)) (part : List ℕ) (behind : List (List ℕ)) (index : ℕ) (kind : Kind) (owner word : List ℕ) (args : List (List ℕ)) (form rest : List Sort)
    → begins_with_digit owner ≡ true → lookup word owned_forms ≡ Some form → form ≡ number ∷ keyword ∷ rest → form ≡ done ++ sort ∷ due → length done ≡ length ahead → index ≡ length ahead
    → Passes done ahead → Fails sort part kind → owner ∷ word ∷ args ≡ ahead ++ part ∷ behind → IsFirstMisfit line_part_faults (owner ∷ word ∷ args) index kind
owned_unfit [] sort due [] part behind index kind owner word args form rest digit e shape sorts even at passes fails is =
    let same : number ≡ sort = sort_first number sort (keyword ∷ rest) due (sym shape ∙ sorts) in
    let mine : owner ≡ part = first_of owner part (word ∷ args) behind is in
    let unfit = number_unfit part kind (subst (λ (s : Sort). Fails s part kind) (sym same) fails) in
    let some : List Sort → Option (List Sort) = λ f. Some f in
    let before = owner_unfit_begins [] sort due [] part behind kind passes fails even owner word args is digit (e ∙ ap some sorts) in
    stops_at line_part_faults (owner ∷ word ∷ args) [] owner (word ∷ args) index kind refl at before (λ others. no_owner owner digit others (subst (λ (p : List ℕ). ¬ IsNumber p) (sym mine) unfit))
owned_unfit (s ∷ done) sort due [] part behind index kind owner word args form rest digit e shape sorts even at passes fails is = absurd (omega (arith, even))
owned_unfit [] sort due (o ∷ ahead) part behind index kind owner word args form rest digit e shape sorts even at passes fails is = absurd (omega (arith, even))
owned_unfit (s ∷ []) sort due (o ∷ []) part behind index kind owner word args form rest digit e shape sorts even at passes fails is =
    let same : keyword ≡ sort = sort_second number keyword s sort rest due (sym shape ∙ sorts) in
    absurd (keyword_fits part kind (subst (λ (x : Sort). Fails x part kind) (sym same) fails))
owned_unfit (s ∷ t ∷ done) sort due (o ∷ []) part behind index kind owner word args form rest digit e shape sorts even at passes fails is = absurd (omega (arith, even))
owned_unfit (s ∷ []) sort due (o ∷ w ∷ ahead) part behind index kind owner word args form rest digit e shape sorts even at passes fails is = absurd (omega (arith, even))
owned_unfit (s ∷ t ∷ done) sort due (o ∷ w ∷ ahead) part behind index kind owner word args form rest digit e shape sorts even at passes fails is =
    let first : o ≡ owner = sym (first_of owner o (word ∷ args) (w ∷ (ahead ++ part ∷ behind)) is) in
    let second : w ≡ word = sym (first_of word w args (ahead ++ part ∷ behind) (rest_of owner o (word ∷ args) (w ∷ (ahead ++ part ∷ behind)) is)) in
    let some : List Sort → Option (List Sort) = λ f. Some f in
    let both : o ∷ w ∷ ahead ≡ owner ∷ word ∷ ahead = ap (λ (x : List ℕ). x ∷ w ∷ ahead) first ∙ ap (λ (x : List ℕ). owner ∷ x ∷ ahead) second in
    let before = owned_unfit_begins (s ∷ t ∷ done) sort due (o ∷ w ∷ ahead) part behind kind passes fails even owner word ahead args both is digit (e ∙ ap some sorts) in
    stops_at line_part_faults (owner ∷ word ∷ args) (o ∷ w ∷ ahead) part behind index kind is at before (λ others none.
    let mine = subst (λ (x : List ℕ). IsFaultless (line_part_faults (x ∷ word ∷ (ahead ++ part ∷ others)))) first (subst (λ (x : List ℕ). IsFaultless (line_part_faults (o ∷ x ∷ (ahead ++ part ∷ others)))) second none) in
    let faultless = owned_faultless owner digit word form (ahead ++ part ∷ others) e mine in
    let again = subst (λ (x : List ℕ). IsFaultless (form_faults (Some form) (o ∷ x ∷ (ahead ++ part ∷ others)))) (sym second) (subst (λ (x : List ℕ). IsFaultless (form_faults (Some form) (x ∷ word ∷ (ahead ++ part ∷ others)))) (sym first) faultless) in
    let sorted = subst (λ (f : List Sort). IsFaultless (form_faults (Some f) (o ∷ w ∷ (ahead ++ part ∷ others)))) sorts again in
    fails_on (s ∷ t ∷ done) sort due (o ∷ w ∷ ahead) part others kind passes fails (λ stage k h. sorted (suc stage) k h))

owned_surplus : (owner word : List ℕ) (args : List (List ℕ)) (form rest : List Sort) → begins_with_digit owner ≡ true → lookup word owned_forms ≡ Some form → form ≡ number ∷ keyword ∷ rest → length form < length (owner ∷ word ∷ args)
    → IsFirstMisfit line_part_faults (owner ∷ word ∷ args) (suc (suc (length rest))) Form
owned_surplus owner word args form rest digit e shape more =
    let few : length rest ≤ length args = omega (arith, more, ap length shape) in
    let count = length-take-le (length rest) args few in
    surplus_place line_part_faults (owner ∷ word ∷ args) (suc (suc (length rest))) Form (omega (arith, more, ap length shape))
    (owned_more owner digit word form e args (take (length rest) args) more (omega (arith, ap length shape, count)))
    (λ part others none.
    too_many form (owner ∷ word ∷ (take (length rest) args ++ part ∷ others)) (omega (arith, more, ap length shape, length-append (take (length rest) args) (part ∷ others), count))
    (owned_faultless owner digit word form (take (length rest) args ++ part ∷ others) e none))

owned_count_place : (parts : List (List ℕ)) (owner word : List ℕ) (args : List (List ℕ)) (form : List Sort) (index : ℕ) → parts ≡ owner ∷ word ∷ args → begins_with_digit owner ≡ true → lookup word owned_forms ≡ Some form
    → IsMiscounted (length form) (length parts) index → IsFirstMisfit line_part_faults parts index Form
owned_count_place parts owner word args form index is digit e (inl few) =
    missing_place line_part_faults parts index Form few.1 (subst (λ (ps : List (List ℕ)). BeginWell line_part_faults ps ps Form) (sym is) (owned_missing owner digit word form e args (omega (arith, few.0, ap length is))))
owned_count_place parts owner word args form index is digit e (inr many) =
    let shape = owned_begins word form e in
    let more : length form < length (owner ∷ word ∷ args) = omega (arith, many.0, ap length is) in
    let place = owned_surplus owner word args form shape.0 digit e shape.1 more in
    let count : suc (suc (length shape.0)) ≡ index = omega (arith, many.1, ap length shape.1) in
    rw (is, sym count) place

pub owned_place : (parts : List (List ℕ)) (owner word : List ℕ) (args : List (List ℕ)) (form : List Sort) (index : ℕ) (kind : Kind) → parts ≡ owner ∷ word ∷ args → begins_with_digit owner ≡ true → lookup word owned_forms ≡ Some form
    → MisfitAt form parts index kind → IsFirstMisfit line_part_faults parts index kind
owned_place parts owner word args form index kind is digit e (inl miscount) = of_kind line_part_faults parts index kind Form miscount.0 (owned_count_place parts owner word args form index is digit e miscount.1)
owned_place parts owner word args form index kind is digit e (inr at) =
    let shape = owned_begins word form e in
    rw is (owned_unfit at.done at.sort at.due at.ahead at.part at.behind index kind owner word args form shape.0 digit e shape.1 at.sorts_are at.even at.index_is at.passes at.fails (sym is ∙ at.parts_are))

-- ---- the first line

pub no_parts_place : (parts : List (List ℕ)) → parts ≡ [] → IsFirstMisfit header_part_faults parts 0 Header
no_parts_place parts is = subst (λ (ps : List (List ℕ)). IsFirstMisfit header_part_faults ps 0 Header) (sym is) (missing_place header_part_faults [] 0 Header refl (no_heap_begins [] (λ h. h)))

pub no_heap_place : (parts : List (List ℕ)) (first : List ℕ) (others : List (List ℕ)) (kind : Kind) → parts ≡ first ∷ others → bytes_eq first (codes "heap") ≡ false → kind ≡ Header → IsFirstMisfit header_part_faults parts 0 kind
no_heap_place parts first others kind is e same =
    let other = not_from_Decides (bytes_eq first (codes "heap")) (bytes_eq-Decides first (codes "heap")) e in
    of_kind header_part_faults parts 0 kind Header same (subst (λ (ps : List (List ℕ)). IsFirstMisfit header_part_faults ps 0 Header) (sym is)
    (stops_at header_part_faults (first ∷ others) [] first others 0 Header refl refl (no_heap_begins (first ∷ others) other) (λ left none. none 0 Header (refl, inl other))))

header_surplus : (first : List ℕ) (others : List (List ℕ)) → bytes_eq first (codes "heap") ≡ true → 6 < length (first ∷ others) → IsFirstMisfit header_part_faults (first ∷ others) 6 Header
header_surplus first others e many =
    let few : 5 ≤ length others = omega (arith, many) in
    let count = length-take-le 5 others few in
    surplus_place header_part_faults (first ∷ others) 6 Header (omega (arith, many)) (header_more first others (take 5 others) e many (omega (arith, count))) (λ part left none.
    none 0 Header (refl, inr (λ same. absurd (omega (arith, same, length-append (take 5 others) (part ∷ left), count)))))

header_counted : (parts : List (List ℕ)) (first : List ℕ) (others : List (List ℕ)) (index : ℕ) → parts ≡ first ∷ others → bytes_eq first (codes "heap") ≡ true → IsMiscounted 6 (length parts) index → IsFirstMisfit header_part_faults parts index Header
header_counted parts first others index is e (inl few) =
    missing_place header_part_faults parts index Header few.1 (subst (λ (ps : List (List ℕ)). BeginWell header_part_faults ps ps Header) (sym is) (header_missing first others e (omega (arith, few.0, ap length is))))
header_counted parts first others index is e (inr many) =
    let six : 6 ≡ index = omega (arith, many.1) in
    rw (is, sym six) (header_surplus first others e (omega (arith, many.0, ap length is)))

pub header_count_place : (parts : List (List ℕ)) (first : List ℕ) (others : List (List ℕ)) (index : ℕ) (kind : Kind) → parts ≡ first ∷ others → bytes_eq first (codes "heap") ≡ true → IsMiscounted 6 (length parts) index → kind ≡ Header → IsFirstMisfit header_part_faults parts index kind
header_count_place parts first others index kind is e miscount same = of_kind header_part_faults parts index kind Header same (header_counted parts first others index is e miscount)

header_unfit : (done : List Sort) (sort : Sort) (due : List Sort) (ahead : List (List ℕ)) (part : List ℕ) (behind : List (List ℕ)) (index : ℕ) (kind : Kind) (parts : List (List ℕ)) (first : List ℕ) (others : List (List ℕ))
    → parts ≡ first ∷ others → bytes_eq first (codes "heap") ≡ true → header_form ≡ done ++ sort ∷ due → length done ≡ length ahead → index ≡ length ahead → Passes done ahead → Fails sort part kind → parts ≡ ahead ++ part ∷ behind
    → IsFirstMisfit header_part_faults parts index kind
header_unfit [] sort due [] part behind index kind parts first others is e sorts even at passes fails whole =
    let same : keyword ≡ sort = sort_first keyword sort (number ∷ number ∷ number ∷ number ∷ number ∷ []) due sorts in
    absurd (keyword_fits part kind (subst (λ (s : Sort). Fails s part kind) (sym same) fails))
header_unfit (s ∷ done) sort due [] part behind index kind parts first others is e sorts even at passes fails whole = absurd (omega (arith, even))
header_unfit [] sort due (w ∷ ahead) part behind index kind parts first others is e sorts even at passes fails whole = absurd (omega (arith, even))
header_unfit (s ∷ done) sort due (w ∷ ahead) part behind index kind parts first others is e sorts even at passes fails whole =
    let same : w ≡ first = sym (first_of first w others (ahead ++ part ∷ behind) (sym is ∙ whole)) in
    let heap = subst (λ (x : List ℕ). bytes_eq x (codes "heap") ≡ true) (sym same) e in
    let before = header_unfit_begins (s ∷ done) sort due (w ∷ ahead) part behind kind passes fails even parts w ahead refl whole heap sorts in
    stops_at header_part_faults parts (w ∷ ahead) part behind index kind whole at before (λ left none.
    fails_on (s ∷ done) sort due (w ∷ ahead) part left kind passes fails (λ stage k h. none (suc stage) k (subst (λ (f : List Sort). each_part f (w ∷ (ahead ++ part ∷ left)) stage k) (sym sorts) h)))

-- ---- what was found of a form

pub keyword_found : (parts : List (List ℕ)) (word : List ℕ) (args : List (List ℕ)) (form : List Sort) (found : Option Misfit) → parts ≡ word ∷ args → begins_with_digit word ≡ false → lookup word keyword_forms ≡ Some form
    → IfSome found (λ m. MisfitAt form parts m.index (class m.why)) → IfSome found (λ m. IsFirstMisfit line_part_faults parts m.index (class m.why))
keyword_found parts word args form None is bare e at = tt
keyword_found parts word args form (Some m) is bare e at = keyword_place parts word args form m.index (class m.why) is bare e at

pub owned_found : (parts : List (List ℕ)) (owner word : List ℕ) (args : List (List ℕ)) (form : List Sort) (found : Option Misfit) → parts ≡ owner ∷ word ∷ args → begins_with_digit owner ≡ true → lookup word owned_forms ≡ Some form
    → IfSome found (λ m. MisfitAt form parts m.index (class m.why)) → IfSome found (λ m. IsFirstMisfit line_part_faults parts m.index (class m.why))
owned_found parts owner word args form None is digit e at = tt
owned_found parts owner word args form (Some m) is digit e at = owned_place parts owner word args form m.index (class m.why) is digit e at

pub header_found : (parts : List (List ℕ)) (first : List ℕ) (others : List (List ℕ)) (sorts : List Sort) (found : Option Misfit) → parts ≡ first ∷ others → bytes_eq first (codes "heap") ≡ true → sorts ≡ header_form
    → MatchOption found (Judges (each_part sorts parts) (Ok (tt {0}))) (λ m. FailsAt sorts parts m.index (class m.why)) → IfSome found (λ m. IsFirstMisfit header_part_faults parts m.index (class m.why))
header_found parts first others sorts None is e form at = tt
header_found parts first others sorts (Some m) is e form at =
    header_unfit at.done at.sort at.due at.ahead at.part at.behind m.index (class m.why) parts first others is e (sym form ∙ at.sorts_are) at.even at.index_is at.passes at.fails at.parts_are

pub found_of_first : (n : ℕ) (parts : List (List ℕ)) (found : Option Misfit) → n ≡ 1 → IfSome found (λ m. IsFirstMisfit header_part_faults parts m.index (class m.why)) → IfSome found (λ m. IsFirstMisfit (part_faults_of n) parts m.index (class m.why))
found_of_first n parts None e at = tt
found_of_first n parts (Some m) e at = subst (λ (k : ℕ). IsFirstMisfit (part_faults_of k) parts m.index (class m.why)) (sym e) at

pub found_of_later : (n : ℕ) (parts : List (List ℕ)) (found : Option Misfit) → (n ≡ 1 → ⊥) → IfSome found (λ m. IsFirstMisfit line_part_faults parts m.index (class m.why)) → IfSome found (λ m. IsFirstMisfit (part_faults_of n) parts m.index (class m.why))
found_of_later zero parts found e at = at
found_of_later (suc zero) parts found e at = absurd (e refl)
found_of_later (suc (suc n)) parts found e at = at
