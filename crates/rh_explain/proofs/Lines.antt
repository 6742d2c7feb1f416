-- The faults of a line, stage by stage: what a stage finds is the line's first fault.
use Rattle.std.proofs.Common.{◌≡◌, ◌≢◌, ℕ, zero, suc, ◌⊎◌, inl, inr, Bool, true, false, cond, eqb, List, [], ◌∷◌, length, Option, Some, None, Result, Ok, Err, refl, sym, ap, subst, ◌∙◌, arith}
use Rattle.std.specs.Prelude.{codes}
use Rattle.std.specs.Str.{bytes_eq}
use Rattle.std.proofs.lemmas.Bool.{false≢true, ne_eqb}
use Rattle.std.proofs.lemmas.Bool.Decides.{not_from_Decides}
use Rattle.std.proofs.lemmas.Slice.Eq.{bytes_eq-Decides}
use Rattle.rh_text.specs.Parts.{parts_of, begins_with_digit, IsFormedLine}
use Rattle.rh_text.specs.RawLine.{RawLine}
use Rattle.rh_text.specs.Stages.{IsLeast}
use Rattle.rh_text.specs.lemmas.Stages.{Judges, judges-here, judges-later}
use Rattle.rh_syntax.specs.declared.fault.Kind.{Kind}
use Rattle.rh_syntax.specs.declared.fault.Kind.TheVariants.{Long, Cut, Form, Header, Word}
use Rattle.rh_syntax.specs.Faults.{Sort, header_form, owned_forms, keyword_forms, lookup, form_of, keyword_form_of, form_faults, each_part, BeginsWithOwner, LacksKeyword, IsDigitFirst, IsFirstPart, line_part_faults, header_part_faults, raw_line_faults}
use Rattle.rh_syntax.specs.Reading.{request_or_kind, header_or_kind}
use Rattle.rh_syntax.specs.lemmas.FirstFault.{begins_with_digit-Decides, judges-with_owner, judges-without_owner, judges-request_or_kind, judges-header_or_kind}
use Rattle.rh_explain.specs.Explain.{kind_told, fault_of, part_faults_of}
use Rattle.rh_explain.specs.Judging.{IsMiscounted, IsLong, IsOverLimit}

-- what stands for what reading gives: no fault, or a kind
abbrev pub Read : Type 0
Read = Result (Unit {0}) Kind

-- ---- the number of parts

miscounted : (due have index : ℕ) → IsMiscounted due have index → have ≢ due
miscounted due have index is same = elim is [ inl few ↦ absurd (omega (arith, few.0, same)) | inr many ↦ absurd (omega (arith, many.0, same)) ]

pub count_judged : (form : List Sort) (parts : List (List ℕ)) (index : ℕ) → IsMiscounted (length form) (length parts) index → Judges {A = Unit {0}} (form_faults (Some form) parts) (Err Form)
count_judged form parts index is = judges-here Form (length parts ≢ length form) (each_part form parts) (miscounted (length form) (length parts) index is)

pub parts_judged : (form : List Sort) (parts : List (List ℕ)) (read : Read) → length parts ≡ length form → Judges (each_part form parts) read → Judges (form_faults (Some form) parts) read
parts_judged form parts read same judged = judges-later Form (length parts ≢ length form) (each_part form parts) read (λ differs. differs same) judged

-- ---- a line that begins with an owner

some_none : {A : Type 0} (x : A) → ◌≡◌ {A = Option A} (Some x) None → ⊥
some_none x e = cc

pub digit_first : (part : List ℕ) → begins_with_digit part ≡ true → IsDigitFirst part
digit_first part e = (begins_with_digit-Decides part).0 e

pub no_digit_first : (part : List ℕ) → begins_with_digit part ≡ false → ¬ IsDigitFirst part
no_digit_first part e = not_from_Decides (begins_with_digit part) (begins_with_digit-Decides part) e

-- the owner stands alone
pub alone_judged : (owner : List ℕ) → begins_with_digit owner ≡ true → Judges {A = Unit {0}} (line_part_faults (owner ∷ [])) (Err Form)
alone_judged owner e =
    let owned = digit_first owner e in
    judges-with_owner (owner ∷ []) (Err Form) owned (judges-here Form (LacksKeyword (owner ∷ [])) _ owned)

module _ (owner word : List ℕ) (args : List (List ℕ)) (digit : begins_with_digit owner ≡ true) where
  -- the parts of the line
  abbrev owned_parts : List (List ℕ)
  owned_parts = owner ∷ word ∷ args

  pub owned_unknown : lookup word owned_forms ≡ None → Judges {A = Unit {0}} (line_part_faults owned_parts) (Err Word)
  owned_unknown e =
      let owned = digit_first owner digit in
      judges-with_owner owned_parts (Err Word) owned
      (judges-later Form (LacksKeyword owned_parts) _ (Err Word) (λ h. h)
      (judges-here Word ((¬ BeginsWithOwner owned_parts) ⊎ (form_of owned_forms owned_parts ≡ None)) _ (inr e)))

  pub owned_known : (form : List Sort) (read : Read) → lookup word owned_forms ≡ Some form → Judges (form_faults (Some form) owned_parts) read → Judges (line_part_faults owned_parts) read
  owned_known form read e judged =
      let owned = digit_first owner digit in
      judges-with_owner owned_parts read owned
      (judges-later Form (LacksKeyword owned_parts) _ read (λ h. h)
      (judges-later Word ((¬ BeginsWithOwner owned_parts) ⊎ (form_of owned_forms owned_parts ≡ None)) _ read
      (λ h. elim h [ inl bare ↦ bare owned | inr none ↦ some_none form (sym e ∙ none) ])
      (subst (λ (o : Option (List Sort)). Judges (form_faults o owned_parts) read) (sym e) judged)))

-- ---- a line that begins with its keyword

cons_nil : {A : Type 0} (x : A) (xs : List A) → ◌≡◌ {A = List A} (x ∷ xs) [] → ⊥
cons_nil x xs e = cc

pub blank_judged : Judges {A = Unit {0}} (line_part_faults []) (Err Form)
blank_judged = judges-without_owner [] (Err Form) (λ h. h) (judges-here Form (◌≡◌ {A = List (List ℕ)} [] []) _ refl)

module _ (word : List ℕ) (args : List (List ℕ)) (bare : begins_with_digit word ≡ false) where
  pub keyword_unknown : lookup word keyword_forms ≡ None → Judges {A = Unit {0}} (line_part_faults (word ∷ args)) (Err Word)
  keyword_unknown e =
      judges-without_owner (word ∷ args) (Err Word) (no_digit_first word bare)
      (judges-later Form ((word ∷ args) ≡ []) _ (Err Word) (cons_nil word args)
      (judges-here Word (keyword_form_of (word ∷ args) ≡ None) _ e))

  pub keyword_known : (form : List Sort) (read : Read) → lookup word keyword_forms ≡ Some form → Judges (form_faults (Some form) (word ∷ args)) read → Judges (line_part_faults (word ∷ args)) read
  keyword_known form read e judged =
      judges-without_owner (word ∷ args) read (no_digit_first word bare)
      (judges-later Form ((word ∷ args) ≡ []) _ read (cons_nil word args)
      (judges-later Word (keyword_form_of (word ∷ args) ≡ None) _ read (λ none. some_none form (sym e ∙ none))
      (subst (λ (o : Option (List Sort)). Judges (form_faults o (word ∷ args)) read) (sym e) judged)))

-- the same of a line of these parts
pub keyword_line : (parts : List (List ℕ)) (word : List ℕ) (args : List (List ℕ)) (form : List Sort) (read : Read) → parts ≡ word ∷ args → begins_with_digit word ≡ false → lookup word keyword_forms ≡ Some form → Judges (form_faults (Some form) parts) read → Judges (line_part_faults parts) read
keyword_line parts word args form read is bare e judged =
    subst (λ (ps : List (List ℕ)). Judges (line_part_faults ps) read) (sym is) (keyword_known word args bare form read e (subst (λ (ps : List (List ℕ)). Judges (form_faults (Some form) ps) read) is judged))

pub owned_line : (parts : List (List ℕ)) (owner word : List ℕ) (args : List (List ℕ)) (form : List Sort) (read : Read) → parts ≡ owner ∷ word ∷ args → begins_with_digit owner ≡ true → lookup word owned_forms ≡ Some form → Judges (form_faults (Some form) parts) read → Judges (line_part_faults parts) read
owned_line parts owner word args form read is digit e judged =
    subst (λ (ps : List (List ℕ)). Judges (line_part_faults ps) read) (sym is) (owned_known owner word args digit form read e (subst (λ (ps : List (List ℕ)). Judges (form_faults (Some form) ps) read) is judged))

pub keyword_unknown_line : (parts : List (List ℕ)) (word : List ℕ) (args : List (List ℕ)) (kind : Kind) → parts ≡ word ∷ args → begins_with_digit word ≡ false → lookup word keyword_forms ≡ None → kind ≡ Word → Judges {A = Unit {0}} (line_part_faults parts) (Err kind)
keyword_unknown_line parts word args kind is bare e word_kind =
    subst (λ (k : Kind). Judges {A = Unit {0}} (line_part_faults parts) (Err k)) (sym word_kind) (subst (λ (ps : List (List ℕ)). Judges {A = Unit {0}} (line_part_faults ps) (Err Word)) (sym is) (keyword_unknown word args bare e))

pub owned_unknown_line : (parts : List (List ℕ)) (owner word : List ℕ) (args : List (List ℕ)) (kind : Kind) → parts ≡ owner ∷ word ∷ args → begins_with_digit owner ≡ true → lookup word owned_forms ≡ None → kind ≡ Word → Judges {A = Unit {0}} (line_part_faults parts) (Err kind)
owned_unknown_line parts owner word args kind is digit e word_kind =
    subst (λ (k : Kind). Judges {A = Unit {0}} (line_part_faults parts) (Err k)) (sym word_kind) (subst (λ (ps : List (List ℕ)). Judges {A = Unit {0}} (line_part_faults ps) (Err Word)) (sym is) (owned_unknown owner word args digit e))

pub alone_line : (parts : List (List ℕ)) (owner : List ℕ) → parts ≡ owner ∷ [] → begins_with_digit owner ≡ true → Judges {A = Unit {0}} (line_part_faults parts) (Err Form)
alone_line parts owner is digit = subst (λ (ps : List (List ℕ)). Judges {A = Unit {0}} (line_part_faults ps) (Err Form)) (sym is) (alone_judged owner digit)

pub blank_line : (parts : List (List ℕ)) → parts ≡ [] → Judges {A = Unit {0}} (line_part_faults parts) (Err Form)
blank_line parts is = subst (λ (ps : List (List ℕ)). Judges {A = Unit {0}} (line_part_faults ps) (Err Form)) (sym is) blank_judged

-- ---- the first line

-- the first part isn't `heap`, or the parts aren't six
abbrev NoHeader : List (List ℕ) → Type 0
NoHeader parts = (¬ IsFirstPart (codes "heap") parts) ⊎ (length parts ≢ 6)

pub no_parts_header : Judges {A = Unit {0}} (header_part_faults []) (Err Header)
no_parts_header = judges-here Header (NoHeader []) _ (inl (λ h. h))

pub no_heap_judged : (first : List ℕ) (others : List (List ℕ)) → bytes_eq first (codes "heap") ≡ false → Judges {A = Unit {0}} (header_part_faults (first ∷ others)) (Err Header)
no_heap_judged first others e = judges-here Header (NoHeader (first ∷ others)) _ (inl (not_from_Decides (bytes_eq first (codes "heap")) (bytes_eq-Decides first (codes "heap")) e))

pub header_count_judged : (parts : List (List ℕ)) (index : ℕ) → IsMiscounted (length header_form) (length parts) index → Judges {A = Unit {0}} (header_part_faults parts) (Err Header)
header_count_judged parts index is = judges-here Header (NoHeader parts) _ (inr (miscounted 6 (length parts) index is))

pub header_judged : (first : List ℕ) (others : List (List ℕ)) (read : Read) → bytes_eq first (codes "heap") ≡ true → length (first ∷ others) ≡ length header_form → Judges (each_part header_form (first ∷ others)) read → Judges (header_part_faults (first ∷ others)) read
header_judged first others read e same judged =
    judges-later Header (NoHeader (first ∷ others)) _ read
    (λ h. elim h [ inl other ↦ other ((bytes_eq-Decides first (codes "heap")).0 e) | inr differs ↦ differs same ]) judged

pub header_line : (parts : List (List ℕ)) (first : List ℕ) (others : List (List ℕ)) (read : Read) → parts ≡ first ∷ others → bytes_eq first (codes "heap") ≡ true → length parts ≡ length header_form → Judges (each_part header_form parts) read → Judges (header_part_faults parts) read
header_line parts first others read is e same judged =
    subst (λ (ps : List (List ℕ)). Judges (header_part_faults ps) read) (sym is) (header_judged first others read e (ap length (sym is) ∙ same) (subst (λ (ps : List (List ℕ)). Judges (each_part header_form ps) read) is judged))

pub no_header_line : (parts : List (List ℕ)) → parts ≡ [] → Judges {A = Unit {0}} (header_part_faults parts) (Err Header)
no_header_line parts is = subst (λ (ps : List (List ℕ)). Judges {A = Unit {0}} (header_part_faults ps) (Err Header)) (sym is) no_parts_header

pub no_heap_line : (parts : List (List ℕ)) (first : List ℕ) (others : List (List ℕ)) (kind : Kind) → parts ≡ first ∷ others → bytes_eq first (codes "heap") ≡ false → kind ≡ Header → Judges {A = Unit {0}} (header_part_faults parts) (Err kind)
no_heap_line parts first others kind is e header_kind =
    subst (λ (k : Kind). Judges {A = Unit {0}} (header_part_faults parts) (Err k)) (sym header_kind) (subst (λ (ps : List (List ℕ)). Judges {A = Unit {0}} (header_part_faults ps) (Err Header)) (sym is) (no_heap_judged first others e))

pub header_count_line : (parts : List (List ℕ)) (index : ℕ) (kind : Kind) → IsMiscounted (length header_form) (length parts) index → kind ≡ Header → Judges {A = Unit {0}} (header_part_faults parts) (Err kind)
header_count_line parts index kind is header_kind = subst (λ (k : Kind). Judges {A = Unit {0}} (header_part_faults parts) (Err k)) (sym header_kind) (header_count_judged parts index is)

-- ---- a raw line

module _ (faults : List (List ℕ) → ℕ → Kind → Type 0) (n : ℕ) (bytes : List ℕ) where
  -- the line with its line end, or without
  abbrev raw_of : Bool → RawLine
  raw_of ended = record { bytes = bytes; ended = ended }

  pub long_judged : (ended : Bool) → IsLong n bytes → Judges {A = Unit {0}} (raw_line_faults faults n (raw_of ended)) (Err Long)
  long_judged ended long = judges-here Long (IsLong n bytes) _ long

  pub cut_judged : (ended : Bool) → ¬ IsLong n bytes → ended ≡ false → Judges {A = Unit {0}} (raw_line_faults faults n (raw_of ended)) (Err Cut)
  cut_judged ended short e = judges-later Long _ _ (Err Cut) short (judges-here Cut (ended ≡ false) _ e)

  no_cut : (ended : Bool) → ended ≡ true → ¬ (ended ≡ false)
  no_cut ended e f = false≢true (sym f ∙ e)

  pub ill_judged : (ended : Bool) → ¬ IsLong n bytes → ended ≡ true → ¬ IsFormedLine bytes → Judges {A = Unit {0}} (raw_line_faults faults n (raw_of ended)) (Err Form)
  ill_judged ended short e ill =
      judges-later Long _ _ (Err Form) short
      (judges-later Cut (ended ≡ false) _ (Err Form) (no_cut ended e) (judges-here Form (¬ IsFormedLine bytes) _ ill))

  pub formed_judged : (ended : Bool) (read : Read) → ¬ IsLong n bytes → ended ≡ true → IsFormedLine bytes → Judges (faults (parts_of bytes)) read → Judges (raw_line_faults faults n (raw_of ended)) read
  formed_judged ended read short e formed judged =
      judges-later Long _ _ read short
      (judges-later Cut (ended ≡ false) _ read (no_cut ended e)
      (judges-later Form (¬ IsFormedLine bytes) _ read (λ ill. ill formed) judged))

-- ---- two that the same faults judge are alike

alike_least : {faults : ℕ → Kind → Type 0} (a b : Kind) → IsLeast faults a → IsLeast faults b → a ≡ b
alike_least a b l m = elim (l.least m.stage b m.holds) [
  | inl before ↦ elim (m.least l.stage a l.holds) [ inl after ↦ absurd (omega (arith, before, after)) | inr same ↦ same.1 ]
  | inr same ↦ sym same.1
]

pub alike : {A B : Type 0} {faults : ℕ → Kind → Type 0} (r : Result A Kind) (s : Result B Kind) → Judges faults r → Judges faults s → kind_told r ≡ kind_told s
alike (Ok x) (Ok y) j k = refl
alike (Ok x) (Err b) j k = let m = k.least b refl in absurd (j.none x refl m.stage b m.holds)
alike (Err a) (Ok y) j k = let l = j.least a refl in absurd (k.none y refl l.stage a l.holds)
alike (Err a) (Err b) j k = let some : Kind → Option Kind = λ kind. Some kind in ap some (alike_least a b (j.least a refl) (k.least b refl))

-- ---- the line of a number

pub told : (n : ℕ) (raw : RawLine) (read : Read) → Judges (raw_line_faults (part_faults_of n) n raw) read → kind_told read ≡ fault_of n raw
told zero raw read judged = alike read (request_or_kind 0 raw) judged (judges-request_or_kind 0 raw)
told (suc zero) raw read judged = alike read (header_or_kind raw) judged (judges-header_or_kind raw)
told (suc (suc n)) raw read judged =
    let later : eqb (suc (suc n)) 1 ≡ false = ne_eqb (suc (suc n)) 1 (λ e. absurd (omega (arith, e))) in
    alike read (request_or_kind (suc (suc n)) raw) judged (judges-request_or_kind (suc (suc n)) raw)
    ∙ sym (ap (λ (t : Bool). cond t (kind_told (header_or_kind raw)) (kind_told (request_or_kind (suc (suc n)) raw))) later)

pub of_first : (n : ℕ) (parts : List (List ℕ)) (read : Read) → n ≡ 1 → Judges (header_part_faults parts) read → Judges (part_faults_of n parts) read
of_first n parts read e judged = subst (λ (m : ℕ). Judges (part_faults_of m parts) read) (sym e) judged

pub of_later : (n : ℕ) (parts : List (List ℕ)) (read : Read) → (n ≡ 1 → ⊥) → Judges (line_part_faults parts) read → Judges (part_faults_of n parts) read
of_later zero parts read e judged = judged
of_later (suc zero) parts read e judged = absurd (e refl)
of_later (suc (suc n)) parts read e judged = judged

-- ---- the limits

pub limit_judged : (faults : List (List ℕ) → ℕ → Kind → Type 0) (n : ℕ) (bytes : List ℕ) (ended : Bool) (kind : Kind) → IsOverLimit n bytes ended kind → Judges {A = Unit {0}} (raw_line_faults faults n (record { bytes = bytes; ended = ended })) (Err kind)
limit_judged faults n bytes ended kind (inl long) = subst (λ (k : Kind). Judges {A = Unit {0}} (raw_line_faults faults n (record { bytes = bytes; ended = ended })) (Err k)) (sym long.0) (long_judged faults n bytes ended long.1)
limit_judged faults n bytes ended kind (inr cut) = subst (λ (k : Kind). Judges {A = Unit {0}} (raw_line_faults faults n (record { bytes = bytes; ended = ended })) (Err k)) (sym cut.0) (cut_judged faults n bytes ended cut.1 cut.2)

-- a line that is within the limits, and ended, has no such fault
pub no_limit : (n : ℕ) (bytes : List ℕ) (ended : Bool) (kind : Kind) → IsOverLimit n bytes ended kind → ¬ IsLong n bytes → ended ≡ true → ⊥
no_limit n bytes ended kind (inl long) short e = short long.1
no_limit n bytes ended kind (inr cut) short e = false≢true (sym cut.2 ∙ e)
