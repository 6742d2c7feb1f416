-- What a part that was understood is.
use Rattle.std.proofs.Common.{◌≡◌, ℕ, ℤ, ◌^◌, ◌<◌, ◌≤◌, Bool, true, false, cond, leb, ltb, eqb, ◌&&◌, List, [], ◌∷◌, ◌++◌, Option, Some, None, refl, ap, subst, ◌∙◌, arith}
use Rattle.std.proofs.lemmas.Slice.Eq.{bytes_eq-Decides}
use Rattle.std.specs.Prelude.{decimal, codes}
use Rattle.std.specs.Fmt.{signed_decimal}
use Rattle.std.specs.Str.{bytes_eq}
use Rattle.std.proofs.lemmas.Bool.{and_parts, leb-true, ltb-true, eqb-true}
use Rattle.rh_layout.specs.declared.command.RootId.{RootId}
use Rattle.rh_layout.specs.Word.{IsWhole, is_whole}
use Rattle.rh_layout.specs.lemmas.Word.{whole_from}
use Rattle.rh_text.specs.Number.{number_of, integer_of}
use Rattle.rh_text.specs.Parts.{◌>>=◌, first_and_rest}
use Rattle.rh_text.specs.Root.{root_of, root_text}
use Rattle.rh_text.specs.lemmas.Cuts.{some_is}
use Rattle.rh_text.specs.lemmas.Numbers.{number_means}
use Rattle.rh_text.specs.lemmas.Integers.{integer_means}
use Rattle.rh_text.specs.lemmas.Roots.{root_means}
use Rattle.rh_text.specs.lemmas.Numbers.{number_of-decimal}
use Rattle.rh_dump.specs.texts.Part.{number_up_to, whole_of, small_root_of, after_at, kind_and_rest, object_head, reference_of}
use Rattle.rh_dump.specs.texts.Line.{kind_parts, HasKind}
use Rattle.rh_dump.specs.declared.reading.due.Version.{Version}
use Rattle.rh_dump.specs.declared.reading.due.Version.TheVariants.{One, Two}

bind_some : {A B : Type 0} (o : Option A) (f : A → Option B) (y : B) → (o >>= f) ≡ Some y → (x : A) × (o ≡ Some x) × (f x ≡ Some y)
bind_some (Some x) f y e = (x, refl, e)
bind_some None f y e = absurd cc

passed : {A : Type 0} (t : Bool) (x y : A) → cond t (Some x) None ≡ Some y → (t ≡ true) × (x ≡ y)
passed true x y e = (refl, some_is x y e)
passed false x y e = absurd cc

pub number_up_to-means : (limit : ℕ) (part : List ℕ) (n : ℕ) → number_up_to limit part ≡ Some n → (part ≡ decimal n) × (n ≤ limit)
unfolding number_up_to
number_up_to-means limit part n e =
    let a = bind_some (number_of part) (λ (m : ℕ). cond (leb m limit) (Some m) None) n e in
    let p = passed (leb a.0 limit) a.0 n a.2 in
    let small : a.0 ≤ limit = leb-true a.0 limit p.0 in
    ((number_means part a.0 a.1).0 ∙ ap decimal p.1, omega (arith, small, p.1))

pub whole_of-means : (part : List ℕ) (n : ℤ) → whole_of part ≡ Some n → (part ≡ signed_decimal n) × IsWhole n
unfolding whole_of
whole_of-means part n e =
    let a = bind_some (integer_of part) (λ (m : ℤ). cond (is_whole m) (Some m) None) n e in
    let p = passed (is_whole a.0) a.0 n a.2 in
    ((integer_means part a.0 a.1).0 ∙ ap signed_decimal p.1, subst IsWhole p.1 (whole_from a.0 p.0))

abbrev pub IsSmallRoot : List ℕ → RootId → Type 0
IsSmallRoot part r = (part ≡ root_text r) × (r.owner < 16) × (r.slot < 256)

pub small_root_of-means : (part : List ℕ) (r : RootId) → small_root_of part ≡ Some r → IsSmallRoot part r
unfolding small_root_of
small_root_of-means part r e =
    let a = bind_some (root_of part) (λ (s : RootId). cond (ltb s.owner 16 && ltb s.slot 256) (Some s) None) r e in
    let p = passed (ltb a.0.owner 16 && ltb a.0.slot 256) a.0 r a.2 in
    let both = and_parts (ltb a.0.owner 16) (ltb a.0.slot 256) p.0 in
    subst (IsSmallRoot part) p.1 ((root_means part a.0 a.1).0, ltb-true a.0.owner 16 both.0, ltb-true a.0.slot 256 both.1)

pub after_at-means : (part digits : List ℕ) → after_at part ≡ Some digits → part ≡ 64 ∷ digits
after_at-means [] digits e = absurd cc
after_at-means (b ∷ bs) digits e =
    let p = passed (eqb b 64) bs digits e in
    let at : b ≡ 64 = eqb-true b 64 p.0 in
    let rest : bs ≡ digits = p.1 in
    cc

abbrev pub of_kind : Bool → List (List ℕ) → Bool × List (List ℕ)
of_kind raw rest = (raw, rest)

-- the parts are those of an object of this kind, and the rest
abbrev IsKindOf : Version → List (List ℕ) → Bool × List (List ℕ) → Type 0
IsKindOf version parts found = (parts ≡ kind_parts found.0 ++ found.1) × HasKind version found.0

kind_by : (t : Bool) (part : List ℕ) (parts : List (List ℕ)) → (t ≡ true → part ≡ codes "raw") → IsKindOf Two (part ∷ parts) (cond t (of_kind true parts) (of_kind false (part ∷ parts)))
kind_by true part parts is = (ap (λ (w : List ℕ). w ∷ parts) (is refl), tt)
kind_by false part parts is = (refl, tt)

kind_and_rest-means : (version : Version) (parts : List (List ℕ)) → IsKindOf version parts (kind_and_rest version parts)
kind_and_rest-means One parts = (refl, refl)
kind_and_rest-means Two [] = (refl, tt)
kind_and_rest-means Two (part ∷ parts) = kind_by (bytes_eq part (codes "raw")) part parts (bytes_eq-Decides part (codes "raw")).0

-- these parts begin an object's line, in a version that has objects of this kind
pub record IsHeadOf (version : Version) (parts : List (List ℕ)) (h : List ℕ × Bool × List ℕ × List (List ℕ)) : Type 0 where
  pub texts : parts ≡ (64 ∷ h.0) ∷ (kind_parts h.1 ++ (h.2 ∷ h.3))
  pub kind : HasKind version h.1

abbrev pub head_of : List ℕ → Bool → List ℕ → List (List ℕ) → List ℕ × Bool × List ℕ × List (List ℕ)
head_of own raw fields values = (own, raw, fields, values)

first_is : (parts : List (List ℕ)) (x : List ℕ × List (List ℕ)) → first_and_rest parts ≡ Some x → parts ≡ x.0 ∷ x.1
first_is [] x e = absurd cc
first_is (p ∷ ps) x e = ap (λ (y : List ℕ × List (List ℕ)). y.0 ∷ y.1) (some_is (p, ps) x e)

pub object_head-means : (version : Version) (parts : List (List ℕ)) (h : List ℕ × Bool × List ℕ × List (List ℕ)) → object_head version parts ≡ Some h → IsHeadOf version parts h
unfolding object_head
object_head-means version [] h e = absurd cc
object_head-means version (a ∷ rest) h e =
    let found = kind_and_rest version rest in
    let p = bind_some (after_at a) (λ own. first_and_rest found.1 >>= λ fields. Some (head_of own found.0 fields.0 fields.1)) h e in
    let q = bind_some (first_and_rest found.1) (λ fields. Some (head_of p.0 found.0 fields.0 fields.1)) h p.2 in
    let kind = kind_and_rest-means version rest in
    let own : a ≡ 64 ∷ p.0 = after_at-means a p.0 p.1 in
    let begun : IsHeadOf version (a ∷ rest) (head_of p.0 found.0 q.0.0 q.0.1) = record {
      texts = ap (λ (x : List ℕ). x ∷ rest) own ∙ ap (λ (xs : List (List ℕ)). (64 ∷ p.0) ∷ xs) (kind.0 ∙ ap (λ (xs : List (List ℕ)). kind_parts found.0 ++ xs) (first_is found.1 q.0 q.1));
      kind = kind.1;
    } in
    subst (IsHeadOf version (a ∷ rest)) (some_is (head_of p.0 found.0 q.0.0 q.0.1) h q.2) begun

-- ---- references, and the first two parts of an object's line

pub reference_of-plain : (part : List ℕ) → after_at part ≡ None → reference_of part ≡ None
unfolding reference_of
reference_of-plain part e = ap (λ (o : Option (List ℕ)). o >>= number_of) e

pub reference_of-at : (k : ℕ) → k < 2 ^ 32 → reference_of (64 ∷ decimal k) ≡ Some k
unfolding reference_of
reference_of-at k small = number_of-decimal k small

abbrev head_by : List (List ℕ) → Bool → Option (List ℕ) → Option (List ℕ × Bool × List ℕ × List (List ℕ))
head_by rest raw at = at >>= λ own. first_and_rest rest >>= λ fields. Some (head_of own raw fields.0 fields.1)

none_by : (at : Option (List ℕ)) (raw : Bool) → head_by [] raw at ≡ None
none_by None raw = refl
none_by (Some own) raw = refl

-- by what stands after the first part: the kind, and the parts after it
pub object_head-at : (version : Version) (first fields : List ℕ) (others values : List (List ℕ)) (raw : Bool) (own : List ℕ) → kind_and_rest version others ≡ of_kind raw (fields ∷ values) → after_at first ≡ Some own → object_head version (first ∷ others) ≡ Some (head_of own raw fields values)
unfolding object_head
object_head-at version first fields others values raw own kind e = ap (λ (found : Bool × List (List ℕ)). head_by found.1 found.0 (after_at first)) kind ∙ ap (head_by (fields ∷ values) raw) e

pub object_head-plain : (version : Version) (first : List ℕ) (others : List (List ℕ)) → after_at first ≡ None → object_head version (first ∷ others) ≡ None
unfolding object_head
object_head-plain version first others e = ap (head_by (kind_and_rest version others).1 (kind_and_rest version others).0) e

pub object_head-short : (version : Version) (first : List ℕ) (others : List (List ℕ)) (raw : Bool) → kind_and_rest version others ≡ of_kind raw [] → object_head version (first ∷ others) ≡ None
unfolding object_head
object_head-short version first others raw kind = ap (λ (found : Bool × List (List ℕ)). head_by found.1 found.0 (after_at first)) kind ∙ none_by (after_at first) raw
