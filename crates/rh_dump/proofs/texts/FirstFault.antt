-- The fault that reading finds comes first in the order of the format.
use Rattle.std.proofs.Common.{◌≡◌, ℕ, ℤ, ◌+◌, ◌^◌, ◌<◌, ◌≤◌, Bool, true, false, cond, ltb, eqb, not, List, [], ◌∷◌, length, Option, Some, None, Result, Ok, Err, refl, sym, ap, subst, ◌∙◌, arith, inl, inr}
use Rattle.std.specs.Bool.{Decides}
use Rattle.std.specs.Prelude.{codes, decimal, map, ⊤}
use Rattle.std.specs.Fmt.{signed_decimal}
use Rattle.std.specs.List.{AllByRecursion}
use Rattle.std.specs.Str.{bytes_eq}
use Rattle.std.proofs.lemmas.Fmt.{decimal_injective}
use Rattle.std.proofs.lemmas.Bool.{false≢true, ltb-true, ltb-false, eqb-true, eq-eqb}
use Rattle.std.proofs.lemmas.Bool.Decides.{Decides-ltb}
use Rattle.std.proofs.lemmas.Slice.Eq.{bytes_eq-Decides}
use Rattle.rh_layout.specs.declared.value.Value.{Value}
use Rattle.rh_layout.specs.declared.value.Value.TheVariants.{Nil, Int, Ref}
use Rattle.rh_layout.specs.declared.command.RootId.{RootId}
use Rattle.rh_text.specs.Parts.{parts_of, is_formed, two_parts, IsFormedLine}
use Rattle.rh_text.specs.RawLine.{RawLine, lines_of, raw_text}
use Rattle.rh_text.specs.Stages.{◌when◌, no_fault, ◌▸◌, IsFirst}
use Rattle.rh_text.specs.Steps.{◌>>=◌, or_fault}
use Rattle.rh_text.specs.lemmas.Cuts.{some_is}
use Rattle.rh_text.specs.lemmas.Formed.{is_formed-Decides, not_ended}
use Rattle.rh_text.specs.lemmas.Numbers.{number_of-decimal}
use Rattle.rh_text.specs.lemmas.Roots.{root_of-text}
use Rattle.rh_text.specs.lemmas.Stages.{Judges, JudgesLines, judges-end, judges-here, judges-later, judges-test, judges-found, judges-line, judges-made, judges-step}
use Rattle.rh_text.specs.lemmas.Steps.{none_some, bind_bind}
use Rattle.rh_dump.specs.declared.reading.due.Due.{Due}
use Rattle.rh_dump.specs.declared.reading.due.Due.TheVariants as dues
use Rattle.rh_dump.specs.declared.reading.due.Version.{Version}
use Rattle.rh_dump.specs.declared.reading.due.Version.TheVariants.{One, Two}
use Rattle.rh_dump.specs.declared.reading.fault.DumpKind.{DumpKind}
use Rattle.rh_dump.specs.declared.reading.fault.DumpKind.TheVariants.{Long, End, Header, Trailing, Form, Number, Order, Count}
use Rattle.rh_dump.specs.declared.reading.fault.DumpFault.{DumpFault}
use Rattle.rh_model.specs.Plain.{PlainObject}
use Rattle.rh_dump.specs.Dump.{GraphState, met_with, met_after, IsTold, IsRootAfter, IsGraph}
use Rattle.rh_dump.specs.texts.Faults.{met_with_reference, number_or_none, version_named, value_parts, met_with_part, met_with_parts, due_after_parts, IsNumberUpTo, IsWholePart, IsRootPart, RefersTo, BeginsWithAt, value_faults, field_faults, values_faults, count_faults, root_faults, object_part_faults, object_faults, due_faults, line_faults, end_faults, faults_from, dump_faults}
use Rattle.rh_dump.specs.texts.Line.{DumpLine, header_line, roots_line, root_line, objects_line, object_line, end_line, value_text, dump_line_parts, IsTextOf, root_due, object_due, due_after}
use Rattle.rh_dump.specs.texts.Part.{number_up_to, whole_of, small_root_of, after_at, kind_and_rest, object_head}
use Rattle.rh_dump.specs.texts.Reading.{formed_parts, part_after, number_or_fault, roots_of_parts, objects_of_parts, reference_or_fault, whole_or_fault, reference_or_whole, value_or_fault, plain_or_fault, field_or_fault, values_or_fault, is_root_after, root_or_fault, root_of_parts, own_number, fields_or_fault, object_of_parts, version_or_fault, line_due, line_or_kind, fault_at, end_or_fault, lines_from, graph_of, graph_within, graph_of_text}
use Rattle.rh_dump.proofs.texts.PartMeans.{number_up_to-means, whole_of-means, small_root_of-means, after_at-means, reference_of-plain, reference_of-at, object_head-at, object_head-plain, object_head-short, of_kind, head_of}
use Rattle.rh_dump.proofs.texts.SpelledIsRead.{number_up_to-decimal, whole_of-decimal, small_root_of-text, plain_integer, is_after_true, met_there, met_after_grows, kind_and_rest-parts}
use Rattle.rh_dump.specs.texts.Putting.{IsDue}
use Rattle.rh_dump.proofs.texts.ReadIsSpelled.{line_means, raw_due, is_after-means, Fits, due_after_small, graph_within-means}

-- ---- stages of this reader

-- a test that must be passed, and then the other steps
judges-unless : {A B : Type 0} (t : Bool) (kind : DumpKind) (Q : Type 0) (others : ℕ → DumpKind → Type 0) (x : A) (f : A → Result B DumpKind) → Decides t Q → (Q → Judges others (f x)) → Judges (kind when (Q → ⊥) ▸ others) (cond t (Ok x) (Err kind) >>= f)
judges-unless true kind Q others x f d next = judges-later kind (Q → ⊥) others (f x) (λ fails. fails (d.0 refl)) (next (d.0 refl))
judges-unless false kind Q others x f d next = judges-here kind (Q → ⊥) others (λ q. false≢true (d.1 q))

judges-unless_last : {B : Type 0} (t : Bool) (kind : DumpKind) (Q : Type 0) (others : ℕ → DumpKind → Type 0) (r : Result B DumpKind) → Decides t Q → (Q → Judges others r) → Judges (kind when (Q → ⊥) ▸ others) (cond t r (Err kind))
judges-unless_last true kind Q others r d next = judges-later kind (Q → ⊥) others r (λ fails. fails (d.0 refl)) (next (d.0 refl))
judges-unless_last false kind Q others r d next = judges-here kind (Q → ⊥) others (λ q. false≢true (d.1 q))

-- what is looked for is all that is left
judges-found_last : {A : Type 0} (o : Option A) (kind : DumpKind) (P : Type 0) (others : ℕ → DumpKind → Type 0) → (o ≡ None → P) → ((x : A) → o ≡ Some x → P → ⊥) → ((x : A) → o ≡ Some x → Judges others (Ok x)) → Judges (kind when P ▸ others) (or_fault o kind)
judges-found_last None kind P others lacks fails next = judges-here kind P others (lacks refl)
judges-found_last (Some x) kind P others lacks fails next = judges-later kind P others (Ok x) (fails x refl) (next x refl)

-- ---- numbers

no_number : (limit : ℕ) (part : List ℕ) → limit < 2 ^ 32 → number_up_to limit part ≡ None → IsNumberUpTo limit part → ⊥
no_number limit part few e h = none_some (number_up_to limit part) h.0 e (ap (number_up_to limit) h.2 ∙ number_up_to-decimal limit h.0 h.1 few)

number_is : (limit : ℕ) (part : List ℕ) (n : ℕ) → number_up_to limit part ≡ Some n → IsNumberUpTo limit part
number_is limit part n e = let m = number_up_to-means limit part n e in (n, m.1, m.0)

-- ---- values

at_nil : (part : List ℕ) (k : ℕ) → part ≡ codes "nil" → RefersTo part k → ⊥
at_nil part k nil h = none_some (after_at part) (decimal k) (ap after_at nil) (ap after_at h.1)

at_whole : (part : List ℕ) (k : ℕ) → after_at part ≡ None → RefersTo part k → ⊥
at_whole part k none h = none_some (after_at part) (decimal k) none (ap after_at h.1)

digits_are : (part digits : List ℕ) (k : ℕ) → part ≡ 64 ∷ digits → RefersTo part k → digits ≡ decimal k
digits_are part digits k at h = let e : 64 ∷ digits ≡ 64 ∷ decimal k = sym at ∙ h.1 in cc

one_reference : (part digits : List ℕ) (j k : ℕ) → part ≡ 64 ∷ digits → digits ≡ decimal j → j ≤ 16777215 → RefersTo part k → j ≡ k
one_reference part digits j k at is small h = decimal_injective j k (omega (arith, small)) (omega (arith, h.0)) (sym is ∙ digits_are part digits k at h)

-- how many objects are met with a part that says a value
met_plain : (part : List ℕ) (met : ℕ) → after_at part ≡ None → met_with_part met part ≡ met
met_plain part met e = ap (met_with_reference met) (reference_of-plain part e)

met_at : (part : List ℕ) (met k : ℕ) → RefersTo part k → met_with_part met part ≡ met_with met (Ref k)
met_at part met k h = ap (met_with_part met) h.1 ∙ ap (met_with_reference met) (reference_of-at k (omega (arith, h.0)))

abbrev no_value : List ℕ → Type 0
no_value part = ((part ≡ codes "nil") → ⊥) × (((k : ℕ) × RefersTo part k) → ⊥) × (IsWholePart part → ⊥)

module _ {A : Type 0} (count met : ℕ) (part : List ℕ) (others : ℕ → DumpKind → Type 0) (f : Value → Result A DumpKind) (next : (v : Value) → met_with_part met part ≡ met_with met v → Judges others (f v)) where
  value_found : (r : Result A DumpKind) → (no_value part → ⊥) → ((k : ℕ) → RefersTo part k → met < k → ⊥) → ((k : ℕ) → RefersTo part k → count ≤ k → ⊥) → Judges others r → Judges (value_faults count met part others) r
  value_found r number order many judged =
      judges-later Number (no_value part) (Order when ((k : ℕ) × RefersTo part k × (met < k)) ▸ Count when ((k : ℕ) × RefersTo part k × (count ≤ k)) ▸ others) r number
      (judges-later Order ((k : ℕ) × RefersTo part k × (met < k)) (Count when ((k : ℕ) × RefersTo part k × (count ≤ k)) ▸ others) r (λ h. order h.0 h.1 h.2)
      (judges-later Count ((k : ℕ) × RefersTo part k × (count ≤ k)) others r (λ h. many h.0 h.1 h.2) judged))

  nil_value : part ≡ codes "nil" → Judges (value_faults count met part others) (f Nil)
  nil_value nil = value_found (f Nil) (λ h. h.0 nil) (λ k h lt. at_nil part k nil h) (λ k h le. at_nil part k nil h) (next Nil (met_plain part met (ap after_at nil)))

  module _ (digits : List ℕ) (at : part ≡ 64 ∷ digits) where
    reference_by : (t u : Bool) (k : ℕ) → ltb met k ≡ t → ltb k count ≡ u → digits ≡ decimal k → k ≤ 16777215 → Judges (value_faults count met part others) (cond t (Err Order) (cond u (Ok (Ref k)) (Err Count)) >>= f)
    reference_by true u k order many is small =
        let refers : RefersTo part k = (small, at ∙ ap (λ (ds : List ℕ). 64 ∷ ds) is) in
        judges-later Number (no_value part) (Order when ((k : ℕ) × RefersTo part k × (met < k)) ▸ Count when ((k : ℕ) × RefersTo part k × (count ≤ k)) ▸ others) (Err Order) (λ h. h.1 (k, refers))
        (judges-here Order ((k : ℕ) × RefersTo part k × (met < k)) (Count when ((k : ℕ) × RefersTo part k × (count ≤ k)) ▸ others) (k, refers, ltb-true met k order))
    reference_by false true k order many is small =
        let refers : RefersTo part k = (small, at ∙ ap (λ (ds : List ℕ). 64 ∷ ds) is) in
        let same : (j : ℕ) → RefersTo part j → k ≡ j = λ j h. one_reference part digits k j at is small h in
        let low : k ≤ met = ltb-false met k order in
        let high : k < count = ltb-true k count many in
        value_found (f (Ref k)) (λ h. h.1 (k, refers)) (λ j h lt. omega (arith, same j h, lt, low)) (λ j h le. omega (arith, same j h, le, high)) (next (Ref k) (met_at part met k refers))
    reference_by false false k order many is small =
        let refers : RefersTo part k = (small, at ∙ ap (λ (ds : List ℕ). 64 ∷ ds) is) in
        let same : (j : ℕ) → RefersTo part j → k ≡ j = λ j h. one_reference part digits k j at is small h in
        let low : k ≤ met = ltb-false met k order in
        judges-later Number (no_value part) (Order when ((k : ℕ) × RefersTo part k × (met < k)) ▸ Count when ((k : ℕ) × RefersTo part k × (count ≤ k)) ▸ others) (Err Count) (λ h. h.1 (k, refers))
        (judges-later Order ((k : ℕ) × RefersTo part k × (met < k)) (Count when ((k : ℕ) × RefersTo part k × (count ≤ k)) ▸ others) (Err Count) (λ h. omega (arith, same h.0 h.1, h.2, low))
        (judges-here Count ((k : ℕ) × RefersTo part k × (count ≤ k)) others (k, refers, ltb-false k count many)))

    not_whole : IsWholePart part → ⊥
    not_whole w = none_some (after_at part) digits (ap after_at w.2 ∙ (plain_integer w.0 w.1).1) (ap after_at at)

    not_nil_at : part ≡ codes "nil" → ⊥
    not_nil_at nil = none_some (after_at part) digits (ap after_at nil) (ap after_at at)

    number_by : (o : Option ℕ) → number_up_to 16777215 digits ≡ o → Judges (value_faults count met part others) ((or_fault o Number >>= λ k. cond (ltb met k) (Err Order) (cond (ltb k count) (Ok (Ref k)) (Err Count))) >>= f)
    number_by None e =
        judges-here Number (no_value part) (Order when ((k : ℕ) × RefersTo part k × (met < k)) ▸ Count when ((k : ℕ) × RefersTo part k × (count ≤ k)) ▸ others)
        (not_nil_at, (λ h. no_number 16777215 digits (omega arith) e (h.0, h.1.0, digits_are part digits h.0 at h.1)), not_whole)
    number_by (Some k) e =
        let m = number_up_to-means 16777215 digits k e in
        reference_by (ltb met k) (ltb k count) k refl refl m.0 m.1

  module _ (bare : part ≡ codes "nil" → ⊥) (plain : after_at part ≡ None) where
    whole_by : (o : Option ℤ) → whole_of part ≡ o → Judges (value_faults count met part others) ((or_fault o Number >>= λ n. Ok (Int n)) >>= f)
    whole_by None e =
        judges-here Number (no_value part) (Order when ((k : ℕ) × RefersTo part k × (met < k)) ▸ Count when ((k : ℕ) × RefersTo part k × (count ≤ k)) ▸ others)
        (bare, (λ h. at_whole part h.0 plain h.1), (λ w. none_some (whole_of part) w.0 e (ap whole_of w.2 ∙ whole_of-decimal w.0 w.1)))
    whole_by (Some n) e =
        let m = whole_of-means part n e in
        value_found (f (Int n)) (λ h. h.2 (n, m.1, m.0)) (λ k h lt. at_whole part k plain h) (λ k h le. at_whole part k plain h) (next (Int n) (met_plain part met plain))

  at_by : (o : Option (List ℕ)) → (part ≡ codes "nil" → ⊥) → after_at part ≡ o → Judges (value_faults count met part others) (reference_or_whole count met part o >>= f)
  unfolding reference_or_fault whole_or_fault
  at_by None bare e = whole_by bare e (whole_of part) refl
  at_by (Some digits) bare e = number_by digits (after_at-means part digits e) (number_up_to 16777215 digits) refl

  nil_by : (t : Bool) → Decides t (part ≡ codes "nil") → Judges (value_faults count met part others) (cond t (Ok Nil) (reference_or_whole count met part (after_at part)) >>= f)
  nil_by true d = nil_value (d.0 refl)
  nil_by false d = at_by (after_at part) (λ nil. false≢true (d.1 nil)) refl

  judges-value : Judges (value_faults count met part others) (value_or_fault count met part >>= f)
  unfolding value_or_fault
  judges-value = nil_by (bytes_eq part (codes "nil")) (bytes_eq-Decides part (codes "nil"))

abbrev no_plain : List ℕ → Type 0
no_plain part = ((part ≡ codes "nil") → ⊥) × (IsWholePart part → ⊥)

-- and of a value of a raw object
module _ {A : Type 0} (count met : ℕ) (part : List ℕ) (others : ℕ → DumpKind → Type 0) (f : Value → Result A DumpKind) (next : (v : Value) → met_with_part met part ≡ met_with met v → Judges others (f v)) where
  plain_whole : (bare : part ≡ codes "nil" → ⊥) (o : Option ℤ) → whole_of part ≡ o → Judges (Number when (no_plain part) ▸ others) ((or_fault o Number >>= λ n. Ok (Int n)) >>= f)
  plain_whole bare None e = judges-here Number (no_plain part) others (bare, λ w. none_some (whole_of part) w.0 e (ap whole_of w.2 ∙ whole_of-decimal w.0 w.1))
  plain_whole bare (Some n) e =
      let m = whole_of-means part n e in
      judges-later Number (no_plain part) others (f (Int n)) (λ h. h.1 (n, m.1, m.0)) (next (Int n) (met_plain part met (ap after_at m.0 ∙ (plain_integer n m.1).1)))

  plain_nil : (t : Bool) → Decides t (part ≡ codes "nil") → Judges (Number when (no_plain part) ▸ others) (cond t (Ok Nil) (or_fault (whole_of part) Number >>= λ n. Ok (Int n)) >>= f)
  plain_nil true d = judges-later Number (no_plain part) others (f Nil) (λ h. h.0 (d.0 refl)) (next Nil (met_plain part met (ap after_at (d.0 refl))))
  plain_nil false d = plain_whole (λ nil. false≢true (d.1 nil)) (whole_of part) refl

  judges-plain : Judges (field_faults true count met part others) (plain_or_fault part >>= f)
  unfolding plain_or_fault whole_or_fault
  judges-plain = plain_nil (bytes_eq part (codes "nil")) (bytes_eq-Decides part (codes "nil"))

judges-field : {A : Type 0} (raw : Bool) (count met : ℕ) (part : List ℕ) (others : ℕ → DumpKind → Type 0) (f : Value → Result A DumpKind) → ((v : Value) → met_with_part met part ≡ met_with met v → Judges others (f v)) → Judges (field_faults raw count met part others) (field_or_fault raw count met part >>= f)
judges-field true count met part others f next = judges-plain count met part others f next
judges-field false count met part others f next = judges-value count met part others f next

judges-values : (raw : Bool) (parts : List (List ℕ)) (count met : ℕ) → Judges (values_faults raw count met parts) (values_or_fault raw count met parts)
unfolding values_or_fault
judges-values raw [] count met = judges-end []
judges-values raw (part ∷ parts) count met =
    judges-field raw count met part (values_faults raw count (met_with_part met part) parts) (λ v. values_or_fault raw count (met_with met v) parts >>= λ vs. Ok (v ∷ vs))
    (λ v link. judges-step (values_or_fault raw count (met_with met v) parts) (λ vs. v ∷ vs)
    (subst (λ (m : ℕ). Judges (values_faults raw count m parts) (values_or_fault raw count (met_with met v) parts)) (sym link) (judges-values raw parts count (met_with met v))))

-- ---- lines that tell a number

module _ (p : List ℕ) (limit met : ℕ) (few : limit < 2 ^ 32) where
  count_by : (t : Bool) (n : ℕ) → ltb n met ≡ t → n ≤ limit → p ≡ decimal n → met ≤ 16777216 → Judges (Count when ((m : ℕ) × (m < met) × (p ≡ decimal m)) ▸ no_fault) (cond t (Err Count) (Ok n))
  count_by true n e small is low = judges-here Count ((m : ℕ) × (m < met) × (p ≡ decimal m)) no_fault (n, ltb-true n met e, is)
  count_by false n e small is low =
      let all : met ≤ n = ltb-false n met e in
      judges-later Count ((m : ℕ) × (m < met) × (p ≡ decimal m)) no_fault (Ok n)
      (λ h. let same : h.0 ≡ n = decimal_injective h.0 n (omega (arith, h.1, low)) (omega (arith, small, few)) (sym h.2 ∙ is) in omega (arith, same, h.1, all))
      (judges-end n)

  counted : met ≤ 16777216 → Judges (Number when (IsNumberUpTo limit p → ⊥) ▸ Count when ((m : ℕ) × (m < met) × (p ≡ decimal m)) ▸ no_fault) (or_fault (number_up_to limit p) Number >>= λ n. cond (ltb n met) (Err Count) (Ok n))
  counted low =
      judges-found (number_up_to limit p) Number (IsNumberUpTo limit p → ⊥) (Count when ((m : ℕ) × (m < met) × (p ≡ decimal m)) ▸ no_fault) (λ n. cond (ltb n met) (Err Count) (Ok n))
      (no_number limit p few) (λ n e fails. fails (number_is limit p n e))
      (λ n e. let m = number_up_to-means limit p n e in count_by (ltb n met) n refl m.1 m.0 low)

judges-roots : (parts : List (List ℕ)) → Judges (count_faults (codes "roots") 4096 0 parts) (roots_of_parts parts)
unfolding roots_of_parts part_after two_parts
judges-roots [] = judges-here Form ⊤ no_fault tt
judges-roots (first ∷ []) = judges-here Form ⊤ no_fault tt
judges-roots (first ∷ p ∷ []) =
    judges-unless (bytes_eq first (codes "roots")) Form (first ≡ codes "roots") (Number when (IsNumberUpTo 4096 p → ⊥) ▸ Count when ((m : ℕ) × (m < 0) × (p ≡ decimal m)) ▸ no_fault) p (number_or_fault 4096) (bytes_eq-Decides first (codes "roots"))
    (λ word. judges-found_last (number_up_to 4096 p) Number (IsNumberUpTo 4096 p → ⊥) (Count when ((m : ℕ) × (m < 0) × (p ≡ decimal m)) ▸ no_fault) (no_number 4096 p (omega arith)) (λ n e fails. fails (number_is 4096 p n e))
    (λ n e. judges-later Count ((m : ℕ) × (m < 0) × (p ≡ decimal m)) no_fault (Ok n) (λ h. omega (arith, h.1)) (judges-end n)))
judges-roots (first ∷ p ∷ q ∷ parts) = judges-here Form ⊤ no_fault tt

judges-objects : (met : ℕ) (parts : List (List ℕ)) → met ≤ 16777216 → Judges (count_faults (codes "objects") 16777216 met parts) (objects_of_parts met parts)
unfolding objects_of_parts part_after two_parts
judges-objects met [] low = judges-here Form ⊤ no_fault tt
judges-objects met (first ∷ []) low = judges-here Form ⊤ no_fault tt
judges-objects met (first ∷ p ∷ []) low =
    judges-unless (bytes_eq first (codes "objects")) Form (first ≡ codes "objects") (Number when (IsNumberUpTo 16777216 p → ⊥) ▸ Count when ((m : ℕ) × (m < met) × (p ≡ decimal m)) ▸ no_fault) p (λ part. number_or_fault 16777216 part >>= λ n. cond (ltb n met) (Err Count) (Ok n)) (bytes_eq-Decides first (codes "objects"))
    (λ word. counted p 16777216 met (omega arith) low)
judges-objects met (first ∷ p ∷ q ∷ parts) low = judges-here Form ⊤ no_fault tt

-- ---- the lines of roots

abbrev told_root : RootId → Value → Result (RootId × Value) DumpKind
told_root r v = Ok (r, v)

abbrev pair_object : ℕ → Bool → List Value → ℕ × PlainObject
pair_object own raw vs = (own, record { raw = raw; fields = vs })

abbrev told_object : ℕ → Bool → List Value → Result (ℕ × PlainObject) DumpKind
told_object own raw vs = Ok (pair_object own raw vs)

abbrev root_number : List ℕ → Type 0
root_number a = ((r : RootId) × IsRootPart a r) → ⊥

abbrev root_order : Option RootId → List ℕ → Type 0
root_order last a = (r : RootId) × IsRootPart a r × (IsRootAfter last r → ⊥)

module _ (last : Option RootId) (met : ℕ) (a b : List ℕ) where
  root_after : (t : Bool) (r : RootId) → is_root_after last r ≡ t → small_root_of a ≡ Some r → Judges (Order when (root_order last a) ▸ value_faults 16777216 met b no_fault) (cond t (Ok r) (Err Order) >>= λ root. value_or_fault 16777216 met b >>= λ v. told_root root v)
  root_after true r e is =
      judges-later Order (root_order last a) (value_faults 16777216 met b no_fault) (value_or_fault 16777216 met b >>= λ v. told_root r v)
      (λ h.
      let same : h.0 ≡ r = some_is h.0 r (sym (small_root_of-text h.0 h.1.0 h.1.1) ∙ sym (ap small_root_of h.1.2) ∙ is) in
      h.2 (subst (IsRootAfter last) (sym same) (is_after-means last r e)))
      (judges-value 16777216 met b no_fault (λ v. told_root r v) (λ v link. judges-end {A = RootId × Value} (r, v)))
  root_after false r e is =
      let m = small_root_of-means a r is in
      judges-here Order (root_order last a) (value_faults 16777216 met b no_fault) (r, (m.1, m.2, m.0), λ after. false≢true (sym e ∙ is_after_true last r after))

  root_found : Judges (Number when (root_number a) ▸ Order when (root_order last a) ▸ value_faults 16777216 met b no_fault) (root_or_fault last a >>= λ root. value_or_fault 16777216 met b >>= λ v. told_root root v)
  unfolding root_or_fault
  root_found =
      subst (Judges (Number when (root_number a) ▸ Order when (root_order last a) ▸ value_faults 16777216 met b no_fault)) (sym (bind_bind (or_fault (small_root_of a) Number) (λ root. cond (is_root_after last root) (Ok root) (Err Order)) (λ root. value_or_fault 16777216 met b >>= λ v. told_root root v)))
      (judges-found (small_root_of a) Number (root_number a) (Order when (root_order last a) ▸ value_faults 16777216 met b no_fault) (λ root. cond (is_root_after last root) (Ok root) (Err Order) >>= λ root. value_or_fault 16777216 met b >>= λ v. told_root root v)
      (λ e h. none_some (small_root_of a) h.0 e (ap small_root_of h.1.2 ∙ small_root_of-text h.0 h.1.0 h.1.1))
      (λ r e fails. let m = small_root_of-means a r e in fails (r, (m.1, m.2, m.0)))
      (λ r e. root_after (is_root_after last r) r refl e))

judges-root : (last : Option RootId) (met : ℕ) (parts : List (List ℕ)) → Judges (root_faults last met parts) (root_of_parts last met parts)
unfolding root_of_parts two_parts
judges-root last met [] = judges-here Form ⊤ no_fault tt
judges-root last met (a ∷ []) = judges-here Form ⊤ no_fault tt
judges-root last met (a ∷ b ∷ []) =
    judges-test (bytes_eq b (codes "nil")) Form (b ≡ codes "nil") (Number when (root_number a) ▸ Order when (root_order last a) ▸ value_faults 16777216 met b no_fault) (Ok b) (λ some. root_or_fault last a >>= λ root. value_or_fault 16777216 met some >>= λ v. told_root root v) (bytes_eq-Decides b (codes "nil"))
    (λ bare. root_found last met a b)
judges-root last met (a ∷ b ∷ c ∷ parts) = judges-here Form ⊤ no_fault tt

-- ---- the lines of objects

abbrev own_fault : List ℕ → Type 0
own_fault a = ((k : ℕ) × RefersTo a k) → ⊥

abbrev order_fault : ℕ → List ℕ → Type 0
order_fault number a = (k : ℕ) × RefersTo a k × ((k ≡ number) → ⊥)

abbrev form_fits : List ℕ → List (List ℕ) → Type 0
form_fits b values = (b ≡ decimal (length values)) × (length values ≤ 4095)

abbrev fields_stages : Bool → ℕ → ℕ → List ℕ → List (List ℕ) → ℕ → DumpKind → Type 0
fields_stages raw count met b values = Number when (IsNumberUpTo 4095 b → ⊥) ▸ Form when (form_fits b values → ⊥) ▸ values_faults raw count met values

form_decides : (b : List ℕ) (values : List (List ℕ)) (n : ℕ) → b ≡ decimal n → n ≤ 4095 → Decides (eqb (length values) n) (form_fits b values)
form_decides b values n is small = (
  (λ e. let same : length values ≡ n = eqb-true (length values) n e in (is ∙ ap decimal (sym same), omega (arith, same, small))),
  (λ h. eq-eqb (length values) n (decimal_injective (length values) n (omega (arith, h.1)) (omega (arith, small)) (sym h.0 ∙ is))),
)

judges-fields : (raw : Bool) (count met : ℕ) (b : List ℕ) (values : List (List ℕ)) (own : ℕ) → Judges (fields_stages raw count met b values) (number_or_fault 4095 b >>= λ n. fields_or_fault raw count met n values >>= λ vs. told_object own raw vs)
unfolding fields_or_fault
judges-fields raw count met b values own =
    judges-found (number_up_to 4095 b) Number (IsNumberUpTo 4095 b → ⊥) (Form when (form_fits b values → ⊥) ▸ values_faults raw count met values) (λ n. fields_or_fault raw count met n values >>= λ vs. told_object own raw vs)
    (no_number 4095 b (omega arith)) (λ n e fails. fails (number_is 4095 b n e))
    (λ n e.
    let m = number_up_to-means 4095 b n e in
    judges-step (cond (eqb (length values) n) (values_or_fault raw count met values) (Err Form)) (pair_object own raw)
    (judges-unless_last (eqb (length values) n) Form (form_fits b values) (values_faults raw count met values) (values_or_fault raw count met values) (form_decides b values n m.0 m.1) (λ fits. judges-values raw values count met)))

module _ (raw : Bool) (number count met : ℕ) (a b : List ℕ) (values : List (List ℕ)) (own : List ℕ) (at : a ≡ 64 ∷ own) where
  own_by : (t u : Bool) (k : ℕ) → eqb k number ≡ t → ltb number met ≡ u → own ≡ decimal k → k ≤ 16777215
      → Judges (Order when (order_fault number a) ▸ Count when (met ≤ number) ▸ fields_stages raw count met b values) (cond (not t) (Err Order) (cond u (Ok k) (Err Count)) >>= λ own. number_or_fault 4095 b >>= λ n. fields_or_fault raw count met n values >>= λ vs. told_object own raw vs)
  own_by false u k order before is small =
      judges-here Order (order_fault number a) (Count when (met ≤ number) ▸ fields_stages raw count met b values) (k, (small, at ∙ ap (λ (ds : List ℕ). 64 ∷ ds) is), λ e. false≢true (sym order ∙ eq-eqb k number e))
  own_by true false k order before is small =
      judges-later Order (order_fault number a) (Count when (met ≤ number) ▸ fields_stages raw count met b values) (Err Count) (λ h. h.2 (sym (one_reference a own k h.0 at is small h.1) ∙ eqb-true k number order))
      (judges-here Count (met ≤ number) (fields_stages raw count met b values) (ltb-false number met before))
  own_by true true k order before is small =
      let there : number < met = ltb-true number met before in
      judges-later Order (order_fault number a) (Count when (met ≤ number) ▸ fields_stages raw count met b values) (number_or_fault 4095 b >>= λ n. fields_or_fault raw count met n values >>= λ vs. told_object k raw vs) (λ h. h.2 (sym (one_reference a own k h.0 at is small h.1) ∙ eqb-true k number order))
      (judges-later Count (met ≤ number) (fields_stages raw count met b values) (number_or_fault 4095 b >>= λ n. fields_or_fault raw count met n values >>= λ vs. told_object k raw vs) (λ h. omega (arith, h, there))
      (judges-fields raw count met b values k))

  own_found : Judges (Number when (own_fault a) ▸ Order when (order_fault number a) ▸ Count when (met ≤ number) ▸ fields_stages raw count met b values) (own_number number met own >>= λ own. number_or_fault 4095 b >>= λ n. fields_or_fault raw count met n values >>= λ vs. told_object own raw vs)
  unfolding own_number
  own_found =
      subst (Judges (Number when (own_fault a) ▸ Order when (order_fault number a) ▸ Count when (met ≤ number) ▸ fields_stages raw count met b values)) (sym (bind_bind (number_or_fault 16777215 own) (λ k. cond (not (eqb k number)) (Err Order) (cond (ltb number met) (Ok k) (Err Count))) (λ own. number_or_fault 4095 b >>= λ n. fields_or_fault raw count met n values >>= λ vs. told_object own raw vs)))
      (judges-found (number_up_to 16777215 own) Number (own_fault a) (Order when (order_fault number a) ▸ Count when (met ≤ number) ▸ fields_stages raw count met b values) (λ k. cond (not (eqb k number)) (Err Order) (cond (ltb number met) (Ok k) (Err Count)) >>= λ own. number_or_fault 4095 b >>= λ n. fields_or_fault raw count met n values >>= λ vs. told_object own raw vs)
      (λ e h. no_number 16777215 own (omega arith) e (h.0, h.1.0, digits_are a own h.0 at h.1))
      (λ k e fails. let m = number_up_to-means 16777215 own k e in fails (k, (m.1, at ∙ ap (λ (ds : List ℕ). 64 ∷ ds) m.0)))
      (λ k e. let m = number_up_to-means 16777215 own k e in own_by (eqb k number) (ltb number met) k refl refl m.0 m.1))

begins : (a own : List ℕ) → a ≡ 64 ∷ own → BeginsWithAt a
begins a own at = subst BeginsWithAt (sym at) refl

begins_not : (a : List ℕ) → after_at a ≡ None → BeginsWithAt a → ⊥
begins_not [] e h = h
begins_not (b ∷ bs) e h = none_some (after_at (b ∷ bs)) bs e (ap (λ (t : Bool). cond t (Some bs) None) (eq-eqb b 64 h))

abbrev object_rest : ℕ → ℕ → ℕ → List ℕ × Bool × List ℕ × List (List ℕ) → Result (ℕ × PlainObject) DumpKind
object_rest number count met head = own_number number met head.0 >>= λ own. number_or_fault 4095 head.2 >>= λ n. fields_or_fault head.1 count met n head.3 >>= λ vs. told_object own head.1 vs

-- an object's line is read, by how it begins
abbrev object_by_head : ℕ → ℕ → ℕ → Option (List ℕ × Bool × List ℕ × List (List ℕ)) → Result (ℕ × PlainObject) DumpKind
object_by_head number count met head = or_fault head Form >>= object_rest number count met

-- the stages after the first of an object's line
abbrev own_stages : Bool → ℕ → ℕ → ℕ → List ℕ → List ℕ → List (List ℕ) → ℕ → DumpKind → Type 0
own_stages raw number count met a b values = Number when (own_fault a) ▸ Order when (order_fault number a) ▸ Count when (met ≤ number) ▸ fields_stages raw count met b values

module _ (version : Version) (number count met : ℕ) (a : List ℕ) (others : List (List ℕ)) where
  first_by : (raw : Bool) (b : List ℕ) (values : List (List ℕ)) (o : Option (List ℕ)) → kind_and_rest version others ≡ of_kind raw (b ∷ values) → after_at a ≡ o → Judges (object_part_faults number count met a raw (b ∷ values)) (object_by_head number count met (object_head version (a ∷ others)))
  first_by raw b values None kind e =
      subst (λ h. Judges (object_part_faults number count met a raw (b ∷ values)) (object_by_head number count met h)) (sym (object_head-plain version a others e))
      (judges-here Form (BeginsWithAt a → ⊥) (own_stages raw number count met a b values) (begins_not a e))
  first_by raw b values (Some own) kind e =
      let at = after_at-means a own e in
      subst (λ h. Judges (object_part_faults number count met a raw (b ∷ values)) (object_by_head number count met h)) (sym (object_head-at version a b others values raw own kind e))
      (judges-later Form (BeginsWithAt a → ⊥) (own_stages raw number count met a b values) (object_rest number count met (head_of own raw b values)) (λ fails. fails (begins a own at))
      (own_found raw number count met a b values own at))

  rest_by : (raw : Bool) (rest : List (List ℕ)) → kind_and_rest version others ≡ of_kind raw rest → Judges (object_part_faults number count met a raw rest) (object_by_head number count met (object_head version (a ∷ others)))
  rest_by raw [] kind =
      subst (λ h. Judges (object_part_faults number count met a raw []) (object_by_head number count met h)) (sym (object_head-short version a others raw kind))
      (judges-here Form ⊤ no_fault tt)
  rest_by raw (b ∷ values) kind = first_by raw b values (after_at a) kind refl

judges-nothing : (version : Version) (number count met : ℕ) → Judges (object_faults version number count met []) (object_by_head number count met (object_head version []))
unfolding object_head
judges-nothing version number count met = judges-here Form ⊤ no_fault tt

judges-object : (version : Version) (number count met : ℕ) (parts : List (List ℕ)) → Judges (object_faults version number count met parts) (object_of_parts version number count met parts)
unfolding object_of_parts
judges-object version number count met [] = judges-nothing version number count met
judges-object version number count met (a ∷ others) = rest_by version number count met a others (kind_and_rest version others).0 (kind_and_rest version others).1 refl

-- ---- lines by what is due

judges-formed : {B : Type 0} (line : List ℕ) (others : ℕ → DumpKind → Type 0) (f : List (List ℕ) → Result B DumpKind) → Judges others (f (parts_of line)) → Judges (Form when (IsFormedLine line → ⊥) ▸ others) (formed_parts line >>= f)
unfolding formed_parts
judges-formed line others f judged = judges-unless (is_formed line) Form (IsFormedLine line) others (parts_of line) f (is_formed-Decides line) (λ formed. judged)

abbrev no_version : List ℕ → Type 0
no_version line = ((line ≡ codes "rheap 1") → ⊥) × ((line ≡ codes "rheap 2") → ⊥)

abbrev named_line : Version → Result DumpLine DumpKind
named_line version = Ok (header_line version)

judges-header : (one two : Bool) (line : List ℕ) → Decides one (line ≡ codes "rheap 1") → Decides two (line ≡ codes "rheap 2") → Judges (Header when (no_version line) ▸ no_fault) (cond one (Ok One) (cond two (Ok Two) (Err Header)) >>= named_line)
judges-header true two line d e = judges-later Header (no_version line) no_fault (named_line One) (λ h. h.0 (d.0 refl)) (judges-end (header_line One))
judges-header false true line d e = judges-later Header (no_version line) no_fault (named_line Two) (λ h. h.1 (e.0 refl)) (judges-end (header_line Two))
judges-header false false line d e = judges-here Header (no_version line) no_fault (λ is. false≢true (d.1 is), λ is. false≢true (e.1 is))

judges-due : (due : Due) (line : List ℕ) → IsDue due → Judges (due_faults due line) (line_due due line)
unfolding line_due version_or_fault
judges-due dues.Header line is = judges-header (bytes_eq line (codes "rheap 1")) (bytes_eq line (codes "rheap 2")) line (bytes_eq-Decides line (codes "rheap 1")) (bytes_eq-Decides line (codes "rheap 2"))
judges-due (dues.Roots version) line is = judges-formed line (count_faults (codes "roots") 4096 0 (parts_of line)) (λ parts. roots_of_parts parts >>= λ n. Ok (roots_line n)) (judges-step (roots_of_parts (parts_of line)) (λ n. roots_line n) (judges-roots (parts_of line)))
judges-due (dues.Root version left last met) line is = judges-formed line (root_faults last met (parts_of line)) (λ parts. root_of_parts last met parts >>= λ root. Ok (root_line root.0 root.1)) (judges-step (root_of_parts last met (parts_of line)) (λ root. root_line root.0 root.1) (judges-root last met (parts_of line)))
judges-due (dues.Objects version met) line is = judges-formed line (count_faults (codes "objects") 16777216 met (parts_of line)) (λ parts. objects_of_parts met parts >>= λ n. Ok (objects_line n)) (judges-step (objects_of_parts met (parts_of line)) (λ n. objects_line n) (judges-objects met (parts_of line) is))
judges-due (dues.Object version number count met) line is = judges-formed line (object_faults version number count met (parts_of line)) (λ parts. object_of_parts version number count met parts >>= λ object. Ok (object_line object.0 object.1)) (judges-step (object_of_parts version number count met (parts_of line)) (λ object. object_line object.0 object.1) (judges-object version number count met (parts_of line)))
judges-due dues.End line is = judges-unless_last (bytes_eq line (codes "end")) Form (line ≡ codes "end") no_fault (Ok end_line) (bytes_eq-Decides line (codes "end")) (λ same. judges-end end_line)
judges-due dues.Nothing line is = judges-here Trailing ⊤ no_fault tt

judges-test_last : {B : Type 0} (t : Bool) (kind : DumpKind) (P : Type 0) (others : ℕ → DumpKind → Type 0) (r : Result B DumpKind) → Decides t P → Judges others r → Judges (kind when P ▸ others) (cond t (Err kind) r)
judges-test_last true kind P others r d judged = judges-here kind P others (d.0 refl)
judges-test_last false kind P others r d judged = judges-later kind P others r (λ h. false≢true (d.1 h)) judged

judges-raw : (due : Due) (size : ℕ) (raw : RawLine) → IsDue due → Judges (line_faults due size raw) (line_or_kind 268435456 due size raw)
unfolding line_or_kind
judges-raw due size raw is =
    judges-test_last (ltb 268435456 (size + length (raw_text raw))) Long (268435456 < size + length (raw_text raw)) (End when (raw.ended ≡ false) ▸ due_faults due raw.bytes) (cond (not raw.ended) (Err End) (line_due due raw.bytes)) (Decides-ltb 268435456 (size + length (raw_text raw)))
    (judges-test_last (not raw.ended) End (raw.ended ≡ false) (due_faults due raw.bytes) (line_due due raw.bytes) (not_ended raw.ended) (judges-due due raw.bytes is))

-- ---- what is due after a line that was read

told_with_part : (met : ℕ) (v : Value) → IsTold v → met_with met v ≤ 16777216 → met_with_part met (value_text v) ≡ met_with met v
told_with_part met Nil told below = met_plain (codes "nil") met refl
told_with_part met (Int n) told below = met_plain (signed_decimal n) met (plain_integer n told).1
told_with_part met (Ref k) told below = met_at (64 ∷ decimal k) met k (omega (arith, met_there k met 16777216 below), refl)

told_with_parts : (vs : List Value) (met : ℕ) → AllByRecursion IsTold vs → met_after met vs ≤ 16777216 → met_with_parts met (map value_text vs) ≡ met_after met vs
told_with_parts [] met told below = refl
told_with_parts (v ∷ vs) met told below =
    ap (λ (m : ℕ). met_with_parts m (map value_text vs)) (told_with_part met v told.0 (omega (arith, met_after_grows (met_with met v) vs, below)))
    ∙ told_with_parts vs (met_with met v) told.1 below

header_parts : (version : Version) → version_named (dump_line_parts (header_line version)) ≡ version
header_parts One = refl
header_parts Two = refl

due_parts : (due : Due) (line : DumpLine) → IsDue due → Fits due line → due_after_parts due (dump_line_parts line) ≡ due_after due line
due_parts dues.Header (header_line version) is f = ap (λ (v : Version). dues.Roots v) (header_parts version)
due_parts (dues.Roots version) (roots_line n) is f = ap (λ (o : Option ℕ). root_due version (number_or_none o) None 0) (number_of-decimal n (omega (arith, f)))
due_parts (dues.Root version left last met) (root_line r v) is f =
    ap (λ (o : Option RootId). root_due version left o (met_with_part met (value_text v))) (root_of-text r (omega (arith, f.0.0), omega (arith, f.0.1)))
    ∙ ap (root_due version left (Some r)) (told_with_part met v f.0.3 f.3)
due_parts (dues.Objects version met) (objects_line n) is f = ap (λ (o : Option ℕ). object_due version 0 (number_or_none o) met) (number_of-decimal n (omega (arith, f.0)))
due_parts (dues.Object version number count met) (object_line own object) is f =
    ap (λ (found : Bool × List (List ℕ)). object_due version (number + 1) count (met_with_parts met (value_parts found.1))) (kind_and_rest-parts version object.raw (length object.fields) (map value_text object.fields) f.5 (omega (arith, f.2.few)))
    ∙ ap (object_due version (number + 1) count) (told_with_parts object.fields met f.2.told (omega (arith, f.4, is.1)))
due_parts dues.End end_line is f = refl
due_parts due line is f = absurd f

due_link : (due : Due) (size : ℕ) (raw : RawLine) (line : DumpLine) → IsDue due → line_or_kind 268435456 due size raw ≡ Ok line → (due_after_parts due (parts_of raw.bytes) ≡ due_after due line) × IsDue (due_after due line)
due_link due size raw line is e =
    let m = line_means due raw.bytes line is (raw_due 268435456 due size raw line e) in
    (ap (due_after_parts due) m.parts ∙ due_parts due line is m.fits, due_after_small due line is m.fits)

-- ---- the whole text

abbrev line_at : DumpFault → ℕ
line_at f = f.line

abbrev kind_at : DumpFault → DumpKind
kind_at f = f.kind

end_after : (due : Due) (number n p : ℕ) (k : DumpKind) → end_faults due number n p k → number ≤ n
end_after dues.Nothing number n p k h = absurd h
end_after due number n p k h = omega (arith, h.0)

faults_after : (raws : List RawLine) (due : Due) (number size n p : ℕ) (k : DumpKind) → faults_from due number size raws n p k → number ≤ n
faults_after [] due number size n p k h = end_after due number n p k h
faults_after (raw ∷ raws) due number size n p k h = elim h [
  | inl this ↦ omega (arith, this.0)
  | inr other ↦ omega (arith, faults_after raws (due_after_parts due (parts_of raw.bytes)) (number + 1) (size + length (raw_text raw)) n p k other)
]

err_ok : (x : List DumpLine) (f : DumpFault) → ◌≡◌ {A = Result (List DumpLine) DumpFault} (Err f) (Ok x) → ⊥
err_ok x f e = cc

ok_err : (x : List DumpLine) (f : DumpFault) → ◌≡◌ {A = Result (List DumpLine) DumpFault} (Ok x) (Err f) → ⊥
ok_err x f e = cc

err_is : (f g : DumpFault) → ◌≡◌ {A = Result (List DumpLine) DumpFault} (Err f) (Err g) → f ≡ g
err_is f g e = cc

abbrev end_at_line : ℕ → ℕ → ℕ → DumpKind → Type 0
end_at_line number n p k = (n ≡ number) × (p ≡ 0) × (k ≡ End)

ended_early : (number : ℕ) → JudgesLines {A = List DumpLine} line_at kind_at (end_at_line number) (Err (fault_at number End))
ended_early number = record {
  none = λ x e n p k h. absurd (err_ok x (fault_at number End) e);
  first = λ f e. subst (λ (g : DumpFault). IsFirst (end_at_line number) g.line g.kind) (err_is (fault_at number End) f e)
      (record { stage = 0; holds = (refl, refl, refl); first = λ n p k h. inr (h.0, inr (h.1, h.2)) });
}

judges-lines_end : (due : Due) (number : ℕ) → JudgesLines line_at kind_at (end_faults due number) (end_or_fault number due)
judges-lines_end dues.Nothing number = record { none = λ x e n p k h. h; first = λ f e. absurd (ok_err [] f e) }
judges-lines_end dues.Header number = ended_early number
judges-lines_end (dues.Roots version) number = ended_early number
judges-lines_end (dues.Root version left last met) number = ended_early number
judges-lines_end (dues.Objects version met) number = ended_early number
judges-lines_end (dues.Object version n count met) number = ended_early number
judges-lines_end dues.End number = ended_early number

judges-lines : (raws : List RawLine) (due : Due) (number size : ℕ) → IsDue due → JudgesLines line_at kind_at (faults_from due number size raws) (lines_from 268435456 due number size raws)
unfolding lines_from
judges-lines [] due number size is = judges-lines_end due number
judges-lines (raw ∷ raws) due number size is =
    let rest = size + length (raw_text raw) in
    let after = due_after_parts due (parts_of raw.bytes) in
    judges-line line_at kind_at (fault_at number) number (line_faults due size raw) (faults_from after (number + 1) rest raws) (line_or_kind 268435456 due size raw) (λ line. lines_from 268435456 (due_after due line) (number + 1) rest raws >>= λ lines. Ok (line ∷ lines))
    (λ k. refl) (λ k. refl) (λ n p k h. let later = faults_after raws after (number + 1) rest n p k h in omega arith)
    (judges-raw due size raw is)
    (λ line e.
    let link = due_link due size raw line is e in
    subst (λ (d : Due). JudgesLines line_at kind_at (faults_from d (number + 1) rest raws) (lines_from 268435456 (due_after due line) (number + 1) rest raws >>= λ lines. Ok (line ∷ lines))) (sym link.0)
    (judges-made line_at kind_at (faults_from (due_after due line) (number + 1) rest raws) (lines_from 268435456 (due_after due line) (number + 1) rest raws) (λ lines. line ∷ lines) (judges-lines raws (due_after due line) (number + 1) rest link.1)))

judges-text : (text : List ℕ) → JudgesLines line_at kind_at (dump_faults (lines_of text)) (graph_of_text text)
unfolding graph_within
judges-text text = judges-made line_at kind_at (dump_faults (lines_of text)) (lines_from 268435456 dues.Header 1 0 (lines_of text)) graph_of (judges-lines (lines_of text) dues.Header 1 0 tt)

pub first_fault : (text : List ℕ) (fault : DumpFault) → graph_of_text text ≡ Err fault → IsFirst (dump_faults (lines_of text)) fault.line fault.kind
first_fault text fault e = (judges-text text).first fault e

pub no_fault_of_dump : (text : List ℕ) (g : GraphState) → graph_of_text text ≡ Ok g → (n p : ℕ) (k : DumpKind) → dump_faults (lines_of text) n p k → ⊥
no_fault_of_dump text g e = (judges-text text).none g e

read_by : (text : List ℕ) (r : Result GraphState DumpFault) → JudgesLines line_at kind_at (dump_faults (lines_of text)) r → ((n p : ℕ) (k : DumpKind) → dump_faults (lines_of text) n p k → ⊥) → (g : GraphState) × (r ≡ Ok g)
read_by text (Ok g) judged none = (g, refl)
read_by text (Err f) judged none = let first = judged.first f refl in absurd (none f.line first.stage f.kind first.holds)

pub faultless_is_dump : (text : List ℕ) → ((n p : ℕ) (k : DumpKind) → dump_faults (lines_of text) n p k → ⊥) → (g : GraphState) × IsGraph g × IsTextOf text g
faultless_is_dump text none =
    let r = read_by text (graph_of_text text) (judges-text text) none in
    let m = graph_within-means 268435456 text r.0 r.1 in
    (r.0, m.0, m.1)
