-- What is read is spelled so, and is a graph.
use Rattle.std.proofs.Common.{◌≡◌, ℕ, ℤ, suc, zero, ◌+◌, ◌<◌, ◌≤◌, slice_index_or, Bool, true, false, cond, ltb, eqb, not, ◌&&◌, ◌||◌, List, [], ◌∷◌, ◌++◌, length, Option, Some, None, Result, Ok, Err, refl, sym, ap, subst, ◌∙◌, arith, inl, inr}
use Rattle.std.specs.Prelude.{◌↔◌, codes, decimal, map, ⊤}
use Rattle.std.specs.List.{flat_map, join_with_byte, AllByRecursion}
use Rattle.std.specs.Str.{bytes_eq}
use Rattle.std.proofs.lemmas.Bool.{false≢true, and_parts, ltb-true, ltb-false, eqb-true, not-false, le-ltb, lt-ltb}
use Rattle.std.proofs.lemmas.Slice.Eq.{bytes_eq-Decides}
use Rattle.std.proofs.lemmas.List.{length-append}
use Rattle.std.proofs.lemmas.List.Splits.{join_with_byte-slice_split}
use Rattle.rh_layout.specs.declared.value.Value.{Value}
use Rattle.rh_layout.specs.declared.value.Value.TheVariants.{Nil, Int, Ref}
use Rattle.rh_layout.specs.declared.command.RootId.{RootId}
use Rattle.rh_text.specs.Parts.{parts_of, is_formed, two_parts}
use Rattle.rh_text.specs.RawLine.{RawLine, lines_of, raw_text}
use Rattle.rh_text.specs.Root.{root_text}
use Rattle.rh_text.specs.Steps.{◌>>=◌, or_fault, with_fault}
use Rattle.rh_text.specs.lemmas.Formed.{ended_text, two_parts-means}
use Rattle.rh_text.specs.lemmas.RawLines.{lines_text}
use Rattle.rh_text.specs.lemmas.Steps.{bind_ok, chosen, refused, ok_is, or_fault_ok}
use Rattle.rh_dump.specs.declared.reading.due.Due.{Due}
use Rattle.rh_dump.specs.declared.reading.due.Due.TheVariants as dues
use Rattle.rh_dump.specs.declared.reading.due.Version.{Version}
use Rattle.rh_dump.specs.declared.reading.due.Version.TheVariants.{One, Two}
use Rattle.rh_dump.specs.declared.reading.fault.DumpKind.{DumpKind}
use Rattle.rh_dump.specs.declared.reading.fault.DumpKind.TheVariants.{Long, End, Header, Form, Number, Order, Count}
use Rattle.rh_model.specs.Plain.{PlainObject}
use Rattle.rh_dump.specs.Dump.{GraphState, root_values, met_with, met_after, IsNumberedAfter, AreNumbered, AreMetBefore, IsTold, IsRootTold, IsRootBefore, IsRootAfter, RootsRise, IsUnreferring, IsObjectTold, IsGraph}
use Rattle.rh_dump.specs.texts.Line.{DumpLine, header_line, roots_line, root_line, objects_line, object_line, end_line, value_text, dump_line_parts, spell_dump_line, root_lines, object_lines, lines_in, text_in, kind_parts, CanSay, IsTextOf, root_due, object_due, due_after}
use Rattle.rh_dump.specs.texts.Part.{number_up_to, whole_of, small_root_of, after_at, object_head}
use Rattle.rh_dump.specs.texts.Reading.{formed_parts, part_after, number_or_fault, roots_of_parts, objects_of_parts, reference_or_fault, whole_or_fault, reference_or_whole, value_or_fault, plain_or_fault, field_or_fault, values_or_fault, is_root_before, is_root_after, root_or_fault, root_of_parts, own_number, fields_or_fault, object_of_parts, version_or_fault, line_due, line_or_kind, fault_at, end_or_fault, lines_from, graph_of, graph_within}
use Rattle.rh_dump.specs.texts.Putting.{IsDue}
use Rattle.rh_dump.proofs.numbers.ObjectsIn.{joined}
use Rattle.rh_dump.proofs.texts.PartMeans.{number_up_to-means, whole_of-means, small_root_of-means, after_at-means, object_head-means}
use Rattle.rh_dump.proofs.numbers.MetValues.{met_after-append, AreNumbered-append}
use Rattle.rh_dump.proofs.texts.SpelledIsRead.{met_after_grows, length-map_text, root_due-more, graph_of-lines_in, graph_within-text}

with_fault_ok : {A : Type 0} (number : ℕ) (r : Result A DumpKind) (x : A) → with_fault (fault_at number) r ≡ Ok x → r ≡ Ok x
with_fault_ok number (Ok y) x e = cc
with_fault_ok number (Err kind) x e = absurd cc

number_or_fault-means : (limit : ℕ) (part : List ℕ) (n : ℕ) → number_or_fault limit part ≡ Ok n → (part ≡ decimal n) × (n ≤ limit)
number_or_fault-means limit part n e = number_up_to-means limit part n (or_fault_ok (number_up_to limit part) Number n e)

-- the parts, joined, are the line
formed_parts-means : (line : List ℕ) (parts : List (List ℕ)) → formed_parts line ≡ Ok parts → line ≡ join_with_byte 32 parts
unfolding formed_parts
formed_parts-means line parts e =
    let a = chosen (is_formed line) Form (Ok (parts_of line)) parts e in
    sym (join_with_byte-slice_split 32 line) ∙ ap (join_with_byte 32) (ok_is (parts_of line) parts a.1)

formed_parts-are : (line : List ℕ) (parts : List (List ℕ)) → formed_parts line ≡ Ok parts → parts_of line ≡ parts
unfolding formed_parts
formed_parts-are line parts e = ok_is (parts_of line) parts (chosen (is_formed line) Form (Ok (parts_of line)) parts e).1

part_after-means : (keyword : List ℕ) (parts : List (List ℕ)) (part : List ℕ) → part_after keyword parts ≡ Ok part → parts ≡ keyword ∷ part ∷ []
unfolding part_after
part_after-means keyword parts part e =
    let a = bind_ok (or_fault (two_parts parts) Form) (λ (two : List ℕ × List ℕ). cond (bytes_eq two.0 keyword) (Ok two.1) (Err Form)) part e in
    let are = two_parts-means parts a.0 (or_fault_ok (two_parts parts) Form a.0 a.1) in
    let b = chosen (bytes_eq a.0.0 keyword) Form (Ok a.0.1) part a.2 in
    let word : a.0.0 ≡ keyword = (bytes_eq-Decides a.0.0 keyword).0 b.0 in
    let same : a.0.1 ≡ part = ok_is a.0.1 part b.1 in
    are ∙ ap (λ (w : List ℕ). w ∷ a.0.1 ∷ []) word ∙ ap (λ (p : List ℕ). keyword ∷ p ∷ []) same

-- ---- values

below_by : (t : Bool) (k met count : ℕ) → met ≤ count → k < count → cond t met (k + 1) ≤ count
below_by true k met count all there = all
below_by false k met count all there = omega (arith, there)

-- a part says this value, which may stand where so many objects were met
record Says (part : List ℕ) (count met : ℕ) (v : Value) : Type 0 where
  text : part ≡ value_text v
  told : IsTold v
  next : IsNumberedAfter met v
  below : met_with met v ≤ count

reference_means : (part digits : List ℕ) (count met : ℕ) (v : Value) → met ≤ count → part ≡ 64 ∷ digits → reference_or_fault count met digits ≡ Ok v → Says part count met v
unfolding reference_or_fault
reference_means part digits count met v all at e =
    let a = bind_ok (number_or_fault 16777215 digits) (λ (k : ℕ). cond (ltb met k) (Err Order) (cond (ltb k count) (Ok (Ref k)) (Err Count))) v e in
    let b = refused (ltb met a.0) Order (cond (ltb a.0 count) (Ok (Ref a.0)) (Err Count)) v a.2 in
    let c = chosen (ltb a.0 count) Count (Ok (Ref a.0)) v b.1 in
    let n = number_or_fault-means 16777215 digits a.0 a.1 in
    subst (Says part count met) (ok_is (Ref a.0) v c.1) (record {
      text = at ∙ ap (λ (ds : List ℕ). 64 ∷ ds) n.0;
      told = tt;
      next = ltb-false met a.0 b.0;
      below = below_by (ltb a.0 met) a.0 met count all (ltb-true a.0 count c.0);
    })

whole_means : (part : List ℕ) (count met : ℕ) (v : Value) → met ≤ count → whole_or_fault part ≡ Ok v → Says part count met v
unfolding whole_or_fault
whole_means part count met v all e =
    let a = bind_ok (or_fault (whole_of part) Number) (λ (n : ℤ). Ok (Int n)) v e in
    let n = whole_of-means part a.0 (or_fault_ok (whole_of part) Number a.0 a.1) in
    subst (Says part count met) (ok_is (Int a.0) v a.2) (record { text = n.0; told = n.1; next = tt; below = all })

reference_or_whole-means : (part : List ℕ) (at : Option (List ℕ)) (count met : ℕ) (v : Value) → met ≤ count → after_at part ≡ at → reference_or_whole count met part at ≡ Ok v → Says part count met v
reference_or_whole-means part (Some digits) count met v all is e = reference_means part digits count met v all (after_at-means part digits is) e
reference_or_whole-means part None count met v all is e = whole_means part count met v all e

value_by : (nil : Bool) (part : List ℕ) (count met : ℕ) (v : Value) → met ≤ count → (nil ≡ true → part ≡ codes "nil") → cond nil (Ok Nil) (reference_or_whole count met part (after_at part)) ≡ Ok v → Says part count met v
value_by true part count met v all is e = subst (Says part count met) (ok_is Nil v e) (record { text = is refl; told = tt; next = tt; below = all })
value_by false part count met v all is e = reference_or_whole-means part (after_at part) count met v all refl e

value_or_fault-means : (part : List ℕ) (count met : ℕ) (v : Value) → met ≤ count → value_or_fault count met part ≡ Ok v → Says part count met v
unfolding value_or_fault
value_or_fault-means part count met v all e = value_by (bytes_eq part (codes "nil")) part count met v all (bytes_eq-Decides part (codes "nil")).0 e

whole_plain : (part : List ℕ) (v : Value) → whole_or_fault part ≡ Ok v → IsUnreferring v
unfolding whole_or_fault
whole_plain part v e = let a = bind_ok (or_fault (whole_of part) Number) (λ (n : ℤ). Ok (Int n)) v e in subst IsUnreferring (ok_is (Int a.0) v a.2) refl

plain_by : (nil : Bool) (part : List ℕ) (count met : ℕ) (v : Value) → met ≤ count → (nil ≡ true → part ≡ codes "nil") → cond nil (Ok Nil) (whole_or_fault part) ≡ Ok v → Says part count met v × IsUnreferring v
plain_by true part count met v all is e = (value_by true part count met v all is e, subst IsUnreferring (ok_is Nil v e) refl)
plain_by false part count met v all is e = (whole_means part count met v all e, whole_plain part v e)

plain_or_fault-means : (part : List ℕ) (count met : ℕ) (v : Value) → met ≤ count → plain_or_fault part ≡ Ok v → Says part count met v × IsUnreferring v
unfolding plain_or_fault
plain_or_fault-means part count met v all e = plain_by (bytes_eq part (codes "nil")) part count met v all (bytes_eq-Decides part (codes "nil")).0 e

-- what a field holds is no reference where the object is raw
field_or_fault-means : (raw : Bool) (part : List ℕ) (count met : ℕ) (v : Value) → met ≤ count → field_or_fault raw count met part ≡ Ok v → Says part count met v × (raw ≡ true → IsUnreferring v)
field_or_fault-means true part count met v all e = let m = plain_or_fault-means part count met v all e in (m.0, λ is. m.1)
field_or_fault-means false part count met v all e = (value_or_fault-means part count met v all e, λ is. absurd (false≢true is))

-- parts say these values, one after the other
record SayAll (raw : Bool) (parts : List (List ℕ)) (count met : ℕ) (vs : List Value) : Type 0 where
  texts : parts ≡ map value_text vs
  told : AllByRecursion IsTold vs
  next : AreNumbered met vs
  below : met_after met vs ≤ count
  plain : raw ≡ true → AllByRecursion IsUnreferring vs

cons_both : (x y : List ℕ) (xs ys : List (List ℕ)) → x ≡ y → xs ≡ ys → x ∷ xs ≡ y ∷ ys
cons_both x y xs ys e f = cc

values_or_fault-means : (raw : Bool) (parts : List (List ℕ)) (count met : ℕ) (vs : List Value) → met ≤ count → values_or_fault raw count met parts ≡ Ok vs → SayAll raw parts count met vs
unfolding values_or_fault
values_or_fault-means raw [] count met vs all e = subst (SayAll raw [] count met) (ok_is [] vs e) (record { texts = refl; told = tt; next = tt; below = all; plain = λ is. tt })
values_or_fault-means raw (part ∷ parts) count met vs all e =
    let a = bind_ok (field_or_fault raw count met part) (λ (v : Value). values_or_fault raw count (met_with met v) parts >>= λ others. Ok (v ∷ others)) vs e in
    let b = bind_ok (values_or_fault raw count (met_with met a.0) parts) (λ (others : List Value). Ok (a.0 ∷ others)) vs a.2 in
    let m = field_or_fault-means raw part count met a.0 all a.1 in
    let first = m.0 in
    let others = values_or_fault-means raw parts count (met_with met a.0) b.0 first.below b.1 in
    subst (SayAll raw (part ∷ parts) count met) (ok_is (a.0 ∷ b.0) vs b.2) (record {
      texts = cons_both part (value_text a.0) parts (map value_text b.0) first.text others.texts;
      told = (first.told, others.told);
      next = (first.next, others.next);
      below = others.below;
      plain = λ is. (m.1 is, others.plain is);
    })

-- ---- lines

-- a line that may stand where this is due
abbrev pub Fits : Due → DumpLine → Type 0
Fits dues.Header (header_line version) = ⊤
Fits (dues.Roots version) (roots_line count) = count ≤ 4096
Fits (dues.Root version left last met) (root_line r v) = IsRootTold (r, v) × IsRootAfter last r × IsNumberedAfter met v × (met_with met v ≤ 16777216)
Fits (dues.Objects version met) (objects_line count) = (count ≤ 16777216) × (met ≤ count)
Fits (dues.Object version number count met) (object_line own object) = (own ≡ number) × (number < met) × IsObjectTold object × AreNumbered met object.fields × (met_after met object.fields ≤ count) × CanSay version object
Fits dues.End end_line = ⊤
Fits due line = ⊥

pub record Means (due : Due) (bytes : List ℕ) (line : DumpLine) : Type 0 where
  pub spelled : bytes ≡ join_with_byte 32 (dump_line_parts line)
  pub parts : parts_of bytes ≡ dump_line_parts line
  pub fits : Fits due line

before_by : (t : Bool) (a b : RootId) → ltb a.owner b.owner ≡ t → (t || (eqb a.owner b.owner && ltb a.slot b.slot)) ≡ true → IsRootBefore a b
before_by true a b is e = inl (ltb-true a.owner b.owner is)
before_by false a b is e = let p = and_parts (eqb a.owner b.owner) (ltb a.slot b.slot) e in inr (eqb-true a.owner b.owner p.0, ltb-true a.slot b.slot p.1)

abbrev pair : RootId → Value → RootId × Value
pair root value = (root, value)

before_from : (a b : RootId) → is_root_before a b ≡ true → IsRootBefore a b
before_from a b e = before_by (ltb a.owner b.owner) a b refl e

pub is_after-means : (last : Option RootId) (r : RootId) → is_root_after last r ≡ true → IsRootAfter last r
is_after-means None r e = tt
is_after-means (Some last) r e = before_from last r e

-- a root that isn't nil
record RootSays (last : Option RootId) (met : ℕ) (parts : List (List ℕ)) (root : RootId × Value) : Type 0 where
  texts : parts ≡ root_text root.0 ∷ value_text root.1 ∷ []
  told : IsRootTold root
  after : IsRootAfter last root.0
  next : IsNumberedAfter met root.1
  below : met_with met root.1 ≤ 16777216

parts_2 : (parts : List (List ℕ)) (a b x y : List ℕ) → parts ≡ a ∷ b ∷ [] → a ≡ x → b ≡ y → parts ≡ x ∷ y ∷ []
parts_2 parts a b x y e p q = cc

root_of_parts-means : (last : Option RootId) (met : ℕ) (parts : List (List ℕ)) (root : RootId × Value) → met ≤ 16777216 → root_of_parts last met parts ≡ Ok root → RootSays last met parts root
unfolding root_of_parts root_or_fault
root_of_parts-means last met parts root all e =
    let a = bind_ok (or_fault (two_parts parts) Form) (λ (two : List ℕ × List ℕ). cond (bytes_eq two.1 (codes "nil")) (Err Form) (Ok two.1) >>= λ some. root_or_fault last two.0 >>= λ r. value_or_fault 16777216 met some >>= λ v. Ok (r, v)) root e in
    let b = bind_ok (cond (bytes_eq a.0.1 (codes "nil")) (Err Form) (Ok a.0.1)) (λ (some : List ℕ). root_or_fault last a.0.0 >>= λ r. value_or_fault 16777216 met some >>= λ v. Ok (r, v)) root a.2 in
    let c = bind_ok (root_or_fault last a.0.0) (λ (r : RootId). value_or_fault 16777216 met b.0 >>= λ v. Ok (r, v)) root b.2 in
    let d = bind_ok (value_or_fault 16777216 met b.0) (λ (v : Value). Ok (c.0, v)) root c.2 in
    let f = bind_ok (or_fault (small_root_of a.0.0) Number) (λ (r : RootId). cond (is_root_after last r) (Ok r) (Err Order)) c.0 c.1 in
    let h = chosen (is_root_after last f.0) Order (Ok f.0) c.0 f.2 in
    let are = two_parts-means parts a.0 (or_fault_ok (two_parts parts) Form a.0 a.1) in
    let some = refused (bytes_eq a.0.1 (codes "nil")) Form (Ok a.0.1) b.0 b.1 in
    let part_is : a.0.1 ≡ b.0 = ok_is a.0.1 b.0 some.1 in
    let small = small_root_of-means a.0.0 f.0 (or_fault_ok (small_root_of a.0.0) Number f.0 f.1) in
    let root_is : f.0 ≡ c.0 = ok_is f.0 c.0 h.1 in
    let says = value_or_fault-means b.0 16777216 met d.0 all d.1 in
    let text : a.0.1 ≡ value_text d.0 = part_is ∙ says.text in
    let bare : d.0 ≡ Nil → ⊥ = λ nil. false≢true (sym some.0 ∙ (bytes_eq-Decides a.0.1 (codes "nil")).1 (text ∙ ap value_text nil)) in
    let found : RootSays last met parts (f.0, d.0) = record {
      texts = parts_2 parts a.0.0 a.0.1 (root_text f.0) (value_text d.0) are small.0 text;
      told = (small.1, small.2, bare, says.told);
      after = is_after-means last f.0 h.0;
      next = says.next;
      below = says.below;
    } in
    subst (RootSays last met parts) (ap (λ (r : RootId). pair r d.0) root_is ∙ ok_is (c.0, d.0) root d.2) found

-- an object's line
record ObjectSays (version : Version) (number count met : ℕ) (parts : List (List ℕ)) (object : ℕ × PlainObject) : Type 0 where
  texts : parts ≡ (64 ∷ decimal object.0) ∷ (kind_parts object.1.raw ++ (decimal (length object.1.fields) ∷ map value_text object.1.fields))
  own : object.0 ≡ number
  before : number < met
  told : IsObjectTold object.1
  next : AreNumbered met object.1.fields
  below : met_after met object.1.fields ≤ count
  says : CanSay version object.1

not_true : (b : Bool) → not b ≡ false → b ≡ true
not_true true e = refl
not_true false e = absurd (cc)

abbrev made : Bool → List Value → PlainObject
made raw fields = record { raw = raw; fields = fields }

abbrev made_object : ℕ → Bool → List Value → ℕ × PlainObject
made_object own raw fields = (own, made raw fields)

parts_3 : (parts rest others : List (List ℕ)) (raw : Bool) (a b x y : List ℕ) → parts ≡ a ∷ (kind_parts raw ++ (b ∷ rest)) → a ≡ x → b ≡ y → rest ≡ others → parts ≡ x ∷ (kind_parts raw ++ (y ∷ others))
parts_3 parts rest others raw a b x y e p q r =
    e ∙ ap (λ (w : List ℕ). w ∷ (kind_parts raw ++ (b ∷ rest))) p ∙ ap (λ (w : List ℕ). x ∷ (kind_parts raw ++ (w ∷ rest))) q ∙ ap (λ (ws : List (List ℕ)). x ∷ (kind_parts raw ++ (y ∷ ws))) r

object_of_parts-means : (version : Version) (number count met : ℕ) (parts : List (List ℕ)) (object : ℕ × PlainObject) → met ≤ count → object_of_parts version number count met parts ≡ Ok object → ObjectSays version number count met parts object
unfolding object_of_parts own_number fields_or_fault
object_of_parts-means version number count met parts object all e =
    let a = bind_ok (or_fault (object_head version parts) Form) (λ (head : List ℕ × Bool × List ℕ × List (List ℕ)). own_number number met head.0 >>= λ own. number_or_fault 4095 head.2 >>= λ fields. fields_or_fault head.1 count met fields head.3 >>= λ values. Ok (made_object own head.1 values)) object e in
    let raw = a.0.1 in
    let b = bind_ok (own_number number met a.0.0) (λ (own : ℕ). number_or_fault 4095 a.0.2 >>= λ fields. fields_or_fault raw count met fields a.0.3 >>= λ values. Ok (made_object own raw values)) object a.2 in
    let c = bind_ok (number_or_fault 4095 a.0.2) (λ (fields : ℕ). fields_or_fault raw count met fields a.0.3 >>= λ values. Ok (made_object b.0 raw values)) object b.2 in
    let d = bind_ok (fields_or_fault raw count met c.0 a.0.3) (λ (values : List Value). Ok (made_object b.0 raw values)) object c.2 in
    let f = bind_ok (number_or_fault 16777215 a.0.0) (λ (k : ℕ). cond (not (eqb k number)) (Err Order) (cond (ltb number met) (Ok k) (Err Count))) b.0 b.1 in
    let h = refused (not (eqb f.0 number)) Order (cond (ltb number met) (Ok f.0) (Err Count)) b.0 f.2 in
    let i = chosen (ltb number met) Count (Ok f.0) b.0 h.1 in
    let j = chosen (eqb (length a.0.3) c.0) Form (values_or_fault raw count met a.0.3) d.0 d.1 in
    let head = object_head-means version parts a.0 (or_fault_ok (object_head version parts) Form a.0 a.1) in
    let own_text = number_or_fault-means 16777215 a.0.0 f.0 f.1 in
    let count_text = number_or_fault-means 4095 a.0.2 c.0 c.1 in
    let values = values_or_fault-means raw a.0.3 count met d.0 all j.1 in
    let many : length a.0.3 ≡ c.0 = eqb-true (length a.0.3) c.0 j.0 in
    let fields_are : c.0 ≡ length d.0 = sym many ∙ ap length values.texts ∙ length-map_text d.0 in
    let own_is : f.0 ≡ b.0 = ok_is f.0 b.0 i.1 in
    let number_is : f.0 ≡ number = eqb-true f.0 number (not_true (eqb f.0 number) h.0) in
    let found : ObjectSays version number count met parts (made_object b.0 raw d.0) = record {
      texts = parts_3 parts a.0.3 (map value_text d.0) raw (64 ∷ a.0.0) a.0.2 (64 ∷ decimal b.0) (decimal (length d.0)) head.texts (ap (λ (ds : List ℕ). 64 ∷ ds) (own_text.0 ∙ ap decimal own_is)) (count_text.0 ∙ ap decimal fields_are) values.texts;
      own = sym own_is ∙ number_is;
      before = ltb-true number met i.0;
      told = record { few = omega (arith, count_text.1, fields_are); told = values.told; raw = values.plain };
      next = values.next;
      below = values.below;
      says = head.kind;
    } in
    subst (ObjectSays version number count met parts) (ok_is (made_object b.0 raw d.0) object d.2) found

header_says : (bytes : List ℕ) (version : Version) (text : List ℕ) → bytes ≡ text → text ≡ join_with_byte 32 (dump_line_parts (header_line version)) → parts_of text ≡ dump_line_parts (header_line version) → Means dues.Header bytes (header_line version)
header_says bytes version text is spelled parts = record { spelled = is ∙ spelled; parts = ap parts_of is ∙ parts; fits = tt }

version_by : (one two : Bool) (bytes : List ℕ) (version : Version) → (one ≡ true → bytes ≡ codes "rheap 1") → (two ≡ true → bytes ≡ codes "rheap 2") → cond one (Ok One) (cond two (Ok Two) (Err Header)) ≡ Ok version → Means dues.Header bytes (header_line version)
version_by true two bytes version is other e = subst (λ (v : Version). Means dues.Header bytes (header_line v)) (ok_is One version e) (header_says bytes One (codes "rheap 1") (is refl) refl refl)
version_by false true bytes version is other e = subst (λ (v : Version). Means dues.Header bytes (header_line v)) (ok_is Two version e) (header_says bytes Two (codes "rheap 2") (other refl) refl refl)
version_by false false bytes version is other e = absurd cc

version_or_fault-means : (bytes : List ℕ) (version : Version) → version_or_fault bytes ≡ Ok version → Means dues.Header bytes (header_line version)
unfolding version_or_fault
version_or_fault-means bytes version e = version_by (bytes_eq bytes (codes "rheap 1")) (bytes_eq bytes (codes "rheap 2")) bytes version (bytes_eq-Decides bytes (codes "rheap 1")).0 (bytes_eq-Decides bytes (codes "rheap 2")).0 e

pub line_means : (due : Due) (bytes : List ℕ) (line : DumpLine) → IsDue due → line_due due bytes ≡ Ok line → Means due bytes line
unfolding line_due roots_of_parts objects_of_parts
line_means dues.Header bytes line is e =
    let a = bind_ok (version_or_fault bytes) (λ (version : Version). Ok (header_line version)) line e in
    subst (Means dues.Header bytes) (ok_is (header_line a.0) line a.2) (version_or_fault-means bytes a.0 a.1)
line_means (dues.Roots version) bytes line is e =
    let a = bind_ok (formed_parts bytes) (λ (parts : List (List ℕ)). roots_of_parts parts >>= λ count. Ok (roots_line count)) line e in
    let b = bind_ok (roots_of_parts a.0) (λ (count : ℕ). Ok (roots_line count)) line a.2 in
    let c = bind_ok (part_after (codes "roots") a.0) (λ (part : List ℕ). number_or_fault 4096 part) b.0 b.1 in
    let are = part_after-means (codes "roots") a.0 c.0 c.1 in
    let n = number_or_fault-means 4096 c.0 b.0 c.2 in
    subst (Means (dues.Roots version) bytes) (ok_is (roots_line b.0) line b.2) (record {
      spelled = formed_parts-means bytes a.0 a.1 ∙ ap (join_with_byte 32) (are ∙ ap (λ (p : List ℕ). codes "roots" ∷ p ∷ []) n.0);
      parts = formed_parts-are bytes a.0 a.1 ∙ (are ∙ ap (λ (p : List ℕ). codes "roots" ∷ p ∷ []) n.0);
      fits = n.1;
    })
line_means (dues.Root version left last met) bytes line is e =
    let a = bind_ok (formed_parts bytes) (λ (parts : List (List ℕ)). root_of_parts last met parts >>= λ root. Ok (root_line root.0 root.1)) line e in
    let b = bind_ok (root_of_parts last met a.0) (λ (root : RootId × Value). Ok (root_line root.0 root.1)) line a.2 in
    let c = root_of_parts-means last met a.0 b.0 is b.1 in
    subst (Means (dues.Root version left last met) bytes) (ok_is (root_line b.0.0 b.0.1) line b.2) (record {
      spelled = formed_parts-means bytes a.0 a.1 ∙ ap (join_with_byte 32) c.texts;
      parts = formed_parts-are bytes a.0 a.1 ∙ c.texts;
      fits = (c.told, c.after, c.next, c.below);
    })
line_means (dues.Objects version met) bytes line is e =
    let a = bind_ok (formed_parts bytes) (λ (parts : List (List ℕ)). objects_of_parts met parts >>= λ count. Ok (objects_line count)) line e in
    let b = bind_ok (objects_of_parts met a.0) (λ (count : ℕ). Ok (objects_line count)) line a.2 in
    let c = bind_ok (part_after (codes "objects") a.0) (λ (part : List ℕ). number_or_fault 16777216 part >>= λ count. cond (ltb count met) (Err Count) (Ok count)) b.0 b.1 in
    let d = bind_ok (number_or_fault 16777216 c.0) (λ (count : ℕ). cond (ltb count met) (Err Count) (Ok count)) b.0 c.2 in
    let f = refused (ltb d.0 met) Count (Ok d.0) b.0 d.2 in
    let same : d.0 ≡ b.0 = ok_is d.0 b.0 f.1 in
    let are = part_after-means (codes "objects") a.0 c.0 c.1 in
    let n = number_or_fault-means 16777216 c.0 d.0 d.1 in
    let all : met ≤ d.0 = ltb-false d.0 met f.0 in
    subst (Means (dues.Objects version met) bytes) (ok_is (objects_line b.0) line b.2) (record {
      spelled = formed_parts-means bytes a.0 a.1 ∙ ap (join_with_byte 32) (are ∙ ap (λ (p : List ℕ). codes "objects" ∷ p ∷ []) (n.0 ∙ ap decimal same));
      parts = formed_parts-are bytes a.0 a.1 ∙ (are ∙ ap (λ (p : List ℕ). codes "objects" ∷ p ∷ []) (n.0 ∙ ap decimal same));
      fits = (omega (arith, n.1, same), omega (arith, all, same));
    })
line_means (dues.Object version number count met) bytes line is e =
    let a = bind_ok (formed_parts bytes) (λ (parts : List (List ℕ)). object_of_parts version number count met parts >>= λ object. Ok (object_line object.0 object.1)) line e in
    let b = bind_ok (object_of_parts version number count met a.0) (λ (object : ℕ × PlainObject). Ok (object_line object.0 object.1)) line a.2 in
    let c = object_of_parts-means version number count met a.0 b.0 is.0 b.1 in
    subst (Means (dues.Object version number count met) bytes) (ok_is (object_line b.0.0 b.0.1) line b.2) (record {
      spelled = formed_parts-means bytes a.0 a.1 ∙ ap (join_with_byte 32) c.texts;
      parts = formed_parts-are bytes a.0 a.1 ∙ c.texts;
      fits = (c.own, c.before, c.told, c.next, c.below, c.says);
    })
line_means dues.End bytes line is e =
    let a = chosen (bytes_eq bytes (codes "end")) Form (Ok end_line) line e in
    subst (Means dues.End bytes) (ok_is end_line line a.1) (record { spelled = (bytes_eq-Decides bytes (codes "end")).0 a.0; parts = ap parts_of ((bytes_eq-Decides bytes (codes "end")).0 a.0); fits = tt })
line_means dues.Nothing bytes line is e = absurd cc

-- ---- lines, one after the other

-- each line may stand where it does, and nothing is due after the last
abbrev pub Accepts : Due → List DumpLine → Type 0
Accepts dues.Nothing [] = ⊤
Accepts due [] = ⊥
Accepts due (line ∷ lines) = Fits due line × Accepts (due_after due line) lines

accepts_next : (due : Due) (line : DumpLine) (lines : List DumpLine) → Fits due line → Accepts (due_after due line) lines → Accepts due (line ∷ lines)
accepts_next dues.Header line lines f h = (f, h)
accepts_next (dues.Roots version) line lines f h = (f, h)
accepts_next (dues.Root version left last met) line lines f h = (f, h)
accepts_next (dues.Objects version met) line lines f h = (f, h)
accepts_next (dues.Object version number count met) line lines f h = (f, h)
accepts_next dues.End line lines f h = (f, h)
accepts_next dues.Nothing line lines f h = (f, h)

root_due_small : (version : Version) (left : ℕ) (last : Option RootId) (met : ℕ) → met ≤ 16777216 → IsDue (root_due version left last met)
root_due_small version zero last met h = h
root_due_small version (suc n) last met h = subst IsDue (sym (root_due-more version n last met)) h

object_due_by : (t : Bool) (version : Version) (number count met : ℕ) → met ≤ count → count ≤ 16777216 → IsDue (cond t (dues.Object version number count met) dues.End)
object_due_by true version number count met h few = (h, few)
object_due_by false version number count met h few = tt

pub due_after_small : (due : Due) (line : DumpLine) → IsDue due → Fits due line → IsDue (due_after due line)
due_after_small dues.Header (header_line version) is f = tt
due_after_small (dues.Roots version) (roots_line count) is f = root_due_small version count None 0 (omega arith)
due_after_small (dues.Root version left last met) (root_line r v) is f = root_due_small version left (Some r) (met_with met v) f.3
due_after_small (dues.Objects version met) (objects_line count) is f = object_due_by (ltb 0 count) version 0 count met f.1 f.0
due_after_small (dues.Object version number count met) (object_line own object) is f = object_due_by (ltb (number + 1) count) version (number + 1) count (met_after met object.fields) f.4 is.1
due_after_small dues.End end_line is f = tt
due_after_small due line is f = absurd f

-- a raw line that was read
pub record RawMeans (limit : ℕ) (due : Due) (size : ℕ) (raw : RawLine) (line : DumpLine) : Type 0 where
  pub text : raw_text raw ≡ spell_dump_line line
  pub within : size + length (raw_text raw) ≤ limit
  pub fits : Fits due line

pub raw_means : (limit : ℕ) (due : Due) (size : ℕ) (raw : RawLine) (line : DumpLine) → IsDue due → line_or_kind limit due size raw ≡ Ok line → RawMeans limit due size raw line
unfolding line_or_kind
raw_means limit due size raw line is e =
    let a = refused (ltb limit (size + length (raw_text raw))) Long (cond (not raw.ended) (Err End) (line_due due raw.bytes)) line e in
    let b = refused (not raw.ended) End (line_due due raw.bytes) line a.1 in
    let m = line_means due raw.bytes line is b.1 in
    record {
      text = ended_text raw.ended raw.bytes (join_with_byte 32 (dump_line_parts line)) (not-false raw.ended b.0) m.spelled;
      within = ltb-false limit (size + length (raw_text raw)) a.0;
      fits = m.fits;
    }

pub raw_due : (limit : ℕ) (due : Due) (size : ℕ) (raw : RawLine) (line : DumpLine) → line_or_kind limit due size raw ≡ Ok line → line_due due raw.bytes ≡ Ok line
unfolding line_or_kind
raw_due limit due size raw line e =
    let a = refused (ltb limit (size + length (raw_text raw))) Long (cond (not raw.ended) (Err End) (line_due due raw.bytes)) line e in
    (refused (not raw.ended) End (line_due due raw.bytes) line a.1).1

-- raw lines that were read
record LinesMean (limit : ℕ) (due : Due) (size : ℕ) (raws : List RawLine) (lines : List DumpLine) : Type 0 where
  text : flat_map raw_text raws ≡ flat_map spell_dump_line lines
  within : size + length (flat_map raw_text raws) ≤ limit
  accepted : Accepts due lines

ended_means : (limit : ℕ) (due : Due) (number size : ℕ) (lines : List DumpLine) → size ≤ limit → end_or_fault number due ≡ Ok lines → LinesMean limit due size [] lines
ended_means limit dues.Nothing number size lines few e = subst (LinesMean limit dues.Nothing size []) (ok_is [] lines e) (record { text = refl; within = omega (arith, few); accepted = tt })
ended_means limit due number size lines few e = absurd cc

lines_mean : (limit : ℕ) (due : Due) (number size : ℕ) (raws : List RawLine) (lines : List DumpLine) → IsDue due → size ≤ limit → lines_from limit due number size raws ≡ Ok lines → LinesMean limit due size raws lines
unfolding lines_from
lines_mean limit due number size [] lines is few e = ended_means limit due number size lines few e
lines_mean limit due number size (raw ∷ raws) lines is few e =
    let a = bind_ok (with_fault (fault_at number) (line_or_kind limit due size raw)) (λ (line : DumpLine). lines_from limit (due_after due line) (number + 1) (size + length (raw_text raw)) raws >>= λ others. Ok (line ∷ others)) lines e in
    let b = bind_ok (lines_from limit (due_after due a.0) (number + 1) (size + length (raw_text raw)) raws) (λ (others : List DumpLine). Ok (a.0 ∷ others)) lines a.2 in
    let first = raw_means limit due size raw a.0 is (with_fault_ok number (line_or_kind limit due size raw) a.0 a.1) in
    let others = lines_mean limit (due_after due a.0) (number + 1) (size + length (raw_text raw)) raws b.0 (due_after_small due a.0 is first.fits) first.within b.1 in
    subst (LinesMean limit due size (raw ∷ raws)) (ok_is (a.0 ∷ b.0) lines b.2) (record {
      text = ap (λ (t : List ℕ). t ++ flat_map raw_text raws) first.text ∙ ap (λ (t : List ℕ). spell_dump_line a.0 ++ t) others.text;
      within = omega (arith, others.within, length-append (raw_text raw) (flat_map raw_text raws));
      accepted = accepts_next due a.0 b.0 first.fits others.accepted;
    })

-- ---- the graph of lines that were accepted

-- the lines of so many roots, and those after them
record RootsAre (version : Version) (left : ℕ) (last : Option RootId) (met : ℕ) (lines : List DumpLine) : Type 0 where
  roots : List (RootId × Value)
  rest : List DumpLine
  lines_are : lines ≡ root_lines roots ++ rest
  many : length roots ≡ left
  told : AllByRecursion IsRootTold roots
  rise : RootsRise last roots
  next : AreNumbered met (root_values roots)
  others : Accepts (dues.Objects version (met_after met (root_values roots))) rest

root_first : (version : Version) (n : ℕ) (last : Option RootId) (met : ℕ) (lines : List DumpLine) → ((l : Option RootId) (m : ℕ) (ls : List DumpLine) → Accepts (root_due version n l m) ls → RootsAre version n l m ls) → Accepts (dues.Root version n last met) lines → RootsAre version (suc n) last met lines
root_first version n last met [] more h = absurd h
root_first version n last met (root_line r v ∷ lines) more h =
    let a = more (Some r) (met_with met v) lines h.1 in
    record {
      roots = (r, v) ∷ a.roots;
      rest = a.rest;
      lines_are = ap (λ (ls : List DumpLine). root_line r v ∷ ls) a.lines_are;
      many = ap suc a.many;
      told = (h.0.0, a.told);
      rise = (h.0.1, a.rise);
      next = (h.0.2, a.next);
      others = a.others;
    }
root_first version n last met (header_line v ∷ lines) more h = absurd h.0
root_first version n last met (roots_line count ∷ lines) more h = absurd h.0
root_first version n last met (objects_line count ∷ lines) more h = absurd h.0
root_first version n last met (object_line own object ∷ lines) more h = absurd h.0
root_first version n last met (end_line ∷ lines) more h = absurd h.0

roots_are : (version : Version) (left : ℕ) (last : Option RootId) (met : ℕ) (lines : List DumpLine) → Accepts (root_due version left last met) lines → RootsAre version left last met lines
roots_are version zero last met lines h = record { roots = []; rest = lines; lines_are = refl; many = refl; told = tt; rise = tt; next = tt; others = h }
roots_are version (suc n) last met lines h = root_first version n last met lines (roots_are version n) (subst (λ (d : Due). Accepts d lines) (root_due-more version n last met) h)

-- the lines of so many objects, and those after them
record ObjectsAre (version : Version) (number count met : ℕ) (lines : List DumpLine) : Type 0 where
  objects : List PlainObject
  rest : List DumpLine
  lines_are : lines ≡ object_lines number objects ++ rest
  many : number + length objects ≡ count
  before : AreMetBefore number met objects
  told : AllByRecursion IsObjectTold objects
  next : AreNumbered met (joined objects)
  all : met_after met (joined objects) ≡ count
  says : AllByRecursion (CanSay version) objects
  others : Accepts dues.End rest

object_first : (version : Version) (number count met : ℕ) (lines : List DumpLine) → number < count
    → ((m : ℕ) (ls : List DumpLine) → number + 1 ≤ m → m ≤ count → Accepts (object_due version (number + 1) count m) ls → ObjectsAre version (number + 1) count m ls) → Accepts (dues.Object version number count met) lines → ObjectsAre version number count met lines
object_first version number count met [] there more h = absurd h
object_first version number count met (object_line own object ∷ lines) there more h =
    let f = h.0 in
    let fields = object.fields in
    let a = more (met_after met fields) lines (omega (arith, f.1, met_after_grows met fields)) f.4 h.1 in
    record {
      objects = object ∷ a.objects;
      rest = a.rest;
      lines_are = ap (λ (n : ℕ). object_line n object ∷ lines) f.0 ∙ ap (λ (ls : List DumpLine). object_line number object ∷ ls) a.lines_are;
      many = omega (arith, a.many);
      before = (f.1, a.before);
      told = (f.2, a.told);
      next = AreNumbered-append met fields (joined a.objects) f.3 a.next;
      all = met_after-append met fields (joined a.objects) ∙ a.all;
      says = (f.5, a.says);
      others = a.others;
    }
object_first version number count met (header_line v ∷ lines) there more h = absurd h.0
object_first version number count met (roots_line n ∷ lines) there more h = absurd h.0
object_first version number count met (root_line r v ∷ lines) there more h = absurd h.0
object_first version number count met (objects_line n ∷ lines) there more h = absurd h.0
object_first version number count met (end_line ∷ lines) there more h = absurd h.0

objects_are : (version : Version) (left number count met : ℕ) (lines : List DumpLine) → number + left ≡ count → number ≤ met → met ≤ count → Accepts (object_due version number count met) lines → ObjectsAre version number count met lines
objects_are version zero number count met lines all low high h =
    let ended : object_due version number count met ≡ dues.End = ap (λ (t : Bool). cond t (dues.Object version number count met) dues.End) (le-ltb number count (omega (arith, all))) in
    record { objects = []; rest = lines; lines_are = refl; many = omega (arith, all); before = tt; told = tt; next = tt; all = omega (arith, all, low, high); says = tt; others = subst (λ (d : Due). Accepts d lines) ended h }
objects_are version (suc left) number count met lines all low high h =
    let there : number < count = omega (arith, all) in
    let due : object_due version number count met ≡ dues.Object version number count met = ap (λ (t : Bool). cond t (dues.Object version number count met) dues.End) (lt-ltb number count there) in
    object_first version number count met lines there (λ m ls low high. objects_are version left (number + 1) count m ls (omega (arith, all)) low high) (subst (λ (d : Due). Accepts d lines) due h)

-- `end`, and nothing after it
nothing_fits : (line : DumpLine) → Fits dues.Nothing line → ⊥
nothing_fits (header_line v) f = f
nothing_fits (roots_line n) f = f
nothing_fits (root_line r v) f = f
nothing_fits (objects_line n) f = f
nothing_fits (object_line n fields) f = f
nothing_fits end_line f = f

end_is : (lines : List DumpLine) → Accepts dues.End lines → lines ≡ end_line ∷ []
end_is [] h = absurd h
end_is (end_line ∷ []) h = refl
end_is (end_line ∷ line ∷ lines) h = absurd (nothing_fits line h.1.0)
end_is (header_line v ∷ lines) h = absurd h.0
end_is (roots_line n ∷ lines) h = absurd h.0
end_is (root_line r v ∷ lines) h = absurd h.0
end_is (objects_line n ∷ lines) h = absurd h.0
end_is (object_line n fields ∷ lines) h = absurd h.0

-- `objects N`, and the objects
record CountIs (version : Version) (met : ℕ) (lines : List DumpLine) : Type 0 where
  objects : List PlainObject
  lines_are : lines ≡ objects_line (length objects) ∷ (object_lines 0 objects ++ (end_line ∷ []))
  few : length objects ≤ 16777216
  before : AreMetBefore 0 met objects
  told : AllByRecursion IsObjectTold objects
  next : AreNumbered met (joined objects)
  all : met_after met (joined objects) ≡ length objects
  says : AllByRecursion (CanSay version) objects

count_is : (version : Version) (met : ℕ) (lines : List DumpLine) → Accepts (dues.Objects version met) lines → CountIs version met lines
count_is version met [] h = absurd h
count_is version met (objects_line count ∷ lines) h =
    let a = objects_are version count 0 count met lines (omega arith) (omega arith) h.0.1 h.1 in
    let many : length a.objects ≡ count = omega (arith, a.many) in
    record {
      objects = a.objects;
      lines_are = ap (λ (n : ℕ). objects_line n ∷ lines) (sym many) ∙ ap (λ (ls : List DumpLine). objects_line (length a.objects) ∷ ls) (a.lines_are ∙ ap (λ (ls : List DumpLine). object_lines 0 a.objects ++ ls) (end_is a.rest a.others));
      few = omega (arith, many, h.0.0);
      before = a.before;
      told = a.told;
      next = a.next;
      all = a.all ∙ sym many;
      says = a.says;
    }
count_is version met (header_line v ∷ lines) h = absurd h.0
count_is version met (roots_line n ∷ lines) h = absurd h.0
count_is version met (root_line r v ∷ lines) h = absurd h.0
count_is version met (object_line n object ∷ lines) h = absurd h.0
count_is version met (end_line ∷ lines) h = absurd h.0

-- the lines of a graph
record GraphIs (lines : List DumpLine) : Type 0 where
  graph : GraphState
  is : IsGraph graph
  version : Version
  says : AllByRecursion (CanSay version) graph.objects
  lines_are : lines ≡ lines_in version graph

after_header : (version : Version) (lines : List DumpLine) → Accepts (dues.Roots version) lines → GraphIs (header_line version ∷ lines)
after_header version [] h = absurd h
after_header version (roots_line left ∷ lines) h =
    let a = roots_are version left None 0 lines h.1 in
    let b = count_is version (met_after 0 (root_values a.roots)) a.rest a.others in
    let graph : GraphState = record { roots = a.roots; objects = b.objects } in
    record {
      graph = graph;
      is = record {
        roots = a.told;
        roots_rise = a.rise;
        objects = b.told;
        few_objects = b.few;
        numbered = AreNumbered-append 0 (root_values a.roots) (joined b.objects) a.next b.next;
        met_before = b.before;
        all_met = met_after-append 0 (root_values a.roots) (joined b.objects) ∙ b.all;
      };
      version = version;
      says = b.says;
      lines_are = ap (λ (n : ℕ). header_line version ∷ roots_line n ∷ lines) (sym a.many) ∙ ap (λ (ls : List DumpLine). header_line version ∷ roots_line (length a.roots) ∷ ls) (a.lines_are ∙ ap (λ (ls : List DumpLine). root_lines a.roots ++ ls) b.lines_are);
    }
after_header version (header_line v ∷ lines) h = absurd h.0
after_header version (root_line r v ∷ lines) h = absurd h.0
after_header version (objects_line n ∷ lines) h = absurd h.0
after_header version (object_line n object ∷ lines) h = absurd h.0
after_header version (end_line ∷ lines) h = absurd h.0

accepted_is : (lines : List DumpLine) → Accepts dues.Header lines → GraphIs lines
accepted_is [] h = absurd h
accepted_is (header_line version ∷ lines) h = after_header version lines h.1
accepted_is (roots_line n ∷ lines) h = absurd h.0
accepted_is (root_line r v ∷ lines) h = absurd h.0
accepted_is (objects_line n ∷ lines) h = absurd h.0
accepted_is (object_line n object ∷ lines) h = absurd h.0
accepted_is (end_line ∷ lines) h = absurd h.0

pub graph_within-means : (limit : ℕ) (text : List ℕ) (g : GraphState) → graph_within limit text ≡ Ok g → IsGraph g × IsTextOf text g × (length text ≤ limit)
unfolding graph_within
graph_within-means limit text g e =
    let a = bind_ok (lines_from limit dues.Header 1 0 (lines_of text)) (λ (lines : List DumpLine). Ok (graph_of lines)) g e in
    let m = lines_mean limit dues.Header 1 0 (lines_of text) a.0 tt (omega arith) a.1 in
    let is = accepted_is a.0 m.accepted in
    let same : is.graph ≡ g = sym (graph_of-lines_in is.version is.graph) ∙ ap graph_of (sym is.lines_are) ∙ ok_is (graph_of a.0) g a.2 in
    let spelled : text ≡ text_in is.version is.graph = sym (lines_text text) ∙ m.text ∙ ap (flat_map spell_dump_line) is.lines_are in
    let told : IsTextOf text is.graph = (is.version, is.says, spelled) in
    (subst IsGraph same is.is, subst (IsTextOf text) same told, omega (arith, m.within, ap length (lines_text text)))

-- a text of version 1 is none of version 2
one_is_no_two : (g : GraphState) → text_in One g ≡ text_in Two g → ⊥
one_is_no_two g same =
    let byte : 49 ≡ 50 = ap (λ text. slice_index_or text 6 0) same in
    omega (arith, byte)

-- where a graph's text of version 1 is one of its texts, it has no raw object
said_in_one : (g : GraphState) → IsTextOf (text_in One g) g → AllByRecursion (CanSay One) g.objects
said_in_one g (One, says, same) = says
said_in_one g (Two, says, same) = absurd (one_is_no_two g same)

-- a graph is read from its text of version 1 exactly where it has no raw object
pub graph_within-one : (limit : ℕ) (g : GraphState) → IsGraph g → length (text_in One g) ≤ limit
    → (graph_within limit (text_in One g) ≡ Ok g) ↔ AllByRecursion (CanSay One) g.objects
graph_within-one limit g is few =
    (λ e. said_in_one g (graph_within-means limit (text_in One g) g e).1, λ says. graph_within-text limit One g is says few)
