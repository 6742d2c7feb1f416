-- What a graph is spelled as is read as that graph.
use Rattle.std.proofs.Common.{◌≡◌, ℕ, ℤ, pos, negsuc, suc, ◌+◌, ◌-◌, ◌*◌, ◌^◌, ◌<◌, ◌≤◌, Bool, true, false, cond, ltb, eqb, ◌&&◌, ◌||◌, List, [], ◌∷◌, ◌++◌, length, Option, Some, None, Result, Ok, Err, refl, sym, ap, subst, ◌∙◌, append_assoc, arith, inl, inr}
use Rattle.std.specs.Prelude.{codes, decimal, map, fold, T, ⊤}
use Rattle.std.specs.Int.Signed.{le_z}
use Rattle.std.proofs.lemmas.Int.{ints}
use Rattle.std.specs.Fmt.{signed_decimal}
use Rattle.std.specs.List.{flat_map, join_with_byte, AllByRecursion, list_all}
use Rattle.std.specs.Str.{bytes_eq}
use Rattle.std.proofs.lemmas.Bool.{false≢true, false_from_ne_true, and_parts, and_from, le-ltb, lt-ltb, le-leb, ltb-true, ltb-false, ne_eqb, eq-eqb}
use Rattle.std.proofs.Math.Bool.{or-true}
use Rattle.std.proofs.lemmas.Slice.Eq.{bytes_eq-Decides}
use Rattle.std.proofs.lemmas.List.{append-nil, length-append}
use Rattle.rh_layout.specs.declared.value.Value.{Value}
use Rattle.rh_layout.specs.declared.value.Value.TheVariants.{Nil, Int, Ref}
use Rattle.rh_layout.specs.declared.command.RootId.{RootId}
use Rattle.rh_layout.specs.Word.{IsWhole, is_whole}
use Rattle.rh_text.specs.Number.{IsU32, IsI64}
use Rattle.rh_text.specs.Parts.{parts_of, is_filled, spell_parts, two_parts}
use Rattle.rh_text.specs.RawLine.{lines_of}
use Rattle.rh_text.specs.Root.{root_text}
use Rattle.rh_text.specs.Steps.{◌>>=◌, with_fault}
use Rattle.rh_text.specs.lemmas.Integers.{integer_of-decimal}
use Rattle.rh_text.specs.lemmas.Numbers.{number_of-decimal}
use Rattle.rh_text.specs.lemmas.Roots.{root_of-text, root_part}
use Rattle.rh_text.specs.lemmas.Joins.{IsPart, is_decimal_digit, is_glyph, bounds, wide_digits, wide_filled, number_part, integer_part, length-decimal, parts_of-join, printable-join, is_formed-join, ended_line, lines_of-prefix}
use Rattle.rh_dump.specs.declared.reading.due.Due.{Due}
use Rattle.rh_dump.specs.declared.reading.due.Due.TheVariants as dues
use Rattle.rh_dump.specs.declared.reading.due.Version.{Version}
use Rattle.rh_dump.specs.declared.reading.due.Version.TheVariants.{One, Two}
use Rattle.rh_dump.specs.declared.reading.fault.DumpKind.{DumpKind}
use Rattle.rh_dump.specs.declared.reading.fault.DumpKind.TheVariants.{Long, Form}
use Rattle.rh_dump.specs.declared.reading.fault.DumpFault.{DumpFault}
use Rattle.rh_model.specs.Plain.{PlainObject}
use Rattle.rh_dump.specs.Dump.{GraphState, root_values, met_with, met_after, IsNumberedAfter, AreNumbered, AreMetBefore, IsTold, IsRootTold, IsRootBefore, IsRootAfter, RootsRise, IsUnreferring, IsObjectTold, IsGraph}
use Rattle.rh_dump.specs.texts.Line.{DumpLine, header_line, roots_line, root_line, objects_line, object_line, end_line, value_text, dump_line_parts, spell_dump_line, root_lines, object_lines, lines_in, dump_text, text_in, IsTextOf, kind_parts, HasKind, CanSay, root_due, object_due, due_after}
use Rattle.rh_dump.specs.texts.Part.{number_up_to, whole_of, small_root_of, after_at, kind_and_rest, object_head}
use Rattle.rh_dump.proofs.numbers.ObjectsIn.{joined}
use Rattle.rh_dump.specs.texts.Reading.{formed_parts, part_after, roots_of_parts, objects_of_parts, reference_or_fault, whole_or_fault, value_or_fault, plain_or_fault, field_or_fault, values_or_fault, is_root_before, is_root_after, root_or_fault, root_of_parts, own_number, fields_or_fault, object_of_parts, version_or_fault, line_due, line_or_kind, fault_at, lines_from, with_line, graph_of, graph_within}
use Rattle.rh_dump.proofs.numbers.MetValues.{met_after-append}

-- ---- parts

at_part : (k : ℕ) → IsU32 k → IsPart (64 ∷ decimal k)
at_part k small =
    let p = number_part k small in
    record { filled = refl; glyphs = p.glyphs; short = omega (arith, length-decimal k small) }

whole_i64 : (n : ℤ) → IsWhole n → IsI64 n
whole_i64 n h = (omega (arith, ints, h.0), omega (arith, ints, h.1))

true_from : (b : Bool) → T b → b ≡ true
true_from true h = refl
true_from false h = absurd h

whole_test : (n : ℤ) → IsWhole n → is_whole n ≡ true
whole_test n h = and_from (le_z (negsuc (2 ^ 61 - 1)) n) (le_z n (pos (2 ^ 61 - 1))) (true_from (le_z (negsuc (2 ^ 61 - 1)) n) h.0.le) (true_from (le_z n (pos (2 ^ 61 - 1))) h.1.le)

value_part : (v : Value) → IsTold v → IsNumberedAfter 16777215 v → IsPart (value_text v)
value_part Nil told short = record { filled = refl; glyphs = refl; short = omega arith }
value_part (Int n) told short = integer_part n (whole_i64 n told)
value_part (Ref k) told short = at_part k (omega (arith, short))

pub number_up_to-decimal : (limit n : ℕ) → n ≤ limit → limit < 2 ^ 32 → number_up_to limit (decimal n) ≡ Some n
unfolding number_up_to
number_up_to-decimal limit n small few = rw (number_of-decimal n (omega (arith, small, few)), le-leb n limit small) refl

pub whole_of-decimal : (n : ℤ) → IsWhole n → whole_of (signed_decimal n) ≡ Some n
unfolding whole_of
whole_of-decimal n h = rw (integer_of-decimal n (whole_i64 n h), whole_test n h) refl

pub small_root_of-text : (r : RootId) → r.owner < 16 → r.slot < 256 → small_root_of (root_text r) ≡ Some r
unfolding small_root_of
small_root_of-text r owner slot = rw (root_of-text r (omega (arith, owner), omega (arith, slot)), lt-ltb r.owner 16 owner, lt-ltb r.slot 256 slot) refl

abbrev ok_parts : List (List ℕ) → Result (List (List ℕ)) DumpKind
ok_parts parts = Ok parts

formed_parts-join : (first : List ℕ) (others : List (List ℕ)) → AllByRecursion IsPart (first ∷ others) → formed_parts (join_with_byte 32 (first ∷ others)) ≡ Ok (first ∷ others)
unfolding formed_parts
formed_parts-join first others are =
    let line = join_with_byte 32 (first ∷ others) in
    ap (λ (t : Bool). cond t (ok_parts (parts_of line)) (Err Form)) (is_formed-join first others are)
    ∙ ap ok_parts (parts_of-join first others are)

-- ---- values

there_by : (t : Bool) (k met count : ℕ) → ltb k met ≡ t → cond t met (k + 1) ≤ count → k < count
there_by true k met count is h = omega (arith, ltb-true k met is, h)
there_by false k met count is h = omega (arith, h)

pub met_there : (k met count : ℕ) → met_with met (Ref k) ≤ count → k < count
met_there k met count below = there_by (ltb k met) k met count refl below

short_in : (v : Value) (met : ℕ) → IsNumberedAfter met v → met_with met v ≤ 16777216 → IsNumberedAfter 16777215 v
short_in Nil met next below = tt
short_in (Int n) met next below = tt
short_in (Ref k) met next below = omega (arith, met_there k met 16777216 below)

starts_plain : (digits : List ℕ) → is_filled digits ≡ true → list_all is_decimal_digit digits ≡ true → (bytes_eq digits (codes "nil") ≡ false) × (after_at digits ≡ None)
starts_plain [] h k = absurd (cc)
starts_plain (d ∷ ds) h k =
    let r = bounds 48 57 d (and_parts (is_decimal_digit d) (list_all is_decimal_digit ds) k).0 in
    let not_n : eqb d 110 ≡ false = ne_eqb d 110 (λ e. omega (arith, r.1, e)) in
    let not_at : eqb d 64 ≡ false = ne_eqb d 64 (λ e. omega (arith, r.1, e)) in (
      false_from_ne_true (bytes_eq (d ∷ ds) (codes "nil")) (λ e. let same : d ∷ ds ≡ codes "nil" = (bytes_eq-Decides (d ∷ ds) (codes "nil")).0 e in let head : d ≡ 110 = cc in omega (arith, r.1, head)),
      ap (λ (t : Bool). cond t (Some ds) None) not_at,
    )

pub plain_integer : (n : ℤ) → IsWhole n → (bytes_eq (signed_decimal n) (codes "nil") ≡ false) × (after_at (signed_decimal n) ≡ None)
plain_integer (pos k) h =
    let small : k < 2 ^ 64 = omega (arith, ints, h.1) in
    starts_plain (decimal k) (wide_filled k small) (wide_digits k small)
plain_integer (negsuc k) h = (refl, refl)

value_or_fault-text : (v : Value) (count met : ℕ) → IsTold v → IsNumberedAfter met v → met_with met v ≤ count → count ≤ 16777216 → value_or_fault count met (value_text v) ≡ Ok v
unfolding value_or_fault whole_or_fault reference_or_fault
value_or_fault-text Nil count met told next below few = refl
value_or_fault-text (Int n) count met told next below few =
    let p = plain_integer n told in
    rw (p.0, p.1, whole_of-decimal n told) refl
value_or_fault-text (Ref k) count met told next below few =
    let there : k < count = met_there k met count below in
    rw (number_up_to-decimal 16777215 k (omega (arith, there, few)) (omega arith), le-ltb met k next, lt-ltb k count there) refl

met_grows_by : (t : Bool) (k met : ℕ) → ltb k met ≡ t → met ≤ cond t met (k + 1)
met_grows_by true k met is = omega arith
met_grows_by false k met is = omega (arith, ltb-false k met is)

met_grows : (met : ℕ) (v : Value) → met ≤ met_with met v
met_grows met Nil = omega arith
met_grows met (Int n) = omega arith
met_grows met (Ref k) = met_grows_by (ltb k met) k met refl

pub met_after_grows : (met : ℕ) (vs : List Value) → met ≤ met_after met vs
met_after_grows met [] = omega arith
met_after_grows met (v ∷ vs) = omega (arith, met_grows met v, met_after_grows (met_with met v) vs)

pub AreNumbered-parts : (met : ℕ) (xs ys : List Value) → AreNumbered met (xs ++ ys) → AreNumbered met xs × AreNumbered (met_after met xs) ys
AreNumbered-parts met [] ys h = (tt, h)
AreNumbered-parts met (x ∷ xs) ys h = let p = AreNumbered-parts (met_with met x) xs ys h.1 in ((h.0, p.0), p.1)

plain_or_fault-text : (v : Value) → IsTold v → IsUnreferring v → plain_or_fault (value_text v) ≡ Ok v
unfolding plain_or_fault whole_or_fault
plain_or_fault-text Nil told plain = refl
plain_or_fault-text (Int n) told plain = rw ((plain_integer n told).0, whole_of-decimal n told) refl
plain_or_fault-text (Ref k) told plain = absurd (false≢true (sym plain))

field_or_fault-text : (raw : Bool) (v : Value) (count met : ℕ) → IsTold v → IsNumberedAfter met v → met_with met v ≤ count → count ≤ 16777216 → (raw ≡ true → IsUnreferring v) → field_or_fault raw count met (value_text v) ≡ Ok v
field_or_fault-text true v count met told next below few plain = plain_or_fault-text v told (plain refl)
field_or_fault-text false v count met told next below few plain = value_or_fault-text v count met told next below few

values_or_fault-text : (raw : Bool) (vs : List Value) (count met : ℕ) → AllByRecursion IsTold vs → AreNumbered met vs → met_after met vs ≤ count → count ≤ 16777216 → (raw ≡ true → AllByRecursion IsUnreferring vs) → values_or_fault raw count met (map value_text vs) ≡ Ok vs
unfolding values_or_fault
values_or_fault-text raw [] count met told next below few plain = refl
values_or_fault-text raw (v ∷ vs) count met told next below few plain =
    let first = field_or_fault-text raw v count met told.0 next.0 (omega (arith, met_after_grows (met_with met v) vs, below)) few (λ is. (plain is).0) in
    let others = values_or_fault-text raw vs count (met_with met v) told.1 next.1 below few (λ is. (plain is).1) in
    rw (first, others) refl

value_parts : (vs : List Value) (met : ℕ) → AllByRecursion IsTold vs → AreNumbered met vs → met_after met vs ≤ 16777216 → AllByRecursion IsPart (map value_text vs)
value_parts [] met told next below = tt
value_parts (v ∷ vs) met told next below = (value_part v told.0 (short_in v met next.0 (omega (arith, met_after_grows (met_with met v) vs, below))), value_parts vs (met_with met v) told.1 next.1 below)

pub length-map_text : (vs : List Value) → length (map value_text vs) ≡ length vs
length-map_text [] = refl
length-map_text (v ∷ vs) = ap suc (length-map_text vs)

-- ---- lines

-- a line that is due is spelled in parts, and read
record IsReadAt (due : Due) (line : DumpLine) : Type 0 where
  first : List ℕ
  others : List (List ℕ)
  spelled : dump_line_parts line ≡ first ∷ others
  are : AllByRecursion IsPart (first ∷ others)
  read : line_due due (join_with_byte 32 (first ∷ others)) ≡ Ok line

word_part : (word : List ℕ) → is_filled word ≡ true → list_all is_glyph word ≡ true → length word ≤ 21 → IsPart word
word_part word filled glyphs short = record { filled = filled; glyphs = glyphs; short = short }

header_at : (version : Version) → IsReadAt dues.Header (header_line version)
unfolding line_due version_or_fault
header_at One = record {
  first = codes "rheap";
  others = codes "1" ∷ [];
  spelled = refl;
  are = (word_part (codes "rheap") refl refl (omega arith), (word_part (codes "1") refl refl (omega arith), tt));
  read = refl;
}
header_at Two = record {
  first = codes "rheap";
  others = codes "2" ∷ [];
  spelled = refl;
  are = (word_part (codes "rheap") refl refl (omega arith), (word_part (codes "2") refl refl (omega arith), tt));
  read = refl;
}

end_at : IsReadAt dues.End end_line
unfolding line_due
end_at = record { first = codes "end"; others = []; spelled = refl; are = (word_part (codes "end") refl refl (omega arith), tt); read = refl }

roots_at : (version : Version) (count : ℕ) → count ≤ 4096 → IsReadAt (dues.Roots version) (roots_line count)
unfolding line_due roots_of_parts part_after two_parts
roots_at version count few =
    let are : AllByRecursion IsPart (codes "roots" ∷ decimal count ∷ []) = (word_part (codes "roots") refl refl (omega arith), (number_part count (omega (arith, few)), tt)) in
    record {
      first = codes "roots";
      others = decimal count ∷ [];
      spelled = refl;
      are = are;
      read = rw (formed_parts-join (codes "roots") (decimal count ∷ []) are, number_up_to-decimal 4096 count few (omega arith)) refl;
    }

objects_at : (version : Version) (count met : ℕ) → count ≤ 16777216 → met ≤ count → IsReadAt (dues.Objects version met) (objects_line count)
unfolding line_due objects_of_parts part_after two_parts
objects_at version count met few all =
    let are : AllByRecursion IsPart (codes "objects" ∷ decimal count ∷ []) = (word_part (codes "objects") refl refl (omega arith), (number_part count (omega (arith, few)), tt)) in
    record {
      first = codes "objects";
      others = decimal count ∷ [];
      spelled = refl;
      are = are;
      read = rw (formed_parts-join (codes "objects") (decimal count ∷ []) are, number_up_to-decimal 16777216 count few (omega arith), le-ltb count met all) refl;
    }

is_before_true : (a b : RootId) → IsRootBefore a b → is_root_before a b ≡ true
is_before_true a b (inl lt) = ap (λ (t : Bool). t || (eqb a.owner b.owner && ltb a.slot b.slot)) (lt-ltb a.owner b.owner lt)
is_before_true a b (inr h) = ap (λ (t : Bool). ltb a.owner b.owner || t) (and_from (eqb a.owner b.owner) (ltb a.slot b.slot) (eq-eqb a.owner b.owner h.0) (lt-ltb a.slot b.slot h.1)) ∙ or-true (ltb a.owner b.owner)

pub is_after_true : (last : Option RootId) (r : RootId) → IsRootAfter last r → is_root_after last r ≡ true
is_after_true None r h = refl
is_after_true (Some last) r h = is_before_true last r h

not_nil : (v : Value) → IsTold v → (v ≡ Nil → ⊥) → bytes_eq (value_text v) (codes "nil") ≡ false
not_nil Nil told some = absurd (some refl)
not_nil (Int n) told some = (plain_integer n told).0
not_nil (Ref k) told some = refl

root_at : (version : Version) (left : ℕ) (last : Option RootId) (met : ℕ) (r : RootId) (v : Value) → IsRootTold (r, v) → IsRootAfter last r → IsNumberedAfter met v → met_with met v ≤ 16777216 → IsReadAt (dues.Root version left last met) (root_line r v)
unfolding line_due root_of_parts root_or_fault two_parts
root_at version left last met r v told after next below =
    let are : AllByRecursion IsPart (root_text r ∷ value_text v ∷ []) = (root_part r (omega (arith, told.0), omega (arith, told.1)), (value_part v told.3 (short_in v met next below), tt)) in
    record {
      first = root_text r;
      others = value_text v ∷ [];
      spelled = refl;
      are = are;
      read = rw (formed_parts-join (root_text r) (value_text v ∷ []) are, not_nil v told.3 told.2, small_root_of-text r told.0 told.1, is_after_true last r after, value_or_fault-text v 16777216 met told.3 next below (omega arith)) refl;
    }

not_raw : (digits : List ℕ) → list_all is_decimal_digit digits ≡ true → bytes_eq digits (codes "raw") ≡ false
not_raw digits all =
    false_from_ne_true (bytes_eq digits (codes "raw")) (λ e.
    let same : digits ≡ codes "raw" = (bytes_eq-Decides digits (codes "raw")).0 e in
    false≢true (subst (λ (ds : List ℕ). list_all is_decimal_digit ds ≡ true) same all))

abbrev of_kind : Bool → List (List ℕ) → Bool × List (List ℕ)
of_kind raw rest = (raw, rest)

pub kind_and_rest-parts : (version : Version) (raw : Bool) (n : ℕ) (values : List (List ℕ)) → HasKind version raw → n < 2 ^ 64 → kind_and_rest version (kind_parts raw ++ (decimal n ∷ values)) ≡ of_kind raw (decimal n ∷ values)
kind_and_rest-parts One false n values has small = refl
kind_and_rest-parts One true n values has small = absurd (false≢true (sym has))
kind_and_rest-parts Two true n values has small = refl
kind_and_rest-parts Two false n values has small = ap (λ (t : Bool). cond t (of_kind true values) (of_kind false (decimal n ∷ values))) (not_raw (decimal n) (wide_digits n small))

kind_parts-are : (raw : Bool) (rest : List (List ℕ)) → AllByRecursion IsPart rest → AllByRecursion IsPart (kind_parts raw ++ rest)
kind_parts-are true rest are = (word_part (codes "raw") refl refl (omega arith), are)
kind_parts-are false rest are = are

object_at : (version : Version) (number count met : ℕ) (object : PlainObject) → number < met → number < count → count ≤ 16777216 → IsObjectTold object → AreNumbered met object.fields → met_after met object.fields ≤ count → CanSay version object
    → IsReadAt (dues.Object version number count met) (object_line number object)
unfolding line_due object_of_parts object_head own_number fields_or_fault
object_at version number count met object before below few told next all says =
    let fields = object.fields in
    let own = 64 ∷ decimal number in
    let n = decimal (length fields) in
    let values = map value_text fields in
    let rest : AllByRecursion IsPart (n ∷ values) = (number_part (length fields) (omega (arith, told.few)), value_parts fields met told.told next (omega (arith, all, few))) in
    let are : AllByRecursion IsPart (own ∷ (kind_parts object.raw ++ (n ∷ values))) = (at_part number (omega (arith, below, few)), kind_parts-are object.raw (n ∷ values) rest) in
    record {
      first = own;
      others = kind_parts object.raw ++ (n ∷ values);
      spelled = refl;
      are = are;
      read = rw (formed_parts-join own (kind_parts object.raw ++ (n ∷ values)) are, kind_and_rest-parts version object.raw (length fields) values says (omega (arith, told.few)), number_up_to-decimal 16777215 number (omega (arith, below, few)) (omega arith), eq-eqb number number refl, lt-ltb number met before, number_up_to-decimal 4095 (length fields) told.few (omega arith), eq-eqb (length values) (length fields) (length-map_text fields), values_or_fault-text object.raw fields count met told.told next all few told.raw) refl;
    }

-- ---- the whole text

-- what is due, with these lines after it, is read from their text
record Reads (limit : ℕ) (due : Due) (lines : List DumpLine) : Type 0 where
  reads : (number size : ℕ) → size + length (flat_map spell_dump_line lines) ≤ limit → lines_from limit due number size (lines_of (flat_map spell_dump_line lines)) ≡ Ok lines

reads_nothing : (limit : ℕ) → Reads limit dues.Nothing []
unfolding lines_from
reads_nothing limit = record { reads = λ number size few. refl }

line_or_kind-ended : (limit : ℕ) (due : Due) (size : ℕ) (bytes : List ℕ) (line : DumpLine) → size + (length bytes + 1) ≤ limit → line_due due bytes ≡ Ok line → line_or_kind limit due size (ended_line bytes) ≡ Ok line
unfolding line_or_kind
line_or_kind-ended limit due size bytes line few read =
    let within : ltb limit (size + length (bytes ++ 10 ∷ [])) ≡ false = le-ltb limit (size + length (bytes ++ 10 ∷ [])) (omega (arith, few, length-append bytes (10 ∷ []))) in
    let long : Result DumpLine DumpKind = Err Long in
    ap (λ (t : Bool). cond t long (line_due due bytes)) within ∙ read

reads_line : (limit : ℕ) (due : Due) (line : DumpLine) (lines : List DumpLine) → IsReadAt due line → Reads limit (due_after due line) lines → Reads limit due (line ∷ lines)
unfolding lines_from
reads_line limit due line lines a others =
    let bytes = join_with_byte 32 (a.first ∷ a.others) in
    let rest = flat_map spell_dump_line lines in
    let text : spell_dump_line line ++ rest ≡ bytes ++ 10 ∷ rest = ap (λ (ps : List (List ℕ)). spell_parts ps ++ rest) a.spelled ∙ append_assoc bytes (10 ∷ []) rest in
    let raws : lines_of (spell_dump_line line ++ rest) ≡ ended_line bytes ∷ lines_of rest = ap lines_of text ∙ lines_of-prefix bytes rest (printable-join a.first a.others a.are) in
    let size_is : length (spell_dump_line line ++ rest) ≡ length bytes + (1 + length rest) = omega (arith, ap length text, length-append bytes (10 ∷ rest)) in
    let raw_is : length (bytes ++ 10 ∷ []) ≡ length bytes + 1 = length-append bytes (10 ∷ []) in
    record {
      reads = λ number size few.
          ap (lines_from limit due number size) raws
          ∙ ap (λ (r : Result DumpLine DumpKind). with_fault (fault_at number) r >>= λ first. lines_from limit (due_after due first) (number + 1) (size + length (bytes ++ 10 ∷ [])) (lines_of rest) >>= λ others. Ok (first ∷ others)) (line_or_kind-ended limit due size bytes line (omega (arith, few, size_is)) a.read)
          ∙ ap (λ (r : Result (List DumpLine) DumpFault). r >>= λ others. Ok (line ∷ others)) (others.reads (number + 1) (size + length (bytes ++ 10 ∷ [])) (omega (arith, few, size_is, raw_is)));
    }

pub root_due-more : (version : Version) (n : ℕ) (last : Option RootId) (met : ℕ) → root_due version (suc n) last met ≡ dues.Root version n last met
root_due-more version n last met =
    let same : suc n - 1 ≡ n = omega arith in
    ap (λ (t : Bool). cond t (dues.Objects version met) (dues.Root version (suc n - 1) last met)) (ne_eqb (suc n) 0 (λ e. omega (arith, e))) ∙ ap (λ (k : ℕ). dues.Root version k last met) same

roots_read : (limit : ℕ) (version : Version) (roots : List (RootId × Value)) (last : Option RootId) (met : ℕ) (tail : List DumpLine) → AllByRecursion IsRootTold roots → RootsRise last roots → AreNumbered met (root_values roots) → met_after met (root_values roots) ≤ 16777216
    → Reads limit (dues.Objects version (met_after met (root_values roots))) tail → Reads limit (root_due version (length roots) last met) (root_lines roots ++ tail)
roots_read limit version [] last met tail told rise next below others = others
roots_read limit version (root ∷ roots) last met tail told rise next below others =
    let here = root_at version (length roots) last met root.0 root.1 told.0 rise.0 next.0 (omega (arith, met_after_grows (met_with met root.1) (root_values roots), below)) in
    let more = roots_read limit version roots (Some root.0) (met_with met root.1) tail told.1 rise.1 next.1 below others in
    subst (λ (d : Due). Reads limit d (root_lines (root ∷ roots) ++ tail)) (sym (root_due-more version (length roots) last met))
    (reads_line limit (dues.Root version (length roots) last met) (root_line root.0 root.1) (root_lines roots ++ tail) here more)

objects_read : (limit : ℕ) (version : Version) (objects : List PlainObject) (number count met : ℕ) (tail : List DumpLine) → number + length objects ≡ count → AreMetBefore number met objects → AllByRecursion IsObjectTold objects → AreNumbered met (joined objects) → met_after met (joined objects) ≤ count → count ≤ 16777216
    → AllByRecursion (CanSay version) objects → Reads limit dues.End tail → Reads limit (object_due version number count met) (object_lines number objects ++ tail)
objects_read limit version [] number count met tail all before told next below few says others =
    subst (λ (d : Due). Reads limit d tail) (sym (ap (λ (t : Bool). cond t (dues.Object version number count met) dues.End) (le-ltb number count (omega (arith, all))))) others
objects_read limit version (object ∷ objects) number count met tail all before told next below few says others =
    let fields = object.fields in
    let parts = AreNumbered-parts met fields (joined objects) next in
    let after = met_after-append met fields (joined objects) in
    let there : number < count = omega (arith, all) in
    let here = object_at version number count met object before.0 there few told.0 parts.0 (omega (arith, met_after_grows (met_after met fields) (joined objects), below, after)) says.0 in
    let more = objects_read limit version objects (number + 1) count (met_after met fields) tail (omega (arith, all)) before.1 told.1 parts.1 (omega (arith, below, after)) few says.1 others in
    subst (λ (d : Due). Reads limit d (object_lines number (object ∷ objects) ++ tail)) (sym (ap (λ (t : Bool). cond t (dues.Object version number count met) dues.End) (lt-ltb number count there)))
    (reads_line limit (dues.Object version number count met) (object_line number object) (object_lines (number + 1) objects ++ tail) here more)

-- ---- roots in order are few

place_after : Option RootId → ℕ
place_after None = 0
place_after (Some r) = r.owner * 256 + r.slot + 1

grows_before : (a b : RootId) → a.slot < 256 → IsRootBefore a b → a.owner * 256 + a.slot + 1 ≤ b.owner * 256 + b.slot
grows_before a b small (inl lt) = omega (arith, small, lt)
grows_before a b small (inr h) = omega (arith, h.0, h.1)

abbrev IsSmall : Option RootId → Type 0
IsSmall None = ⊤
IsSmall (Some r) = (r.owner < 16) × (r.slot < 256)

grows_after : (last : Option RootId) (r : RootId) → IsSmall last → IsRootAfter last r → place_after last ≤ r.owner * 256 + r.slot
unfolding place_after
grows_after None r small h = omega arith
grows_after (Some a) r small h = grows_before a r small.1 h

place_few : (last : Option RootId) → IsSmall last → place_after last ≤ 4096
unfolding place_after
place_few None small = omega arith
place_few (Some r) small = omega (arith, small.0, small.1)

roots_few : (roots : List (RootId × Value)) (last : Option RootId) → IsSmall last → AllByRecursion IsRootTold roots → RootsRise last roots → length roots + place_after last ≤ 4096
unfolding place_after
roots_few [] last small told rise = omega (arith, place_few last small)
roots_few (root ∷ roots) last small told rise =
    let more = roots_few roots (Some root.0) (told.0.0, told.0.1) told.1 rise.1 in
    omega (arith, more, grows_after last root.0 small rise.0)

-- ---- the graph of its lines

abbrev graph_with : List (RootId × Value) → List PlainObject → GraphState
graph_with roots objects = record { roots = roots; objects = objects }

fold_roots : (before roots : List (RootId × Value)) (objects : List PlainObject) (rest : List DumpLine) → fold with_line (graph_with before objects) (root_lines roots ++ rest) ≡ fold with_line (graph_with (before ++ roots) objects) rest
fold_roots before [] objects rest = ap (λ (rs : List (RootId × Value)). fold with_line (graph_with rs objects) rest) (sym (append-nil before))
fold_roots before (root ∷ roots) objects rest = fold_roots (before ++ root ∷ []) roots objects rest ∙ ap (λ (rs : List (RootId × Value)). fold with_line (graph_with rs objects) rest) (append_assoc before (root ∷ []) roots)

fold_objects : (roots : List (RootId × Value)) (before objects : List PlainObject) (number : ℕ) (rest : List DumpLine) → fold with_line (graph_with roots before) (object_lines number objects ++ rest) ≡ fold with_line (graph_with roots (before ++ objects)) rest
fold_objects roots before [] number rest = ap (λ (os : List PlainObject). fold with_line (graph_with roots os) rest) (sym (append-nil before))
fold_objects roots before (object ∷ objects) number rest = fold_objects roots (before ++ object ∷ []) objects (number + 1) rest ∙ ap (λ (os : List PlainObject). fold with_line (graph_with roots os) rest) (append_assoc before (object ∷ []) objects)

pub graph_of-lines_in : (version : Version) (g : GraphState) → graph_of (lines_in version g) ≡ g
graph_of-lines_in version g =
    fold_roots [] g.roots [] (objects_line (length g.objects) ∷ (object_lines 0 g.objects ++ (end_line ∷ [])))
    ∙ fold_objects g.roots [] g.objects 0 (end_line ∷ [])

-- ---- what is spelled is read

pub lines_read : (limit : ℕ) (version : Version) (g : GraphState) → IsGraph g → AllByRecursion (CanSay version) g.objects → length (text_in version g) ≤ limit → lines_from limit dues.Header 1 0 (lines_of (text_in version g)) ≡ Ok (lines_in version g)
lines_read limit version g is says few =
    let values = root_values g.roots in
    let parts = AreNumbered-parts 0 values (joined g.objects) is.numbered in
    let after = met_after-append 0 values (joined g.objects) in
    let all : met_after (met_after 0 values) (joined g.objects) ≡ length g.objects = sym after ∙ is.all_met in
    let count = length g.objects in
    let met = met_after 0 values in
    let below : met ≤ count = omega (arith, met_after_grows met (joined g.objects), all) in
    let ended = reads_line limit dues.End end_line [] end_at (reads_nothing limit) in
    let objects = objects_read limit version g.objects 0 count met (end_line ∷ []) (omega arith) is.met_before is.objects parts.1 (omega (arith, all)) is.few_objects says ended in
    let counted = reads_line limit (dues.Objects version met) (objects_line count) (object_lines 0 g.objects ++ (end_line ∷ [])) (objects_at version count met is.few_objects below) objects in
    let roots = roots_read limit version g.roots None 0 (objects_line count ∷ (object_lines 0 g.objects ++ (end_line ∷ []))) is.roots is.roots_rise parts.0 (omega (arith, below, is.few_objects)) counted in
    let few_roots : length g.roots ≤ 4096 = omega (arith, roots_few g.roots None tt is.roots is.roots_rise) in
    let first = reads_line limit (dues.Roots version) (roots_line (length g.roots)) (root_lines g.roots ++ (objects_line count ∷ (object_lines 0 g.objects ++ (end_line ∷ [])))) (roots_at version (length g.roots) few_roots) roots in
    let whole = reads_line limit dues.Header (header_line version) (roots_line (length g.roots) ∷ (root_lines g.roots ++ (objects_line count ∷ (object_lines 0 g.objects ++ (end_line ∷ []))))) (header_at version) first in
    whole.reads 1 0 (omega (arith, few))

abbrev ok_graph : GraphState → Result GraphState DumpFault
ok_graph g = Ok g

pub graph_within-text : (limit : ℕ) (version : Version) (g : GraphState) → IsGraph g → AllByRecursion (CanSay version) g.objects → length (text_in version g) ≤ limit → graph_within limit (text_in version g) ≡ Ok g
unfolding graph_within
graph_within-text limit version g is says few =
    ap (λ (r : Result (List DumpLine) DumpFault). r >>= λ lines. Ok (graph_of lines)) (lines_read limit version g is says few)
    ∙ ap ok_graph (graph_of-lines_in version g)

-- a text of a graph, of whatever version, is read as the graph
pub graph_within-IsTextOf : (limit : ℕ) (text : List ℕ) (g : GraphState) → IsGraph g × IsTextOf text g × (length text ≤ limit) → graph_within limit text ≡ Ok g
graph_within-IsTextOf limit text g is =
    subst (λ t. length t ≤ limit → graph_within limit t ≡ Ok g) (sym is.1.2) (graph_within-text limit is.1.0 g is.0 is.1.1) is.2

-- version 2 can say each object
pub says_all : (objects : List PlainObject) → AllByRecursion (CanSay Two) objects
says_all [] = tt
says_all (object ∷ objects) = (tt, says_all objects)

pub graph_within-dump_text : (limit : ℕ) (g : GraphState) → IsGraph g → length (dump_text g) ≤ limit → graph_within limit (dump_text g) ≡ Ok g
graph_within-dump_text limit g is few = graph_within-text limit Two g is (says_all g.objects) few

lines_are : (a b : List DumpLine) → ◌≡◌ {A = Result (List DumpLine) DumpFault} (Ok a) (Ok b) → a ≡ b
lines_are a b e = cc

abbrev first_version : List DumpLine → Version
first_version (header_line version ∷ lines) = version
first_version lines = Two

-- equal texts are of equal graphs, and of one version
pub text_in-injective : (v w : Version) (a b : GraphState) → IsGraph a → IsGraph b → AllByRecursion (CanSay v) a.objects → AllByRecursion (CanSay w) b.objects → text_in v a ≡ text_in w b → (v ≡ w) × (a ≡ b)
text_in-injective v w a b is are says tells e =
    let limit = length (text_in v a) in
    let one = lines_read limit v a is says (omega arith) in
    let other = lines_read limit w b are tells (omega (arith, ap length e)) in
    let same : lines_in v a ≡ lines_in w b = lines_are (lines_in v a) (lines_in w b) (sym one ∙ ap (λ (t : List ℕ). lines_from limit dues.Header 1 0 (lines_of t)) e ∙ other) in
    (ap first_version same, sym (graph_of-lines_in v a) ∙ ap graph_of same ∙ graph_of-lines_in w b)

pub dump_text-injective : (a b : GraphState) → IsGraph a → IsGraph b → dump_text a ≡ dump_text b → a ≡ b
dump_text-injective a b is are e = (text_in-injective Two Two a b is are (says_all a.objects) (says_all b.objects) e).1
