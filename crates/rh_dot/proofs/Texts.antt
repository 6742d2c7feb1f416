-- The lines are read from the text, and the text of an edge is that of no other line.
use Rattle.std.proofs.Common.{◌≡◌, ℕ, pos, negsuc, suc, ◌+◌, ◌^◌, ◌<◌, ◌≤◌, Bool, true, false, cond, List, [], ◌∷◌, ◌++◌, length, Some, refl, sym, subst, ap, ap₂, ◌∙◌, append_assoc, inl, inr, arith}
use Rattle.std.specs.Prelude.{⊤, All, Contains, codes, decimal, map}
use Rattle.std.specs.List.{flat_map, list_all, AllByRecursion}
use Rattle.std.specs.Option.{option_map}
use Rattle.std.specs.Str.Parse.{digits_value}
use Rattle.std.proofs.lemmas.Bool.{and_parts, and_from, eq-eqb, ne_eqb}
use Rattle.std.proofs.lemmas.Fmt.{decimal_is_IsNumeral}
use Rattle.std.proofs.lemmas.Int.{ints}
use Rattle.std.proofs.lemmas.List.Elements.{All-nil, All-cons, All-append, All-head, All-tail, All-contains}
use Rattle.rh_layout.specs.declared.value.Value.{Value}
use Rattle.rh_layout.specs.declared.value.Value.TheVariants.{Nil, Int, Ref}
use Rattle.rh_layout.specs.declared.command.RootId.{RootId}
use Rattle.rh_text.specs.Parts.{cut_at, is_printable}
use Rattle.rh_text.specs.RawLine.{RawLine, lines_of}
use Rattle.rh_text.specs.Root.{root_text}
use Rattle.rh_text.specs.lemmas.Cuts.{some_is}
use Rattle.rh_text.specs.lemmas.Joins.{is_decimal_digit, bounds, within, all_append, wide_digits, wide_filled, ended_line, lines_of-prefix}
use Rattle.rh_text.specs.Parts.{is_filled}
use Rattle.rh_text.specs.lemmas.Roots.{cut_step}
use Rattle.rh_model.specs.Plain.{PlainObject}
use Rattle.rh_dump.specs.Dump.{GraphState, root_values, values_of, met_with, met_after, IsTold, IsRootTold, IsObjectTold, IsGraph}
use Rattle.rh_dump.specs.texts.Line.{value_text}
use Rattle.rh_dump.proofs.texts.SpelledIsRead.{met_there, met_after_grows}
use Rattle.rh_dot.specs.Dot.{DotLine, open_line, root_node, root_edge, object_node, field_edge, close_line, kind_text, object_head_text, cell_text, cells_text, dot_line_text, spell_dot_line, root_edges, edges_of, root_lines, field_edges, object_lines, dot_lines, dot_text}
use Rattle.rh_dot.proofs.Nodes.{first_or_later, none_within, first as first_item, later}

-- ---- bytes that can be printed

digits_printed : (xs : List ℕ) → list_all is_decimal_digit xs ≡ true → list_all is_printable xs ≡ true
digits_printed [] h = refl
digits_printed (x ∷ xs) h =
    let p = and_parts (is_decimal_digit x) (list_all is_decimal_digit xs) h in
    let b = bounds 48 57 x p.0 in
    and_from (is_printable x) (list_all is_printable xs) (within 32 126 x (omega (arith, b.0)) (omega (arith, b.1))) (digits_printed xs p.1)

number_printed : (n : ℕ) → n < 2 ^ 64 → list_all is_printable (decimal n) ≡ true
number_printed n small = digits_printed (decimal n) (wide_digits n small)

root_printed : (r : RootId) → r.owner < 2 ^ 64 → r.slot < 2 ^ 64 → list_all is_printable (root_text r) ≡ true
root_printed r owner slot = all_append is_printable (decimal r.owner) (46 ∷ decimal r.slot) (number_printed r.owner owner) (number_printed r.slot slot)

-- a reference is to one of the objects that a dump may have
abbrev pub IsShort : Value → Type 0
IsShort Nil = ⊤
IsShort (Int n) = ⊤
IsShort (Ref k) = k < 16777216

value_printed : (v : Value) → IsTold v → IsShort v → list_all is_printable (value_text v) ≡ true
value_printed Nil told short = refl
value_printed (Int (pos k)) told short = number_printed k (omega (arith, ints, told.1))
value_printed (Int (negsuc k)) told short = number_printed (suc k) (omega (arith, ints, told.0))
value_printed (Ref k) told short = number_printed k (omega (arith, short))

kind_printed : (raw : Bool) → list_all is_printable (kind_text raw) ≡ true
kind_printed true = refl
kind_printed false = refl

cells_printed : (field : ℕ) (values : List Value) → field + length values ≤ 4095 → AllByRecursion IsTold values → AllByRecursion IsShort values → list_all is_printable (cells_text field values) ≡ true
cells_printed field [] few told short = refl
cells_printed field (v ∷ values) few told short =
    let own = all_append is_printable (decimal field) (62 ∷ value_text v) (number_printed field (omega (arith, few))) (value_printed v told.0 short.0) in
    all_append is_printable (cell_text field v) (cells_text (field + 1) values) own (cells_printed (field + 1) values (omega (arith, few)) told.1 short.1)

-- ---- what is known of each line: it can be printed, and the numbers of an edge are small

abbrev pub IsSmallLine : DotLine → Type 0
IsSmallLine (root_node root value) = (root.owner < 2 ^ 64) × (root.slot < 2 ^ 64) × IsTold value × IsShort value
IsSmallLine (root_edge root to) = (root.owner < 2 ^ 64) × (root.slot < 2 ^ 64) × (to < 2 ^ 64)
IsSmallLine (object_node number object) = (number < 2 ^ 64) × AllByRecursion IsTold object.fields × AllByRecursion IsShort object.fields
IsSmallLine (field_edge number field to) = (number < 2 ^ 64) × (field < 2 ^ 64) × (to < 2 ^ 64)
IsSmallLine line = ⊤

pub record IsRead (line : DotLine) : Type 0 where
  pub printed : list_all is_printable (dot_line_text line) ≡ true
  pub small : IsSmallLine line

root_node_read : (r : RootId) (v : Value) → IsRootTold (r, v) → IsShort v → IsRead (root_node r v)
root_node_read r v told short =
    let root = root_printed r (omega (arith, told.0)) (omega (arith, told.1)) in
    let end = all_append is_printable (value_text v) (codes "\"] }") (value_printed v told.3 short) refl in
    let label = all_append is_printable (root_text r) (32 ∷ (value_text v ++ codes "\"] }")) root end in
    record { printed = all_append is_printable (root_text r) (codes "\" [shape=box label=\"" ++ (root_text r ++ 32 ∷ (value_text v ++ codes "\"] }"))) root label; small = (omega (arith, told.0), omega (arith, told.1), told.3, short) }

root_edge_read : (r : RootId) (to : ℕ) → r.owner < 16 → r.slot < 256 → to < 16777216 → IsRead (root_edge r to)
root_edge_read r to owner slot short =
    let root = root_printed r (omega (arith, owner)) (omega (arith, slot)) in
    let end = all_append is_printable (decimal to) (34 ∷ []) (number_printed to (omega (arith, short))) refl in
    record { printed = all_append is_printable (root_text r) (codes "\" -> \"@" ++ (decimal to ++ 34 ∷ [])) root end; small = (omega (arith, owner), omega (arith, slot), omega (arith, short)) }

root_edges_read : (r : RootId) (v : Value) → IsRootTold (r, v) → IsShort v → All IsRead (root_edges r v)
root_edges_read r Nil told short = All-nil IsRead
root_edges_read r (Int n) told short = All-nil IsRead
root_edges_read r (Ref to) told short = All-cons IsRead (root_edge r to) [] (root_edge_read r to told.0 told.1 short) (All-nil IsRead)

roots_read : (roots : List (RootId × Value)) → AllByRecursion IsRootTold roots → AllByRecursion IsShort (root_values roots) → All IsRead (flat_map root_lines roots)
roots_read [] told short = All-nil IsRead
roots_read (r ∷ roots) told short =
    let own = All-cons IsRead (root_node r.0 r.1) (root_edges r.0 r.1) (root_node_read r.0 r.1 told.0 short.0) (root_edges_read r.0 r.1 told.0 short.0) in
    All-append IsRead (root_lines r) (flat_map root_lines roots) own (roots_read roots told.1 short.1)

field_edge_read : (number field to : ℕ) → number < 16777216 → field < 4095 → to < 16777216 → IsRead (field_edge number field to)
field_edge_read number field to own few short =
    let end = all_append is_printable (decimal to) (34 ∷ []) (number_printed to (omega (arith, short))) refl in
    let fields = all_append is_printable (decimal field) (codes " -> \"@" ++ (decimal to ++ 34 ∷ [])) (number_printed field (omega (arith, few))) end in
    record {
      printed = all_append is_printable (decimal number) (codes "\":" ++ (decimal field ++ (codes " -> \"@" ++ (decimal to ++ 34 ∷ [])))) (number_printed number (omega (arith, own))) fields;
      small = (omega (arith, own), omega (arith, few), omega (arith, short));
    }

edges_read : (number field : ℕ) (v : Value) → number < 16777216 → field < 4095 → IsShort v → All IsRead (edges_of number field v)
edges_read number field Nil own few short = All-nil IsRead
edges_read number field (Int n) own few short = All-nil IsRead
edges_read number field (Ref to) own few short = All-cons IsRead (field_edge number field to) [] (field_edge_read number field to own few short) (All-nil IsRead)

fields_read : (number field : ℕ) (values : List Value) → number < 16777216 → field + length values ≤ 4095 → AllByRecursion IsShort values → All IsRead (field_edges number field values)
fields_read number field [] own few short = All-nil IsRead
fields_read number field (v ∷ values) own few short =
    All-append IsRead (edges_of number field v) (field_edges number (field + 1) values) (edges_read number field v own (omega (arith, few)) short.0) (fields_read number (field + 1) values own (omega (arith, few)) short.1)

object_node_read : (number : ℕ) (o : PlainObject) → number < 16777216 → IsObjectTold o → AllByRecursion IsShort o.fields → IsRead (object_node number o)
object_node_read number o own told short =
    let n = number_printed number (omega (arith, own)) in
    let kind = all_append is_printable (kind_text o.raw) (codes " label=\"@" ++ decimal number) (kind_printed o.raw) n in
    let head = all_append is_printable (decimal number) (codes "\" [shape=" ++ (kind_text o.raw ++ (codes " label=\"@" ++ decimal number))) n kind in
    let cells = all_append is_printable (cells_text 0 o.fields) (codes "\"]") (cells_printed 0 o.fields (omega (arith, told.few)) told.told short) refl in
    record { printed = all_append is_printable (object_head_text number o.raw) (cells_text 0 o.fields ++ codes "\"]") head cells; small = (omega (arith, own), told.told, short) }

by_parts : {A : Type 0} (P : A → Type 0) (xs ys : List A) → AllByRecursion P (xs ++ ys) → AllByRecursion P xs × AllByRecursion P ys
by_parts P [] ys h = (tt, h)
by_parts P (x ∷ xs) ys h = let p = by_parts P xs ys h.1 in ((h.0, p.0), p.1)

objects_read : (number : ℕ) (objects : List PlainObject) → number + length objects ≤ 16777216 → AllByRecursion IsObjectTold objects → AllByRecursion IsShort (flat_map (λ object. object.fields) objects) → All IsRead (object_lines number objects)
objects_read number [] few told short = All-nil IsRead
objects_read number (o ∷ objects) few told short =
    let own : number < 16777216 = omega (arith, few) in
    let p = by_parts IsShort o.fields (flat_map (λ (object : PlainObject). object.fields) objects) short in
    let edges = fields_read number 0 o.fields own (omega (arith, told.0.few)) p.0 in
    let others = objects_read (number + 1) objects (omega (arith, few)) told.1 p.1 in
    All-cons IsRead (object_node number o) (field_edges number 0 o.fields ++ object_lines (number + 1) objects) (object_node_read number o own told.0 p.0) (All-append IsRead (field_edges number 0 o.fields) (object_lines (number + 1) objects) edges others)

short_one : (v : Value) (met : ℕ) → met_with met v ≤ 16777216 → IsShort v
short_one Nil met h = tt
short_one (Int n) met h = tt
short_one (Ref k) met h = met_there k met 16777216 h

all_short : (met : ℕ) (values : List Value) → met_after met values ≤ 16777216 → AllByRecursion IsShort values
all_short met [] h = tt
all_short met (v ∷ values) h = (short_one v met (omega (arith, h, met_after_grows (met_with met v) values)), all_short (met_with met v) values h)

pub lines_read : (g : GraphState) → IsGraph g → All IsRead (dot_lines g)
lines_read g is =
    let few : met_after 0 (values_of g) ≤ 16777216 = omega (arith, is.all_met, is.few_objects) in
    let p = by_parts IsShort (root_values g.roots) (flat_map (λ (object : PlainObject). object.fields) g.objects) (all_short 0 (values_of g) few) in
    let last = All-cons IsRead close_line [] (record { printed = refl; small = tt }) (All-nil IsRead) in
    let objects = All-append IsRead (object_lines 0 g.objects) (close_line ∷ []) (objects_read 0 g.objects (omega (arith, is.few_objects)) is.objects p.1) last in
    let rest = All-append IsRead (flat_map root_lines g.roots) (object_lines 0 g.objects ++ close_line ∷ []) (roots_read g.roots is.roots p.0) objects in
    All-cons IsRead open_line (flat_map root_lines g.roots ++ (object_lines 0 g.objects ++ close_line ∷ [])) (record { printed = refl; small = tt }) rest

-- ---- the lines of the text are these

abbrev pub raw_line : DotLine → RawLine
raw_line line = ended_line (dot_line_text line)

pub lines_are : (lines : List DotLine) → All IsRead lines → lines_of (flat_map spell_dot_line lines) ≡ map raw_line lines
lines_are [] h = refl
lines_are (l ∷ lines) h =
    let text = flat_map spell_dot_line lines in
    ap lines_of (append_assoc (dot_line_text l) (10 ∷ []) text) ∙ lines_of-prefix (dot_line_text l) text (All-head IsRead l lines h).printed ∙ ap (λ (r : List RawLine). raw_line l ∷ r) (lines_are lines (All-tail IsRead l lines h))

line_of_raw : (lines : List DotLine) (raw : RawLine) → Contains (map raw_line lines) raw → (l : DotLine) × Contains lines l × (raw_line l ≡ raw)
line_of_raw [] raw there = absurd (none_within raw there)
line_of_raw (l ∷ lines) raw there =
    elim (first_or_later (raw_line l) (map raw_line lines) raw there) [
      | inl same ↦ (l, first_item l lines, same)
      | inr more ↦ let found = line_of_raw lines raw more in (found.0, later l lines found.0 found.1, found.2)
    ]

raw_of_line : (lines : List DotLine) (l : DotLine) → Contains lines l → Contains (map raw_line lines) (raw_line l)
raw_of_line [] l there = absurd (none_within l there)
raw_of_line (m ∷ lines) l there =
    elim (first_or_later m lines l there) [
      | inl same ↦ subst (λ (k : DotLine). Contains (map raw_line (m ∷ lines)) (raw_line k)) same (first_item (raw_line m) (map raw_line lines))
      | inr more ↦ later (raw_line m) (map raw_line lines) (raw_line l) (raw_of_line lines l more)
    ]

-- ---- the text of an edge is that of no other line

abbrev pub head_of : List ℕ → ℕ
head_of [] = 0
head_of (b ∷ bs) = b

abbrev pub tail_of : List ℕ → List ℕ
tail_of [] = []
tail_of (b ∷ bs) = bs

cut_here : (c : ℕ) (rest : List ℕ) → cut_at c (c ∷ rest) ≡ Some ([], rest)
cut_here c rest = ap (λ (t : Bool). cond t (Some ([], rest)) (option_map (λ cut. (c ∷ cut.0, cut.1)) (cut_at c rest))) (eq-eqb c c refl)

cut_digits : (c : ℕ) (digits rest : List ℕ) → c < 48 → list_all is_decimal_digit digits ≡ true → cut_at c (digits ++ c ∷ rest) ≡ Some (digits, rest)
cut_digits c [] rest low h = cut_here c rest
cut_digits c (d ∷ digits) rest low h =
    let p = and_parts (is_decimal_digit d) (list_all is_decimal_digit digits) h in
    cut_step c d (digits ++ c ∷ rest) digits rest (ne_eqb d c (λ e. omega (arith, (bounds 48 57 d p.0).0, e, low))) (cut_digits c digits rest low p.1)

-- a number before a byte below 48, and what follows
module _ (c m n : ℕ) (a b : List ℕ) (low : c < 48) (small_m : m < 2 ^ 64) (small_n : n < 2 ^ 64) (is : decimal m ++ c ∷ a ≡ decimal n ++ c ∷ b) where
  both : ◌≡◌ {A = List ℕ × List ℕ} (decimal m, a) (decimal n, b)
  both = some_is (decimal m, a) (decimal n, b) (sym (cut_digits c (decimal m) a low (wide_digits m small_m)) ∙ ap (cut_at c) is ∙ cut_digits c (decimal n) b low (wide_digits n small_n))

  same_number : m ≡ n
  same_number = sym (decimal_is_IsNumeral m small_m).1 ∙ ap (λ (p : List ℕ × List ℕ). digits_value 10 p.0) both ∙ (decimal_is_IsNumeral n small_n).1

  same_rest : a ≡ b
  same_rest = ap (λ (p : List ℕ × List ℕ). p.1) both

pub digit_first : (xs ys : List ℕ) → is_filled xs ≡ true → list_all is_decimal_digit xs ≡ true → head_of (xs ++ ys) ≤ 57
digit_first [] ys filled h = absurd (cc)
digit_first (x ∷ xs) ys filled h = (bounds 48 57 x (and_parts (is_decimal_digit x) (list_all is_decimal_digit xs) h).0).1

root_first : (r : RootId) (more : List ℕ) → r.owner < 2 ^ 64 → head_of (root_text r ++ more) ≤ 57
root_first r more small =
    let e = ap head_of (append_assoc (decimal r.owner) (46 ∷ decimal r.slot) more) in
    omega (arith, e, digit_first (decimal r.owner) (46 ∷ (decimal r.slot ++ more)) (wide_filled r.owner small) (wide_digits r.owner small))

abbrev root_at : ℕ → ℕ → RootId
root_at owner slot = record { owner = owner; slot = slot }

same_root_edges : (q r : RootId) (s t : ℕ) → IsSmallLine (root_edge q s) → IsSmallLine (root_edge r t) → dot_line_text (root_edge q s) ≡ dot_line_text (root_edge r t) → root_edge q s ≡ root_edge r t
same_root_edges q r s t small_q small_r e =
    let rest = λ (k : ℕ). codes " -> \"@" ++ (decimal k ++ 34 ∷ []) in
    let all : decimal q.owner ++ 46 ∷ (decimal q.slot ++ 34 ∷ rest s) ≡ decimal r.owner ++ 46 ∷ (decimal r.slot ++ 34 ∷ rest t) =
    sym (append_assoc (decimal q.owner) (46 ∷ decimal q.slot) (34 ∷ rest s)) ∙ ap tail_of e ∙ append_assoc (decimal r.owner) (46 ∷ decimal r.slot) (34 ∷ rest t) in
    let owners = same_number 46 q.owner r.owner (decimal q.slot ++ 34 ∷ rest s) (decimal r.slot ++ 34 ∷ rest t) (omega arith) small_q.0 small_r.0 all in
    let after = same_rest 46 q.owner r.owner (decimal q.slot ++ 34 ∷ rest s) (decimal r.slot ++ 34 ∷ rest t) (omega arith) small_q.0 small_r.0 all in
    let slots = same_number 34 q.slot r.slot (rest s) (rest t) (omega arith) small_q.1 small_r.1 after in
    let arrow = same_rest 34 q.slot r.slot (rest s) (rest t) (omega arith) small_q.1 small_r.1 after in
    let end : decimal s ++ 34 ∷ [] ≡ decimal t ++ 34 ∷ [] = ap (λ (x : List ℕ). tail_of (tail_of (tail_of (tail_of (tail_of (tail_of x)))))) arrow in
    let tos = same_number 34 s t [] [] (omega arith) small_q.2 small_r.2 end in
    let roots : q ≡ r = ap₂ root_at owners slots in
    ap₂ root_edge roots tos

same_field_edges : (m n f h s t : ℕ) → IsSmallLine (field_edge m f s) → IsSmallLine (field_edge n h t) → dot_line_text (field_edge m f s) ≡ dot_line_text (field_edge n h t) → field_edge m f s ≡ field_edge n h t
same_field_edges m n f h s t small_m small_n e =
    let rest = λ (k : ℕ). codes "-> \"@" ++ (decimal k ++ 34 ∷ []) in
    let all : decimal m ++ 34 ∷ 58 ∷ (decimal f ++ 32 ∷ rest s) ≡ decimal n ++ 34 ∷ 58 ∷ (decimal h ++ 32 ∷ rest t) = ap (λ (x : List ℕ). tail_of (tail_of x)) e in
    let numbers = same_number 34 m n (58 ∷ (decimal f ++ 32 ∷ rest s)) (58 ∷ (decimal h ++ 32 ∷ rest t)) (omega arith) small_m.0 small_n.0 all in
    let after = ap tail_of (same_rest 34 m n (58 ∷ (decimal f ++ 32 ∷ rest s)) (58 ∷ (decimal h ++ 32 ∷ rest t)) (omega arith) small_m.0 small_n.0 all) in
    let fields = same_number 32 f h (rest s) (rest t) (omega arith) small_m.1 small_n.1 after in
    let arrow = same_rest 32 f h (rest s) (rest t) (omega arith) small_m.1 small_n.1 after in
    let end : decimal s ++ 34 ∷ [] ≡ decimal t ++ 34 ∷ [] = ap (λ (x : List ℕ). tail_of (tail_of (tail_of (tail_of (tail_of x))))) arrow in
    let tos = same_number 34 s t [] [] (omega arith) small_m.2 small_n.2 end in
    rw (numbers, fields, tos) refl

-- a line with the text of a root's edge is that edge
pub root_edge_of : (l : DotLine) (r : RootId) (t : ℕ) → IsSmallLine l → IsSmallLine (root_edge r t) → dot_line_text l ≡ dot_line_text (root_edge r t) → l ≡ root_edge r t
root_edge_of open_line r t small own e = let byte : 100 ≡ 34 = ap head_of e in absurd (omega (arith, byte))
root_edge_of (root_node q v) r t small own e = let byte : 123 ≡ 34 = ap head_of e in absurd (omega (arith, byte))
root_edge_of (root_edge q s) r t small own e = same_root_edges q r s t small own e
root_edge_of (object_node n o) r t small own e =
    let second : 64 ≡ head_of (root_text r ++ (codes "\" -> \"@" ++ (decimal t ++ 34 ∷ []))) = ap (λ (x : List ℕ). head_of (tail_of x)) e in
    absurd (omega (arith, second, root_first r (codes "\" -> \"@" ++ (decimal t ++ 34 ∷ [])) own.0))
root_edge_of (field_edge n f s) r t small own e =
    let second : 64 ≡ head_of (root_text r ++ (codes "\" -> \"@" ++ (decimal t ++ 34 ∷ []))) = ap (λ (x : List ℕ). head_of (tail_of x)) e in
    absurd (omega (arith, second, root_first r (codes "\" -> \"@" ++ (decimal t ++ 34 ∷ [])) own.0))
root_edge_of close_line r t small own e = let byte : 125 ≡ 34 = ap head_of e in absurd (omega (arith, byte))

no_node_is_edge : (n m f t : ℕ) (o : PlainObject) → n < 2 ^ 64 → m < 2 ^ 64 → dot_line_text (object_node n o) ≡ dot_line_text (field_edge m f t) → ⊥
no_node_is_edge n m f t o small own e =
    let shape = codes " [shape=" ++ (kind_text o.raw ++ (codes " label=\"@" ++ decimal n)) in
    let cells = cells_text 0 o.fields ++ codes "\"]" in
    let edge = 58 ∷ (decimal f ++ (codes " -> \"@" ++ (decimal t ++ 34 ∷ []))) in
    let all : decimal n ++ 34 ∷ (shape ++ cells) ≡ decimal m ++ 34 ∷ edge = sym (append_assoc (decimal n) (34 ∷ shape) cells) ∙ ap (λ (x : List ℕ). tail_of (tail_of x)) e in
    let after = same_rest 34 n m (shape ++ cells) edge (omega arith) small own all in
    let byte : 32 ≡ 58 = ap head_of after in
    omega (arith, byte)

-- a line with the text of a field's edge is that edge
pub field_edge_of : (l : DotLine) (n f t : ℕ) → IsSmallLine l → IsSmallLine (field_edge n f t) → dot_line_text l ≡ dot_line_text (field_edge n f t) → l ≡ field_edge n f t
field_edge_of open_line n f t small own e = let byte : 100 ≡ 34 = ap head_of e in absurd (omega (arith, byte))
field_edge_of (root_node q v) n f t small own e = let byte : 123 ≡ 34 = ap head_of e in absurd (omega (arith, byte))
field_edge_of (root_edge q s) n f t small own e =
    let second : head_of (root_text q ++ (codes "\" -> \"@" ++ (decimal s ++ 34 ∷ []))) ≡ 64 = ap (λ (x : List ℕ). head_of (tail_of x)) e in
    absurd (omega (arith, second, root_first q (codes "\" -> \"@" ++ (decimal s ++ 34 ∷ [])) small.0))
field_edge_of (object_node m o) n f t small own e = absurd (no_node_is_edge m n f t o small.0 own.0 e)
field_edge_of (field_edge m h s) n f t small own e = same_field_edges m n h f s t small own e
field_edge_of close_line n f t small own e = let byte : 125 ≡ 34 = ap head_of e in absurd (omega (arith, byte))

-- ---- an edge stands in the text exactly where it is among the lines

module _ (g : GraphState) (is : IsGraph g) (edge : DotLine) (own : (l : DotLine) → IsSmallLine l → dot_line_text l ≡ dot_line_text edge → l ≡ edge) where
  pub edge_of_text : Contains (lines_of (dot_text g)) (raw_line edge) → Contains (dot_lines g) edge
  edge_of_text there =
      let found = line_of_raw (dot_lines g) (raw_line edge) (subst (λ (raws : List RawLine). Contains raws (raw_line edge)) (lines_are (dot_lines g) (lines_read g is)) there) in
      let same = own found.0 (All-contains IsRead (dot_lines g) found.0 (lines_read g is) found.1).small (ap (λ (r : RawLine). r.bytes) found.2) in
      subst (Contains (dot_lines g)) same found.1

  pub text_of_edge : Contains (dot_lines g) edge → Contains (lines_of (dot_text g)) (raw_line edge)
  text_of_edge there = subst (λ (raws : List RawLine). Contains raws (raw_line edge)) (sym (lines_are (dot_lines g) (lines_read g is))) (raw_of_line (dot_lines g) edge there)
