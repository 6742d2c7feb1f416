-- The lines of a graph, and so the graph, are told by the text.
use Rattle.std.proofs.Common.{◌≡◌, ℕ, pos, negsuc, suc, ◌+◌, ◌^◌, ◌<◌, ◌≤◌, Bool, true, false, List, [], ◌∷◌, ◌++◌, refl, sym, ap, ap₂, ◌∙◌, append_assoc, arith}
use Rattle.std.specs.Prelude.{All, codes, decimal, map}
use Rattle.std.specs.List.{flat_map, list_all, AllByRecursion}
use Rattle.std.specs.Str.Parse.{digits_value}
use Rattle.std.proofs.lemmas.Bool.{and_parts, false≢true}
use Rattle.std.proofs.lemmas.Fmt.{decimal_is_IsNumeral}
use Rattle.std.proofs.lemmas.Int.{ints}
use Rattle.std.proofs.lemmas.List.{append_cancel_left}
use Rattle.std.proofs.lemmas.List.Elements.{All-head, All-tail}
use Rattle.rh_layout.specs.declared.value.Value.{Value}
use Rattle.rh_layout.specs.declared.value.Value.TheVariants.{Nil, Int, Ref}
use Rattle.rh_layout.specs.declared.command.RootId.{RootId}
use Rattle.rh_text.specs.Parts.{is_filled}
use Rattle.rh_text.specs.RawLine.{RawLine, lines_of}
use Rattle.rh_text.specs.Root.{root_text}
use Rattle.rh_text.specs.lemmas.Joins.{is_decimal_digit, bounds, wide_digits, wide_filled}
use Rattle.rh_model.specs.Plain.{PlainObject}
use Rattle.rh_dump.specs.Dump.{GraphState, IsGraph, IsTold}
use Rattle.rh_dump.specs.texts.Line.{value_text}
use Rattle.rh_dot.specs.Dot.{DotLine, open_line, root_node, root_edge, object_node, field_edge, close_line, kind_text, object_head_text, cell_text, cells_text, dot_line_text, root_lines, field_edges, object_lines, dot_lines, dot_text}
use Rattle.rh_dot.proofs.Texts.{IsShort, IsSmallLine, IsRead, lines_are, lines_read, raw_line, head_of, tail_of, digit_first, root_edge_of, field_edge_of}

-- ---- digits end where another byte stands

abbrev Ends : List ℕ → Type 0
Ends rest = is_decimal_digit (head_of rest) ≡ false

split_digits : (xs ys a b : List ℕ) → list_all is_decimal_digit xs ≡ true → list_all is_decimal_digit ys ≡ true → Ends a → Ends b → xs ++ a ≡ ys ++ b → (xs ≡ ys) × (a ≡ b)
split_digits [] [] a b h k ends ended e = (refl, e)
split_digits [] (y ∷ ys) a b h k ends ended e =
    let p = and_parts (is_decimal_digit y) (list_all is_decimal_digit ys) k in
    absurd (false≢true (sym ends ∙ ap (λ (t : List ℕ). is_decimal_digit (head_of t)) e ∙ p.0))
split_digits (x ∷ xs) [] a b h k ends ended e =
    let p = and_parts (is_decimal_digit x) (list_all is_decimal_digit xs) h in
    absurd (false≢true (sym ended ∙ sym (ap (λ (t : List ℕ). is_decimal_digit (head_of t)) e) ∙ p.0))
split_digits (x ∷ xs) (y ∷ ys) a b h k ends ended e =
    let p = and_parts (is_decimal_digit x) (list_all is_decimal_digit xs) h in
    let q = and_parts (is_decimal_digit y) (list_all is_decimal_digit ys) k in
    let more = split_digits xs ys a b p.1 q.1 ends ended (ap tail_of e) in
    (ap₂ (λ (d : ℕ) (ds : List ℕ). d ∷ ds) (ap head_of e) more.0, more.1)

module _ (m n : ℕ) (a b : List ℕ) (small_m : m < 2 ^ 64) (small_n : n < 2 ^ 64) (ends : Ends a) (ended : Ends b) (is : decimal m ++ a ≡ decimal n ++ b) where
  digits_split : (decimal m ≡ decimal n) × (a ≡ b)
  digits_split = split_digits (decimal m) (decimal n) a b (wide_digits m small_m) (wide_digits n small_n) ends ended is

  number_same : m ≡ n
  number_same = sym (decimal_is_IsNumeral m small_m).1 ∙ ap (digits_value 10) digits_split.0 ∙ (decimal_is_IsNumeral n small_n).1

  after_same : a ≡ b
  after_same = digits_split.1

-- ---- the text of a value tells it

abbrev number_first : (k : ℕ) (more : List ℕ) → k < 2 ^ 64 → head_of (decimal k ++ more) ≤ 57
number_first k more small = digit_first (decimal k) more (wide_filled k small) (wide_digits k small)

digit_least : (xs ys : List ℕ) → is_filled xs ≡ true → list_all is_decimal_digit xs ≡ true → 48 ≤ head_of (xs ++ ys)
digit_least [] ys filled h = absurd (cc)
digit_least (x ∷ xs) ys filled h = (bounds 48 57 x (and_parts (is_decimal_digit x) (list_all is_decimal_digit xs) h).0).0

number_least : (k : ℕ) (more : List ℕ) → k < 2 ^ 64 → 48 ≤ head_of (decimal k ++ more)
number_least k more small = digit_least (decimal k) more (wide_filled k small) (wide_digits k small)

below_pos : (k : ℕ) → IsTold (Int (pos k)) → k < 2 ^ 64
below_pos k told = omega (arith, ints, told.1)

below_neg : (k : ℕ) → IsTold (Int (negsuc k)) → suc k < 2 ^ 64
below_neg k told = omega (arith, ints, told.0)

value_same : (v w : Value) (a b : List ℕ) → IsTold v → IsTold w → IsShort v → IsShort w → Ends a → Ends b → value_text v ++ a ≡ value_text w ++ b → (v ≡ w) × (a ≡ b)
value_same Nil Nil a b tv tw sv sw ends ended e = (refl, ap (λ (t : List ℕ). tail_of (tail_of (tail_of t))) e)
value_same Nil (Int (pos k)) a b tv tw sv sw ends ended e =
    let byte : 110 ≡ head_of (decimal k ++ b) = ap head_of e in
    absurd (omega (arith, byte, number_first k b (below_pos k tw)))
value_same Nil (Int (negsuc k)) a b tv tw sv sw ends ended e = let byte : 110 ≡ 45 = ap head_of e in absurd (omega (arith, byte))
value_same Nil (Ref k) a b tv tw sv sw ends ended e = let byte : 110 ≡ 64 = ap head_of e in absurd (omega (arith, byte))
value_same (Int (pos j)) Nil a b tv tw sv sw ends ended e =
    let byte : head_of (decimal j ++ a) ≡ 110 = ap head_of e in
    absurd (omega (arith, byte, number_first j a (below_pos j tv)))
value_same (Int (pos j)) (Int (pos k)) a b tv tw sv sw ends ended e =
    let few = below_pos j tv in
    let less = below_pos k tw in
    (ap (λ (n : ℕ). Int (pos n)) (number_same j k a b few less ends ended e), after_same j k a b few less ends ended e)
value_same (Int (pos j)) (Int (negsuc k)) a b tv tw sv sw ends ended e =
    let byte : head_of (decimal j ++ a) ≡ 45 = ap head_of e in
    absurd (omega (arith, byte, number_least j a (below_pos j tv)))
value_same (Int (pos j)) (Ref k) a b tv tw sv sw ends ended e =
    let byte : head_of (decimal j ++ a) ≡ 64 = ap head_of e in
    absurd (omega (arith, byte, number_first j a (below_pos j tv)))
value_same (Int (negsuc j)) Nil a b tv tw sv sw ends ended e = let byte : 45 ≡ 110 = ap head_of e in absurd (omega (arith, byte))
value_same (Int (negsuc j)) (Int (pos k)) a b tv tw sv sw ends ended e =
    let byte : 45 ≡ head_of (decimal k ++ b) = ap head_of e in
    absurd (omega (arith, byte, number_least k b (below_pos k tw)))
value_same (Int (negsuc j)) (Int (negsuc k)) a b tv tw sv sw ends ended e =
    let few = below_neg j tv in
    let less = below_neg k tw in
    let rest : decimal (suc j) ++ a ≡ decimal (suc k) ++ b = ap tail_of e in
    let same : suc j ≡ suc k = number_same (suc j) (suc k) a b few less ends ended rest in
    let own : j ≡ k = omega (arith, same) in
    (ap (λ (n : ℕ). Int (negsuc n)) own, after_same (suc j) (suc k) a b few less ends ended rest)
value_same (Int (negsuc j)) (Ref k) a b tv tw sv sw ends ended e = let byte : 45 ≡ 64 = ap head_of e in absurd (omega (arith, byte))
value_same (Ref j) Nil a b tv tw sv sw ends ended e = let byte : 64 ≡ 110 = ap head_of e in absurd (omega (arith, byte))
value_same (Ref j) (Int (pos k)) a b tv tw sv sw ends ended e =
    let byte : 64 ≡ head_of (decimal k ++ b) = ap head_of e in
    absurd (omega (arith, byte, number_first k b (below_pos k tw)))
value_same (Ref j) (Int (negsuc k)) a b tv tw sv sw ends ended e = let byte : 64 ≡ 45 = ap head_of e in absurd (omega (arith, byte))
value_same (Ref j) (Ref k) a b tv tw sv sw ends ended e =
    let few : j < 2 ^ 64 = omega (arith, sv) in
    let less : k < 2 ^ 64 = omega (arith, sw) in
    let rest : decimal j ++ a ≡ decimal k ++ b = ap tail_of e in
    (ap Ref (number_same j k a b few less ends ended rest), after_same j k a b few less ends ended rest)

-- ---- so does the text of fields

abbrev close : List ℕ
close = codes "\"]"

cells_end : (field : ℕ) (values : List Value) → Ends (cells_text field values ++ close)
cells_end field [] = refl
cells_end field (v ∷ values) = refl

cell_parts : (field : ℕ) (v : Value) (rest : List ℕ) → cell_text field v ++ rest ≡ 124 ∷ 60 ∷ (decimal field ++ 62 ∷ (value_text v ++ rest))
cell_parts field v rest = ap (λ (t : List ℕ). 124 ∷ 60 ∷ t) (append_assoc (decimal field) (62 ∷ value_text v) rest)

cells_parts : (field : ℕ) (v : Value) (values : List Value) → cells_text field (v ∷ values) ++ close ≡ 124 ∷ 60 ∷ (decimal field ++ 62 ∷ (value_text v ++ (cells_text (field + 1) values ++ close)))
cells_parts field v values = append_assoc (cell_text field v) (cells_text (field + 1) values) close ∙ cell_parts field v (cells_text (field + 1) values ++ close)

cells_same : (field : ℕ) (vs ws : List Value) → AllByRecursion IsTold vs → AllByRecursion IsTold ws → AllByRecursion IsShort vs → AllByRecursion IsShort ws → cells_text field vs ++ close ≡ cells_text field ws ++ close → vs ≡ ws
cells_same field [] [] tv tw sv sw e = refl
cells_same field [] (w ∷ ws) tv tw sv sw e = let byte : 34 ≡ 124 = ap head_of e in absurd (omega (arith, byte))
cells_same field (v ∷ vs) [] tv tw sv sw e = let byte : 124 ≡ 34 = ap head_of e in absurd (omega (arith, byte))
cells_same field (v ∷ vs) (w ∷ ws) tv tw sv sw e =
    let v_rest = value_text v ++ (cells_text (field + 1) vs ++ close) in
    let w_rest = value_text w ++ (cells_text (field + 1) ws ++ close) in
    let parts : 124 ∷ 60 ∷ (decimal field ++ 62 ∷ v_rest) ≡ 124 ∷ 60 ∷ (decimal field ++ 62 ∷ w_rest) = sym (cells_parts field v vs) ∙ e ∙ cells_parts field w ws in
    let after = append_cancel_left (decimal field) (62 ∷ v_rest) (62 ∷ w_rest) (ap (λ (t : List ℕ). tail_of (tail_of t)) parts) in
    let first = value_same v w (cells_text (field + 1) vs ++ close) (cells_text (field + 1) ws ++ close) tv.0 tw.0 sv.0 sw.0 (cells_end (field + 1) vs) (cells_end (field + 1) ws) (ap tail_of after) in
    let others = cells_same (field + 1) vs ws tv.1 tw.1 sv.1 sw.1 first.1 in
    ap₂ (λ (x : Value) (xs : List Value). x ∷ xs) first.0 others

-- ---- and that of an object's node

abbrev after_number : ℕ → Bool → List Value → List ℕ
after_number number raw fields = codes "\" [shape=" ++ (kind_text raw ++ (codes " label=\"@" ++ (decimal number ++ (cells_text 0 fields ++ close))))

node_parts : (number : ℕ) (raw : Bool) (fields : List Value) → object_head_text number raw ++ (cells_text 0 fields ++ close) ≡ 34 ∷ 64 ∷ (decimal number ++ after_number number raw fields)
node_parts number true fields =
    let cells = cells_text 0 fields ++ close in
    let label = codes "\" [shape=" ++ (kind_text true ++ (codes " label=\"@" ++ decimal number)) in
    ap (λ (t : List ℕ). 34 ∷ 64 ∷ t) (append_assoc (decimal number) label cells)
node_parts number false fields =
    let cells = cells_text 0 fields ++ close in
    let label = codes "\" [shape=" ++ (kind_text false ++ (codes " label=\"@" ++ decimal number)) in
    ap (λ (t : List ℕ). 34 ∷ 64 ∷ t) (append_assoc (decimal number) label cells)

abbrev nine : List ℕ → List ℕ
nine t = tail_of (tail_of (tail_of (tail_of (tail_of (tail_of (tail_of (tail_of (tail_of t))))))))

kinds_same : (number : ℕ) (r s : Bool) (vs ws : List Value) → after_number number r vs ≡ after_number number s ws → (r ≡ s) × (cells_text 0 vs ++ close ≡ cells_text 0 ws ++ close)
kinds_same number true true vs ws e =
    let label = codes "\" [shape=" ++ (kind_text true ++ codes " label=\"@") in
    (refl, append_cancel_left (decimal number) (cells_text 0 vs ++ close) (cells_text 0 ws ++ close) (append_cancel_left label (decimal number ++ (cells_text 0 vs ++ close)) (decimal number ++ (cells_text 0 ws ++ close)) e))
kinds_same number false false vs ws e =
    let label = codes "\" [shape=" ++ (kind_text false ++ codes " label=\"@") in
    (refl, append_cancel_left (decimal number) (cells_text 0 vs ++ close) (cells_text 0 ws ++ close) (append_cancel_left label (decimal number ++ (cells_text 0 vs ++ close)) (decimal number ++ (cells_text 0 ws ++ close)) e))
kinds_same number true false vs ws e = let byte : 77 ≡ 114 = ap (λ (t : List ℕ). head_of (nine t)) e in absurd (omega (arith, byte))
kinds_same number false true vs ws e = let byte : 114 ≡ 77 = ap (λ (t : List ℕ). head_of (nine t)) e in absurd (omega (arith, byte))

abbrev object_by : Bool → List Value → PlainObject
object_by raw fields = record { raw = raw; fields = fields }

node_same : (m n : ℕ) (o p : PlainObject) → IsSmallLine (object_node m o) → IsSmallLine (object_node n p) → dot_line_text (object_node m o) ≡ dot_line_text (object_node n p) → object_node m o ≡ object_node n p
node_same m n o p small own e =
    let parts : 34 ∷ 64 ∷ (decimal m ++ after_number m o.raw o.fields) ≡ 34 ∷ 64 ∷ (decimal n ++ after_number n p.raw p.fields) = sym (node_parts m o.raw o.fields) ∙ e ∙ node_parts n p.raw p.fields in
    let rest = ap (λ (t : List ℕ). tail_of (tail_of t)) parts in
    let numbers : m ≡ n = number_same m n (after_number m o.raw o.fields) (after_number n p.raw p.fields) small.0 own.0 refl refl rest in
    let after = after_same m n (after_number m o.raw o.fields) (after_number n p.raw p.fields) small.0 own.0 refl refl rest in
    let here : after_number n o.raw o.fields ≡ after_number n p.raw p.fields = ap (λ (k : ℕ). after_number k o.raw o.fields) (sym numbers) ∙ after in
    let kinds = kinds_same n o.raw p.raw o.fields p.fields here in
    let fields = cells_same 0 o.fields p.fields small.1 own.1 small.2 own.2 kinds.1 in
    let object : o ≡ p = ap₂ object_by kinds.0 fields in
    ap₂ object_node numbers object

-- ---- and that of a root's

abbrev root_of : ℕ → ℕ → RootId
root_of owner slot = record { owner = owner; slot = slot }

abbrev root_after : RootId → Value → List ℕ
root_after r v = codes "\" [shape=box label=\"" ++ (root_text r ++ 32 ∷ (value_text v ++ codes "\"] }"))

root_same : (q r : RootId) (a b : List ℕ) → q.owner < 2 ^ 64 → q.slot < 2 ^ 64 → r.owner < 2 ^ 64 → r.slot < 2 ^ 64 → Ends a → Ends b → root_text q ++ a ≡ root_text r ++ b → (q ≡ r) × (a ≡ b)
root_same q r a b q_owner q_slot r_owner r_slot ends ended e =
    let all : decimal q.owner ++ 46 ∷ (decimal q.slot ++ a) ≡ decimal r.owner ++ 46 ∷ (decimal r.slot ++ b) = sym (append_assoc (decimal q.owner) (46 ∷ decimal q.slot) a) ∙ e ∙ append_assoc (decimal r.owner) (46 ∷ decimal r.slot) b in
    let owners = number_same q.owner r.owner (46 ∷ (decimal q.slot ++ a)) (46 ∷ (decimal r.slot ++ b)) q_owner r_owner refl refl all in
    let after = ap tail_of (after_same q.owner r.owner (46 ∷ (decimal q.slot ++ a)) (46 ∷ (decimal r.slot ++ b)) q_owner r_owner refl refl all) in
    let slots = number_same q.slot r.slot a b q_slot r_slot ends ended after in
    (ap₂ root_of owners slots, after_same q.slot r.slot a b q_slot r_slot ends ended after)

root_node_same : (q r : RootId) (v w : Value) → IsSmallLine (root_node q v) → IsSmallLine (root_node r w) → dot_line_text (root_node q v) ≡ dot_line_text (root_node r w) → root_node q v ≡ root_node r w
root_node_same q r v w small own e =
    let begin : root_text q ++ root_after q v ≡ root_text r ++ root_after r w = append_cancel_left (codes "{ rank=source \"") (root_text q ++ root_after q v) (root_text r ++ root_after r w) e in
    let roots = root_same q r (root_after q v) (root_after r w) small.0 small.1 own.0 own.1 refl refl begin in
    let label : root_text q ++ 32 ∷ (value_text v ++ codes "\"] }") ≡ root_text r ++ 32 ∷ (value_text w ++ codes "\"] }") = append_cancel_left (codes "\" [shape=box label=\"") (root_text q ++ 32 ∷ (value_text v ++ codes "\"] }")) (root_text r ++ 32 ∷ (value_text w ++ codes "\"] }")) roots.1 in
    let again = root_same q r (32 ∷ (value_text v ++ codes "\"] }")) (32 ∷ (value_text w ++ codes "\"] }")) small.0 small.1 own.0 own.1 refl refl label in
    let values = value_same v w (codes "\"] }") (codes "\"] }") small.2 own.2 small.3 own.3 refl refl (ap tail_of again.1) in
    ap₂ root_node roots.0 values.0

-- ---- no two lines have the same text

line_same : (l k : DotLine) → IsSmallLine l → IsSmallLine k → dot_line_text l ≡ dot_line_text k → l ≡ k
line_same l (root_edge r t) small own e = root_edge_of l r t small own e
line_same l (field_edge n f t) small own e = field_edge_of l n f t small own e
line_same open_line open_line small own e = refl
line_same (root_node q v) open_line small own e = let byte : 123 ≡ 100 = ap head_of e in absurd (omega (arith, byte))
line_same (root_edge q s) open_line small own e = let byte : 34 ≡ 100 = ap head_of e in absurd (omega (arith, byte))
line_same (object_node m o) open_line small own e = let byte : 34 ≡ 100 = ap head_of e in absurd (omega (arith, byte))
line_same (field_edge m h s) open_line small own e = let byte : 34 ≡ 100 = ap head_of e in absurd (omega (arith, byte))
line_same close_line open_line small own e = let byte : 125 ≡ 100 = ap head_of e in absurd (omega (arith, byte))
line_same open_line close_line small own e = let byte : 100 ≡ 125 = ap head_of e in absurd (omega (arith, byte))
line_same (root_node q v) close_line small own e = let byte : 123 ≡ 125 = ap head_of e in absurd (omega (arith, byte))
line_same (root_edge q s) close_line small own e = let byte : 34 ≡ 125 = ap head_of e in absurd (omega (arith, byte))
line_same (object_node m o) close_line small own e = let byte : 34 ≡ 125 = ap head_of e in absurd (omega (arith, byte))
line_same (field_edge m h s) close_line small own e = let byte : 34 ≡ 125 = ap head_of e in absurd (omega (arith, byte))
line_same close_line close_line small own e = refl
line_same open_line (root_node r w) small own e = let byte : 100 ≡ 123 = ap head_of e in absurd (omega (arith, byte))
line_same (root_node q v) (root_node r w) small own e = root_node_same q r v w small own e
line_same (root_edge q s) (root_node r w) small own e = let byte : 34 ≡ 123 = ap head_of e in absurd (omega (arith, byte))
line_same (object_node m o) (root_node r w) small own e = let byte : 34 ≡ 123 = ap head_of e in absurd (omega (arith, byte))
line_same (field_edge m h s) (root_node r w) small own e = let byte : 34 ≡ 123 = ap head_of e in absurd (omega (arith, byte))
line_same close_line (root_node r w) small own e = let byte : 125 ≡ 123 = ap head_of e in absurd (omega (arith, byte))
line_same open_line (object_node n p) small own e = let byte : 100 ≡ 34 = ap head_of e in absurd (omega (arith, byte))
line_same (root_node q v) (object_node n p) small own e = let byte : 123 ≡ 34 = ap head_of e in absurd (omega (arith, byte))
line_same (root_edge q s) (object_node n p) small own e = sym (root_edge_of (object_node n p) q s own small (sym e))
line_same (object_node m o) (object_node n p) small own e = node_same m n o p small own e
line_same (field_edge m h s) (object_node n p) small own e = sym (field_edge_of (object_node n p) m h s own small (sym e))
line_same close_line (object_node n p) small own e = let byte : 125 ≡ 34 = ap head_of e in absurd (omega (arith, byte))

-- ---- the lines tell the graph

abbrev bytes_first : List RawLine → List ℕ
bytes_first [] = []
bytes_first (r ∷ raws) = r.bytes

abbrev rest_of : List RawLine → List RawLine
rest_of [] = []
rest_of (r ∷ raws) = raws

abbrev is_empty : List RawLine → Bool
is_empty [] = true
is_empty (r ∷ raws) = false

lines_same : (ls ks : List DotLine) → All IsRead ls → All IsRead ks → map raw_line ls ≡ map raw_line ks → ls ≡ ks
lines_same [] [] h i e = refl
lines_same [] (k ∷ ks) h i e = absurd (false≢true (sym (ap is_empty e)))
lines_same (l ∷ ls) [] h i e = absurd (false≢true (ap is_empty e))
lines_same (l ∷ ls) (k ∷ ks) h i e =
    let first = line_same l k (All-head IsRead l ls h).small (All-head IsRead k ks i).small (ap bytes_first e) in
    let others = lines_same ls ks (All-tail IsRead l ls h) (All-tail IsRead k ks i) (ap rest_of e) in
    ap₂ (λ (x : DotLine) (xs : List DotLine). x ∷ xs) first others

abbrev root_in : DotLine → List (RootId × Value)
root_in (root_node root value) = (root, value) ∷ []
root_in line = []

abbrev object_in : DotLine → List PlainObject
object_in (object_node number object) = object ∷ []
object_in line = []

module _ {A : Type 0} (f : DotLine → List A) where
  told_by_all : (xs ys : List DotLine) → flat_map f (xs ++ ys) ≡ flat_map f xs ++ flat_map f ys
  told_by_all [] ys = refl
  told_by_all (x ∷ xs) ys = ap (λ (t : List A). f x ++ t) (told_by_all xs ys) ∙ sym (append_assoc (f x) (flat_map f xs) (flat_map f ys))

root_lines_tell : (root : RootId × Value) → flat_map root_in (root_lines root) ≡ root ∷ []
root_lines_tell (r, Nil) = refl
root_lines_tell (r, Int n) = refl
root_lines_tell (r, Ref k) = refl

root_lines_hide : (root : RootId × Value) → flat_map object_in (root_lines root) ≡ []
root_lines_hide (r, Nil) = refl
root_lines_hide (r, Int n) = refl
root_lines_hide (r, Ref k) = refl

roots_tell : (roots : List (RootId × Value)) (after : List DotLine) → flat_map root_in (flat_map root_lines roots ++ after) ≡ roots ++ flat_map root_in after
roots_tell [] after = refl
roots_tell (r ∷ roots) after =
    ap (flat_map root_in) (append_assoc (root_lines r) (flat_map root_lines roots) after) ∙ told_by_all root_in (root_lines r) (flat_map root_lines roots ++ after) ∙ ap₂ (λ (x y : List (RootId × Value)). x ++ y) (root_lines_tell r) (roots_tell roots after)

roots_hide : (roots : List (RootId × Value)) (after : List DotLine) → flat_map object_in (flat_map root_lines roots ++ after) ≡ flat_map object_in after
roots_hide [] after = refl
roots_hide (r ∷ roots) after =
    ap (flat_map object_in) (append_assoc (root_lines r) (flat_map root_lines roots) after) ∙ told_by_all object_in (root_lines r) (flat_map root_lines roots ++ after) ∙ ap₂ (λ (x y : List PlainObject). x ++ y) (root_lines_hide r) (roots_hide roots after)

edges_hide : {A : Type 0} (f : DotLine → List A) → ((number field to : ℕ) → f (field_edge number field to) ≡ []) → (number field : ℕ) (values : List Value) (after : List DotLine) → flat_map f (field_edges number field values ++ after) ≡ flat_map f after
edges_hide f none number field [] after = refl
edges_hide f none number field (Nil ∷ values) after = edges_hide f none number (field + 1) values after
edges_hide f none number field (Int n ∷ values) after = edges_hide f none number (field + 1) values after
edges_hide {A} f none number field (Ref to ∷ values) after = ap (λ (t : List A). t ++ flat_map f (field_edges number (field + 1) values ++ after)) (none number field to) ∙ edges_hide f none number (field + 1) values after

objects_tell : (number : ℕ) (objects : List PlainObject) → flat_map object_in (object_lines number objects ++ close_line ∷ []) ≡ objects
objects_tell number [] = refl
objects_tell number (o ∷ objects) =
    let others = object_lines (number + 1) objects ++ close_line ∷ [] in
    ap (λ (t : List DotLine). o ∷ flat_map object_in t) (append_assoc (field_edges number 0 o.fields) (object_lines (number + 1) objects) (close_line ∷ [])) ∙ ap (λ (t : List PlainObject). o ∷ t) (edges_hide object_in (λ n f t. refl) number 0 o.fields others ∙ objects_tell (number + 1) objects)

objects_hide : (number : ℕ) (objects : List PlainObject) → flat_map root_in (object_lines number objects ++ close_line ∷ []) ≡ []
objects_hide number [] = refl
objects_hide number (o ∷ objects) =
    let others = object_lines (number + 1) objects ++ close_line ∷ [] in
    ap (flat_map root_in) (append_assoc (field_edges number 0 o.fields) (object_lines (number + 1) objects) (close_line ∷ [])) ∙ edges_hide root_in (λ n f t. refl) number 0 o.fields others ∙ objects_hide (number + 1) objects

append_none : {A : Type 0} (xs : List A) → xs ++ [] ≡ xs
append_none [] = refl
append_none {A} (x ∷ xs) = ap (λ (t : List A). x ∷ t) (append_none xs)

roots_of_lines : (g : GraphState) → flat_map root_in (dot_lines g) ≡ g.roots
roots_of_lines g =
    let objects = object_lines 0 g.objects ++ close_line ∷ [] in
    roots_tell g.roots objects ∙ ap (λ (t : List (RootId × Value)). g.roots ++ t) (objects_hide 0 g.objects) ∙ append_none g.roots

objects_of_lines : (g : GraphState) → flat_map object_in (dot_lines g) ≡ g.objects
objects_of_lines g = roots_hide g.roots (object_lines 0 g.objects ++ close_line ∷ []) ∙ objects_tell 0 g.objects

abbrev graph_by : List (RootId × Value) → List PlainObject → GraphState
graph_by roots objects = record { roots = roots; objects = objects }

pub graph_same : (g h : GraphState) → IsGraph g → IsGraph h → dot_text g ≡ dot_text h → g ≡ h
graph_same g h is are e =
    let lines = sym (lines_are (dot_lines g) (lines_read g is)) ∙ ap lines_of e ∙ lines_are (dot_lines h) (lines_read h are) in
    let same = lines_same (dot_lines g) (dot_lines h) (lines_read g is) (lines_read h are) lines in
    let roots = sym (roots_of_lines g) ∙ ap (flat_map root_in) same ∙ roots_of_lines h in
    let objects = sym (objects_of_lines g) ∙ ap (flat_map object_in) same ∙ objects_of_lines h in
    ap₂ graph_by roots objects
