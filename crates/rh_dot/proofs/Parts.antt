-- The text for Graphviz in the parts in which it is sent.
use Rattle.std.proofs.Common.{◌≡◌, ℕ, ◌+◌, ◌<◌, Bool, List, [], ◌∷◌, ◌++◌, length, get_or, take, drop, Option, sym, ap, ◌∙◌, append_assoc}
use Rattle.std.specs.Prelude.{codes}
use Rattle.std.specs.List.{flat_map}
use Rattle.std.specs.Io.KnownBytes.{Appends}
use Rattle.std.proofs.lemmas.List.{drop_more}
use Rattle.std.proofs.lemmas.List.Concat.{flat_map-append}
use Rattle.rh_layout.specs.declared.value.Value.{Value}
use Rattle.rh_layout.specs.declared.command.RootId.{RootId}
use Rattle.rh_layout.specs.declared.shape.Shape.{Shape}
use Rattle.rh_model.specs.Plain.{PlainObject}
use Rattle.rh_text.specs.Output.{AppendsLess}
use Rattle.rh_text.specs.lemmas.Appends.{Sent}
use Rattle.rh_dump.specs.Dump.{GraphState}
use Rattle.rh_dump.specs.Graph.{objects_in}
use Rattle.rh_dump.proofs.texts.Sending.{Sent-begin, Sent-next, Sent-less}
use Rattle.rh_dot.specs.Dot.{DotLine, open_line, object_node, close_line, object_head_text, cells_text, edges_of, field_edges, root_lines, object_lines, spell_dot_line, dot_text}

-- ---- the line of a root, as it is put together

module _ (head root middle space value : List ℕ) where
  pub root_put : (end : List ℕ) → (((((head ++ root) ++ middle) ++ root) ++ space) ++ value) ++ end ≡ head ++ (root ++ (middle ++ (root ++ (space ++ (value ++ end)))))
  root_put end =
      append_assoc ((((head ++ root) ++ middle) ++ root) ++ space) value end ∙ append_assoc (((head ++ root) ++ middle) ++ root) space (value ++ end) ∙ append_assoc ((head ++ root) ++ middle) root (space ++ (value ++ end))
      ∙ append_assoc (head ++ root) middle (root ++ (space ++ (value ++ end))) ∙ append_assoc head root (middle ++ (root ++ (space ++ (value ++ end))))

  pub root_ended : (end line_end : List ℕ) → (head ++ (root ++ (middle ++ (root ++ (space ++ (value ++ end)))))) ++ line_end ≡ head ++ (root ++ (middle ++ (root ++ (space ++ (value ++ (end ++ line_end))))))
  root_ended end line_end =
      let values = append_assoc value end line_end in
      let spaces = append_assoc space (value ++ end) line_end ∙ ap (λ (t : List ℕ). space ++ t) values in
      let roots = append_assoc root (space ++ (value ++ end)) line_end ∙ ap (λ (t : List ℕ). root ++ t) spaces in
      let middles = append_assoc middle (root ++ (space ++ (value ++ end))) line_end ∙ ap (λ (t : List ℕ). middle ++ t) roots in
      let all = append_assoc root (middle ++ (root ++ (space ++ (value ++ end)))) line_end ∙ ap (λ (t : List ℕ). root ++ t) middles in
      append_assoc head (root ++ (middle ++ (root ++ (space ++ (value ++ end))))) line_end ∙ ap (λ (t : List ℕ). head ++ t) all

-- ---- loops that send a part for each item, and count them

module _ {X : Type 0} (F : ℕ → List X → List ℕ) (part : ℕ → X → List ℕ) (step : (n : ℕ) (x : X) (xs : List X) → F n (x ∷ xs) ≡ part n x ++ F (n + 1) xs) (a b c : Option (List ℕ)) (text sent : List ℕ) (xs : List X) (n i : ℕ) (d : X) (lt : i < length xs) (is : sent ≡ part n (get_or xs i d)) (so_far : Sent a b text (F n (drop i xs))) where
  counted_rest : F n (drop i xs) ≡ sent ++ F (n + 1) (drop (i + 1) xs)
  counted_rest = ap (F n) (drop_more xs i d lt) ∙ step n (get_or xs i d) (drop (i + 1) xs) ∙ ap (λ (t : List ℕ). t ++ F (n + 1) (drop (i + 1) xs)) (sym is)

  pub counted_next : Appends b c sent → Sent a c text (F (n + 1) (drop (i + 1) xs))
  counted_next next = Sent-next a b c text (F n (drop i xs)) sent (F (n + 1) (drop (i + 1) xs)) so_far counted_rest next

  pub counted_less : AppendsLess b c sent → AppendsLess a c text
  counted_less next = Sent-less a b c text (F n (drop i xs)) sent (F (n + 1) (drop (i + 1) xs)) so_far counted_rest next

-- ---- the texts of lines

abbrev pub dots : List DotLine → List ℕ
dots lines = flat_map spell_dot_line lines

abbrev pub roots_text : List (RootId × Value) → List ℕ
roots_text roots = dots (flat_map root_lines roots)

abbrev pub root_part : RootId × Value → List ℕ
root_part root = dots (root_lines root)

pub roots_step : (x : RootId × Value) (xs : List (RootId × Value)) → roots_text (x ∷ xs) ≡ root_part x ++ roots_text xs
roots_step x xs = flat_map-append spell_dot_line (root_lines x) (flat_map root_lines xs)

abbrev pub edges_text : ℕ → ℕ → List Value → List ℕ
edges_text number field values = dots (field_edges number field values)

abbrev pub edge_part : ℕ → ℕ → Value → List ℕ
edge_part number field value = dots (edges_of number field value)

pub edges_step : (number field : ℕ) (x : Value) (xs : List Value) → edges_text number field (x ∷ xs) ≡ edge_part number field x ++ edges_text number (field + 1) xs
edges_step number field x xs = flat_map-append spell_dot_line (edges_of number field x) (field_edges number (field + 1) xs)

abbrev pub object_of : Bool → List Value → PlainObject
object_of raw fields = record { raw = raw; fields = fields }

-- the lines of one object
abbrev pub object_part : ℕ → PlainObject → List ℕ
object_part number object = dots (object_node number object ∷ field_edges number 0 object.fields)

abbrev pub after_cells : ℕ → List Value → List ℕ
after_cells number fields = codes "\"]\n" ++ edges_text number 0 fields

pub object_parts : (number : ℕ) (raw : Bool) (fields : List Value) → object_part number (object_of raw fields) ≡ object_head_text number raw ++ (cells_text 0 fields ++ after_cells number fields)
object_parts number raw fields =
    let head = object_head_text number raw in
    let cells = cells_text 0 fields in
    let edges = edges_text number 0 fields in
    ap (λ (t : List ℕ). t ++ edges) (append_assoc head (cells ++ codes "\"]") (10 ∷ []) ∙ ap (λ (t : List ℕ). head ++ t) (append_assoc cells (codes "\"]") (10 ∷ [])))
    ∙ append_assoc head (cells ++ codes "\"]\n") edges
    ∙ ap (λ (t : List ℕ). head ++ t) (append_assoc cells (codes "\"]\n") edges)

abbrev pub objects_text : ℕ → List Shape → List Value → List ℕ
objects_text number shapes values = dots (object_lines number (objects_in shapes values))

module _ (a b c : Option (List ℕ)) (text : List ℕ) (number i : ℕ) (shapes : List Shape) (d : Shape) (rest front back : List Value) (lt : i < length shapes) (fronts : front ≡ take (get_or shapes i d).fields rest) (backs : back ≡ drop (get_or shapes i d).fields rest)
    (so_far : Sent a b text (objects_text number (drop i shapes) rest)) where
  abbrev sent_object : List ℕ
  sent_object = object_part number (object_of (get_or shapes i d).raw front)

  objects_rest : objects_text number (drop i shapes) rest ≡ sent_object ++ objects_text (number + 1) (drop (i + 1) shapes) back
  objects_rest =
      let shape = get_or shapes i d in
      let object = object_of shape.raw (take shape.fields rest) in
      ap (λ (ss : List Shape). objects_text number ss rest) (drop_more shapes i d lt)
      ∙ flat_map-append spell_dot_line (object_node number object ∷ field_edges number 0 object.fields) (object_lines (number + 1) (objects_in (drop (i + 1) shapes) (drop shape.fields rest)))
      ∙ ap (λ (f : List Value). object_part number (object_of shape.raw f) ++ objects_text (number + 1) (drop (i + 1) shapes) (drop shape.fields rest)) (sym fronts)
      ∙ ap (λ (r : List Value). sent_object ++ objects_text (number + 1) (drop (i + 1) shapes) r) (sym backs)

  pub objects_next : Appends b c sent_object → Sent a c text (objects_text (number + 1) (drop (i + 1) shapes) back)
  objects_next next = Sent-next a b c text (objects_text number (drop i shapes) rest) sent_object (objects_text (number + 1) (drop (i + 1) shapes) back) so_far objects_rest next

  pub objects_less : AppendsLess b c sent_object → AppendsLess a c text
  objects_less next = Sent-less a b c text (objects_text number (drop i shapes) rest) sent_object (objects_text (number + 1) (drop (i + 1) shapes) back) so_far objects_rest next

-- ---- the text of a graph: after its first line, after its roots, and after its objects

abbrev pub text_open : List ℕ
text_open = spell_dot_line open_line

abbrev pub text_close : List ℕ
text_close = spell_dot_line close_line

abbrev pub text_objects : GraphState → List ℕ
text_objects g = dots (object_lines 0 g.objects) ++ text_close

abbrev pub text_roots : GraphState → List ℕ
text_roots g = roots_text g.roots ++ text_objects g

pub dot_text-parts : (g : GraphState) → dot_text g ≡ text_open ++ text_roots g
dot_text-parts g =
    let objects = flat_map-append spell_dot_line (object_lines 0 g.objects) (close_line ∷ []) in
    let roots = flat_map-append spell_dot_line (flat_map root_lines g.roots) (object_lines 0 g.objects ++ close_line ∷ []) in
    ap (λ (t : List ℕ). text_open ++ t) (roots ∙ ap (λ (t : List ℕ). roots_text g.roots ++ t) objects)

module _ (g : GraphState) (a b : Option (List ℕ)) where
  pub open_next : Appends a b text_open → Sent a b (dot_text g) (text_roots g)
  open_next next = Sent-next a a b (dot_text g) (dot_text g) text_open (text_roots g) (Sent-begin a (dot_text g)) (dot_text-parts g) next

  pub open_less : AppendsLess a b text_open → AppendsLess a b (dot_text g)
  open_less next = Sent-less a a b (dot_text g) (dot_text g) text_open (text_roots g) (Sent-begin a (dot_text g)) (dot_text-parts g) next

module _ (g : GraphState) (a b c : Option (List ℕ)) where
  module _ (roots : List (RootId × Value)) (is : roots ≡ g.roots) (so_far : Sent a b (dot_text g) (text_roots g)) where
    roots_rest : text_roots g ≡ roots_text roots ++ text_objects g
    roots_rest = ap (λ (r : List (RootId × Value)). roots_text r ++ text_objects g) (sym is)

    pub roots_next : Appends b c (roots_text roots) → Sent a c (dot_text g) (text_objects g)
    roots_next next = Sent-next a b c (dot_text g) (text_roots g) (roots_text roots) (text_objects g) so_far roots_rest next

    pub roots_less : AppendsLess b c (roots_text roots) → AppendsLess a c (dot_text g)
    roots_less next = Sent-less a b c (dot_text g) (text_roots g) (roots_text roots) (text_objects g) so_far roots_rest next

  module _ (objects : List PlainObject) (is : objects ≡ g.objects) (so_far : Sent a b (dot_text g) (text_objects g)) where
    all_rest : text_objects g ≡ dots (object_lines 0 objects) ++ text_close
    all_rest = ap (λ (o : List PlainObject). dots (object_lines 0 o) ++ text_close) (sym is)

    pub all_next : Appends b c (dots (object_lines 0 objects)) → Sent a c (dot_text g) text_close
    all_next next = Sent-next a b c (dot_text g) (text_objects g) (dots (object_lines 0 objects)) text_close so_far all_rest next

    pub all_less : AppendsLess b c (dots (object_lines 0 objects)) → AppendsLess a c (dot_text g)
    all_less next = Sent-less a b c (dot_text g) (text_objects g) (dots (object_lines 0 objects)) text_close so_far all_rest next
