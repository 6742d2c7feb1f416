-- The text of a heap snapshot in the parts in which it is sent.
use Rattle.std.proofs.Common.{◌≡◌, ℕ, ◌+◌, ◌*◌, ◌<◌, Bool, true, false, List, [], ◌∷◌, ◌++◌, length, get_or, take, drop, map, Option, refl, sym, ap, ap₂, ◌∙◌, append_assoc}
use Rattle.std.specs.Io.KnownBytes.{Appends}
use Rattle.std.specs.List.{filter}
use Rattle.std.proofs.lemmas.List.{drop_more, map-append}
use Rattle.rh_layout.specs.Value.{is_reference}
use Rattle.rh_layout.specs.declared.value.Value.{Value}
use Rattle.rh_layout.specs.declared.command.RootId.{RootId}
use Rattle.rh_layout.specs.declared.shape.Shape.{Shape}
use Rattle.rh_model.specs.Plain.{PlainObject}
use Rattle.rh_text.specs.Output.{AppendsLess}
use Rattle.rh_text.specs.lemmas.Appends.{Sent}
use Rattle.rh_dump.specs.Graph.{objects_in}
use Rattle.rh_dump.proofs.texts.Sending.{Sent-next, Sent-less}
use Rattle.rh_snapshot.proofs.Counts.{fields_count}
use Rattle.rh_snapshot.specs.Snapshot.{SnapshotEdge, field_edge, field_edges, kind_of, object_bytes, object_edges, object_node, object_nodes, root_edge, root_edges}
use Rattle.rh_snapshot.specs.Text.{edge_text, is_still_first, kind_text, listed, node_text, numbers_text, root_string}

-- ---- texts with commas between them

later-append : (xs ys : List (List ℕ)) → listed false (xs ++ ys) ≡ listed false xs ++ listed false ys
later-append [] ys = refl
later-append (x ∷ xs) ys =
    ap (λ (t : List ℕ). 44 ∷ 10 ∷ (x ++ t)) (later-append xs ys) ∙ ap (λ (t : List ℕ). 44 ∷ 10 ∷ t) (sym (append_assoc x (listed false xs) (listed false ys)))

pub later-map : {X : Type 0} (f : X → List ℕ) (xs ys : List X) → listed false (map f (xs ++ ys)) ≡ listed false (map f xs) ++ listed false (map f ys)
later-map f xs ys = ap (listed false) (map-append f xs ys) ∙ later-append (map f xs) (map f ys)

pub edges-append : (is_first : Bool) (xs ys : List SnapshotEdge) → listed is_first (map edge_text (xs ++ ys)) ≡ listed is_first (map edge_text xs) ++ listed (is_still_first is_first xs) (map edge_text ys)
edges-append is_first [] ys = refl
edges-append true (x ∷ xs) ys =
    ap (λ (t : List ℕ). edge_text x ++ t) (later-map edge_text xs ys) ∙ sym (append_assoc (edge_text x) (listed false (map edge_text xs)) (listed false (map edge_text ys)))
edges-append false (x ∷ xs) ys = later-map edge_text (x ∷ xs) ys

pub still-append : (is_first : Bool) (xs ys : List SnapshotEdge) → is_still_first is_first (xs ++ ys) ≡ is_still_first (is_still_first is_first xs) ys
still-append is_first [] ys = refl
still-append is_first (x ∷ xs) [] = refl
still-append is_first (x ∷ xs) (y ∷ ys) = refl

-- ---- the edges of an object

abbrev pub edges_text : ℕ → List Value → List ℕ
edges_text field values = listed false (map edge_text (field_edges field values))

abbrev pub edge_part : ℕ → Value → List ℕ
edge_part field value = listed false (map edge_text (field_edge field value))

pub edges_step : (field : ℕ) (x : Value) (xs : List Value) → edges_text field (x ∷ xs) ≡ edge_part field x ++ edges_text (field + 1) xs
edges_step field x xs = later-map edge_text (field_edge field x) (field_edges (field + 1) xs)

module _ {X : Type 0} (F : ℕ → List X → List ℕ) (part : ℕ → X → List ℕ) (step : (n : ℕ) (x : X) (xs : List X) → F n (x ∷ xs) ≡ part n x ++ F (n + 1) xs) (a b c : Option (List ℕ)) (text sent : List ℕ) (xs : List X) (n i : ℕ) (d : X) (lt : i < length xs) (is : sent ≡ part n (get_or xs i d)) (so_far : Sent a b text (F n (drop i xs))) where
  counted_rest : F n (drop i xs) ≡ sent ++ F (n + 1) (drop (i + 1) xs)
  counted_rest = ap (F n) (drop_more xs i d lt) ∙ step n (get_or xs i d) (drop (i + 1) xs) ∙ ap (λ (t : List ℕ). t ++ F (n + 1) (drop (i + 1) xs)) (sym is)

  pub counted_next : Appends b c sent → Sent a c text (F (n + 1) (drop (i + 1) xs))
  counted_next next = Sent-next a b c text (F n (drop i xs)) sent (F (n + 1) (drop (i + 1) xs)) so_far counted_rest next

  pub counted_less : AppendsLess b c sent → AppendsLess a c text
  counted_less next = Sent-less a b c text (F n (drop i xs)) sent (F (n + 1) (drop (i + 1) xs)) so_far counted_rest next

-- ---- the edges of roots, of which the first has no comma

abbrev pub root_edges_text : Bool → ℕ → List (RootId × Value) → List ℕ
root_edges_text is_first position roots = listed is_first (map edge_text (root_edges position roots))

module _ (a b c : Option (List ℕ)) (text sent : List ℕ) (roots : List (RootId × Value)) (is_first next_first : Bool) (n i : ℕ) (d : RootId × Value) (lt : i < length roots) (is : sent ≡ listed is_first (map edge_text (root_edge n (get_or roots i d).1))) (next_is : next_first ≡ is_still_first is_first (root_edge n (get_or roots i d).1))
    (so_far : Sent a b text (root_edges_text is_first n (drop i roots))) where
  abbrev after : List ℕ
  after = root_edges_text next_first (n + 1) (drop (i + 1) roots)

  roots_rest : root_edges_text is_first n (drop i roots) ≡ sent ++ after
  roots_rest =
      let root = get_or roots i d in
      ap (root_edges_text is_first n) (drop_more roots i d lt)
      ∙ edges-append is_first (root_edge n root.1) (root_edges (n + 1) (drop (i + 1) roots))
      ∙ ap (λ (t : List ℕ). t ++ listed (is_still_first is_first (root_edge n root.1)) (map edge_text (root_edges (n + 1) (drop (i + 1) roots)))) (sym is)
      ∙ ap (λ (f : Bool). sent ++ root_edges_text f (n + 1) (drop (i + 1) roots)) (sym next_is)

  pub root_edges_next : Appends b c sent → Sent a c text after
  root_edges_next next = Sent-next a b c text (root_edges_text is_first n (drop i roots)) sent after so_far roots_rest next

  pub root_edges_less : AppendsLess b c sent → AppendsLess a c text
  root_edges_less next = Sent-less a b c text (root_edges_text is_first n (drop i roots)) sent after so_far roots_rest next

-- ---- the names of roots

abbrev pub strings_text : List (RootId × Value) → List ℕ
strings_text roots = listed false (map root_string roots)

abbrev pub string_part : RootId × Value → List ℕ
string_part root = 44 ∷ 10 ∷ root_string root

pub strings_step : (x : RootId × Value) (xs : List (RootId × Value)) → strings_text (x ∷ xs) ≡ string_part x ++ strings_text xs
strings_step x xs = refl

-- ---- the nodes of objects

abbrev pub nodes_text : ℕ → List Shape → List Value → List ℕ
nodes_text number shapes values = listed false (map node_text (object_nodes number (objects_in shapes values)))

abbrev pub object_of : Bool → List Value → PlainObject
object_of raw fields = record { raw = raw; fields = fields }

pub node_sent : (number : ℕ) (raw : Bool) (fields : List Value) (size edges count : ℕ) (sent : List ℕ) → sent ≡ 44 ∷ 10 ∷ (kind_text (kind_of raw) ++ numbers_text number size edges) → length fields ≡ count → size ≡ object_bytes count
    → edges ≡ length (filter is_reference fields) → sent ≡ 44 ∷ 10 ∷ node_text (object_node number (object_of raw fields))
node_sent number raw fields size edges count sent text long bytes is =
    let sizes = bytes ∙ ap object_bytes (sym long) in
    let counts = is ∙ sym (fields_count 0 fields) in
    text ∙ ap₂ (λ (s e : ℕ). 44 ∷ 10 ∷ (kind_text (kind_of raw) ++ numbers_text number s e)) sizes counts

module _ (a b c : Option (List ℕ)) (text sent : List ℕ) (number i : ℕ) (shapes : List Shape) (d : Shape) (rest front back : List Value) (lt : i < length shapes) (fronts : front ≡ take (get_or shapes i d).fields rest) (backs : back ≡ drop (get_or shapes i d).fields rest)
    (is : sent ≡ 44 ∷ 10 ∷ node_text (object_node number (object_of (get_or shapes i d).raw front))) (so_far : Sent a b text (nodes_text number (drop i shapes) rest)) where
  nodes_rest : nodes_text number (drop i shapes) rest ≡ sent ++ nodes_text (number + 1) (drop (i + 1) shapes) back
  nodes_rest =
      let shape = get_or shapes i d in
      ap (λ (ss : List Shape). nodes_text number ss rest) (drop_more shapes i d lt)
      ∙ ap (λ (f : List Value). (44 ∷ 10 ∷ node_text (object_node number (object_of shape.raw f))) ++ nodes_text (number + 1) (drop (i + 1) shapes) (drop shape.fields rest)) (sym fronts)
      ∙ ap (λ (t : List ℕ). t ++ nodes_text (number + 1) (drop (i + 1) shapes) (drop shape.fields rest)) (sym is)
      ∙ ap (λ (r : List Value). sent ++ nodes_text (number + 1) (drop (i + 1) shapes) r) (sym backs)

  pub nodes_next : Appends b c sent → Sent a c text (nodes_text (number + 1) (drop (i + 1) shapes) back)
  nodes_next next = Sent-next a b c text (nodes_text number (drop i shapes) rest) sent (nodes_text (number + 1) (drop (i + 1) shapes) back) so_far nodes_rest next

  pub nodes_less : AppendsLess b c sent → AppendsLess a c text
  nodes_less next = Sent-less a b c text (nodes_text number (drop i shapes) rest) sent (nodes_text (number + 1) (drop (i + 1) shapes) back) so_far nodes_rest next

-- ---- the edges of objects

abbrev pub objects_text : List Shape → List Value → List ℕ
objects_text shapes values = listed false (map edge_text (object_edges (objects_in shapes values)))

module _ (a b c : Option (List ℕ)) (text : List ℕ) (i : ℕ) (shapes : List Shape) (d : Shape) (rest front back : List Value) (lt : i < length shapes) (fronts : front ≡ take (get_or shapes i d).fields rest) (backs : back ≡ drop (get_or shapes i d).fields rest)
    (so_far : Sent a b text (objects_text (drop i shapes) rest)) where
  objects_rest : objects_text (drop i shapes) rest ≡ edges_text 0 front ++ objects_text (drop (i + 1) shapes) back
  objects_rest =
      let shape = get_or shapes i d in
      ap (λ (ss : List Shape). objects_text ss rest) (drop_more shapes i d lt)
      ∙ later-map edge_text (field_edges 0 (take shape.fields rest)) (object_edges (objects_in (drop (i + 1) shapes) (drop shape.fields rest)))
      ∙ ap (λ (f : List Value). edges_text 0 f ++ objects_text (drop (i + 1) shapes) (drop shape.fields rest)) (sym fronts)
      ∙ ap (λ (r : List Value). edges_text 0 front ++ objects_text (drop (i + 1) shapes) r) (sym backs)

  pub objects_next : Appends b c (edges_text 0 front) → Sent a c text (objects_text (drop (i + 1) shapes) back)
  objects_next next = Sent-next a b c text (objects_text (drop i shapes) rest) (edges_text 0 front) (objects_text (drop (i + 1) shapes) back) so_far objects_rest next

  pub objects_less : AppendsLess b c (edges_text 0 front) → AppendsLess a c text
  objects_less next = Sent-less a b c text (objects_text (drop i shapes) rest) (edges_text 0 front) (objects_text (drop (i + 1) shapes) back) so_far objects_rest next
