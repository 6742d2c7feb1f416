-- How many lines there are.
use Rattle.std.proofs.Common.{◌≡◌, ℕ, ◌+◌, List, [], ◌∷◌, ◌++◌, length, refl, ap, ◌∙◌, arith}
use Rattle.std.specs.List.{flat_map, filter}
use Rattle.std.proofs.lemmas.List.{length-append}
use Rattle.std.proofs.lemmas.List.Elements.{filter-append}
use Rattle.rh_layout.specs.declared.value.Value.{Value}
use Rattle.rh_layout.specs.declared.value.Value.TheVariants.{Nil, Int, Ref}
use Rattle.rh_layout.specs.Value.{is_reference}
use Rattle.rh_layout.specs.declared.command.RootId.{RootId}
use Rattle.rh_model.specs.Plain.{PlainObject}
use Rattle.rh_dump.specs.Dump.{GraphState, root_values, values_of}
use Rattle.rh_dot.specs.Dot.{close_line, root_edges, edges_of, root_lines, field_edges, object_lines, dot_lines}

-- how many references there are
abbrev references : List Value → ℕ
references values = length (filter is_reference values)

references-append : (xs ys : List Value) → references (xs ++ ys) ≡ references xs + references ys
references-append xs ys = ap length (filter-append is_reference xs ys) ∙ length-append (filter is_reference xs) (filter is_reference ys)

root_count : (root : RootId) (value : Value) → length (root_edges root value) ≡ references (value ∷ [])
root_count root Nil = refl
root_count root (Int n) = refl
root_count root (Ref to) = refl

field_count : (number field : ℕ) (value : Value) → length (edges_of number field value) ≡ references (value ∷ [])
field_count number field Nil = refl
field_count number field (Int n) = refl
field_count number field (Ref to) = refl

roots_count : (roots : List (RootId × Value)) → length (flat_map root_lines roots) ≡ length roots + references (root_values roots)
roots_count [] = refl
roots_count (r ∷ roots) =
    let all : length (root_lines r ++ flat_map root_lines roots) ≡ length (root_lines r) + length (flat_map root_lines roots) = length-append (root_lines r) (flat_map root_lines roots) in
    let own = root_count r.0 r.1 in
    let others = roots_count roots in
    let values : references (root_values (r ∷ roots)) ≡ references (r.1 ∷ []) + references (root_values roots) = references-append (r.1 ∷ []) (root_values roots) in
    omega (arith, all, own, others, values)

fields_count : (number field : ℕ) (values : List Value) → length (field_edges number field values) ≡ references values
fields_count number field [] = refl
fields_count number field (value ∷ values) =
    let all : length (edges_of number field value ++ field_edges number (field + 1) values) ≡ length (edges_of number field value) + length (field_edges number (field + 1) values) = length-append (edges_of number field value) (field_edges number (field + 1) values) in
    let sum : references (value ∷ values) ≡ references (value ∷ []) + references values = references-append (value ∷ []) values in
    omega (arith, all, field_count number field value, fields_count number (field + 1) values, sum)

objects_count : (number : ℕ) (objects : List PlainObject) → length (object_lines number objects) ≡ length objects + references (flat_map (λ object. object.fields) objects)
objects_count number [] = refl
objects_count number (object ∷ others) =
    let all : length (field_edges number 0 object.fields ++ object_lines (number + 1) others) ≡ length (field_edges number 0 object.fields) + length (object_lines (number + 1) others) = length-append (field_edges number 0 object.fields) (object_lines (number + 1) others) in
    let sum : references (object.fields ++ flat_map (λ (o : PlainObject). o.fields) others) ≡ references object.fields + references (flat_map (λ (o : PlainObject). o.fields) others) = references-append object.fields (flat_map (λ (o : PlainObject). o.fields) others) in
    omega (arith, all, fields_count number 0 object.fields, objects_count (number + 1) others, sum)

pub lines_count : (g : GraphState) → length (dot_lines g) ≡ 2 + (length g.roots + (length g.objects + length (filter is_reference (values_of g))))
lines_count g =
    let roots = flat_map root_lines g.roots in
    let objects = object_lines 0 g.objects in
    let all : length (roots ++ (objects ++ close_line ∷ [])) ≡ length roots + length (objects ++ close_line ∷ []) = length-append roots (objects ++ close_line ∷ []) in
    let rest : length (objects ++ close_line ∷ []) ≡ length objects + 1 = length-append objects (close_line ∷ []) in
    let sum : references (values_of g) ≡ references (root_values g.roots) + references (flat_map (λ (o : PlainObject). o.fields) g.objects) = references-append (root_values g.roots) (flat_map (λ (o : PlainObject). o.fields) g.objects) in
    omega (arith, all, rest, roots_count g.roots, objects_count 0 g.objects, sum)
