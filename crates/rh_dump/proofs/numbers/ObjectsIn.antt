-- Objects whose fields are stored one after the other.
use Rattle.std.proofs.Common.{◌≡◌, ℕ, suc, ◌-◌, List, [], ◌∷◌, ◌++◌, length, take, drop, refl, ap, ◌∙◌, arith}
use Rattle.std.specs.Prelude.{map}
use Rattle.std.specs.List.{flat_map}
use Rattle.std.proofs.lemmas.List.{length-drop, length-take-le, take-append-drop}
use Rattle.rh_layout.specs.declared.shape.Shape.{Shape}
use Rattle.rh_layout.specs.declared.value.Value.{Value}
use Rattle.rh_layout.specs.Shape.{shape_of}
use Rattle.rh_model.specs.Plain.{PlainObject}
use Rattle.rh_dump.specs.Graph.{objects_in, total}

pub length-objects_in : (shapes : List Shape) (values : List Value) → length (objects_in shapes values) ≡ length shapes
length-objects_in [] values = refl
length-objects_in (shape ∷ shapes) values = ap suc (length-objects_in shapes (drop shape.fields values))

-- the fields of objects one after the other, and the objects that are stored so
abbrev pub joined : List PlainObject → List Value
joined objects = flat_map (λ object. object.fields) objects

abbrev pub shapes_of : List PlainObject → List Shape
shapes_of objects = map (λ object. shape_of (length object.fields) object.raw) objects

-- stored objects tell the shape of each, and what all fields hold

pub shapes_of-objects_in : (shapes : List Shape) (values : List Value) → total shapes ≡ length values → shapes_of (objects_in shapes values) ≡ shapes
shapes_of-objects_in [] values e = refl
shapes_of-objects_in (shape ∷ shapes) values e =
    let count = shape.fields in
    let first : length (take count values) ≡ count = length-take-le count values (omega (arith, e)) in
    let rest : length (drop count values) ≡ length values - count = length-drop count values in
    let others = shapes_of-objects_in shapes (drop count values) (omega (arith, e, rest)) in
    ap (λ (n : ℕ). shape_of n shape.raw ∷ shapes_of (objects_in shapes (drop count values))) first ∙ ap (λ (ss : List Shape). shape ∷ ss) others

none_left : (values : List Value) → 0 ≡ length values → [] ≡ values
none_left [] e = refl
none_left (v ∷ vs) e = absurd (omega (arith, e))

pub joined-objects_in : (shapes : List Shape) (values : List Value) → total shapes ≡ length values → joined (objects_in shapes values) ≡ values
joined-objects_in [] values e = none_left values e
joined-objects_in (shape ∷ shapes) values e =
    let count = shape.fields in
    let rest : length (drop count values) ≡ length values - count = length-drop count values in
    let others = joined-objects_in shapes (drop count values) (omega (arith, e, rest)) in
    ap (λ (vs : List Value). take count values ++ vs) others ∙ take-append-drop count values
