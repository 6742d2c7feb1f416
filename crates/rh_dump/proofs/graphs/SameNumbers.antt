-- Graphs with equal dumps are the same: what has one number is paired.
use Rattle.std.specs.Prelude.{◌≡◌, ◌≢◌, ◌↔◌, ◌⊎◌, ◌<◌, ℕ, IsSome, List, [], ◌∷◌, map, drop, length, slice_get, slice_index_or, Option, Some, None}
use Rattle.std.specs.Option.{option_map}
use Rattle.std.proofs.Common.{refl, sym, ap, subst, ◌∙◌, arith, inl, inr}
use Rattle.std.proofs.Math.ListN.{length-map}
use Rattle.std.proofs.lemmas.Option.{same_Some, slice_get-map, slice_get_within}
use Rattle.rh_layout.specs.declared.value.Value.{Value}
use Rattle.rh_layout.specs.declared.value.Value.TheVariants.{Nil, Int, Ref}
use Rattle.rh_layout.specs.declared.command.RootId.{RootId}
use Rattle.rh_model.specs.Graph.{Graph, root_value}
use Rattle.rh_model.specs.Plain.{PlainObject}
use Rattle.rh_model.specs.Reach.{Reached}
use Rattle.rh_model.specs.SameGraph.{renamed_value, AreRenamed, AreFieldsRenamed, SameGraph}
use Rattle.rh_dump.specs.Dump.{GraphState}
use Rattle.rh_dump.specs.Numbering.{roots_of, values_in, names_after, number_in, numbered_value, numbered_root, numbered_object, dump_by, dump_below, ReachesObjectsBelow}
use Rattle.rh_dump.proofs.numbers.Names.{Member, IsOnce, HasName, name_cases}
use Rattle.rh_dump.proofs.numbers.RootLists.{entry_of_roots}
use Rattle.rh_dump.proofs.graphs.SameDumps.{dump_below-same}
use Rattle.rh_dump.proofs.numbers.Numbered.{Member-map, Member-map_back, Member-roots_of, IsOnce-names_after, names_after-reached, names_after-closed, names_after-held}

-- a value refers to a name of the list, if to any
abbrev HasReference : List ℕ → Value → Type 0
HasReference names v = (a : ℕ) → v ≡ Ref a → HasName names a

-- numbers tell nil, whole numbers and references apart
numbered_nil : (names : List ℕ) (v : Value) → numbered_value names v ≡ Nil → v ≡ Nil
numbered_nil names Nil e = refl
numbered_nil names (Int n) e = cc
numbered_nil names (Ref a) e = cc

numbered_int : (names : List ℕ) (v : Value) (n : _) → numbered_value names v ≡ Int n → v ≡ Int n
numbered_int names Nil n e = cc
numbered_int names (Int m) n e = e
numbered_int names (Ref a) n e = cc

numbered_ref : (names : List ℕ) (v : Value) (k : ℕ) → numbered_value names v ≡ Ref k → (a : ℕ) × (v ≡ Ref a) × (number_in names a ≡ k)
numbered_ref names Nil k e = absurd (cc)
numbered_ref names (Int m) k e = absurd (cc)
numbered_ref names (Ref a) k e = (a, refl, cc)

-- whether a value is nil
nil_cases : (v : Value) → (v ≡ Nil) ⊎ (v ≢ Nil)
nil_cases Nil = inl refl
nil_cases (Int n) = inr (λ e. cc)
nil_cases (Ref a) = inr (λ e. cc)

-- each name with the one that has the same number
abbrev number_pairing : List ℕ → List ℕ → ℕ → Option ℕ
number_pairing xs ys a = slice_get ys (number_in xs a)

module _ (xs ys : List ℕ) (once : IsOnce ys) (as_many : length xs ≡ length ys) where
  -- a name that is paired has a number
  number_pairing-has : (a n : ℕ) → number_pairing xs ys a ≡ Some n → HasName xs a
  number_pairing-has a n e = elim (name_cases xs a) [
    | inl has ↦ has
    | inr past ↦
        let within : number_in xs a < length ys = slice_get_within ys (number_in xs a) n e in
        absurd (omega (arith, past, within, as_many))
  ]

  number_pairing-one_to_one : (a b n : ℕ) → number_pairing xs ys a ≡ Some n → number_pairing xs ys b ≡ Some n → a ≡ b
  number_pairing-one_to_one a b n e f =
      let one : number_in xs a ≡ number_in xs b = once (number_in xs a) (number_in xs b) n e f in
      same_Some a b (sym (number_pairing-has a n e) ∙ ap (slice_get xs) one ∙ number_pairing-has b n f)

  -- a value that is numbered alike is renamed to the other
  renamed_value-numbered : (v w : Value) → HasReference ys w → numbered_value xs v ≡ numbered_value ys w → renamed_value (number_pairing xs ys) v ≡ Some w
  renamed_value-numbered v Nil there same = ap (renamed_value (number_pairing xs ys)) (numbered_nil xs v same)
  renamed_value-numbered v (Int n) there same = ap (renamed_value (number_pairing xs ys)) (numbered_int xs v n same)
  renamed_value-numbered v (Ref b) there same =
      let a = numbered_ref xs v (number_in ys b) same in
      ap (renamed_value (number_pairing xs ys)) a.1 ∙ ap (option_map Ref) (ap (slice_get ys) a.2 ∙ there b refl)

  AreRenamed-numbered : (vs ws : List Value) → ((b : ℕ) → Member (Ref b) ws → HasName ys b) → map (numbered_value xs) vs ≡ map (numbered_value ys) ws → AreRenamed (number_pairing xs ys) vs ws
  AreRenamed-numbered [] [] there same = refl
  AreRenamed-numbered [] (w ∷ ws) there same = cc
  AreRenamed-numbered (v ∷ vs) [] there same = cc
  AreRenamed-numbered (v ∷ vs) (w ∷ ws) there same =
      let head : renamed_value (number_pairing xs ys) v ≡ Some w =
      renamed_value-numbered v w (λ b is. there b (inl is)) (ap (λ l. slice_index_or l 0 Nil) same) in
      let rest : AreRenamed (number_pairing xs ys) vs ws = AreRenamed-numbered vs ws (λ b m. there b (inr m)) (ap (drop 1) same) in
      ap (λ o. o ∷ map (renamed_value (number_pairing xs ys)) vs) head ∙ ap (λ l. Some w ∷ l) rest

  -- objects whose fields are numbered alike
  AreFieldsRenamed-numbered : (x y : Option (List Value)) → IsSome x → IsSome y → ((b : ℕ) → Member (Ref b) (values_in y) → HasName ys b) → map (numbered_value xs) (values_in x) ≡ map (numbered_value ys) (values_in y) → AreFieldsRenamed (number_pairing xs ys) x y
  AreFieldsRenamed-numbered None y here there has same = absurd (cc)
  AreFieldsRenamed-numbered (Some these) None here there has same = absurd (cc)
  AreFieldsRenamed-numbered (Some these) (Some those) here there has same = AreRenamed-numbered these those has same

-- a root that isn't nil is numbered alike where the roots of two dumps are equal
module _ (g h : Graph) (xs ys : List ℕ) (roots : map (numbered_root xs) (roots_of g) ≡ map (numbered_root ys) (roots_of h)) where
  root_alike : (r : RootId) → root_value g r ≢ Nil → numbered_value xs (root_value g r) ≡ numbered_value ys (root_value h r)
  root_alike r filled =
      let here : Member (numbered_root xs (r, root_value g r)) (map (numbered_root ys) (roots_of h)) =
      subst (Member (numbered_root xs (r, root_value g r))) roots (Member-map (numbered_root xs) (r, root_value g r) (roots_of g) (Member-roots_of g r filled)) in
      let there = Member-map_back (numbered_root ys) (numbered_root xs (r, root_value g r)) (roots_of h) here in
      let entry = entry_of_roots (root_value h) h.slots h.owners there.0 there.1 in
      let root : there.0.0 ≡ r = ap (λ (e : RootId × Value). e.0) there.2 in
      let value : numbered_value ys there.0.1 ≡ numbered_value xs (root_value g r) = ap (λ (e : RootId × Value). e.1) there.2 in
      sym value ∙ ap (numbered_value ys) (entry.0 ∙ ap (root_value h) root)

module _ (g h : Graph) (xs ys : List ℕ) (roots : map (numbered_root xs) (roots_of g) ≡ map (numbered_root ys) (roots_of h)) where
  -- so is each root
  each_root_alike : (r : RootId) → numbered_value xs (root_value g r) ≡ numbered_value ys (root_value h r)
  each_root_alike r = elim (nil_cases (root_value g r)) [
    | inr filled ↦ root_alike g h xs ys roots r filled
    | inl nil ↦ elim (nil_cases (root_value h r)) [
      | inr filled ↦ sym (root_alike h g ys xs (sym roots) r filled)
      | inl too ↦ ap (numbered_value xs) nil ∙ sym (ap (numbered_value ys) too)
    ]
  ]

-- graphs whose dumps by these names are equal are the same, where what they refer to has its name
module _ (g h : Graph) (xs ys : List ℕ) (once : IsOnce ys) (same : dump_by g xs ≡ dump_by h ys) where
  as_many : length xs ≡ length ys
  as_many =
      let objects : map (numbered_object g xs) xs ≡ map (numbered_object h ys) ys = ap (λ (d : GraphState). d.objects) same in
      sym (length-map xs (numbered_object g xs)) ∙ ap length objects ∙ length-map ys (numbered_object h ys)

  -- objects of one number are of one kind, and have fields that are numbered alike
  objects_alike : (a k : ℕ) → HasName xs a → number_pairing xs ys a ≡ Some k → numbered_object g xs a ≡ numbered_object h ys k
  objects_alike a k has paired =
      let objects : map (numbered_object g xs) xs ≡ map (numbered_object h ys) ys = ap (λ (d : GraphState). d.objects) same in
      same_Some (numbered_object g xs a) (numbered_object h ys k)
      (sym (slice_get-map (numbered_object g xs) xs (number_in xs a) ∙ ap (option_map (numbered_object g xs)) has)
      ∙ ap (λ l. slice_get l (number_in xs a)) objects
      ∙ slice_get-map (numbered_object h ys) ys (number_in xs a) ∙ ap (option_map (numbered_object h ys)) paired)

  fields_alike : (a k : ℕ) → HasName xs a → number_pairing xs ys a ≡ Some k → map (numbered_value xs) (values_in (g.fields a)) ≡ map (numbered_value ys) (values_in (h.fields k))
  fields_alike a k has paired = ap (λ (o : PlainObject). o.fields) (objects_alike a k has paired)

  kinds_alike : (a k : ℕ) → HasName xs a → number_pairing xs ys a ≡ Some k → g.raw a ≡ h.raw k
  kinds_alike a k has paired = ap (λ (o : PlainObject). o.raw) (objects_alike a k has paired)

-- graphs with equal dumps are the same
pub SameGraph-from_dumps : (g h : Graph) (m n : ℕ) → ReachesObjectsBelow m g → ReachesObjectsBelow n h → dump_below m g ≡ dump_below n h → SameGraph g h
SameGraph-from_dumps g h m n here there same =
    let few : (a : ℕ) → Reached h a → a < n = λ a reached. (there a reached).1 in
    let once = IsOnce-names_after h n in
    let many = as_many g h (names_after g m) (names_after h n) once same in (
      number_pairing (names_after g m) (names_after h n),
      record {
        one_to_one = number_pairing-one_to_one (names_after g m) (names_after h n) once many;
        roots = λ r.
            renamed_value-numbered (names_after g m) (names_after h n) once many (root_value g r) (root_value h r)
            (λ a is. names_after-held h n few r a is)
            (each_root_alike g h (names_after g m) (names_after h n) (ap (λ (d : GraphState). d.roots) same) r);
        fields = λ a k paired.
            let has = number_pairing-has (names_after g m) (names_after h n) once many a k paired in
            AreFieldsRenamed-numbered (names_after g m) (names_after h n) once many (g.fields a) (h.fields k)
            (here a (names_after-reached g m (number_in (names_after g m) a) a has)).0
            (there k (names_after-reached h n (number_in (names_after g m) a) k paired)).0
            (λ b member. names_after-closed h n few (number_in (names_after g m) a) k b paired member)
            (fields_alike g h (names_after g m) (names_after h n) once same a k has paired);
        kinds = λ a k paired.
            kinds_alike g h (names_after g m) (names_after h n) once same a k (number_pairing-has (names_after g m) (names_after h n) once many a k paired) paired;
      },
    )

-- graphs that reach finitely many objects have equal dumps exactly where they are the same
pub dump_below-exact : (g h : Graph) (m n : ℕ) → ReachesObjectsBelow m g → ReachesObjectsBelow n h → (dump_below m g ≡ dump_below n h) ↔ SameGraph g h
dump_below-exact g h m n here there =
    (SameGraph-from_dumps g h m n here there, dump_below-same g h m n (λ a reached. (here a reached).1) (λ a reached. (there a reached).1))
