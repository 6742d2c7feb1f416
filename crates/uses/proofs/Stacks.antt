-- What commands leave of a stack in segments, and make of it.
use Rattle.std.proofs.Common.{◌≡◌, ◌≢◌, ◌⊎◌, ℕ, ℤ, suc, ◌-◌, ◌+◌, ◌<◌, ◌≤◌, false, List, [], ◌∷◌, length, get_or, Some, None, refl, sym, ap, subst, ◌∙◌, inl, inr, arith}
use Rattle.std.specs.Prelude.{slice_get}
use Rattle.std.proofs.lemmas.Bool.{cases_lt}
use Rattle.std.proofs.lemmas.Option.{none-some, same_Some, slice_get-get_or, slice_get_within}
use Rattle.rh_layout.specs.Shape.{shape_of}
use Rattle.rh_layout.specs.declared.value.Value.{Value}
use Rattle.rh_layout.specs.declared.value.Value.TheVariants.{Nil, Int, Ref}
use Rattle.rh_layout.specs.declared.command.RootId.{RootId}
use Rattle.rh_model.specs.Effects.{FieldTakes, HasFields, HoldsField, MakesObject, RootTakes, StoresField}
use Rattle.rh_model.specs.Graph.{Graph, root_value}
use Rattle.rh_model.specs.Plain.{PlainHeap, field_lists, graph_of}
use Rattle.uses.specs.Stack.{AreStacked, IsOlder, top_segment}

-- a field is before another one: of an older object, or of the same
abbrev pub IsBefore : ℕ → ℕ → ℕ → ℕ → Type 0
IsBefore b i a f = (b < a) ⊎ ((b ≡ a) × (i < f))

-- so is the field at which a value's segment is filled
abbrev pub IsFilledBefore : ℕ → ℕ → Value → ℕ → Type 0
IsFilledBefore a f Nil top = Unit {0}
IsFilledBefore a f (Int n) top = Unit {0}
IsFilledBefore a f (Ref b) top = IsBefore b top a f

-- What is before a field stays, from one graph to another.
pub record Keeps (g h : Graph) (a f : ℕ) : Type 0 where
  pub counts : (b n : ℕ) → IsBefore b 0 a f → HasFields g b n → HasFields h b n
  pub fields : (b i : ℕ) (v : Value) → IsBefore b i a f → HoldsField g b i v → HoldsField h b i v

before-first : (b i a f : ℕ) → IsBefore b i a f → IsBefore b 0 a f
before-first b i a f (inl older) = inl older
before-first b i a f (inr (same, low)) = inr (same, omega (arith, low))

before-less : (b i j a f : ℕ) → j ≤ i → IsBefore b i a f → IsBefore b j a f
before-less b i j a f less (inl older) = inl older
before-less b i j a f less (inr (same, low)) = inr (same, omega (arith, low, less))

older-before : (under : Value) (b i top a f : ℕ) → IsOlder under b → IsBefore b i a f → IsFilledBefore a f under top
older-before Nil b i top a f older before = tt
older-before (Int n) b i top a f older before = tt
older-before (Ref c) b i top a f older (inl low) = inl (omega (arith, older, low))
older-before (Ref c) b i top a f older (inr (same, low)) = inl (omega (arith, older, same))

-- So a stack that is filled before the field stays.
pub stacked-kept : (g h : Graph) (a f : ℕ) → Keeps g h a f → (segment : Value) (top : ℕ) (numbers : List ℤ)
    → IsFilledBefore a f segment top → AreStacked g segment top numbers → AreStacked h segment top numbers
stacked-kept g h a f keeps segment top [] before stacked = stacked
stacked-kept g h a f keeps segment top (n ∷ ns) before (b, is, count, last, inl (more, deeper)) =
    let at : IsBefore b top a f = subst (λ (v : Value). IsFilledBefore a f v top) is before in
    let less : top - 1 ≤ top = omega arith in
    let next : IsFilledBefore a f segment (top - 1) = subst (λ (v : Value). IsFilledBefore a f v (top - 1)) (sym is) (before-less b top (top - 1) a f less at) in
    (b, is, keeps.counts b 128 (before-first b top a f at) count, keeps.fields b top (Int n) at last, inl (more, stacked-kept g h a f keeps segment (top - 1) ns next deeper))
stacked-kept g h a f keeps segment top (n ∷ ns) before (b, is, count, last, inr (one, under, first, older, deeper)) =
    let at : IsBefore b top a f = subst (λ (v : Value). IsFilledBefore a f v top) is before in
    let start = before-first b top a f at in (
      b,
      is,
      keeps.counts b 128 start count,
      keeps.fields b top (Int n) at last,
      inr (one, under, keeps.fields b 0 under start first, older, stacked-kept g h a f keeps under 127 ns (older-before under b top 127 a f older at) deeper),
    )

-- what keeps all of each object, as what changes roots alone does
pub takes-keeps : (g h : Graph) (r : RootId) (v : Value) (a f : ℕ) → RootTakes g h r v → Keeps g h a f
takes-keeps g h r v a f takes = record {
  counts = λ b n before has. (has.0, takes.objects b ∙ has.1, has.2);
  fields = λ b i w before holds. (holds.0, takes.objects b ∙ holds.1, holds.2);
}

-- a name above that of a segment, if it has one
abbrev above : Value → ℕ
above Nil = 0
above (Int n) = 0
above (Ref a) = suc a

below-above : (segment : Value) (top : ℕ) → IsFilledBefore (above segment) 0 segment top
below-above Nil top = tt
below-above (Int n) top = tt
below-above (Ref a) top = inl (let low : a < suc a = omega arith in low)

-- so a stack stays where a root takes a value
pub takes-stacked : (g h : Graph) (r : RootId) (v : Value) → RootTakes g h r v → (segment : Value) (top : ℕ) (numbers : List ℤ)
    → AreStacked g segment top numbers → AreStacked h segment top numbers
takes-stacked g h r v takes segment top numbers stacked =
    stacked-kept g h (above segment) 0 (takes-keeps g h r v (above segment) 0 takes) segment top numbers (below-above segment top) stacked

-- what stores to a field keeps what is before it
pub stores-keeps : (g h : Graph) (a f : ℕ) (v : Value) → FieldTakes g h a f v → Keeps g h a f
stores-keeps g h a f v takes = record {
  counts = λ b n before has. (takes.field_counts b n).0 has;
  fields = λ b i w before holds. (takes.other_fields b i w (apart b i before)).0 holds;
}
  where
    apart : (b i : ℕ) → IsBefore b i a f → b ≡ a → i ≢ f
    apart b i (inl older) same = absurd (omega (arith, older, same))
    apart b i (inr (same, low)) again = λ is. omega (arith, low, is)

-- what makes an object keeps the others
pub makes-keeps : (g h : Graph) (r : RootId) (m : MakesObject g h r (shape_of 128 false)) → Keeps g h m.name 0
makes-keeps g h r m = record {
  counts = λ b n before has. (has.0, m.other_objects b (apart b 0 before) ∙ has.1, has.2);
  fields = λ b i w before holds. (holds.0, m.other_objects b (apart b i before) ∙ holds.1, holds.2);
}
  where
    apart : (b i : ℕ) → IsBefore b i m.name 0 → b ≢ m.name
    apart b i (inl older) = λ same. omega (arith, older, same)
    apart b i (inr (same, low)) = λ again. omega (arith, low)

-- A number that stands in the field above those of a stack is on it.
pub pushed : (g h : Graph) (a top : ℕ) (n : ℤ) (segment : Value) (numbers : List ℤ) → segment ≡ Ref a → FieldTakes g h a (top + 1) (Int n)
    → 1 ≤ top → HasFields g a 128 → AreStacked g segment top numbers → AreStacked h segment (top + 1) (n ∷ numbers)
pushed g h a top n segment numbers is takes some count stacked =
    let keeps = stores-keeps g h a (top + 1) (Int n) takes in
    let at : IsFilledBefore a (top + 1) segment top = subst (λ (v : Value). IsFilledBefore a (top + 1) v top) (sym is) (inr (refl, omega arith)) in
    let same : top ≡ top + 1 - 1 = omega arith in
    let kept = stacked-kept g h a (top + 1) keeps segment top numbers at stacked in (
      a,
      is,
      keeps.counts a 128 (inr (refl, omega arith)) count,
      takes.field,
      inl (omega (arith, some), subst (λ (t : ℕ). AreStacked h segment t numbers) same kept),
    )

-- the root that names a new segment
abbrev pub new_segment : RootId
new_segment = record { owner = 1; slot = 1 }

slot_of : RootId → ℕ
slot_of r = r.slot

pub roots-apart : top_segment ≢ new_segment
unfolding slot_of
roots-apart same = let slots : 0 ≡ 1 = ap slot_of same in omega (arith, slots)

abbrev name_of : Value → ℕ
name_of Nil = 0
name_of (Int n) = 0
name_of (Ref a) = a

-- A new segment was made beside a stack that fills the one on top.
pub record IsBegun (g : Graph) (name : ℕ) (under : Value) (numbers : List ℤ) : Type 0 where
  pub root : root_value g new_segment ≡ Ref name
  pub top : root_value g top_segment ≡ under
  pub count : HasFields g name 128
  pub kind : g.raw name ≡ false
  pub older : IsOlder under name
  pub stacked : AreStacked g under 127 numbers

-- names are given in order
abbrev pub AreInOrder : Graph → Type 0
AreInOrder g = (a b : ℕ) (fields : List Value) → g.fields a ≡ Some fields → g.fields b ≡ None → a < b

listed-before : (lists : List (List Value)) (a b : ℕ) (fields : List Value) → slice_get lists a ≡ Some fields → slice_get lists b ≡ None
    → (b < length lists) ⊎ (length lists ≤ b) → a < b
listed-before lists a b fields there none (inl low) = absurd (none-some (get_or lists b []) (sym none ∙ slice_get-get_or lists b [] low))
listed-before lists a b fields there none (inr high) = let low = slice_get_within lists a fields there in omega (arith, low, high)

pub plain-in-order : (p : PlainHeap) → AreInOrder (graph_of p)
plain-in-order p a b fields there none =
    listed-before (field_lists p.objects) a b fields there none (cases_lt b (length (field_lists p.objects)))

stack-older : (g : Graph) → AreInOrder g → (name : ℕ) → g.fields name ≡ None → (segment : Value) (top : ℕ) (numbers : List ℤ)
    → AreStacked g segment top numbers → IsOlder segment name
stack-older g ordered name none segment top [] stacked = subst (λ (v : Value). IsOlder v name) (sym stacked.0) tt
stack-older g ordered name none segment top (n ∷ ns) (a, is, count, last, rest) =
    let low : a < name = ordered a name count.0 count.1 none in
    subst (λ (v : Value). IsOlder v name) (sym is) low

older-filled : (under : Value) (name top : ℕ) → IsOlder under name → IsFilledBefore name 0 under top
older-filled Nil name top older = tt
older-filled (Int n) name top older = tt
older-filled (Ref b) name top older = inl older

pub begun : (g h : Graph) → AreInOrder g → (m : MakesObject g h new_segment (shape_of 128 false)) → (numbers : List ℤ)
    → AreStacked g (root_value g top_segment) 127 numbers → IsBegun h m.name (root_value g top_segment) numbers
begun g h ordered m numbers stacked =
    let under = root_value g top_segment in
    let older = stack-older g ordered m.name m.no_object under 127 numbers stacked in
    record {
      root = m.root;
      top = m.other_roots top_segment roots-apart;
      count = m.made.0;
      kind = m.made.1;
      older = older;
      stacked = stacked-kept g h m.name 0 (makes-keeps g h new_segment m) under 127 numbers (older-filled under m.name 127 older) stacked;
    }

-- Its fields take values.
module _ (g h : Graph) (name : ℕ) (under : Value) (numbers : List ℤ) (b : IsBegun g name under numbers) where
  pub begun-takes : (f : ℕ) (v : Value) → StoresField g h new_segment f v → FieldTakes g h name f v
  begun-takes f v (a, is, takes) =
      let same : a ≡ name = ap name_of (sym is ∙ b.root) in
      subst (λ (m : ℕ). FieldTakes g h m f v) same takes

  pub begun-on : (f : ℕ) (v : Value) → FieldTakes g h name f v → IsBegun h name under numbers
  begun-on f v takes = record {
    root = takes.roots new_segment ∙ b.root;
    top = takes.roots top_segment ∙ b.top;
    count = (takes.field_counts name 128).0 b.count;
    kind = takes.kinds name ∙ b.kind;
    older = b.older;
    stacked = stacked-kept g h name f (stores-keeps g h name f v takes) under 127 numbers (filled under f b.older) b.stacked;
  }
    where
      filled : (v : Value) (f : ℕ) → IsOlder v name → IsFilledBefore name f v 127
      filled Nil f older = tt
      filled (Int n) f older = tt
      filled (Ref c) f older = inl older

  -- and once it is whole it stands on the others
  pub begun-done : (n : ℤ) → HoldsField g name 0 under → HoldsField g name 1 (Int n) → RootTakes g h top_segment (root_value g new_segment)
      → AreStacked h (root_value h top_segment) 1 (n ∷ numbers)
  begun-done n first second takes =
      let keeps = takes-keeps g h top_segment (root_value g new_segment) (name + 1) 0 takes in
      let low : IsBefore name 0 (name + 1) 0 = inl (omega arith) in
      let low1 : IsBefore name 1 (name + 1) 0 = inl (omega arith) in (
        name,
        takes.root ∙ b.root,
        keeps.counts name 128 low b.count,
        keeps.fields name 1 (Int n) low1 second,
        inr (
          refl,
          under,
          keeps.fields name 0 under low first,
          b.older,
          takes-stacked g h top_segment (root_value g new_segment) takes under 127 numbers b.stacked,
        ),
      )

-- Another root takes a value: the stack stays.
pub other-takes : (g h : Graph) (v : Value) → RootTakes g h new_segment v → (top : ℕ) (numbers : List ℤ)
    → AreStacked g (root_value g top_segment) top numbers → AreStacked h (root_value h top_segment) top numbers
other-takes g h v takes top numbers stacked =
    subst (λ (segment : Value). AreStacked h segment top numbers) (sym (takes.other_roots top_segment roots-apart))
    (takes-stacked g h new_segment v takes (root_value g top_segment) top numbers stacked)

-- The last number of a stack stands in the field of the top segment.
pub last-there : (g : Graph) (segment : Value) (top : ℕ) (n : ℤ) (numbers : List ℤ) → AreStacked g segment top (n ∷ numbers)
    → (a : ℕ) × (segment ≡ Ref a) × HasFields g a 128 × HoldsField g a top (Int n)
last-there g segment top n numbers (a, is, count, last, rest) = (a, is, count, last)

-- A number that is stored above it is on the stack.
pub stored-above : (g h : Graph) (top : ℕ) (n : ℤ) (numbers : List ℤ) → top < 127 → AreStacked g (root_value g top_segment) top numbers
    → StoresField g h top_segment (top + 1) (Int n) → AreStacked h (root_value h top_segment) (top + 1) (n ∷ numbers)
stored-above g h top n [] low stacked stores = absurd (let full : top ≡ 127 = stacked.1 in omega (arith, low, full))
stored-above g h top n (m ∷ ms) low stacked (a, is, takes) =
    let last = last-there g (root_value g top_segment) top m ms stacked in
    let same : last.0 ≡ a = ap name_of (sym last.1 ∙ is) in
    let count : HasFields g a 128 = subst (λ (b : ℕ). HasFields g b 128) same last.2 in
    let some : 1 ≤ top = filled stacked in
    let joined = pushed g h a top n (root_value g top_segment) (m ∷ ms) is takes some count stacked in
    subst (λ (segment : Value). AreStacked h segment (top + 1) (n ∷ m ∷ ms)) (sym (takes.roots top_segment)) joined
  where
    filled : AreStacked g (root_value g top_segment) top (m ∷ ms) → 1 ≤ top
    filled (b, named, has, last, inl (more, deeper)) = omega (arith, more)
    filled (b, named, has, last, inr (one, under, first, older, deeper)) = omega (arith, one)

-- Where there is another one in the segment, the others are those below it.
pub popped-one : (g : Graph) (segment : Value) (top : ℕ) (n : ℤ) (numbers : List ℤ) → 1 < top → AreStacked g segment top (n ∷ numbers)
    → AreStacked g segment (top - 1) numbers
popped-one g segment top n numbers more (a, is, count, last, inl (again, deeper)) = deeper
popped-one g segment top n numbers more (a, is, count, last, inr (one, under, first, older, deeper)) = absurd (omega (arith, more, one))

-- No number stands above the last field.
pub full-top : (g : Graph) (segment : Value) (top : ℕ) (numbers : List ℤ) → 127 ≤ top → AreStacked g segment top numbers → top ≡ 127
full-top g segment top [] high stacked = stacked.1
full-top g segment top (n ∷ ns) high (a, is, (fields, there, count), (same, here, last), rest) =
    let equal : same ≡ fields = same_Some same fields (sym here ∙ there) in
    let low = slice_get_within same top (Int n) last in
    let short : length same ≡ 128 = ap length equal ∙ count in
    omega (arith, high, low, short)

held : (xs : List Value) (i : ℕ) (v w : Value) → slice_get xs i ≡ Some v → slice_get xs i ≡ Some w → v ≡ w
held xs i v w one other = same_Some v w (sym one ∙ other)

pub holds-one : (g : Graph) (a f : ℕ) (v w : Value) → HoldsField g a f v → HoldsField g a f w → v ≡ w
holds-one g a f v w (xs, there, one) (ys, here, other) =
    let same : xs ≡ ys = same_Some xs ys (sym there ∙ here) in
    held ys f v w (subst (λ (zs : List Value). slice_get zs f ≡ Some v) same one) other

-- Where it is the last one there, the root takes what the segment stands on.
pub popped-segment : (g h : Graph) (top : ℕ) (n : ℤ) (numbers : List ℤ) → top ≤ 1
    → AreStacked g (root_value g top_segment) top (n ∷ numbers)
    → (a : ℕ) (v : Value) → root_value g top_segment ≡ Ref a → HoldsField g a 0 v → RootTakes g h top_segment v
    → AreStacked h (root_value h top_segment) 127 numbers
popped-segment g h top n numbers few (b, is, count, last, inl (more, deeper)) a v named holds takes = absurd (omega (arith, few, more))
popped-segment g h top n numbers few (b, is, count, last, inr (one, under, first, older, deeper)) a v named holds takes =
    let same : b ≡ a = ap name_of (sym is ∙ named) in
    let value : under ≡ v = holds-one g a 0 under v (subst (λ (m : ℕ). HoldsField g m 0 under) same first) holds in
    let kept = takes-stacked g h top_segment v takes under 127 numbers deeper in
    subst (λ (segment : Value). AreStacked h segment 127 numbers) (value ∙ sym takes.root) kept

-- the field that it stands on holds something
pub first-field : (g : Graph) (segment : Value) (top : ℕ) (n : ℤ) (numbers : List ℤ) → top ≤ 1 → AreStacked g segment top (n ∷ numbers)
    → (a : ℕ) × (v : Value) × (segment ≡ Ref a) × HoldsField g a 0 v
first-field g segment top n numbers few (b, is, count, last, inl (more, deeper)) = absurd (omega (arith, few, more))
first-field g segment top n numbers few (b, is, count, last, inr (one, under, first, older, deeper)) = (b, under, is, first)

-- Where there is room in the segment on top, it is there.
pub filled-segment : (g : Graph) (segment : Value) (top : ℕ) (numbers : List ℤ) → top < 127 → AreStacked g segment top numbers
    → (a : ℕ) × (segment ≡ Ref a) × HasFields g a 128
filled-segment g segment top [] low stacked = absurd (let full = stacked.1 in omega (arith, low, full))
filled-segment g segment top (n ∷ ns) low (a, is, count, last, rest) = (a, is, count)
