-- A text that is sent in parts, one after the other.
use Rattle.std.proofs.Common.{◌≡◌, ℕ, ◌+◌, ◌<◌, Bool, true, false, List, [], ◌∷◌, ◌++◌, length, get_or, take, drop, Option, Result, Ok, Err, refl, sym, ap, subst, ◌∙◌, append_assoc, arith}
use Rattle.std.specs.Prelude.{codes, decimal, map, OnOk, OnErr}
use Rattle.std.specs.List.{flat_map, join_with_byte}
use Rattle.std.specs.Io.KnownBytes.{Appends}
use Rattle.std.proofs.lemmas.List.{append-nil, drop_more}
use Rattle.std.proofs.lemmas.List.Concat.{flat_map-append}
use Rattle.rh_layout.specs.declared.value.Value.{Value}
use Rattle.rh_layout.specs.declared.command.RootId.{RootId}
use Rattle.rh_layout.specs.declared.shape.Shape.{Shape}
use Rattle.rh_model.specs.Plain.{PlainObject}
use Rattle.rh_dump.specs.declared.reading.due.Version.TheVariants.{Two}
use Rattle.rh_text.specs.Output.{AppendsLess}
use Rattle.rh_text.specs.lemmas.Appends.{Sent, Appends-then, Appends-none, Appends-at, Appends-less, less-more}
use Rattle.rh_dump.specs.Dump.{GraphState}
use Rattle.rh_dump.specs.Graph.{objects_in, total}
use Rattle.rh_dump.specs.texts.Line.{header_line, roots_line, root_line, objects_line, object_line, end_line, value_text, kind_parts, spell_dump_line, root_lines, object_lines, dump_text}

pub Sent-begin : (a : Option (List ℕ)) (text : List ℕ) → Sent a a text text
Sent-begin a text = record { prefix = []; whole = refl; appended = Appends-none a }

module _ (a b c : Option (List ℕ)) (text rest sent more : List ℕ) (so_far : Sent a b text rest) (is : rest ≡ sent ++ more) where
  pub Sent-next : Appends b c sent → Sent a c text more
  Sent-next next = record {
    prefix = so_far.prefix ++ sent;
    whole = so_far.whole ∙ ap (λ (t : List ℕ). so_far.prefix ++ t) is ∙ sym (append_assoc so_far.prefix sent more);
    appended = Appends-then a b c so_far.prefix sent so_far.appended next;
  }

  pub Sent-less : AppendsLess b c sent → AppendsLess a c text
  Sent-less next =
      let whole : text ≡ so_far.prefix ++ (sent ++ more) = so_far.whole ∙ ap (λ (t : List ℕ). so_far.prefix ++ t) is in
      subst (AppendsLess a c) (sym whole) (Appends-less a b c so_far.prefix (sent ++ more) so_far.appended (less-more b c sent more next))

pub Sent-last : (a b c : Option (List ℕ)) (text rest : List ℕ) → Sent a b text rest → Appends b c rest → Appends a c text
Sent-last a b c text rest so_far last = Appends-at a c (so_far.prefix ++ rest) text (sym so_far.whole) (Appends-then a b c so_far.prefix rest so_far.appended last)

pub Sent-last_less : (a b c : Option (List ℕ)) (text rest : List ℕ) → Sent a b text rest → AppendsLess b c rest → AppendsLess a c text
Sent-last_less a b c text rest so_far last = subst (AppendsLess a c) (sym so_far.whole) (Appends-less a b c so_far.prefix rest so_far.appended last)

pub Sent-all : (a b : Option (List ℕ)) (text rest : List ℕ) → rest ≡ [] → Sent a b text rest → Appends a b text
Sent-all a b text rest none so_far = Sent-last a b b text [] (subst (Sent a b text) none so_far) (Appends-none b)

-- ---- the texts of lines in the parts in which they are sent

-- a further part of a line
abbrev pub value_piece : Value → List ℕ
value_piece value = 32 ∷ value_text value

abbrev pub object_head_text : ℕ → Bool → ℕ → List ℕ
object_head_text number raw fields = join_with_byte 32 ((64 ∷ decimal number) ∷ (kind_parts raw ++ decimal fields ∷ []))

join-values : (part : List ℕ) (values : List Value) → join_with_byte 32 (part ∷ map value_text values) ≡ part ++ flat_map value_piece values
join-values part [] = sym (append-nil part)
join-values part (value ∷ values) = ap (λ (t : List ℕ). part ++ 32 ∷ t) (join-values (value_text value) values)

abbrev pub object_of : Bool → List Value → PlainObject
object_of raw fields = record { raw = raw; fields = fields }

pub object_line_text : (number : ℕ) (raw : Bool) (fields : List Value) → spell_dump_line (object_line number (object_of raw fields)) ≡ object_head_text number raw (length fields) ++ (flat_map value_piece fields ++ 10 ∷ [])
object_line_text number false fields =
    let d = decimal (length fields) in
    let own = 64 ∷ decimal number in
    ap (λ (t : List ℕ). (own ++ 32 ∷ t) ++ 10 ∷ []) (join-values d fields)
    ∙ ap (λ (t : List ℕ). t ++ 10 ∷ []) (sym (append_assoc own (32 ∷ d) (flat_map value_piece fields)))
    ∙ append_assoc (own ++ 32 ∷ d) (flat_map value_piece fields) (10 ∷ [])
object_line_text number true fields =
    let d = codes "raw" ++ 32 ∷ decimal (length fields) in
    let own = 64 ∷ decimal number in
    ap (λ (t : List ℕ). (own ++ 32 ∷ (codes "raw" ++ 32 ∷ t)) ++ 10 ∷ []) (join-values (decimal (length fields)) fields)
    ∙ ap (λ (t : List ℕ). t ++ 10 ∷ []) (sym (append_assoc own (32 ∷ d) (flat_map value_piece fields)))
    ∙ append_assoc (own ++ 32 ∷ d) (flat_map value_piece fields) (10 ∷ [])

-- the text after the first two lines, after the roots, after the line of the number of objects, and after the objects
abbrev pub text_end : List ℕ
text_end = spell_dump_line end_line

abbrev pub text_objects : GraphState → List ℕ
text_objects g = flat_map spell_dump_line (object_lines 0 g.objects) ++ text_end

abbrev pub text_count : GraphState → List ℕ
text_count g = spell_dump_line (objects_line (length g.objects)) ++ text_objects g

abbrev pub text_roots : GraphState → List ℕ
text_roots g = flat_map spell_dump_line (root_lines g.roots) ++ text_count g

pub dump_text-parts : (g : GraphState) → dump_text g ≡ (spell_dump_line (header_line Two) ++ spell_dump_line (roots_line (length g.roots))) ++ text_roots g
dump_text-parts g =
    let objects = flat_map-append spell_dump_line (object_lines 0 g.objects) (end_line ∷ []) in
    let ended : flat_map spell_dump_line (object_lines 0 g.objects ++ (end_line ∷ [])) ≡ text_objects g = objects ∙ ap (λ (t : List ℕ). flat_map spell_dump_line (object_lines 0 g.objects) ++ t) (append-nil text_end) in
    let count : flat_map spell_dump_line (objects_line (length g.objects) ∷ (object_lines 0 g.objects ++ (end_line ∷ []))) ≡ text_count g = ap (λ (t : List ℕ). spell_dump_line (objects_line (length g.objects)) ++ t) ended in
    let roots : flat_map spell_dump_line (root_lines g.roots ++ (objects_line (length g.objects) ∷ (object_lines 0 g.objects ++ (end_line ∷ [])))) ≡ text_roots g = flat_map-append spell_dump_line (root_lines g.roots) (objects_line (length g.objects) ∷ (object_lines 0 g.objects ++ (end_line ∷ []))) ∙ ap (λ (t : List ℕ). flat_map spell_dump_line (root_lines g.roots) ++ t) count in
    ap (λ (t : List ℕ). spell_dump_line (header_line Two) ++ (spell_dump_line (roots_line (length g.roots)) ++ t)) roots
    ∙ sym (append_assoc (spell_dump_line (header_line Two)) (spell_dump_line (roots_line (length g.roots))) (text_roots g))

-- ---- a loop that sends a part for each item

module _ {X : Type 0} (F : List X → List ℕ) (part : X → List ℕ) (step : (x : X) (xs : List X) → F (x ∷ xs) ≡ part x ++ F xs) (a b c : Option (List ℕ)) (text sent : List ℕ) (xs : List X) (i : ℕ) (d : X) (lt : i < length xs) (is : sent ≡ part (get_or xs i d)) (so_far : Sent a b text (F (drop i xs))) where
  loop_rest : F (drop i xs) ≡ sent ++ F (drop (i + 1) xs)
  loop_rest = ap F (drop_more xs i d lt) ∙ step (get_or xs i d) (drop (i + 1) xs) ∙ ap (λ (t : List ℕ). t ++ F (drop (i + 1) xs)) (sym is)

  pub loop_next : Appends b c sent → Sent a c text (F (drop (i + 1) xs))
  loop_next next = Sent-next a b c text (F (drop i xs)) sent (F (drop (i + 1) xs)) so_far loop_rest next

  pub loop_less : AppendsLess b c sent → AppendsLess a c text
  loop_less next = Sent-less a b c text (F (drop i xs)) sent (F (drop (i + 1) xs)) so_far loop_rest next

abbrev pub roots_text : List (RootId × Value) → List ℕ
roots_text roots = flat_map spell_dump_line (root_lines roots)

abbrev pub root_text_line : RootId × Value → List ℕ
root_text_line root = spell_dump_line (root_line root.0 root.1)

abbrev pub fields_text : List Value → List ℕ
fields_text values = flat_map value_piece values ++ 10 ∷ []

pub fields_step : (x : Value) (xs : List Value) → fields_text (x ∷ xs) ≡ value_piece x ++ fields_text xs
fields_step x xs = append_assoc (value_piece x) (flat_map value_piece xs) (10 ∷ [])

abbrev pub objects_text : ℕ → List Shape → List Value → List ℕ
objects_text number shapes values = flat_map spell_dump_line (object_lines number (objects_in shapes values))

module _ (a b c : Option (List ℕ)) (text : List ℕ) (number i : ℕ) (shapes : List Shape) (d : Shape) (rest front back : List Value) (lt : i < length shapes) (fronts : front ≡ take (get_or shapes i d).fields rest) (backs : back ≡ drop (get_or shapes i d).fields rest)
    (so_far : Sent a b text (objects_text number (drop i shapes) rest)) where
  abbrev sent_object : List ℕ
  sent_object = spell_dump_line (object_line number (object_of (get_or shapes i d).raw front))

  objects_rest : objects_text number (drop i shapes) rest ≡ sent_object ++ objects_text (number + 1) (drop (i + 1) shapes) back
  objects_rest =
      let shape = get_or shapes i d in
      ap (λ (ss : List Shape). objects_text number ss rest) (drop_more shapes i d lt)
      ∙ ap (λ (f : List Value). spell_dump_line (object_line number (object_of shape.raw f)) ++ objects_text (number + 1) (drop (i + 1) shapes) (drop shape.fields rest)) (sym fronts)
      ∙ ap (λ (r : List Value). sent_object ++ objects_text (number + 1) (drop (i + 1) shapes) r) (sym backs)

  pub objects_next : Appends b c sent_object → Sent a c text (objects_text (number + 1) (drop (i + 1) shapes) back)
  objects_next next = Sent-next a b c text (objects_text number (drop i shapes) rest) sent_object (objects_text (number + 1) (drop (i + 1) shapes) back) so_far objects_rest next

  pub objects_less : AppendsLess b c sent_object → AppendsLess a c text
  objects_less next = Sent-less a b c text (objects_text number (drop i shapes) rest) sent_object (objects_text (number + 1) (drop (i + 1) shapes) back) so_far objects_rest next

pub total_more : (shapes : List Shape) (d : Shape) (i n m : ℕ) → i < length shapes → total (drop i shapes) ≡ n → m + (get_or shapes i d).fields ≡ n → total (drop (i + 1) shapes) ≡ m
total_more shapes d i n m lt all is = let e : total (drop i shapes) ≡ (get_or shapes i d).fields + total (drop (i + 1) shapes) = ap total (drop_more shapes i d lt) in omega (arith, e)

-- ---- the dump text of a graph, in the parts in which it is sent

module _ (g : GraphState) (a b : Option (List ℕ)) (sent : List ℕ) (is : sent ≡ spell_dump_line (header_line Two) ++ spell_dump_line (roots_line (length g.roots))) where
  head_rest : dump_text g ≡ sent ++ text_roots g
  head_rest = dump_text-parts g ∙ ap (λ (t : List ℕ). t ++ text_roots g) (sym is)

  pub head_next : Appends a b sent → Sent a b (dump_text g) (text_roots g)
  head_next next = Sent-next a a b (dump_text g) (dump_text g) sent (text_roots g) (Sent-begin a (dump_text g)) head_rest next

  pub head_less : AppendsLess a b sent → AppendsLess a b (dump_text g)
  head_less next = Sent-less a a b (dump_text g) (dump_text g) sent (text_roots g) (Sent-begin a (dump_text g)) head_rest next

module _ (g : GraphState) (a b c : Option (List ℕ)) where
  pub roots_next : Sent a b (dump_text g) (text_roots g) → Appends b c (roots_text g.roots) → Sent a c (dump_text g) (text_count g)
  roots_next so_far next = Sent-next a b c (dump_text g) (text_roots g) (roots_text g.roots) (text_count g) so_far refl next

  pub roots_less : Sent a b (dump_text g) (text_roots g) → AppendsLess b c (roots_text g.roots) → AppendsLess a c (dump_text g)
  roots_less so_far next = Sent-less a b c (dump_text g) (text_roots g) (roots_text g.roots) (text_count g) so_far refl next

  pub count_next : (sent : List ℕ) → sent ≡ spell_dump_line (objects_line (length g.objects)) → Sent a b (dump_text g) (text_count g) → Appends b c sent → Sent a c (dump_text g) (text_objects g)
  count_next sent is so_far next = Sent-next a b c (dump_text g) (text_count g) sent (text_objects g) so_far (ap (λ (t : List ℕ). t ++ text_objects g) (sym is)) next

  pub count_less : (sent : List ℕ) → sent ≡ spell_dump_line (objects_line (length g.objects)) → Sent a b (dump_text g) (text_count g) → AppendsLess b c sent → AppendsLess a c (dump_text g)
  count_less sent is so_far next = Sent-less a b c (dump_text g) (text_count g) sent (text_objects g) so_far (ap (λ (t : List ℕ). t ++ text_objects g) (sym is)) next

  pub all_next : Sent a b (dump_text g) (text_objects g) → Appends b c (flat_map spell_dump_line (object_lines 0 g.objects)) → Sent a c (dump_text g) text_end
  all_next so_far next = Sent-next a b c (dump_text g) (text_objects g) (flat_map spell_dump_line (object_lines 0 g.objects)) text_end so_far refl next

  pub all_less : Sent a b (dump_text g) (text_objects g) → AppendsLess b c (flat_map spell_dump_line (object_lines 0 g.objects)) → AppendsLess a c (dump_text g)
  all_less so_far next = Sent-less a b c (dump_text g) (text_objects g) (flat_map spell_dump_line (object_lines 0 g.objects)) text_end so_far refl next

pub on_ok : {A E P Q : Type 0} (r : Result A E) → (P → Q) → OnOk r P → OnOk r Q
on_ok (Ok x) f h = f h
on_ok (Err e) f h = h

pub on_err : {A E P Q : Type 0} (r : Result A E) → (P → Q) → OnErr r P → OnErr r Q
on_err (Ok x) f h = h
on_err (Err e) f h = f h
