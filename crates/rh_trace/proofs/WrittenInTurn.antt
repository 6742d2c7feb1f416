-- A text that is written in parts, one after the other, and where it ended.
use Rattle.std.proofs.Common.{◌≡◌, ℕ, ◌+◌, ◌<◌, List, [], ◌∷◌, ◌++◌, length, get_or, take, drop, Option, Result, Ok, Err, refl, sym, ap, subst, ◌∙◌, append_assoc, arith}
use Rattle.std.specs.List.{flat_map}
use Rattle.std.specs.Io.KnownBytes.{Appends}
use Rattle.std.proofs.lemmas.List.{append-nil, length-append, take-append-drop, drop_more}
use Rattle.std.proofs.lemmas.List.Concat.{flat_map-append}
use Rattle.rh_text.specs.Output.{AppendsLess}
use Rattle.rh_text.specs.lemmas.Appends.{Appends-none, Appends-less, less-more}
use Rattle.rh_dump.specs.declared.reading.due.Version.TheVariants.{Two}
use Rattle.rh_dump.specs.Dump.{GraphState}
use Rattle.rh_dump.specs.texts.Line.{header_line, roots_line, objects_line, end_line, root_lines, object_lines, spell_dump_line, dump_text}
use Rattle.rh_trace.specs.declared.stop.Stop.{Stop}
use Rattle.rh_trace.specs.Answers.{with_line_end}
use Rattle.rh_trace.specs.Run.{Writes}

-- nothing of a text was written that isn't empty
pub nothing_of : (a : Option (List ℕ)) (text : List ℕ) → 0 < length text → AppendsLess a a text
nothing_of a text filled = ([], text, refl, filled, Appends-none a)

-- nothing of a line was written
pub nothing_of_line : (a : Option (List ℕ)) (text : List ℕ) → AppendsLess a a (with_line_end text)
nothing_of_line a text = nothing_of a (with_line_end text) (omega (arith, length-append text (10 ∷ [])))

-- nothing of a dump was written
pub nothing_of_dump : (a : Option (List ℕ)) (graph : GraphState) → AppendsLess a a (dump_text graph)
nothing_of_dump a graph =
    let after = roots_line (length graph.roots) ∷ (root_lines graph.roots ++ (objects_line (length graph.objects) ∷ (object_lines 0 graph.objects ++ (end_line ∷ [])))) in
    nothing_of a (dump_text graph) (omega (arith, length-append (spell_dump_line (header_line Two)) (flat_map spell_dump_line after)))

-- where a part wasn't written whole, neither was the text
pub stopped_within : (X Y : Type 0) (stop : Stop) (a b c : Option (List ℕ)) (before text after whole : List ℕ) → whole ≡ before ++ (text ++ after) → Appends a b before → Writes {X = X} text (Err stop) b c → Writes {X = Y} whole (Err stop) a c
stopped_within X Y stop a b c before text after whole is p q = subst (AppendsLess a c) (sym is) (Appends-less a b c before (text ++ after) p (less-more b c text after q))

-- what stands before the text of one item, and after it
pub around : {X : Type 0} (f : X → List ℕ) (xs : List X) (i : ℕ) (d : X) (last : List ℕ) → i < length xs → flat_map f xs ++ last ≡ flat_map f (take i xs) ++ (f (get_or xs i d) ++ (flat_map f (drop (i + 1) xs) ++ last))
around {X} f xs i d last lt =
    let x = get_or xs i d in
    let rest = flat_map f (drop (i + 1) xs) in
    let parts : xs ≡ take i xs ++ x ∷ drop (i + 1) xs = sym (take-append-drop i xs) ∙ ap (λ (ys : List X). take i xs ++ ys) (drop_more xs i d lt) in
    let joined : flat_map f xs ≡ flat_map f (take i xs) ++ (f x ++ rest) = ap (flat_map f) parts ∙ flat_map-append f (take i xs) (x ∷ drop (i + 1) xs) in
    ap (λ (t : List ℕ). t ++ last) joined ∙ append_assoc (flat_map f (take i xs)) (f x ++ rest) last ∙ ap (λ (t : List ℕ). flat_map f (take i xs) ++ t) (append_assoc (f x) rest last)

-- where the text of one item wasn't written whole, after those before it, neither was that of all
pub stopped_at : {T : Type 0} (X Y : Type 0) (stop : Stop) (a b c : Option (List ℕ)) (f : T → List ℕ) (xs : List T) (i : ℕ) (d : T) → i < length xs → Appends a b (flat_map f (take i xs)) → Writes {X = X} (f (get_or xs i d)) (Err stop) b c → Writes {X = Y} (flat_map f xs) (Err stop) a c
stopped_at X Y stop a b c f xs i d lt p q =
    stopped_within X Y stop a b c (flat_map f (take i xs)) (f (get_or xs i d)) (flat_map f (drop (i + 1) xs) ++ []) (flat_map f xs) (sym (append-nil (flat_map f xs)) ∙ around f xs i d [] lt) p q

pub ok_no_error : {A E : Type 0} (x : A) (e : E) → ◌≡◌ {A = Result A E} (Ok x) (Err e) → ⊥
ok_no_error x e same = cc
