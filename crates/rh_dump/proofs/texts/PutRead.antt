-- A line that is read by what is due, step by step, and put into a graph.
use Rattle.std.proofs.Common.{◌≡◌, ℕ, ◌+◌, ◌<◌, ◌≤◌, Bool, true, false, cond, eqb, ltb, not, List, [], ◌∷◌, ◌++◌, length, Option, Some, None, Result, Ok, Err, refl, sym, ap, ◌∙◌, append_assoc, arith}
use Rattle.std.proofs.lemmas.Bool.{lt-ltb, le-ltb}
use Rattle.std.proofs.lemmas.List.{append-nil}
use Rattle.rh_layout.specs.declared.value.Value.{Value}
use Rattle.rh_layout.specs.declared.command.RootId.{RootId}
use Rattle.rh_layout.specs.declared.shape.Shape.{Shape}
use Rattle.rh_layout.specs.Shape.{shape_of}
use Rattle.rh_model.specs.Plain.{PlainObject}
use Rattle.rh_text.specs.Parts.{first_and_rest}
use Rattle.rh_text.specs.RawLine.{RawLine, raw_text}
use Rattle.rh_text.specs.Steps.{◌>>=◌, or_fault, with_fault}
use Rattle.rh_dump.specs.Dump.{met_with, met_after}
use Rattle.rh_dump.specs.Graph.{FlatGraph}
use Rattle.rh_dump.specs.texts.Line.{DumpLine, header_line, roots_line, root_line, objects_line, object_line, end_line, root_due, object_due, due_after}
use Rattle.rh_dump.specs.texts.Part.{object_head}
use Rattle.rh_dump.specs.texts.Reading.{formed_parts, number_or_fault, field_or_fault, values_or_fault, root_of_parts, own_number, fields_or_fault, object_of_parts, line_due, line_or_kind}
use Rattle.rh_dump.specs.texts.Putting.{put_line, put_read, put_values, due_read, root_in, start_of, IsDue, Tells}
use Rattle.rh_dump.specs.declared.reading.due.Due.{Due}
use Rattle.rh_dump.specs.declared.reading.due.Due.TheVariants as dues
use Rattle.rh_dump.specs.declared.reading.due.Version.{Version}
use Rattle.rh_dump.specs.declared.reading.fault.DumpKind.{DumpKind}
use Rattle.rh_dump.specs.declared.reading.fault.DumpKind.TheVariants.{Long, End, Trailing, Form}
use Rattle.rh_dump.specs.declared.reading.read_error.LineError.{LineError}
use Rattle.rh_dump.specs.declared.reading.read_error.LineError.TheVariants.{Kind, OutOfMemory}
use Rattle.rh_dump.proofs.texts.ReadIsSpelled.{Fits, line_means}

ok_is : {A E : Type 0} (x y : A) → ◌≡◌ {A = Result A E} (Ok x) (Ok y) → x ≡ y
ok_is x y e = cc

-- ---- parts

pub first_is : (parts : List (List ℕ)) (x : List ℕ × List (List ℕ)) → Some x ≡ first_and_rest parts → parts ≡ x.0 ∷ x.1
first_is [] x e = absurd cc
first_is (p ∷ ps) x e =
    let same : x ≡ (p, ps) = cc in
    sym (ap (λ (y : List ℕ × List (List ℕ)). y.0 ∷ y.1) same)

pub none_left : (parts : List (List ℕ)) → None ≡ first_and_rest parts → parts ≡ []
none_left [] e = refl
none_left (p ∷ ps) e = absurd cc

pub shorter : (parts : List (List ℕ)) (x : List ℕ × List (List ℕ)) → Some x ≡ first_and_rest parts → length x.1 < length parts
shorter parts x e = omega (arith, ap length (first_is parts x e))

-- ---- values, one after the other

abbrev with_value : FlatGraph → Value → FlatGraph
with_value flat value = record flat { values = flat.values ++ value ∷ [] }

regroup : (flat : FlatGraph) (met : ℕ) (value : Value) (read : Result (List Value) DumpKind) → put_values (with_value flat value) (met_with met value) read ≡ put_values flat met (read >>= λ vs. Ok (value ∷ vs))
regroup flat met value (Ok vs) = ap (λ (all : List Value). Ok (record flat { values = all }, met_after (met_with met value) vs)) (append_assoc flat.values (value ∷ []) vs)
regroup flat met value (Err kind) = refl

pub values_next : (flat : FlatGraph) (raw : Bool) (count met : ℕ) (parts rest : List (List ℕ)) (part : List ℕ) (value : Value) → parts ≡ part ∷ rest → Ok value ≡ field_or_fault raw count met part
    → put_values (with_value flat value) (met_with met value) (values_or_fault raw count (met_with met value) rest) ≡ put_values flat met (values_or_fault raw count met parts)
unfolding values_or_fault
values_next flat raw count met parts rest part value is read =
    let one : values_or_fault raw count met parts ≡ (values_or_fault raw count (met_with met value) rest >>= λ vs. Ok (value ∷ vs)) = ap (values_or_fault raw count met) is ∙ ap (λ (r : Result Value DumpKind). r >>= λ v. values_or_fault raw count (met_with met v) rest >>= λ vs. Ok (v ∷ vs)) (sym read) in
    regroup flat met value (values_or_fault raw count (met_with met value) rest) ∙ ap (put_values flat met) (sym one)

pub values_stop : (flat : FlatGraph) (raw : Bool) (count met : ℕ) (parts rest : List (List ℕ)) (part : List ℕ) (kind : DumpKind) → parts ≡ part ∷ rest → Err kind ≡ field_or_fault raw count met part
    → put_values flat met (values_or_fault raw count met parts) ≡ Err kind
unfolding values_or_fault
values_stop flat raw count met parts rest part kind is read =
    let one : values_or_fault raw count met parts ≡ Err kind = ap (values_or_fault raw count met) is ∙ ap (λ (r : Result Value DumpKind). r >>= λ v. values_or_fault raw count (met_with met v) rest >>= λ vs. Ok (v ∷ vs)) (sym read) in
    ap (put_values flat met) one

pub values_done : (flat : FlatGraph) (raw : Bool) (count met : ℕ) (parts : List (List ℕ)) → parts ≡ [] → put_values flat met (values_or_fault raw count met parts) ≡ Ok (flat, met)
unfolding values_or_fault
values_done flat raw count met parts is =
    let one : values_or_fault raw count met parts ≡ Ok [] = ap (values_or_fault raw count met) is in
    ap (put_values flat met) one ∙ ap (λ (all : List Value). Ok (record flat { values = all }, met)) (append-nil flat.values)

bind_ok : {A B E : Type 0} (r : Result A E) (f : A → Result B E) (y : B) → (r >>= f) ≡ Ok y → (x : A) × (r ≡ Ok x) × (f x ≡ Ok y)
bind_ok (Ok x) f y e = (x, refl, e)
bind_ok (Err d) f y e = absurd cc

pub length-values : (raw : Bool) (count met : ℕ) (parts : List (List ℕ)) (vs : List Value) → values_or_fault raw count met parts ≡ Ok vs → length vs ≡ length parts
unfolding values_or_fault
length-values raw count met [] vs e = sym (ap length (ok_is [] vs e))
length-values raw count met (part ∷ parts) vs e =
    let a = bind_ok (field_or_fault raw count met part) (λ (v : Value). values_or_fault raw count (met_with met v) parts >>= λ others. Ok (v ∷ others)) vs e in
    let b = bind_ok (values_or_fault raw count (met_with met a.0) parts) (λ (others : List Value). Ok (a.0 ∷ others)) vs a.2 in
    omega (arith, length-values raw count (met_with met a.0) parts b.0 b.1, ap length (ok_is (a.0 ∷ b.0) vs b.2))

-- ---- an object's line

-- its values are put at the end, once its parts before them were read
abbrev put_object : FlatGraph → Version → Bool → ℕ → ℕ → ℕ → Result (List Value) DumpKind → Result (FlatGraph × Due) DumpKind
put_object flat version raw number count met read = read >>= λ vs. Ok (record flat { shapes = flat.shapes ++ shape_of (length vs) raw ∷ []; values = flat.values ++ vs }, object_due version (number + 1) count (met_after met vs))

abbrev started : FlatGraph → Version → ℕ → ℕ → ℕ → Result (Shape × List (List ℕ)) DumpKind → Result (FlatGraph × Due) DumpKind
started flat version number count met start = start >>= λ s. put_object flat version s.0.raw number count met (values_or_fault s.0.raw count met s.1)

abbrev as_object : FlatGraph → Version → ℕ → ℕ → ℕ → Result (ℕ × PlainObject) DumpKind → Result (FlatGraph × Due) DumpKind
as_object flat version number count met read = put_read flat (dues.Object version number count met) (read >>= λ object. Ok (object_line object.0 object.1))

abbrev told : ℕ → Bool → List Value → Result (ℕ × PlainObject) DumpKind
told own raw vs = Ok (own, record { raw = raw; fields = vs })

abbrev start : ℕ → Bool → List (List ℕ) → Result (Shape × List (List ℕ)) DumpKind
start fields raw parts = Ok (shape_of fields raw, parts)

by_values : (flat : FlatGraph) (version : Version) (raw : Bool) (number count met own : ℕ) (read : Result (List Value) DumpKind) → as_object flat version number count met (read >>= told own raw) ≡ put_object flat version raw number count met read
by_values flat version raw number count met own (Ok vs) = refl
by_values flat version raw number count met own (Err kind) = refl

by_test : (flat : FlatGraph) (version : Version) (raw : Bool) (number count met own fields : ℕ) (parts : List (List ℕ)) (t : Bool)
    → as_object flat version number count met (cond t (values_or_fault raw count met parts) (Err Form) >>= told own raw) ≡ started flat version number count met (cond t (start fields raw parts) (Err Form))
by_test flat version raw number count met own fields parts true = by_values flat version raw number count met own (values_or_fault raw count met parts)
by_test flat version raw number count met own fields parts false = refl

by_fields : (flat : FlatGraph) (version : Version) (raw : Bool) (number count met own : ℕ) (parts : List (List ℕ)) (r : Result ℕ DumpKind)
    → as_object flat version number count met (r >>= λ fields. fields_or_fault raw count met fields parts >>= told own raw) ≡ started flat version number count met (r >>= λ fields. cond (eqb (length parts) fields) (start fields raw parts) (Err Form))
unfolding fields_or_fault
by_fields flat version raw number count met own parts (Ok fields) = by_test flat version raw number count met own fields parts (eqb (length parts) fields)
by_fields flat version raw number count met own parts (Err kind) = refl

by_own : (flat : FlatGraph) (version : Version) (raw : Bool) (number count met : ℕ) (second : List ℕ) (parts : List (List ℕ)) (r : Result ℕ DumpKind)
    → as_object flat version number count met (r >>= λ own. number_or_fault 4095 second >>= λ fields. fields_or_fault raw count met fields parts >>= told own raw)
    ≡ started flat version number count met (r >>= λ own. number_or_fault 4095 second >>= λ fields. cond (eqb (length parts) fields) (start fields raw parts) (Err Form))
by_own flat version raw number count met second parts (Ok own) = by_fields flat version raw number count met own parts (number_or_fault 4095 second)
by_own flat version raw number count met second parts (Err kind) = refl

by_head : (flat : FlatGraph) (version : Version) (number count met : ℕ) (o : Option (List ℕ × Bool × List ℕ × List (List ℕ)))
    → as_object flat version number count met (or_fault o Form >>= λ head. own_number number met head.0 >>= λ own. number_or_fault 4095 head.2 >>= λ fields. fields_or_fault head.1 count met fields head.3 >>= told own head.1)
    ≡ started flat version number count met (or_fault o Form >>= λ head. own_number number met head.0 >>= λ own. number_or_fault 4095 head.2 >>= λ fields. cond (eqb (length head.3) fields) (start fields head.1 head.3) (Err Form))
by_head flat version number count met (Some head) = by_own flat version head.1 number count met head.2 head.3 (own_number number met head.0)
by_head flat version number count met None = refl

by_formed : (flat : FlatGraph) (version : Version) (number count met : ℕ) (r : Result (List (List ℕ)) DumpKind)
    → put_read flat (dues.Object version number count met) (r >>= λ parts. object_of_parts version number count met parts >>= λ object. Ok (object_line object.0 object.1))
    ≡ started flat version number count met (r >>= λ parts. or_fault (object_head version parts) Form >>= λ head. own_number number met head.0 >>= λ own. number_or_fault 4095 head.2 >>= λ fields. cond (eqb (length head.3) fields) (start fields head.1 head.3) (Err Form))
unfolding object_of_parts
by_formed flat version number count met (Ok parts) = by_head flat version number count met (object_head version parts)
by_formed flat version number count met (Err kind) = refl

object_is : (flat : FlatGraph) (version : Version) (number count met : ℕ) (line : List ℕ) → put_read flat (dues.Object version number count met) (line_due (dues.Object version number count met) line) ≡ started flat version number count met (start_of version number met line)
unfolding line_due start_of
object_is flat version number count met line = by_formed flat version number count met (formed_parts line)

pub object_refused : (flat : FlatGraph) (version : Version) (number count met : ℕ) (line : List ℕ) (kind : DumpKind) → start_of version number met line ≡ Err kind
    → put_read flat (dues.Object version number count met) (line_due (dues.Object version number count met) line) ≡ Err kind
object_refused flat version number count met line kind e = object_is flat version number count met line ∙ ap (started flat version number count met) e

abbrev begun : FlatGraph → Shape → FlatGraph
begun flat shape = record flat { shapes = flat.shapes ++ shape ∷ [] }

put_by : (flat : FlatGraph) (version : Version) (number count met : ℕ) (shape : Shape) (read : Result (List Value) DumpKind) (new : FlatGraph) (next : ℕ)
    → ((vs : List Value) → read ≡ Ok vs → length vs ≡ shape.fields) → put_values (begun flat shape) met read ≡ Ok (new, next) → put_object flat version shape.raw number count met read ≡ Ok (new, object_due version (number + 1) count next)
put_by flat version number count met shape (Ok vs) new next long e =
    let p = ok_is (record flat { shapes = flat.shapes ++ shape ∷ []; values = flat.values ++ vs }, met_after met vs) (new, next) e in
    ap (λ (n : ℕ). Ok (record flat { shapes = flat.shapes ++ shape_of n shape.raw ∷ []; values = flat.values ++ vs }, object_due version (number + 1) count (met_after met vs))) (long vs refl)
    ∙ ap (λ (x : FlatGraph × ℕ). Ok (x.0, object_due version (number + 1) count x.1)) p
put_by flat version number count met shape (Err kind) new next long e = absurd cc

stop_by : (flat : FlatGraph) (version : Version) (number count met : ℕ) (shape : Shape) (read : Result (List Value) DumpKind) (kind : DumpKind)
    → put_values (begun flat shape) met read ≡ Err kind → put_object flat version shape.raw number count met read ≡ Err kind
stop_by flat version number count met shape (Ok vs) kind e = absurd cc
stop_by flat version number count met shape (Err j) kind e = cc

pub object_put : (flat : FlatGraph) (version : Version) (number count met : ℕ) (shape : Shape) (parts : List (List ℕ)) (line : List ℕ) (new : FlatGraph) (next : ℕ) → start_of version number met line ≡ Ok (shape, parts) → length parts ≡ shape.fields
    → put_values (begun flat shape) met (values_or_fault shape.raw count met parts) ≡ Ok (new, next)
    → put_read flat (dues.Object version number count met) (line_due (dues.Object version number count met) line) ≡ Ok (new, object_due version (number + 1) count next)
object_put flat version number count met shape parts line new next e long put =
    object_is flat version number count met line ∙ ap (started flat version number count met) e
    ∙ put_by flat version number count met shape (values_or_fault shape.raw count met parts) new next (λ vs is. length-values shape.raw count met parts vs is ∙ long) put

object_stop : (flat : FlatGraph) (version : Version) (number count met : ℕ) (shape : Shape) (parts : List (List ℕ)) (line : List ℕ) (kind : DumpKind) → start_of version number met line ≡ Ok (shape, parts)
    → put_values (begun flat shape) met (values_or_fault shape.raw count met parts) ≡ Err kind
    → put_read flat (dues.Object version number count met) (line_due (dues.Object version number count met) line) ≡ Err kind
object_stop flat version number count met shape parts line kind e put =
    object_is flat version number count met line ∙ ap (started flat version number count met) e ∙ stop_by flat version number count met shape (values_or_fault shape.raw count met parts) kind put

pub object_fails : (flat new : FlatGraph) (version : Version) (number count met : ℕ) (shape : Shape) (parts : List (List ℕ)) (line : List ℕ) (error : LineError) → start_of version number met line ≡ Ok (shape, parts)
    → Tells (λ (m : ℕ). (new, m)) (Err error) (put_values (begun flat shape) met (values_or_fault shape.raw count met parts))
    → Tells (λ (next : Due). (new, next)) (Err error) (put_read flat (dues.Object version number count met) (line_due (dues.Object version number count met) line))
object_fails flat new version number count met shape parts line (Kind kind) e h = object_stop flat version number count met shape parts line kind e h
object_fails flat new version number count met shape parts line OutOfMemory e h = tt

-- ---- a root's line

by_root : (flat : FlatGraph) (version : Version) (left : ℕ) (last : Option RootId) (met : ℕ) (r : Result (RootId × Value) DumpKind)
    → put_read flat (dues.Root version left last met) (r >>= λ root. Ok (root_line root.0 root.1)) ≡ (r >>= λ root. Ok (put_line flat (root_line root.0 root.1), root_due version left (Some root.0) (met_with met root.1)))
by_root flat version left last met (Ok root) = refl
by_root flat version left last met (Err kind) = refl

by_root_parts : (flat : FlatGraph) (version : Version) (left : ℕ) (last : Option RootId) (met : ℕ) (r : Result (List (List ℕ)) DumpKind)
    → put_read flat (dues.Root version left last met) (r >>= λ parts. root_of_parts last met parts >>= λ root. Ok (root_line root.0 root.1)) ≡ ((r >>= root_of_parts last met) >>= λ root. Ok (put_line flat (root_line root.0 root.1), root_due version left (Some root.0) (met_with met root.1)))
by_root_parts flat version left last met (Ok parts) = by_root flat version left last met (root_of_parts last met parts)
by_root_parts flat version left last met (Err kind) = refl

root_is : (flat : FlatGraph) (version : Version) (left : ℕ) (last : Option RootId) (met : ℕ) (line : List ℕ)
    → put_read flat (dues.Root version left last met) (line_due (dues.Root version left last met) line) ≡ (root_in last met line >>= λ root. Ok (put_line flat (root_line root.0 root.1), root_due version left (Some root.0) (met_with met root.1)))
unfolding line_due root_in
root_is flat version left last met line = by_root_parts flat version left last met (formed_parts line)

pub root_refused : (flat : FlatGraph) (version : Version) (left : ℕ) (last : Option RootId) (met : ℕ) (line : List ℕ) (kind : DumpKind) → Err kind ≡ root_in last met line
    → put_read flat (dues.Root version left last met) (line_due (dues.Root version left last met) line) ≡ Err kind
root_refused flat version left last met line kind e =
    root_is flat version left last met line ∙ ap (λ (r : Result (RootId × Value) DumpKind). r >>= λ root. Ok (put_line flat (root_line root.0 root.1), root_due version left (Some root.0) (met_with met root.1))) (sym e)

pub root_put : (flat : FlatGraph) (version : Version) (left : ℕ) (last : Option RootId) (met : ℕ) (line : List ℕ) (root : RootId) (value : Value) → Ok (root, value) ≡ root_in last met line
    → put_read flat (dues.Root version left last met) (line_due (dues.Root version left last met) line) ≡ Ok (put_line flat (root_line root value), root_due version left (Some root) (met_with met value))
root_put flat version left last met line root value e =
    root_is flat version left last met line ∙ ap (λ (r : Result (RootId × Value) DumpKind). r >>= λ root. Ok (put_line flat (root_line root.0 root.1), root_due version left (Some root.0) (met_with met root.1))) (sym e)

-- ---- the lines that put nothing

quiet : (flat : FlatGraph) (due : Due) (read : Result DumpLine DumpKind) → ((l : DumpLine) → read ≡ Ok l → put_line flat l ≡ flat)
    → Tells (λ (next : Due). (flat, next)) (with_fault Kind (due_read due read)) (put_read flat due read)
quiet flat due (Ok l) h = ap (λ (f : FlatGraph). Ok (f, due_after due l)) (h l refl)
quiet flat due (Err kind) h = refl

same_header : (flat : FlatGraph) (l : DumpLine) → Fits dues.Header l → put_line flat l ≡ flat
same_header flat (header_line version) f = refl
same_header flat l f = absurd f

same_roots : (flat : FlatGraph) (version : Version) (l : DumpLine) → Fits (dues.Roots version) l → put_line flat l ≡ flat
same_roots flat version (roots_line n) f = refl
same_roots flat version l f = absurd f

same_objects : (flat : FlatGraph) (version : Version) (met : ℕ) (l : DumpLine) → Fits (dues.Objects version met) l → put_line flat l ≡ flat
same_objects flat version met (objects_line n) f = refl
same_objects flat version met l f = absurd f

same_end : (flat : FlatGraph) (l : DumpLine) → Fits dues.End l → put_line flat l ≡ flat
same_end flat end_line f = refl
same_end flat l f = absurd f

pub header_put : (flat : FlatGraph) (line : List ℕ) → Tells (λ (next : Due). (flat, next)) (with_fault Kind (due_read dues.Header (line_due dues.Header line))) (put_read flat dues.Header (line_due dues.Header line))
header_put flat line = quiet flat dues.Header (line_due dues.Header line) (λ l e. same_header flat l (line_means dues.Header line l tt e).fits)

pub roots_put : (flat : FlatGraph) (version : Version) (line : List ℕ) → Tells (λ (next : Due). (flat, next)) (with_fault Kind (due_read (dues.Roots version) (line_due (dues.Roots version) line))) (put_read flat (dues.Roots version) (line_due (dues.Roots version) line))
roots_put flat version line = quiet flat (dues.Roots version) (line_due (dues.Roots version) line) (λ l e. same_roots flat version l (line_means (dues.Roots version) line l tt e).fits)

pub objects_put : (flat : FlatGraph) (version : Version) (met : ℕ) (line : List ℕ) → IsDue (dues.Objects version met) → Tells (λ (next : Due). (flat, next)) (with_fault Kind (due_read (dues.Objects version met) (line_due (dues.Objects version met) line))) (put_read flat (dues.Objects version met) (line_due (dues.Objects version met) line))
objects_put flat version met line is = quiet flat (dues.Objects version met) (line_due (dues.Objects version met) line) (λ l e. same_objects flat version met l (line_means (dues.Objects version met) line l is e).fits)

pub end_put : (flat : FlatGraph) (line : List ℕ) → Tells (λ (next : Due). (flat, next)) (with_fault Kind (due_read dues.End (line_due dues.End line))) (put_read flat dues.End (line_due dues.End line))
end_put flat line = quiet flat dues.End (line_due dues.End line) (λ l e. same_end flat l (line_means dues.End line l tt e).fits)

pub nothing_put : (flat : FlatGraph) (line : List ℕ) → put_read flat dues.Nothing (line_due dues.Nothing line) ≡ Err Trailing
unfolding line_due
nothing_put flat line = refl

-- ---- a raw line

by_limit : (t : Bool) (flat : FlatGraph) (due : Due) (rest : Result DumpLine DumpKind) → t ≡ true → put_read flat due (cond t (Err Long) rest) ≡ Err Long
by_limit true flat due rest is = refl
by_limit false flat due rest is = absurd cc

by_end : (t ended : Bool) (flat : FlatGraph) (due : Due) (rest : Result DumpLine DumpKind) → t ≡ false → ended ≡ false → put_read flat due (cond t (Err Long) (cond (not ended) (Err End) rest)) ≡ Err End
by_end true ended flat due rest is cut = absurd cc
by_end false true flat due rest is cut = absurd cc
by_end false false flat due rest is cut = refl

by_due : (t ended : Bool) (rest : Result DumpLine DumpKind) → t ≡ false → ended ≡ true → cond t (Err Long) (cond (not ended) (Err End) rest) ≡ rest
by_due true ended rest is whole = absurd cc
by_due false true rest is whole = refl
by_due false false rest is whole = absurd cc

pub raw_long : (limit end size : ℕ) (flat : FlatGraph) (due : Due) (raw : RawLine) → end ≡ size + length (raw_text raw) → limit < end → put_read flat due (line_or_kind limit due size raw) ≡ Err Long
unfolding line_or_kind
raw_long limit end size flat due raw is past =
    by_limit (ltb limit (size + length (raw_text raw))) flat due (cond (not raw.ended) (Err End) (line_due due raw.bytes)) (lt-ltb limit (size + length (raw_text raw)) (omega (arith, is, past)))

pub raw_cut : (limit end size : ℕ) (flat : FlatGraph) (due : Due) (raw : RawLine) → end ≡ size + length (raw_text raw) → end ≤ limit → raw.ended ≡ false → put_read flat due (line_or_kind limit due size raw) ≡ Err End
unfolding line_or_kind
raw_cut limit end size flat due raw is few cut =
    by_end (ltb limit (size + length (raw_text raw))) raw.ended flat due (line_due due raw.bytes) (le-ltb limit (size + length (raw_text raw)) (omega (arith, is, few))) cut

pub raw_whole : (limit end size : ℕ) (due : Due) (raw : RawLine) → end ≡ size + length (raw_text raw) → end ≤ limit → raw.ended ≡ true → line_or_kind limit due size raw ≡ line_due due raw.bytes
unfolding line_or_kind
raw_whole limit end size due raw is few whole =
    by_due (ltb limit (size + length (raw_text raw))) raw.ended (line_due due raw.bytes) (le-ltb limit (size + length (raw_text raw)) (omega (arith, is, few))) whole
