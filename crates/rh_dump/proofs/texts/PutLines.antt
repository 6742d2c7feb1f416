-- Lines read one after the other and put into a graph, as a loop does.
use Rattle.std.proofs.Common.{◌≡◌, ℕ, ◌+◌, ◌≤◌, List, [], ◌∷◌, ◌++◌, length, Result, Ok, Err, refl, sym, ap, subst, ◌∙◌, arith}
use Rattle.std.specs.Prelude.{fold}
use Rattle.std.proofs.lemmas.List.{length-append}
use Rattle.rh_text.specs.RawLine.{RawLine, lines_of, raw_text}
use Rattle.rh_text.specs.Steps.{◌>>=◌, with_fault}
use Rattle.rh_text.specs.lemmas.RawLines.{lines_text}
use Rattle.std.specs.List.{flat_map}
use Rattle.rh_layout.specs.Shape.{shape_of}
use Rattle.rh_model.specs.Plain.{PlainObject}
use Rattle.rh_dump.specs.Dump.{GraphState, IsGraph}
use Rattle.rh_dump.specs.Graph.{FlatGraph, graph_in, empty_flat, IsFilled}
use Rattle.rh_dump.specs.texts.Line.{DumpLine, header_line, roots_line, root_line, objects_line, object_line, end_line, due_after}
use Rattle.rh_dump.specs.texts.Reading.{line_or_kind, fault_at, end_or_fault, lines_from, with_line, graph_of, graph_within}
use Rattle.rh_dump.specs.texts.Putting.{put_line, put_read, put_lines, error_in, IsDue, Tells, Gives}
use Rattle.rh_dump.specs.declared.reading.read_error.DumpReadError.{DumpReadError}
use Rattle.rh_dump.specs.declared.reading.read_error.DumpReadError.TheVariants as errors
use Rattle.rh_dump.specs.declared.reading.read_error.LineError.{LineError}
use Rattle.rh_dump.specs.declared.reading.read_error.LineError.TheVariants.{Kind, OutOfMemory}
use Rattle.rh_dump.specs.declared.reading.due.Due.{Due}
use Rattle.rh_dump.specs.declared.reading.due.Due.TheVariants as dues
use Rattle.rh_dump.specs.declared.reading.fault.DumpKind.{DumpKind}
use Rattle.rh_dump.specs.declared.reading.fault.DumpFault.{DumpFault}
use Rattle.rh_dump.proofs.numbers.FlatDump.{objects_in-push, total_push}
use Rattle.rh_dump.proofs.texts.ReadIsSpelled.{raw_means, due_after_small, graph_within-means}

-- ---- one line

record IsRead (flat : FlatGraph) (due : Due) (read : Result DumpLine DumpKind) (new : FlatGraph) (next : Due) : Type 0 where
  line : DumpLine
  is : read ≡ Ok line
  put : put_line flat line ≡ new
  then_due : due_after due line ≡ next

ok_is : {A E : Type 0} (x y : A) → ◌≡◌ {A = Result A E} (Ok x) (Ok y) → x ≡ y
ok_is x y e = cc

read_is : (flat : FlatGraph) (due : Due) (read : Result DumpLine DumpKind) (new : FlatGraph) (next : Due) → put_read flat due read ≡ Ok (new, next) → IsRead flat due read new next
read_is flat due (Ok l) new next e =
    let p = ok_is (put_line flat l, due_after due l) (new, next) e in
    record { line = l; is = refl; put = ap (λ (x : FlatGraph × Due). x.0) p; then_due = ap (λ (x : FlatGraph × Due). x.1) p }
read_is flat due (Err kind) new next e = absurd cc

read_fails : (flat : FlatGraph) (due : Due) (read : Result DumpLine DumpKind) (kind : DumpKind) → put_read flat due read ≡ Err kind → read ≡ Err kind
read_fails flat due (Ok l) kind e = absurd cc
read_fails flat due (Err j) kind e = cc

regroup : (flat : FlatGraph) (line : DumpLine) (read : Result (List DumpLine) DumpFault) → put_lines (put_line flat line) read ≡ put_lines flat (read >>= λ lines. Ok (line ∷ lines))
regroup flat line (Ok lines) = refl
regroup flat line (Err fault) = refl

pub lines_next : (limit number size : ℕ) (flat new : FlatGraph) (due next : Due) (rest after : List ℕ) (raw : RawLine) → lines_of rest ≡ raw ∷ lines_of after
    → put_read flat due (line_or_kind limit due size raw) ≡ Ok (new, next)
    → put_lines new (lines_from limit next (number + 1) (size + length (raw_text raw)) (lines_of after)) ≡ put_lines flat (lines_from limit due number size (lines_of rest))
unfolding lines_from
lines_next limit number size flat new due next rest after raw is e =
    let r = read_is flat due (line_or_kind limit due size raw) new next e in
    let others : Due → Result (List DumpLine) DumpFault = λ d. lines_from limit d (number + 1) (size + length (raw_text raw)) (lines_of after) in
    let one : lines_from limit due number size (lines_of rest) ≡ (others (due_after due r.line) >>= λ lines. Ok (r.line ∷ lines)) =
    ap (lines_from limit due number size) is
    ∙ ap (λ (k : Result DumpLine DumpKind). with_fault (fault_at number) k >>= λ line. lines_from limit (due_after due line) (number + 1) (size + length (raw_text raw)) (lines_of after) >>= λ lines. Ok (line ∷ lines)) r.is in
    ap (λ (f : FlatGraph). put_lines f (others next)) (sym r.put)
    ∙ ap (λ (d : Due). put_lines (put_line flat r.line) (others d)) (sym r.then_due)
    ∙ regroup flat r.line (others (due_after due r.line))
    ∙ ap (put_lines flat) (sym one)

pub lines_stop : (limit number size : ℕ) (flat : FlatGraph) (due : Due) (rest after : List ℕ) (raw : RawLine) (kind : DumpKind) → lines_of rest ≡ raw ∷ lines_of after
    → put_read flat due (line_or_kind limit due size raw) ≡ Err kind
    → put_lines flat (lines_from limit due number size (lines_of rest)) ≡ Err (fault_at number kind)
unfolding lines_from
lines_stop limit number size flat due rest after raw kind is e =
    let one : lines_from limit due number size (lines_of rest) ≡ Err (fault_at number kind) =
    ap (lines_from limit due number size) is
    ∙ ap (λ (k : Result DumpLine DumpKind). with_fault (fault_at number) k >>= λ line. lines_from limit (due_after due line) (number + 1) (size + length (raw_text raw)) (lines_of after) >>= λ lines. Ok (line ∷ lines)) (read_fails flat due (line_or_kind limit due size raw) kind e) in
    ap (put_lines flat) one

pub lines_error : {X Z : Type 0} (v : X → FlatGraph × Due) (w : Z → FlatGraph) (limit number size : ℕ) (flat : FlatGraph) (due : Due) (rest after : List ℕ) (raw : RawLine) (error : LineError) (total : Result FlatGraph DumpFault)
    → lines_of rest ≡ raw ∷ lines_of after → Tells v (Err error) (put_read flat due (line_or_kind limit due size raw)) → put_lines flat (lines_from limit due number size (lines_of rest)) ≡ total
    → Gives w (Err (error_in number error)) total
lines_error v w limit number size flat due rest after raw (Kind kind) total is told so_far = sym so_far ∙ lines_stop limit number size flat due rest after raw kind is told
lines_error v w limit number size flat due rest after raw OutOfMemory total is told so_far = tt

pub lines_end : (limit number size : ℕ) (flat : FlatGraph) (due : Due) (rest : List ℕ) → rest ≡ [] → put_lines flat (lines_from limit due number size (lines_of rest)) ≡ put_lines flat (end_or_fault number due)
unfolding lines_from
lines_end limit number size flat due rest is = ap (λ (r : List ℕ). put_lines flat (lines_from limit due number size (lines_of r))) is

-- what the end of a text gives
pub lines_ended : (limit number size : ℕ) (flat : FlatGraph) (due : Due) (rest : List ℕ) (result : Result (Unit {0}) DumpReadError) (total : Result FlatGraph DumpFault)
    → rest ≡ [] → Gives (λ (u : Unit {0}). []) result (end_or_fault number due) → put_lines flat (lines_from limit due number size (lines_of rest)) ≡ total → Gives (λ (u : Unit {0}). flat) result total
lines_ended limit number size flat due rest (Ok u) total is e so_far = sym so_far ∙ lines_end limit number size flat due rest is ∙ ap (put_lines flat) e
lines_ended limit number size flat due rest (Err (errors.Fault fault)) total is e so_far = sym so_far ∙ lines_end limit number size flat due rest is ∙ ap (put_lines flat) e
lines_ended limit number size flat due rest (Err errors.Read) total is e so_far = absurd e
lines_ended limit number size flat due rest (Err errors.OutOfMemory) total is e so_far = tt

-- what is known after a line that was read
pub record GoesOn (limit : ℕ) (next : Due) (end : ℕ) : Type 0 where
  pub due : IsDue next
  pub within : end ≤ limit

pub goes_on : (limit size : ℕ) (flat new : FlatGraph) (due next : Due) (raw : RawLine) → IsDue due → put_read flat due (line_or_kind limit due size raw) ≡ Ok (new, next) → GoesOn limit next (size + length (raw_text raw))
goes_on limit size flat new due next raw is e =
    let r = read_is flat due (line_or_kind limit due size raw) new next e in
    let m = raw_means limit due size raw r.line is r.is in
    record { due = subst IsDue r.then_due (due_after_small due r.line is m.fits); within = m.within }

-- a raw line, its line end with it, and what stands after it
pub length-rest : (rest after : List ℕ) (raw : RawLine) → lines_of rest ≡ raw ∷ lines_of after → length rest ≡ length (raw_text raw) + length after
length-rest rest after raw is =
    let whole : rest ≡ raw_text raw ++ after = sym (lines_text rest) ∙ ap (flat_map raw_text) is ∙ ap (λ (t : List ℕ). raw_text raw ++ t) (lines_text after) in
    omega (arith, ap length whole, length-append (raw_text raw) after)

-- ---- the graph

filled-put : (flat : FlatGraph) (line : DumpLine) → IsFilled flat → IsFilled (put_line flat line)
filled-put flat (header_line version) h = h
filled-put flat (roots_line n) h = h
filled-put flat (root_line r v) h = h
filled-put flat (objects_line n) h = h
filled-put flat (object_line n object) h = omega (arith, total_push flat.shapes (shape_of (length object.fields) object.raw), length-append flat.values object.fields, h)
filled-put flat end_line h = h

graph_in-put : (flat : FlatGraph) (line : DumpLine) → IsFilled flat → graph_in (put_line flat line) ≡ with_line (graph_in flat) line
graph_in-put flat (header_line version) h = refl
graph_in-put flat (roots_line n) h = refl
graph_in-put flat (root_line r v) h = refl
graph_in-put flat (objects_line n) h = refl
graph_in-put flat (object_line n object) h =
    let made : List PlainObject → GraphState = λ os. record { roots = flat.roots; objects = os } in
    ap made (objects_in-push flat.shapes flat.values object h)
graph_in-put flat end_line h = refl

pub record PutAll (flat : FlatGraph) (lines : List DumpLine) : Type 0 where
  pub filled : IsFilled (fold put_line flat lines)
  pub graph : graph_in (fold put_line flat lines) ≡ fold with_line (graph_in flat) lines

put_all : (flat : FlatGraph) (lines : List DumpLine) → IsFilled flat → PutAll flat lines
put_all flat [] h = record { filled = h; graph = refl }
put_all flat (line ∷ lines) h =
    let others = put_all (put_line flat line) lines (filled-put flat line h) in
    record { filled = others.filled; graph = others.graph ∙ ap (λ (g : GraphState). fold with_line g lines) (graph_in-put flat line h) }

-- what was put together of a whole text
pub record IsWhole (limit : ℕ) (text : List ℕ) (flat : FlatGraph) : Type 0 where
  pub read : graph_within limit text ≡ Ok (graph_in flat)
  pub filled : IsFilled flat
  pub graph : IsGraph (graph_in flat)

record LinesRead (read : Result (List DumpLine) DumpFault) (flat : FlatGraph) : Type 0 where
  lines : List DumpLine
  is : read ≡ Ok lines
  put : fold put_line empty_flat lines ≡ flat

lines_read : (read : Result (List DumpLine) DumpFault) (flat : FlatGraph) → put_lines empty_flat read ≡ Ok flat → LinesRead read flat
lines_read (Ok lines) flat e = record { lines = lines; is = refl; put = ok_is (fold put_line empty_flat lines) flat e }
lines_read (Err fault) flat e = absurd cc

lines_fail : (read : Result (List DumpLine) DumpFault) (fault : DumpFault) → put_lines empty_flat read ≡ Err fault → read ≡ Err fault
lines_fail (Ok lines) fault e = absurd cc
lines_fail (Err f) fault e = cc

pub whole : (limit : ℕ) (text : List ℕ) (flat : FlatGraph) → put_lines empty_flat (lines_from limit dues.Header 1 0 (lines_of text)) ≡ Ok flat → IsWhole limit text flat
unfolding graph_within
whole limit text flat e =
    let r = lines_read (lines_from limit dues.Header 1 0 (lines_of text)) flat e in
    let all = put_all empty_flat r.lines refl in
    let graph : graph_of r.lines ≡ graph_in flat = sym all.graph ∙ ap graph_in r.put in
    let read : graph_within limit text ≡ Ok (graph_in flat) = ap (λ (ls : Result (List DumpLine) DumpFault). ls >>= λ lines. Ok (graph_of lines)) r.is ∙ ap (λ (g : GraphState). Ok g) graph in
    record { read = read; filled = subst IsFilled r.put all.filled; graph = (graph_within-means limit text (graph_in flat) read).0 }

pub whole_fails : (limit : ℕ) (text : List ℕ) (fault : DumpFault) → put_lines empty_flat (lines_from limit dues.Header 1 0 (lines_of text)) ≡ Err fault → graph_within limit text ≡ Err fault
unfolding graph_within
whole_fails limit text fault e =
    ap (λ (ls : Result (List DumpLine) DumpFault). ls >>= λ lines. Ok (graph_of lines)) (lines_fail (lines_from limit dues.Header 1 0 (lines_of text)) fault e)

pub whole_error : {X Z : Type 0} (v : X → FlatGraph) (w : Z → GraphState) (limit : ℕ) (text : List ℕ) (error : DumpReadError) → Gives v (Err error) (put_lines empty_flat (lines_from limit dues.Header 1 0 (lines_of text))) → Gives w (Err error) (graph_within limit text)
whole_error v w limit text (errors.Fault fault) e = whole_fails limit text fault e
whole_error v w limit text errors.Read e = absurd e
whole_error v w limit text errors.OutOfMemory e = tt
