-- What can't stand together is refused.
use Rattle.std.proofs.Common.{◌≡◌, ◌<◌, ℕ, zero, suc, List, [], ◌∷◌, Bool, true, false, if◌then◌else◌, Option, Some, None, Result, Ok, Err, codes, length, nat_lt, is_err, is_some, ap, subst, sym, refl, arith, ◌&&◌}
use Rattle.std.specs.Prelude.{Contains, slice_index_or, ⊤}
use Rattle.std.specs.List.{AllByRecursion}
use Rattle.std.specs.Str.{bytes_eq}
use Rattle.std.proofs.lemmas.Bool.{lt-ltb}
use Rattle.std.proofs.lemmas.Slice.Eq.{bytes_eq-Decides}
use Rattle.clap.specs.Words.{Row, Text}
use Rattle.rh_choices.specs.declared.limits.HeapWords.{HeapWords}
use Rattle.rh_command_line.specs.declared.ask.Subcommand.{Subcommand}
use Rattle.rh_command_line.specs.declared.fault.CommandLineFault.{CommandLineFault}
use Rattle.rh_command_line.specs.declared.fault.CommandLineFault.TheVariants as faults
use Rattle.rh_command_line.specs.Ask.{Given, command_and_file_in, command_asked, dump_asked, given_in, heap_words, is_given, is_set, lacks_file, output_texts, lisp_asked, lisp_with, once, run_given, stands_in, steps_given, with_file}
use Rattle.rh_command_line.specs.Table.{Argument, CommandState, command_with, dump_arguments, lisp_arguments, replay_arguments, run_arguments, table}

-- ---- lists

at_place : {X : Type 0} (P : X → Type 0) (xs : List X) → AllByRecursion P xs → (x : X) (k : ℕ) → k < length xs → slice_index_or xs k x ≡ x → P x
at_place P [] all x k below is = absurd (omega arith)
at_place P (y ∷ ys) all x zero below is = subst P is all.0
at_place P (y ∷ ys) all x (suc k) below is = at_place P ys all.1 x k (omega arith) is

-- what holds of each element holds of one
of_each : {X : Type 0} (P : X → Type 0) (xs : List X) → AllByRecursion P xs → (x : X) → Contains xs x → P x
of_each P xs all x contained = at_place P xs all x contained.0 contained.1 contained.2

-- ---- the reader, of values

abbrev Asked : Type 0
Asked = Result Subcommand CommandLineFault

late : (events views crossed : Bool) (named : Asked) → is_err named ≡ true → is_err (if events then Err faults.Events else (if views then Err faults.Views else (if crossed then Err faults.Crossed else named))) ≡ true
late true views crossed named is = refl
late false true crossed named is = refl
late false false true named is = refl
late false false false named is = is

mark_alone : (mark grow : Option Text) (is_paced : Bool) → is_some mark ≡ true → is_paced ≡ false → is_err (run_given is_paced mark grow) ≡ true
mark_alone None grow is_paced given unpaced = absurd cc
mark_alone (Some mark) None false given unpaced = refl
mark_alone (Some mark) (Some grow) false given unpaced = refl
mark_alone (Some mark) grow true given unpaced = absurd cc

grow_alone : (mark grow : Option Text) (is_paced : Bool) → is_some grow ≡ true → is_paced ≡ false → is_err (run_given is_paced mark grow) ≡ true
grow_alone mark None is_paced given unpaced = absurd cc
grow_alone None (Some grow) false given unpaced = refl
grow_alone (Some mark) (Some grow) false given unpaced = refl
grow_alone mark (Some grow) true given unpaced = absurd cc

mark_and_grow : (mark grow : Option Text) (is_paced : Bool) → is_some mark ≡ true → is_some grow ≡ true → is_err (run_given is_paced mark grow) ≡ true
mark_and_grow None grow is_paced given other = absurd cc
mark_and_grow (Some mark) None is_paced given other = absurd cc
mark_and_grow (Some mark) (Some grow) is_paced given other = refl

heap_and_grow : (heap grow steps cycles file : Option Text) → is_some heap ≡ true → is_some grow ≡ true → is_err (lisp_asked heap grow steps cycles file) ≡ true
heap_and_grow None grow steps cycles file given other = absurd cc
heap_and_grow (Some heap) None steps cycles file given other = absurd cc
heap_and_grow (Some heap) (Some grow) steps cycles file given other = refl

session_with : (cycles file : Option Text) (heap : Option HeapWords) (steps : Option ℕ) → is_some cycles ≡ true → is_some file ≡ false → is_err (lisp_with cycles file heap steps) ≡ true
session_with cycles file None steps given none = refl
session_with cycles file (Some heap) None given none = refl
session_with None file (Some heap) (Some steps) given none = absurd cc
session_with (Some cycles) None (Some heap) (Some steps) given none = refl
session_with (Some cycles) (Some file) (Some heap) (Some steps) given none = absurd cc

session_cycles : (heap grow steps cycles file : Option Text) → is_some cycles ≡ true → is_some file ≡ false → is_err (lisp_asked heap grow steps cycles file) ≡ true
session_cycles heap grow steps cycles file given none = session_with cycles file (heap_words heap grow) (steps_given steps) given none

-- more than one text for standard output
told_twice : (events : Bool) (texts : ℕ) (rest : Asked) → 1 < texts → is_err (if events then Err faults.Events else (if nat_lt 1 texts then Err faults.Views else rest)) ≡ true
told_twice true texts rest many = refl
told_twice false texts rest many = rw (lt-ltb 1 texts many) refl

-- trace events without a file
without_cycles : (events : Bool) (cycles : Option Text) (rest : Asked) → events ≡ true → is_some cycles ≡ false → is_err (if lacks_file events cycles then Err faults.Events else rest) ≡ true
without_cycles true None rest there none = refl
without_cycles true (Some out) rest there none = absurd cc
without_cycles false cycles rest there none = absurd cc

-- ---- each row of the table

-- this command is refused where an argument is given, and another is or isn't
abbrev RefusesPair : CommandState → Bool → Argument → Text → Type 0
RefusesPair command other argument name = (given : Given) → is_given command.arguments argument.rule.id given ≡ true → is_given command.arguments name given ≡ other
    → is_err (command_asked command.name given) ≡ true

abbrev RefusesAlone : CommandState → Type 0
RefusesAlone command = AllByRecursion (λ (argument : Argument). AllByRecursion (RefusesPair command false argument) argument.needs) command.arguments

abbrev RefusesBoth : CommandState → Type 0
RefusesBoth command = AllByRecursion (λ (argument : Argument). AllByRecursion (RefusesPair command true argument) argument.not_with) command.arguments

mark_needs_paced : (given : Given) → is_some (given (codes "mark")) ≡ true → is_set (given (codes "paced")) ≡ false → is_err (command_asked (codes "run") given) ≡ true
mark_needs_paced given there none = late _ _ _ _ (mark_alone (given (codes "mark")) (given (codes "grow")) (is_set (given (codes "paced"))) there none)

grow_needs_paced : (given : Given) → is_some (given (codes "grow")) ≡ true → is_set (given (codes "paced")) ≡ false → is_err (command_asked (codes "run") given) ≡ true
grow_needs_paced given there none = late _ _ _ _ (grow_alone (given (codes "mark")) (given (codes "grow")) (is_set (given (codes "paced"))) there none)

cycles_need_file : (given : Given) → is_some (given (codes "cycles")) ≡ true → is_some (given (codes "FILE")) ≡ false → is_err (command_asked (codes "lisp") given) ≡ true
cycles_need_file given there none = late _ _ _ _ (session_cycles (given (codes "heap")) (given (codes "grow")) (given (codes "steps")) (given (codes "cycles")) (given (codes "FILE")) there none)

events_need_cycles : (name : Text) (given : Given) → is_set (given (codes "trace-events")) ≡ true → is_some (given (codes "cycles")) ≡ false → is_err (command_asked name given) ≡ true
events_need_cycles name given there none = without_cycles (is_set (given (codes "trace-events"))) (given (codes "cycles")) _ there none

mark_not_with_grow : (given : Given) → is_some (given (codes "mark")) ≡ true → is_some (given (codes "grow")) ≡ true → is_err (command_asked (codes "run") given) ≡ true
mark_not_with_grow given there other = late _ _ _ _ (mark_and_grow (given (codes "mark")) (given (codes "grow")) (is_set (given (codes "paced"))) there other)

heap_not_with_grow : (given : Given) → is_some (given (codes "heap")) ≡ true → is_some (given (codes "grow")) ≡ true → is_err (command_asked (codes "lisp") given) ≡ true
heap_not_with_grow given there other = late _ _ _ _ (heap_and_grow (given (codes "heap")) (given (codes "grow")) (given (codes "steps")) (given (codes "cycles")) (given (codes "FILE")) there other)

echo_not_with_json : (name : Text) (given : Given) → is_set (given (codes "echo")) ≡ true → is_set (given (codes "json")) ≡ true → is_err (command_asked name given) ≡ true
echo_not_with_json name given there other =
    let echo : once (is_set (given (codes "echo"))) ≡ 1 = ap once there in
    let json : once (is_set (given (codes "json"))) ≡ 1 = ap once other in
    told_twice _ (output_texts given) _ (omega arith)

dot_not_with_json : (name : Text) (given : Given) → is_set (given (codes "dot")) ≡ true → is_set (given (codes "json")) ≡ true → is_err (command_asked name given) ≡ true
dot_not_with_json name given there other =
    let dot : once (is_set (given (codes "dot"))) ≡ 1 = ap once there in
    let json : once (is_set (given (codes "json"))) ≡ 1 = ap once other in
    told_twice _ (output_texts given) _ (omega arith)

-- ---- the forms of a dump

snapshot_and_dot : (dot json : Bool) (snapshot why : Option Text) → is_some snapshot ≡ true → dot ≡ true → is_err (dump_asked dot json snapshot why) ≡ true
snapshot_and_dot false false None None given other = absurd cc
snapshot_and_dot false false None (Some object) given other = absurd cc
snapshot_and_dot false false (Some out) None given other = absurd cc
snapshot_and_dot false false (Some out) (Some object) given other = absurd cc
snapshot_and_dot false true None None given other = absurd cc
snapshot_and_dot false true None (Some object) given other = absurd cc
snapshot_and_dot false true (Some out) None given other = absurd cc
snapshot_and_dot false true (Some out) (Some object) given other = absurd cc
snapshot_and_dot true false None None given other = absurd cc
snapshot_and_dot true false None (Some object) given other = absurd cc
snapshot_and_dot true false (Some out) None given other = refl
snapshot_and_dot true false (Some out) (Some object) given other = refl
snapshot_and_dot true true None None given other = absurd cc
snapshot_and_dot true true None (Some object) given other = absurd cc
snapshot_and_dot true true (Some out) None given other = refl
snapshot_and_dot true true (Some out) (Some object) given other = refl

snapshot_not_with_dot : (given : Given) → is_some (given (codes "heapsnapshot")) ≡ true → is_set (given (codes "dot")) ≡ true → is_err (command_asked (codes "dump") given) ≡ true
snapshot_not_with_dot given there other = late _ _ _ _ (snapshot_and_dot (is_set (given (codes "dot"))) (is_set (given (codes "json"))) (given (codes "heapsnapshot")) (given (codes "why")) there other)

snapshot_and_json : (dot json : Bool) (snapshot why : Option Text) → is_some snapshot ≡ true → json ≡ true → is_err (dump_asked dot json snapshot why) ≡ true
snapshot_and_json false false None None given other = absurd cc
snapshot_and_json false false None (Some object) given other = absurd cc
snapshot_and_json false false (Some out) None given other = absurd cc
snapshot_and_json false false (Some out) (Some object) given other = absurd cc
snapshot_and_json false true None None given other = absurd cc
snapshot_and_json false true None (Some object) given other = absurd cc
snapshot_and_json false true (Some out) None given other = refl
snapshot_and_json false true (Some out) (Some object) given other = refl
snapshot_and_json true false None None given other = absurd cc
snapshot_and_json true false None (Some object) given other = absurd cc
snapshot_and_json true false (Some out) None given other = absurd cc
snapshot_and_json true false (Some out) (Some object) given other = absurd cc
snapshot_and_json true true None None given other = absurd cc
snapshot_and_json true true None (Some object) given other = absurd cc
snapshot_and_json true true (Some out) None given other = refl
snapshot_and_json true true (Some out) (Some object) given other = refl

snapshot_not_with_json : (given : Given) → is_some (given (codes "heapsnapshot")) ≡ true → is_set (given (codes "json")) ≡ true → is_err (command_asked (codes "dump") given) ≡ true
snapshot_not_with_json given there other = late _ _ _ _ (snapshot_and_json (is_set (given (codes "dot"))) (is_set (given (codes "json"))) (given (codes "heapsnapshot")) (given (codes "why")) there other)

why_and_dot : (dot json : Bool) (snapshot why : Option Text) → is_some why ≡ true → dot ≡ true → is_err (dump_asked dot json snapshot why) ≡ true
why_and_dot false false None None given other = absurd cc
why_and_dot false false None (Some object) given other = absurd cc
why_and_dot false false (Some out) None given other = absurd cc
why_and_dot false false (Some out) (Some object) given other = absurd cc
why_and_dot false true None None given other = absurd cc
why_and_dot false true None (Some object) given other = absurd cc
why_and_dot false true (Some out) None given other = absurd cc
why_and_dot false true (Some out) (Some object) given other = absurd cc
why_and_dot true false None None given other = absurd cc
why_and_dot true false None (Some object) given other = refl
why_and_dot true false (Some out) None given other = absurd cc
why_and_dot true false (Some out) (Some object) given other = refl
why_and_dot true true None None given other = absurd cc
why_and_dot true true None (Some object) given other = refl
why_and_dot true true (Some out) None given other = absurd cc
why_and_dot true true (Some out) (Some object) given other = refl

why_not_with_dot : (given : Given) → is_some (given (codes "why")) ≡ true → is_set (given (codes "dot")) ≡ true → is_err (command_asked (codes "dump") given) ≡ true
why_not_with_dot given there other = late _ _ _ _ (why_and_dot (is_set (given (codes "dot"))) (is_set (given (codes "json"))) (given (codes "heapsnapshot")) (given (codes "why")) there other)

why_and_snapshot : (dot json : Bool) (snapshot why : Option Text) → is_some why ≡ true → is_some snapshot ≡ true → is_err (dump_asked dot json snapshot why) ≡ true
why_and_snapshot false false None None given other = absurd cc
why_and_snapshot false false None (Some object) given other = absurd cc
why_and_snapshot false false (Some out) None given other = absurd cc
why_and_snapshot false false (Some out) (Some object) given other = refl
why_and_snapshot false true None None given other = absurd cc
why_and_snapshot false true None (Some object) given other = absurd cc
why_and_snapshot false true (Some out) None given other = absurd cc
why_and_snapshot false true (Some out) (Some object) given other = refl
why_and_snapshot true false None None given other = absurd cc
why_and_snapshot true false None (Some object) given other = absurd cc
why_and_snapshot true false (Some out) None given other = absurd cc
why_and_snapshot true false (Some out) (Some object) given other = refl
why_and_snapshot true true None None given other = absurd cc
why_and_snapshot true true None (Some object) given other = absurd cc
why_and_snapshot true true (Some out) None given other = absurd cc
why_and_snapshot true true (Some out) (Some object) given other = refl

why_not_with_snapshot : (given : Given) → is_some (given (codes "why")) ≡ true → is_some (given (codes "heapsnapshot")) ≡ true → is_err (command_asked (codes "dump") given) ≡ true
why_not_with_snapshot given there other = late _ _ _ _ (why_and_snapshot (is_set (given (codes "dot"))) (is_set (given (codes "json"))) (given (codes "heapsnapshot")) (given (codes "why")) there other)

why_and_json : (dot json : Bool) (snapshot why : Option Text) → is_some why ≡ true → json ≡ true → is_err (dump_asked dot json snapshot why) ≡ true
why_and_json false false None None given other = absurd cc
why_and_json false false None (Some object) given other = absurd cc
why_and_json false false (Some out) None given other = absurd cc
why_and_json false false (Some out) (Some object) given other = absurd cc
why_and_json false true None None given other = absurd cc
why_and_json false true None (Some object) given other = refl
why_and_json false true (Some out) None given other = absurd cc
why_and_json false true (Some out) (Some object) given other = refl
why_and_json true false None None given other = absurd cc
why_and_json true false None (Some object) given other = absurd cc
why_and_json true false (Some out) None given other = absurd cc
why_and_json true false (Some out) (Some object) given other = absurd cc
why_and_json true true None None given other = absurd cc
why_and_json true true None (Some object) given other = refl
why_and_json true true (Some out) None given other = absurd cc
why_and_json true true (Some out) (Some object) given other = refl

why_not_with_json : (given : Given) → is_some (given (codes "why")) ≡ true → is_set (given (codes "json")) ≡ true → is_err (command_asked (codes "dump") given) ≡ true
why_not_with_json given there other = late _ _ _ _ (why_and_json (is_set (given (codes "dot"))) (is_set (given (codes "json"))) (given (codes "heapsnapshot")) (given (codes "why")) there other)

abbrev four_free : ⊤ × (⊤ × (⊤ × (⊤ × ⊤)))
four_free = (tt, (tt, (tt, (tt, tt))))

rows_alone : AllByRecursion RefusesAlone table
rows_alone =
    let run : RefusesAlone (command_with (codes "run") run_arguments) = (tt, (tt, (tt, ((mark_needs_paced, tt), ((grow_needs_paced, tt), (tt, ((events_need_cycles (codes "run"), tt), (tt, (tt, (tt, tt)))))))))) in
    let lisp : RefusesAlone (command_with (codes "lisp") lisp_arguments) = (tt, (tt, (tt, (tt, ((cycles_need_file, tt), ((events_need_cycles (codes "lisp"), tt), (tt, tt))))))) in
    (run, (four_free, (four_free, ((tt, (tt, four_free)), ((tt, (tt, (tt, tt))), (tt, (lisp, ((tt, tt), tt))))))))

rows_both : AllByRecursion RefusesBoth table
rows_both =
    let run : RefusesBoth (command_with (codes "run") run_arguments) =
    (tt, (tt, (tt, ((mark_not_with_grow, tt), (tt, (tt, (tt, (tt, ((echo_not_with_json (codes "run"), tt), (tt, tt)))))))))) in
    let replay : RefusesBoth (command_with (codes "replay") replay_arguments) = (tt, (tt, ((echo_not_with_json (codes "replay"), tt), (tt, tt)))) in
    let dump : RefusesBoth (command_with (codes "dump") dump_arguments) =
    (tt, (tt, ((dot_not_with_json (codes "dump"), tt), ((snapshot_not_with_dot, (snapshot_not_with_json, tt)), ((why_not_with_dot, (why_not_with_snapshot, (why_not_with_json, tt))), (tt, tt)))))) in
    let lisp : RefusesBoth (command_with (codes "lisp") lisp_arguments) = (tt, ((heap_not_with_grow, tt), (tt, four_free))) in
    (run, (four_free, (replay, (dump, ((tt, (tt, (tt, tt))), (tt, (lisp, ((tt, tt), tt))))))))

-- ---- lines

filed : (asked : Asked) (file : Option Text) → is_err asked ≡ true → is_err (with_file asked file) ≡ true
filed (Err fault) file is = refl
filed (Ok command) file is = absurd cc

first_holds : (one other : Bool) → one && other ≡ true → one ≡ true
first_holds true other is = refl
first_holds false other is = is

second_is : (one other value : Bool) → one ≡ true → one && other ≡ value → other ≡ value
second_is true other value is both = both
second_is false other value is both = absurd cc

refused_named : (name : Text) (command : CommandState) (given : Given) (file : Option Text) → bytes_eq name command.name ≡ true → is_err (command_asked command.name given) ≡ true
    → is_err (with_file (command_asked name given) file) ≡ true
refused_named name command given file same refused =
    filed (command_asked name given) file (subst (λ (n : Text). is_err (command_asked n given) ≡ true) (sym ((bytes_eq-Decides name command.name).0 same)) refused)

-- a parse that holds an argument, and another or not
refused : (found : Option (Text × List Row)) (command : CommandState) (argument : Argument) (name : Text) (other : Bool) → RefusesPair command other argument name
    → stands_in found command argument.rule.id ≡ true → stands_in found command name ≡ other → is_err (command_and_file_in found) ≡ true
refused None command argument name other refuses there is = absurd cc
refused (Some found) command argument name other refuses there is =
    let same = first_holds (bytes_eq found.0 command.name) _ there in
    refused_named found.0 command (given_in found.1) _ same (refuses (given_in found.1) (second_is (bytes_eq found.0 command.name) _ true same there) (second_is (bytes_eq found.0 command.name) _ other same is))

-- a parse that holds an argument without one that it needs is refused
pub stands_alone : (found : Option (Text × List Row)) (command : CommandState) (argument : Argument) (name : Text) → Contains table command → Contains command.arguments argument
    → Contains argument.needs name → stands_in found command argument.rule.id ≡ true → stands_in found command name ≡ false → is_err (command_and_file_in found) ≡ true
stands_alone found command argument name of_table of_command of_needs =
    let arguments = of_each RefusesAlone table rows_alone command of_table in
    let names = of_each (λ (row : Argument). AllByRecursion (RefusesPair command false row) row.needs) command.arguments arguments argument of_command in
    refused found command argument name false (of_each (RefusesPair command false argument) argument.needs names name of_needs)

-- and one that holds two that don't stand together
pub stand_both : (found : Option (Text × List Row)) (command : CommandState) (argument : Argument) (name : Text) → Contains table command → Contains command.arguments argument
    → Contains argument.not_with name → stands_in found command argument.rule.id ≡ true → stands_in found command name ≡ true → is_err (command_and_file_in found) ≡ true
stand_both found command argument name of_table of_command of_not_with =
    let arguments = of_each RefusesBoth table rows_both command of_table in
    let names = of_each (λ (row : Argument). AllByRecursion (RefusesPair command true row) row.not_with) command.arguments arguments argument of_command in
    refused found command argument name true (of_each (RefusesPair command true argument) argument.not_with names name of_not_with)
