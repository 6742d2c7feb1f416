use Rattle.std.proofs.Common.{◌≡◌, ◌<◌, length, sym, ap, subst, ◌∙◌, arith}
use Rattle.std.specs.Prelude.{Some, None, slice_get}
use Rattle.std.proofs.lemmas.Option.{slice_get_within}
use Rattle.rh_dump.specs.Numbering.{names_after}
use Rattle.rh_dump.specs.Dumpable.{IsDumpable}
use Rattle.rh_dump.specs.Meeting.{NumberingState}
use Rattle.rh_dump.proofs.numbers.NumberingSteps.{objects-next, names_after-below, names_after-longer, last_number}
use Rattle.rh_dump.proofs.numbering.Numbering.put_objects.Goals as goal

pub loop-name-init : goal.loop-name-init
loop-name-init g c = record { state = c.requires.roots; within = omega arith }

pub put_object-requires-clause-dumpable : goal.put_object-requires-clause-dumpable
put_object-requires-clause-dumpable g c =
    subst (λ n. IsDumpable n (g.H.ObjectGraph.graph c.args.heap.now)) (sym (ap (λ (s : NumberingState). s.limit) c.loop-name.invariant.state)) c.requires.dumpable

pub overflow_add-number : goal.overflow_add-number
overflow_add-number g c =
    let graph = g.H.ObjectGraph.graph c.args.heap.now in
    let below = names_after-below c.args.self.now.limit graph c.requires.dumpable c.loop-name.number in
    omega (arith, below, c.loop-name.invariant.within, c.requires.dumpable.few)

pub loop-name-preserved : goal.loop-name-preserved
loop-name-preserved g c =
    let graph = g.H.ObjectGraph.graph c.args.heap.now in
    let there : slice_get (names_after graph c.loop-name.number) c.loop-name.number ≡ Some c.in-Some.name =
    sym (c.in-Some.ensures ∙ ap (λ (s : NumberingState). slice_get s.names c.loop-name.number) c.loop-name.invariant.state) in
    record {
      state = objects-next c.args.self.now.limit graph c.loop-name.self c.put_object.new.self c.loop-name.number c.in-Some.name c.loop-name.invariant.state c.in-Some.ensures c.in_ok-put_object.ensures;
      within = names_after-longer graph c.loop-name.number c.in-Some.name there;
    }

pub loop-name-smaller : goal.loop-name-smaller
loop-name-smaller g c =
    let graph = g.H.ObjectGraph.graph c.args.heap.now in
    let there : slice_get (names_after graph c.loop-name.number) c.loop-name.number ≡ Some c.in-Some.name =
    sym (c.in-Some.ensures ∙ ap (λ (s : NumberingState). slice_get s.names c.loop-name.number) c.loop-name.invariant.state) in
    let within : c.loop-name.number < length (names_after graph c.loop-name.number) = slice_get_within (names_after graph c.loop-name.number) c.loop-name.number c.in-Some.name there in
    omega (arith, within, names_after-below c.args.self.now.limit graph c.requires.dumpable c.loop-name.number)

pub returns : goal.returns
returns g c =
    let graph = g.H.ObjectGraph.graph c.args.heap.now in
    let none : slice_get (names_after graph c.loop-name.number) c.loop-name.number ≡ None =
    sym (c.in_default.ensures ∙ ap (λ (s : NumberingState). slice_get s.names c.loop-name.number) c.loop-name.invariant.state) in
    let done = last_number (names_after graph c.loop-name.number) c.loop-name.number c.loop-name.invariant.within none in
    (c.loop-name.number, omega (arith, c.loop-name.invariant.within, names_after-below c.args.self.now.limit graph c.requires.dumpable c.loop-name.number), done, c.loop-name.invariant.state)
