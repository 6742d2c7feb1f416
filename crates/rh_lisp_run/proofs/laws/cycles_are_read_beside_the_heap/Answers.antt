use Rattle.std.proofs.Common.{[], length, refl}
use Rattle.rh_machine.specs.Machine.{answerer_of, answers_to, program_of}
use Rattle.rh_machine.specs.Registers.{asks, hears}
use Rattle.rh_lisp_run.specs.Cycling.{read_from}
use Rattle.rh_lisp_run.proofs.InTurn.{all-in-turn, as_many, few_answers}
use Rattle.rh_lisp_run.proofs.ReadHeaps.{answers-read, heap-read}
use Rattle.rh_lisp_run.proofs.laws.cycles_are_read_beside_the_heap.Goals as goal

pub returns-clause-heap : goal.returns-clause-heap
returns-clause-heap g c = λ paced step given n machine s. heap-read paced step asks hears given machine n (read_from paced s) []

pub returns-clause-answers : goal.returns-clause-answers
returns-clause-answers g c = λ paced step given n machine s. answers-read paced step asks hears given machine n (read_from paced s) []

pub returns-clause-in_turn : goal.returns-clause-in_turn
returns-clause-in_turn g c = λ paced step given n machine s few.
    let answered = answers_to step asks hears given n machine s in
    let most = few_answers (answerer_of step asks hears given machine) (program_of asks hears machine) n s few in
    let same = answers-read paced step asks hears given machine n (read_from paced s) [] in
    all-in-turn paced step asks hears given machine (length answered) most n (read_from paced s) (as_many _ answered same) refl refl
