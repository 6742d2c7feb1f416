use Rattle.std.proofs.Common.{ap, ◌∙◌, Option}
use Rattle.rh_cycles.specs.declared.cycle.Cycle.{Cycle}
use Rattle.rh_cycles.specs.Heaps.{CyclesState, after_step}
use Rattle.rh_pace.specs.Paced.{PacedState}
use Rattle.rh_lisp_run.specs.Cycling.{LinesState, ended_lines, written_by}
use Rattle.rh_lisp_run.specs.declared.cycling.Cycling.{Cycling}
use Rattle.rh_lisp_run.proofs.cycling.CyclingCommandHeap.answer.Goals as goal

pub returns : goal.returns
returns g c =
    let Kept : Type 0 = Cycling g.row.H.Denot g.row.A.Denot g.row.W.Denot in
    let put = λ (h : g.row.H.Denot) (r : CyclesState) (l : LinesState). (let kept : Kept = record { heap = h; cycles = r; lines = l } in kept) in
    let old = c.args.self.now in
    let paced = g.H.CollectingHeap.paced in
    let answered = c.answer-answer.ensures in
    let told = c.tell.ensures in
    let heap = c.answer-answer.new.self in
    let state = ap (λ (r : CyclesState). put heap r c.tell.new.self) (c.after-ended.ensures.state ∙ ap (λ (p : PacedState). (after_step old.cycles p).0) c.paced.ensures) in
    let lines = told.1 ∙ ap (λ (e : Option Cycle). written_by told.0 old.lines (ended_lines e)) (c.after-ended.ensures.told ∙ ap (λ (p : PacedState). (after_step old.cycles p).1) c.paced.ensures) in
    let both = ap (λ (l : LinesState). put heap (after_step old.cycles (paced heap)).0 l) lines in
    let all =
    ap (λ (h : g.row.H.Denot). put h (after_step old.cycles (paced h)).0 (written_by told.0 old.lines (ended_lines (after_step old.cycles (paced h)).1))) answered.1 in
    ((answered.0, told.0), state ∙ both ∙ all, answered.2)
