use Rattle.std.proofs.Common.{ap, sym, is_some, ◌∙◌}
use Rattle.rh_lisp_run.specs.Cycling.{LinesState, ended_lines}
use Rattle.rh_lisp_run.proofs.CycleLines.{lost-written, put-line, tell-cut, tell-none, tell-refused, tell-whole}
use Rattle.rh_lisp_run.proofs.cycle_writer.CycleWriter.tell.Goals as goal

pub returns-then-is_some : goal.returns-then-is_some
returns-then-is_some g c = lost-written c.args.self.now (ended_lines c.args.ended) (sym (ap (λ (l : LinesState). l.lost) c.self.view_is) ∙ (sym c.is_some.ensures ∙ c.if-is_some.true))

pub returns-in-None : goal.returns-in-None
returns-in-None g c = tell-none (g.W.Write.contents c.self.inside.writer) (is_some c.self.inside.loss) c.args.self.now c.args.ended c.self.view_is (sym c.is_some.ensures ∙ c.if-is_some.false) c.in-None.is

pub returns-then-is_err : goal.returns-then-is_err
returns-then-is_err g c = tell-refused (g.W.Write.contents c.self.inside.writer) (is_some c.self.inside.loss) c.args.self.now (ended_lines c.args.ended) c.self.view_is (sym c.is_some.ensures ∙ c.if-is_some.false)

pub returns-in-Ok : goal.returns-in-Ok
returns-in-Ok g c =
    let line = put-line c.put_cycle.result c.put_cycle.new.text.items c.clear.new.self.items c.in-Some.cycle c.args.ended (sym c.is_err.ensures.value ∙ c.if-is_err.false) c.put_cycle.ensures.line c.clear.ensures.items c.in-Some.is in
    tell-whole (g.W.Write.contents c.self.inside.writer) (g.W.Write.contents c.write.new.writer) (is_some c.self.inside.loss) c.args.self.now c.deref.result.now (ended_lines c.args.ended) c.self.view_is (sym c.is_some.ensures ∙ c.if-is_some.false) (c.deref.ensures.value ∙ line) c.in-Ok.ensures.written

pub returns-in-Err : goal.returns-in-Err
returns-in-Err g c =
    let line = put-line c.put_cycle.result c.put_cycle.new.text.items c.clear.new.self.items c.in-Some.cycle c.args.ended (sym c.is_err.ensures.value ∙ c.if-is_err.false) c.put_cycle.ensures.line c.clear.ensures.items c.in-Some.is in
    tell-cut (g.W.Write.contents c.self.inside.writer) (g.W.Write.contents c.write.new.writer) (is_some c.self.inside.loss) c.args.self.now c.deref.result.now (ended_lines c.args.ended) c.self.view_is (sym c.is_some.ensures ∙ c.if-is_some.false) (c.deref.ensures.value ∙ line) c.in-Err.ensures.less
