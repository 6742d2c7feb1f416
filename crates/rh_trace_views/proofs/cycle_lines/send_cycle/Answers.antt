use Rattle.std.proofs.Common.{◌≡◌, ◌++◌, List, ℕ, Option, ap, subst, sym, ◌∙◌}
use Rattle.std.proofs.lemmas.List.{append-nil}
use Rattle.std.proofs.lemmas.Result.{err_from_is_err_and}
use Rattle.rh_text.specs.Output.{AppendsLess}
use Rattle.rh_cycles.specs.declared.cycle.Cycle.{Cycle}
use Rattle.rh_cycles.specs.Cycles.{told_cycles}
use Rattle.rh_cycles.specs.Line.{cycle_line}
use Rattle.rh_trace_views.specs.Cycles.{cycle_lines}
use Rattle.rh_trace_views.proofs.cycle_lines.send_cycle.Goals as goal

pub returns-in_err-send-in-Some-clause-shown : goal.returns-in_err-send-in-Some-clause-shown
returns-in_err-send-in-Some-clause-shown g c =
    let known = g.C.Write.contents in
    let line = cycle_line c.in-Some.cycle in
    let p = err_from_is_err_and c.from_residual-in_err-send-in-Some.result c.from_residual-in_err-send-in-Some.ensures.1 in
    let is : c.deref.result.now ≡ cycle_lines (told_cycles c.args.ended) =
    c.deref.ensures.value ∙ c.in_ok-put_cycle-in-Some.ensures.line ∙ ap (λ (t : List ℕ). t ++ line) c.clear.ensures.items ∙ sym (append-nil line)
    ∙ ap (λ (e : Option Cycle). cycle_lines (told_cycles e)) (sym c.in-Some.is) in
    let cut = subst (AppendsLess (known c.args.cycles.now) (known c.send.new.writer)) is c.in_err-send-in-Some.ensures.err in
    rw p.1 (cut.0, cut.1, cut.2, cut.4)
