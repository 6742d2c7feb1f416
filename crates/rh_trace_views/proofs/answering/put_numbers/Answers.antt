use Rattle.std.proofs.Common.{◌++◌, Bool, ap, sym, ◌∙◌}
use Rattle.rh_core.specs.declared.stat.Stat.{Stat}
use Rattle.rh_core.specs.Stat.{stat_of}
use Rattle.rh_trace.specs.Answers as answers
use Rattle.rh_trace_views.specs.Views.{json_stat, told_text}
use Rattle.rh_trace_views.proofs.answering.put_numbers.Goals as goal

pub returns-then-structured : goal.returns-then-structured
returns-then-structured g c =
    let old = c.args.told.now.items in
    c.in_ok-put_json_stat.ensures ∙ ap (λ (x : Stat). old ++ json_stat x) c.stat-stat.ensures.numbers
    ∙ ap (λ (b : Bool). old ++ told_text b (answers.Numbers (stat_of c.args.heap.now))) (sym c.if-structured.true)
