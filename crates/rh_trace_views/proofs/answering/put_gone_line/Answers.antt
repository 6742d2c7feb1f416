use Rattle.std.proofs.Common.{◌≡◌, ℕ, List, ◌++◌, OnOk, subst, ◌∙◌}
use Rattle.rh_trace_views.proofs.answering.put_gone_line.Goals as goal

pub returns : goal.returns
returns g c = subst (λ (text : List ℕ). OnOk c.put.result (c.put.new.text.items ≡ c.args.told.now.items ++ text)) (c.deref.ensures.value ∙ c.in_ok-line.ensures) c.put.ensures
