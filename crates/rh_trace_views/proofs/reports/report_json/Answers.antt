use Rattle.std.proofs.Common.{◌≡◌, ◌++◌, List, ℕ, sym, ap, ◌∙◌, arith, add-one}
use Rattle.rh_trace_views.specs.Json.{json_owner, json_owners, json_verdict}
use Rattle.rh_trace_views.proofs.reports.report_json.Goals as goal

pub loop-owner-preserved : goal.loop-owner-preserved
loop-owner-preserved g c =
    let calls = c.calls-calls.result.now in
    let l = c.loop-owner in
    c.in_ok-put_owner.ensures ∙ ap (λ (t : List ℕ). t ++ json_owner l.owner c.count_of.result) l.invariant
    ∙ ap (λ (n : ℕ). json_owners calls l.owner ++ json_owner l.owner n) c.count_of.ensures ∙ ap (json_owners calls) (sym (add-one l.owner))

pub returns : goal.returns
returns g c =
    let h = c.args.history.now.contents in
    let last = json_verdict c.args.verdict.now in
    let end : c.loop-owner.owner ≡ c.owners-owners.result = omega (arith, c.loop-owner-test.false, c.loop-owner.auto.owner-end) in
    c.in_ok-put_verdict.ensures ∙ ap (λ (t : List ℕ). t ++ last) (c.loop-owner.invariant ∙ ap (json_owners c.calls-calls.result.now) (end ∙ c.owners-owners.ensures.value))
    ∙ ap (λ cs. json_owners cs h.owners ++ last) c.calls-calls.ensures.calls
