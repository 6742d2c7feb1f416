use Rattle.std.proofs.Common.{◌≡◌, ℕ, ◌-◌, ◌+◌, sym, subst, arith}
use Rattle.std.proofs.lemmas.Bool.{true≢false}
use Rattle.uses.specs.Renewal.{Renews}
use Rattle.uses.proofs.Renewed.{is_accepted, next-left, renews_on}
use Rattle.uses.proofs.renewal.renew.Goals as goal

pub loop-init : goal.loop-init
loop-init g c = λ renews.
    let all : c.args.rounds ≡ c.args.rounds - 0 = omega arith in
    subst (λ (n : ℕ). Renews n c.args.heap.now) all renews

pub returns-in_err-alloc : goal.returns-in_err-alloc
returns-in_err-alloc g c = λ renews.
    let left = next-left c.args.rounds c.loop.counter c.loop.heap c.loop-test.true (c.loop.invariant renews) in
    absurd (true≢false (sym (is_accepted (c.args.rounds - (c.loop.counter + 1)) _ _ _ c.in_err-alloc.ensures left)))

pub loop-preserved : goal.loop-preserved
loop-preserved g c = λ renews.
    let left = next-left c.args.rounds c.loop.counter c.loop.heap c.loop-test.true (c.loop.invariant renews) in
    renews_on (c.args.rounds - (c.loop.counter + 1)) _ _ _ c.in_ok-alloc.ensures left
