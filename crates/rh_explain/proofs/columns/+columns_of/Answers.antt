use Rattle.std.proofs.Common.{◌≡◌, ℕ, suc, ◌+◌, ◌-◌, ◌≤◌, length, refl, sym, subst, arith}
use Rattle.rh_explain.specs.Explain.{IsPartAt}
use Rattle.rh_explain.proofs.PartColumns.{length_is, first_at, later_at, only_at, gone_at}
use Rattle.rh_explain.proofs.columns.+columns_of.Goals as goal

pub returns-then-index-eq0-clause-within : goal.returns-then-index-eq0-clause-within
returns-then-index-eq0-clause-within t c = (omega arith, omega (arith, length_is c.args.line.now c.in-Some.part.now c.in-Some.after.now c.in-Some.ensures))

pub returns-then-index-eq0-clause-part : goal.returns-then-index-eq0-clause-part
returns-then-index-eq0-clause-part t c =
    subst (λ (i : ℕ). IsPartAt c.args.line.now i 0 (length c.in-Some.part.now)) (sym c.if-index-eq0.true) (first_at c.args.line.now c.in-Some.part.now c.in-Some.after.now c.in-Some.ensures)

pub returns-then-index-eq0-2-clause-part : goal.returns-then-index-eq0-2-clause-part
returns-then-index-eq0-2-clause-part t c =
    subst (λ (i : ℕ). IsPartAt c.args.line.now i 0 (length c.args.line.now)) (sym c.if-index-eq0-2.true) (only_at c.args.line.now c.in-None.ensures)

pub returns-else-index-eq0-clause-within : goal.returns-else-index-eq0-clause-within
returns-else-index-eq0-clause-within t c =
    let within = c.columns_of-begins.ensures.within in
    (omega (arith, within.0), omega (arith, within.1, length_is c.args.line.now c.in-Some.part.now c.in-Some.after.now c.in-Some.ensures))

pub returns-else-index-eq0-clause-part : goal.returns-else-index-eq0-clause-part
returns-else-index-eq0-clause-part t c =
    let line = c.args.line.now in
    let first = c.in-Some.part.now in
    let rest = c.in-Some.after.now in
    let begins = c.columns_of-begins.result.0 in
    let ends = c.columns_of-begins.result.1 in
    let within = c.columns_of-begins.ensures.within in
    let index : suc (c.args.index - 1) ≡ c.args.index = omega (arith, c.if-index-eq0.false) in
    let low : begins ≤ length rest = omega (arith, within.0, within.1) in
    subst (λ (i : ℕ). IsPartAt line i (length first + 1 + begins) (length first + 1 + ends)) index
    (later_at line first rest c.in-Some.ensures (c.args.index - 1) begins ends (length first + 1) refl low within.1 c.columns_of-begins.ensures.part)

pub returns-else-index-eq0-2-clause-part : goal.returns-else-index-eq0-2-clause-part
returns-else-index-eq0-2-clause-part t c = gone_at c.args.line.now c.in-None.ensures c.args.index (omega (arith, c.if-index-eq0-2.false))
