use Rattle.std.proofs.Common.{◌≡◌, ◌∷◌, [], ◌-◌, ◌≤◌, length, get_or, take, true, refl, sym, ◌∙◌, arith}
use Rattle.std.proofs.lemmas.Bool.{eqb-true}
use Rattle.std.proofs.lemmas.List.{take_more}
use Rattle.rh_explain.proofs.Bytes.{leads_more, viable, viable_before, all_lead, ill_here, ill_at_end}
use Rattle.rh_explain.proofs.finding.ill_formed.Goals as goal

pub loop-index-preserved : goal.loop-index-preserved
loop-index-preserved c =
    let line = c.args.line.now in
    let i = c.loop-index.index in
    let may = sym c.may_follow.ensures ∙ c.if-not-may_follow.false in
    rw (take_more line i 0 c.loop-index-test.true) (leads_more true c.loop-index.is_part_empty (take i line) (get_or line i 0) c.loop-index.invariant may)

pub returns-then-not-may_follow-clause-place : goal.returns-then-not-may_follow-clause-place
returns-then-not-may_follow-clause-place c =
    let line = c.args.line.now in
    let i = c.loop-index.index in
    let to = c.loop-index.is_part_empty in
    record {
      before = (97 ∷ [], viable to (take i line) c.loop-index.invariant);
      after = λ other e. ill_here line other i 0 to c.loop-index-test.true c.loop-index.invariant (sym c.may_follow.ensures ∙ c.if-not-may_follow.true) e;
    }

pub returns-then-is_empty-clause-place : goal.returns-then-is_empty-clause-place
returns-then-is_empty-clause-place c =
    let line = c.args.line.now in
    let to = c.loop-index.is_part_empty in
    let past : length line ≤ c.loop-index.index = omega (arith, c.loop-index-test.false, c.loop-index.auto.index-end) in
    let leads = all_lead line to c.loop-index.index past c.loop-index.invariant in
    let empty : length line ≡ 0 = eqb-true (length line) 0 (sym c.is_empty.ensures ∙ c.if-is_empty.true) in
    record {
      before = (97 ∷ [], viable_before line to 0 leads);
      after = λ other e. ill_at_end line other to 0 (sym empty) c.requires leads e;
    }

pub returns-clause-place : goal.returns-clause-place
returns-clause-place c =
    let line = c.args.line.now in
    let to = c.loop-index.is_part_empty in
    let past : length line ≤ c.loop-index.index = omega (arith, c.loop-index-test.false, c.loop-index.auto.index-end) in
    let leads = all_lead line to c.loop-index.index past c.loop-index.invariant in
    record {
      before = (97 ∷ [], viable_before line to (length line - 1) leads);
      after = λ other e. ill_at_end line other to (length line) refl c.requires leads e;
    }
