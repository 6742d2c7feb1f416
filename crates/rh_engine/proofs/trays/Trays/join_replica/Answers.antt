use Rattle.std.proofs.Common.{◌∙◌, ap, sym, length, ◌≡◌, IfOk, subst}
use Rattle.std.proofs.lemmas.Result.{on_ok_weaker, on_err_weaker}
use Rattle.rh_engine.specs.Trays.{tray_of, trays_with, joined_into, named_trays}
use Rattle.rh_engine.proofs.SetTrays.{tray_named-none, tray_named-some, named_trays-written, named_trays-kept}
use Rattle.rh_engine.proofs.trays.Trays.join_replica.Goals as goal

pub returns-in-Some-clause-state : goal.returns-in-Some-clause-state
returns-in-Some-clause-state g c =
    let trays = c.args.self.now in
    let es = c.self.inside.replicas.entries in
    let old = c.in-Some.first.now in
    let new = c.join_into_replica.new.first in
    let found = tray_named-some trays es c.args.into old c.self.view_is c.in-Some.ensures.value in
    let written = named_trays-written trays es c.args.into old c.self.view_is c.in-Some.ensures.value (c.get_mut.follows.lender new).entries new (c.get_mut.follows.holds new).0 in
    on_ok_weaker c.join_into_replica.result
    (λ joined. written ∙ ap (trays_with trays c.args.into) (joined ∙ ap (λ f. joined_into f (tray_of c.args.second)) (sym found)))
    c.join_into_replica.ensures.joined

pub returns-in-Some-clause-answer : goal.returns-in-Some-clause-answer
returns-in-Some-clause-answer g c =
    let found = tray_named-some c.args.self.now c.self.inside.replicas.entries c.args.into c.in-Some.first.now c.self.view_is c.in-Some.ensures.value in
    subst (λ f. IfOk c.join_into_replica.result (λ entries. entries ≡ length (joined_into f (tray_of c.args.second)).entries)) (sym found) c.join_into_replica.ensures.answer

pub returns-in-Some-clause-unchanged : goal.returns-in-Some-clause-unchanged
returns-in-Some-clause-unchanged g c =
    let new = c.join_into_replica.new.first in
    on_err_weaker c.join_into_replica.result
    (named_trays-kept c.args.self.now c.self.inside.replicas.entries c.args.into c.in-Some.first.now c.self.view_is c.in-Some.ensures.value (c.get_mut.follows.lender new).entries new (c.get_mut.follows.holds new).0)
    c.join_into_replica.ensures.unchanged

pub returns-in_ok-put-in-None-clause-state : goal.returns-in_ok-put-in-None-clause-state
returns-in_ok-put-in-None-clause-state g c =
    let trays = c.args.self.now in
    let second = tray_of c.args.second in
    let none = tray_named-none trays c.self.inside.replicas.entries c.args.into c.self.view_is c.in-None.ensures.value in
    let kept = ap (λ m. named_trays m.entries) c.get_mut.follows.holds-at-none ∙ c.self.view_is in
    c.in_ok-put-in-None.ensures.put
    ∙ ap (λ ts. trays_with ts c.args.into second) kept
    ∙ ap (λ f. trays_with trays c.args.into (joined_into f second)) (sym none)

pub returns-in_ok-put-in-None-clause-answer : goal.returns-in_ok-put-in-None-clause-answer
returns-in_ok-put-in-None-clause-answer g c =
    let none = tray_named-none c.args.self.now c.self.inside.replicas.entries c.args.into c.self.view_is c.in-None.ensures.value in
    c.len-entries.ensures.len ∙ ap (λ f. length (joined_into f (tray_of c.args.second)).entries) (sym none)
