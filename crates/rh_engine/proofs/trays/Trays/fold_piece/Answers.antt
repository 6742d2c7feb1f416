use Rattle.std.proofs.Common.{◌∙◌, ap, sym, unwrap_or}
use Rattle.std.proofs.lemmas.Result.{on_ok_weaker, on_err_weaker}
use Rattle.rh_engine.specs.Trays.{tray_of, tray_with, trays_with, empty_tray, named_trays}
use Rattle.rh_engine.proofs.SetTrays.{tray_named-none, tray_named-some, named_trays-written, named_trays-kept}
use Rattle.rh_engine.proofs.trays.Trays.fold_piece.Goals as goal

pub fold_into_replica-requires : goal.fold_into_replica-requires
fold_into_replica-requires g c =
    let found = tray_named-some c.args.self.now c.self.inside.replicas.entries c.args.name c.in-Some.replica.now c.self.view_is c.in-Some.ensures.value in
    ap (λ f. (unwrap_or f (empty_tray c.args.piece.now.epoch)).epoch) (sym found) ∙ c.requires

pub returns-in-Some-clause-folded : goal.returns-in-Some-clause-folded
returns-in-Some-clause-folded g c =
    let trays = c.args.self.now in
    let es = c.self.inside.replicas.entries in
    let old = c.in-Some.replica.now in
    let new = c.fold_into_replica.new.replica in
    let found = tray_named-some trays es c.args.name old c.self.view_is c.in-Some.ensures.value in
    let written = named_trays-written trays es c.args.name old c.self.view_is c.in-Some.ensures.value (c.get_mut.follows.lender new).entries new (c.get_mut.follows.holds new).0 in
    on_ok_weaker c.fold_into_replica.result
    (λ folded. written ∙ ap (trays_with trays c.args.name)
    (folded ∙ ap (λ f. tray_with (unwrap_or f (empty_tray c.args.piece.now.epoch)) c.args.piece.now.items) (sym found)))
    c.fold_into_replica.ensures.folded

pub returns-in-Some-clause-unchanged : goal.returns-in-Some-clause-unchanged
returns-in-Some-clause-unchanged g c =
    let trays = c.args.self.now in
    let es = c.self.inside.replicas.entries in
    let old = c.in-Some.replica.now in
    let new = c.fold_into_replica.new.replica in
    on_err_weaker c.fold_into_replica.result
    (named_trays-kept trays es c.args.name old c.self.view_is c.in-Some.ensures.value (c.get_mut.follows.lender new).entries new (c.get_mut.follows.holds new).0)
    c.fold_into_replica.ensures.unchanged

pub returns-in_ok-fold_into_replica-in-None-clause-folded :
    goal.returns-in_ok-fold_into_replica-in-None-clause-folded
returns-in_ok-fold_into_replica-in-None-clause-folded g c =
    let trays = c.args.self.now in
    let items = c.args.piece.now.items in
    let replica = c.fold_into_replica-in-None.new.replica in
    let none = tray_named-none trays c.self.inside.replicas.entries c.args.name c.self.view_is c.in-None.ensures.value in
    let kept = ap (λ m. named_trays m.entries) c.get_mut.follows.holds-at-none ∙ c.self.view_is in
    on_ok_weaker c.put.result
    (λ put. put
    ∙ ap (λ ts. trays_with ts c.args.name (tray_of replica)) kept
    ∙ ap (trays_with trays c.args.name)
    (c.in_ok-fold_into_replica-in-None.ensures.folded
    ∙ ap (λ r. tray_with (tray_of r) items) c.empty-replica.ensures
    ∙ ap (λ n. tray_with (empty_tray n) items) c.epoch.ensures
    ∙ ap (λ f. tray_with (unwrap_or f (empty_tray c.args.piece.now.epoch)) items) (sym none)))
    c.put.ensures.put
