use Rattle.rheap_c.proofs.fixed.root_rows.insist_store.Goals as goal

pub returns : goal.returns
returns c = c.insist.ensures c.args.heap.now c.store-tried.ensures
