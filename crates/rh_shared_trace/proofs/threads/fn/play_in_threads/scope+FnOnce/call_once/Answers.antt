use Rattle.rh_shared_trace.proofs.threads.fn.play_in_threads.scope+FnOnce.call_once.Goals as goal

-- what the closure asks of its types is what its call asks
pub scope-requires : goal.scope-requires
scope-requires g c =
    let asked = c.requires.1.1 in
    (asked.1.0, (asked.1.1, (asked.1.2, asked.0)))
