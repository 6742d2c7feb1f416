use Rattle.rh_trace_views.proofs.noted.NotedListener.end.Goals as goal

pub returns-in-Some-clause-counted : goal.returns-in-Some-clause-counted
returns-in-Some-clause-counted g c = c.write_history_logged.ensures.counted
