use Rattle.std.proofs.Common.{sym}
use Rattle.rh_shared.proofs.KeptCalls.{call-full, ends-accepted, ends-limited, ends-refused, meets-follows}
use Rattle.rh_shared.proofs.call_laws.a_call_is_noted_unless_a_limit_refused_it.Goals as goal

pub returns-clause-full : goal.returns-clause-full
returns-clause-full g c = λ r k owner command full. sym (call-full r k owner command full)

pub returns-clause-accepted : goal.returns-clause-accepted
returns-clause-accepted g c = λ r k owner command room reply told. ends-accepted r k owner command reply room told

pub returns-clause-meets : goal.returns-clause-meets
returns-clause-meets g c = λ r k owner command room reply told meets. meets-follows r k owner command reply room told meets

pub returns-clause-refused : goal.returns-clause-refused
returns-clause-refused g c = λ r k owner command room refusal told limited.
    ends-refused r k owner command refusal room told (c.refused_commands_change_nothing.ensures k.collector.heap owner command refusal told) limited

pub returns-clause-limited : goal.returns-clause-limited
returns-clause-limited g c = λ r k owner command room refusal told limited.
    ends-limited r k owner command refusal room told (c.refused_commands_change_nothing.ensures k.collector.heap owner command refusal told) limited
