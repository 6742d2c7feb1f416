use Rattle.std.proofs.Common.{Some}
use Rattle.rheap_c_traces.proofs.paced.run_text.Goals as goal

pub returns-clause-told : goal.returns-clause-told
returns-clause-told c = c.a_paced_run_ends_as_its_input_says.ensures c.args.mark c.args.trace.now c.run_bytes.result (Some c.args.text.now.items) (Some c.run_bytes.new.out.items) c.run_bytes.ensures.told
