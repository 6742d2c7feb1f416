use Rattle.rheap_c.proofs.Runs.{AreMade-run, AreMade-doing, AreMade-none, AreMade-between}
use Rattle.rheap_c.proofs.laws.runs.calls_make_one_run.Goals as goal

pub returns : goal.returns
returns c = record {
  heap = λ s new calls answers made. (AreMade-run s new calls answers made).0;
  between = λ s new calls answers made k. AreMade-between k s new calls answers made;
  answers = λ s new calls answers made. (AreMade-run s new calls answers made).1;
  commands = AreMade-doing;
  none = AreMade-none;
}
