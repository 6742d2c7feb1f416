use Rattle.rheap_c.proofs.Runs.{AreMade-plain}
use Rattle.rheap_c.proofs.laws.runs.no_program_in_c_sees_that_the_heap_collects.Goals as goal

pub returns : goal.returns
returns c = record {
  told = λ s new calls answers p made stands. (AreMade-plain s new calls answers p made stands).0;
  stands = λ s new calls answers p made stands. (AreMade-plain s new calls answers p made stands).1;
}
