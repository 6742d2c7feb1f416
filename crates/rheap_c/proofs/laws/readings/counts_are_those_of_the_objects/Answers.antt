use Rattle.std.proofs.Common.{ℕ, Result, ap}
use Rattle.rh_layout.specs.declared.refusal.Refusal.{Refusal}
use Rattle.rheap_c.specs.Read.{count_status, count_told}
use Rattle.rheap_c.specs.Runs.{Answer, with_count}
use Rattle.rheap_c.proofs.Readings.{count_in-absent, count_in-nil, count_in-number, count_in-object}
use Rattle.rheap_c.proofs.laws.readings.counts_are_those_of_the_objects.Goals as goal

-- a count as it is told
abbrev counted : Result ℕ Refusal → Answer
counted count = with_count (count_status count) (count_told count)

pub returns : goal.returns
returns c = record {
  object = λ s root a fields there holds has. ap counted (count_in-object s root a fields there holds has);
  nil = λ s root there holds. ap counted (count_in-nil s root there holds);
  number = λ s root number there holds. ap counted (count_in-number s root number there holds);
  absent = λ s root absent. ap counted (count_in-absent s root absent);
}
