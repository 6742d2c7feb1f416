use Rattle.rh_shared.proofs.call_laws.limits_refuse_only_what_they_can.Goals as goal

pub returns-clause-space : goal.returns-clause-space
returns-clause-space c = λ owner need free command comes.
    let limit = comes.answers.1 in (limit.0, limit.1, limit.2, limit.3, limit.5)

pub returns-clause-log : goal.returns-clause-log
returns-clause-log c = λ owner command comes. comes.answers.1.0

pub returns-clause-numbers : goal.returns-clause-numbers
returns-clause-numbers c = λ owner command comes. comes.answers.1.0
