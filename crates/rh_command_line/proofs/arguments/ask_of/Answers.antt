use Rattle.std.proofs.Common.{◌≡◌, ◌∙◌, ap, codes, sym, Err}
use Rattle.std.proofs.lemmas.Result.{err_from_is_err_and}
use Rattle.rh_command_line.specs.Ask.{file_or_input, given_of, is_set, with_file}
use Rattle.rh_command_line.proofs.ClapMatches.{command_and_file_in-matches, explains_in-matches, out_in-matches, viewed_in-matches}
use Rattle.rh_command_line.proofs.arguments.ask_of.Goals as goal

pub returns-in_err-subcommand-clause-none : goal.returns-in_err-subcommand-clause-none
returns-in_err-subcommand-clause-none c =
    let values = c.in-Some.values.now in
    let e = command_and_file_in-matches c.args.matches.now c.in-Some.name.now values c.in-Some.ensures.name c.in-Some.ensures.rows in
    let named = ap (λ r. with_file r (given_of values (codes "FILE"))) (sym c.in_err-subcommand.ensures.asked) in
    let p = err_from_is_err_and c.from_residual.result c.from_residual.ensures.1 in
    rw p.1 (e ∙ named ∙ ap Err (sym p.2))

pub returns-clause-found : goal.returns-clause-found
returns-clause-found c =
    let values = c.in-Some.values.now in
    let e = command_and_file_in-matches c.args.matches.now c.in-Some.name.now values c.in-Some.ensures.name c.in-Some.ensures.rows in
    let file_is : c.file_or_input.result.now ≡ file_or_input (given_of values (codes "FILE")) = c.file_or_input.ensures ∙ ap file_or_input c.get_str.ensures in
    rw file_is (e ∙ ap (λ r. with_file r (given_of values (codes "FILE"))) (sym c.in_ok-subcommand.ensures.asked))

pub returns-clause-explained : goal.returns-clause-explained
returns-clause-explained c =
    explains_in-matches c.args.matches.now c.in-Some.name.now c.in-Some.values.now c.in-Some.ensures.name c.in-Some.ensures.rows
    ∙ ap is_set (sym c.get_str-2.ensures) ∙ sym c.is_set.ensures

pub returns-clause-written : goal.returns-clause-written
returns-clause-written c =
    out_in-matches c.args.matches.now c.in-Some.name.now c.in-Some.values.now c.in-Some.ensures.name c.in-Some.ensures.rows ∙ sym c.get_str-3.ensures

pub returns-clause-viewed : goal.returns-clause-viewed
returns-clause-viewed c =
    viewed_in-matches c.args.matches.now c.in-Some.name.now c.in-Some.values.now c.in-Some.ensures.name c.in-Some.ensures.rows ∙ c.views_of.ensures
