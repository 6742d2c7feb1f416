use Rattle.std.proofs.Common.{Ok, Err, ap, map, ◌≡◌, ◌∙◌}
use Rattle.clap.specs.Words.{app_of}
use Rattle.rh_command_line.specs.Table.{rheap_app, rheap_app_for}
use Rattle.rh_command_line.proofs.ClapMatches.{command_and_file_of-matches, explains_of-matches, out_of-matches, viewed_of-matches, fails_by_error_kinds, taken-app, told_of_clap}
use Rattle.rh_command_line.proofs.arguments.matches_of.Goals as goal

pub returns-in-Ok : goal.returns-in-Ok
returns-in-Ok c =
    let is : app_of c.in_ok-command.command ≡ rheap_app (map (λ a. a.now) c.args.arguments.now) = c.in_ok-command.ensures ∙ ap rheap_app_for c.first_word.ensures in
    record {
      held = command_and_file_of-matches _ _ c.in-Ok.matches is c.in-Ok.ensures.matches;
      explained = explains_of-matches _ _ c.in-Ok.matches is c.in-Ok.ensures.matches;
      written = out_of-matches _ _ c.in-Ok.matches is c.in-Ok.ensures.matches;
      viewed = viewed_of-matches _ _ c.in-Ok.matches is c.in-Ok.ensures.matches;
      taken = fails_by_error_kinds _ _ (Ok c.in-Ok.matches) is c.in-Ok.ensures.kinds;
      refused = tt;
      told = tt;
    }

pub returns-in-Err : goal.returns-in-Err
returns-in-Err c =
    let is : app_of c.in_ok-command.command ≡ rheap_app (map (λ a. a.now) c.args.arguments.now) = c.in_ok-command.ensures ∙ ap rheap_app_for c.first_word.ensures in
    record {
      held = tt;
      explained = tt;
      written = tt;
      viewed = tt;
      taken = tt;
      refused = λ taken. c.error_of.ensures.memory (c.in-Err.ensures.passes (taken-app _ _ is taken));
      told = told_of_clap _ _ c.error_of.result (fails_by_error_kinds {T = Unit {0}} _ _ (Err c.in-Err.error) is c.in-Err.ensures.kinds) c.error_of.ensures.memory c.error_of.ensures.told;
    }
