use Rattle.std.proofs.Common.{◌≡◌, ◌∙◌, ap, ap₂, codes, true}
use Rattle.std.proofs.lemmas.Result.{IfOk-weaker}
use Rattle.clap.specs.Words.{App, Shape, app_of, new_app}
use Rattle.clap.specs.Simple.{app_of_fields, on_top}
use Rattle.rh_command_line.specs.Table.{rheap_top, with_commands}
use Rattle.rh_command_line.proofs.commands.command_line.Goals as goal

abbrev versioned : App → App
versioned = on_top (λ (s : Shape). record s { has_version = true })

abbrev needing_command : App → App
needing_command = on_top (λ (s : Shape). record s { subcommand_required = true })

pub returns : goal.returns
returns c =
    let new_is : app_of c.about.result ≡ new_app (codes "rheap") = ap app_of_fields c.about.ensures ∙ c.new.ensures.app in
    let versioned_is : app_of c.version.result ≡ versioned (new_app (codes "rheap")) = ap app_of_fields c.version.ensures ∙ ap versioned new_is in
    let required_is : app_of c.subcommand_required.result ≡ rheap_top = ap app_of_fields c.subcommand_required.ensures ∙ ap needing_command versioned_is in
    let top_is : app_of c.in_ok-program.program ≡ rheap_top = ap app_of_fields c.in_ok-program.ensures.0 ∙ required_is in
    IfOk-weaker c.with_commands.result _ _
    (λ r added. added ∙ ap₂ (with_commands c.args.word.now) top_is c.commands.ensures) c.with_commands.ensures
