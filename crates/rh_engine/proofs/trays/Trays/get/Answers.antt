use Rattle.std.proofs.Common.{◌∙◌, ap, sym}
use Rattle.std.specs.Option.{option_map}
use Rattle.std.specs.Str.{bytes_eq}
use Rattle.rh_engine.specs.Trays.{tray_of, tray_named}
use Rattle.rh_engine.proofs.NamedTrays.{lookup-named, tray_of-copied}
use Rattle.rh_engine.proofs.trays.Trays.get.Goals as goal

pub returns : goal.returns
returns g c =
    tray_of-copied c.get.result
    ∙ ap (option_map tray_of) c.get.ensures.value
    ∙ sym (lookup-named (bytes_eq c.args.name) c.self.inside.replicas.entries)
    ∙ ap (λ ts. tray_named ts c.args.name) c.self.view_is
