use Rattle.std.proofs.Common.{◌∙◌, ap}
use Rattle.rh_engine.specs.Trays.{tray_of, named_trays, trays_with}
use Rattle.rh_engine.proofs.NamedTrays.{named_trays-insert_entry}
use Rattle.rh_engine.proofs.trays.Trays.put.Goals as goal

pub returns-in-Ok-clause-put : goal.returns-in-Ok-clause-put
returns-in-Ok-clause-put g c =
    ap named_trays c.in-Ok.ensures.entries
    ∙ named_trays-insert_entry c.self.inside.replicas.entries c.args.name c.args.replica
    ∙ ap (λ ts. trays_with ts c.args.name (tray_of c.args.replica)) c.self.view_is
