use Rattle.std.proofs.Common.{◌∙◌, ap, sym, slice_get}
use Rattle.std.specs.Option.{option_map}
use Rattle.rh_engine.proofs.NamedTrays.{named, slice_get-named}
use Rattle.rh_engine.proofs.trays.Trays.tray.Goals as goal

pub returns-in-Some : goal.returns-in-Some
returns-in-Some g c =
    ap (option_map named) c.in-Some.ensures.entry
    ∙ sym (slice_get-named c.self.inside.replicas.entries c.args.i)
    ∙ ap (λ ts. slice_get ts c.args.i) c.self.view_is

pub returns-in-None : goal.returns-in-None
returns-in-None g c =
    ap (option_map named) c.in-None.ensures.entry
    ∙ sym (slice_get-named c.self.inside.replicas.entries c.args.i)
    ∙ ap (λ ts. slice_get ts c.args.i) c.self.view_is
