use Rattle.std.proofs.Common.{arith, ap}
use Rattle.rh_model.proofs.PlainAsDefined.{kind-read, kind-past}
use Rattle.rh_model.proofs.plain.Plain.raw.Goals as goal

pub returns-then-position-len : goal.returns-then-position-len
returns-then-position-len g c =
    kind-read (λ o. (o.raw, o.fields.items)) c.args.self.now c.self.inside.objects.items (ap (λ p. p.objects) c.self.view_is) c.args.position c.index.result.now
    (omega (arith, c.if-position-len.true, c.len.ensures, c.self.inside.objects.ok.0)) c.index.ensures

pub returns-else-position-len : goal.returns-else-position-len
returns-else-position-len g c =
    kind-past (λ o. (o.raw, o.fields.items)) c.args.self.now c.self.inside.objects.items (ap (λ p. p.objects) c.self.view_is) c.args.position
    (omega (arith, c.if-position-len.false, c.len.ensures, c.self.inside.objects.ok.0))
