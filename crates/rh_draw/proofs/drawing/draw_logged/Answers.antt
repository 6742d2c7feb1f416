use Rattle.std.proofs.Common.{◌≡◌, [], codes, refl, sym, subst}
use Rattle.std.proofs.KnownBytes.{Keeps-refl}
use Rattle.rh_draw.specs.Picture.{IsWhole}
use Rattle.rh_draw.proofs.drawing.draw_logged.Goals as goal

pub returns-in-Ok-clause-drawn : goal.returns-in-Ok-clause-drawn
returns-in-Ok-clause-drawn g c = (c.as_bytes.result.now, subst IsWhole (sym c.as_bytes.ensures.value) c.in-Ok.ensures, c.send_picture.ensures.written)

pub returns-clause-drawn : goal.returns-clause-drawn
returns-clause-drawn g c = (codes "</svg>\n", ([], refl), Keeps-refl (g.W.Write.contents c.args.writer.now))
