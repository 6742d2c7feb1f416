use Rattle.std.proofs.Common.{◌<◌, ◌∙◌, sym, length, arith, rules}
use Rattle.std.proofs.lemmas.Bool.{eqb-false, false_from_ne_true}
use Rattle.rh_text.specs.lemmas.Appends.{Sent-more}
use Rattle.rh_text.proofs.output.send_rest.Goals as goal

pub loop-rest-init : goal.loop-rest-init
loop-rest-init g c = search rules

pub loop-rest-preserved-in-Ok : goal.loop-rest-preserved-in-Ok
loop-rest-preserved-in-Ok g c =
    let known = g.W.Write.contents in
    let filled : 0 < length c.loop-rest.rest.now = omega (arith, eqb-false (length c.loop-rest.rest.now) 0 (sym c.is_empty.ensures ∙ c.loop-rest-test.true)) in
    record {
      sent = rw c.split_at.ensures.back (Sent-more (known c.args.writer.now) (known c.loop-rest.writer) (known c.write.new.writer) c.args.text.now c.loop-rest.rest.now c.in-Ok.n c.loop-rest.invariant.sent c.in-Ok.ensures.bytes);
      none_failed = false_from_ne_true c.write.new.self.failed (λ failed. c.in-Ok.n-test.1 (c.in-Ok.ensures.failed.0 failed).0);
      counted = grind (arith, c.in-Ok.ensures.made filled, c.in-Ok.ensures.left filled, c.loop-rest.invariant.counted);
    }

pub returns-in-Ok-eq0-clause-ok : goal.returns-in-Ok-eq0-clause-ok
returns-in-Ok-eq0-clause-ok g c = tt
