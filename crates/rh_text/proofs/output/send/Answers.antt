use Rattle.std.proofs.Common.{ℕ, List, Option, Result, Ok, Err, OnErr, take, drop, subst}
use Rattle.std.specs.Io.KnownBytes.{Appends}
use Rattle.std.proofs.lemmas.List.{take-append-drop}
use Rattle.rh_text.specs.Output.{AppendsLess}
use Rattle.rh_text.specs.lemmas.Appends.{Appends-less}
use Rattle.rh_text.proofs.output.send.Goals as goal

-- a text of which some was written, and then less than all of what was left
less_of_rest : {X E : Type 0} (r : Result X E) (a b c : Option (List ℕ)) (text : List ℕ) (n : ℕ) → Appends a b (take n text) → OnErr r (AppendsLess b c (drop n text)) → OnErr r (AppendsLess a c text)
less_of_rest (Ok x) a b c text n some less = tt
less_of_rest (Err e) a b c text n some less =
    subst (AppendsLess a c) (take-append-drop n text) (Appends-less a b c (take n text) (drop n text) some less)

pub returns-in-Ok-2-clause-err : goal.returns-in-Ok-2-clause-err
returns-in-Ok-2-clause-err g c =
    let known = g.W.Write.contents in
    let sent = c.send_rest in
    let less = subst (λ (rest : List ℕ). OnErr sent.result (AppendsLess (known c.write.new.writer) (known sent.new.writer) rest)) c.split_at.ensures.back sent.ensures.err in
    less_of_rest sent.result (known c.args.writer.now) (known c.write.new.writer) (known sent.new.writer) c.args.text.now c.in-Ok.n c.in-Ok.ensures.bytes less
