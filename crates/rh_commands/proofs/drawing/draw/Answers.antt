use Rattle.rh_commands.proofs.Inputs.{any_input}
use Rattle.rh_commands.proofs.Drawn.{undrawn_read, undrawn_long, undrawn_memory}
use Rattle.rh_commands.proofs.drawing.draw.Goals as goal

pub returns-in-Ok-clause-told : goal.returns-in-Ok-clause-told
returns-in-Ok-clause-told g c = any_input _ (g.R.Read.remaining c.args.reader.now) (λ input. c.draw_input.ensures.concluded)

pub returns-in-Ok-clause-read : goal.returns-in-Ok-clause-read
returns-in-Ok-clause-read g c =
    let given = c.in-Ok.ensures.bytes in
    (given.0, given.1, c.draw_input.ensures.concluded)

pub returns-in-Err-Read-clause-told : goal.returns-in-Err-Read-clause-told
returns-in-Err-Read-clause-told g c = any_input _ (g.R.Read.remaining c.args.reader.now) (λ input. undrawn_read (g.O.Write.contents c.args.out.now))

pub returns-in-Err-Read-clause-read : goal.returns-in-Err-Read-clause-read
returns-in-Err-Read-clause-read g c =
    let given = c.read_all.ensures.bytes in
    (given.0, given.1, undrawn_read (g.O.Write.contents c.args.out.now))

pub returns-in-Err-Long-clause-told : goal.returns-in-Err-Long-clause-told
returns-in-Err-Long-clause-told g c = any_input _ (g.R.Read.remaining c.args.reader.now) (λ input. undrawn_long (g.O.Write.contents c.args.out.now))

pub returns-in-Err-Long-clause-read : goal.returns-in-Err-Long-clause-read
returns-in-Err-Long-clause-read g c =
    let given = c.in-Err-Long.ensures.bytes in
    (given.0, given.1, undrawn_long (g.O.Write.contents c.args.out.now))

pub returns-in-Err-OutOfMemory-clause-told : goal.returns-in-Err-OutOfMemory-clause-told
returns-in-Err-OutOfMemory-clause-told g c = any_input _ (g.R.Read.remaining c.args.reader.now) (λ input. undrawn_memory (g.O.Write.contents c.args.out.now))

pub returns-in-Err-OutOfMemory-clause-read : goal.returns-in-Err-OutOfMemory-clause-read
returns-in-Err-OutOfMemory-clause-read g c =
    let given = c.read_all.ensures.bytes in
    (given.0, given.1, undrawn_memory (g.O.Write.contents c.args.out.now))
