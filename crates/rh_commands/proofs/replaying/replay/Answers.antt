use Rattle.std.proofs.Common.{ℕ, ◌<◌, List, [], length, subst, ◌∙◌, append-nil}
use Rattle.rh_commands.specs.Fault.{status_after}
use Rattle.rh_commands.specs.Replay.{ConcludesReplay}
use Rattle.rh_commands.proofs.Inputs.{whole_input, any_input, read_failed, memory_refused, too_long, begun_input, long_is}
use Rattle.rh_commands.proofs.replaying.replay.Goals as goal

pub returns-in-Ok-clause-told : goal.returns-in-Ok-clause-told
returns-in-Ok-clause-told g c =
    let given = c.in-Ok.ensures.bytes in
    let Due : List ℕ → Type 0 = λ input. ConcludesReplay input (status_after c.replay_input.result) (g.O.Write.contents c.args.out.now) (g.O.Write.contents c.replay_input.new.out) in
    whole_input Due (g.R.Read.remaining c.args.reader.now) (g.R.Read.remaining c.read_all.new.reader) given.0 given.1 given.2.2 (subst Due (c.deref.ensures.value ∙ given.2.0) c.replay_input.ensures.concluded)

pub returns-in-Ok-clause-read : goal.returns-in-Ok-clause-read
returns-in-Ok-clause-read g c =
    let given = c.in-Ok.ensures.bytes in
    let Due : List ℕ → Type 0 = λ input. ConcludesReplay input (status_after c.replay_input.result) (g.O.Write.contents c.args.out.now) (g.O.Write.contents c.replay_input.new.out) in
    (given.0, given.1, subst Due (c.deref.ensures.value ∙ given.2.0) c.replay_input.ensures.concluded)

pub returns-in-Err-Read-clause-told : goal.returns-in-Err-Read-clause-told
returns-in-Err-Read-clause-told g c =
    any_input _ (g.R.Read.remaining c.args.reader.now) (λ input. read_failed input (g.O.Write.contents c.args.out.now))

pub returns-in-Err-Read-clause-read : goal.returns-in-Err-Read-clause-read
returns-in-Err-Read-clause-read g c =
    let given = c.read_all.ensures.bytes in
    (given.0, given.1, read_failed given.0 (g.O.Write.contents c.args.out.now))

pub returns-in-Err-OutOfMemory-clause-told : goal.returns-in-Err-OutOfMemory-clause-told
returns-in-Err-OutOfMemory-clause-told g c =
    any_input _ (g.R.Read.remaining c.args.reader.now) (λ input. memory_refused input (g.O.Write.contents c.args.out.now))

pub returns-in-Err-OutOfMemory-clause-read : goal.returns-in-Err-OutOfMemory-clause-read
returns-in-Err-OutOfMemory-clause-read g c =
    let given = c.read_all.ensures.bytes in
    (given.0, given.1, memory_refused given.0 (g.O.Write.contents c.args.out.now))

pub returns-in-Err-Long-clause-told : goal.returns-in-Err-Long-clause-told
returns-in-Err-Long-clause-told g c =
    let given = c.in-Err-Long.ensures.bytes in
    let known = g.R.Read.remaining in
    let many : 16777216 < length given.0 = long_is c.in-Err-Long.field-0 given.0 (known c.read_all.new.reader) c.in-Err-Long.field-0-is given.2 in
    begun_input _ (known c.args.reader.now) (known c.read_all.new.reader) given.0 given.1 (λ rest. too_long given.0 rest (g.O.Write.contents c.args.out.now) many)

pub returns-in-Err-Long-clause-read : goal.returns-in-Err-Long-clause-read
returns-in-Err-Long-clause-read g c =
    let given = c.in-Err-Long.ensures.bytes in
    let known = g.R.Read.remaining in
    let many : 16777216 < length given.0 = long_is c.in-Err-Long.field-0 given.0 (known c.read_all.new.reader) c.in-Err-Long.field-0-is given.2 in
    (given.0, given.1, subst (λ (input : List ℕ). ConcludesReplay input 1 (g.O.Write.contents c.args.out.now) (g.O.Write.contents c.args.out.now)) (append-nil given.0) (too_long given.0 [] (g.O.Write.contents c.args.out.now) many))
