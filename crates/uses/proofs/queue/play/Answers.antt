use Rattle.std.proofs.Common.{◌++◌, ℕ, List, [], append-nil, subst, sym}
use Rattle.rh_layout.specs.declared.command.Command.{Command}
use Rattle.rh_pace.specs.Worked.{one_joins, one_leaves, times}
use Rattle.uses.specs.Queue.{LeadTo}
use Rattle.uses.proofs.queue.play.Goals as goal

pub returns-in_err-start : goal.returns-in_err-start
returns-in_err-start g c = λ last room.
    let turns = times c.args.rounds (one_joins ++ one_leaves) in
    let refused = c.in_err-start.ensures (times 248 one_joins ++ turns) last room in
    absurd refused

pub returns-in_err-fill : goal.returns-in_err-fill
returns-in_err-fill g c = λ last room.
    let turns = times c.args.rounds (one_joins ++ one_leaves) in
    let started = c.in_ok-start.ensures (times 248 one_joins ++ turns) last room in
    let refused = c.in_err-fill.ensures turns last started in
    absurd refused

pub returns-in_err-turn : goal.returns-in_err-turn
returns-in_err-turn g c = λ last room.
    let turns = times c.args.rounds (one_joins ++ one_leaves) in
    let started = c.in_ok-start.ensures (times 248 one_joins ++ turns) last room in
    let filled = c.in_ok-fill.ensures turns last started in
    let all = subst (λ (calls : List (ℕ × Command)). LeadTo c.fill.new.heap calls last) (sym (append-nil turns)) filled in
    let refused = c.in_err-turn.ensures [] last all in
    absurd refused

pub returns : goal.returns
returns g c = λ last room.
    let turns = times c.args.rounds (one_joins ++ one_leaves) in
    let started = c.in_ok-start.ensures (times 248 one_joins ++ turns) last room in
    let filled = c.in_ok-fill.ensures turns last started in
    let all = subst (λ (calls : List (ℕ × Command)). LeadTo c.fill.new.heap calls last) (sym (append-nil turns)) filled in
    (c.in_ok-turn.ensures [] last all).after
