use Rattle.std.proofs.Common.{◌≤◌, [], ◌∷◌, length, codes, ap, arith}
use Rattle.std.proofs.lemmas.List.{length-append}
use Rattle.rh_explain.proofs.Shown.{shown_in_two}
use Rattle.rh_explain.proofs.block.put_rows.Goals as goal

pub put_shown-requires : goal.put_shown-requires
put_shown-requires c =
    let line = c.args.line.now in
    let order = c.requires.order in
    let head : length c.put_cut.new.text ≤ 15 = omega (arith, c.put_cut.ensures.len, ap length c.put.ensures, length-append c.put_integer.new.self (codes " | "), c.put_integer.ensures.len, ap length c.clear.ensures) in
    let whole = shown_in_two line c.args.from c.args.begins c.args.to order.0 (omega (arith, order.1, order.2)) in
    let rest = shown_in_two line c.args.begins c.args.ends c.args.to order.1 order.2 in
    omega (arith, head, whole, rest, c.requires.fits)

pub put_shown-requires-2 : goal.put_shown-requires-2
put_shown-requires-2 c =
    let line = c.args.line.now in
    let order = c.requires.order in
    let head : length c.put_cut.new.text ≤ 15 = omega (arith, c.put_cut.ensures.len, ap length c.put.ensures, length-append c.put_integer.new.self (codes " | "), c.put_integer.ensures.len, ap length c.clear.ensures) in
    let whole = shown_in_two line c.args.from c.args.begins c.args.to order.0 (omega (arith, order.1, order.2)) in
    let rest = shown_in_two line c.args.begins c.args.ends c.args.to order.1 order.2 in
    omega (arith, head, whole, rest, c.requires.fits, c.put_shown.ensures.len)

pub put_shown-requires-3 : goal.put_shown-requires-3
put_shown-requires-3 c =
    let line = c.args.line.now in
    let order = c.requires.order in
    let head : length c.put_cut.new.text ≤ 15 = omega (arith, c.put_cut.ensures.len, ap length c.put.ensures, length-append c.put_integer.new.self (codes " | "), c.put_integer.ensures.len, ap length c.clear.ensures) in
    let whole = shown_in_two line c.args.from c.args.begins c.args.to order.0 (omega (arith, order.1, order.2)) in
    let rest = shown_in_two line c.args.begins c.args.ends c.args.to order.1 order.2 in
    omega (arith, head, whole, rest, c.requires.fits, c.put_shown.ensures.len, c.put_shown-2.ensures.len)

pub put_cut-requires-2 : goal.put_cut-requires-2
put_cut-requires-2 c =
    let line = c.args.line.now in
    let order = c.requires.order in
    let head : length c.put_cut.new.text ≤ 15 = omega (arith, c.put_cut.ensures.len, ap length c.put.ensures, length-append c.put_integer.new.self (codes " | "), c.put_integer.ensures.len, ap length c.clear.ensures) in
    let whole = shown_in_two line c.args.from c.args.begins c.args.to order.0 (omega (arith, order.1, order.2)) in
    let rest = shown_in_two line c.args.begins c.args.ends c.args.to order.1 order.2 in
    omega (arith, head, whole, rest, c.requires.fits, c.put_shown.ensures.len, c.put_shown-2.ensures.len, c.put_shown-3.ensures.len)

pub put-requires-2 : goal.put-requires-2
put-requires-2 c =
    let line = c.args.line.now in
    let order = c.requires.order in
    let head : length c.put_cut.new.text ≤ 15 = omega (arith, c.put_cut.ensures.len, ap length c.put.ensures, length-append c.put_integer.new.self (codes " | "), c.put_integer.ensures.len, ap length c.clear.ensures) in
    let whole = shown_in_two line c.args.from c.args.begins c.args.to order.0 (omega (arith, order.1, order.2)) in
    let rest = shown_in_two line c.args.begins c.args.ends c.args.to order.1 order.2 in
    omega (arith, head, whole, rest, c.requires.fits, c.put_shown.ensures.len, c.put_shown-2.ensures.len, c.put_shown-3.ensures.len, c.put_cut-2.ensures.len)

pub put_times-requires : goal.put_times-requires
put_times-requires c =
    let line = c.args.line.now in
    let order = c.requires.order in
    let head : length c.put_cut.new.text ≤ 15 = omega (arith, c.put_cut.ensures.len, ap length c.put.ensures, length-append c.put_integer.new.self (codes " | "), c.put_integer.ensures.len, ap length c.clear.ensures) in
    let whole = shown_in_two line c.args.from c.args.begins c.args.to order.0 (omega (arith, order.1, order.2)) in
    let rest = shown_in_two line c.args.begins c.args.ends c.args.to order.1 order.2 in
    omega (arith, head, whole, rest, c.requires.fits, c.put_shown.ensures.len, c.put_shown-2.ensures.len, c.put_shown-3.ensures.len, c.put_cut-2.ensures.len, ap length c.put-2.ensures, length-append c.put_cut-2.new.text (10 ∷ []), ap length c.as_bytes-mark.ensures)

pub put_times-requires-2 : goal.put_times-requires-2
put_times-requires-2 c =
    let line = c.args.line.now in
    let order = c.requires.order in
    let head : length c.put_cut.new.text ≤ 15 = omega (arith, c.put_cut.ensures.len, ap length c.put.ensures, length-append c.put_integer.new.self (codes " | "), c.put_integer.ensures.len, ap length c.clear.ensures) in
    let whole = shown_in_two line c.args.from c.args.begins c.args.to order.0 (omega (arith, order.1, order.2)) in
    let rest = shown_in_two line c.args.begins c.args.ends c.args.to order.1 order.2 in
    omega (arith, head, whole, rest, c.requires.fits, c.put_shown.ensures.len, c.put_shown-2.ensures.len, c.put_shown-3.ensures.len, c.put_cut-2.ensures.len, ap length c.put-2.ensures, length-append c.put_cut-2.new.text (10 ∷ []), ap length c.as_bytes-mark.ensures, ap length c.as_bytes.ensures, c.put_times.ensures.len, c.at_least_one.ensures.1)

pub put-requires-3 : goal.put-requires-3
put-requires-3 c =
    let line = c.args.line.now in
    let order = c.requires.order in
    let head : length c.put_cut.new.text ≤ 15 = omega (arith, c.put_cut.ensures.len, ap length c.put.ensures, length-append c.put_integer.new.self (codes " | "), c.put_integer.ensures.len, ap length c.clear.ensures) in
    let whole = shown_in_two line c.args.from c.args.begins c.args.to order.0 (omega (arith, order.1, order.2)) in
    let rest = shown_in_two line c.args.begins c.args.ends c.args.to order.1 order.2 in
    omega (arith, head, whole, rest, c.requires.fits, c.put_shown.ensures.len, c.put_shown-2.ensures.len, c.put_shown-3.ensures.len, c.put_cut-2.ensures.len, ap length c.put-2.ensures, length-append c.put_cut-2.new.text (10 ∷ []), ap length c.as_bytes-mark.ensures, ap length c.as_bytes.ensures, c.put_times.ensures.len, c.at_least_one.ensures.1, c.put_times-2.ensures.len)
