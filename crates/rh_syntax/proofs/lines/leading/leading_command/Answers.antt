use Rattle.rh_syntax.proofs.lines.leading.leading_command.Goals as goal

pub returns-in-Some : goal.returns-in-Some
returns-in-Some c = rw c.in-Some.ensures c.leading_alloc.ensures

pub returns-in-Some-after_bytes : goal.returns-in-Some-after_bytes
returns-in-Some-after_bytes c = rw c.in-Some-after_bytes.ensures c.leading_raw.ensures

pub returns-in-Some-after_bytes-2 : goal.returns-in-Some-after_bytes-2
returns-in-Some-after_bytes-2 c = rw c.in-Some-after_bytes-2.ensures c.leading_load.ensures

pub returns-in-Some-after_bytes-3 : goal.returns-in-Some-after_bytes-3
returns-in-Some-after_bytes-3 c = rw c.in-Some-after_bytes-3.ensures c.leading_store.ensures

pub returns-in-Some-after_bytes-4 : goal.returns-in-Some-after_bytes-4
returns-in-Some-after_bytes-4 c = rw c.in-Some-after_bytes-4.ensures c.leading_copy.ensures

pub returns-in-Some-after_bytes-5 : goal.returns-in-Some-after_bytes-5
returns-in-Some-after_bytes-5 c = rw c.in-Some-after_bytes-5.ensures c.leading_same.ensures

pub returns-in-Some-after_bytes-6 : goal.returns-in-Some-after_bytes-6
returns-in-Some-after_bytes-6 c = rw c.in-Some-after_bytes-6.ensures c.leading_drop.ensures
