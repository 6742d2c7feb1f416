use Rattle.rheap_c.proofs.Resizes.{resizes}
use Rattle.rheap_c.proofs.fixed.resizing.resized_at.Goals as goal

pub returns : goal.returns
returns c =
    let told = c.resize.ensures in
    resizes c.args.words c.args.pace c.args.heap.now c.resize.new.self c.requires.0 c.requires.1 c.resize.result _ c.resize_status.ensures (told.heap, c.pace.ensures.keeps)
    (record { bad = told.bad; used = told.used; bad_log = told.bad_log; entries = told.entries; less = told.less })
    (record { made = told.ok; unchanged = told.unchanged; stands = told.stands; free = told.free; in_time = told.in_time })
