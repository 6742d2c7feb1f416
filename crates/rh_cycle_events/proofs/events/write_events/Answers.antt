use Rattle.std.proofs.Common.{ℕ, ◌-◌, List, subst, ◌∙◌}
use Rattle.std.specs.Prelude.{OnOk}
use Rattle.std.specs.Io.KnownBytes.{Appends}
use Rattle.rh_cycle_events.specs.Events.{begins_at, ends_at, told_by}
use Rattle.rh_cycle_events.specs.Texts.{Told, end_text, kept_text, logged_text, slice_text, units_text, used_text}
use Rattle.rh_cycle_events.proofs.Spelled.{sent-seven}
use Rattle.rh_cycle_events.proofs.events.write_events.Goals as goal

pub returns : goal.returns
returns g c =
    let h = c.args.heard.now in
    let t : Told = told_by h.line in
    let b : ℕ = begins_at h.freed t in
    let e : ℕ = ends_at h.freed t in
    let p0 = g.W.Write.contents c.args.out.now in
    let p1 = g.W.Write.contents c.put_all.new.out in
    let p2 = g.W.Write.contents c.put_all-2.new.out in
    let p3 = g.W.Write.contents c.put_all-3.new.out in
    let p4 = g.W.Write.contents c.put_all-4.new.out in
    let p5 = g.W.Write.contents c.put_all-5.new.out in
    let p6 = g.W.Write.contents c.put_all-6.new.out in
    let p7 = g.W.Write.contents c.put_all-7.new.out in
    sent-seven p0 p1 p2 p3 p4 p5 p6 p7 (slice_text t b (e - b)) (end_text t) (kept_text t) (used_text b t.used) (used_text e t.live) (logged_text t e) (units_text t e) c.put_all-7.result
    (subst (Appends p0 p1) (c.as_bytes.ensures ∙ c.put_slice.ensures ∙ (λ k. slice_text t (c.begins-begins.ensures k) ((c.saturating_sub.ensures ∙ (λ j. c.ends-ends.ensures j - c.begins-begins.ensures j)) k))) c.in_ok-put_all.ensures.ok)
    (subst (Appends p1 p2) (c.as_bytes-2.ensures ∙ c.put_end.ensures) c.in_ok-put_all-2.ensures.ok)
    (subst (Appends p2 p3) (c.as_bytes-3.ensures ∙ c.put_outcome.ensures) c.in_ok-put_all-3.ensures.ok)
    (subst (Appends p3 p4) (c.as_bytes-4.ensures ∙ c.put_used.ensures ∙ (λ k. used_text (c.begins-begins.ensures k) (c.number.ensures k))) c.in_ok-put_all-4.ensures.ok)
    (subst (Appends p4 p5) (c.as_bytes-5.ensures ∙ c.put_used-2.ensures ∙ (λ k. used_text (c.ends-ends.ensures k) (c.number-2.ensures k))) c.in_ok-put_all-5.ensures.ok)
    (subst (Appends p5 p6) (c.as_bytes-6.ensures ∙ c.put_logged.ensures ∙ (λ k. logged_text t (c.ends-ends.ensures k))) c.in_ok-put_all-6.ensures.ok)
    (subst (λ (text : List ℕ). OnOk c.put_all-7.result (Appends p6 p7 text)) (c.as_bytes-7.ensures ∙ c.put_units.ensures ∙ (λ k. units_text t (c.ends-ends.ensures k))) c.put_all-7.ensures.ok)
