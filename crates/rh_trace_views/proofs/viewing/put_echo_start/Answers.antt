use Rattle.std.proofs.Common.{ℕ, List, ◌++◌, ap, ◌∙◌}
use Rattle.std.specs.Prelude.{codes, decimal}
use Rattle.rh_trace_views.specs.Lines.{request_text}
use Rattle.rh_trace_views.specs.Views.{listing_start, sort_of}
use Rattle.rh_trace_views.proofs.Pieces.{five}
use Rattle.rh_trace_views.proofs.viewing.put_echo_start.Goals as goal

pub returns : goal.returns
returns g c =
    let request = c.in_ok-put-2.ensures ∙ ap (λ (x : List ℕ). c.put.new.text.items ++ x) (c.as_bytes.ensures ∙ c.put_request_text.ensures.value) in
    let listing = c.in_ok-put_listing_start.ensures ∙ ap (λ sort. c.put-3.new.text.items ++ listing_start sort) c.sort_of.ensures in
    five c.args.text.now.items (decimal c.args.line) c.put_part.new.text.items c.in_ok-put_part.ensures (codes "\t") c.put.new.text.items (request_text c.args.request.now) c.put-2.new.text.items (codes "\t") c.put-3.new.text.items (listing_start (sort_of c.args.request.now)) c.put_listing_start.new.text.items c.in_ok-put.ensures request c.in_ok-put-3.ensures listing
