use Rattle.std.proofs.Common.{◌≡◌, ◌++◌, drop}
use Rattle.std.specs.List.{flat_map}
use Rattle.rh_trace_views.specs.Json.{json_byte, json_string}
use Rattle.rh_trace_views.proofs.reports.put_json_string.Given as goal

-- the text so far, and what the bytes that are left add, are the whole text
abbrev pub invariant-loop-byte : goal.invariant-loop-byte
invariant-loop-byte g l = l.text.items ++ flat_map json_byte (drop l.byte-index l.string) ≡ l.fn.text.items ++ json_string l.string
