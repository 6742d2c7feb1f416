-- The definitions at work: what a run of some traces writes.
use Rattle.std.proofs.Common.{◌≡◌, ℕ, List, [], ◌∷◌, ◌++◌, refl}
use Rattle.std.specs.Prelude.{codes}
use Rattle.std.specs.Fmt.{digits}
use Rattle.std.specs.List.{flat_map}
use Rattle.rh_core.specs.Commands.{heap_step, heap_after_command}
use Rattle.rh_mutator.specs.Commands.{limit_of, mutators_after}
use Rattle.rh_core.specs.Cycle.{begin_step}
use Rattle.rh_model.specs.Graph.{refusal_of, fault_in, reply_to}
use Rattle.rh_text.specs.Number.{number_of, integer_of}
use Rattle.rh_text.specs.Parts.{is_formed, one_part, two_parts, three_parts, six_parts}
use Rattle.rh_text.specs.Root.{root_of}
use Rattle.rh_syntax.specs.Reading.{operand_or_fault, read_alloc, read_raw, read_load, read_store, read_copy, read_same, read_drop, command_or_fault, keyword_request, watching_request, listing_request, owned_request, request_of_parts, sizes_of, header_of_parts, checked_parts, request_or_kind, header_or_kind, requests_from, script_or_fault}
use Rattle.rh_trace.specs.Run.{run_of, text_of}

-- so many lines, each ended
text : List (List ℕ) → List ℕ
text lines = flat_map (λ line. line ++ 10 ∷ []) lines

-- a field that both roots name
shared : List (List ℕ)
shared = codes "heap 16 8 4 2 3" ∷ codes "1 alloc 1.0 1" ∷ codes "1 store 1.0 0 5" ∷ codes "1 load 1.1 1.0 0" ∷ codes "1 copy 1.2 1.0" ∷ codes "1 same 1.0 1.2" ∷ codes "1 same 1.0 1.1" ∷ codes "1 alloc 1.1 12" ∷ codes "1 drop 1.0" ∷ []

answers : List (List ℕ)
answers = codes "object 1" ∷ codes "done" ∷ codes "int 5" ∷ codes "object 1" ∷ codes "same yes" ∷ codes "same no" ∷ codes "refused SpaceFull need 14 free 13" ∷ codes "done" ∷ codes "total commands 8 refused 1 flips 0 rootwords 0" ∷ []

run : text_of (run_of (text shared)) ≡ text answers
unfolding digits script_or_fault header_or_kind request_or_kind requests_from checked_parts is_formed header_of_parts six_parts sizes_of number_of integer_of request_of_parts owned_request command_or_fault read_alloc read_load read_store read_copy read_same read_drop one_part two_parts three_parts root_of operand_or_fault heap_step heap_after_command limit_of mutators_after refusal_of fault_in reply_to text shared answers
run = refl

-- a log that is full, and a dump
logged : List (List ℕ)
logged = codes "heap 64 8 1 2 2" ∷ codes "1 alloc 1.0 1" ∷ codes "begin" ∷ codes "1 store 1.0 0 5" ∷ codes "1 store 1.0 0 6" ∷ codes "dump" ∷ []

logged_answers : List (List ℕ)
logged_answers = codes "object 1" ∷ codes "cycle 1" ∷ codes "done" ∷ codes "refused LogFull" ∷ codes "rheap 2" ∷ codes "roots 1" ∷ codes "1.0 @0" ∷ codes "objects 1" ∷ codes "@0 1 5" ∷ codes "end" ∷ codes "total commands 3 refused 1 flips 0 rootwords 0" ∷ []

run_logged : text_of (run_of (text logged)) ≡ text logged_answers
unfolding digits script_or_fault header_or_kind request_or_kind requests_from checked_parts is_formed header_of_parts six_parts sizes_of number_of integer_of request_of_parts owned_request command_or_fault read_alloc read_store two_parts three_parts root_of operand_or_fault keyword_request watching_request listing_request begin_step heap_step heap_after_command limit_of mutators_after refusal_of fault_in reply_to text logged logged_answers
run_logged = refl

-- a raw object takes no reference
raw : List (List ℕ)
raw = codes "heap 64 8 8 2 2" ∷ codes "1 raw 1.0 2" ∷ codes "1 store 1.0 0 1.0" ∷ codes "1 store 1.0 2 1.0" ∷ codes "1 store 1.0 0 5" ∷ codes "1 store 1.0 1 1.1" ∷ codes "1 store 1.0 0 2305843009213693952" ∷ codes "dump" ∷ []

raw_answers : List (List ℕ)
raw_answers = codes "raw 2" ∷ codes "refused RawField" ∷ codes "refused NoField" ∷ codes "done" ∷ codes "done" ∷ codes "refused IntRange" ∷ codes "rheap 2" ∷ codes "roots 1" ∷ codes "1.0 @0" ∷ codes "objects 1" ∷ codes "@0 raw 2 5 nil" ∷ codes "end" ∷ codes "total commands 6 refused 3 flips 0 rootwords 0" ∷ []

run_raw : text_of (run_of (text raw)) ≡ text raw_answers
unfolding digits script_or_fault header_or_kind request_or_kind requests_from checked_parts is_formed header_of_parts six_parts sizes_of number_of integer_of request_of_parts owned_request command_or_fault read_raw read_store two_parts three_parts root_of operand_or_fault keyword_request watching_request listing_request heap_step heap_after_command limit_of mutators_after refusal_of fault_in reply_to text raw raw_answers
run_raw = refl
