-- The definitions at work: what is written where the spaces get other sizes, outside a cycle and in one.
use Rattle.std.proofs.Common.{◌≡◌, ℕ, List, [], ◌∷◌, ◌++◌, refl}
use Rattle.std.specs.Prelude.{codes, map}
use Rattle.std.specs.Fmt.{digits}
use Rattle.std.specs.List.{flat_map}
use Rattle.rh_core.specs.Classes.{class_of}
use Rattle.rh_core.specs.Commands.{heap_step, heap_after_command}
use Rattle.rh_mutator.specs.Commands.{limit_of, mutators_after}
use Rattle.rh_core.specs.Cycle.{begin_step, flip_step}
use Rattle.rh_core.specs.Idle.{idle_step}
use Rattle.rh_core.specs.Dealing.{deal_step}
use Rattle.rh_core.specs.Giving.{give_step}
use Rattle.rh_core.specs.Shading.{shade_step}
use Rattle.rh_model.specs.Graph.{refusal_of, fault_in, reply_to}
use Rattle.rh_text.specs.Number.{number_of}
use Rattle.rh_text.specs.Parts.{is_formed, one_part, two_parts, three_parts, six_parts}
use Rattle.rh_text.specs.Root.{root_of}
use Rattle.rh_syntax.specs.Reading.{read_alloc, read_drop, command_or_fault, kind_or_fault, read_shade, read_deal, read_give, read_idle, read_resize, keyword_request, watching_request, listing_request, owned_request, request_of_parts, sizes_of, header_of_parts, checked_parts, request_or_kind, header_or_kind, requests_from, script_or_fault}
use Rattle.rh_trace.specs.Run.{run_of, text_of}
use Rattle.rh_syntax.specs.TrayName.{is_tray_name}

-- so many lines, each ended
text : List (List ℕ) → List ℕ
text lines = flat_map (λ line. line ++ 10 ∷ []) lines

-- lines, with what each is answered
rows : List (List ℕ × List ℕ)
rows =
    (codes "1 alloc 1.0 2", codes "object 2")
    ∷ (codes "1 alloc 1.1 9", codes "object 9")
    ∷ (codes "1 alloc 0.0 0", codes "refused SpaceFull need 2 free 1")
    ∷ (codes "resize 7", codes "refused BadSpace")
    ∷ (codes "resize 14", codes "refused Used 15")
    ∷ (codes "resize 17", codes "words 17")
    ∷ (codes "1 alloc 0.0 0", codes "object 0")
    ∷ (codes "begin", codes "cycle 1")
    ∷ (codes "resize 40", codes "words 40")
    ∷ (codes "shade 1.0", codes "refused CreditShort need 3 free 0")
    ∷ (codes "stat", codes "stat used 17 free 23 cycle on epoch 1 number 0 log 0 granted 0 spent 0 placed 0 missing 0 idle 0")
    ∷ (codes "1 drop 1.1", codes "done")
    ∷ (codes "idle 30", codes "idle 30")
    ∷ (codes "shade 1.0", codes "placed")
    ∷ (codes "shade 0.0", codes "placed")
    ∷ (codes "resize 16777217", codes "refused BadSpace")
    ∷ (codes "resize 16", codes "refused Used 17")
    ∷ (codes "deal copies 9 a", codes "dealt 2 passed 0")
    ∷ (codes "give a", codes "given joined 2 repeated 0 stale 0 placed 0")
    ∷ (codes "flip", codes "flipped roots 2 live 6")
    ∷ (codes "resize 8", codes "words 8")
    ∷ (codes "1 alloc 1.1 0", codes "object 0")
    ∷ (codes "1 alloc 1.1 0", codes "refused SpaceFull need 2 free 0")
    ∷ (codes "stat", codes "stat used 8 free 0 cycle off epoch 2 number 0 log 0 granted 0 spent 12 placed 0 missing 0 idle 30")
    ∷ []

trace : List ℕ
trace = text (codes "heap 16 8 4 2 2" ∷ map (λ (row : List ℕ × List ℕ). row.0) rows)

answers : List ℕ
answers = text (map (λ (row : List ℕ × List ℕ). row.1) rows ++ codes "total commands 7 refused 2 flips 1 rootwords 2" ∷ [])

run : text_of (run_of trace) ≡ answers
unfolding digits script_or_fault header_or_kind request_or_kind requests_from checked_parts is_formed header_of_parts six_parts sizes_of number_of request_of_parts owned_request command_or_fault read_alloc read_drop keyword_request watching_request listing_request read_shade read_deal read_give read_idle read_resize kind_or_fault is_tray_name one_part two_parts three_parts root_of heap_step heap_after_command limit_of mutators_after refusal_of fault_in reply_to begin_step flip_step idle_step shade_step deal_step give_step class_of text rows trace answers
run = refl
