-- The definitions at work: what is written where a field is stored to between a deal and a give, and
-- where what is held was stored over and is given again, and answers that are not those of a plain heap.
use Rattle.std.proofs.Common.{◌≡◌, ℕ, false, List, [], ◌∷◌, ◌++◌, Result, Ok, refl, ap, subst, inl, inr}
use Rattle.std.specs.Prelude.{codes}
use Rattle.std.specs.Fmt.{digits}
use Rattle.std.specs.List.{flat_map}
use Rattle.rh_layout.specs.declared.command.Command.TheVariants.{Alloc, Load}
use Rattle.rh_layout.specs.declared.command.Reply.{Reply}
use Rattle.rh_layout.specs.declared.command.Reply.TheVariants as replies
use Rattle.rh_layout.specs.declared.command.RootId.{RootId}
use Rattle.rh_layout.specs.declared.refusal.Refusal.{Refusal}
use Rattle.rh_layout.specs.declared.value.Value.TheVariants as values
use Rattle.rh_core.specs.Classes.{class_of}
use Rattle.rh_core.specs.Commands.{heap_step, heap_after_command, AnswersAs}
use Rattle.rh_mutator.specs.Commands.{limit_of, mutators_after}
use Rattle.rh_core.specs.Cycle.{begin_step, flip_step}
use Rattle.rh_core.specs.Recall.{recall_step, abandon_step}
use Rattle.rh_core.specs.Idle.{idle_step}
use Rattle.rh_core.specs.Dealing.{deal_step}
use Rattle.rh_core.specs.Giving.{give_step}
use Rattle.rh_core.specs.Shading.{shade_step}
use Rattle.rh_model.specs.Graph.{refusal_of, fault_in, reply_to}
use Rattle.rh_model.specs.Plain.{PlainObject, empty_plain, step, plain_after_command}
use Rattle.rh_text.specs.Number.{number_of, integer_of}
use Rattle.rh_text.specs.Parts.{is_formed, one_part, two_parts, three_parts, six_parts}
use Rattle.rh_text.specs.Root.{root_of}
use Rattle.rh_trace.specs.Answers as told
use Rattle.rh_trace.specs.Answers.{Answered}
use Rattle.rh_syntax.specs.declared.request.Request.{Request}
use Rattle.rh_syntax.specs.declared.request.Request.TheVariants.{Command, Dump}
use Rattle.rh_syntax.specs.Reading.{operand_or_fault, read_alloc, read_store, command_or_fault, kind_or_fault, read_shade, read_deal, read_give, read_join, read_idle, keyword_request, watching_request, listing_request, owned_request, request_of_parts, sizes_of, header_of_parts, checked_parts, request_or_kind, header_or_kind, requests_from, script_or_fault}
use Rattle.rh_trace.specs.Run.{run_of, text_of, AreTransparent}
use Rattle.rh_syntax.specs.TrayName.{is_tray_name}

-- so many lines, each ended
text : List (List ℕ) → List ℕ
text lines = flat_map (λ line. line ++ 10 ∷ []) lines

-- lines, with what each is answered
rows : List (List ℕ × List (List ℕ))
rows =
    (codes "1 alloc 1.0 2", codes "object 2" ∷ [])
    ∷ (codes "begin", codes "cycle 1" ∷ [])
    ∷ (codes "1 alloc 1.1 1", codes "object 1" ∷ [])
    ∷ (codes "1 store 1.0 0 1.1", codes "done" ∷ [])
    ∷ (codes "shade 1.0", codes "placed" ∷ [])
    ∷ (codes "shade 1.1", codes "placed" ∷ [])
    ∷ (codes "trays", [])
    ∷ (codes "deal copies 9 t", codes "dealt 3 passed 0" ∷ [])
    ∷ (codes "1 store 1.0 0 7", codes "done" ∷ [])
    ∷ (codes "give t", codes "given joined 2 repeated 0 stale 1 placed 0" ∷ [])
    ∷ (codes "flip", codes "refused Missing 1" ∷ [])
    ∷ (codes "1 alloc 0.0 1", codes "object 1" ∷ [])
    ∷ (codes "deal entries 9 e", codes "dealt 2 passed 0" ∷ [])
    ∷ (codes "give e", codes "given joined 1 repeated 0 stale 0 placed 0" ∷ [])
    ∷ (codes "flip", codes "refused RootUnplaced 0.0" ∷ [])
    ∷ (codes "shade 0.0", codes "placed" ∷ [])
    ∷ (codes "flip", codes "refused Missing 1" ∷ [])
    ∷ (codes "deal copies 9 c", codes "dealt 1 passed 0" ∷ [])
    ∷ (codes "give c", codes "given joined 1 repeated 0 stale 0 placed 0" ∷ [])
    ∷ (codes "1 store 0.0 0 8", codes "done" ∷ [])
    ∷ (codes "give c", codes "given joined 0 repeated 0 stale 1 placed 0" ∷ [])
    ∷ (codes "deal entries 9 e", codes "dealt 1 passed 0" ∷ [])
    ∷ (codes "give e", codes "given joined 1 repeated 1 stale 0 placed 0" ∷ [])
    ∷ (codes "flip", codes "flipped roots 3 live 10" ∷ [])
    ∷ (codes "join t e", codes "joined 4" ∷ [])
    ∷ (codes "trays", codes "tray t epoch 1 entries 4" ∷ codes "tray e epoch 1 entries 2" ∷ codes "tray c epoch 1 entries 1" ∷ [])
    ∷ (codes "stat", codes "stat used 10 free 6 cycle off epoch 2 number 3 log 0 granted 48 spent 29 placed 0 missing 0 idle 0" ∷ [])
    ∷ (codes "idle 9", codes "refused NoCycle" ∷ [])
    ∷ (codes "begin", codes "cycle 2" ∷ [])
    ∷ (codes "idle 9", codes "idle 9" ∷ [])
    ∷ (codes "shade 1.0", codes "placed" ∷ [])
    ∷ (codes "deal copies 9 d", codes "dealt 1 passed 0" ∷ [])
    ∷ (codes "recall", codes "cycle 3" ∷ [])
    ∷ (codes "give d", codes "refused StaleEpoch is 3 was 2" ∷ [])
    ∷ (codes "abandon", codes "abandoned 1" ∷ [])
    ∷ (codes "recall", codes "refused NoCycle" ∷ [])
    ∷ []

trace : List ℕ
trace = text (codes "heap 16 8 4 2 2" ∷ flat_map (λ row. row.0 ∷ []) rows)

answers : List ℕ
answers = text (flat_map (λ row. row.1) rows ++ codes "total commands 6 refused 0 flips 1 rootwords 3" ∷ [])

run : text_of (run_of trace) ≡ answers
unfolding digits script_or_fault header_or_kind request_or_kind requests_from checked_parts is_formed header_of_parts six_parts sizes_of number_of integer_of request_of_parts owned_request command_or_fault read_alloc read_store operand_or_fault keyword_request watching_request listing_request read_shade read_deal read_give read_join read_idle kind_or_fault is_tray_name one_part two_parts three_parts root_of heap_step heap_after_command limit_of mutators_after refusal_of fault_in reply_to begin_step flip_step recall_step abandon_step idle_step shade_step deal_step give_step class_of text rows trace answers
run = refl

-- ---- what isn't the answer of a plain heap

root : ℕ → RootId
root slot = record { owner = 1; slot = slot }

made : Answered
made = told.Answer (Ok (replies.Object 1))

-- what is answered where an object was made on an empty plain heap
abbrev FollowsMade : Request → List Answered → Type 0
FollowsMade request answered = AreTransparent (empty_plain 2 2) (Command 1 (Alloc (root 0) 1) ∷ request ∷ []) (made ∷ answered)

later : {A B : Type 0} → A × B → B
later both = both.1

first : {A B : Type 0} → A × B → A
first both = both.0

-- what a command was answered that wasn't refused for a limit is what the plain heap answers
plain_done : (answer plain : Result Reply Refusal) → told.Answer (Ok replies.Done) ≡ told.Answer answer → AnswersAs answer plain → Ok replies.Done ≡ plain
plain_done answer plain is judged =
    let same : answer ≡ Ok replies.Done = cc in
    elim (subst (λ a. AnswersAs a plain) same judged) [
      | inl agrees ↦ agrees.1
      | inr limited ↦ absurd (cc)
    ]

-- a load that is answered what the field holds is accepted
read_nil : FollowsMade (Command 1 (Load (root 1) (root 0) 0)) (told.Answer (Ok replies.Nil) ∷ [])
unfolding step refusal_of fault_in reply_to plain_after_command root made
read_nil = ((Ok (replies.Object 1), refl, inl (refl, refl)), ((Ok replies.Nil, refl, inl (refl, refl)), tt))

-- a load that is answered that it was done
done_for_load : FollowsMade (Command 1 (Load (root 1) (root 0) 0)) (told.Answer (Ok replies.Done) ∷ []) → ⊥
unfolding step refusal_of fault_in reply_to plain_after_command root made
done_for_load h =
    let load = first (later h) in
    let same : ◌≡◌ {A = Result Reply Refusal} (Ok replies.Done) (Ok replies.Nil) = plain_done load.0 _ load.1 load.2 in
    cc

-- a load without an answer
no_answer : FollowsMade (Command 1 (Load (root 1) (root 0) 0)) [] → ⊥
unfolding step refusal_of fault_in reply_to plain_after_command root made
no_answer h = later h

objects_of : Answered → List PlainObject
objects_of (told.Dump graph) = graph.objects
objects_of other = []

-- the dump of another heap
other_dump : FollowsMade Dump (told.Dump (record { roots = []; objects = [] }) ∷ []) → ⊥
unfolding step refusal_of fault_in reply_to plain_after_command root made objects_of
other_dump h =
    let same : ◌≡◌ {A = List PlainObject} [] (record { raw = false; fields = values.Nil ∷ [] } ∷ []) = ap objects_of (first (later h)) in
    cc
