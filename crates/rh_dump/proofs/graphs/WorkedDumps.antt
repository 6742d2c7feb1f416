-- The definitions at work: what the faults of some texts are, and what graph a text is the dump of.
use Rattle.std.proofs.Common.{◌≡◌, ℕ, pos, List, [], ◌∷◌, ◌++◌, Result, Ok, Err, refl}
use Rattle.std.specs.Prelude.{codes, map, true, false}
use Rattle.std.specs.Fmt.{digits}
use Rattle.std.specs.List.{flat_map}
use Rattle.rh_layout.specs.declared.value.Value.TheVariants.{Nil, Int, Ref}
use Rattle.rh_text.specs.Number.{number_of, integer_of}
use Rattle.rh_text.specs.Parts.{is_formed, two_parts}
use Rattle.rh_text.specs.Root.{root_of}
use Rattle.rh_dump.specs.declared.reading.fault.DumpKind.{DumpKind}
use Rattle.rh_dump.specs.declared.reading.fault.DumpKind.TheVariants.{End, Header, Form, Number, Order, Count}
use Rattle.rh_dump.specs.declared.reading.fault.DumpFault.{DumpFault}
use Rattle.rh_dump.specs.Dump.{GraphState}
use Rattle.rh_dump.specs.texts.Part.{number_up_to, whole_of, small_root_of, object_head}
use Rattle.rh_dump.specs.texts.Reading.{formed_parts, part_after, roots_of_parts, objects_of_parts, reference_or_fault, whole_or_fault, value_or_fault, plain_or_fault, values_or_fault, root_or_fault, root_of_parts, own_number, fields_or_fault, object_of_parts, version_or_fault, line_due, line_or_kind, lines_from, graph_within, graph_of_text}

-- so many lines, each ended
text : List (List ℕ) → List ℕ
text lines = flat_map (λ line. line ++ 10 ∷ []) lines

-- the fault of a line of this number
fault : ℕ → DumpKind → Result GraphState DumpFault
fault line kind = Err (record { line = line; kind = kind })

root_above_all : graph_of_text (text (codes "rheap 1" ∷ codes "roots 1" ∷ codes "1.0 @1" ∷ [])) ≡ fault 3 Order
unfolding digits graph_within lines_from line_or_kind line_due version_or_fault formed_parts is_formed roots_of_parts part_after two_parts number_up_to number_of root_of_parts root_or_fault small_root_of root_of value_or_fault reference_or_fault text fault
root_above_all = refl

fewer_than_met : graph_of_text (text (codes "rheap 1" ∷ codes "roots 1" ∷ codes "1.0 @0" ∷ codes "objects 0" ∷ [])) ≡ fault 4 Count
unfolding digits graph_within lines_from line_or_kind line_due version_or_fault formed_parts is_formed roots_of_parts objects_of_parts part_after two_parts number_up_to number_of root_of_parts root_or_fault small_root_of root_of value_or_fault reference_or_fault text fault
fewer_than_met = refl

not_met : graph_of_text (text (codes "rheap 1" ∷ codes "roots 0" ∷ codes "objects 1" ∷ codes "@0 0" ∷ codes "end" ∷ [])) ≡ fault 4 Count
unfolding digits graph_within lines_from line_or_kind line_due version_or_fault formed_parts is_formed roots_of_parts objects_of_parts part_after two_parts number_up_to number_of object_of_parts object_head own_number text fault
not_met = refl

past_the_last : graph_of_text (text (codes "rheap 1" ∷ codes "roots 1" ∷ codes "1.0 @0" ∷ codes "objects 1" ∷ codes "@0 1 @1" ∷ [])) ≡ fault 5 Count
unfolding digits graph_within lines_from line_or_kind line_due version_or_fault formed_parts is_formed roots_of_parts objects_of_parts part_after two_parts number_up_to number_of root_of_parts root_or_fault small_root_of root_of value_or_fault reference_or_fault object_of_parts object_head own_number fields_or_fault values_or_fault text fault
past_the_last = refl

no_end : graph_of_text (text (codes "rheap 1" ∷ codes "roots 0" ∷ codes "objects 0" ∷ [])) ≡ fault 4 End
unfolding digits graph_within lines_from line_or_kind line_due version_or_fault formed_parts is_formed roots_of_parts objects_of_parts part_after two_parts number_up_to number_of text fault
no_end = refl

version_two : graph_of_text (text (codes "rheap 2" ∷ [])) ≡ fault 2 End
unfolding graph_within lines_from line_or_kind line_due version_or_fault text fault
version_two = refl

version_three : graph_of_text (text (codes "rheap 3" ∷ [])) ≡ fault 1 Header
unfolding graph_within lines_from line_or_kind line_due version_or_fault text fault
version_three = refl

-- the object lines of a version, each with the fault of a text whose only object has it
faulty : List (List ℕ × List ℕ × DumpKind)
faulty =
    (codes "rheap 2", codes "@0 raw 1 @0", Number)
    ∷ (codes "rheap 2", codes "@0 raw 1 x", Number)
    ∷ (codes "rheap 2", codes "@0 raw", Form)
    ∷ (codes "rheap 2", codes "@x raw", Form)
    ∷ (codes "rheap 2", codes "@1 raw 0", Order)
    ∷ (codes "rheap 2", codes "@0 raw 2 nil", Form)
    ∷ (codes "rheap 2", codes "@0 raw raw", Number)
    ∷ (codes "rheap 1", codes "@0 raw 1 5", Number)
    ∷ (codes "rheap 1", codes "@0 raw", Number)
    ∷ (codes "rheap 1", codes "@1 raw", Order)
    ∷ []

of_object : List ℕ → List ℕ → Result GraphState DumpFault
of_object header line = graph_of_text (text (header ∷ codes "roots 1" ∷ codes "1.0 @0" ∷ codes "objects 1" ∷ line ∷ codes "end" ∷ []))

object_faults : map (λ (row : List ℕ × List ℕ × DumpKind). of_object row.0 row.1) faulty ≡ map (λ (row : List ℕ × List ℕ × DumpKind). fault 5 row.2) faulty
unfolding digits graph_within lines_from line_or_kind line_due version_or_fault formed_parts is_formed roots_of_parts objects_of_parts part_after two_parts number_up_to number_of root_of_parts root_or_fault small_root_of root_of value_or_fault plain_or_fault whole_or_fault whole_of integer_of reference_or_fault object_of_parts object_head own_number fields_or_fault values_or_fault text fault faulty of_object
object_faults = refl

two_roots : graph_of_text (text (codes "rheap 1" ∷ codes "roots 2" ∷ codes "1.0 @0" ∷ codes "1.1 @1" ∷ codes "objects 2" ∷ codes "@0 1 nil" ∷ codes "@1 0" ∷ codes "end" ∷ []))
    ≡ Ok (record { roots = (record { owner = 1; slot = 0 }, Ref 0) ∷ (record { owner = 1; slot = 1 }, Ref 1) ∷ []; objects = record { raw = false; fields = Nil ∷ [] } ∷ record { raw = false; fields = [] } ∷ [] })
unfolding digits graph_within lines_from line_or_kind line_due version_or_fault formed_parts is_formed roots_of_parts objects_of_parts part_after two_parts number_up_to number_of root_of_parts root_or_fault small_root_of root_of value_or_fault reference_or_fault object_of_parts object_head own_number fields_or_fault values_or_fault text
two_roots = refl

raw_object : graph_of_text (text (codes "rheap 2" ∷ codes "roots 1" ∷ codes "1.1 @0" ∷ codes "objects 2" ∷ codes "@0 1 @1" ∷ codes "@1 raw 2 5 nil" ∷ codes "end" ∷ []))
    ≡ Ok (record { roots = (record { owner = 1; slot = 1 }, Ref 0) ∷ []; objects = record { raw = false; fields = Ref 1 ∷ [] } ∷ record { raw = true; fields = Int (pos 5) ∷ Nil ∷ [] } ∷ [] })
unfolding digits graph_within lines_from line_or_kind line_due version_or_fault formed_parts is_formed roots_of_parts objects_of_parts part_after two_parts number_up_to number_of root_of_parts root_or_fault small_root_of root_of value_or_fault plain_or_fault whole_or_fault whole_of integer_of reference_or_fault object_of_parts object_head own_number fields_or_fault values_or_fault text
raw_object = refl
