-- The counts of a graph's text, and of one that is written out.
use Rattle.std.proofs.Common.{◌≡◌, ◌∙◌, ℕ, pos, List, [], ◌∷◌, ◌++◌, length, Option, Result, Ok, true, false, ap₂, codes, refl, subst}
use Rattle.std.specs.Fmt.{decimal, digits}
use Rattle.std.specs.List.{flat_map}
use Rattle.std.specs.Io.KnownBytes.{Appends}
use Rattle.rh_layout.specs.declared.value.Value.TheVariants.{Int, Ref}
use Rattle.rh_text.specs.Number.{number_of, integer_of}
use Rattle.rh_text.specs.Parts.{is_formed, two_parts}
use Rattle.rh_text.specs.Root.{root_of}
use Rattle.rh_dump.specs.declared.reading.fault.DumpFault.{DumpFault}
use Rattle.rh_dump.specs.Dump.{GraphState}
use Rattle.rh_dump.specs.texts.Part.{number_up_to, whole_of, small_root_of, object_head}
use Rattle.rh_dump.specs.texts.Reading.{formed_parts, part_after, roots_of_parts, objects_of_parts, reference_or_fault, value_or_fault, values_or_fault, root_or_fault, root_of_parts, own_number, fields_or_fault, object_of_parts, plain_or_fault, whole_or_fault, version_or_fault, line_due, line_or_kind, lines_from, graph_within, graph_of_text}
use Rattle.rh_commands.specs.Count.{counts_line}
use Rattle.rh_cli.specs.Drive.{Concludes}
use Rattle.rh_command_line.specs.declared.ask.Subcommand.TheVariants.{Dump}
use Rattle.rh_cli.proofs.StatusLaws.{concludes_dump_0}

same_graph_read : (read : Result GraphState DumpFault) (a b : GraphState) → read ≡ Ok a → read ≡ Ok b → a ≡ b
same_graph_read read a b p q = cc

-- what is counted of a text is the line of the graph that it is read as
pub counted_as : (input : List ℕ) (g : GraphState) (old new : Option (List ℕ)) → graph_of_text input ≡ Ok g → Concludes Dump input 0 old new → Appends old new (counts_line g)
counted_as input g old new read ends =
    let found = concludes_dump_0 input old new ends in
    subst (λ (graph : GraphState). Appends old new (counts_line graph)) (same_graph_read (graph_of_text input) found.0 g found.1 read) found.2

abbrev line_of : ℕ → ℕ → List ℕ
line_of roots objects = codes "roots " ++ (decimal roots ++ (codes " objects " ++ (decimal objects ++ 10 ∷ [])))

one_and_one : line_of 1 1 ≡ codes "roots 1 objects 1" ++ 10 ∷ []
unfolding digits
one_and_one = refl

-- the line of one root and one object
pub counted_one : (g : GraphState) → length g.roots ≡ 1 → length g.objects ≡ 1 → counts_line g ≡ codes "roots 1 objects 1" ++ 10 ∷ []
counted_one g roots objects = ap₂ line_of roots objects ∙ one_and_one

abbrev two_roots_text : List ℕ
two_roots_text = flat_map (λ line. line ++ 10 ∷ []) (codes "rheap 1" ∷ codes "roots 2" ∷ codes "1.0 @0" ∷ codes "1.1 @0" ∷ codes "objects 1" ∷ codes "@0 0" ∷ codes "end" ∷ [])

abbrev two_roots_graph : GraphState
two_roots_graph = record { roots = (record { owner = 1; slot = 0 }, Ref 0) ∷ (record { owner = 1; slot = 1 }, Ref 0) ∷ []; objects = record { raw = false; fields = [] } ∷ [] }

two_roots_read : graph_of_text two_roots_text ≡ Ok two_roots_graph
unfolding digits graph_within lines_from line_or_kind line_due version_or_fault formed_parts is_formed roots_of_parts objects_of_parts part_after two_parts number_up_to number_of root_of_parts root_or_fault small_root_of root_of value_or_fault reference_or_fault object_of_parts object_head own_number fields_or_fault values_or_fault
two_roots_read = refl

two_and_one : counts_line two_roots_graph ≡ codes "roots 2 objects 1" ++ 10 ∷ []
unfolding digits
two_and_one = refl

-- what is counted of a dump in which two roots refer to one object
pub counted_two : (old new : Option (List ℕ)) → Concludes Dump two_roots_text 0 old new → Appends old new (codes "roots 2 objects 1" ++ 10 ∷ [])
counted_two old new ends = subst (Appends old new) two_and_one (counted_as two_roots_text two_roots_graph old new two_roots_read ends)

abbrev raw_text : List ℕ
raw_text = flat_map (λ line. line ++ 10 ∷ []) (codes "rheap 2" ∷ codes "roots 1" ∷ codes "1.0 @0" ∷ codes "objects 2" ∷ codes "@0 1 @1" ∷ codes "@1 raw 1 5" ∷ codes "end" ∷ [])

abbrev raw_graph : GraphState
raw_graph = record { roots = (record { owner = 1; slot = 0 }, Ref 0) ∷ []; objects = record { raw = false; fields = Ref 1 ∷ [] } ∷ record { raw = true; fields = Int (pos 5) ∷ [] } ∷ [] }

raw_read : graph_of_text raw_text ≡ Ok raw_graph
unfolding digits graph_within lines_from line_or_kind line_due version_or_fault formed_parts is_formed roots_of_parts objects_of_parts part_after two_parts number_up_to number_of root_of_parts root_or_fault small_root_of root_of value_or_fault plain_or_fault whole_or_fault whole_of integer_of reference_or_fault object_of_parts object_head own_number fields_or_fault values_or_fault
raw_read = refl

one_and_two : counts_line raw_graph ≡ codes "roots 1 objects 2" ++ 10 ∷ []
unfolding digits
one_and_two = refl

-- what is counted of a dump in which an object refers to a raw one
pub counted_raw : (old new : Option (List ℕ)) → Concludes Dump raw_text 0 old new → Appends old new (codes "roots 1 objects 2" ++ 10 ∷ [])
counted_raw old new ends = subst (Appends old new) one_and_two (counted_as raw_text raw_graph old new raw_read ends)
