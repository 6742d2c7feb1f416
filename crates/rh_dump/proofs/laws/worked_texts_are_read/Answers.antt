use Rattle.std.proofs.Common.{refl}
use Rattle.std.specs.Fmt.{digits}
use Rattle.rh_text.specs.Number.{number_of, integer_of}
use Rattle.rh_text.specs.Parts.{is_formed, two_parts}
use Rattle.rh_text.specs.Root.{root_of}
use Rattle.rh_dump.specs.texts.Part.{number_up_to, whole_of, small_root_of, object_head}
use Rattle.rh_dump.specs.texts.Reading.{formed_parts, part_after, roots_of_parts, objects_of_parts, reference_or_fault, value_or_fault, values_or_fault, root_or_fault, root_of_parts, own_number, fields_or_fault, object_of_parts, plain_or_fault, whole_or_fault, version_or_fault, line_due, line_or_kind, lines_from, graph_within}
use Rattle.rh_dump.proofs.laws.worked_texts_are_read.Goals as goal

pub returns-clause-raw : goal.returns-clause-raw
unfolding digits graph_within lines_from line_or_kind line_due version_or_fault formed_parts is_formed roots_of_parts objects_of_parts part_after two_parts number_up_to number_of root_of_parts root_or_fault small_root_of root_of value_or_fault plain_or_fault whole_or_fault whole_of integer_of reference_or_fault object_of_parts object_head own_number fields_or_fault values_or_fault
returns-clause-raw c = refl

pub returns-clause-before : goal.returns-clause-before
unfolding digits graph_within lines_from line_or_kind line_due version_or_fault formed_parts is_formed roots_of_parts objects_of_parts part_after two_parts number_up_to number_of root_of_parts root_or_fault small_root_of root_of value_or_fault plain_or_fault whole_or_fault whole_of integer_of reference_or_fault object_of_parts object_head own_number fields_or_fault values_or_fault
returns-clause-before c = refl

pub returns-clause-none : goal.returns-clause-none
unfolding digits graph_within lines_from line_or_kind line_due version_or_fault formed_parts is_formed roots_of_parts objects_of_parts part_after two_parts number_up_to number_of root_of_parts root_or_fault small_root_of root_of value_or_fault plain_or_fault whole_or_fault whole_of integer_of reference_or_fault object_of_parts object_head own_number fields_or_fault values_or_fault
returns-clause-none c = refl
