use Rattle.std.proofs.Common.{refl}
use Rattle.vx_rows.specs.Table.{operations}
use Rattle.vx_source.specs.Names.{register_names, vector_names, named_controls}
use Rattle.vx_source.specs.Vtypes.{vtype_words}
use Rattle.vx_language.specs.Assembly.{layout, twice_faults, placed_faults, plain_faults, reach_faults, faults, chunks, bytes_before_zeros, zeros_at_end, assembled}
use Rattle.vx_language.specs.Bytes.{is_source_byte, is_digit, is_hex_digit, begins_name, is_name_byte, is_mark}
use Rattle.vx_language.specs.Code.{filled, filled_all, upper_part, lower_part, expanded, instr_bytes}
use Rattle.vx_language.specs.Examples.{fault_examples, program_examples, vector_fault_examples, vector_examples}
use Rattle.vx_language.specs.Faults.{comes_before, earlier, first_of}
use Rattle.vx_language.specs.Forms.{directives, pseudo_statements, forms_of}
use Rattle.vx_language.specs.Lexemes.{beginning, piece_length, number_kind, kind_of, piece_with, first_piece, pieces_behind, is_a, lexemes}
use Rattle.vx_language.specs.Lines.{lines_from, is_the_mark, labels_before, behind_labels, labels_in}
use Rattle.vx_language.specs.Names.{numbered_names, register_number, vector_number, vtype_number, control_number, instr_named}
use Rattle.vx_language.specs.Numerals.{is_hexadecimal, digits_length, digit_value, from_digits, magnitude, number_value, is_number_value}
use Rattle.vx_language.specs.Places.{placement_faults, own_faults, size_of, too_large, next_section, place_behind, placed_from, end_from, section_address, label_address, distance, offset_faults}
use Rattle.vx_language.specs.Slots.{is_offset, takes, token_faults, ways_behind_commas}
use Rattle.vx_language.specs.Statements.{forms_for, operand_faults, named_faults, statement_faults, take_all, form_for, numbers_in, count_in, chunk_of, statement_form, statement_chunk}
use Rattle.vx_language.specs.Texts.{text_length, is_escape, is_whole_text, meant, text_bytes}
use Rattle.vx_language.specs.Tokens.{bad_bytes, bad_pieces, tokens}
use Rattle.vx_language.proofs.laws.examples_hold.Goals as goal

pub returns : goal.returns
unfolding layout twice_faults placed_faults plain_faults reach_faults faults chunks bytes_before_zeros zeros_at_end assembled is_source_byte is_digit is_hex_digit begins_name is_name_byte is_mark filled filled_all upper_part lower_part expanded instr_bytes fault_examples program_examples vector_fault_examples vector_examples comes_before earlier first_of directives pseudo_statements forms_of beginning piece_length number_kind kind_of piece_with first_piece pieces_behind is_a lexemes lines_from is_the_mark labels_before behind_labels labels_in numbered_names register_number vector_number vtype_number control_number instr_named is_hexadecimal digits_length digit_value from_digits magnitude number_value is_number_value placement_faults own_faults size_of too_large next_section place_behind placed_from end_from section_address label_address distance offset_faults is_offset takes token_faults ways_behind_commas forms_for operand_faults named_faults statement_faults take_all form_for numbers_in count_in chunk_of statement_form statement_chunk text_length is_escape is_whole_text meant text_bytes bad_bytes bad_pieces tokens register_names vector_names vtype_words named_controls operations
returns c = record { faults = refl; programs = refl; vector_faults = refl; vectors = refl }
