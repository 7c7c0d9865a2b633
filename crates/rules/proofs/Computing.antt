-- Opens every definition of the rules: an example says `unfolding computing`, and `refl` then computes it.
-- To unfold a name is to unfold what its own `unfolding` line names: here one name for each file of specs/, and `computing` for all.
-- A new definition of specs/ is added to the two lines of its file, the `use` line and the `unfolding` line.
use Rattle.rules.specs.Words.{num_after, num, bytes_before, bytes_of, word, word_at, words, same_bytes}
use Rattle.rules.specs.Table.{get, record_before, put, puts, record_bytes, bytes, room, occupied, store, length_fits, ascending_above, ascending, record_form}
use Rattle.rules.specs.KernelStorage.{in_kernel_storage, slot, middle_of, end_second, end_third, ending, address_slot, index_slot, count_slot, word_slot, length_slot, place_slot, kernel_address_slot, current_slot, entry_slot}
use Rattle.rules.specs.Capabilities.{number, kind_among, kind_of, word_count, word_of, greatest_prefix, prefix, base, first_bits, covers_key, within_prefix, covers_address, within_range, covers, within, prefix_up_to}
use Rattle.rules.specs.Procedures.{list_length, key_at, address_of, index_of, count_of, kernel_address, current, entry_key, words_from, capability, capabilities_from, held, listed}
use Rattle.rules.specs.Sound.{all_of, any_of, all_places, is_key, is_address, kind_sound, place_sound, word_belongs, kind_belongs, procedure_belongs, of_listed_procedure, place_belongs, fixed_belongs, belongs, record_belongs, sound, sound_table}
use Rattle.rules.specs.Messages.{type_of, data_of, kind_or_unknown, named, minimum, open_ended, overlong, index_word, key_word, address_word, write_address, write_value, payload_of, key_too_long, address_too_long, leading_bytes, request_of, request_at, add_request, series_from, series, series_of, malformed, or_empty, requests, same_kind, requested_of}
use Rattle.rules.specs.Validation.{allowed, data_bytes, walk, passes}
use Rattle.rules.specs.Answers.{code_number, code_bytes, fields, succeeds, judge, outcome}
use Rattle.rules.specs.Calls.{wrong_bytes, is_zero, no_room, word_records, capability_records, kind_records, after_register, first_capabilities, fixed_records, fresh, set_up_row, set_up, turn_row, turn, look_row, look, index_out_of_range, chosen, not_covering, call_row, set_entry_row, of_procedure, without_procedure, after_delete, delete_row, write_row, contained, tests_in, tests, too_many, register_row, own_row, format_row, named_row, system_row, system_call}
use Rattle.rules.specs.Program.{last_line, lines_from, lines, digit_of, byte_before, digits, message_of, hex_digit, hex, decimal_before, decimal, spaced, printed, program_table, program_code, program_mask, answers_from, program}

unfoldable computing-words : Unit {0}
unfolding num_after num bytes_before bytes_of word word_at words same_bytes
computing-words = tt

unfoldable computing-table : Unit {0}
unfolding get record_before put puts record_bytes bytes room occupied store length_fits ascending_above ascending record_form
computing-table = tt

unfoldable computing-kernel_storage : Unit {0}
unfolding in_kernel_storage slot middle_of end_second end_third ending address_slot index_slot count_slot word_slot length_slot place_slot kernel_address_slot current_slot entry_slot
computing-kernel_storage = tt

unfoldable computing-capabilities : Unit {0}
unfolding number kind_among kind_of word_count word_of greatest_prefix prefix base first_bits covers_key within_prefix covers_address within_range covers within prefix_up_to
computing-capabilities = tt

unfoldable computing-procedures : Unit {0}
unfolding list_length key_at address_of index_of count_of kernel_address current entry_key words_from capability capabilities_from held listed
computing-procedures = tt

unfoldable computing-sound : Unit {0}
unfolding all_of any_of all_places is_key is_address kind_sound place_sound word_belongs kind_belongs procedure_belongs of_listed_procedure place_belongs fixed_belongs belongs record_belongs sound sound_table
computing-sound = tt

unfoldable computing-messages : Unit {0}
unfolding type_of data_of kind_or_unknown named minimum open_ended overlong index_word key_word address_word write_address write_value payload_of key_too_long address_too_long leading_bytes request_of request_at add_request series_from series series_of malformed or_empty requests same_kind requested_of
computing-messages = tt

unfoldable computing-validation : Unit {0}
unfolding allowed data_bytes walk passes
computing-validation = tt

unfoldable computing-answers : Unit {0}
unfolding code_number code_bytes fields succeeds judge outcome
computing-answers = tt

unfoldable computing-calls : Unit {0}
unfolding wrong_bytes is_zero no_room word_records capability_records kind_records after_register first_capabilities fixed_records fresh set_up_row set_up turn_row turn look_row look index_out_of_range chosen not_covering call_row set_entry_row of_procedure without_procedure after_delete delete_row write_row contained tests_in tests too_many register_row own_row format_row named_row system_row system_call
computing-calls = tt

unfoldable computing-program : Unit {0}
unfolding last_line lines_from lines digit_of byte_before digits message_of hex_digit hex decimal_before decimal spaced printed program_table program_code program_mask answers_from program
computing-program = tt

unfoldable pub computing : Unit {0}
unfolding computing-words computing-table computing-kernel_storage computing-capabilities computing-procedures computing-sound computing-messages computing-validation computing-answers computing-calls computing-program
computing = tt
