-- Naming `computing` on an `unfolding` line opens all that the tables compute with.
use Rattle.wire.specs.Answers.{is_accepted, on_accepted, from, told, unplaced, check_at}
use Rattle.wire.specs.Limits.{limits_of}
use Rattle.wire.specs.Envelope.{enclosed, codec_of, first_count, last_count, inner}
use Rattle.wire.specs.Imei.{text_digit, read_imei, packed, pair_up_to, read_packed}
use Rattle.wire.specs.Numbers.{number_at, digits, value_from, little_at, le, signed}
use Rattle.wire.specs.Reading.{and_then, ◌>>=◌, ◌>>◌, pure, here, require, span, number, bytes, up_to, repeat}
use Rattle.checksum.specs.Crc.{feedback, shift, shifts, absorb, crc_from, crc}
use Rattle.frame.specs.Frame.{framed, field_length, field_of, unframe, last_four}
use Rattle.avl.specs.Codecs.{widths_of, is_data_codec, kinds}
use Rattle.avl.specs.DataField.{data_bytes, read_data, data_result}
use Rattle.avl.specs.RecordReader.{value_size, element, group, groups, fixed_fields, avl_record, tagged, in_record, avl_records, at_end, all_records}
use Rattle.avl.specs.Records.{element_count, length_bytes, element_bytes, group_bytes, groups_bytes, fixed_bytes, record_bytes}
use Rattle.packet.specs.DataPackets.{packet_bytes, read_packet, answer_packet, acknowledged, tcp_acknowledgement}
use Rattle.command.specs.Commands.{command_field, command_body, read_field, read_command, answer_command, text_view, text_offset, answered}
use Rattle.command.specs.Layouts.{types, layouts, find_layout, layout_of}
use Rattle.login.specs.Login.{read_login, login_answer}
use Rattle.datagram.specs.Datagrams.{read_header, read_datagram, answer_datagram, acknowledgement_bytes, udp_acknowledgement, judge_header}
use Rattle.store.specs.Entries.{entry_bytes, entries_from, entries_of}
use Rattle.tlv.specs.Form.{fixed_entry, element_entry, group_entries, groups_entries, records_entries, form_entries, form}
use Rattle.tlv.specs.PacketOf.{form_of_packet, form_of_datagram, or17, read_form, packet_within, packet_of_form}
use Rattle.wire.specs.Buffers.{writing, leaving}
use Rattle.command.specs.Writing.{given_imei, packet_of, bytes_within, command_bytes}
use Rattle.tlv.specs.Decoding.{entry_element, run, behind, groups_of, fixed_of, records_of, data_of, decoded}
use Rattle.element.specs.Elements.{lead_size, locate_group, locate_groups, fixed_size, elements, nth, first_with, passed_for}
use Rattle.element.specs.Results.{record_result}
use Rattle.lookup.specs.Places.{place_records}
use Rattle.lookup.specs.Lookups.{tcp_source, udp_source, placed_record, record_by_number, found_in, value_in, value_by_number, value_by_id, or_none, passed_by_id, view, view_offset, value_in_last, in_older, or_else, last_known, passed_in_last, if_none, passed_by_last, known_place}
use Rattle.lookup.specs.Answers.{value_result, answer_value, answer_known, known_view}
use Rattle.contents.specs.Words.{quad, title_words, record_words, value_word}
use Rattle.contents.specs.Contents.{record_contents, contents, contents_of_packet, contents_of_datagram}
use Rattle.checksum.specs.Bits.{ones, differing}
use Rattle.stream.specs.Stream.{needed, item_of, judged_packet, judged, verdict_by, verdict, next, after_byte, taken, cons, by_verdict, stream}
use Rattle.connection.specs.State.{padded, phase_number, kept, fresh, started, is_zero, is_more, phase_of, held_by, opened, count_of, judged_at, wanted}
use Rattle.connection.specs.Feeding.{outcome, feeding, fed, fed_into, packet_in, item_as, fed_as, lent_as}
use Rattle.text.specs.Decimal.{decimal_in, decimal}
use Rattle.text.specs.Hex.{glyph_of}
use Rattle.line.specs.Pieces.{before, behind as behind_byte, onto, pieces, separated}
use Rattle.line.specs.Lines.{unsigned_degrees, degrees, is_plain, escaped, quoted, printed_text, texts, line_fields, line_bytes}
use Rattle.line.specs.LineReader.{all_digits, digits_of, no_spare_zero, read_decimal, read_unsigned, read_degrees, read_hex, read_tag, read_value, read_printed, on_field, next_field, is_tag, read_elements, read_fields, judge_line, read_line, place_in, wrong_at}
use Rattle.line.specs.LineElements.{start_from, element_of, element_at}
use Rattle.line.specs.RecordLines.{printed_of, printed_all, record_line, line_of_packet, line_of_datagram, lines_of_packet, lines_of_datagram}
use Rattle.scan.specs.Walking.{line_result}
use Rattle.scan.specs.Answers.{answer_line, tag_bytes, element_result, answer_element, leaving_element}

unfoldable pub computing : Unit {0}
unfolding on_accepted from told unplaced check_at limits_of enclosed codec_of first_count last_count inner text_digit read_imei packed pair_up_to read_packed number_at digits value_from little_at le signed and_then ◌>>=◌ ◌>>◌ pure here require span number bytes up_to repeat feedback shift shifts absorb crc_from crc framed field_length field_of unframe last_four widths_of is_data_codec kinds data_bytes read_data data_result value_size element group groups fixed_fields avl_record tagged in_record avl_records at_end all_records element_count length_bytes element_bytes group_bytes groups_bytes fixed_bytes record_bytes packet_bytes read_packet answer_packet acknowledged tcp_acknowledgement command_field command_body read_field read_command answer_command text_view text_offset types layouts find_layout layout_of answered read_login is_accepted login_answer read_header read_datagram answer_datagram acknowledgement_bytes udp_acknowledgement judge_header entry_bytes entries_from entries_of fixed_entry element_entry group_entries groups_entries records_entries form_entries form form_of_packet form_of_datagram or17 read_form packet_within packet_of_form writing leaving given_imei packet_of bytes_within command_bytes entry_element run behind groups_of fixed_of records_of data_of decoded lead_size locate_group locate_groups fixed_size elements nth first_with passed_for record_result place_records tcp_source udp_source placed_record record_by_number found_in value_in value_by_number value_by_id or_none passed_by_id view view_offset value_in_last in_older or_else last_known passed_in_last if_none passed_by_last known_place value_result answer_value answer_known known_view quad title_words record_words value_word record_contents contents contents_of_packet contents_of_datagram ones differing needed item_of judged_packet judged verdict_by verdict next after_byte taken cons by_verdict stream padded phase_number kept fresh started is_zero is_more phase_of held_by opened count_of judged_at wanted outcome feeding fed fed_into packet_in item_as fed_as lent_as decimal_in decimal glyph_of before behind_byte onto pieces separated unsigned_degrees degrees is_plain escaped quoted printed_text texts line_fields line_bytes all_digits digits_of no_spare_zero read_decimal read_unsigned read_degrees read_hex read_tag read_value read_printed on_field next_field is_tag read_elements read_fields judge_line read_line place_in wrong_at start_from element_of element_at printed_of printed_all record_line line_of_packet line_of_datagram lines_of_packet lines_of_datagram line_result answer_line tag_bytes element_result answer_element leaving_element
computing = tt
