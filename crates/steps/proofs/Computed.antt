-- All that a computed example has to see through: a name on an `unfolding` line opens what its own line opens.
use Rattle.std.specs.Option.{option_or}
use Prim.Native.Nat.{ℕ}
use lib.Ieee.{of_bits, to_bits, add, sub, mul, div, lt, le, eq, neg}
use Rattle.geometry.specs.Geometry.{sum_axes, plus}
use Rattle.limits.specs.Limits.{same_f, too_large, in_range}
use Rattle.util.specs.Math.{larger, smaller, capped, floored, clamped}
use Rattle.util.specs.Maybe.{or_zero, add_opt, sub_opt, clamp_opt, floor_opt, ratio_width, ratio_height, ratio_fills, add_size}
use Rattle.length.specs.Length.{scaled, resolved, resolved_or_zero, is_auto, resolved_rect, resolved_size}
use Rattle.length.specs.Available.{available_less, definite}
use Rattle.style.specs.Codes.{kind_of, position_of, overflow_of, overflow_xy, align_of, distributed, align_at, unit_of, length_of, ratio_of, baseline_of}
use Rattle.style.specs.Style.{word_at, number_at, length_at, size_at, rect_at, measure_at, style_at}
use Rattle.margin.specs.Margin.{no_margins, set_of, joined, joined_with, sum_of}
use Rattle.alignment.specs.Align.{room_of, align_shift}
use Rattle.tree.specs.Tree.{count_t, flat_t, map_t, root_t, on_root}
use Rattle.tree.specs.Table.{from, parse_f, parse_t}
use Rattle.steps.specs.HeightBasis.{definite_of, basis_below}
use Rattle.steps.specs.Sizing.{box_size, sized_by, sizing_of, step_a, decided, known_axis, step_b, filled, step_d, known_of, bar_of, gutter, insets}
use Rattle.style.specs.Flow.{positioned, flow_by, flow_of, is_leaf, is_in}
use Rattle.steps.specs.Width.{side_margins, outer_of, outer_width, want_by, want_sized, want_in, want_of, content_width, leaf_width}
use Rattle.steps.specs.Context.{clips, is_normal, new_context, plain_block}
use Rattle.steps.specs.Through.{open_box, hollow_box, step_n, passed_out, output_of, finished, leaf_output}
use Rattle.steps.specs.Baseline.{at_place, baseline_past, shifted, block_baseline}
use Rattle.steps.specs.Edges.{adjoins, own_end_of, step_i, frame_of}
use Rattle.steps.specs.Stack.{inner_width, start_of, neg_opt, offset_x, relative_offset, offset_by, item_of, asked_width, asked_height, child_input, question_to, top_margins, bottom_margins, at_top, gap_of, free_of, share_of, place_x, place_y, place_of, past_through, past_box, stepped, line_of, edges_of, past_aside, past_hidden}
use Rattle.steps.specs.Height.{extra_of, step_k, step_l, held_open, still_own_end, step_m}
use Rattle.steps.specs.Row.{is_laid, is_out, available_kind, probe_code, no_probe, probe_note, probe_of, with_code, noted, bare, no_row, hidden_row, aside_row, laid_row, output_in, put_at, lowered}
use Rattle.steps.specs.Page.{named, any_t, site_at, cell_at, page_of, cells_of, blank, cleared, staying, probed_anew, edits}
use Rattle.steps.specs.Kept.{final_stands, edited_node, kept, kept_row, laid_bits, below_row, zeros_t, zeros_f, fix_t, keep}
use Rattle.steps.specs.Layout.{lower_f, align_f, leaf_laid, block_laid, skip, aside, place, lay_t, ask_t, relaid, fresh}
use Rattle.steps.specs.Results.{rows_out, marks_out, listed, on_front, accepted, over_limit, replied, tested, layout_result, relayout_result, size_reply, size_by_test, size_result, size_paper}
use Rattle.steps.specs.Probe.{probe_stands, answered, probe_known, space_in, found_width, asked, block_probe, stay, widen, probe_t, ask_p, pass_by, width_pass}
use Rattle.steps.specs.Scan.{scan, how_many}
use Rattle.steps.specs.Candidates.{candidate_of, moved_by, candidates_at, candidates_t, candidates, needed_t, needed}
use Rattle.steps.specs.Noes.{paper, refusal_paper, and_then, bad_tables, bad_rows, holds, bad_tree, no_auto, bad_unit, bad_word, bad_safety, bad_baseline, bad_align, bad_codes, ratio_beside_fraction, bad_style, signed, most_of, bad_field, bad_ratio, bad_numbers, bad_option, bad_question, bad_edit, bad_row, at_fault, at_spot, no2, no3, no4, no5, no6, no7, page_tested, layout_tested, relayout_tested, size_tested}
use Rattle.steps.specs.SizeQuestion.{axes, width_known, step_c, step_g, size_below, size_of}

-- the steps, both passes, kept nodes
unfoldable pub steps : ℕ
unfolding sum_axes plus same_f too_large larger smaller capped floored clamped add_opt sub_opt clamp_opt floor_opt ratio_width ratio_height ratio_fills add_size scaled resolved resolved_or_zero is_auto resolved_rect resolved_size available_less definite kind_of position_of overflow_of overflow_xy align_of distributed align_at unit_of length_of ratio_of baseline_of word_at number_at length_at size_at rect_at measure_at style_at no_margins set_of joined joined_with sum_of room_of align_shift count_t flat_t map_t root_t on_root from parse_f parse_t box_size sized_by sizing_of step_a definite_of basis_below decided known_axis step_b filled step_d known_of bar_of gutter insets positioned flow_by flow_of is_leaf side_margins outer_of outer_width want_by want_sized want_in want_of content_width leaf_width clips is_normal new_context is_in plain_block adjoins open_box hollow_box own_end_of step_i frame_of inner_width start_of neg_opt offset_x relative_offset offset_by item_of asked_width asked_height child_input question_to top_margins bottom_margins at_top gap_of free_of share_of place_x place_y place_of at_place baseline_past past_through past_box stepped line_of edges_of past_aside past_hidden extra_of step_k step_l held_open still_own_end step_m step_n passed_out shifted block_baseline output_of finished leaf_output is_laid is_out available_kind probe_code no_probe probe_note probe_of with_code noted bare no_row hidden_row aside_row laid_row output_in put_at lowered named any_t site_at cell_at page_of cells_of blank cleared staying probed_anew edits final_stands edited_node kept kept_row laid_bits below_row zeros_t zeros_f fix_t keep lower_f align_f leaf_laid block_laid skip aside place lay_t ask_t relaid fresh rows_out marks_out of_bits to_bits add sub mul div lt le eq neg probe_stands answered probe_known space_in found_width asked block_probe stay widen probe_t ask_p pass_by width_pass
steps = 0

-- the tests, the candidates and the results of the public calls besides
unfoldable pub calls : ℕ
unfolding steps in_range scan how_many candidate_of moved_by candidates_at candidates_t candidates needed_t needed paper refusal_paper and_then bad_tables bad_rows holds bad_tree no_auto bad_unit bad_word bad_safety bad_baseline bad_align bad_codes ratio_beside_fraction bad_style signed most_of bad_field bad_ratio bad_numbers bad_option bad_question bad_edit bad_row at_fault at_spot no2 no3 no4 no5 no6 no7 page_tested layout_tested relayout_tested size_tested axes width_known step_c step_g size_below size_of listed on_front accepted over_limit replied tested layout_result relayout_result size_reply size_by_test size_result size_paper
calls = 0
