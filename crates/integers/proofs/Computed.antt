-- All that a computed example has to see through of the engine over whole numbers.
use Prim.Native.Nat.{ℕ}
use Rattle.integers.specs.Numbers.{unwrap_or_z, or_zero_z, or_else_z, is_some_z, add_opt_z, sub_opt_z, neg_opt_z, capped_z, floored_z, clamped_z, clamp_opt_z, floor_opt_z, across_z, down_z, plus_z, sides_z, no_margins_z, set_of_z, joined_z, joined_with_z, sum_of_z}
use Rattle.integers.specs.Styles.{flow_z, new_context_z, plain_block_z, available_less_z, definite_z}
use Rattle.integers.specs.Boxes.{box_size_z, box_both_z, box_of_z, decided_z, known_axis_z, known_z, bar_of_z, gutter_z, insets_z}
use Rattle.integers.specs.Widths.{side_margins_z, outer_of_z, outer_width_z, want_by_z, want_sized_z, want_in_z, want_of_z, found_width_z, leaf_width_z, cleared_z, asked_z, block_probe_z, widen_z, space_in_z, probe_known_z, pass_by_z, width_pass_z, probe_tz, probe_fz}
use Rattle.integers.specs.Rows.{no_probe_z, available_kind_z, probe_note_z, bare_z, no_row_z, hidden_row_z, aside_row_z, laid_row_z, put_at_z, lowered_z}
use Rattle.integers.specs.Stacks.{adjoins_z, open_box_z, hollow_box_z, definite_of_z, basis_below_z, step_iz, frame_of_z, inner_width_z, offset_xz, relative_offset_z, offset_by_z, item_of_z, asked_width_z, asked_height_z, child_input_z, question_to_z, start_of_z, top_margins_z, bottom_margins_z, at_top_z, gap_of_z, free_of_z, share_of_z, place_xz, place_yz, place_of_z, at_place_z, baseline_past_z, past_through_z, past_box_z, stepped_z, line_of_z, past_aside_z, past_hidden_z}
use Rattle.integers.specs.Heights.{extra_of_z, step_kz, step_lz, held_open_z, still_own_end_z, room_of_z, align_shift_z, step_mz, shifted_z, step_nz, passed_out_z, output_of_z, finished_z, leaf_output_z}
use Rattle.integers.specs.Layout.{zeros_tz, zeros_fz, lower_fz, align_fz, leaf_laid_z, block_laid_z, skip_z, aside_z, place_z, fresh_z, lay_tz, lay_fz}
use Rattle.integers.specs.Candidates.{candidate_of_z, moved_by_z, candidates_at_z, candidates_z, candidates_tz, candidates_fz}
use Rattle.integers.specs.Sizes.{axes_z, width_known_z, step_cz, step_gz, size_below_z, size_of_z}
use Rattle.integers.specs.Results.{rows_out_z, marks_out_z}

unfoldable pub wholes : ℕ
unfolding unwrap_or_z or_zero_z or_else_z is_some_z add_opt_z sub_opt_z neg_opt_z capped_z floored_z clamped_z clamp_opt_z floor_opt_z across_z down_z plus_z sides_z no_margins_z set_of_z joined_z joined_with_z sum_of_z flow_z new_context_z plain_block_z available_less_z definite_z box_size_z box_both_z box_of_z decided_z known_axis_z known_z bar_of_z gutter_z insets_z side_margins_z outer_of_z outer_width_z want_by_z want_sized_z want_in_z want_of_z found_width_z leaf_width_z cleared_z asked_z block_probe_z widen_z space_in_z probe_known_z pass_by_z width_pass_z probe_tz probe_fz no_probe_z available_kind_z probe_note_z bare_z no_row_z hidden_row_z aside_row_z laid_row_z put_at_z lowered_z adjoins_z open_box_z hollow_box_z definite_of_z basis_below_z step_iz frame_of_z inner_width_z offset_xz relative_offset_z offset_by_z item_of_z asked_width_z asked_height_z child_input_z question_to_z start_of_z top_margins_z bottom_margins_z at_top_z gap_of_z free_of_z share_of_z place_xz place_yz place_of_z at_place_z baseline_past_z past_through_z past_box_z stepped_z line_of_z past_aside_z past_hidden_z extra_of_z step_kz step_lz held_open_z still_own_end_z room_of_z align_shift_z step_mz shifted_z step_nz passed_out_z output_of_z finished_z leaf_output_z zeros_tz zeros_fz lower_fz align_fz leaf_laid_z block_laid_z skip_z aside_z place_z fresh_z lay_tz lay_fz candidate_of_z moved_by_z candidates_at_z candidates_z candidates_tz candidates_fz axes_z width_known_z step_cz step_gz size_below_z size_of_z rows_out_z marks_out_z
wholes = 0
