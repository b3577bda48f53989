use Rattle.std.proofs.Common.{◌++◌, ap, ◌∙◌}
use Rattle.show_pictures.specs.Clued.{pattern_size, pattern_turn, white_stroke, black_stroke}
use Rattle.show_pictures.proofs.ClueLemmas.{four_written}
use Rattle.show_pictures.proofs.clues.put_pattern.Goals as goal

pub returns : goal.returns
returns c =
    let text = c.args.text.now.items in
    c.in_ok-extend_from_slice-4.ensures.items
    ∙ ap (λ t. t ++ black_stroke) (c.in_ok-extend_from_slice-3.ensures.items ∙ ap (λ t. t ++ white_stroke) (c.in_ok-extend_from_slice-2.ensures.items ∙ ap (λ t. t ++ pattern_turn) c.in_ok-extend_from_slice.ensures.items))
    ∙ four_written text pattern_size pattern_turn white_stroke black_stroke
