use Rattle.std.proofs.Common.{◌≡◌, ◌<◌, ◌∷◌, [], ◌++◌, length, take, slice_index, sym, ap, ◌∙◌, append_assoc, arith}
use Rattle.match_board.specs.Tile.{word}
use Rattle.match_board.proofs.TurnsLemmas.{shown-none}
use Rattle.text_words.specs.Spelling.{colour_character, tile_word}
use Rattle.text_words.proofs.WritingLemmas.{colours_more}
use Rattle.match_text.proofs.puzzle_spellings.put_colours.Goals as goal

pub loop-side-preserved : goal.loop-side-preserved
loop-side-preserved c =
    let colours = word c.args.tile.now in
    let side = c.loop-side.side in
    let lt : side < length colours = omega (arith, c.sides-side-end.ensures.count) in
    let shows : c.character.result ≡ colour_character (slice_index colours side) = c.character.ensures ∙ ap colour_character (c.shows.ensures.colour ∙ shown-none colours side lt) in
    c.in_ok-push.ensures.items ∙ ap (λ x. c.loop-side.text.items ++ x ∷ []) shows ∙ ap (λ t. t ++ colour_character (slice_index colours side) ∷ []) c.loop-side.invariant
    ∙ append_assoc c.args.text.now.items (tile_word (take side colours)) (colour_character (slice_index colours side) ∷ []) ∙ ap (λ t. c.args.text.now.items ++ t) (sym (colours_more colours side lt))
