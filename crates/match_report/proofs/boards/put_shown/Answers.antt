use Rattle.std.proofs.Common.{◌≡◌, ◌+◌, ◌∷◌, [], ◌++◌, map, ap, ◌∙◌, append_assoc, arith}
use Rattle.std.specs.List.{range_with_len}
use Rattle.std.proofs.lemmas.List.{map-append}
use Rattle.std.proofs.lemmas.List.FromFn.{map-range_with_len_more}
use Rattle.match_puzzle.specs.Puzzle.{colour_of}
use Rattle.text_words.specs.Spelling.{colour_character, tile_word}
use Rattle.match_report.proofs.boards.put_shown.Goals as goal

pub loop-side-preserved : goal.loop-side-preserved
loop-side-preserved c =
    let side = c.loop-side.side in
    let before = c.args.text.now.items in
    let shown = colour_of c.args.puzzle.now c.args.placement in
    let front = tile_word (map shown (range_with_len 0 side)) in
    let none : 0 + side ≡ side = omega arith in
    let more : tile_word (map shown (range_with_len 0 (side + 1))) ≡ front ++ colour_character (shown side) ∷ [] =
    ap tile_word (map-range_with_len_more shown 0 side side none) ∙ map-append colour_character (map shown (range_with_len 0 side)) (shown side ∷ []) in
    let character : c.character.result ≡ colour_character (shown side) = c.character.ensures ∙ ap colour_character c.colour.ensures.colour in
    rw (c.in_ok-push.ensures.items, c.loop-side.invariant, character, more) (append_assoc before front (colour_character (shown side) ∷ []))
