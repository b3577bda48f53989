use Rattle.std.proofs.Common.{◌≡◌, ◌≤◌, ◌∙◌, Err, ap, arith, length, map, subst}
use Rattle.std.proofs.lemmas.List.{length-map}
use Rattle.std.proofs.lemmas.Result.{err_from_is_err_and}
use Rattle.match_limits.specs.declared.TheConstants.{MOST_CLASSES}
use Rattle.match_board.specs.Tile.{word}
use Rattle.match_board.specs.Turns.{AreLeastWords, HasMoreLeastWords}
use Rattle.match_board.specs.declared.classes.TilesFault.TheVariants as tile_lists
use Rattle.match_text.specs.PuzzleSpelling.{tile_words}
use Rattle.text_words.specs.Spelling.{text_of}
use Rattle.command_runs.proofs.TileLemmas.{tiles_fail}
use Rattle.command_runs.proofs.tile_runs.lines_text.Goals as goal

pub returns-in_err-tiles : goal.returns-in_err-tiles
returns-in_err-tiles c =
    let w = err_from_is_err_and c.from_residual.result c.from_residual.ensures.1 in
    let more : c.in_err-tiles.field-0.0 ≡ tile_lists.TooMany → HasMoreLeastWords c.args.sides c.args.colours MOST_CLASSES =
    λ e. subst (λ n. HasMoreLeastWords n c.args.colours MOST_CLASSES) c.get.ensures.number (subst (λ n. HasMoreLeastWords c.get.result n MOST_CLASSES) c.get-2.ensures.number (c.in_err-tiles.ensures.too_many (ap Err e))) in
    rw (w.1, w.2) (tiles_fail c.args.sides c.args.colours c.in_err-tiles.field-0.0 more)

pub returns : goal.returns
returns c =
    let tiles = c.in_ok-tiles.tiles in
    let words = map word tiles.items in
    let are = subst (λ n. AreLeastWords n c.args.colours words) c.get.ensures.number (subst (λ n. AreLeastWords c.get.result n words) c.get-2.ensures.number c.in_ok-tiles.ensures.tiles) in
    let few : length words ≤ MOST_CLASSES = simp length-map (omega (arith, c.in_ok-tiles.ensures.few, tiles.ok.0)) in
    (words, (are, few), c.new.ensures ∙ c.in_ok-text.ensures ∙ ap (λ xs. text_of (map tile_words (map word xs))) c.deref.ensures.value)
