use Rattle.std.proofs.Common.{◌≡◌, ◌≢◌, ◌<◌, ◌∙◌, [], ℕ, length, map, arith, ap, sym, below_more, slice_index_or}
use Rattle.std.proofs.lemmas.List.{length-map}
use Rattle.match_board.specs.Board.{side_count}
use Rattle.match_board.specs.Tile.{word}
use Rattle.match_limits.proofs.FirstLemmas.{least_at}
use Rattle.match_puzzle.proofs.Words.{word_at}
use Rattle.match_puzzle.proofs.tables.odd_tile.Goals as goal

pub returns-then-sides : goal.returns-then-sides
returns-then-sides c =
    let tiles = c.args.tiles.now in
    let n = c.loop-number.number in
    let OddAt : ℕ → Type 0 = λ tile. (tile < length (map word tiles)) × (length (slice_index_or (map word tiles) tile []) ≢ side_count c.args.board.now) in
    let at = ap length (word_at tiles n c.index-tiles-number.result c.loop-number-test.true c.index-tiles-number.is) in
    let within : n < length (map word tiles) = omega (arith, c.loop-number-test.true, length-map tiles word) in
    least_at OddAt n
    (within, λ e. c.if-sides.true (c.sides.ensures.count ∙ sym at ∙ e ∙ sym c.sides-in-loop-number.ensures.count))
    (λ k lt odd. odd.1 (c.loop-number.invariant k lt))

pub returns : goal.returns
returns c = λ tile lt. c.loop-number.invariant tile (omega (arith, lt, length-map c.args.tiles.now word, c.loop-number-test.false))

pub loop-number-preserved : goal.loop-number-preserved
loop-number-preserved c =
    below_more (λ k. length (slice_index_or (map word c.args.tiles.now) k []) ≡ side_count c.args.board.now) c.loop-number.number c.loop-number.invariant
    (ap length (word_at c.args.tiles.now c.loop-number.number c.index-tiles-number.result c.loop-number-test.true c.index-tiles-number.is)
    ∙ sym c.sides.ensures.count ∙ c.if-sides.false ∙ c.sides-in-loop-number.ensures.count)
