use Rattle.std.proofs.Common.{◌<◌, ◌≤◌, ℕ, Contains, [], map, length, get_or, arith, sym, subst, inl, inr, below_more}
use Rattle.std.proofs.lemmas.List.{length-map}
use Rattle.match_board.specs.declared.figures.Figure.{Figure}
use Rattle.match_board.specs.Tile.{word}
use Rattle.match_puzzle.specs.Puzzle.{task_by}
use Rattle.match_puzzle.specs.Colours.{HasColour}
use Rattle.match_puzzle.proofs.Words.{word_at}
use Rattle.match_puzzle.proofs.TogetherLemmas.{all_below}
use Rattle.match_puzzle.proofs.TableLemmas.{colour_count_is}
use Rattle.match_puzzle.proofs.tables.colour_count.Goals as goal
use Rattle.match_puzzle.proofs.tables.colour_count.Goals.{then-of_tile-count, else-of_tile-count}

pub loop-tile-init : goal.loop-tile-init
loop-tile-init c = record {
  border = c.named_colour_count-count.ensures.border;
  above = λ k colour lt. absurd (omega arith);
  mates = c.named_colour_count-count.ensures.mates;
  clues = c.named_colour_count-count.ensures.clues;
  least = λ board version other bound.
      c.named_colour_count-count.ensures.least other (λ place colour stands. bound colour (inr (inl (place, stands))))
      (all_below (length c.args.rules.now.mates.now) other (λ colour lt. bound colour (inr (inr (inl lt)))))
      (λ cell side colour asks. bound colour (inr (inr (inr (cell, side, asks)))));
}

pub loop-tile-preserved : goal.loop-tile-preserved
loop-tile-preserved c =
    let tiles = c.args.tiles.now in
    let i = c.loop-tile.tile-index in
    let at = word_at tiles i c.tile-item.result c.loop-tile-test.true c.tile-item.is in
    let of_tile = c.colour_count-of_tile.result in
    let here : (colour : ℕ) → Contains (get_or (map word tiles) i []) colour → colour < of_tile = λ colour among. c.colour_count-of_tile.ensures.above colour (subst (λ w. Contains w colour) at among) in
    let bounds : (board : Figure) (version other : ℕ) → ((colour : ℕ) → HasColour (task_by board c.args.rules.now version tiles) colour → colour < other) → of_tile ≤ other =
    λ board version other bound. c.colour_count-of_tile.ensures.least other (λ colour among. bound colour (inl (i, omega (arith, c.loop-tile-test.true, length-map tiles word), subst (λ w. Contains w colour) (sym at) among))) in
    elim c.if-of_tile-count.branch [
      | then-of_tile-count v ↦ record {
        border = λ place colour stands. omega (arith, c.loop-tile.invariant.border place colour stands, v.count-is, v.if-of_tile-count.true);
        mates = omega (arith, c.loop-tile.invariant.mates, v.count-is, v.if-of_tile-count.true);
        clues = λ cell side colour asks. omega (arith, c.loop-tile.invariant.clues cell side colour asks, v.count-is, v.if-of_tile-count.true);
        above = λ k colour lt among.
            below_more (λ k. Contains (get_or (map word tiles) k []) colour → colour < c.if-of_tile-count.count) i (λ k lt among. omega (arith, c.loop-tile.invariant.above k colour lt among, v.count-is, v.if-of_tile-count.true)) (λ among. omega (arith, here colour among, v.count-is)) k lt among;
        least = λ board version other bound. omega (arith, bounds board version other bound, v.count-is);
      }
      | else-of_tile-count v ↦ record {
        border = λ place colour stands. omega (arith, c.loop-tile.invariant.border place colour stands, v.count-is);
        mates = omega (arith, c.loop-tile.invariant.mates, v.count-is);
        clues = λ cell side colour asks. omega (arith, c.loop-tile.invariant.clues cell side colour asks, v.count-is);
        above = λ k colour lt among.
            below_more (λ k. Contains (get_or (map word tiles) k []) colour → colour < c.if-of_tile-count.count) i (λ k lt among. omega (arith, c.loop-tile.invariant.above k colour lt among, v.count-is)) (λ among. omega (arith, here colour among, v.count-is, v.if-of_tile-count.false)) k lt among;
        least = λ board version other bound. omega (arith, c.loop-tile.invariant.least board version other bound, v.count-is);
      }
    ]

pub returns : goal.returns
returns c = λ board version.
    colour_count_is board c.args.rules.now version c.args.tiles.now c.loop-tile.count c.loop-tile.invariant.border (λ k colour lt. c.loop-tile.invariant.above k colour (omega (arith, lt, c.loop-tile-test.false))) c.loop-tile.invariant.mates c.loop-tile.invariant.clues (c.loop-tile.invariant.least board version)
