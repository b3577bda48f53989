use Rattle.std.proofs.Common.{◌≤◌, ◌<◌, ◌/◌, ◌%◌, ℕ, List, All, ap, map, length, slice_index, arith, subst, sym}
use Rattle.std.proofs.lemmas.List.{length-map}
use Rattle.match_limits.specs.declared.TheConstants.{MOST_CELLS, MOST_TILES}
use Rattle.match_limits.specs.Listing.{IsListing}
use Rattle.match_board.specs.Clues.{clue_of}
use Rattle.match_board.specs.Tile.{word}
use Rattle.match_puzzle.specs.Parts.{task_of_parts}
use Rattle.match_puzzle.proofs.TableLemmas.{clues_alike}
use Rattle.match_puzzle.specs.Tables.{AreSides, AreTurnCounts}
use Rattle.match_puzzle.specs.declared.tables.CellSides.{CellSides}
use Rattle.match_puzzle.proofs.PlacementSetLemmas.{few_turns, few_counts, legal_numbers, unturned_legal}
use Rattle.match_puzzle.proofs.tables.Tables.new.Goals as goal
use Rattle.match_puzzle.proofs.tables.Tables.new.Goals.{After-deref}

counts : (c : After-deref) → AreTurnCounts (task_of_parts c.args.parts.now) c.in_ok-turn_counts.turn_counts.items
counts c = c.in_ok-turn_counts.ensures c.args.parts.now.board c.args.parts.now.version

pub sides_table-requires-clause-border : goal.sides_table-requires-clause-border
sides_table-requires-clause-border c = c.requires.border

pub sides_table-requires-clause-clues : goal.sides_table-requires-clause-clues
sides_table-requires-clause-clues c = λ version tiles. clues_alike c.args.parts.now.board c.args.parts.now.rules.now c.args.parts.now.version version c.args.parts.now.tiles.now tiles c.requires.clues

pub new-requires-clause-tiles : goal.new-requires-clause-tiles
new-requires-clause-tiles c =
    let counted = counts (goal.at.new-requires-clause-tiles c).After-deref in
    let few = few_counts _ c.requires _ counted in
    let long = counted.long in
    omega (arith, few, long, length-map c.args.parts.now.tiles.now word)

pub new-requires-clause-as_many : goal.new-requires-clause-as_many
new-requires-clause-as_many c = subst (λ (xs : List ℕ). length xs ≤ MOST_TILES) (sym c.deref.ensures.value) (few_counts _ c.requires _ (counts (goal.at.new-requires-clause-as_many c).After-deref))

pub new-requires-clause-turns : goal.new-requires-clause-turns
new-requires-clause-turns c = subst (λ (xs : List ℕ). All (λ count. count ≤ 4) xs) (sym c.deref.ensures.value) (few_turns _ c.requires _ (counts (goal.at.new-requires-clause-turns c).After-deref))

pub beginning-requires-clause-few : goal.beginning-requires-clause-few
beginning-requires-clause-few c =
    let are = c.in_ok-sides.ensures c.args.parts.now.version c.args.parts.now.tiles.now in
    let long = are.long in
    let most = c.requires.board.most in
    subst (λ (xs : List CellSides). length xs ≤ MOST_CELLS) (sym c.deref-2.ensures.value) (omega (arith, long, most))

pub beginning-requires-clause-sides : goal.beginning-requires-clause-sides
beginning-requires-clause-sides c = (
  task_of_parts c.args.parts.now,
  c.requires,
  subst (AreSides (task_of_parts c.args.parts.now)) (sym c.deref-2.ensures.value) (c.in_ok-sides.ensures c.args.parts.now.version c.args.parts.now.tiles.now),
)

pub returns : goal.returns
returns c =
    let turn_counts = counts (goal.at.returns c).After-deref in
    record {
      puzzle = c.requires;
      sides = c.in_ok-sides.ensures c.args.parts.now.version c.args.parts.now.tiles.now;
      turn_counts = turn_counts;
      colours = c.colour_count.ensures c.args.parts.now.board c.args.parts.now.version;
      legal = legal_numbers _ c.requires _ turn_counts _
          (subst (λ (xs : List ℕ). IsListing ◌<◌ (λ n. n % 4 < slice_index xs (n / 4)) c.in_ok-sets.sets.legal) c.deref.ensures.value c.in_ok-sets.ensures.legal);
      unturned = unturned_legal _ c.requires _ turn_counts;
      showing = c.in_ok-sets.ensures.showing;
      shown = c.in_ok-sets.ensures.shown;
      asked = c.in_ok-sets.ensures.asked;
      asks = c.in_ok-asks.ensures (task_of_parts c.args.parts.now) c.requires
          (subst (AreSides (task_of_parts c.args.parts.now)) (sym c.deref-2.ensures.value) (c.in_ok-sides.ensures c.args.parts.now.version c.args.parts.now.tiles.now));
      clued = λ none. ap (map clue_of) (c.has_clues.ensures none);
    }
