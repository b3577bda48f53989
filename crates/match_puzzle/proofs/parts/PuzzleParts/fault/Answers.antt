use Rattle.std.proofs.Common.{ap, map, subst, sym, true≢false, MatchBool, ◌∙◌}
use Rattle.std.proofs.lemmas.List.{length-map}
use Rattle.match_board.specs.Tile.{word}
use Rattle.match_board.specs.Clues.{clue_of}
use Rattle.match_puzzle.specs.Parts.{task_of_parts}
use Rattle.match_board.specs.Borders.{rule_of, IsAsLongAsBorder}
use Rattle.match_puzzle.proofs.PuzzleFaultLemmas.{enough_words, first_bad_colour, first_bad_mate, first_bad_clue}
use Rattle.match_puzzle.proofs.TableLemmas.{words_coloured}
use Rattle.match_puzzle.proofs.parts.PuzzleParts.fault.Goals as goal
use Rattle.match_puzzle.proofs.parts.PuzzleParts.fault.Goals.{else-sides-eq3-via-then-sides-eq3+else-not-rules, else-sides-eq3-via-else-sides-eq3}

pub returns : goal.returns
returns c = record {
  board = c.are_enough.ensures.board;
  triangles = λ three.
      elim c.else-sides-eq3.branch [
        | else-sides-eq3-via-then-sides-eq3+else-not-rules w ↦ w.if-not-rules.false
        | else-sides-eq3-via-else-sides-eq3 w ↦ absurd (w.if-sides-eq3.false (c.sides.ensures.count ∙ three))
      ];
  tiles = enough_words _ _ c.args.self.now.tiles.now _ c.if-not-are_enough.false c.are_enough.ensures.enough;
  sides = c.in_default.ensures;
  tile_colours = words_coloured c.args.self.now.tiles.now;
  border_colours = c.in_default-bad_colour.ensures;
  border = subst (λ b. MatchBool b (IsAsLongAsBorder c.args.self.now.board (rule_of c.args.self.now.rules.now.border.now)) (IsAsLongAsBorder c.args.self.now.board (rule_of c.args.self.now.rules.now.border.now) → ⊥)) c.if-not-is_as_long_as.false c.is_as_long_as.ensures;
  mating = record { version = c.requires.version; mates = c.in_default-broken_mate.ensures };
  shapes = c.requires.shapes;
  clues = c.in_default-broken_clue.ensures c.args.self.now.version c.args.self.now.tiles.now;
  without = λ before. ap (map clue_of) (c.requires.without before);
}

pub returns-in-Some-bad_colour : goal.returns-in-Some-bad_colour
returns-in-Some-bad_colour c =
    first_bad_colour (task_of_parts c.args.self.now) c.in-Some-bad_colour.place
    (λ three unturned.
    elim c.else-sides-eq3.branch [
      | else-sides-eq3-via-then-sides-eq3+else-not-rules w ↦ true≢false (sym w.if-not-rules.false ∙ unturned)
      | else-sides-eq3-via-else-sides-eq3 w ↦ w.if-sides-eq3.false (c.sides.ensures.count ∙ three)
    ])
    (enough_words _ _ c.args.self.now.tiles.now _ c.if-not-are_enough.false c.are_enough.ensures.enough) c.in_default.ensures c.in-Some-bad_colour.ensures

pub returns-in-Some-broken_mate : goal.returns-in-Some-broken_mate
returns-in-Some-broken_mate c =
    first_bad_mate (task_of_parts c.args.self.now) c.in-Some-broken_mate.place
    (λ three unturned.
    elim c.else-sides-eq3.branch [
      | else-sides-eq3-via-then-sides-eq3+else-not-rules w ↦ true≢false (sym w.if-not-rules.false ∙ unturned)
      | else-sides-eq3-via-else-sides-eq3 w ↦ w.if-sides-eq3.false (c.sides.ensures.count ∙ three)
    ])
    (enough_words _ _ c.args.self.now.tiles.now _ c.if-not-are_enough.false c.are_enough.ensures.enough) c.in_default.ensures c.in_default-bad_colour.ensures
    (subst (λ b. MatchBool b (IsAsLongAsBorder c.args.self.now.board (rule_of c.args.self.now.rules.now.border.now)) (IsAsLongAsBorder c.args.self.now.board (rule_of c.args.self.now.rules.now.border.now) → ⊥)) c.if-not-is_as_long_as.false c.is_as_long_as.ensures)
    c.in-Some-broken_mate.ensures

pub returns-in-Some-broken_clue : goal.returns-in-Some-broken_clue
returns-in-Some-broken_clue c =
    first_bad_clue (task_of_parts c.args.self.now) c.in-Some-broken_clue.number
    (λ three unturned.
    elim c.else-sides-eq3.branch [
      | else-sides-eq3-via-then-sides-eq3+else-not-rules w ↦ true≢false (sym w.if-not-rules.false ∙ unturned)
      | else-sides-eq3-via-else-sides-eq3 w ↦ w.if-sides-eq3.false (c.sides.ensures.count ∙ three)
    ])
    (enough_words _ _ c.args.self.now.tiles.now _ c.if-not-are_enough.false c.are_enough.ensures.enough) c.in_default.ensures c.in_default-bad_colour.ensures
    (subst (λ b. MatchBool b (IsAsLongAsBorder c.args.self.now.board (rule_of c.args.self.now.rules.now.border.now)) (IsAsLongAsBorder c.args.self.now.board (rule_of c.args.self.now.rules.now.border.now) → ⊥)) c.if-not-is_as_long_as.false c.is_as_long_as.ensures)
    c.in_default-broken_mate.ensures (c.in-Some-broken_clue.ensures c.args.self.now.version c.args.self.now.tiles.now)
