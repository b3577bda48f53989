use Rattle.std.proofs.Common.{◌≡◌, rules}
use Rattle.match_puzzle.proofs.puzzles.Puzzle.from_parts.Goals as goal

pub invariant_of-result : goal.invariant_of-result
invariant_of-result c =
    let items : c.in_ok-tiles.tiles.items ≡ c.args.parts.now.tiles.now = search rules in
    let border : c.in_ok-border.border ≡ c.args.parts.now.rules.now.border.now = c.in_ok-border.ensures in
    let mates : c.in_ok-mates.mates.items ≡ c.args.parts.now.rules.now.mates.now = search rules in
    let clues : c.in_ok-clues.clues.items ≡ c.args.parts.now.rules.now.clues.now = search rules in
    rw (items, border, mates, clues) c.in_ok-tables.ensures
