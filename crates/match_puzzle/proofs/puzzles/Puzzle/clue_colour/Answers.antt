use Rattle.std.proofs.Common.{◌≡◌, ◌<◌, ◌↔◌, ℕ, List, Contains, Some, length, subst, sym}
use Rattle.match_board.specs.Clues.{Clue, AsksByClue}
use Rattle.match_puzzle.proofs.TableLemmas.{one_clue, clue_sides, clue_below}
use Rattle.match_puzzle.proofs.puzzles.Puzzle.clue_colour.Goals as goal

pub asked_by_clue-requires-clause-once : goal.asked_by_clue-requires-clause-once
asked_by_clue-requires-clause-once c =
    subst (λ (all : List Clue). (x y : Clue) → Contains all x → Contains all y → x.cell ≡ y.cell → x ≡ y) (sym c.clues.ensures.clues)
    (one_clue c.args.self.now c.clues.ensures.puzzle.clues)

pub asked_by_clue-requires-clause-sides : goal.asked_by_clue-requires-clause-sides
asked_by_clue-requires-clause-sides c =
    subst (λ (all : List Clue). (x : Clue) → Contains all x → c.args.side < length x.asks) (sym c.clues.ensures.clues)
    (λ x has. clue_sides c.args.self.now c.clues.ensures.puzzle.clues x c.args.side has c.requires)

pub returns-clause-rule : goal.returns-clause-rule
returns-clause-rule c =
    subst (λ (all : List Clue). (colour : ℕ) → (c.asked_by_clue.result ≡ Some colour) ↔ AsksByClue all c.args.cell c.args.side colour) c.clues.ensures.clues c.asked_by_clue.ensures

pub returns-clause-below : goal.returns-clause-below
returns-clause-below c =
    let rule = subst (λ (all : List Clue). (colour : ℕ) → (c.asked_by_clue.result ≡ Some colour) ↔ AsksByClue all c.args.cell c.args.side colour) c.clues.ensures.clues c.asked_by_clue.ensures in
    clue_below c.args.self.now c.args.cell c.args.side c.asked_by_clue.result c.clues.ensures.puzzle.clues (λ colour is. (rule colour).0 is)
