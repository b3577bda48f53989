use Rattle.std.proofs.Common.{◌≡◌, ◌↔◌, ℕ, Option, Some, sym, subst}
use Rattle.match_puzzle.specs.Puzzle.{HasRule}
use Rattle.match_puzzle.proofs.TableLemmas.{rule_of_side}
use Rattle.match_puzzle.proofs.puzzles.Puzzle.rule.Goals as goal

pub returns : goal.returns
returns c =
    subst (λ (r : Option ℕ). (colour : ℕ) → (r ≡ Some colour) ↔ HasRule c.args.self.now c.args.cell c.args.side colour) (sym c.rule.ensures)
    (rule_of_side c.args.self.now c.args.cell c.args.side c.side.result c.side.ensures)
