use Rattle.std.proofs.Common.{[]}
use Rattle.match_puzzle.specs.Puzzle.{task_by}
use Rattle.match_puzzle.proofs.TableLemmas.{met_is, inner_rule, border_is, border_rule, one_clue, clue_sides, number_after_border, number_after_edge}
use Rattle.match_puzzle.proofs.tables.side_at.Goals as goal

pub asked_by_clue-asked-requires-clause-once : goal.asked_by_clue-asked-requires-clause-once
asked_by_clue-asked-requires-clause-once c = one_clue (task_by c.args.board.now c.args.rules.now 0 []) (c.requires.clues 0 [])

pub asked_by_clue-asked-requires-clause-sides : goal.asked_by_clue-asked-requires-clause-sides
asked_by_clue-asked-requires-clause-sides c = λ clue has. clue_sides (task_by c.args.board.now c.args.rules.now 0 []) (c.requires.clues 0 []) clue c.args.side has c.requires.side

pub returns-in-Some-clause-side : goal.returns-in-Some-clause-side
returns-in-Some-clause-side c = λ version tiles. (
  c.in-Some.ensures.found,
  met_is c.in-Some.ensures.only,
  inner_rule (task_by c.args.board.now c.args.rules.now version tiles) c.args.cell c.args.side _ _ c.asked_by_clue-asked.result c.requires.cell c.requires.side c.in-Some.ensures.found c.asked_by_clue-asked.ensures,
)

pub returns-in-Some-clause-number : goal.returns-in-Some-clause-number
returns-in-Some-clause-number c = number_after_edge c.args.board.now c.args.cell c.args.side c.args.number.now (λ pair. pair.meets_nothing _ _ c.in-Some.ensures.found) c.requires.number

pub returns-in-None-clause-side : goal.returns-in-None-clause-side
returns-in-None-clause-side c = λ version tiles.
    let pair = border_is c.args.board.now c.args.cell c.args.side c.requires.cell c.requires.side c.in-None.ensures.only in (
      pair,
      border_rule (task_by c.args.board.now c.args.rules.now version tiles) c.args.cell c.args.side c.args.number.now c.rule_at-rule.result c.asked_by_clue-asked.result c.first_asked.result c.requires.border (c.requires.clues version tiles) pair c.requires.number c.rule_at-rule.ensures
          c.asked_by_clue-asked.ensures c.first_asked.ensures.border c.first_asked.ensures.clue,
    )

pub returns-in-None-clause-number : goal.returns-in-None-clause-number
returns-in-None-clause-number c = number_after_border c.args.board.now c.args.cell c.args.side c.args.number.now (border_is c.args.board.now c.args.cell c.args.side c.requires.cell c.requires.side c.in-None.ensures.only) c.requires.number
