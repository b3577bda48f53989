use Rattle.std.proofs.Common.{◌≤◌, ◌<◌, ◌^◌, length, map, sym, ap, subst, ◌∙◌, arith}
use Rattle.match_board.specs.Board.{IsPlain}
use Rattle.std.proofs.lemmas.List.{length-map}
use Rattle.match_board.specs.Tile.{word}
use Rattle.match_board.specs.Clues.{clue_of}
use Rattle.match_limits.specs.declared.TheConstants.{MOST_CELLS}
use Rattle.match_text.specs.Puzzles.{figure_of, view_of}
use Rattle.match_text.proofs.ReadingLemmas.{said_border, said_clues, said_mates, said_without, said_plain, said_tiles, said_version, unmapped}
use Rattle.match_text.proofs.puzzles.read_and_make.Goals as goal

pub make_said-requires-clause-tiles : goal.make_said-requires-clause-tiles
make_said-requires-clause-tiles c =
    let few : length (map word c.in_ok-said.said.tiles.items) < 2 ^ 32 = said_tiles c.args.text.now (view_of c.in_ok-said.said) c.in_ok-said.ensures.says in
    omega (arith, few, length-map c.in_ok-said.said.tiles.items word)

pub make_said-requires-clause-border : goal.make_said-requires-clause-border
make_said-requires-clause-border c = said_border c.args.text.now (view_of c.in_ok-said.said) c.in_ok-said.ensures.says

pub make_said-requires-clause-version : goal.make_said-requires-clause-version
make_said-requires-clause-version c = said_version c.args.text.now (view_of c.in_ok-said.said) c.in_ok-said.ensures.says

pub make_said-requires-clause-mates : goal.make_said-requires-clause-mates
make_said-requires-clause-mates c = let few = said_mates c.args.text.now (view_of c.in_ok-said.said) c.in_ok-said.ensures.says in omega (arith, few)

pub make_said-requires-clause-plain : goal.make_said-requires-clause-plain
make_said-requires-clause-plain c = λ first. subst IsPlain (sym (c.in_ok-board.ensures.board.0 ∙ ap (figure_of c.in_ok-said.said.board) c.deref.ensures.value)) (said_plain c.args.text.now (view_of c.in_ok-said.said) c.in_ok-said.ensures.says first)

pub make_said-requires-clause-clues : goal.make_said-requires-clause-clues
make_said-requires-clause-clues c =
    let few : length (map clue_of c.in_ok-said.said.clues.items) ≤ MOST_CELLS = said_clues c.args.text.now (view_of c.in_ok-said.said) c.in_ok-said.ensures.says in
    omega (arith, few, length-map c.in_ok-said.said.clues.items clue_of)

pub make_said-requires-clause-without : goal.make_said-requires-clause-without
make_said-requires-clause-without c = λ other. unmapped c.in_ok-said.said.clues.items (said_without c.args.text.now (view_of c.in_ok-said.said) c.in_ok-said.ensures.says other)
