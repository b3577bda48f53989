use Rattle.std.proofs.Common.{◌≡◌, ◌+◌, ◌++◌, sym, subst, ap, ◌∙◌, arith}
use Rattle.match_board.specs.Board.{side_count}
use Rattle.show_pictures.specs.Clued.{IsClued}
use Rattle.show_pictures.specs.Joined.{IsJoined}
use Rattle.show_pictures.proofs.JoinedLemmas.{joined_more}
use Rattle.show_pictures.proofs.clues.cell_line.Goals as goal

pub loop-side-preserved : goal.loop-side-preserved
loop-side-preserved c = λ site at.
    let canvas = c.args.canvas.now in
    subst (IsJoined (IsClued canvas.puzzle.now canvas.left canvas.top site c.args.cell) (c.loop-side.side + 1))
    (sym (c.in_ok-extend_from_slice.ensures.items ∙ ap (λ t. c.loop-side.line.items ++ t) c.deref.ensures.value))
    (joined_more _ (c.loop-side.invariant site at) (c.in_ok-part.ensures site at))

pub returns : goal.returns
returns c = λ site at.
    let canvas = c.args.canvas.now in
    let count : c.sides-side-end.result ≡ side_count canvas.puzzle.now.board = c.sides-side-end.ensures.count ∙ ap (λ s. side_count s) c.board.ensures.value in
    subst (λ n. IsJoined (IsClued canvas.puzzle.now canvas.left canvas.top site c.args.cell) n c.loop-side.line.items)
    (omega (arith, c.loop-side-test.false, c.loop-side.auto.side-end, count)) (c.loop-side.invariant site at)
