use Rattle.std.proofs.Common.{◌+◌, length, ap, sym, subst, ◌∙◌, arith}
use Rattle.std.proofs.lemmas.List.{length_push}
use Rattle.match_board.specs.Board.{StandsAt, IsFilled}
use Rattle.match_board.proofs.Places.{StandsAt-in_range}
use Rattle.show_text.specs.Rows.{IsAtPlace}
use Rattle.show_text.proofs.ListLemmas.{each_more}
use Rattle.show_text.proofs.RowLemmas.{left_filled, left_unfilled, here_stands}
use Rattle.show_text.proofs.rows.row_of.Goals as goal
use Rattle.show_text.proofs.rows.row_of.Goals.{then-is_filled+in_ok-push, else-is_filled+in_ok-push-2}

pub face_of-requires : goal.face_of-requires
face_of-requires c =
    let same = c.figure-figure.ensures ∙ c.board.ensures.value ∙ ap (λ p. p.board) c.puzzle.ensures.same in
    StandsAt-in_range (here_stands c.args.partial.now.puzzle.board c.figure-figure.result.now c.args.row c.loop-place.place c.loop-place.next same c.requires.row (omega (arith, c.loop-place-test.true, c.row_length-place-end.ensures)) c.if-is_filled.ensures c.loop-place.invariant.next)

pub overflow_add-next : goal.overflow_add-next
overflow_add-next c =
    let same = c.figure-figure.ensures ∙ c.board.ensures.value ∙ ap (λ p. p.board) c.puzzle.ensures.same in
    let within = StandsAt-in_range (here_stands c.args.partial.now.puzzle.board c.figure-figure.result.now c.args.row c.loop-place.place c.loop-place.next same c.requires.row (omega (arith, c.loop-place-test.true, c.row_length-place-end.ensures)) c.if-is_filled.ensures c.loop-place.invariant.next) in
    omega (arith, within, c.puzzle.ensures.puzzle.board.most)

pub loop-place-preserved : goal.loop-place-preserved
loop-place-preserved c =
    let q = c.args.partial.now in
    let s = q.puzzle.board in
    let row = c.args.row in
    let place = c.loop-place.place in
    let holds = IsAtPlace q c.args.mark row in
    let same = c.figure-figure.ensures ∙ c.board.ensures.value ∙ ap (λ p. p.board) c.puzzle.ensures.same in
    elim c.if-is_filled.branch [
      | then-is_filled+in_ok-push w ↦ (
          let stands = here_stands s c.figure-figure.result.now row place c.loop-place.next same c.requires.row (omega (arith, c.loop-place-test.true, c.row_length-place-end.ensures)) w.if-is_filled.ensures c.loop-place.invariant.next in
          let items = ap (λ v. v.items) w.places-is ∙ w.in_ok-push.ensures.items in
          record {
            long = ap length items ∙ length_push _ _ ∙ ap (λ n. n + 1) c.loop-place.invariant.long;
            each = each_more holds _ _ _ place items c.loop-place.invariant.long c.loop-place.invariant.each (subst (λ n. StandsAt s n row place) (sym w.face_of.ensures.cell) stands, w.face_of.ensures.face);
            next = omega (arith, w.next-is, c.loop-place.invariant.next, left_filled s row place stands.filled);
          })
      | else-is_filled+in_ok-push-2 w ↦ (
          let none : IsFilled s row place → ⊥ = λ filled. w.if-is_filled.ensures (subst (λ u. IsFilled u row place) (sym same) filled) in
          let items = ap (λ v. v.items) w.places-is ∙ w.in_ok-push-2.ensures.items in
          record {
            long = ap length items ∙ length_push _ _ ∙ ap (λ n. n + 1) c.loop-place.invariant.long;
            each = each_more holds _ _ _ place items c.loop-place.invariant.long c.loop-place.invariant.each none;
            next = omega (arith, w.next-is, c.loop-place.invariant.next, left_unfilled s row place none);
          })
    ]
