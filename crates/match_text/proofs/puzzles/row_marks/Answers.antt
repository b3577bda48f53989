use Rattle.std.proofs.Common.{◌≡◌, Ok, Err, map, subst}
use Rattle.std.proofs.lemmas.Result.{err_from_is_err_and}
use Rattle.text_words.specs.Place.{judged, other_words}
use Rattle.text_words.specs.Words.{is_cell, marks_in}
use Rattle.match_text.proofs.ShapeLemmas.{no_word, row_reads, row_fails}
use Rattle.match_text.proofs.puzzles.row_marks.Goals as goal

pub returns-in_err-word : goal.returns-in_err-word
returns-in_err-word c =
    let p = err_from_is_err_and c.from_residual.result c.from_residual.ensures.1 in
    rw (p.1, p.2, c.in_err-word.ensures.word.1) (no_word (marks_in c.args.width) c.args.scan.now c.in_err-word.ensures.word.0)

pub returns-in_err-accept : goal.returns-in_err-accept
returns-in_err-accept c =
    let p = err_from_is_err_and c.from_residual-in_err-accept.result c.from_residual-in_err-accept.ensures.1 in
    let gives = subst (λ s. judged s (other_words s.words) c.row_word.result ≡ Err c.in_err-accept.field-0.0) c.in_ok-word.ensures.same c.in_err-accept.ensures.gives in
    rw (p.1, p.2) (row_fails c.args.width c.args.scan.now c.in_ok-word.word.now c.row_word.result c.in_ok-word.ensures.word c.row_word.ensures c.in_err-accept.field-0.0 gives)

pub returns : goal.returns
returns c = (
  map is_cell c.in_ok-word.word.now,
  c.in_ok-put_marks.ensures,
  (let gives = subst (λ s. judged s (other_words s.words) c.row_word.result ≡ Ok (c.in_ok-accept.field-0, c.accept.new.self)) c.in_ok-word.ensures.same c.in_ok-accept.ensures.gives in
      row_reads c.args.width c.args.scan.now c.in_ok-word.word.now c.row_word.result c.in_ok-word.ensures.word c.row_word.ensures c.in_ok-accept.field-0 c.accept.new.self gives),
)
