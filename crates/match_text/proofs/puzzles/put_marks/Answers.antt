use Rattle.std.proofs.Common.{◌≡◌, ◌+◌, ◌∷◌, [], ◌++◌, take, get_or, map, append_assoc, ap, sym, ◌∙◌}
use Rattle.std.proofs.lemmas.List.{append-nil, map-append, take_all, take_more}
use Rattle.text_words.specs.Words.{is_cell}
use Rattle.match_text.proofs.puzzles.put_marks.Goals as goal

pub loop-character-init : goal.loop-character-init
loop-character-init c = sym (append-nil c.args.marks.now.items)

pub loop-character-preserved : goal.loop-character-preserved
loop-character-preserved c =
    let row = c.args.row.now in
    let i = c.loop-character.character-index in
    let one = is_cell (get_or row i 0) ∷ [] in
    let before = c.args.marks.now.items in
    let more : map is_cell (take (i + 1) row) ≡ map is_cell (take i row) ++ one = ap (map is_cell) (take_more row i 0 c.loop-character-test.true) ∙ map-append is_cell (take i row) (get_or row i 0 ∷ []) in
    c.in_ok-push.ensures.items ∙ ap (λ marks. marks ++ one) c.loop-character.invariant ∙ append_assoc before (map is_cell (take i row)) one ∙ ap (λ marks. before ++ marks) (sym more)

pub returns : goal.returns
returns c = c.loop-character.invariant ∙ ap (λ row. c.args.marks.now.items ++ map is_cell row) (take_all c.loop-character.character-index c.args.row.now c.loop-character-test.false)
