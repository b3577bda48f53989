use Rattle.std.proofs.Common.{◌++◌, [], ◌∷◌, ap, ◌∙◌, append_assoc}
use Rattle.std.proofs.lemmas.Str.Ascii.{trim_ascii_end_is}
use Rattle.show_text.proofs.pieces.put_trimmed.Goals as goal

pub returns : goal.returns
returns c =
    let text = c.args.text.now.items in
    let trimmed = c.trim_ascii_end.result.now in
    c.in_ok-push.ensures.items
    ∙ ap (λ xs. xs ++ 10 ∷ []) c.in_ok-extend_from_slice.ensures.items
    ∙ append_assoc text trimmed (10 ∷ [])
    ∙ ap (λ xs. text ++ (xs ++ 10 ∷ [])) (trim_ascii_end_is c.args.line.now trimmed c.trim_ascii_end.ensures.value)
