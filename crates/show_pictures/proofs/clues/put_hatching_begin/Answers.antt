use Rattle.std.proofs.Common.{◌++◌, ◌∷◌, [], decimal, ap, ◌∙◌}
use Rattle.show_pictures.proofs.ClueLemmas.{numbers_written}
use Rattle.show_pictures.proofs.clues.put_hatching_begin.Goals as goal

pub returns : goal.returns
returns c =
    c.in_ok-put_number-2.ensures
    ∙ ap (λ t. t ++ decimal c.args.at.y) (c.in_ok-push.ensures.items ∙ ap (λ t. t ++ 32 ∷ []) (c.in_ok-put_number.ensures ∙ ap (λ t. t ++ decimal c.args.at.x) c.in_ok-extend_from_slice.ensures.items))
    ∙ numbers_written c.args.text.now.items _ (decimal c.args.at.x) (decimal c.args.at.y)
