use Rattle.std.proofs.Common.{◌∷◌, [], inl, inr, refl, subst}
use Rattle.byte_streams.specs.Deeds.{did_make, did_remove}
use Rattle.byte_streams.proofs.made_files.make_both.Goals as goal

pub returns-in-Err-make-clause-undone : goal.returns-in-Err-make-clause-undone
returns-in-Err-make-clause-undone g c =
    let does = g.S.FileSystem.does in
    let l = c.args.names.now.list.now in
    let new = c.remove.new.self in
    (did_make l ∷ did_remove l ∷ [], inr (inl refl), (c.make.new.self, c.in-Ok.ensures.does, (new, subst (λ s. does s (did_remove l) new) c.in-Err-make.ensures.err c.remove.ensures, refl)))
