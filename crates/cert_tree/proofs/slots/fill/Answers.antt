use Rattle.std.proofs.Common.{◌≡◌, ◌++◌, ◌∷◌, [], ap, ◌∙◌, append_assoc, arith}
use Rattle.std.specs.Option.{option_to_list}
use Rattle.cert_tree.proofs.AssemblyLemmas.{mid_contained}
use Rattle.cert_tree.proofs.slots.fill.Goals as goal

pub enter-double-requires : goal.enter-double-requires
enter-double-requires g c =
    let so_far = c.loop-piece.invariant in
    let popped : c.loop-piece.pieces.items ≡ c.pop.new.self.items ++ c.in-Some.piece ∷ [] = c.pop.ensures.items ∙ ap (λ o. c.pop.new.self.items ++ option_to_list o) c.in-Some.is in
    let whole : c.args.pieces.items ≡ c.pop.new.self.items ++ c.in-Some.piece ∷ so_far.0 = so_far.1 ∙ ap (λ xs. xs ++ so_far.0) popped ∙ append_assoc c.pop.new.self.items (c.in-Some.piece ∷ []) so_far.0 in
    let below = c.requires.below c.in-Some.piece (rw whole (mid_contained c.pop.new.self.items c.in-Some.piece so_far.0)) in
    omega (arith, below, so_far.2)

pub loop-piece-preserved : goal.loop-piece-preserved
loop-piece-preserved g c =
    let so_far = c.loop-piece.invariant in
    let popped : c.loop-piece.pieces.items ≡ c.pop.new.self.items ++ c.in-Some.piece ∷ [] = c.pop.ensures.items ∙ ap (λ o. c.pop.new.self.items ++ option_to_list o) c.in-Some.is in
    let whole : c.args.pieces.items ≡ c.pop.new.self.items ++ c.in-Some.piece ∷ so_far.0 = so_far.1 ∙ ap (λ xs. xs ++ so_far.0) popped ∙ append_assoc c.pop.new.self.items (c.in-Some.piece ∷ []) so_far.0 in
    (c.in-Some.piece ∷ so_far.0, whole, c.enter-double.ensures.long ∙ so_far.2, c.enter-double.ensures.entered so_far.0 so_far.3)
