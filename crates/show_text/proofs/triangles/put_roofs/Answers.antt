use Rattle.std.proofs.Common.{◌≡◌, ◌<◌, ◌+◌, ◌-◌, ◌++◌, ℕ, suc, replicate, refl, ap, sym, ◌∙◌, append_assoc, arith}
use Rattle.show_text.specs.Pieces.{spaces}
use Rattle.show_text.specs.Triangles.{roofs}
use Rattle.show_text.proofs.triangles.put_roofs.Goals as goal

-- the first of those that are left, and the others
roofs_next : (size roof : ℕ) → roof < size → roofs (size - roof) ≡ (spaces 2 ++ replicate 8 95) ++ roofs (size - (roof + 1))
roofs_next size roof lt =
    let more : size - roof ≡ suc (size - (roof + 1)) = omega (arith, lt) in
    rw more refl

pub loop-roof-preserved : goal.loop-roof-preserved
loop-roof-preserved c =
    let line = c.loop-roof.line.items in
    let roof = c.loop-roof._roof in
    let piece = spaces 2 ++ replicate 8 95 in
    let rest = roofs (c.args.size - (roof + 1)) in
    ap (λ xs. xs ++ rest) c.in_ok-extend_from_slice.ensures.items
    ∙ append_assoc line piece rest
    ∙ ap (λ xs. line ++ xs) (sym (roofs_next c.args.size roof c.loop-roof-test.true))
    ∙ c.loop-roof.invariant
