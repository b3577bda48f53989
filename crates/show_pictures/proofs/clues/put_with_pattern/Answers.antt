use Rattle.std.proofs.Common.{◌≡◌, ◌++◌, ◌∷◌, [], ℕ, List, length, refl, sym, ap, subst, arith, append_assoc, ◌∙◌}
use Rattle.std.proofs.lemmas.List.{nil_from_length, append-nil}
use Rattle.show_pictures.specs.Clued.{pattern, with_pattern}
use Rattle.show_pictures.proofs.clues.put_with_pattern.Goals as goal

pub returns-then-is_empty : goal.returns-then-is_empty
returns-then-is_empty c =
    let none : c.args.lines.now ≡ [] = nil_from_length c.args.lines.now (grind (arith, c.is_empty.ensures, c.if-is_empty.ensures)) in
    subst (λ lines. c.args.text.now.items ≡ c.args.text.now.items ++ with_pattern lines) (sym none) (sym (append-nil c.args.text.now.items))

begun : (lines : List ℕ) → (length lines ≡ 0 → ⊥) → pattern ++ lines ≡ with_pattern lines
begun [] some = absurd (some refl)
begun (first ∷ rest) some = refl

pub returns : goal.returns
returns c =
    let text = c.args.text.now.items in
    let lines = c.args.lines.now in
    let some : length lines ≡ 0 → ⊥ = grind (arith, c.is_empty.ensures, c.if-is_empty.ensures) in
    c.in_ok-extend_from_slice.ensures.items ∙ ap (λ t. t ++ lines) c.in_ok-put_pattern.ensures ∙ append_assoc text pattern lines ∙ ap (λ t. text ++ t) (begun lines some)
