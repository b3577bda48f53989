use Rattle.std.proofs.Common.{◌≡◌, ◌++◌, ◌∷◌, [], ℕ, List, length, refl, sym, ap, subst, arith, append_assoc, ◌∙◌}
use Rattle.std.proofs.lemmas.List.{nil_from_length, append-nil}
use Rattle.show_pictures.specs.Joined.{ended}
use Rattle.show_pictures.proofs.bands.put_ended.Goals as goal

pub returns-then-is_empty : goal.returns-then-is_empty
returns-then-is_empty c =
    let none : c.args.line.now ≡ [] = nil_from_length c.args.line.now (grind (arith, c.is_empty.ensures, c.if-is_empty.ensures)) in
    subst (λ line. c.args.lines.now.items ≡ c.args.lines.now.items ++ ended line) (sym none) (sym (append-nil c.args.lines.now.items))

ends : (line : List ℕ) → (length line ≡ 0 → ⊥) → line ++ 10 ∷ [] ≡ ended line
ends [] some = absurd (some refl)
ends (first ∷ rest) some = refl

pub returns : goal.returns
returns c =
    let lines = c.args.lines.now.items in
    let line = c.args.line.now in
    let some : length line ≡ 0 → ⊥ = grind (arith, c.is_empty.ensures, c.if-is_empty.ensures) in
    c.in_ok-push.ensures.items ∙ ap (λ t. t ++ 10 ∷ []) c.in_ok-extend_from_slice.ensures.items ∙ append_assoc lines line (10 ∷ []) ∙ ap (λ t. lines ++ t) (ends line some)
