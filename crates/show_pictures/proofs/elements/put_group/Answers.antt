use Rattle.std.proofs.Common.{◌≡◌, ◌++◌, [], sym, ap, arith, ◌∙◌}
use Rattle.std.proofs.lemmas.List.{nil_from_length, append-nil}
use Rattle.show_pictures.proofs.GrownLemmas.{wrapped_fourth}
use Rattle.show_pictures.proofs.elements.put_group.Goals as goal

pub returns-then-is_empty : goal.returns-then-is_empty
returns-then-is_empty c =
    let none : c.args.lines.now ≡ [] = nil_from_length c.args.lines.now (grind (arith, c.is_empty.ensures, c.if-is_empty.ensures)) in
    let text = c.args.text.now.items in
    record {
      front = [];
      back = [];
      grown = sym (append-nil text) ∙ sym (append-nil (text ++ [])) ∙ ap (λ l. (text ++ []) ++ l) (sym none)
          ∙ sym (append-nil ((text ++ []) ++ c.args.lines.now));
    }

pub returns : goal.returns
returns c = wrapped_fourth _ _ _ c.args.lines.now _ c.in_ok-extend_from_slice.ensures.items c.in_ok-extend_from_slice-2.ensures.items c.in_ok-extend_from_slice-3.ensures.items c.in_ok-extend_from_slice-4.ensures.items c.in_ok-extend_from_slice-5.ensures.items
