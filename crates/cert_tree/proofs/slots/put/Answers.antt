use Rattle.std.proofs.Common.{◌≡◌, true, false, Option, Some, None, get_or, slice_set, refl, sym, ap, ◌∙◌}
use Rattle.std.specs.Option.{is_some}
use Rattle.std.proofs.lemmas.Option.{slice_get-get_or}
use Rattle.cert_tree.proofs.slots.put.Goals as goal

taken : {X : Type 0} (o : Option X) → is_some o ≡ true → (piece : X) × (o ≡ Some piece)
taken None e = absurd cc
taken (Some piece) e = (piece, refl)

free : {X : Type 0} (o : Option X) → is_some o ≡ false → o ≡ None
free None e = refl
free (Some piece) e = absurd cc

pub returns-then-is_some : goal.returns-then-is_some
returns-then-is_some g c =
    let items = c.args.slots.now.items in
    let number = g.N.Numbered.numbered c.args.piece in
    let found = c.index.ensures ∙ ap (λ n. get_or items n c.index.result.now) c.number-number.ensures in
    let other = taken c.index.result.now (sym c.is_some.ensures ∙ c.if-is_some.true) in
    (other.0, slice_get-get_or items number c.index.result.now c.requires ∙ ap Some (sym found ∙ other.1), refl)

pub returns : goal.returns
returns g c =
    let items = c.args.slots.now.items in
    let number = g.N.Numbered.numbered c.args.piece in
    let found = c.index.ensures ∙ ap (λ n. get_or items n c.index.result.now) c.number-number.ensures in
    let none = free c.index.result.now (sym c.is_some.ensures ∙ c.if-is_some.false) in (
      slice_get-get_or items number c.index.result.now c.requires ∙ ap Some (sym found ∙ none),
      ap (λ n. slice_set items n (Some c.args.piece)) c.number-number.ensures,
    )
