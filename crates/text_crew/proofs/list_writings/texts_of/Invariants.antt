use Rattle.std.proofs.Common.{◌≡◌, ◌++◌}
use Rattle.std.specs.List.{flat_map}
use Rattle.text_crew.proofs.list_writings.texts_of.Given as goal

abbrev pub invariant-loop-part : goal.invariant-loop-part
invariant-loop-part l =
    flat_map (λ text. text.items) l.texts.items ++ flat_map (λ part. part.text.items) l.part-iterator.rest.items ≡ flat_map (λ part. part.text.items) l.fn.parts.items
