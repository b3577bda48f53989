use Rattle.std.proofs.Common.{◌++◌, ap, subst, sym, ◌∙◌}
use Rattle.std.specs.List.{flat_map}
use Rattle.text_words.specs.Spelling.{end_lines, text_of}
use Rattle.match_text.specs.ListSpelling.{IsListText}
use Rattle.text_crew.proofs.PartLemmas.{so_of_parts}
use Rattle.text_crew.proofs.list_writings.write_list_with.Goals as goal

pub returns : goal.returns
returns g c =
    let lines = c.in_ok-lines.ensures in
    so_of_parts (IsListText c.args.list.now) _ c.between.result
    (subst (λ t. IsListText c.args.list.now ((c.in_ok-front.front.items ++ t) ++ text_of end_lines)) (ap (flat_map (λ part. part.text.items)) c.deref.ensures.value ∙ sym lines) c.in_ok-front.ensures.text)
    c.between.ensures
