use Rattle.std.proofs.Common.{◌++◌, ap, ◌∙◌}
use Rattle.std.specs.List.{flat_map}
use Rattle.show_reasons.specs.Sentences.{sentence}
use Rattle.show_reasons.specs.declared.sentences.TheConstants.{MOST_NAMED}
use Rattle.show_reasons.proofs.TextLemmas.{first_few}
use Rattle.show_reasons.proofs.sentences.put_first.Goals as goal

pub returns : goal.returns
returns c =
    c.in_ok-put_sentences.ensures
    ∙ ap (λ xs. c.args.text.now.items ++ flat_map sentence xs)
    (first_few c.args.listed.now MOST_NAMED c.min-named.result c.min-named.ensures)
