use Rattle.std.proofs.Common.{◌∙◌, sym, codes}
use Rattle.command_words.proofs.PartPlaceLemmas.{is_among, is_found}
use Rattle.command_words.proofs.readings.name_input.Goals as goal

pub returns : goal.returns
returns c = (
  λ is. is_among c.args.names.now (codes "-") (sym c.contains.ensures.value ∙ is),
  λ has. c.contains.ensures.value ∙ is_found c.args.names.now (codes "-") has,
)
