use Rattle.std.proofs.Common.{ap, ◌∙◌}
use Rattle.show_reasons.specs.Sentences.{reasons_text}
use Rattle.show_reasons.proofs.sentences.write_reasons.Goals as goal

pub returns : goal.returns
returns c = record {
  reasons = c.in_ok-reasons.reasons.items;
  all = c.in_ok-reasons.ensures.reasons;
  told = c.in_ok-text.ensures ∙ ap reasons_text c.deref.ensures.value;
}
