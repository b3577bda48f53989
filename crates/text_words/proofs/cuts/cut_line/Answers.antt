use Rattle.std.proofs.Common.{refl, arith}
use Rattle.std.proofs.lemmas.Grind.{common_steps}
use Rattle.text_words.proofs.BytesLemmas.{cut_at-none, cut_at-some}
use Rattle.text_words.proofs.cuts.cut_line.Goals as goal

pub returns-in_err-index-clause-parts : goal.returns-in_err-index-clause-parts
returns-in_err-index-clause-parts c = rw (c.from_residual.ensures, cut_at-none 10 c.args.text.now c.in_err-index.ensures) refl

pub returns-clause-parts : goal.returns-clause-parts
returns-clause-parts c = rw (cut_at-some 10 c.args.text.now c.in_ok-index.index c.in_ok-index.ensures) (grind (arith, common_steps))
