use Rattle.std.proofs.Common.{refl, arith}
use Rattle.std.proofs.lemmas.Grind.{common_steps}
use Rattle.text_words.proofs.BytesLemmas.{cut_at-absent, cut_at-found}
use Rattle.text_words.proofs.cuts.cut.Goals as goal

pub returns-in_err-place : goal.returns-in_err-place
returns-in_err-place c = rw (c.from_residual.ensures, cut_at-absent c.args.at c.args.bytes.now c.in_err-place.ensures) refl

pub returns : goal.returns
returns c = rw (cut_at-found c.args.at c.args.bytes.now c.in_ok-place.place c.in_ok-place.ensures) (grind (arith, common_steps))
