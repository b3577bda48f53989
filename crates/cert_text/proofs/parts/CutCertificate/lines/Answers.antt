use Rattle.std.proofs.lemmas.Result.{err_from_is_err_and}
use Rattle.cert_text.proofs.PartLemmas.{end_fails, whole_fails, whole_says}
use Rattle.cert_text.proofs.parts.CutCertificate.lines.Goals as goal

pub returns-in_err-lemmas : goal.returns-in_err-lemmas
returns-in_err-lemmas c =
    let fails = c.in_err-lemmas.ensures c.args.self.parts.items c.requires in
    let p = err_from_is_err_and c.from_residual.result c.from_residual.ensures.1 in
    rw (p.1, p.2) (whole_fails c.args.self c.in_err-lemmas.field-0.0 fails)

pub returns-in_err-closing : goal.returns-in_err-closing
returns-in_err-closing c =
    let says = c.in_ok-lemmas.ensures c.args.self.parts.items c.requires in
    let p = err_from_is_err_and c.from_residual-in_err-closing.result c.from_residual-in_err-closing.ensures.1 in
    rw (p.1, p.2) (end_fails c.args.self c.in_ok-lemmas.lemmas c.in_err-closing.field-0.0 says c.in_err-closing.ensures)

pub returns : goal.returns
returns c =
    let says = c.in_ok-lemmas.ensures c.args.self.parts.items c.requires in
    whole_says c.args.self c.in_ok-lemmas.lemmas c.closing.new.self says c.in_ok-closing.ensures
