use Rattle.std.proofs.Common.{◌≡◌, Ok, rules}
use Rattle.std.proofs.lemmas.Result.{err_from_is_err_and}
use Rattle.match_text.specs.Lists.{list_of}
use Rattle.byte_streams.specs.LentTexts.{texts_of}
use Rattle.command_runs.proofs.RunLemmas.{certificate_fails, question_spelled}
use Rattle.command_runs.proofs.questions.read_question.Goals as goal

pub returns-in_err-certificate : goal.returns-in_err-certificate
returns-in_err-certificate c =
    let w = err_from_is_err_and c.from_residual-in_err-certificate.result c.from_residual-in_err-certificate.ensures.1 in
    let lists : list_of (texts_of c.args.documents.now).list ≡ Ok c.in_ok-listed.listed.items = search rules in
    rw w.1 (certificate_fails (texts_of c.args.documents.now) c.in_err-certificate.field-0.0 w.0 c.in_ok-puzzle.puzzle c.in_ok-listed.listed.items c.in_ok-puzzle.ensures.exact lists c.in_err-certificate.ensures.exact w.2)

pub returns : goal.returns
returns c =
    let lists : list_of (texts_of c.args.documents.now).list ≡ Ok c.in_ok-listed.listed.items = search rules in
    (question_spelled (texts_of c.args.documents.now) c.in_ok-puzzle.puzzle c.in_ok-listed.listed.items c.in_ok-certificate.certificate c.in_ok-puzzle.ensures.exact lists c.in_ok-certificate.ensures.exact, search rules)
