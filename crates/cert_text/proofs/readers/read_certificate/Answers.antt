use Rattle.cert_text.proofs.ReadingLemmas.{certificate_found_of, certificate_within_of, certificate_only_of, certificate_cut_of}
use Rattle.cert_text.proofs.readers.read_certificate.Goals as goal

pub returns-clause-found : goal.returns-clause-found
returns-clause-found c = certificate_found_of c.args.text.now c.read_and_make.result c.read_and_make.ensures

pub returns-clause-only : goal.returns-clause-only
returns-clause-only c = certificate_only_of c.args.text.now c.read_and_make.result c.read_and_make.ensures

pub returns-clause-cut : goal.returns-clause-cut
returns-clause-cut c = certificate_cut_of c.args.text.now c.read_and_make.result c.read_and_make.ensures

pub returns-clause-within : goal.returns-clause-within
returns-clause-within c = certificate_within_of c.args.text.now c.read_and_make.result c.read_and_make.ensures
