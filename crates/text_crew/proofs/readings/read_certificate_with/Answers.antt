use Rattle.cert_text.proofs.ReadingLemmas.{certificate_found_of, certificate_within_of, certificate_only_of, certificate_cut_of}
use Rattle.text_crew.proofs.readings.read_certificate_with.Goals as goal

pub returns-clause-found : goal.returns-clause-found
returns-clause-found g c = certificate_found_of c.args.text.now c.read_by_parts.result c.read_by_parts.ensures

pub returns-clause-only : goal.returns-clause-only
returns-clause-only g c = certificate_only_of c.args.text.now c.read_by_parts.result c.read_by_parts.ensures

pub returns-clause-cut : goal.returns-clause-cut
returns-clause-cut g c = certificate_cut_of c.args.text.now c.read_by_parts.result c.read_by_parts.ensures

pub returns-clause-within : goal.returns-clause-within
returns-clause-within g c = certificate_within_of c.args.text.now c.read_by_parts.result c.read_by_parts.ensures
