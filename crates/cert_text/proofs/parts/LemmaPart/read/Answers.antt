use Rattle.cert_text.proofs.PartLemmas.{part_read}
use Rattle.cert_text.proofs.parts.LemmaPart.read.Goals as goal

pub returns : goal.returns
returns c = part_read c.args.self.now c.ranges_of.result c.copy-scan.result c.read_lemmas.new.scan c.read_lemmas.result c.ranges_of.ensures.value c.copy-scan.ensures c.read_lemmas.ensures
