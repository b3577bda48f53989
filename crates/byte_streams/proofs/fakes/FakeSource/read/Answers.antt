use Rattle.std.proofs.Common.{arith, rules}
use Rattle.byte_streams.proofs.StreamLemmas.{copied}
use Rattle.byte_streams.proofs.fakes.FakeSource.read.Goals as goal

pub returns-clause-bytes : goal.returns-clause-bytes
returns-clause-bytes c = copied c.args.self.now.taken c.min-count.result c.args.self.now.bytes.now c.copy_from_slice.new.self _ (omega (arith, c.min.ensures, c.min-2.ensures, c.min-count.ensures)) (search rules)
