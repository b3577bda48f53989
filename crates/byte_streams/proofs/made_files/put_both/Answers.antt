use Rattle.std.proofs.Common.{refl}
use Rattle.byte_streams.proofs.made_files.put_both.Goals as goal

pub returns-in-Ok-put : goal.returns-in-Ok-put
returns-in-Ok-put g c = λ texts are. (
  (c.put.new.self, c.in-Ok.ensures.does texts.list are.list, (c.put-2.new.self, c.in-Ok-put.ensures.does texts.certificate are.certificate, refl)),
  record { list = c.in-Ok.ensures.put texts.list are.list; certificate = c.in-Ok-put.ensures.put texts.certificate are.certificate },
)
