use Rattle.byte_streams.proofs.made_files.put_whole.Goals as goal

pub returns-in-None : goal.returns-in-None
returns-in-None g c = λ texts took. let put = c.in-Ok.ensures texts took in (put.0, c.in-None.ensures texts put.1)

pub returns-in-Ok : goal.returns-in-Ok
returns-in-Ok g c = λ texts took. (c.in-Ok.ensures texts took).0
