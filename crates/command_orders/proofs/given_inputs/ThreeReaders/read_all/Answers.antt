use Rattle.std.proofs.lemmas.Result.{err_from_is_err_and}
use Rattle.command_orders.proofs.GivenLemmas.{gave_all, none_stopped, stopped_first, stopped_second, stopped_third}
use Rattle.command_orders.proofs.given_inputs.ThreeReaders.read_all.Goals as goal

pub returns-in_err-puzzle-clause-stopped : goal.returns-in_err-puzzle-clause-stopped
returns-in_err-puzzle-clause-stopped g c =
    let w = err_from_is_err_and c.from_residual.result c.from_residual.ensures.1 in
    let old = c.args.self.now in
    rw (w.1, w.2) (stopped_first g.I.Source g.R.Source old.puzzle old.list old.certificate c.args.input.now
    c.read.new.self c.read.new.input c.in_err-puzzle.ensures.stays c.in_err-puzzle.field-0.0 c.in_err-puzzle.ensures.stopped)

pub returns-in_err-list-clause-stopped : goal.returns-in_err-list-clause-stopped
returns-in_err-list-clause-stopped g c =
    let w = err_from_is_err_and c.from_residual-in_err-list.result c.from_residual-in_err-list.ensures.1 in
    let old = c.args.self.now in
    rw (w.1, w.2) (stopped_second g.I.Source g.R.Source old.puzzle old.list old.certificate c.args.input.now
    c.read.new.self c.read.new.input c.in_ok-puzzle.ensures.stays _ c.in_ok-puzzle.ensures.gave c.in_ok-puzzle.ensures.faultless
    c.read-2.new.self c.read-2.new.input c.in_err-list.ensures.stays c.in_err-list.field-0.0 c.in_err-list.ensures.stopped)

pub returns-in_err-certificate-clause-stopped : goal.returns-in_err-certificate-clause-stopped
returns-in_err-certificate-clause-stopped g c =
    let w = err_from_is_err_and c.from_residual-in_err-certificate.result c.from_residual-in_err-certificate.ensures.1 in
    let old = c.args.self.now in
    rw (w.1, w.2) (stopped_third g.I.Source g.R.Source old.puzzle old.list old.certificate c.args.input.now
    c.read.new.self c.read.new.input c.in_ok-puzzle.ensures.stays _ c.in_ok-puzzle.ensures.gave c.in_ok-puzzle.ensures.faultless
    c.read-2.new.self c.read-2.new.input c.in_ok-list.ensures.stays _ c.in_ok-list.ensures.gave c.in_ok-list.ensures.faultless
    c.read-3.new.self c.read-3.new.input c.in_err-certificate.ensures.stays c.in_err-certificate.field-0.0 c.in_err-certificate.ensures.stopped)

pub returns-clause-gave : goal.returns-clause-gave
returns-clause-gave g c =
    let old = c.args.self.now in
    rw c.apart.ensures (gave_all g.I.Source g.R.Source old.puzzle old.list old.certificate c.args.input.now
    c.read.new.self c.read.new.input c.in_ok-puzzle.ensures.stays _ c.in_ok-puzzle.ensures.gave c.in_ok-puzzle.ensures.faultless
    c.read-2.new.self c.read-2.new.input c.in_ok-list.ensures.stays _ c.in_ok-list.ensures.gave c.in_ok-list.ensures.faultless
    c.read-3.new.self c.read-3.new.input c.in_ok-certificate.ensures.stays _ c.in_ok-certificate.ensures.gave)

pub returns-clause-faultless : goal.returns-clause-faultless
returns-clause-faultless g c =
    let old = c.args.self.now in
    none_stopped g.I.Source g.R.Source old.puzzle old.list old.certificate c.args.input.now
    c.read.new.self c.read.new.input c.in_ok-puzzle.ensures.stays _ c.in_ok-puzzle.ensures.gave c.in_ok-puzzle.ensures.faultless
    c.read-2.new.self c.read-2.new.input c.in_ok-list.ensures.stays _ c.in_ok-list.ensures.gave c.in_ok-list.ensures.faultless
    c.read-3.new.self c.read-3.new.input c.in_ok-certificate.ensures.stays c.in_ok-certificate.ensures.faultless
