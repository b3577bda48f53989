use Rattle.fit_counts.proofs.FitRowLemmas.{row_common}
use Rattle.fit_counts.proofs.fit_rows.put_common.Goals as goal

pub returns : goal.returns
returns c =
    row_common c.args.partial.now.puzzle c.args.partial.now.placed c.args.cell _ _ _ _ _ c.put_common.new.self (rw c.puzzle.ensures.same at c.legal_numbers.ensures.legal) c.as_asked.ensures c.as_asked-2.ensures c.as_asked-3.ensures c.as_asked-4.ensures c.requires.free c.put_common.ensures
