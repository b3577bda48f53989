use Rattle.std.proofs.lemmas.Result.{err_from_is_err_and}
use Rattle.symmetry_orbits.proofs.MemberLemmas.{same_error}
use Rattle.find_search.proofs.searches.Search.found_by.Goals as goal

pub returns-in_err-ended-clause-too_many : goal.returns-in_err-ended-clause-too_many
returns-in_err-ended-clause-too_many g c =
    let w = err_from_is_err_and c.from_residual-in_err-ended.result c.from_residual-in_err-ended.ensures.1 in
    rw (w.1, w.2) (λ e. c.in_err-ended.ensures.too_many (same_error e))
