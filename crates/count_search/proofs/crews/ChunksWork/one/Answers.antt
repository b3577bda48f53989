use Rattle.std.proofs.Common.{◌-◌, ◌*◌, IfOk, MatchOption, ℕ, length, take, drop, refl, sym, subst}
use Rattle.std.specs.Fork.{slice_chunk}
use Rattle.xcc_form.specs.Chosen.{Selection, IsSelection}
use Rattle.count_search.specs.Branches.{AllChoose, HaveTogether, HaveMoreTogether, IsTotal}
use Rattle.count_search.proofs.SpreadLemmas.{ok_then}
use Rattle.count_search.proofs.ChunkLemmas.{chunk_is, chunk_selections, told}
use Rattle.count_search.proofs.crews.ChunksWork.one.Goals as goal

pub count_branches-requires-clause-selections : goal.count_branches-requires-clause-selections
count_branches-requires-clause-selections g c =
    let w = c.args.self.now in
    let first = c.args.number * w.size in
    let chunk = chunk_is w.branches.now first w.size c.min.result c.min.ensures in
    subst (λ (v : Selection). AllChoose (IsSelection v.compiled) (take c.min.result (take (length w.branches.now - first) (drop first w.branches.now)))) (sym c.in_ok-engine.ensures)
    (subst (AllChoose (IsSelection w.means.xcc.now)) (sym chunk) (chunk_selections w.means.xcc.now w.branches.now first w.size c.requires.1))

pub returns : goal.returns
returns g c =
    let w = c.args.self.now in
    let x = w.means.xcc.now in
    let first = c.args.number * w.size in
    let taken = take c.min.result (take (length w.branches.now - first) (drop first w.branches.now)) in
    let chunk = chunk_is w.branches.now first w.size c.min.result c.min.ensures in
    let most : ℕ = 18446744073709551615 in
    let counted = subst (λ (v : Selection). IfOk c.count_branches.result (λ o. MatchOption o (HaveMoreTogether v.compiled taken most) (HaveTogether v.compiled taken))) c.in_ok-engine.ensures c.count_branches.ensures.counted in
    ok_then (λ o. MatchOption o (HaveMoreTogether x (slice_chunk w.branches.now w.size c.args.number) most) (HaveTogether x (slice_chunk w.branches.now w.size c.args.number))) (IsTotal x (slice_chunk w.branches.now w.size c.args.number))
    (λ o t. told x (slice_chunk w.branches.now w.size c.args.number) most o refl t) c.count_branches.result
    (subst (λ these. IfOk c.count_branches.result (λ o. MatchOption o (HaveMoreTogether x these most) (HaveTogether x these))) chunk counted)
