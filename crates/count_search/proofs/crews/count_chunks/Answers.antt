use Rattle.std.proofs.Common.{◌≡◌, ◌<◌, ◌≤◌, ◌*◌, length, get_or, arith, ap, sym, ◌∙◌, subst}
use Rattle.std.specs.Fork.{slice_chunk}
use Rattle.std.specs.Int.{div_ceil}
use Rattle.count_search.specs.Branches.{IsTotal}
use Rattle.count_search.proofs.ChunkLemmas.{chunk_within, chunks_all, few_chunks}
use Rattle.count_search.proofs.crews.count_chunks.Goals as goal

pub run_crew-requires-clause-accepts : goal.run_crew-requires-clause-accepts
run_crew-requires-clause-accepts g c =
    let size = c.min-size.ensures in
    let least = c.max.ensures in
    λ κs below n lt. (chunk_within (length c.args.branches.now) c.min-size.result n (omega (arith, size, least)) (subst (λ k. n < k) c.div_ceil-count.ensures lt), c.requires.selections, c.requires.looks)

pub run_crew-requires-clause-count : goal.run_crew-requires-clause-count
run_crew-requires-clause-count g c =
    let size = c.min-size.ensures in
    let least = c.max.ensures in
    let le = few_chunks (length c.args.branches.now) c.min-size.result 1000000 (omega (arith, size, least)) c.requires.few in
    let count = c.div_ceil-count.ensures in
    λ κs below. omega (arith, le, count)

pub returns : goal.returns
returns g c =
    let branches = c.args.branches.now in
    let many = c.min-size.result in
    let size = c.min-size.ensures in
    let least = c.max.ensures in
    let all = chunks_all (length branches) many (omega (arith, size, least)) in
    let told = c.in_ok-crew.ensures.results in
    let long : length c.results.result.now ≡ div_ceil (length branches) many
    = ap length c.results.ensures ∙ sym c.in_ok-crew.crew.results.ok.0 ∙ told.0 ∙ c.div_ceil-count.ensures in
    c.sum_of.ensures c.args.means.xcc.now branches many record {
      all = subst (λ k. length branches ≤ k * many) (sym long) all;
      each = λ n d lt.
          subst (λ totals. IsTotal c.args.means.xcc.now (slice_chunk branches many n) (get_or totals n d))
          (sym c.results.ensures) (told.1 n d (subst (λ totals. n < length totals) c.results.ensures lt));
    }
