use Rattle.std.proofs.Common.{◌*◌, ◌+◌, [], ℕ, List, Contains, length, get_or, ap, arith, subst}
use Rattle.match_limits.specs.NumberSets.{IsGroup}
use Rattle.match_puzzle.proofs.PlacementSetLemmas.{one_group_more}
use Rattle.fit_counts.proofs.fit_rows.FitRows.places_of.Goals as goal

pub loop-cell-preserved : goal.loop-cell-preserved
loop-cell-preserved c =
    one_group_more (λ cell turn. Contains (get_or c.args.self.now cell []) (4 * c.args.tile + turn)) c.loop-cell.cell c.group.result c.loop-cell.places c.put_group.new.self c.loop-cell.invariant c.put_group.ensures
    (subst (λ (r : List ℕ). IsGroup r c.args.tile c.group.result) c.at.ensures c.group.ensures.group)

pub returns : goal.returns
returns c =
    let all = c.loop-cell.invariant in
    record {
      only = λ n m. let h = all.only n m in let lt = h.0 in (omega (arith, lt, c.loop-cell.auto.cell-end, c.len-cell-end.ensures, ap (λ (rows : List (List ℕ)). length rows) c.self.view_is), h.1);
      all = λ n h. let lt = h.0 in all.all n (omega (arith, lt, c.loop-cell-test.false, c.len-cell-end.ensures, ap (λ (rows : List (List ℕ)). length rows) c.self.view_is), h.1);
      rising = all.rising;
    }
