use Rattle.std.proofs.Common.{true≢false, ◌≡◌, ◌<◌, ◌≤◌, ◌+◌, ◌∙◌, length, arith, sym, subst, inl, inr, ⊎_elim}
use Rattle.std.proofs.lemmas.Bool.{cases_lt}
use Rattle.std.proofs.lemmas.List.{get_or_read}
use Rattle.xcc_links.specs.Rings.{item_of}
use Rattle.xcc_links.specs.NodeTables.{start_of}
use Rattle.xcc_links.specs.NodeClashes.{ExcludesAt}
use Rattle.xcc_links.proofs.TrailLemmas.{goes_on}
use Rattle.xcc_links.proofs.PurifyingLemmas.{goes_has}
use Rattle.xcc_links.proofs.CommittingLemmas.{not_yet, all_barred, only_barred}
use Rattle.xcc_links.proofs.links.arrays.LinkArrays.commit_all.Goals as goal
use Rattle.xcc_links.proofs.links.arrays.LinkArrays.commit_all.Goals.{After-index-node-end, After-loop-node}

in_starts : (c : After-index-node-end) → c.args.option + 1 < length c.args.table.now.starts.items
in_starts c = omega (arith, c.requires.table.starts_long, c.requires.option)

-- where the option's nodes end
end : (c : After-index-node-end) → c.index-node-end.result.now ≡ start_of c.args.table.now.starts.items (c.args.option + 1)
end c = get_or_read c.args.table.now.starts.items (c.args.option + 1) c.index-node-end.result.now (in_starts c) c.index-node-end.ensures 0

-- the loop has come there
ended : (c : After-loop-node) → c.args.option + 1 < length c.args.table.now.starts.items → c.index-node-end.result.now ≡ start_of c.args.table.now.starts.items (c.args.option + 1) → c.loop-node.node ≡ start_of c.args.table.now.starts.items (c.args.option + 1)
ended c long z =
    let y = get_or_read c.args.table.now.starts.items c.args.option c.index-node.result.now (omega (arith, long)) c.index-node.ensures 0 in
    let r = c.requires.table.runs.rising c.args.option long in
    let up = c.loop-node.auto.node-end (omega (arith, y, z, r)) in
    omega (arith, y, z, r, up)

pub commit-requires-clause-uncovered : goal.commit-requires-clause-uncovered
commit-requires-clause-uncovered c = λ can_take.
    let f = c.args.table.now in
    let n = c.loop-node.node in
    let i = c.loop-node.invariant in
    let to : n < start_of f.starts.items (c.args.option + 1) = omega (arith, end (goal.at.commit-requires-clause-uncovered c).After-index-node-end) in
    let first = c.requires.uncovered n i.from to can_take in
    not_yet f.takable f.items f.options f.entries.items f.starts.items c.requires.table c.args.option c.requires.option n i.from to _ (λ e. ⊎_elim (λ h. absurd (true≢false (sym h ∙ first))) (λ w. w) (i.only (f.options + item_of f.entries.items n) e))

pub returns-in_err-commit-clause-goes : goal.returns-in_err-commit-clause-goes
returns-in_err-commit-clause-goes c = goes_on _ _ _ _ _ _ _ c.loop-node.invariant.goes c.in_err-commit.ensures.goes

pub loop-node-preserved : goal.loop-node-preserved
loop-node-preserved c =
    let f = c.args.table.now in
    let n = c.loop-node.node in
    let i = c.loop-node.invariant in
    let e = c.in_ok-commit.ensures in
    record {
      from = omega (arith, i.from);
      right = e.right;
      goes = goes_on _ _ _ _ _ _ _ i.goes e.goes;
      all = λ m mf mt p b. ⊎_elim
          (λ (lt : m < n). goes_has _ _ _ _ _ p e.goes (i.all m mf lt p b))
          (λ (ge : n ≤ m). let same : m ≡ n = omega (arith, mt) in e.all p (subst (λ k. ExcludesAt f.takable f.items f.options f.entries.items k p) same b))
          (cases_lt m n);
      only = λ p h. ⊎_elim
          (λ x. ⊎_elim (λ y. inl y) (λ w. inr (w.0, w.1, (let lt = w.2 in omega (arith, lt)), w.3)) (i.only p x))
          (λ b. inr (n, i.from, omega arith, b))
          (e.only p h);
    }

pub returns-clause-all : goal.returns-clause-all
returns-clause-all c =
    let f = c.args.table.now in
    let at = goal.at.returns-clause-all c in
    let same = ended at.After-loop-node (in_starts at.After-index-node-end) (end at.After-index-node-end) in
    all_barred f.takable f.items f.options f.entries.items f.starts.items c.requires.table c.args.option c.requires.option c.loop-node.self.trail.items (λ m mf mt p b. c.loop-node.invariant.all m mf (omega (arith, mt, same)) p b)

pub returns-clause-only : goal.returns-clause-only
returns-clause-only c = λ p h.
    let f = c.args.table.now in
    let at = goal.at.returns-clause-only c in
    let same = ended at.After-loop-node (in_starts at.After-index-node-end) (end at.After-index-node-end) in
    ⊎_elim (λ x. inl x) (λ w. inr (only_barred f.takable f.items f.options f.entries.items f.starts.items c.requires.table c.args.option c.requires.option p (w.0, w.1, (let lt = w.2 in omega (arith, lt, same)), w.3))) (c.loop-node.invariant.only p h)
