use Rattle.std.proofs.Common.{◌∙◌, ℕ, List, get_or, refl, subst, sym}
use Rattle.match_puzzle.specs.Puzzle.{Task}
use Rattle.match_puzzle.specs.Prefix.{Prefix}
use Rattle.cert_tree.specs.Heads.{first}
use Rattle.cert_tree.specs.Tree.{Tree}
use Rattle.cert_check.specs.Scene.{IsChild, LeadsTo}
use Rattle.cert_check.proofs.ForkLemmas.{drop_past}
use Rattle.cert_check.proofs.SceneLemmas.{leads_next, leads_on}
use Rattle.cert_check.proofs.scenes.Scene.follow.Goals as goal

pub loop-number-preserved : goal.loop-number-preserved
loop-number-preserved c =
    let l = c.loop-number in
    let here = l.self in
    let there = c.go_to_child.new.self in
    let went = c.go_to_child.ensures in
    let p = c.args.self.now.partial.puzzle in
    let path = c.args.path.now in
    let (node, placed, leads, whole) = l.invariant.leads in
    let child = subst (λ (t : Task). IsChild t (first here.trees) here.partial.placed (get_or path l.number-index 0) (first there.trees) there.partial.placed) l.invariant.puzzle went.child in
    record {
      some = went.some;
      long = went.long;
      puzzle = went.puzzle ∙ l.invariant.puzzle;
      leads = (node, placed, leads_on p (first here.trees) here.partial.placed path l.number-index node placed (first there.trees) there.partial.placed c.loop-number-test.true leads child, whole);
    }

pub loop-number-init : goal.loop-number-init
loop-number-init c =
    let (node, placed, leads) = c.requires.path in
    record { some = c.requires.some; long = c.requires.long; puzzle = refl; leads = (node, placed, leads, leads) }

pub go_to_child-requires : goal.go_to_child-requires
go_to_child-requires c =
    let l = c.loop-number in
    let p = c.args.self.now.partial.puzzle in
    let (node, placed, leads, whole) = l.invariant.leads in
    let (child, there, is) = leads_next p (first l.self.trees) l.self.partial.placed c.args.path.now l.number-index node placed c.loop-number-test.true leads in
    record {
      some = l.invariant.some;
      long = l.invariant.long;
      child = (child, there, subst (λ (t : Task). IsChild t (first l.self.trees) l.self.partial.placed (get_or c.args.path.now l.number-index 0) child there) (sym l.invariant.puzzle) is);
    }

pub returns : goal.returns
returns c =
    let l = c.loop-number in
    let s = c.args.self.now in
    let path = c.args.path.now in
    let (node, placed, leads, whole) = l.invariant.leads in
    let (node_is, placed_is) = subst (λ (rest : List ℕ). LeadsTo s.partial.puzzle (first l.self.trees) l.self.partial.placed rest node placed) (drop_past l.number-index path c.loop-number-test.false) leads in
    record {
      some = l.invariant.some;
      long = l.invariant.long;
      puzzle = l.invariant.puzzle;
      leads = subst (λ (t : Tree). LeadsTo s.partial.puzzle (first s.trees) s.partial.placed path t l.self.partial.placed) node_is
          (subst (λ (q : Prefix). LeadsTo s.partial.puzzle (first s.trees) s.partial.placed path node q) placed_is whole);
    }
