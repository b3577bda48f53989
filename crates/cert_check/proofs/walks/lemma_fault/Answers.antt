use Rattle.std.proofs.Common.{◌≡◌, ◌≢◌, ◌∙◌, None, MatchBool, ap, sym, subst}
use Rattle.match_puzzle.specs.Puzzle.{Task}
use Rattle.match_puzzle.specs.PrefixFaults.{IsPairList}
use Rattle.match_puzzle.specs.Prefix.{Layout, empty_prefix, with_pairs}
use Rattle.cert_tree.specs.Tree.{Forest}
use Rattle.cert_tree.specs.Heads.{first}
use Rattle.cert_check.specs.Walk.{Tells}
use Rattle.cert_check.proofs.walks.lemma_fault.Goals as goal

pub place_all-requires-clause-pairs : goal.place_all-requires-clause-pairs
place_all-requires-clause-pairs c = subst (λ (p : Task). IsPairList p c.args.lemma.now.prefix.now) (sym (ap (λ (w : Layout). w.puzzle) c.requires.empty)) c.requires.prefix

pub lift_all-requires-clause-pairs : goal.lift_all-requires-clause-pairs
lift_all-requires-clause-pairs c =
    let said = c.walk.new.fault in
    let none = subst (λ b. MatchBool b (said ≡ None) (said ≢ None)) c.if-branch.true c.in_ok-walk.ensures.holds in
    let same : c.walk.new.partial.puzzle ≡ c.args.setting.now.puzzle = ap (λ (w : Layout). w.puzzle) (c.in_ok-walk.ensures.restored none ∙ c.place_all.ensures) ∙ ap (λ (w : Layout). w.puzzle) c.requires.empty in
    subst (λ (p : Task). IsPairList p c.args.lemma.now.prefix.now) (sym same) c.requires.prefix

pub returns-clause-tells : goal.returns-clause-tells
returns-clause-tells c =
    let setting = c.args.setting.now in
    let lemma = c.args.lemma.now in
    let fault = c.walk.new.fault in
    let placed : c.place_all.new.self.placed ≡ with_pairs lemma.prefix.now (empty_prefix setting.puzzle) = ap (λ (w : Layout). w.placed) c.place_all.ensures
    ∙ ap (λ (w : Layout). with_pairs lemma.prefix.now (empty_prefix w.puzzle)) c.requires.empty in
    let told = subst (λ (trees : Forest). Tells setting (first trees) c.place_all.new.self.placed fault) c.trees-trees.ensures c.in_ok-walk.ensures.tells in
    subst (λ q. Tells setting lemma.tree q fault) placed told
