use Rattle.std.proofs.Common.{◌≡◌, ◌+◌, Contains, ◌++◌, ◌-◌, arith, ap, sym, ◌∙◌, subst, ⊎_elim, inl, length, refl}
use Rattle.match_limits.specs.declared.TheConstants.{MOST_LEVELS}
use Rattle.match_limits.proofs.Listings.{contains_none}
use Rattle.cert_tree.specs.Heads.{heads_of}
use Rattle.cert_tree.specs.Tree.{Tree}
use Rattle.cert_tree.proofs.HeadLemmas.{of_tree}
use Rattle.xcc_form.specs.Options.{Compiled}
use Rattle.xcc_form.specs.Chosen.{before_any}
use Rattle.fit_counts.specs.Placing.{FitInTurn}
use Rattle.xcc_dance.specs.Placing.{IsArrangementWith}
use Rattle.xcc_dance.specs.Outcome.{IsSearched, IsTreeFrom, IsUnfinishedFrom}
use Rattle.xcc_dance.specs.Progress.{levels_below}
use Rattle.xcc_dance.specs.declared.progress.Progress.{Progress}
use Rattle.xcc_dance.proofs.PlacingLemmas.{found_extends}
use Rattle.xcc_dance.proofs.WithinLemmas.{deeper, levels_up}
use Rattle.xcc_dance.proofs.EngineLemmas.{same_engine, not_failed, ok_no_err, else_spent, spent_within}
use Rattle.xcc_dance.proofs.WalkLemmas.{then_done}
use Rattle.xcc_dance.proofs.searches.SearchOver.run_by.Goals as goal

pub choose_all-requires-clause-fit : goal.choose_all-requires-clause-fit
choose_all-requires-clause-fit g c = subst (λ e. FitInTurn (g.E.OpenOptions.selection e).compiled.puzzle c.args.prefix.now) (sym (same_engine c.self.view_is)) c.requires.prefix

pub walk-walked-requires : goal.walk-walked-requires
walk-walked-requires g c =
    let compiled = c.choose_all.ensures.compiled ∙ ap (λ e. (g.E.OpenOptions.selection e).compiled) (same_engine c.self.view_is) in
    let none = ap length c.new.ensures.items in
    let most = c.requires.fuel in
    record {
      may = record {
        takes = λ pairs fit. c.requires.takes pairs (subst (λ (x : Compiled). FitInTurn x.puzzle pairs) compiled fit);
        room = omega (arith, none, most);
      };
    }

pub of-tree-requires : goal.of-tree-requires
of-tree-requires g c =
    let s = c.choose_all.new.self in
    let after = c.walk-walked.new.progress in
    let before : Progress = record { fuel = c.args.fuel; found = c.new.result; heads = c.new-2.result } in
    let picks = g.R.Chooses.picks c.args.rule.now in
    let answers = g.C.Cites.answers c.walk-walked.new.cites in
    let selection = g.E.OpenOptions.selection in
    let done = then_done _ _ _ c.if-not-branch.false c.in_ok-walked.ensures.tree in
    (of_tree done.1.0 after.heads.items (done.1.1 ∙ ap (λ xs. xs ++ heads_of done.1.0) c.new-2.ensures.items)).0

pub returns-clause-tree : goal.returns-clause-tree
returns-clause-tree g c =
    let s = c.choose_all.new.self in
    let after = c.walk-walked.new.progress in
    let before : Progress = record { fuel = c.args.fuel; found = c.new.result; heads = c.new-2.result } in
    let picks = g.R.Chooses.picks c.args.rule.now in
    let answers = g.C.Cites.answers c.walk-walked.new.cites in
    let selection = g.E.OpenOptions.selection in
    let done = then_done _ _ _ c.if-not-branch.false c.in_ok-walked.ensures.tree in
    let tree = done.1.0 in
    let is : c.of-tree.result ≡ tree = c.of-tree.ensures ∙ (of_tree tree after.heads.items (done.1.1 ∙ ap (λ xs. xs ++ heads_of tree) c.new-2.ensures.items)).1 in
    let back : c.undo_all.new.self ≡ c.self.inside.path = c.undo_all.ensures ∙ ap (before_any selection g.E.OpenOptions.taken_back) done.0 ∙ c.in_ok-choose_all.ensures.before in
    let compiled : (selection c.undo_all.new.self).compiled ≡ (selection s).compiled = ap (λ v. (selection v).compiled) back ∙ sym c.choose_all.ensures.compiled in
    let there : IsTreeFrom picks answers (selection s).compiled c.args.prefix.now tree after.found.items = ((selection s).chosen, c.in_ok-choose_all.ensures.pairs, done.1.2.1) in
    subst (λ (x : Compiled). IsTreeFrom picks answers x c.args.prefix.now c.of-tree.result after.found.items) (sym compiled)
    (subst (λ (t : Tree). IsTreeFrom picks answers (selection s).compiled c.args.prefix.now t after.found.items) (sym is) there)

pub returns-clause-outcome : goal.returns-clause-outcome
returns-clause-outcome g c =
    let s = c.choose_all.new.self in
    let after = c.walk-walked.new.progress in
    let before : Progress = record { fuel = c.args.fuel; found = c.new.result; heads = c.new-2.result } in
    let w = c.in_ok-walked.ensures in
    let picks = g.R.Chooses.picks c.args.rule.now in
    let answers = g.C.Cites.answers c.walk-walked.new.cites in
    let selection = g.E.OpenOptions.selection in
    let done = then_done _ _ _ c.if-not-branch.false w.tree in
    let tree = done.1.0 in
    let is : c.of-tree.result ≡ tree = c.of-tree.ensures ∙ (of_tree tree after.heads.items (done.1.1 ∙ ap (λ xs. xs ++ heads_of tree) c.new-2.ensures.items)).1 in
    let t = done.1.2.0 in
    let back : c.undo_all.new.self ≡ c.self.inside.path = c.undo_all.ensures ∙ ap (before_any selection g.E.OpenOptions.taken_back) done.0 ∙ c.in_ok-choose_all.ensures.before in
    let engine : c.undo_all.new.self ≡ c.args.self.now.engine = back ∙ same_engine c.self.view_is in
    let compiled : (selection c.undo_all.new.self).compiled ≡ (selection s).compiled = ap (λ v. (selection v).compiled) back ∙ sym c.choose_all.ensures.compiled in
    let spent = t.spent in
    let searched : IsSearched (selection c.undo_all.new.self).compiled c.args.prefix.now tree after.found.items (c.args.fuel - after.fuel) = record {
      found_are = λ a h.
          ⊎_elim
          (λ old. absurd (contains_none a (subst (λ xs. Contains xs a) c.new.ensures.items old)))
          (λ f. subst (λ (x : Compiled). IsArrangementWith x.puzzle c.args.prefix.now a) (sym compiled) (found_extends (selection s) c.args.prefix.now a c.in_ok-choose_all.ensures.pairs f))
          (w.on.goes_on.found a h);
      numbers = t.numbers;
      branch_nodes = omega (arith, spent);
      levels = levels_up (levels_below (selection s) + 1) MOST_LEVELS (omega arith) tree t.levels;
      within = λ few. deeper (levels_below (selection s) + 1) MOST_LEVELS (omega arith) tree (t.within few);
    } in (
      subst (λ (u : Tree). IsSearched (selection c.undo_all.new.self).compiled c.args.prefix.now u after.found.items (c.args.fuel - after.fuel)) (sym is) searched,
      engine,
      refl,
    )

pub choose_all-requires-clause-empty : goal.choose_all-requires-clause-empty
choose_all-requires-clause-empty g c = c.self.invariant c.if-self.false

pub overflow_sub-self : goal.overflow_sub-self
overflow_sub-self g c = let less = c.walk-walked.ensures.on.goes_on.fuel in omega (arith, less)

pub returns-in_err-choose_all-clause-compiled : goal.returns-in_err-choose_all-clause-compiled
returns-in_err-choose_all-clause-compiled g c = c.choose_all.ensures.compiled ∙ ap (λ e. (g.E.OpenOptions.selection e).compiled) (same_engine c.self.view_is)

pub returns-in_err-choose_all-clause-moved : goal.returns-in_err-choose_all-clause-moved
returns-in_err-choose_all-clause-moved g c = g.met.C.Cites.stays c.args.cites.now

pub returns-in_err-walked-clause-compiled : goal.returns-in_err-walked-clause-compiled
returns-in_err-walked-clause-compiled g c = c.walk-walked.ensures.on.compiled ∙ c.choose_all.ensures.compiled ∙ ap (λ e. (g.E.OpenOptions.selection e).compiled) (same_engine c.self.view_is)

pub returns-in_err-walked-clause-most : goal.returns-in_err-walked-clause-most
returns-in_err-walked-clause-most g c = inl (spent_within c.args.fuel c.walk-walked.new.progress.fuel)

pub returns-in_err-walked-clause-moved : goal.returns-in_err-walked-clause-moved
returns-in_err-walked-clause-moved g c = c.walk-walked.ensures.on.moved

pub returns-then-not-branch-clause-compiled : goal.returns-then-not-branch-clause-compiled
returns-then-not-branch-clause-compiled g c = c.walk-walked.ensures.on.compiled ∙ c.choose_all.ensures.compiled ∙ ap (λ e. (g.E.OpenOptions.selection e).compiled) (same_engine c.self.view_is)

pub returns-then-not-branch-clause-tree : goal.returns-then-not-branch-clause-tree
returns-then-not-branch-clause-tree g c =
    let s = g.E.OpenOptions.selection c.choose_all.new.self in
    let picks = g.R.Chooses.picks c.args.rule.now in
    let answers = g.C.Cites.answers c.walk-walked.new.cites in
    let spent = else_spent _ _ _ c.if-not-branch.true c.in_ok-walked.ensures.tree in
    let there : IsUnfinishedFrom picks answers s.compiled c.args.prefix.now c.args.fuel = (s.chosen, c.in_ok-choose_all.ensures.pairs, (c.walk-walked.new.progress.found.items, spent.1)) in
    subst (λ (x : Compiled). IsUnfinishedFrom picks answers x c.args.prefix.now c.args.fuel) (sym c.walk-walked.ensures.on.compiled) there

pub returns-then-not-branch-clause-most : goal.returns-then-not-branch-clause-most
returns-then-not-branch-clause-most g c = inl (spent_within c.args.fuel c.walk-walked.new.progress.fuel)

pub returns-then-not-branch-clause-failed : goal.returns-then-not-branch-clause-failed
returns-then-not-branch-clause-failed g c = (λ h. absurd (ok_no_err _ _ h), λ e. absurd (not_failed c.self.view_is c.if-self.false e))

pub returns-then-not-branch-clause-moved : goal.returns-then-not-branch-clause-moved
returns-then-not-branch-clause-moved g c = c.walk-walked.ensures.on.moved

pub invariant_of-self-2 : goal.invariant_of-self-2
invariant_of-self-2 g c =
    let done = then_done _ _ _ c.if-not-branch.false c.in_ok-walked.ensures.tree in
    let back = c.undo_all.ensures ∙ ap (before_any g.E.OpenOptions.selection g.E.OpenOptions.taken_back) done.0 ∙ c.in_ok-choose_all.ensures.before in
    λ e. ap (λ v. (g.E.OpenOptions.selection v).chosen) back ∙ c.self.invariant c.if-self.false

pub returns-clause-compiled : goal.returns-clause-compiled
returns-clause-compiled g c =
    let done = then_done _ _ _ c.if-not-branch.false c.in_ok-walked.ensures.tree in
    let back = c.undo_all.ensures ∙ ap (before_any g.E.OpenOptions.selection g.E.OpenOptions.taken_back) done.0 ∙ c.in_ok-choose_all.ensures.before in
    ap (λ v. (g.E.OpenOptions.selection v).compiled) (back ∙ same_engine c.self.view_is)

pub returns-clause-most : goal.returns-clause-most
returns-clause-most g c = inl (spent_within c.args.fuel c.walk-walked.new.progress.fuel)

pub returns-clause-failed : goal.returns-clause-failed
returns-clause-failed g c = (λ h. absurd (ok_no_err _ _ h), λ e. absurd (not_failed c.self.view_is c.if-self.false e))

pub returns-clause-moved : goal.returns-clause-moved
returns-clause-moved g c = c.walk-walked.ensures.on.moved
