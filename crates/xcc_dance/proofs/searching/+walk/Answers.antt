use Rattle.std.proofs.Common.{◌≡◌, ◌<◌, ◌-◌, ◌∷◌, ◌++◌, [], List, Some, None, IfSome, inl, inr, MatchOption, length, length-append, arith, refl, ap, sym, ◌∙◌, subst}
use Rattle.match_limits.specs.declared.TheConstants.{MOST_CHILDREN}
use Rattle.cert_tree.specs.declared.heads.Head.{Head}
use Rattle.fit_counts.specs.Placing.{FitInTurn}
use Rattle.xcc_form.specs.Options.{Compiled, cover_of}
use Rattle.xcc_form.specs.Correspondence.{IsSolutionOf}
use Rattle.xcc_form.specs.Chosen.{Selection, IsUncovered, AreAllCovered, IsNext, IsLast, with_option}
use Rattle.xcc_form.proofs.NextLemmas.{next_open}
use Rattle.xcc_dance.specs.Outcome.{IsCiteWithin}
use Rattle.xcc_dance.specs.Walking.{MayWalk}
use Rattle.xcc_dance.proofs.EngineLemmas.{else_spent}
use Rattle.xcc_dance.proofs.SearchTreeLemmas.{wanted_here}
use Rattle.xcc_dance.proofs.WalkLemmas.{taken_option, some_chosen, then_done, cited_tree}
use Rattle.xcc_dance.proofs.WalkingLemmas.{walks_spent, walks_found, walks_after, walks_further, walks_back, is_some, is_none, ends_with, found_made, dead_made, branch_ends, none_made, room_for_child, child_made, child_begun, all_made}
use Rattle.xcc_dance.proofs.searching.+walk.Goals as goal

-- ---- a node

pub walk-arrangement-requires : goal.walk-arrangement-requires
walk-arrangement-requires g t c = subst (λ e. let v : Selection = g.E.OpenOptions.selection e in AreAllCovered (cover_of v.compiled) v.chosen) (sym c.choose_branch.ensures.same) (is_none _ _ c.in_default.is c.in_ok-node.ensures.node)

pub walk-put_found-requires : goal.walk-put_found-requires
walk-put_found-requires g t c = let room = c.requires.may.room in omega (arith, room)

pub walk-put_branch-requires : goal.walk-put_branch-requires
walk-put_branch-requires g t c = let some = c.if-progress-eq0.false in omega (arith, some)

pub walk-walk_options-requires : goal.walk-walk_options-requires
walk-walk_options-requires g t c =
    let same = c.choose_branch.ensures.same in
    let node = is_some _ _ c.in-Some.is c.in_ok-node.ensures.node in
    let room = c.requires.may.room in
    let fuel = c.put_branch.ensures.fuel in
    let found = ap length c.put_branch.ensures.found in
    let left = ap (λ e. let v : Selection = g.E.OpenOptions.selection e in length v.compiled.options - length v.chosen) same in
    let uncovered = subst (λ e. let v : Selection = g.E.OpenOptions.selection e in IsUncovered (cover_of v.compiled) v.chosen c.in-Some.node.number) (sym same) node.uncovered in
    let may : MayWalk (g.E.OpenOptions.selection c.choose_branch.new.self) (g.C.Cites.takes c.args.cites.now) c.put_branch.new.self MOST_CHILDREN = record {
      takes = λ pairs fit. c.requires.may.takes pairs (subst (λ e. FitInTurn (g.E.OpenOptions.selection e).compiled.puzzle pairs) same fit);
      room = omega (arith, room, fuel, found);
    } in
    λ κs below. (omega (arith, c.decreases, left), (below.0, (below.1.0, (below.1.1, (uncovered, may)))))

pub walk-returns-in_err-node-clause-on : goal.walk-returns-in_err-node-clause-on
walk-returns-in_err-node-clause-on g t c = walks_spent (g.met.C.Cites.stays c.args.cites.now) c.choose_branch.ensures.same refl (omega arith)

pub walk-returns-in_err-arrangement-clause-on : goal.walk-returns-in_err-arrangement-clause-on
walk-returns-in_err-arrangement-clause-on g t c = walks_spent (g.met.C.Cites.stays c.args.cites.now) c.choose_branch.ensures.same refl (omega arith)

pub walk-returns-in_err-put_found-clause-on : goal.walk-returns-in_err-put_found-clause-on
walk-returns-in_err-put_found-clause-on g t c = walks_spent (g.met.C.Cites.stays c.args.cites.now) c.choose_branch.ensures.same c.in_err-put_found.ensures.refused (let e = c.put_found.ensures.fuel in omega (arith, e))

pub walk-returns-in_default-clause-on : goal.walk-returns-in_default-clause-on
walk-returns-in_default-clause-on g t c = walks_found c.in_ok-arrangement.field-0 (g.met.C.Cites.stays c.args.cites.now) c.choose_branch.ensures.same c.in_ok-put_found.ensures.found c.put_found.ensures.fuel c.in_ok-arrangement.ensures

pub walk-returns-in_default-clause-tree : goal.walk-returns-in_default-clause-tree
walk-returns-in_default-clause-tree g t c =
    let same = c.choose_branch.ensures.same in
    let a = c.in_ok-arrangement.field-0 in
    let solution = subst (λ e. let v : Selection = g.E.OpenOptions.selection e in IsSolutionOf v.compiled a v.chosen) same c.in_ok-arrangement.ensures in
    (same, found_made _ _ _ _ _ a c.in_ok-put_found.ensures.head c.in_ok-put_found.ensures.found c.put_found.ensures.fuel solution)

pub walk-returns-in_err-put_dead_end-clause-on : goal.walk-returns-in_err-put_dead_end-clause-on
walk-returns-in_err-put_dead_end-clause-on g t c = walks_spent (g.met.C.Cites.stays c.args.cites.now) c.choose_branch.ensures.same c.put_dead_end.ensures.found (let e = c.put_dead_end.ensures.fuel in omega (arith, e))

pub walk-returns-then-node-eq0-clause-on : goal.walk-returns-then-node-eq0-clause-on
walk-returns-then-node-eq0-clause-on g t c = walks_spent (g.met.C.Cites.stays c.args.cites.now) c.choose_branch.ensures.same c.put_dead_end.ensures.found (let e = c.put_dead_end.ensures.fuel in omega (arith, e))

pub walk-returns-then-node-eq0-clause-tree : goal.walk-returns-then-node-eq0-clause-tree
walk-returns-then-node-eq0-clause-tree g t c =
    let node = is_some _ _ c.in-Some.is c.in_ok-node.ensures.node in
    (c.choose_branch.ensures.same, dead_made _ _ _ _ _ c.in-Some.node node c.if-node-eq0.true c.in_ok-put_dead_end.ensures.head c.put_dead_end.ensures.found c.put_dead_end.ensures.fuel)

pub walk-returns-then-progress-eq0-clause-on : goal.walk-returns-then-progress-eq0-clause-on
walk-returns-then-progress-eq0-clause-on g t c = walks_spent (g.met.C.Cites.stays c.args.cites.now) c.choose_branch.ensures.same refl (omega arith)

pub walk-returns-then-progress-eq0-clause-tree : goal.walk-returns-then-progress-eq0-clause-tree
walk-returns-then-progress-eq0-clause-tree g t c =
    let node = is_some _ _ c.in-Some.is c.in_ok-node.ensures.node in
    (c.if-progress-eq0.true, wanted_here _ _ _ _ c.in-Some.node.number c.in-Some.node.size c.args.progress.now.fuel node.picked node.sized c.if-node-eq0.false c.if-progress-eq0.true)

pub walk-returns-in_err-put_branch-clause-on : goal.walk-returns-in_err-put_branch-clause-on
walk-returns-in_err-put_branch-clause-on g t c = walks_spent (g.met.C.Cites.stays c.args.cites.now) c.choose_branch.ensures.same c.put_branch.ensures.found (let e = c.put_branch.ensures.fuel in omega (arith, e))

pub walk-returns-clause-on : goal.walk-returns-clause-on
walk-returns-clause-on g t c = walks_after c.choose_branch.ensures.same c.put_branch.ensures.found c.put_branch.ensures.fuel c.walk_options.ensures.on

pub walk-returns-clause-tree : goal.walk-returns-clause-tree
walk-returns-clause-tree g t c = branch_ends g.E.OpenOptions.selection _ (g.C.Cites.answers c.walk_options.new.cites) _ _ c.walk_options.new.path _ _ c.walk_options.new.progress c.walk_options.result c.in-Some.node (is_some _ _ c.in-Some.is c.in_ok-node.ensures.node) c.if-node-eq0.false c.choose_branch.ensures.same c.in_ok-put_branch.ensures.head c.put_branch.ensures.found c.put_branch.ensures.fuel c.walk_options.ensures.trees

-- ---- the options of an item

pub walk_options-loop-next-init : goal.walk_options-loop-next-init
walk_options-loop-next-init g t c =
    let s = g.E.OpenOptions.selection c.args.path.now in
    let next = c.next_option-next.ensures.next in
    record {
      path = refl;
      next = next_open s s c.args.item None c.next_option-next.result refl next;
      made = none_made _ _ s c.args.item c.next_option-next.result c.args.progress.now next;
      on = walks_spent (g.met.C.Cites.stays c.args.cites.now) refl refl (omega arith);
    }

pub walk_options-choose-requires : goal.walk_options-choose-requires
walk_options-choose-requires g t c =
    let i = c.loop-next.invariant in
    (taken_option (g.E.OpenOptions.selection c.args.path.now) (g.E.OpenOptions.selection c.loop-next.path) c.args.item _ c.in-Some.option (ap g.E.OpenOptions.selection i.path) c.in-Some.is i.next).open_option

pub walk_options-child-requires : goal.walk_options-child-requires
walk_options-child-requires g t c =
    let s = g.E.OpenOptions.selection c.args.path.now in
    let i = c.loop-next.invariant in
    let with : g.E.OpenOptions.selection c.choose.new.self ≡ with_option s c.in-Some.option = c.in_ok-choose.ensures.chosen ∙ ap (λ v. with_option (g.E.OpenOptions.selection v) c.in-Some.option) i.path in
    let compiled = ap (λ (v : Selection). v.compiled) with in
    let lengths = ap (λ (v : Selection). length v.chosen) with ∙ length-append s.chosen (c.in-Some.option ∷ []) in
    let fewer = subst (λ (v : Selection). length v.chosen < length v.compiled.options) (ap g.E.OpenOptions.selection i.path) c.in_ok-choose.ensures.room in
    let options = ap (λ (x : Compiled). length x.options) compiled in
    let may : MayWalk (g.E.OpenOptions.selection c.choose.new.self) (g.C.Cites.takes c.loop-next.cites) c.loop-next.progress 1 = record {
      takes = λ pairs fit. g.met.C.Cites.takes_still c.args.cites.now c.loop-next.cites pairs i.on.moved (c.requires.may.takes pairs (subst (λ (x : Compiled). FitInTurn x.puzzle pairs) compiled fit));
      room = room_for_child (g.R.Chooses.picks c.args.rule.now) (g.C.Cites.answers c.loop-next.cites) s c.next_option-next.ensures.right c.args.item c.in-Some.is (is_some _ _ c.in-Some.is i.next) c.args.progress.now c.loop-next.progress i.made c.requires.may.room;
    } in
    λ κs below. (omega (arith, c.decreases, lengths, fewer, options), (below.0, (below.1.0, (below.1.1, may))))

pub walk_options-undo-requires : goal.walk_options-undo-requires
walk_options-undo-requires g t c =
    let done = then_done _ _ _ c.if-not-branch.false c.in_ok-child.ensures.child in
    some_chosen (g.E.OpenOptions.selection c.loop-next.path) (g.E.OpenOptions.selection c.child.new.path) c.in-Some.option (ap g.E.OpenOptions.selection done.0 ∙ c.in_ok-choose.ensures.chosen)

pub walk_options-next_option-next-requires-in-Some-clause-item :
    goal.walk_options-next_option-next-requires-in-Some-clause-item
walk_options-next_option-next-requires-in-Some-clause-item g t c =
    let done = then_done _ _ _ c.if-not-branch.false c.in_ok-child.ensures.child in
    let back = c.undo.ensures ∙ ap g.E.OpenOptions.taken_back done.0 ∙ c.in_ok-choose.ensures.before ∙ c.loop-next.invariant.path in
    subst (λ (v : Selection). IsUncovered (cover_of v.compiled) v.chosen c.args.item) (sym (ap g.E.OpenOptions.selection back)) c.requires.uncovered

pub walk_options-next_option-next-requires-in-Some-clause-after :
    goal.walk_options-next_option-next-requires-in-Some-clause-after
walk_options-next_option-next-requires-in-Some-clause-after g t c =
    let i = c.loop-next.invariant in
    let done = then_done _ _ _ c.if-not-branch.false c.in_ok-child.ensures.child in
    let back = c.undo.ensures ∙ ap g.E.OpenOptions.taken_back done.0 ∙ c.in_ok-choose.ensures.before ∙ i.path in
    taken_option (g.E.OpenOptions.selection c.args.path.now) (g.E.OpenOptions.selection c.undo.new.self) c.args.item _ c.in-Some.option (ap g.E.OpenOptions.selection back) c.in-Some.is i.next

pub walk_options-loop-next-preserved : goal.walk_options-loop-next-preserved
walk_options-loop-next-preserved g t c =
    let s = g.E.OpenOptions.selection c.args.path.now in
    let i = c.loop-next.invariant in
    let w = c.in_ok-child.ensures in
    let done = then_done _ _ _ c.if-not-branch.false w.child in
    let back = c.undo.ensures ∙ ap g.E.OpenOptions.taken_back done.0 ∙ c.in_ok-choose.ensures.before ∙ i.path in
    let after = Some c.in-Some.option in
    let then = c.next_option-next-in-Some.result in
    let next = subst (λ (v : Selection). MatchOption then (IsLast (cover_of v.compiled) v.chosen c.args.item after) (IsNext (cover_of v.compiled) v.chosen c.args.item after)) (ap g.E.OpenOptions.selection back) c.next_option-next-in-Some.ensures.next in
    let with = c.in_ok-choose.ensures.chosen ∙ ap (λ v. with_option (g.E.OpenOptions.selection v) c.in-Some.option) i.path in
    record {
      path = back;
      next = next_open s s c.args.item after then refl next;
      made = child_made _ _ s c.next_option-next.ensures.right c.args.item c.in-Some.is (is_some _ _ c.in-Some.is i.next) _ _ i.made _ (λ pairs o is. g.met.C.Cites.answers_still c.loop-next.cites c.child.new.cites pairs o w.on.moved is) _ with _ w.on.goes_on then next done.1;
      on = walks_back back (walks_further c.in-Some.option (g.met.C.Cites.goes_on c.args.cites.now c.loop-next.cites c.child.new.cites) i.path c.in_ok-choose.ensures.chosen i.on w.on);
    }

pub walk_options-returns-in_err-choose-clause-on : goal.walk_options-returns-in_err-choose-clause-on
walk_options-returns-in_err-choose-clause-on g t c = walks_back (c.in_err-choose.ensures.refused ∙ c.loop-next.invariant.path) c.loop-next.invariant.on

pub walk_options-returns-in_err-child-clause-on : goal.walk_options-returns-in_err-child-clause-on
walk_options-returns-in_err-child-clause-on g t c = walks_further c.in-Some.option (g.met.C.Cites.goes_on c.args.cites.now c.loop-next.cites c.child.new.cites) c.loop-next.invariant.path c.in_ok-choose.ensures.chosen c.loop-next.invariant.on c.child.ensures.on

pub walk_options-returns-then-not-branch-clause-on : goal.walk_options-returns-then-not-branch-clause-on
walk_options-returns-then-not-branch-clause-on g t c = walks_further c.in-Some.option (g.met.C.Cites.goes_on c.args.cites.now c.loop-next.cites c.child.new.cites) c.loop-next.invariant.path c.in_ok-choose.ensures.chosen c.loop-next.invariant.on c.child.ensures.on

pub walk_options-returns-then-not-branch-clause-trees : goal.walk_options-returns-then-not-branch-clause-trees
walk_options-returns-then-not-branch-clause-trees g t c =
    let s = g.E.OpenOptions.selection c.args.path.now in
    let i = c.loop-next.invariant in
    let w = c.in_ok-child.ensures in
    let left = else_spent _ _ _ c.if-not-branch.true w.child in
    let with = c.in_ok-choose.ensures.chosen ∙ ap (λ v. with_option (g.E.OpenOptions.selection v) c.in-Some.option) i.path in
    (left.0, child_begun _ _ s c.next_option-next.ensures.right c.args.item c.in-Some.is (is_some _ _ c.in-Some.is i.next) _ _ i.made _ (λ pairs o is. g.met.C.Cites.answers_still c.loop-next.cites c.child.new.cites pairs o w.on.moved is) _ with _ w.on.goes_on left.1)

pub walk_options-returns-clause-on : goal.walk_options-returns-clause-on
walk_options-returns-clause-on g t c = c.loop-next.invariant.on

pub walk_options-returns-clause-trees : goal.walk_options-returns-clause-trees
walk_options-returns-clause-trees g t c =
    let i = c.loop-next.invariant in
    (i.path, all_made _ _ (g.E.OpenOptions.selection c.args.path.now) c.args.item c.in_default.is c.args.progress.now c.loop-next.progress i.made)

-- ---- a child

pub child-cite-requires : goal.child-cite-requires
child-cite-requires g t c = c.requires.may.takes c.pairs.result.now c.pairs.ensures.fit

pub child-walk-requires : goal.child-walk-requires
child-walk-requires g t c =
    let may : MayWalk (g.E.OpenOptions.selection c.args.path.now) (g.C.Cites.takes c.cite.new.self) c.args.progress.now 1 = record {
      takes = λ pairs fit. g.met.C.Cites.takes_still c.args.cites.now c.cite.new.self pairs c.in_ok-cite.ensures.moved (c.requires.may.takes pairs fit);
      room = c.requires.may.room;
    } in
    λ κs below. (omega (arith, c.decreases), (below.0, (below.1.0, (below.1.1, may))))

pub child-returns-in_err-cite-clause-on : goal.child-returns-in_err-cite-clause-on
child-returns-in_err-cite-clause-on g t c = walks_spent c.cite.ensures.moved refl refl (omega arith)

pub child-returns-in_err-push-in-Some-clause-on : goal.child-returns-in_err-push-in-Some-clause-on
child-returns-in_err-push-in-Some-clause-on g t c = walks_spent c.in_ok-cite.ensures.moved refl refl (omega arith)

pub child-returns-in_ok-push-in-Some-clause-on : goal.child-returns-in_ok-push-in-Some-clause-on
child-returns-in_ok-push-in-Some-clause-on g t c = walks_spent c.in_ok-cite.ensures.moved refl refl (omega arith)

pub child-returns-in_ok-push-in-Some-clause-child : goal.child-returns-in_ok-push-in-Some-clause-child
child-returns-in_ok-push-in-Some-clause-child g t c =
    let s = g.E.OpenOptions.selection c.args.path.now in
    let heads = c.args.progress.now.heads.items in
    let cite = c.in-Some.cite in
    let cited = c.citation.ensures in
    let within = subst (λ o. IfSome o IsCiteWithin) c.in-Some.is c.in_ok-cite.ensures.within in
    let answered = subst (g.C.Cites.answers c.cite.new.self c.pairs.result.now) c.in-Some.is c.in_ok-cite.ensures.answered in (
      refl,
      (
        cited.0,
        c.in_ok-push-in-Some.ensures.items ∙ ap (λ (hs : List Head). heads ++ hs) (sym cited.2),
        (cited_tree s c.args.progress.now _ cite cited.0 cited.1 within refl refl, (c.pairs.result.now, c.pairs.ensures.pairs, inl (cite, answered, cited.1))),
      ),
    )

pub child-returns-in-None-clause-on : goal.child-returns-in-None-clause-on
child-returns-in-None-clause-on g t c =
    let w = c.walk.ensures.on in
    record { compiled = w.compiled; moved = g.met.C.Cites.goes_on c.args.cites.now c.cite.new.self c.walk.new.cites c.in_ok-cite.ensures.moved w.moved; goes_on = w.goes_on }

pub child-returns-in-None-clause-child : goal.child-returns-in-None-clause-child
child-returns-in-None-clause-child g t c =
    let pairs = c.pairs.result.now in
    let none = g.met.C.Cites.answers_still c.cite.new.self c.walk.new.cites pairs None c.walk.ensures.on.moved (subst (g.C.Cites.answers c.cite.new.self pairs) c.in-None.is c.in_ok-cite.ensures.answered) in
    ends_with c.walk.result c.walk.ensures.tree
    (λ w. (w.0, (w.1.0, w.1.1, (w.1.2.0, (pairs, c.pairs.ensures.pairs, inr (none, w.1.2.1))))))
    (λ w. (w.0, ((pairs, c.pairs.ensures.pairs, none), w.1)))
