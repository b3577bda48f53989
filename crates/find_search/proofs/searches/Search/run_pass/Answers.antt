use Rattle.std.proofs.Common.{IfOk, subst}
use Rattle.xcc_form.specs.Chosen.{Selection}
use Rattle.count_search.specs.Extensions.{IsExtension}
use Rattle.find_search.specs.Adding.{Adds}
use Rattle.find_search.proofs.RootLemmas.{all_found}
use Rattle.find_search.proofs.searches.Search.run_pass.Goals as goal

pub returns-clause-found : goal.returns-clause-found
returns-clause-found g c =
    let find = c.args.self.now.find in
    let x = find.xcc.now in
    let motions = find.symmetries.now in
    let before = c.new.result in
    let after = c.walk.new.progress.listed in
    all_found x motions find.most before after c.walk.result (subst (λ (v : Selection). IfOk c.walk.result (Adds v.compiled.puzzle motions (IsExtension v) before after)) c.requires.root c.walk.ensures.adds) c.walk.ensures.few c.walk.ensures.enough
