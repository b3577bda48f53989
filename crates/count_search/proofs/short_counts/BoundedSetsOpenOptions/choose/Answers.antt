use Rattle.std.proofs.Common.{subst}
use Rattle.xcc_form.specs.Chosen.{Selection, IsSelection}
use Rattle.xcc_dance.proofs.RoomLemmas.{room}
use Rattle.count_search.proofs.short_counts.BoundedSetsOpenOptions.choose.Goals as goal

pub returns-then-self-eq0-clause-room : goal.returns-then-self-eq0-clause-room
returns-then-self-eq0-clause-room c =
    let v = c.args.self.now in
    room v.compiled v.chosen c.args.option (subst (λ (s : Selection). IsSelection s.compiled s.chosen) c.self.view_is c.chosen-right.ensures.right) c.requires
