use Rattle.std.proofs.Common.{refl}
use Rattle.match_text.specs.Lists.{list_text}
use Rattle.match_text.proofs.lists.whole.Goals as goal

pub returns : goal.returns
unfolding list_text
returns c =
    let rows = rw c.ranges_of.ensures.value at c.in_ok-rows.ensures in
    rw (c.in_ok-version.ensures.gives, c.in_ok-count.ensures.gives, rows, c.in_ok-closing.ensures) refl
