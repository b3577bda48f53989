use Rattle.std.proofs.Common.{◌-◌, get_or, arith}
use Rattle.text_words.proofs.FrontLemmas.{placement_front}
use Rattle.text_words.proofs.words.short_placement.Goals as goal

pub returns : goal.returns
returns c =
    rw c.from.ensures (placement_front c.args.line.now c.in_ok-tile.after.now c.in_ok-tile.tile (get_or c.in_ok-tile.after.now 1 0 - 48) c.in_ok-tile.ensures.digits c.in_ok-tile.ensures.small (omega arith) (omega arith) (omega arith) (omega arith) (omega arith) (omega arith))
