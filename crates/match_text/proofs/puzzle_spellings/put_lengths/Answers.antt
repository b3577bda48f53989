use Rattle.std.proofs.Common.{append_assoc, refl}
use Rattle.match_text.proofs.puzzle_spellings.put_lengths.Goals as goal

pub returns : goal.returns
returns c =
    rw (c.in_ok-push-2.ensures.items, c.in_ok-put_number-2.ensures, c.in_ok-push.ensures.items, c.in_ok-put_number.ensures, c.in_ok-extend_from_slice.ensures.items, c.from.ensures, c.from-2.ensures) (simp append_assoc refl)
