use Rattle.std.proofs.Common.{◌≡◌, ◌-◌}
use Rattle.text_words.specs.Place.{times}
use Rattle.match_text.specs.Lists.{arrangement_line}
use Rattle.text_words.proofs.LoopLemmas.{with_front}
use Rattle.match_text.proofs.lists.arrangements.Given as goal

abbrev pub invariant-loop : goal.invariant-loop
invariant-loop l = with_front l.rows.items (times (l.count - l.counter) (arrangement_line l.ranges) l.scan) ≡ times l.count (arrangement_line l.ranges) l.fn.scan
