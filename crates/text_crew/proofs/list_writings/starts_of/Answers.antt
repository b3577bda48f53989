use Rattle.std.proofs.Common.{◌+◌, ◌≤◌, ◌++◌, ◌∷◌, [], ◌∙◌, arith, ap}
use Rattle.cert_text.proofs.CutLemmas.{first_start, later_starts, one_start_more, all_starts}
use Rattle.text_crew.proofs.list_writings.starts_of.Goals as goal
use Rattle.text_crew.proofs.list_writings.starts_of.Goals.{then-in_part-each+then-len-lt-MOST_PARTS+in_ok-push-2, else-in_part-each}

pub loop-number-init : goal.loop-number-init
loop-number-init c = first_start c.push.new.self.items (c.in_ok-push.ensures.items ∙ ap (λ xs. xs ++ 0 ∷ []) c.new-starts.ensures.items)

pub loop-number-preserved : goal.loop-number-preserved
loop-number-preserved c =
    let number = c.loop-number.number in
    let starts = c.loop-number.starts.items in
    let later = later_starts number (number + 1) starts (omega arith) c.loop-number.invariant in
    elim c.if-in_part-each.branch [
      | then-in_part-each+then-len-lt-MOST_PARTS+in_ok-push-2 w ↦ rw w.starts-is (one_start_more (number + 1) starts w.push-then-len-lt-MOST_PARTS.new.self.items later w.in_ok-push-2.ensures.items (omega (arith, w.if-len-lt-MOST_PARTS.true, w.len.ensures)))
      | else-in_part-each w ↦ rw w.starts-is later
    ]

pub returns : goal.returns
returns c =
    let count = c.args.count in
    let starts = c.loop-number.starts.items in
    let all : c.loop-number.number ≤ count = omega (arith, c.loop-number.auto.number-end) in
    all_starts count starts c.push-2.new.self.items (later_starts c.loop-number.number count starts all c.loop-number.invariant) c.in_ok-push-3.ensures.items
