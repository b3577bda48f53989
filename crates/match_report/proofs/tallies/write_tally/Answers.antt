use Rattle.std.proofs.Common.{◌≡◌, ◌++◌, length, sym, ap, ◌∙◌, arith}
use Rattle.text_words.specs.Spelling.{line_text}
use Rattle.match_report.specs.TallyText.{worker_words, tally_text}
use Rattle.match_report.proofs.NumberedLemmas.{numbered_lines, numbered_all, numbered_more, numbered_none}
use Rattle.match_report.proofs.tallies.write_tally.Goals as goal

pub loop-worker-init : goal.loop-worker-init
loop-worker-init c = c.new-text.ensures.items ∙ sym (numbered_none worker_words c.args.tally.now)

pub loop-worker-preserved : goal.loop-worker-preserved
loop-worker-preserved c =
    let worker = c.loop-worker.worker in
    let taken = c.index-tally-worker.result in
    c.in_ok-put_worker.ensures ∙ ap (λ text. text ++ line_text (worker_words (worker, taken))) c.loop-worker.invariant
    ∙ sym (numbered_more worker_words c.args.tally.now worker taken c.loop-worker-test.true (sym c.index-tally-worker.is))

pub returns : goal.returns
unfolding tally_text
returns c =
    let all : c.loop-worker.worker ≡ length c.args.tally.now = omega (arith, c.loop-worker-test.false, c.loop-worker.auto.worker-end) in
    c.loop-worker.invariant ∙ ap (numbered_lines worker_words c.args.tally.now) all ∙ numbered_all worker_words c.args.tally.now
