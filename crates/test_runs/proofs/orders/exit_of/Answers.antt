use Rattle.std.proofs.Common.{◌∙◌, ap}
use Rattle.test_runs.specs.HeldFiles.{held_by}
use Rattle.test_runs.proofs.HeldLemmas.{all_left, held_is, held_so}
use Rattle.test_runs.proofs.orders.exit_of.Goals as goal

pub returns : goal.returns
returns g c =
    let p = c.args.held.now.puzzle.now in
    let l = c.args.held.now.list.now in
    let t = c.args.held.now.certificate.now in
    let run = c.in_ok-exit.ensures.run.1.1 in
    let all = run.2.0 in
    let gave = run.2.1 in
    let holds = held_by p l t in
    let first = all_left _ p _ (all.puzzle.is_opened.0 ∙ ap holds c.in_ok-names.ensures.puzzle) all.puzzle.is_opened.1 in
    let second = all_left _ l _ (all.list.is_opened.0 ∙ ap holds c.in_ok-names.ensures.list) all.list.is_opened.1 in
    let third = all_left _ t _ (all.certificate.is_opened.0 ∙ ap holds c.in_ok-names.ensures.certificate) all.certificate.is_opened.1 in
    λ done. held_so p l t run.0 (held_is p _ run.0.puzzle first gave.0) (held_is l _ run.0.list second gave.1) (held_is t _ run.0.certificate third gave.2) (run.3.complete done)
