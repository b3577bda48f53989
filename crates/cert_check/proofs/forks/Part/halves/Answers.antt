use Rattle.std.proofs.Common.{◌≤◌, ◌+◌, ◌-◌, ◌/◌, arith}
use Rattle.cert_check.proofs.ForkLemmas.{both_said}
use Rattle.cert_check.proofs.forks.Part.halves.Goals as goal

pub returns-clause-both : goal.returns-clause-both
returns-clause-both c =
    let part = c.args.self.now in
    let middle = part.start + (part.end - part.start) / 2 in
    let range : part.start ≤ part.end = c.requires.range in
    let after : part.start ≤ middle = omega arith in
    let until : middle ≤ part.end = omega arith in
    both_said part.setting.now part.item part.partial.now.placed part.trees.now part.start middle part.end after until
