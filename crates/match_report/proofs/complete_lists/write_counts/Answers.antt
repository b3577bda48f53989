use Rattle.std.proofs.Common.{◌≡◌, length, rules, subst}
use Rattle.match_report.specs.CompleteLists.{count_text}
use Rattle.match_report.proofs.complete_lists.write_counts.Goals as goal

pub returns-clause-count : goal.returns-clause-count
returns-clause-count g c =
    let counted = c.in_ok-counted.counted in
    let named : c.symmetries-named.result.now ≡ c.args.prepared.now.symmetries = search rules in (
      counted,
      c.in_ok-counted.ensures.count,
      subst (λ lines. c.in_ok-text.text.items ≡ count_text counted (length lines)) named c.in_ok-text.ensures,
    )
