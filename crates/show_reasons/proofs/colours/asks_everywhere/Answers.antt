use Rattle.std.proofs.Common.{◌≡◌, ap, sym, ◌∙◌, eq-eqb}
use borrow.Author.Tests.{eqb-true}
use Rattle.match_board.specs.Borders.{rule_of, each}
use Rattle.show_reasons.proofs.BorderCounts.{everywhere_free, everywhere_each, nowhere_each, by_match}
use Rattle.show_reasons.proofs.colours.asks_everywhere.Goals as goal

pub returns-in-Free : goal.returns-in-Free
returns-in-Free c =
    let p = c.args.puzzle.now in
    let outer = c.requires.outer in
    let rule = everywhere_free p c.requires.puzzle outer.0 outer.1 (sym c.border.ensures ∙ ap rule_of c.in-Free.is) in (
      λ t. rule.0 (outer.2 ∙ eqb-true c.args.outer 0 t),
      λ all. eq-eqb c.args.outer 0 (sym outer.2 ∙ rule.1 all),
    )

pub returns-in-Each : goal.returns-in-Each
returns-in-Each c =
    let p = c.args.puzzle.now in
    let outer = c.requires.outer in
    let rules = c.as_slice.result.now in
    let rule : p.border ≡ each rules = sym c.border.ensures ∙ ap rule_of c.in-Each.is ∙ ap each (sym c.as_slice.ensures) in
    by_match c.is_full.result c.is_full.ensures
    (everywhere_each p c.requires.puzzle outer.0 outer.1 rules rule)
    (λ none. nowhere_each p c.requires.puzzle outer.0 outer.1 rules rule none.0 none.1)
