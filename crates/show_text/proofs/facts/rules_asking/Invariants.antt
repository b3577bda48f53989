use Rattle.std.proofs.Common.{◌≡◌, ◌≤◌, ◌+◌, count_by, drop}
use Rattle.show_text.specs.Facts.{is_rule}
use Rattle.show_text.proofs.facts.rules_asking.Given as goal

abbrev pub invariant-loop-rule : goal.invariant-loop-rule
invariant-loop-rule l = record {
  count : l.count + count_by (is_rule l.colour) (drop l.rule-index l.rules) ≡ count_by (is_rule l.colour) l.rules;
  few : l.count ≤ l.rule-index;
}
