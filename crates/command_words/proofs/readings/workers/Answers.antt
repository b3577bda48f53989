use Rattle.std.proofs.Common.{◌≡◌, ◌≢◌, ◌≤◌, ◌∙◌, ℕ, List, Some, None, ap, codes, rules, subst, sym}
use Rattle.std.specs.Option.{option_map}
use Rattle.clap.specs.Words.{Row, Text, first_of, found_of, rows_of}
use Rattle.clap.proofs.WalkLemmas.{first_value-rows}
use Rattle.command_words.specs.Orders.{HasWorkers}
use Rattle.command_words.specs.Parts.{SpellsNumber}
use Rattle.command_words.specs.declared.orders.WantedWorkers.TheVariants as wanted
use Rattle.command_words.proofs.ProgramLemmas.{none_is_some, some_is}
use Rattle.command_words.proofs.readings.workers.Goals as goal

-- where no word stands, nobody is asked for
no_word : (rows : List Row) → first_of (codes "workers") rows ≡ None → HasWorkers rows → ⊥
no_word rows none (wanted.All, asks) = none_is_some (sym none ∙ asks)
no_word rows none (wanted.Number number, asks) = none_is_some (sym none ∙ asks.found)

-- nor by a word that is neither
other_word : (rows : List Row) (word : Text) → first_of (codes "workers") rows ≡ Some word → word ≢ codes "all"
    → ((number : ℕ) → SpellsNumber word number → 1 ≤ number → number ≤ 64 → ⊥) → HasWorkers rows → ⊥
other_word rows word found all none (wanted.All, asks) = all (some_is (sym found ∙ asks))
other_word rows word found all none (wanted.Number number, asks) =
    none number (subst (λ (text : Text). SpellsNumber text number) (some_is (sym asks.found ∙ found)) asks.spelled) asks.enough asks.few

pub returns-in_default-clause-refused : goal.returns-in_default-clause-refused
returns-in_default-clause-refused c =
    no_word (rows_of (found_of c.args.matches.now))
    (sym (first_value-rows (found_of c.args.matches.now) (codes "workers")) ∙ sym c.get_str.ensures ∙ ap (option_map (λ s. s.now)) c.in_default.is)

pub returns-then-eq-clause-asked : goal.returns-then-eq-clause-asked
returns-then-eq-clause-asked c =
    let same : c.in-Some.word.now ≡ codes "all" = search rules in
    sym (first_value-rows (found_of c.args.matches.now) (codes "workers")) ∙ sym c.get_str.ensures ∙ ap (option_map (λ s. s.now)) c.in-Some.is ∙ ap Some same

pub returns-in-Some-number_in-clause-asked : goal.returns-in-Some-number_in-clause-asked
returns-in-Some-number_in-clause-asked c = record {
  text = c.in-Some.word.now;
  found = sym (first_value-rows (found_of c.args.matches.now) (codes "workers")) ∙ sym c.get_str.ensures ∙ ap (option_map (λ s. s.now)) c.in-Some.is;
  spelled = c.in-Some-number_in.ensures.0;
  enough = c.in-Some-number_in.ensures.1;
  few = c.in-Some-number_in.ensures.2;
}

pub returns-in-None-clause-refused : goal.returns-in-None-clause-refused
returns-in-None-clause-refused c =
    let differs : c.in-Some.word.now ≢ codes "all" = search rules in
    other_word (rows_of (found_of c.args.matches.now)) c.in-Some.word.now
    (sym (first_value-rows (found_of c.args.matches.now) (codes "workers")) ∙ sym c.get_str.ensures ∙ ap (option_map (λ s. s.now)) c.in-Some.is)
    differs c.in-None.ensures
