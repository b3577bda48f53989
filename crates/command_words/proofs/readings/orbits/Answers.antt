use Rattle.std.proofs.Common.{◌∙◌, true, false, inr, refl, ap, codes, rules, sym}
use Rattle.std.specs.Option.{option_map}
use Rattle.clap.specs.Words.{found_of, rows_of}
use Rattle.clap.proofs.WalkLemmas.{first_value-rows}
use Rattle.command_words.specs.Orders.{IsFlagged}
use Rattle.command_words.proofs.MisfitLemmas.{orbits_of_none, symmetries_alone}
use Rattle.command_words.proofs.readings.orbits.Goals as goal

pub returns-in-false-None-clause-asked : goal.returns-in-false-None-clause-asked
returns-in-false-None-clause-asked c =
    let left_out : IsFlagged (codes "orbits") (rows_of (found_of c.args.matches.now)) false = search rules in
    (left_out, sym (first_value-rows (found_of c.args.matches.now) (codes "symmetries")) ∙ sym c.get_str-word.ensures ∙ ap (option_map (λ s. s.now)) c.in-false-None.is-1)

pub returns-in-true-None-clause-asked : goal.returns-in-true-None-clause-asked
returns-in-true-None-clause-asked c =
    let given : IsFlagged (codes "orbits") (rows_of (found_of c.args.matches.now)) true = search rules in
    (given, inr (sym (first_value-rows (found_of c.args.matches.now) (codes "symmetries")) ∙ sym c.get_str-word.ensures ∙ ap (option_map (λ s. s.now)) c.in-true-None.is-1, refl))

pub returns-in-false-Some-clause-refused : goal.returns-in-false-Some-clause-refused
returns-in-false-Some-clause-refused c =
    let rows = rows_of (found_of c.args.matches.now) in
    let left_out : IsFlagged (codes "orbits") rows false = search rules in
    let named = sym (first_value-rows (found_of c.args.matches.now) (codes "symmetries")) ∙ sym c.get_str-word.ensures ∙ ap (option_map (λ s. s.now)) c.in-false-Some.is-1 in
    symmetries_alone rows c.in-false-Some.field-0-1.now left_out named

pub returns-in-None-clause-refused : goal.returns-in-None-clause-refused
returns-in-None-clause-refused c =
    let rows = rows_of (found_of c.args.matches.now) in
    let given : IsFlagged (codes "orbits") rows true = search rules in
    let named = sym (first_value-rows (found_of c.args.matches.now) (codes "symmetries")) ∙ sym c.get_str-word.ensures ∙ ap (option_map (λ s. s.now)) c.in-true-Some.is-1 in
    orbits_of_none rows c.in-true-Some.field-0-1.now given named c.in-None.ensures
