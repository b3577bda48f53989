use Rattle.std.proofs.Common.{◌≡◌, ◌≢◌, ◌∙◌, List, Some, None, ap, codes, sym}
use Rattle.std.specs.Option.{option_map}
use Rattle.clap.specs.Words.{Row, Text, first_of, found_of, rows_of}
use Rattle.clap.proofs.WalkLemmas.{first_value-rows}
use Rattle.match_symmetry.specs.declared.choices.Suggested.{Suggested}
use Rattle.match_symmetry.specs.declared.choices.Suggested.TheVariants as suggested
use Rattle.command_words.specs.Orders.{AskFor}
use Rattle.command_words.proofs.ProgramLemmas.{none_is_some, some_is}
use Rattle.command_words.proofs.readings.suggested.Goals as goal

-- where no word stands, nothing is asked for
no_word : (rows : List Row) → first_of (codes "symmetries") rows ≡ None → (symmetries : Suggested) → AskFor rows symmetries → ⊥
no_word rows none suggested.All asks = none_is_some (sym none ∙ asks)
no_word rows none suggested.OfBoard asks = none_is_some (sym none ∙ asks)

-- nor by a word that is neither
other_word : (rows : List Row) (word : Text) → first_of (codes "symmetries") rows ≡ Some word → word ≢ codes "all" → word ≢ codes "board" → (symmetries : Suggested) → AskFor rows symmetries → ⊥
other_word rows word found all board suggested.All asks = all (some_is (sym found ∙ asks))
other_word rows word found all board suggested.OfBoard asks = board (some_is (sym found ∙ asks))

pub returns-in_default : goal.returns-in_default
returns-in_default c =
    no_word (rows_of (found_of c.args.matches.now))
    (sym (first_value-rows (found_of c.args.matches.now) (codes "symmetries")) ∙ sym c.get_str.ensures ∙ ap (option_map (λ s. s.now)) c.in_default.is)

pub returns-in-all : goal.returns-in-all
returns-in-all c =
    sym (first_value-rows (found_of c.args.matches.now) (codes "symmetries")) ∙ sym c.get_str.ensures ∙ ap (option_map (λ s. s.now)) c.in-Some.is ∙ ap Some c.in-all.is

pub returns-in-board : goal.returns-in-board
returns-in-board c =
    sym (first_value-rows (found_of c.args.matches.now) (codes "symmetries")) ∙ sym c.get_str.ensures ∙ ap (option_map (λ s. s.now)) c.in-Some.is ∙ ap Some c.in-board.is

pub returns-in_default-word : goal.returns-in_default-word
returns-in_default-word c =
    other_word (rows_of (found_of c.args.matches.now)) c.in-Some.word.now
    (sym (first_value-rows (found_of c.args.matches.now) (codes "symmetries")) ∙ sym c.get_str.ensures ∙ ap (option_map (λ s. s.now)) c.in-Some.is)
    c.in_default-word.not-all c.in_default-word.not-board
