use Rattle.std.proofs.Common.{◌≡◌, ◌∙◌, List, Option, Some, None, MatchOption, sym}
use Rattle.std.specs.Borrow.{Bor}
use Rattle.std.specs.Option.{option_map}
use Rattle.clap.specs.Words.{Row, Text, first_of, found_of, rows_of}
use Rattle.clap.proofs.WalkLemmas.{first_value-rows}
use Rattle.command_words.proofs.readings.word.Goals as goal

-- the text that is found, or none
found : (id : Text) (rows : List Row) (word : Option (Bor Text)) → option_map (λ s. s.now) word ≡ first_of id rows
    → MatchOption word (first_of id rows ≡ None) (λ w. first_of id rows ≡ Some w.now)
found id rows None is = sym is
found id rows (Some w) is = sym is

pub returns : goal.returns
returns c =
    found c.args.id.now (rows_of (found_of c.args.matches.now)) c.get_str.result
    (c.get_str.ensures ∙ first_value-rows (found_of c.args.matches.now) c.args.id.now)
