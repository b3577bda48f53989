-- The program's commands, as `clap` reads them.
use Rattle.std.specs.Prelude.{◌≡◌, ℕ, List, true, false, [], ◌∷◌, Some, codes, fold}
use Rattle.match_limits.specs.declared.TheConstants.{LAST_ARRANGEMENT, MOST_ARRANGEMENTS, MOST_COLOURS, MOST_FORKS, MOST_FUEL, MOST_LENGTH, MOST_TILES}
use Rattle.clap.specs.Words.{App, Rule, Text, new_app, new_rule, with_rule, with_subcommand}
use Rattle.clap.specs.Simple.{on_top}
use Rattle.clap.specs.declared.builder.action.ArgAction.TheVariants.{Append, SetTrue}
use Rattle.clap.specs.declared.builder.command.Command.{Command}
use Rattle.clap.specs.declared.builder.command.Command.TheViews.{out-Command}
use Rattle.clap.specs.declared.builder.value_parser.ValueParser.TheVariants as parsers
use Rattle.match_limits.specs.declared.TheConstants.{MOST_DRAWN}

-- no argument of the command is one of its subcommands too
abbrev pub IsLocal : Command → Type 0
IsLocal command = (out-Command command).has_globals ≡ false

-- a word that a command needs
abbrev pub wanted : Text → Rule
wanted id = record (new_rule id) { required = true }

-- one word or more that a command needs
abbrev pub wanted_words : Text → Rule
wanted_words id = record (wanted id) { action = Some Append }

-- a number that a command needs, from `least` to `most`
abbrev pub wanted_number : Text → ℕ → ℕ → Rule
wanted_number id least most = record (wanted id) { parser = Some (parsers.Unsigned least most) }

-- a number from `least` to `most`, which is `default` where none is given
abbrev pub number_or_default : Text → ℕ → ℕ → Text → Rule
number_or_default id least most default =
    record (new_rule id) { parser = Some (parsers.Unsigned least most); defaults = default ∷ [] }

-- a number from `least` to `most` behind an option of this name, which is `default` where the option isn't given
abbrev pub optional_number : Text → ℕ → ℕ → Text → Rule
optional_number id least most default =
    record (number_or_default id least most default) { long = Some id; value_names = 1 }

-- a text behind an option of this name
abbrev pub optional_text : Text → Rule
optional_text id = record (new_rule id) { long = Some id; value_names = 1 }

-- a text behind an option of this name, which is `default` where the option isn't given
abbrev pub text_or_default : Text → Text → Rule
text_or_default id default = record (optional_text id) { defaults = default ∷ [] }

-- a number from `least` to `most`, which need not be given
abbrev pub any_number : Text → ℕ → ℕ → Rule
any_number id least most = record (new_rule id) { parser = Some (parsers.Unsigned least most) }

-- a number from `least` to `most` behind an option of this name, which need not be given
abbrev pub number_if_given : Text → ℕ → ℕ → Rule
number_if_given id least most = record (optional_text id) { parser = Some (parsers.Unsigned least most) }

-- a number from `least` to `most` behind an option of this name, which a command needs
abbrev pub wanted_option : Text → ℕ → ℕ → Rule
wanted_option id least most = record (number_if_given id least most) { required = true }

-- a flag of this name
abbrev pub flag : Text → Rule
flag id = record (new_rule id) { long = Some id; action = Some SetTrue }

-- the command with these arguments behind its own
abbrev pub with_rules : App → List Rule → App
with_rules = fold with_rule

-- the file of a puzzle
abbrev pub with_puzzle : App → App
with_puzzle app = with_rule app (wanted (codes "PUZZLE"))

-- a puzzle by where it stands, and two files by their names
abbrev pub with_files : App → App
with_files app = with_rules (with_puzzle app) (wanted (codes "LIST") ∷ wanted (codes "CERTIFICATE") ∷ [])

-- three documents by where they stand, of which none has to be named
abbrev pub with_places : App → App
with_places app =
    with_rules app (new_rule (codes "PUZZLE") ∷ new_rule (codes "LIST") ∷ new_rule (codes "CERTIFICATE") ∷ [])

abbrev pub check_app : App
check_app =
    with_rules (with_places (new_app (codes "check")))
    (text_or_default (codes "workers") (codes "1")
    ∷ optional_number (codes "forks") 0 MOST_FORKS (codes "0")
    ∷ flag (codes "progress")
    ∷ flag (codes "hints")
    ∷ [])

abbrev pub explain_app : App
explain_app = with_places (new_app (codes "explain"))

abbrev pub find_app : App
find_app =
    with_rules (with_puzzle (new_app (codes "find")))
    (optional_number (codes "first") 1 MOST_ARRANGEMENTS (codes "1")
    ∷ flag (codes "orbits")
    ∷ optional_text (codes "symmetries")
    ∷ optional_number (codes "seed") 0 18446744073709551615 (codes "1975")
    ∷ text_or_default (codes "workers") (codes "1")
    ∷ flag (codes "progress")
    ∷ [])

abbrev pub solve_app : App
solve_app =
    with_rules (with_files (new_app (codes "solve")))
    (text_or_default (codes "depth") (codes "1")
    ∷ optional_number (codes "fuel") 1 MOST_FUEL (codes "1000000")
    ∷ text_or_default (codes "workers") (codes "1")
    ∷ text_or_default (codes "symmetries") (codes "all")
    ∷ flag (codes "check")
    ∷ flag (codes "progress")
    ∷ flag (codes "hints")
    ∷ [])

abbrev pub expand_app : App
expand_app = with_rules (with_places (new_app (codes "expand"))) (flag (codes "orbits") ∷ flag (codes "hints") ∷ [])

abbrev pub page_app : App
page_app =
    with_rules (with_places (new_app (codes "page")))
    (text_or_default (codes "title") (codes "An edge-matching puzzle")
    ∷ optional_number (codes "first") 0 MOST_DRAWN (codes "24")
    ∷ flag (codes "hints")
    ∷ [])

abbrev pub count_app : App
count_app =
    with_rules (with_places (new_app (codes "count")))
    (text_or_default (codes "workers") (codes "1")
    ∷ number_if_given (codes "most") 0 18446744073709551615
    ∷ optional_text (codes "part")
    ∷ flag (codes "progress")
    ∷ [])

abbrev pub total_app : App
total_app = with_rule (new_app (codes "total")) (wanted_words (codes "FILE"))

abbrev pub generate_app : App
generate_app =
    with_rules (new_app (codes "generate"))
    (new_rule (codes "KIND")
    ∷ any_number (codes "SIZE") 1 MOST_LENGTH
    ∷ any_number (codes "HEIGHT") 1 MOST_LENGTH
    ∷ optional_text (codes "like")
    ∷ wanted_option (codes "colours") 1 MOST_COLOURS
    ∷ optional_text (codes "border")
    ∷ optional_text (codes "turns")
    ∷ flag (codes "mates")
    ∷ optional_number (codes "spare") 0 MOST_TILES (codes "0")
    ∷ optional_number (codes "clues") 0 MOST_TILES (codes "0")
    ∷ flag (codes "different")
    ∷ flag (codes "unique")
    ∷ optional_number (codes "tries") 1 1000000 (codes "100")
    ∷ number_if_given (codes "hardest") 1 1000
    ∷ number_if_given (codes "easiest") 1 1000
    ∷ wanted_option (codes "seed") 0 18446744073709551615
    ∷ flag (codes "progress")
    ∷ [])

abbrev pub show_app : App
show_app =
    with_rules (with_puzzle (new_app (codes "show")))
    (new_rule (codes "LIST") ∷ number_or_default (codes "N") 0 LAST_ARRANGEMENT (codes "0") ∷ [])

abbrev pub draw_app : App
draw_app =
    with_rules (with_puzzle (new_app (codes "draw")))
    (new_rule (codes "LIST")
    ∷ number_or_default (codes "N") 0 LAST_ARRANGEMENT (codes "0")
    ∷ optional_number (codes "first") 0 MOST_DRAWN (codes "0")
    ∷ optional_text (codes "all")
    ∷ flag (codes "numbers")
    ∷ flag (codes "cut")
    ∷ number_if_given (codes "size") 10 100
    ∷ [])

abbrev pub symmetries_app : App
symmetries_app = with_puzzle (new_app (codes "symmetries"))

abbrev pub tiles_app : App
tiles_app =
    with_rules (new_app (codes "tiles"))
    (wanted_number (codes "SIDES") 3 4 ∷ wanted_number (codes "COLOURS") 1 MOST_COLOURS ∷ flag (codes "lines") ∷ [])

-- the commands, in the order of the help
abbrev pub commands : List App
commands =
    check_app
    ∷ explain_app
    ∷ find_app
    ∷ solve_app
    ∷ expand_app
    ∷ page_app
    ∷ count_app
    ∷ total_app
    ∷ generate_app
    ∷ show_app
    ∷ draw_app
    ∷ symmetries_app
    ∷ tiles_app
    ∷ []

-- the program without them
abbrev pub bare_app : App
bare_app = on_top (λ s. record s { no_binary_name = true; has_version = true }) (new_app (codes "edgematch"))

-- the program with these commands behind its own
abbrev pub with_commands : App → List App → App
with_commands = fold (λ app command. with_subcommand app command.top)

-- the program with all of them
abbrev pub whole_app : App
whole_app = with_commands bare_app commands
