-- What the matches of each command have.
use Rattle.std.proofs.Common.{◌≡◌, List, Some, codes, refl}
use Rattle.clap.specs.Walk.{Row, Text}
use Rattle.command_words.specs.Orders.{AreMatchesOf, HasFiles, HasFlag, HasNumber, HasText, MayHaveNumber}
use Rattle.command_words.proofs.ProgramLemmas.{HasNeeded, HasPassing, IsEntered, command_at, command_named, has_files, has_flag, has_number, has_text, may_have_number, needed_at, passing_at, program_has, rule_at}

-- the command of this name was entered
entered : (name : Text) (rows : List Row) → AreMatchesOf name rows → IsEntered name rows
entered name rows m = program_has m.words m.faultless name rows m.enters

needed : (name : Text) (rows : List Row) → AreMatchesOf name rows → command_named name ≡ Some (command_at name) → HasNeeded (command_at name) rows
needed name rows m is = needed_at name name rows (entered name rows m) refl is

passing : (name : Text) (rows : List Row) → AreMatchesOf name rows → command_named name ≡ Some (command_at name) → HasPassing (command_at name) rows
passing name rows m is = passing_at name name rows (entered name rows m) refl is

-- ---- `check`

check_needed : (rows : List Row) → AreMatchesOf (codes "check") rows → HasNeeded (command_at (codes "check")) rows
check_needed rows m = needed (codes "check") rows m refl

pub check_forks : (rows : List Row) → AreMatchesOf (codes "check") rows → HasNumber (codes "forks") 0 6 rows
check_forks rows m = has_number (command_at (codes "check")) rows (rule_at (command_at (codes "check")) 4) 0 6 (check_needed rows m) refl refl refl

pub check_progress : (rows : List Row) → AreMatchesOf (codes "check") rows → HasFlag (codes "progress") rows
check_progress rows m = has_flag (command_at (codes "check")) rows (rule_at (command_at (codes "check")) 5) (check_needed rows m) refl refl refl

pub check_hints : (rows : List Row) → AreMatchesOf (codes "check") rows → HasFlag (codes "hints") rows
check_hints rows m = has_flag (command_at (codes "check")) rows (rule_at (command_at (codes "check")) 6) (check_needed rows m) refl refl refl

-- ---- `find`

find_needed : (rows : List Row) → AreMatchesOf (codes "find") rows → HasNeeded (command_at (codes "find")) rows
find_needed rows m = needed (codes "find") rows m refl

pub find_puzzle : (rows : List Row) → AreMatchesOf (codes "find") rows → HasText (codes "PUZZLE") rows
find_puzzle rows m = has_text (command_at (codes "find")) rows (codes "PUZZLE") (find_needed rows m) refl

pub find_first : (rows : List Row) → AreMatchesOf (codes "find") rows → HasNumber (codes "first") 1 1000000 rows
find_first rows m = has_number (command_at (codes "find")) rows (rule_at (command_at (codes "find")) 1) 1 1000000 (find_needed rows m) refl refl refl

pub find_orbits : (rows : List Row) → AreMatchesOf (codes "find") rows → HasFlag (codes "orbits") rows
find_orbits rows m = has_flag (command_at (codes "find")) rows (rule_at (command_at (codes "find")) 2) (find_needed rows m) refl refl refl

pub find_seed : (rows : List Row) → AreMatchesOf (codes "find") rows → HasNumber (codes "seed") 0 18446744073709551615 rows
find_seed rows m = has_number (command_at (codes "find")) rows (rule_at (command_at (codes "find")) 4) 0 18446744073709551615 (find_needed rows m) refl refl refl

pub find_progress : (rows : List Row) → AreMatchesOf (codes "find") rows → HasFlag (codes "progress") rows
find_progress rows m = has_flag (command_at (codes "find")) rows (rule_at (command_at (codes "find")) 6) (find_needed rows m) refl refl refl

-- ---- `solve`

solve_needed : (rows : List Row) → AreMatchesOf (codes "solve") rows → HasNeeded (command_at (codes "solve")) rows
solve_needed rows m = needed (codes "solve") rows m refl

pub solve_files : (rows : List Row) → AreMatchesOf (codes "solve") rows → HasFiles rows
solve_files rows m = has_files (command_at (codes "solve")) rows (solve_needed rows m) refl refl refl

pub solve_fuel : (rows : List Row) → AreMatchesOf (codes "solve") rows → HasNumber (codes "fuel") 1 1000000 rows
solve_fuel rows m = has_number (command_at (codes "solve")) rows (rule_at (command_at (codes "solve")) 4) 1 1000000 (solve_needed rows m) refl refl refl

pub solve_check : (rows : List Row) → AreMatchesOf (codes "solve") rows → HasFlag (codes "check") rows
solve_check rows m = has_flag (command_at (codes "solve")) rows (rule_at (command_at (codes "solve")) 7) (solve_needed rows m) refl refl refl

pub solve_progress : (rows : List Row) → AreMatchesOf (codes "solve") rows → HasFlag (codes "progress") rows
solve_progress rows m = has_flag (command_at (codes "solve")) rows (rule_at (command_at (codes "solve")) 8) (solve_needed rows m) refl refl refl

pub solve_hints : (rows : List Row) → AreMatchesOf (codes "solve") rows → HasFlag (codes "hints") rows
solve_hints rows m = has_flag (command_at (codes "solve")) rows (rule_at (command_at (codes "solve")) 9) (solve_needed rows m) refl refl refl

-- ---- `expand`

expand_needed : (rows : List Row) → AreMatchesOf (codes "expand") rows → HasNeeded (command_at (codes "expand")) rows
expand_needed rows m = needed (codes "expand") rows m refl

pub expand_orbits : (rows : List Row) → AreMatchesOf (codes "expand") rows → HasFlag (codes "orbits") rows
expand_orbits rows m = has_flag (command_at (codes "expand")) rows (rule_at (command_at (codes "expand")) 3) (expand_needed rows m) refl refl refl

pub expand_hints : (rows : List Row) → AreMatchesOf (codes "expand") rows → HasFlag (codes "hints") rows
expand_hints rows m = has_flag (command_at (codes "expand")) rows (rule_at (command_at (codes "expand")) 4) (expand_needed rows m) refl refl refl

-- ---- `page`

page_needed : (rows : List Row) → AreMatchesOf (codes "page") rows → HasNeeded (command_at (codes "page")) rows
page_needed rows m = needed (codes "page") rows m refl

pub page_title : (rows : List Row) → AreMatchesOf (codes "page") rows → HasText (codes "title") rows
page_title rows m = has_text (command_at (codes "page")) rows (codes "title") (page_needed rows m) refl

pub page_first : (rows : List Row) → AreMatchesOf (codes "page") rows → HasNumber (codes "first") 0 100 rows
page_first rows m = has_number (command_at (codes "page")) rows (rule_at (command_at (codes "page")) 4) 0 100 (page_needed rows m) refl refl refl

pub page_hints : (rows : List Row) → AreMatchesOf (codes "page") rows → HasFlag (codes "hints") rows
page_hints rows m = has_flag (command_at (codes "page")) rows (rule_at (command_at (codes "page")) 5) (page_needed rows m) refl refl refl

-- ---- `count`

count_needed : (rows : List Row) → AreMatchesOf (codes "count") rows → HasNeeded (command_at (codes "count")) rows
count_needed rows m = needed (codes "count") rows m refl

pub count_most : (rows : List Row) → AreMatchesOf (codes "count") rows → MayHaveNumber (codes "most") 0 18446744073709551615 rows
count_most rows m = may_have_number (command_at (codes "count")) rows (rule_at (command_at (codes "count")) 4) 0 18446744073709551615 (passing (codes "count") rows m refl) refl refl

pub count_progress : (rows : List Row) → AreMatchesOf (codes "count") rows → HasFlag (codes "progress") rows
count_progress rows m = has_flag (command_at (codes "count")) rows (rule_at (command_at (codes "count")) 6) (count_needed rows m) refl refl refl

-- ---- `total`

total_needed : (rows : List Row) → AreMatchesOf (codes "total") rows → HasNeeded (command_at (codes "total")) rows
total_needed rows m = needed (codes "total") rows m refl

pub total_file : (rows : List Row) → AreMatchesOf (codes "total") rows → HasText (codes "FILE") rows
total_file rows m = has_text (command_at (codes "total")) rows (codes "FILE") (total_needed rows m) refl

-- ---- `generate`

generate_needed : (rows : List Row) → AreMatchesOf (codes "generate") rows → HasNeeded (command_at (codes "generate")) rows
generate_needed rows m = needed (codes "generate") rows m refl

generate_passing : (rows : List Row) → AreMatchesOf (codes "generate") rows → HasPassing (command_at (codes "generate")) rows
generate_passing rows m = passing (codes "generate") rows m refl

pub generate_size : (rows : List Row) → AreMatchesOf (codes "generate") rows → MayHaveNumber (codes "SIZE") 1 100 rows
generate_size rows m = may_have_number (command_at (codes "generate")) rows (rule_at (command_at (codes "generate")) 1) 1 100 (generate_passing rows m) refl refl

pub generate_height : (rows : List Row) → AreMatchesOf (codes "generate") rows → MayHaveNumber (codes "HEIGHT") 1 100 rows
generate_height rows m = may_have_number (command_at (codes "generate")) rows (rule_at (command_at (codes "generate")) 2) 1 100 (generate_passing rows m) refl refl

pub generate_colours : (rows : List Row) → AreMatchesOf (codes "generate") rows → HasNumber (codes "colours") 1 36 rows
generate_colours rows m = has_number (command_at (codes "generate")) rows (rule_at (command_at (codes "generate")) 4) 1 36 (generate_needed rows m) refl refl refl

pub generate_mates : (rows : List Row) → AreMatchesOf (codes "generate") rows → HasFlag (codes "mates") rows
generate_mates rows m = has_flag (command_at (codes "generate")) rows (rule_at (command_at (codes "generate")) 7) (generate_needed rows m) refl refl refl

pub generate_spare : (rows : List Row) → AreMatchesOf (codes "generate") rows → HasNumber (codes "spare") 0 256 rows
generate_spare rows m = has_number (command_at (codes "generate")) rows (rule_at (command_at (codes "generate")) 8) 0 256 (generate_needed rows m) refl refl refl

pub generate_clues : (rows : List Row) → AreMatchesOf (codes "generate") rows → HasNumber (codes "clues") 0 256 rows
generate_clues rows m = has_number (command_at (codes "generate")) rows (rule_at (command_at (codes "generate")) 9) 0 256 (generate_needed rows m) refl refl refl

pub generate_different : (rows : List Row) → AreMatchesOf (codes "generate") rows → HasFlag (codes "different") rows
generate_different rows m = has_flag (command_at (codes "generate")) rows (rule_at (command_at (codes "generate")) 10) (generate_needed rows m) refl refl refl

pub generate_unique : (rows : List Row) → AreMatchesOf (codes "generate") rows → HasFlag (codes "unique") rows
generate_unique rows m = has_flag (command_at (codes "generate")) rows (rule_at (command_at (codes "generate")) 11) (generate_needed rows m) refl refl refl

pub generate_tries : (rows : List Row) → AreMatchesOf (codes "generate") rows → HasNumber (codes "tries") 1 1000000 rows
generate_tries rows m = has_number (command_at (codes "generate")) rows (rule_at (command_at (codes "generate")) 12) 1 1000000 (generate_needed rows m) refl refl refl

pub generate_hardest : (rows : List Row) → AreMatchesOf (codes "generate") rows → MayHaveNumber (codes "hardest") 1 1000 rows
generate_hardest rows m = may_have_number (command_at (codes "generate")) rows (rule_at (command_at (codes "generate")) 13) 1 1000 (generate_passing rows m) refl refl

pub generate_easiest : (rows : List Row) → AreMatchesOf (codes "generate") rows → MayHaveNumber (codes "easiest") 1 1000 rows
generate_easiest rows m = may_have_number (command_at (codes "generate")) rows (rule_at (command_at (codes "generate")) 14) 1 1000 (generate_passing rows m) refl refl

pub generate_seed : (rows : List Row) → AreMatchesOf (codes "generate") rows → HasNumber (codes "seed") 0 18446744073709551615 rows
generate_seed rows m = has_number (command_at (codes "generate")) rows (rule_at (command_at (codes "generate")) 15) 0 18446744073709551615 (generate_needed rows m) refl refl refl

pub generate_progress : (rows : List Row) → AreMatchesOf (codes "generate") rows → HasFlag (codes "progress") rows
generate_progress rows m = has_flag (command_at (codes "generate")) rows (rule_at (command_at (codes "generate")) 16) (generate_needed rows m) refl refl refl

-- ---- `show`

show_needed : (rows : List Row) → AreMatchesOf (codes "show") rows → HasNeeded (command_at (codes "show")) rows
show_needed rows m = needed (codes "show") rows m refl

pub show_puzzle : (rows : List Row) → AreMatchesOf (codes "show") rows → HasText (codes "PUZZLE") rows
show_puzzle rows m = has_text (command_at (codes "show")) rows (codes "PUZZLE") (show_needed rows m) refl

pub show_number : (rows : List Row) → AreMatchesOf (codes "show") rows → HasNumber (codes "N") 0 999999 rows
show_number rows m = has_number (command_at (codes "show")) rows (rule_at (command_at (codes "show")) 2) 0 999999 (show_needed rows m) refl refl refl

-- ---- `draw`

draw_needed : (rows : List Row) → AreMatchesOf (codes "draw") rows → HasNeeded (command_at (codes "draw")) rows
draw_needed rows m = needed (codes "draw") rows m refl

pub draw_puzzle : (rows : List Row) → AreMatchesOf (codes "draw") rows → HasText (codes "PUZZLE") rows
draw_puzzle rows m = has_text (command_at (codes "draw")) rows (codes "PUZZLE") (draw_needed rows m) refl

pub draw_number : (rows : List Row) → AreMatchesOf (codes "draw") rows → HasNumber (codes "N") 0 999999 rows
draw_number rows m = has_number (command_at (codes "draw")) rows (rule_at (command_at (codes "draw")) 2) 0 999999 (draw_needed rows m) refl refl refl

pub draw_first : (rows : List Row) → AreMatchesOf (codes "draw") rows → HasNumber (codes "first") 0 100 rows
draw_first rows m = has_number (command_at (codes "draw")) rows (rule_at (command_at (codes "draw")) 3) 0 100 (draw_needed rows m) refl refl refl

pub draw_numbers : (rows : List Row) → AreMatchesOf (codes "draw") rows → HasFlag (codes "numbers") rows
draw_numbers rows m = has_flag (command_at (codes "draw")) rows (rule_at (command_at (codes "draw")) 5) (draw_needed rows m) refl refl refl

pub draw_cut : (rows : List Row) → AreMatchesOf (codes "draw") rows → HasFlag (codes "cut") rows
draw_cut rows m = has_flag (command_at (codes "draw")) rows (rule_at (command_at (codes "draw")) 6) (draw_needed rows m) refl refl refl

pub draw_size : (rows : List Row) → AreMatchesOf (codes "draw") rows → MayHaveNumber (codes "size") 10 100 rows
draw_size rows m = may_have_number (command_at (codes "draw")) rows (rule_at (command_at (codes "draw")) 7) 10 100 (passing (codes "draw") rows m refl) refl refl

-- ---- `symmetries`

symmetries_needed : (rows : List Row) → AreMatchesOf (codes "symmetries") rows → HasNeeded (command_at (codes "symmetries")) rows
symmetries_needed rows m = needed (codes "symmetries") rows m refl

pub symmetries_puzzle : (rows : List Row) → AreMatchesOf (codes "symmetries") rows → HasText (codes "PUZZLE") rows
symmetries_puzzle rows m = has_text (command_at (codes "symmetries")) rows (codes "PUZZLE") (symmetries_needed rows m) refl

-- ---- `tiles`

tiles_needed : (rows : List Row) → AreMatchesOf (codes "tiles") rows → HasNeeded (command_at (codes "tiles")) rows
tiles_needed rows m = needed (codes "tiles") rows m refl

pub tiles_sides : (rows : List Row) → AreMatchesOf (codes "tiles") rows → HasNumber (codes "SIDES") 3 4 rows
tiles_sides rows m = has_number (command_at (codes "tiles")) rows (rule_at (command_at (codes "tiles")) 0) 3 4 (tiles_needed rows m) refl refl refl

pub tiles_colours : (rows : List Row) → AreMatchesOf (codes "tiles") rows → HasNumber (codes "COLOURS") 1 36 rows
tiles_colours rows m = has_number (command_at (codes "tiles")) rows (rule_at (command_at (codes "tiles")) 1) 1 36 (tiles_needed rows m) refl refl refl

pub tiles_lines : (rows : List Row) → AreMatchesOf (codes "tiles") rows → HasFlag (codes "lines") rows
tiles_lines rows m = has_flag (command_at (codes "tiles")) rows (rule_at (command_at (codes "tiles")) 2) (tiles_needed rows m) refl refl refl
