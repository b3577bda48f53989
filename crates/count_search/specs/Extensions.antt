-- How many arrangements have what is chosen.
use Rattle.std.specs.Prelude.{ℕ, List}
use Rattle.match_puzzle.specs.declared.placements.Placement.{Placement}
use Rattle.xcc_form.specs.Chosen.{Selection}
use Rattle.count_search.specs.OptionExtensions.{HasOptions, HaveOptions}

-- The arrangement has all chosen options.
abbrev pub IsExtension : Selection → List Placement → Type 0
IsExtension s = HasOptions s.compiled s.chosen

-- Just `count` arrangements have all chosen options.
abbrev pub HasExtensions : Selection → (count : ℕ) → Type 0
HasExtensions s count = HaveOptions s.compiled s.chosen count
