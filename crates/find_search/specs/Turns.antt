-- Options of an item that come in turn.
use Rattle.std.specs.Prelude.{◌<◌, ◌≤◌, ℕ, List, IsSomeAnd}
use Rattle.match_puzzle.specs.declared.placements.Placement.{Placement}
use Rattle.xcc_form.specs.Options.{cover_of}
use Rattle.xcc_form.specs.Clashes.{IsOpenAt}
use Rattle.xcc_form.specs.Chosen.{Selection, with_option}
use Rattle.count_search.specs.Extensions.{IsExtension}
use Rattle.find_search.specs.declared.turns.Turn.{Turn}

-- The option comes in turn: from the first one on, and before the end. Where no first one is named, none does.
abbrev pub IsInTurn : Turn → (option : ℕ) → Type 0
IsInTurn t option = IsSomeAnd t.first (λ first. first ≤ option) × (option < t.end)

-- The arrangement has all chosen options, and an open option of the item that is like this.
abbrev pub IsExtensionBy : Selection → (item : ℕ) → (Is : ℕ → Type 0) → List Placement → Type 0
IsExtensionBy s item Is a =
    (option : ℕ) × Is option × IsOpenAt (cover_of s.compiled) s.chosen item option × IsExtension (with_option s option) a

-- The arrangement has all chosen options, and an open option of the item that comes in turn.
abbrev pub IsExtensionInTurn : Selection → Turn → List Placement → Type 0
IsExtensionInTurn s t = IsExtensionBy s t.item (IsInTurn t)
