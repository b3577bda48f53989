-- The text of a list reads back as the list.
use Rattle.std.proofs.Common.{◌≡◌, ◌⊎◌, ℕ, ◌≤◌, List, [], ◌∷◌, length, Ok, ap, ◌∙◌, arith, inl, inr}
use Rattle.std.specs.List.{AllByRecursion}
use Rattle.std.proofs.lemmas.Bool.{cases_lt}
use Rattle.match_limits.specs.declared.TheConstants.{MOST_ARRANGEMENTS, LAST_TURN}
use Rattle.match_limits.specs.declared.ranges.Ranges.{Ranges}
use Rattle.match_limits.specs.declared.ranges.TheConstants.{FIRST, SECOND}
use Rattle.match_puzzle.specs.declared.placements.Placement.{Placement}
use Rattle.text_words.specs.Within.{IsPlacementWithin}
use Rattle.match_text.specs.Lists.{list_of}
use Rattle.match_text.specs.ListSpelling.{IsListText, IsListWithin, IsRowWithin}
use Rattle.match_text.proofs.ListLemmas.{rows_only, first_spelled, second_spelled}

-- ---- whether something is within limits, or not

abbrev Decided : Type 0 → Type 0
Decided P = P ⊎ (P → ⊥)

le_decided : (a b : ℕ) → Decided (a ≤ b)
le_decided a b =
    elim (cases_lt b a) [
      | inl lt ↦ inr (λ le. omega (arith, lt, le))
      | inr ge ↦ inl ge
    ]

both_decided : {P Q : Type 0} → Decided P → Decided Q → Decided (P × Q)
both_decided (inl p) (inl q) = inl (p, q)
both_decided (inl p) (inr not) = inr (λ pair. not pair.1)
both_decided (inr not) q = inr (λ pair. not pair.0)

three_decided : {P Q R : Type 0} → Decided P → Decided Q → Decided R → Decided (P × Q × R)
three_decided (inl p) (inl q) (inl r) = inl (p, q, r)
three_decided (inl p) (inl q) (inr not) = inr (λ all. not all.2)
three_decided (inl p) (inr not) r = inr (λ all. not all.1)
three_decided (inr not) q r = inr (λ all. not all.0)

all_decided : {X : Type 0} (P : X → Type 0) → ((x : X) → Decided (P x)) → (xs : List X) → Decided (AllByRecursion P xs)
all_decided P each [] = inl tt
all_decided P each (x ∷ xs) = both_decided (each x) (all_decided P each xs)

placement_decided : (ranges : Ranges) (p : Placement) → Decided (IsPlacementWithin ranges p)
placement_decided ranges p = both_decided (le_decided p.tile ranges.last_cell) (le_decided p.turn LAST_TURN)

row_decided : (ranges : Ranges) (row : List Placement) → Decided (IsRowWithin ranges row)
row_decided ranges row =
    three_decided (le_decided 1 (length row)) (le_decided (length row) ranges.most_cells)
    (all_decided (IsPlacementWithin ranges) (placement_decided ranges) row)

list_decided : (ranges : Ranges) (rows : List (List Placement)) → Decided (IsListWithin ranges rows)
list_decided ranges rows = both_decided (le_decided (length rows) MOST_ARRANGEMENTS) (all_decided (IsRowWithin ranges) (row_decided ranges) rows)

-- ---- reading back

pub list_text_reads : (rows : List (List Placement)) (text : List ℕ) → IsListWithin SECOND rows → IsListText rows text → list_of text ≡ Ok rows
list_text_reads rows text fits is =
    elim (list_decided FIRST rows) [
      | inl first ↦ ap list_of (is.first first) ∙ rows_only 1 rows (first_spelled rows first)
      | inr not ↦ ap list_of (is.second not) ∙ rows_only 2 rows (second_spelled rows fits)
    ]
