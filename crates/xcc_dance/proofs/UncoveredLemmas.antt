-- Options of an uncovered item.
use Rattle.std.proofs.Common.{◌≡◌, ◌<◌, ℕ, List, Contains, length, subst, ⊎_elim}
use Rattle.xcc_form.specs.ExactCover.{Cover, HasPrimary, HasColour}
use Rattle.xcc_form.specs.Clashes.{IsOpenAt}
use Rattle.xcc_form.specs.Chosen.{IsUncovered}

-- one that goes with each chosen option is open
pub goes_open : (x : Cover) (chosen : List ℕ) (item : ℕ) → IsUncovered x chosen item → (option : ℕ) → option < length x.options → HasPrimary x option item
    → ((other : ℕ) → Contains chosen other
    → ((shared : ℕ) → HasPrimary x other shared → HasPrimary x option shared → other ≡ option)
    × ((shared colour colour' : ℕ) → HasColour x other shared colour → HasColour x option shared colour' → colour ≡ colour'))
    → IsOpenAt x chosen item option
goes_open x chosen item uncovered option real at goes = record {
  open_option = record {
    real = real;
    free = λ other c clash.
        ⊎_elim
        (λ share. uncovered.uncovered (option, subst (Contains chosen) ((goes other c).0 share.item share.one share.two) c, at))
        (λ two. two.differ ((goes other c).1 two.item two.colour two.other_colour two.one two.two))
        clash;
  };
  at = at;
}
