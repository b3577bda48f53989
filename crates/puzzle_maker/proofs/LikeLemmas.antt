-- What is made by the plan of a puzzle that is like a model, and colours for its inner sides.
use Rattle.std.proofs.Common.{◌≡◌, ◌⊎◌, ◌<◌, ◌≤◌, ◌↔◌, ◌∙◌, ℕ, Option, Some, ap, sym, subst, arith, inl, inr}
use Rattle.match_board.specs.Board.{cell_count}
use Rattle.match_puzzle.specs.Puzzle.{Task}
use Rattle.puzzle_drafts.specs.declared.drafts.Draft.{Draft}
use Rattle.puzzle_maker.specs.Like.{IsFrameOf, IsInnerColour, IsInside, IsLike, IsMadeLike, IsPlanLike}
use Rattle.puzzle_maker.specs.Made.{HasAtMost}
use Rattle.puzzle_maker.specs.Plans.{IsAsPlanned, IsMadeAsPlanned}
use Rattle.puzzle_maker.specs.declared.plans.Plan.{Plan}

-- a puzzle as is planned
pub like : (m : Task) (d : Draft) (n : Plan) (p : Task) → IsPlanLike m d n → IsAsPlanned n p → IsLike m d p
like m d n p of is = record {
  board = is.rules.board ∙ of.board;
  turns = is.rules.turns ∙ of.turns;
  border = of.border p.border is.rules.border;
  mates = is.rules.mates ∙ of.mates;
  version = is.rules.version ∙ of.version;
  tiles = let cells = ap cell_count of.board in let spare = ap (λ (e : Draft). e.spare) of.draft in omega (arith, is.tiles, cells, spare);
  colours = λ tile colour lt on. subst (λ (e : Draft). colour < e.colours) of.draft (is.colours tile colour lt on);
}

-- a puzzle that was made as is planned
pub made_like : (m : Task) (d : Draft) (n : Plan) (p : Task) → IsPlanLike m d n → IsMadeAsPlanned n p → IsMadeLike m d p
made_like m d n p of is = record {
  like = like m d n p of is.planned;
  planted = (
    is.planted.0,
    record {
      is = is.planted.1.is;
      frame = λ colour w. is.planted.1.frame colour (of.frame colour w);
      clues = is.planted.1.clues;
    },
  );
  clues = is.clues ∙ ap (λ (e : Draft). e.clues) of.draft;
  different = λ asked. is.different (ap (λ (e : Draft). e.is_different) of.draft ∙ asked);
  turned = λ asked. is.turned (ap (λ (e : Draft). e.is_different) of.draft ∙ asked);
  unique = λ asked. (n.most, of.most, is.unique (ap (λ (e : Draft). e.is_unique) of.draft ∙ asked));
}

-- The frame that was found is the model's.
abbrev pub IsFound : Task → (frame : Option ℕ) → Type 0
IsFound m frame = (colour : ℕ) → (frame ≡ Some colour) ↔ IsFrameOf m colour

pub inner_from_inside : (m : Task) (frame : Option ℕ) → IsFound m frame → (colour : ℕ) → IsInside m.mating.mates frame colour → IsInnerColour m colour
inner_from_inside m frame found colour inside = λ outside is. inside outside ((found outside).1 is)

pub inside_from_inner : (m : Task) (frame : Option ℕ) → IsFound m frame → (colour : ℕ) → IsInnerColour m colour → IsInside m.mating.mates frame colour
inside_from_inner m frame found colour inner = λ outside is. inner outside ((found outside).0 is)
