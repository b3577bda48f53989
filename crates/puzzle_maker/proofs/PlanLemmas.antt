-- What is made by a plan is what was asked.
use Rattle.std.proofs.Common.{◌≡◌, ◌<◌, ◌∙◌, Some, ap, sym, subst, arith}
use Rattle.match_board.specs.Board.{cell_count}
use Rattle.match_puzzle.specs.Puzzle.{Task}
use Rattle.puzzle_drafts.specs.Drafts.{AreMatesAsked}
use Rattle.puzzle_drafts.specs.declared.drafts.Draft.{Draft}
use Rattle.puzzle_drafts.specs.declared.drafts.PlainRules.{PlainRules}
use Rattle.puzzle_maker.specs.Made.{AreSearched, HasAtMost, IsAsDrafted, IsMade}
use Rattle.puzzle_maker.specs.Plans.{IsAsPlanned, IsMadeAsPlanned, IsPlanOf}
use Rattle.puzzle_maker.specs.declared.plans.Plan.{Plan}

-- a puzzle as is planned
pub drafted : (r : PlainRules) (d : Draft) (n : Plan) (p : Task) → IsPlanOf r d n → IsAsPlanned n p → IsAsDrafted r d p
drafted r d n p of is = record {
  rules = record {
    board = is.rules.board ∙ of.board;
    turns = is.rules.turns ∙ of.turns;
    border = of.border p.border is.rules.border;
    version = is.rules.version ∙ of.version;
    mates = subst (AreMatesAsked r d) (sym is.rules.mates) of.mates;
  };
  tiles = let cells = ap cell_count of.board in let spare = ap (λ (e : Draft). e.spare) of.draft in omega (arith, is.tiles, cells, spare);
  colours = λ tile colour lt on. subst (λ (e : Draft). colour < e.colours) of.draft (is.colours tile colour lt on);
}

-- a puzzle that was made as is planned
pub made : (r : PlainRules) (d : Draft) (n : Plan) (p : Task) → IsPlanOf r d n → IsMadeAsPlanned n p → IsMade r d p
made r d n p of is = record {
  drafted = drafted r d n p of is.planned;
  planted = (
    is.planted.0,
    record {
      is = is.planted.1.is;
      frame = λ colour w. is.planted.1.frame colour (of.frame w.0 ∙ ap Some (sym w.1));
      clues = is.planted.1.clues;
    },
  );
  clues = is.clues ∙ ap (λ (e : Draft). e.clues) of.draft;
  different = λ asked. is.different (ap (λ (e : Draft). e.is_different) of.draft ∙ asked);
  turned = λ asked. is.turned (ap (λ (e : Draft). e.is_different) of.draft ∙ asked);
  unique = λ asked. subst (λ most. HasAtMost most p) of.most (is.unique (ap (λ (e : Draft). e.is_unique) of.draft ∙ asked));
}

-- what says when candidates are searched
pub searched : (d : Draft) (n : Plan) → n.draft ≡ d → AreSearched n.draft → AreSearched d
searched d n same are = subst AreSearched same are
