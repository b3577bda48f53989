use Rattle.std.proofs.Common.{◌∙◌, rules, ap, inl, subst, sym, arith, refl}
use Rattle.match_board.specs.Board.{cell_count}
use Rattle.match_board.specs.Borders.{rule_of}
use Rattle.puzzle_drafts.specs.declared.misfits.Misfit.TheVariants.{FewColours}
use Rattle.puzzle_maker.specs.Like.{IsInside}
use Rattle.puzzle_maker.proofs.LikeLemmas.{inside_from_inner}
use Rattle.puzzle_maker.proofs.like_plans.plan_like.Goals as goal

pub inner_colours-requires : goal.inner_colours-requires
inner_colours-requires c = λ none. c.requires.fits.fits FewColours (inl (λ colour lt inner.
    none colour lt (subst (λ ms. IsInside ms c.args.frame colour) (sym c.mates.ensures.list) (inside_from_inner c.args.model.now c.args.frame c.requires.frame colour inner))))

pub invariant_of-result : goal.invariant_of-result
invariant_of-result c =
    let cells = ap cell_count c.board.ensures.value in
    let fits = c.requires.fits in
    let inner = c.in_ok-inner.ensures in
    record {
      some_colours = omega (arith, inner.some, inner.few);
      few_colours = fits.colours;
      some_inner = inner.some;
      few_inner = omega (arith, inner.few, fits.colours);
      few_mates = omega (arith, c.in_ok-mates.ensures.len, c.mates-2.ensures.mates.few);
      tiles = omega (arith, cells, fits.tiles);
      clues = omega (arith, cells, fits.clues);
    }

pub returns : goal.returns
returns c = record {
  draft = refl;
  board = c.board.ensures.value;
  turns = c.turns.ensures;
  border = λ rule asks. asks ∙ ap rule_of c.in_ok-copy.ensures ∙ c.border.ensures;
  version = c.version_of.ensures;
  mates = search rules;
  frame = λ colour is. (c.requires.frame colour).1 is;
  most = c.in_ok-most.ensures;
}
