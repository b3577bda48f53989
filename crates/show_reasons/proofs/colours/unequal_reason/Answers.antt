use Rattle.std.proofs.Common.{◌-◌, refl, sym, subst, arith}
use Rattle.match_puzzle.specs.Puzzle.{mate_of}
use Rattle.show_reasons.specs.Reasons.{IsLeft}
use Rattle.show_reasons.proofs.ReasonLemmas.{is_left, none_of_short_mate, none_of_equal}
use Rattle.show_reasons.proofs.colours.unequal_reason.Goals as goal

pub returns-then-of_mate : goal.returns-then-of_mate
returns-then-of_mate c =
    none_of_short_mate c.args.puzzle.now c.args.colour c.args.left c.args.of_mate.asked c.args.of_mate.shown c.requires.left c.requires.lesser c.requires.asked c.requires.shown c.if-of_mate.true

pub returns-then-left-mate_left : goal.returns-then-left-mate_left
returns-then-left-mate_left c =
    none_of_equal c.args.puzzle.now c.args.colour c.args.left _ c.requires.left c.requires.lesser
    (is_left c.args.puzzle.now (mate_of c.args.puzzle.now c.args.colour) c.args.of_mate.asked c.args.of_mate.shown c.requires.asked c.requires.shown c.if-of_mate.false)
    c.if-left-mate_left.true

pub returns : goal.returns
returns c =
    let mate = c.mate-mate.ensures.mate in
    let left = is_left c.args.puzzle.now (mate_of c.args.puzzle.now c.args.colour) c.args.of_mate.asked c.args.of_mate.shown c.requires.asked c.requires.shown c.if-of_mate.false in (
      record {
        few = c.requires.colour;
        inside = c.requires.inside;
        mates = mate;
        lesser = omega (arith, mate, c.requires.lesser);
        counted = c.requires.left;
        mate_counted = subst (λ n. IsLeft c.args.puzzle.now n (c.args.of_mate.shown - c.args.of_mate.asked)) (sym mate) left;
        unequal = c.if-left-mate_left.false;
      },
      refl,
    )
