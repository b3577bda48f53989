use Rattle.std.proofs.Common.{◌≡◌, ◌++◌, ◌∷◌, ◌∙◌, [], List, append_assoc, length, map, arith, ap, sym, subst}
use Rattle.std.proofs.lemmas.List.{append-nil}
use Rattle.match_puzzle.specs.Fitting.{AreFitting}
use Rattle.match_puzzle.specs.Puzzle.{Task}
use Rattle.match_puzzle.specs.declared.items.Item.TheVariants.{Cell}
use Rattle.match_puzzle.specs.declared.placements.Pair.{Pair}
use Rattle.match_puzzle.specs.declared.placements.Placement.{Placement}
use Rattle.match_puzzle.proofs.FittingLemmas.{cell_listing}
use Rattle.match_puzzle.proofs.puzzles.Puzzle.fits_cell.Goals as goal

pub returns : goal.returns
returns c =
    let q = c.args.partial.now.placed in
    let xs = c.fitting-pairs.result in
    let left = c.in_default.ensures.0 in
    let fitting = subst (λ (p : Task). AreFitting p q (Cell c.args.cell) xs) c.requires.made c.fitting-pairs.ensures in
    let taken : c.loop-pair.placements.items ≡ map (λ (x : Pair). x.placement) xs = sym (append-nil c.loop-pair.placements.items)
    ∙ ap (λ (ys : List Pair). c.loop-pair.placements.items ++ map (λ (x : Pair). x.placement) ys) (sym left)
    ∙ c.loop-pair.invariant in
    rw taken (cell_listing c.args.self.now q c.args.cell xs fitting)

pub loop-pair-init : goal.loop-pair-init
loop-pair-init c = ap (λ (xs : List Placement). xs ++ map (λ (x : Pair). x.placement) c.fitting-pairs.result) c.in_ok-placements.ensures.items

pub loop-pair-preserved : goal.loop-pair-preserved
loop-pair-preserved c =
    let placements = c.loop-pair.placements.items in
    let rest = map (λ (x : Pair). x.placement) c.take_first.new.self in
    ap (λ (xs : List Placement). xs ++ rest) c.in_ok-push.ensures.items
    ∙ append_assoc placements (c.in-Some.pair.placement ∷ []) rest
    ∙ ap (λ (xs : List Pair). placements ++ map (λ (x : Pair). x.placement) xs) (sym c.in-Some.ensures)
    ∙ c.loop-pair.invariant

pub loop-pair-smaller : goal.loop-pair-smaller
loop-pair-smaller c =
    let long : length c.loop-pair.pairs ≡ length (c.in-Some.pair ∷ c.take_first.new.self) = ap length c.in-Some.ensures in
    omega (arith, long)
