use Rattle.std.proofs.Common.{◌≡◌, ◌++◌, ◌∷◌, ◌∙◌, [], List, append_assoc, length, arith, ap, sym, subst}
use Rattle.std.proofs.lemmas.List.{append-nil}
use Rattle.match_puzzle.specs.Fitting.{AreFitting}
use Rattle.match_puzzle.specs.Puzzle.{Task}
use Rattle.match_puzzle.specs.declared.items.Item.TheVariants.{Tile}
use Rattle.match_puzzle.specs.declared.placements.Pair.{Pair}
use Rattle.match_puzzle.proofs.puzzles.Puzzle.fits_tile.Goals as goal

pub loop-pair-init : goal.loop-pair-init
loop-pair-init c = ap (λ (xs : List Pair). xs ++ c.fitting-pairs.result) c.in_ok-found.ensures.items

pub loop-pair-preserved : goal.loop-pair-preserved
loop-pair-preserved c =
    let found = c.loop-pair.found.items in
    let rest = c.take_first.new.self in
    ap (λ (xs : List Pair). xs ++ rest) c.in_ok-push.ensures.items
    ∙ append_assoc found (c.in-Some.pair ∷ []) rest
    ∙ ap (λ (xs : List Pair). found ++ xs) (sym c.in-Some.ensures)
    ∙ c.loop-pair.invariant

pub loop-pair-smaller : goal.loop-pair-smaller
loop-pair-smaller c =
    let long : length c.loop-pair.pairs ≡ length (c.in-Some.pair ∷ c.take_first.new.self) = ap length c.in-Some.ensures in
    omega (arith, long)

pub returns : goal.returns
returns c =
    let q = c.args.partial.now.placed in
    let found = c.loop-pair.found.items in
    let xs = c.fitting-pairs.result in
    let taken : found ≡ xs = sym (append-nil found) ∙ ap (λ (ys : List Pair). found ++ ys) (sym c.in_default.ensures.0) ∙ c.loop-pair.invariant in
    rw taken (subst (λ (p : Task). AreFitting p q (Tile c.args.tile) xs) c.requires.made c.fitting-pairs.ensures)
