use Rattle.std.proofs.Common.{◌≡◌, ◌∙◌, List, Bool, true, false, not, Some, slice_get, get_or, length, replicate, set, take, ap, arith, refl, subst, sym}
use Rattle.match_limits.specs.declared.TheConstants.{MOST_CELLS}
use Rattle.std.proofs.lemmas.Bool.{false≢true}
use Rattle.std.proofs.lemmas.Option.{slice_get-get_or}
use Rattle.match_board.specs.Board.{cell_count}
use Rattle.match_puzzle.specs.Puzzle.{Task}
use Rattle.match_puzzle.specs.Arrangement.{IsArrangement, Stands}
use Rattle.match_puzzle.specs.declared.placements.Placement.{Placement}
use Rattle.xcc_form.specs.Correspondence.{IsSolutionOf}
use Rattle.xcc_form.proofs.OptionLemmas.{option_pair}
use Rattle.xcc_form.proofs.WholeLemmas.{also_there}
use Rattle.xcc_form.proofs.FaultLemmas.{is_refused, is_whole}
use Rattle.xcc_form.proofs.ConversionLemmas.{is_that, is_other, none_put, one_put, out_of_range, taken_twice, put_solves, solution_was_put}
use Rattle.xcc_form.proofs.xccs.Xcc.arrangement_of.Goals as goal

not_false : (b : Bool) → not b ≡ true → b ≡ false
not_false true e = absurd (false≢true e)
not_false false e = refl

not_true : (b : Bool) → not b ≡ false → b ≡ true
not_true true e = refl
not_true false e = absurd (false≢true (sym e))

abbrev unturned_first : Placement
unturned_first = record { tile = 0; turn = 0 }

pub loop-option-init : goal.loop-option-init
loop-option-init c =
    let nothing : Placement = record { tile = c.tile_count.result; turn = 0 } in
    none_put c.args.self.now c.puzzle-puzzle.ensures.compiled nothing c.args.options.now (replicate MOST_CELLS nothing) MOST_CELLS (let most = c.puzzle-puzzle.ensures.compiled.puzzle.board.most in omega (arith, most)) refl

pub returns-then-option-options-clause-refused : goal.returns-then-option-options-clause-refused
returns-then-option-options-clause-refused c = λ _ solution.
    let options = c.args.options.now in
    let k = c.loop-option.option-index in
    let nothing : Placement = record { tile = c.tile_count.result; turn = 0 } in
    out_of_range c.args.self.now c.puzzle-puzzle.ensures.compiled nothing options (c.tile_count.ensures.count ∙ ap (λ (p : Task). length p.words) c.puzzle-puzzle.ensures.value) k (get_or options k 0) (slice_get-get_or options k 0 c.loop-option-test.true) (omega (arith, c.if-option-options.true, c.options.ensures.count)) solution

pub bounds-placements-cell : goal.bounds-placements-cell
bounds-placements-cell c =
    let within = (option_pair c.args.self.now c.puzzle-puzzle.ensures.compiled (get_or c.args.options.now c.loop-option.option-index 0) c.pair-pair.result c.pair-pair.ensures).cell in
    let most = c.puzzle-puzzle.ensures.compiled.puzzle.board.most in
    omega (arith, within, c.from-cell.ensures, most)

pub returns-then-ne-clause-refused : goal.returns-then-ne-clause-refused
returns-then-ne-clause-refused c = λ _ solution.
    let x = c.args.self.now in
    let is = c.puzzle-puzzle.ensures.compiled in
    let options = c.args.options.now in
    let k = c.loop-option.option-index in
    let y = c.pair-pair.result in
    let a = c.loop-option.placements in
    let z = get_or a c.from-cell.result unturned_first in
    let nothing : Placement = record { tile = c.tile_count.result; turn = 0 } in
    let within = (option_pair x is (get_or options k 0) y c.pair-pair.ensures).cell in
    let here : Stands a y.cell z = ap (slice_get a) (sym c.from-cell.ensures) ∙ slice_get-get_or a c.from-cell.result unturned_first (omega (arith, within, c.from-cell.ensures, c.loop-option.invariant.room)) in
    taken_twice x is nothing options (c.tile_count.ensures.count ∙ ap (λ (p : Task). length p.words) c.puzzle-puzzle.ensures.value) k (get_or options k 0) y a z (slice_get-get_or options k 0 c.loop-option-test.true) c.pair-pair.ensures here (is_other z nothing (not_false _ (sym c.ne.ensures ∙ c.if-ne.true))) c.loop-option.invariant solution

pub bounds-placements-cell-in-loop-option : goal.bounds-placements-cell-in-loop-option
bounds-placements-cell-in-loop-option c =
    let within = (option_pair c.args.self.now c.puzzle-puzzle.ensures.compiled (get_or c.args.options.now c.loop-option.option-index 0) c.pair-pair.result c.pair-pair.ensures).cell in
    let most = c.puzzle-puzzle.ensures.compiled.puzzle.board.most in
    omega (arith, within, c.from-cell.ensures, most)

pub loop-option-preserved : goal.loop-option-preserved
loop-option-preserved c =
    let x = c.args.self.now in
    let is = c.puzzle-puzzle.ensures.compiled in
    let options = c.args.options.now in
    let k = c.loop-option.option-index in
    let y = c.pair-pair.result in
    let a = c.loop-option.placements in
    let z = get_or a c.from-cell.result unturned_first in
    let nothing : Placement = record { tile = c.tile_count.result; turn = 0 } in
    let within = (option_pair x is (get_or options k 0) y c.pair-pair.ensures).cell in
    let here : Stands a y.cell z = ap (slice_get a) (sym c.from-cell.ensures) ∙ slice_get-get_or a c.from-cell.result unturned_first (omega (arith, within, c.from-cell.ensures, c.loop-option.invariant.room)) in
    let empty : z ≡ nothing = is_that z nothing (not_true _ (sym c.ne.ensures ∙ c.if-ne.false)) in
    one_put x is nothing options (c.tile_count.ensures.count ∙ ap (λ (p : Task). length p.words) c.puzzle-puzzle.ensures.value) k (get_or options k 0) y a (set a c.from-cell.result y.placement) (slice_get-get_or options k 0 c.loop-option-test.true) c.pair-pair.ensures (here ∙ ap Some empty) (ap (λ n. set a n y.placement) c.from-cell.ensures) c.loop-option.invariant

pub returns-then-is_some-clause-refused : goal.returns-then-is_some-clause-refused
returns-then-is_some-clause-refused c = λ _ solution.
    let x = c.args.self.now in
    let a = c.loop-option.placements in
    let b = take c.from.result a in
    let nothing : Placement = record { tile = c.tile_count.result; turn = 0 } in
    let front : b ≡ take (cell_count x.puzzle.board) a = ap (λ n. take n a) (c.from.ensures ∙ c.cells.ensures.count) in
    let whole = solution_was_put x c.puzzle-puzzle.ensures.compiled nothing c.args.options.now (c.tile_count.ensures.count ∙ ap (λ (p : Task). length p.words) c.puzzle-puzzle.ensures.value) c.loop-option.option-index a b c.loop-option-test.false c.loop-option.invariant front solution in
    is_refused c.puzzle-puzzle.result.now b c.arrangement_fault.result c.arrangement_fault.ensures (sym c.is_some.ensures ∙ c.if-is_some.true)
    (subst (λ (p : Task). IsArrangement p b) (sym c.puzzle-puzzle.ensures.value) whole)

pub returns-in_err-to_vec-clause-memory : goal.returns-in_err-to_vec-clause-memory
returns-in_err-to_vec-clause-memory c = λ _.
    let x = c.args.self.now in
    let a = c.loop-option.placements in
    let b = take c.from.result a in
    let nothing : Placement = record { tile = c.tile_count.result; turn = 0 } in
    let front : b ≡ take (cell_count x.puzzle.board) a = ap (λ n. take n a) (c.from.ensures ∙ c.cells.ensures.count) in
    let whole = subst (λ (p : Task). IsArrangement p b) c.puzzle-puzzle.ensures.value (is_whole c.puzzle-puzzle.result.now b c.arrangement_fault.result c.arrangement_fault.ensures (sym c.is_some.ensures ∙ c.if-is_some.false)) in
    (put_solves x c.puzzle-puzzle.ensures.compiled nothing c.args.options.now (c.tile_count.ensures.count ∙ ap (λ (p : Task). length p.words) c.puzzle-puzzle.ensures.value) c.loop-option.option-index a b c.loop-option-test.false c.loop-option.invariant front whole).solution

pub returns-clause-solution : goal.returns-clause-solution
returns-clause-solution c =
    let x = c.args.self.now in
    let options = c.args.options.now in
    let a = c.loop-option.placements in
    let b = take c.from.result a in
    let nothing : Placement = record { tile = c.tile_count.result; turn = 0 } in
    let front : b ≡ take (cell_count x.puzzle.board) a = ap (λ n. take n a) (c.from.ensures ∙ c.cells.ensures.count) in
    let whole = subst (λ (p : Task). IsArrangement p b) c.puzzle-puzzle.ensures.value (is_whole c.puzzle-puzzle.result.now b c.arrangement_fault.result c.arrangement_fault.ensures (sym c.is_some.ensures ∙ c.if-is_some.false)) in
    let copied : c.new.result ≡ b = c.new.ensures ∙ c.in_ok-to_vec.ensures.items_if_clones_equal (λ y z e. e) in
    subst (λ (d : List Placement). IsSolutionOf x d options) (sym copied)
    (put_solves x c.puzzle-puzzle.ensures.compiled nothing options (c.tile_count.ensures.count ∙ ap (λ (p : Task). length p.words) c.puzzle-puzzle.ensures.value) c.loop-option.option-index a b c.loop-option-test.false c.loop-option.invariant front whole)

pub returns-clause-undone : goal.returns-clause-undone
returns-clause-undone c = λ other of option.
    let x = c.args.self.now in
    let is = c.puzzle-puzzle.ensures.compiled in
    let options = c.args.options.now in
    let here = returns-clause-solution c in
    (also_there x is c.new.result other options of.solution of.filled here.filled option, also_there x is c.new.result options other here.solution here.filled of.filled option)
