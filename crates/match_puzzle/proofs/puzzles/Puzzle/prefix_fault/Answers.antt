use Rattle.std.proofs.Common.{◌≡◌, ℕ, Bool, List, Some, false, replicate, get_or, slice_get, arith, sym, subst}
use Rattle.match_limits.specs.declared.TheConstants.{MOST_TILES}
use Rattle.std.proofs.lemmas.List.{get_or-replicate, length-replicate}
use Rattle.std.proofs.lemmas.Option.{slice_get-get_or}
use Rattle.match_puzzle.specs.PrefixFaults.{TellsOfPair, IsPrefixFault}
use Rattle.match_puzzle.specs.declared.placements.Pair.{Pair}
use Rattle.match_puzzle.specs.declared.faults.PrefixFault.{PrefixFault}
use Rattle.match_puzzle.specs.declared.faults.PrefixFault.TheVariants.{Cell, Tile, Turn}
use Rattle.match_puzzle.specs.Puzzle.{Task}
use Rattle.match_puzzle.proofs.PrefixFaultLemmas.{AreRight, right_none, right_more, right_all, first_cell, first_tile, first_turn}
use Rattle.match_puzzle.proofs.puzzles.Puzzle.prefix_fault.Goals as goal

abbrev first_pair : Pair
first_pair = record { cell = 0; placement = record { tile = 0; turn = 0 } }

-- what is said of a pair is the first fault
first_told : (p : Task) (pairs : List Pair) (n least : ℕ) (seen : List Bool) → AreRight p pairs n least seen → (x : Pair) → slice_get pairs n ≡ Some x → (fault : PrefixFault) → TellsOfPair p n x least seen (Some fault) → IsPrefixFault p pairs fault
first_told p pairs n least seen right x there (Cell m) told = subst (λ k. IsPrefixFault p pairs (Cell k)) (sym told.0) (first_cell p pairs n least seen right x there told.1)
first_told p pairs n least seen right x there (Tile m) told = subst (λ k. IsPrefixFault p pairs (Tile k)) (sym told.0) (first_tile p pairs n least seen right x there told.1 told.2)
first_told p pairs n least seen right x there (Turn m) told = subst (λ k. IsPrefixFault p pairs (Turn k)) (sym told.0) (first_turn p pairs n least seen right x there told.1 told.2 told.2.1 told.3)

pub loop-place-init : goal.loop-place-init
loop-place-init c = right_none c.args.self.now c.args.pairs.now (replicate MOST_TILES false) (length-replicate MOST_TILES false) (λ tile lt. get_or-replicate MOST_TILES tile false false lt)

-- No more pairs are right than there may be cells.
pub overflow_cast-place : goal.overflow_cast-place
overflow_cast-place c = let few = c.loop-place.invariant.few in omega (arith, few.0, few.1)

pub returns-in-Some : goal.returns-in-Some
returns-in-Some c =
    let pairs = c.args.pairs.now in
    let n = c.loop-place.place in
    let x = get_or pairs n first_pair in
    first_told c.args.self.now pairs n c.loop-place.least c.loop-place.seen c.loop-place.invariant x (slice_get-get_or pairs n first_pair c.loop-place-test.true) c.in-Some.fault c.in-Some.ensures

pub bounds-seen-from : goal.bounds-seen-from
bounds-seen-from c = rw c.from.ensures c.in_default.ensures.1.1

pub overflow_add-least : goal.overflow_add-least
overflow_add-least c = omega (arith, c.in_default.ensures.0.2)

pub loop-place-preserved : goal.loop-place-preserved
loop-place-preserved c =
    let pairs = c.args.pairs.now in
    let n = c.loop-place.place in
    let x = get_or pairs n first_pair in
    let told = c.in_default.ensures in
    rw c.from.ensures (right_more c.args.self.now pairs n c.loop-place.least c.loop-place.seen c.loop-place.invariant x (slice_get-get_or pairs n first_pair c.loop-place-test.true) told.0 told.1 told.1.1 told.2)

pub returns : goal.returns
returns c = right_all c.args.self.now c.args.pairs.now c.loop-place.place c.loop-place.least c.loop-place.seen (omega (arith, c.loop-place-test.false)) c.loop-place.invariant
