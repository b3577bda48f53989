use Rattle.std.proofs.Common.{ℕ, ◌≡◌, ◌<◌, ◌^◌, ◌∙◌, Bool, List, Some, MatchBool, length, slice_get, arith, refl, sym, subst}
use Rattle.std.proofs.lemmas.Option.{slice_get_read}
use Rattle.rayon.proofs.ToStd.{slice-AllZip}
use Rattle.match_puzzle.proofs.Prefixes.{inside}
use Rattle.match_puzzle.specs.Arrangement.{IsArrangement}
use Rattle.match_puzzle.specs.ArrangementFaults.{IsArrangementFault}
use Rattle.match_puzzle.specs.Puzzle.{Task}
use Rattle.match_puzzle.specs.declared.placements.Placement.{Placement}
use Rattle.cert_check.proofs.PlaceLemmas.{IsFirstPlace, TellsOfPlaces, first_place}
use Rattle.cert_check.proofs.list_faults.list_fault_with.Goals as goal
use Rattle.cert_check.proofs.list_faults.list_fault_with.Goals.{After-position_first-found}

-- what the closure answers of one
abbrev Answers : Task → List Placement → Bool → Type 0
Answers p a answer = MatchBool answer (IsArrangement p a → ⊥) (IsArrangement p a)

told : (g : _) (c : After-position_first-found g) → TellsOfPlaces (Answers c.args.puzzle.now) c.args.listed.now c.position_first-found.result
told g c =
    let p = c.args.puzzle.now in
    let listed = c.args.listed.now in
    let found = c.position_first-found.ensures in
    let zipped = slice-AllZip found.0 listed (found.2 ∙ c.par_iter.ensures) (Answers p) found.1 found.3 in
    let few : length listed < 2 ^ 32 = c.requires in
    subst (TellsOfPlaces (Answers p) listed) (sym found.4) (first_place (Answers p) listed found.1 zipped (omega (arith, few)))

pub returns-in_default : goal.returns-in_default
returns-in_default g c =
    let here = (goal.at.returns-in_default g c).After-position_first-found in
    subst (TellsOfPlaces (Answers c.args.puzzle.now) c.args.listed.now) c.in_default.is (told g here)

-- the place that was found is the first
first : (g : _) (c : After-position_first-found g) (place : ℕ) → c.position_first-found.result ≡ Some place → IsFirstPlace (Answers c.args.puzzle.now) c.args.listed.now place
first g c place is = subst (TellsOfPlaces (Answers c.args.puzzle.now) c.args.listed.now) is (told g c)

pub offset_bounds-listed-place : goal.offset_bounds-listed-place
offset_bounds-listed-place g c =
    let few : length c.args.listed.now < 2 ^ 32 = c.requires in
    let within = (first g ((goal.at.offset_bounds-listed-place g c).After-position_first-found) c.in-Some.place c.in-Some.is).within in
    omega (arith, few, within)

pub bounds-listed-place : goal.bounds-listed-place
bounds-listed-place g c = (first g ((goal.at.bounds-listed-place g c).After-position_first-found) c.in-Some.place c.in-Some.is).within

pub unreachable-requires : goal.unreachable-requires
unreachable-requires g c =
    let p = c.args.puzzle.now in
    let it = first g ((goal.at.unreachable-requires g c).After-position_first-found) c.in-Some.place c.in-Some.is in
    let a = c.index-listed-place.result in
    let at : slice_get c.args.listed.now c.in-Some.place ≡ Some a = slice_get_read c.args.listed.now _ c.in-Some.place a refl it.within c.index-listed-place.is in
    let arranged = subst (IsArrangement p) c.placements.ensures c.in_default-arrangement_fault.ensures in
    it.here.2 (subst (IsArrangement p) (inside (sym at ∙ it.here.1)) arranged)

pub overflow_cast-result : goal.overflow_cast-result
overflow_cast-result g c =
    let few : length c.args.listed.now < 2 ^ 32 = c.requires in
    let within = (first g ((goal.at.overflow_cast-result g c).After-position_first-found) c.in-Some.place c.in-Some.is).within in
    omega (arith, few, within)

pub returns : goal.returns
returns g c =
    let p = c.args.puzzle.now in
    let it = first g ((goal.at.returns g c).After-position_first-found) c.in-Some.place c.in-Some.is in
    let a = c.index-listed-place.result in
    let at : slice_get c.args.listed.now c.in-Some.place ≡ Some a = slice_get_read c.args.listed.now _ c.in-Some.place a refl it.within c.index-listed-place.is in
    let fails = subst (λ (b : List Placement). IsArrangementFault p b c.in-Some-arrangement_fault.fault) c.placements.ensures c.in-Some-arrangement_fault.ensures in
    record { occurs = (a, at, fails); before = it.before }
