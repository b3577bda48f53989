use Rattle.std.proofs.Common.{◌∙◌, Contains, Err, List, ap, subst}
use Rattle.match_limits.specs.declared.TheConstants.{MOST_ARRANGEMENTS}
use Rattle.match_puzzle.specs.declared.placements.Placement.{Placement}
use Rattle.match_board.specs.declared.symmetry_lines.SymmetryLine.{SymmetryLine}
use Rattle.symmetry_orbits.specs.Expansion.{AreMoreReached}
use Rattle.show_refusals.proofs.FindingLemmas.{image_is, lines_are, missing_is, of_one, orbit_has}
use Rattle.show_refusals.proofs.findings.unlisted_finding.Goals as goal

pub unreachable-requires : goal.unreachable-requires
unreachable-requires g c = c.requires.faultless.listed c.in_default.field-0.0 c.in_default.field-0.1 c.in_default.ensures.occurs

pub expand-requires : goal.expand-requires
expand-requires g c =
    let q = c.args.question.now in
    (q.puzzle, of_one q c.args.arrangement.now c.from_ref.result.now c.deref.result.now c.requires.puzzle c.in_ok-symmetries.ensures.are c.requires.unlisted.arrangement c.from_ref.ensures.value (c.deref.ensures.value ∙ c.in_ok-symmetries.ensures.made))

pub returns-in-Err-TooMany : goal.returns-in-Err-TooMany
returns-in-Err-TooMany g c =
    let q = c.args.question.now in
    let a = c.args.arrangement.now in
    let are = c.deref.ensures.value ∙ c.in_ok-symmetries.ensures.made in
    let of = of_one q a c.from_ref.result.now c.deref.result.now c.requires.puzzle c.in_ok-symmetries.ensures.are c.requires.unlisted.arrangement c.from_ref.ensures.value are in
    let more = c.in-Err-TooMany.ensures.too_many (ap Err c.in-Err-TooMany.field-0-is) q.puzzle of in (
      a,
      c.requires.unlisted,
      subst (λ (one : List (List Placement)). AreMoreReached MOST_ARRANGEMENTS q.puzzle q.symmetries one) c.from_ref.ensures.value
          (subst (λ (lines : List SymmetryLine). AreMoreReached MOST_ARRANGEMENTS q.puzzle lines c.from_ref.result.now) (lines_are q c.deref.result.now are) more),
    )

pub returns-then-has_some : goal.returns-then-has_some
returns-then-has_some g c =
    let q = c.args.question.now in
    let a = c.args.arrangement.now in
    let whole = c.requires.unlisted.arrangement in
    let are = c.deref.ensures.value ∙ c.in_ok-symmetries.ensures.made in
    let of = of_one q a c.from_ref.result.now c.deref.result.now c.requires.puzzle c.in_ok-symmetries.ensures.are whole c.from_ref.ensures.value are in
    let has = orbit_has q a c.from_ref.result.now c.deref.result.now c.in-Ok.orbit.keys c.from_ref.ensures.value are (c.in-Ok.ensures.reached q.puzzle of) in
    let (b, among, there) = c.if-has_some.ensures in
    let listed = subst (λ (xs : List (List Placement)). Contains xs b) c.listed.ensures.listed among in (
      a,
      c.requires.unlisted,
      image_is c.orbit_laws.ensures.equivalence q c.requires.puzzle c.in_ok-symmetries.ensures.are c.in-None.ensures a whole c.in-Ok.orbit.keys has b listed there,
    )

pub returns : goal.returns
returns g c =
    let q = c.args.question.now in
    let a = c.args.arrangement.now in
    let whole = c.requires.unlisted.arrangement in
    let are = c.deref.ensures.value ∙ c.in_ok-symmetries.ensures.made in
    let of = of_one q a c.from_ref.result.now c.deref.result.now c.requires.puzzle c.in_ok-symmetries.ensures.are whole c.from_ref.ensures.value are in
    let has = orbit_has q a c.from_ref.result.now c.deref.result.now c.in-Ok.orbit.keys c.from_ref.ensures.value are (c.in-Ok.ensures.reached q.puzzle of) in
    let none = subst (λ (xs : List (List Placement)). (b : List Placement) → Contains xs b → Contains c.in-Ok.orbit.keys b → ⊥) c.listed.ensures.listed c.if-has_some.ensures in (
      a,
      c.requires.unlisted,
      missing_is c.orbit_laws.ensures.equivalence q c.requires.puzzle c.in_ok-symmetries.ensures.are c.in-None.ensures a whole c.in-Ok.orbit.keys has none,
    )
