use Rattle.std.proofs.Common.{◌≢◌, ◌<◌, ℕ, not, eqb, IsTrue, length, get_or, arith, refl, sym, subst, ap, ◌∙◌, ⊎_elim}
use Rattle.std.proofs.lemmas.Bool.{false≢true}
use Rattle.std.proofs.lemmas.Bool.Decides.{eqb_tells}
use Rattle.std.proofs.lemmas.List.{get_or_read}
use Rattle.fit_counts.specs.Placing.{placed_by}
use Rattle.fit_counts.specs.FitSizes.{AreSizes}
use Rattle.fit_counts.specs.declared.fit_sizes.TheConstants.{COVERED}
use Rattle.fit_counts.proofs.CountedLemmas.{kept_sizes, place_within, is_open_entry, not_covered}
use Rattle.fit_counts.proofs.fit_counts.FitCounts.is_unsettled.Goals as goal
use Rattle.fit_counts.proofs.fit_counts.FitCounts.is_unsettled.Goals.{After-place_of}

are_sizes : (c : After-place_of) → AreSizes c.args.self.now.puzzle (placed_by c.args.self.now) c.self.inside.counts.sizes.items
are_sizes c = kept_sizes c.self.inside.partial.puzzle c.self.inside.pairs.items c.self.inside.partial.placed c.self.inside.counts.rows c.self.inside.counts.sizes.items c.self.inside.saved.items c.self.invariant c.args.self.now c.self.view_is

within : (c : After-place_of) → c.place_of.result < length c.self.inside.counts.sizes.items
within c =
    let e = c.place_of.ensures in
    place_within c.args.self.now.puzzle (placed_by c.args.self.now) e.puzzle e.prefix c.self.inside.counts.sizes.items (are_sizes c) c.args.item c.requires c.place_of.result e.place

pub index-requires : goal.index-requires
index-requires c = let lt = within (goal.at.index-requires c).After-place_of in omega (arith, lt)

differs : (a b : ℕ) → (IsTrue (not (eqb a b)) → a ≢ b) × (a ≢ b → IsTrue (not (eqb a b)))
differs a b =
    ⊎_elim
    (λ e. (λ h. absurd (false≢true (subst (λ t. IsTrue (not t)) e.0 h)), λ ne. absurd (ne e.1)))
    (λ n. (λ _. n.1, λ _. subst (λ t. IsTrue (not t)) (sym n.0) refl))
    (eqb_tells a b)

pub returns : goal.returns
returns c =
    let p = c.args.self.now.puzzle in
    let q = placed_by c.args.self.now in
    let e = c.place_of.ensures in
    let a = (goal.at.returns c).After-place_of in
    let sizes = c.self.inside.counts.sizes.items in
    let read = get_or_read sizes c.place_of.result c.index.result.now (within a) c.index.ensures 0 ∙ ap (λ n. get_or sizes n 0) e.place in
    let test = differs c.index.result.now COVERED in (
      λ h. is_open_entry p q e.puzzle e.prefix sizes (are_sizes a) c.args.item c.requires (λ same. test.0 h (read ∙ same)),
      λ h. test.1 (λ same. not_covered p q e.puzzle e.prefix sizes (are_sizes a) c.args.item h (sym read ∙ same)),
    )
