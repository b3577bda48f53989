-- A compiled puzzle is an exact cover, and the only one of its puzzle.
use Rattle.std.proofs.Common.{◌≡◌, ◌<◌, ◌+◌, ◌%◌, ℕ, zero, suc, List, [], ◌∷◌, All, Some, length, slice_get, get_or, map, arith, refl, ap, sym, ◌∙◌, subst, ⊎_elim}
use Rattle.match_limits.specs.declared.TheConstants.{MOST_COLOURS}
use Rattle.std.proofs.lemmas.List.{get_or_past}
use Rattle.std.proofs.lemmas.List.Elements.{All-get_or}
use Rattle.std.proofs.lemmas.Option.{slice_get_within, get_or_from_slice_get, none-some}
use Rattle.match_board.specs.Board.{cell_count}
use Rattle.match_board.specs.Turns.{shown}
use Rattle.match_limits.specs.Listing.{IsListing, ByKey}
use Rattle.match_limits.proofs.Listings.{lt_or_le, same_listing, IsAsymmetric, by_key_asymmetric, comes_before_asymmetric}
use Rattle.match_puzzle.specs.Puzzle.{Task, IsPuzzle, IsLegal, word_of, colour_of}
use Rattle.match_puzzle.specs.Fitting.{tile_turn}
use Rattle.match_puzzle.specs.declared.placements.Placement.{Placement}
use Rattle.match_puzzle.specs.declared.placements.Pair.{Pair}
use Rattle.match_puzzle.proofs.Prefixes.{inside}
use Rattle.xcc_form.specs.ExactCover.{ItemSet, IsCover}
use Rattle.xcc_form.specs.Options.{Choice, Compiled, IsCompiled, AreShownEdges, IsOptionPair, IsSharedEdge, IsShownEdge, PairComesBefore, least_place, pair_of, items_of, cover_of}
use Rattle.xcc_form.specs.Laws.{IsColouredCover, IsOnlyOne}
use Rattle.xcc_form.specs.declared.edges.Edge.{Edge}
use Rattle.xcc_form.specs.declared.edges.SharedEdge.{SharedEdge}
use Rattle.xcc_form.proofs.GivenLemmas.{given_below}
use Rattle.xcc_form.proofs.ShownLemmas.{ItemComesBefore}
use Rattle.xcc_form.proofs.OptionLemmas.{option_pair, pair_at, many_options, primary_of, has_cell, colour_at, of_map, few_primaries}

-- ---- colours

listed_below : (word : List ℕ) (i : ℕ) → All (λ colour. colour < MOST_COLOURS) word → get_or word i 0 < MOST_COLOURS
listed_below word i all =
    ⊎_elim
    (λ lt. All-get_or (λ colour. colour < MOST_COLOURS) word i 0 lt all)
    (λ le. let none = get_or_past word i 0 le in omega (arith, none))
    (lt_or_le i (length word))

shown_below : (word : List ℕ) (turn side : ℕ) → All (λ colour. colour < MOST_COLOURS) word → shown word turn side < MOST_COLOURS
unfolding shown
shown_below word turn side all = listed_below word ((side + turn) % length word) all

colour_below : (p : Task) (x : Placement) (side : ℕ) → IsPuzzle p → IsLegal p x → colour_of p x side < MOST_COLOURS
unfolding colour_of
colour_below p x side is legal = shown_below (word_of p x.tile) x.turn side (is.tile_colours x.tile legal.tile)

-- ---- an exact cover

two_places : (a b : ℕ) → (a ≡ b → ⊥) → (place place' item : ℕ) → slice_get (a ∷ b ∷ []) place ≡ Some item → slice_get (a ∷ b ∷ []) place' ≡ Some item → place ≡ place'
two_places a b ne zero zero item at at' = refl
two_places a b ne zero (suc zero) item at at' = absurd (ne (inside at ∙ sym (inside at')))
two_places a b ne zero (suc (suc n)) item at at' = absurd (none-some item at')
two_places a b ne (suc zero) zero item at at' = absurd (ne (inside at' ∙ sym (inside at)))
two_places a b ne (suc zero) (suc zero) item at at' = refl
two_places a b ne (suc zero) (suc (suc n)) item at at' = absurd (none-some item at')
two_places a b ne (suc (suc n)) place' item at at' = absurd (none-some item at)

-- what rises stands once
one_place : (P : Edge → Type 0) (edges : List Edge) → IsListing ItemComesBefore P edges → (place place' : ℕ) (e f : Edge) → slice_get edges place ≡ Some e → slice_get edges place' ≡ Some f → e.item ≡ f.item → place ≡ place'
one_place P edges h place place' e f at at' same =
    let there = slice_get_within edges place e at in
    let there' = slice_get_within edges place' f at' in
    let not_before : (place < place' → ⊥) = λ lt. let less = h.rising place place' e lt there' in let a = ap (λ (g : Edge). g.item) (get_or_from_slice_get edges place e e at) in let b = ap (λ (g : Edge). g.item) (get_or_from_slice_get edges place' f e at') in omega (arith, less, a, b, same) in
    let not_after : (place' < place → ⊥) = λ lt. let less = h.rising place' place e lt there in let a = ap (λ (g : Edge). g.item) (get_or_from_slice_get edges place e e at) in let b = ap (λ (g : Edge). g.item) (get_or_from_slice_get edges place' f e at') in omega (arith, less, a, b, same) in
    omega (arith, not_before, not_after)

module _ (x : Compiled) (is : IsCompiled x) where
  -- the option that an item set is
  choice_for : (option : ℕ) (o : ItemSet) → slice_get (cover_of x).options option ≡ Some o → (c : Choice) × (slice_get x.options option ≡ Some c) × (items_of (cell_count x.puzzle.board) c ≡ o)
  choice_for option o at = of_map (items_of (cell_count x.puzzle.board)) x.options option o at

  is_cover : IsCover (cover_of x)
  is_cover = record {
    some = λ option lt. let many = many_options x is in let y = pair_at x is option (omega (arith, lt, many)) in let q = y.0 in (q.cell, has_cell x is option q y.1);
    few = few_primaries x.puzzle;
    primary = λ option item has.
        let w = primary_of x is option item has in
        let good = option_pair x is option w.0 w.1 in
        let cell = good.cell in
        let tile = good.legal.tile in
        ⊎_elim (λ e. omega (arith, e, cell)) (λ e. omega (arith, e, tile)) w.2;
    secondary = λ option item colour has.
        let w = colour_at x is option item colour has in
        let e = w.2 in
        let lt = slice_get_within x.shared e.number e.edge e.numbered in
        let at = e.item in
        (omega (arith, at), omega (arith, at, lt));
    once_primary = λ option place place' item o at here there.
        let c = choice_for option o at in
        let d = c.0 in
        let cell = (option_pair x is option d.pair (d, c.1, refl)).cell in
        two_places d.pair.cell (cell_count x.puzzle.board + d.pair.placement.tile) (λ e. omega (arith, e, cell)) place place' item
        (subst (λ (s : ItemSet). slice_get s.primary place ≡ Some item) (sym c.2) here) (subst (λ (s : ItemSet). slice_get s.primary place' ≡ Some item) (sym c.2) there);
    once_coloured = λ option place place' o e f at here there same.
        let c = choice_for option o at in
        let d = c.0 in
        one_place (IsShownEdge x.puzzle x.shared d.pair) d.edges (is.edges option d c.1) place place' e f
        (subst (λ (s : ItemSet). slice_get s.coloured place ≡ Some e) (sym c.2) here) (subst (λ (s : ItemSet). slice_get s.coloured place' ≡ Some f) (sym c.2) there) same;
  }

  pub coloured_cover : IsColouredCover x
  coloured_cover = record {
    cover = is_cover;
    colours = λ option c e at here.
        let shown = (is.edges option c at).only e here in
        let colour = shown.colour in
        let below = colour_below x.puzzle c.pair.placement shown.side is.puzzle (option_pair x is option c.pair (c, at, refl)).legal in
        let given = given_below x.puzzle shown.edge is.puzzle c.pair.cell (colour_of x.puzzle c.pair.placement shown.side) below in
        omega (arith, colour, given);
  }

-- ---- only one

pairs_asymmetric : IsAsymmetric PairComesBefore
pairs_asymmetric x y p q =
    ⊎_elim
    (λ l. ⊎_elim (λ m. omega (arith, l, m)) (λ e. omega (arith, l, e.0)) q)
    (λ e. ⊎_elim (λ m. omega (arith, e.0, m)) (λ f. comes_before_asymmetric (tile_turn x.placement) (tile_turn y.placement) e.1 f.1) q)
    p

items_asymmetric : IsAsymmetric ItemComesBefore
items_asymmetric e f l m = omega (arith, l, m)

same_choices : (p : Task) (shared : List SharedEdge) (xs ys : List Choice) → map pair_of xs ≡ map pair_of ys → ((o : ℕ) (c : Choice) → slice_get xs o ≡ Some c → AreShownEdges p shared c.pair c.edges) → ((o : ℕ) (c : Choice) → slice_get ys o ≡ Some c → AreShownEdges p shared c.pair c.edges) → xs ≡ ys
same_choices p shared [] [] pairs h k = refl
same_choices p shared [] (d ∷ ys) pairs h k = absurd cc
same_choices p shared (c ∷ xs) [] pairs h k = absurd cc
same_choices p shared (c ∷ xs) (d ∷ ys) pairs h k =
    let first : c.pair ≡ d.pair = cc in
    let rest : map pair_of xs ≡ map pair_of ys = cc in
    let edges : c.edges ≡ d.edges = same_listing ItemComesBefore items_asymmetric (IsShownEdge p shared c.pair) c.edges d.edges (h 0 c refl) (subst (λ (q : Pair). AreShownEdges p shared q d.edges) (sym first) (k 0 d refl)) in
    let of : Pair → List Edge → Choice = λ q es. record { pair = q; edges = es } in
    ap (λ (z : Choice). z ∷ xs) (ap (λ q. of q c.edges) first ∙ ap (of d.pair) edges)
    ∙ ap (λ (zs : List Choice). d ∷ zs) (same_choices p shared xs ys rest (λ o e at. h (suc o) e at) (λ o e at. k (suc o) e at))

one_of_puzzle : (p : Task) (shared shared' : List SharedEdge) (options options' : List Choice) → IsCompiled (record { puzzle = p; shared = shared; options = options }) → IsCompiled (record { puzzle = p; shared = shared'; options = options' }) → (shared ≡ shared') × (options ≡ options')
one_of_puzzle p shared shared' options options' is js =
    let edges : shared ≡ shared' = same_listing (ByKey least_place) (by_key_asymmetric least_place) (IsSharedEdge p.board) shared shared' is.shared js.shared in
    let pairs = same_listing PairComesBefore pairs_asymmetric (IsOptionPair p) (map pair_of options) (map pair_of options') is.pairs js.pairs in
    (edges, same_choices p shared options options' pairs is.edges (λ o c at. subst (λ es. AreShownEdges p es c.pair c.edges) (sym edges) (js.edges o c at)))

pub only_one : (x : Compiled) → IsCompiled x → IsOnlyOne x
only_one x is y js e =
    let of : Task → List SharedEdge → List Choice → Compiled = λ p es os. record { puzzle = p; shared = es; options = os } in
    let moved : y ≡ of x.puzzle y.shared y.options = ap (λ p. of p y.shared y.options) e in
    let both = one_of_puzzle x.puzzle y.shared x.shared y.options x.options (subst IsCompiled moved js) is in
    moved ∙ ap (λ es. of x.puzzle es y.options) both.0 ∙ ap (of x.puzzle x.shared) both.1
