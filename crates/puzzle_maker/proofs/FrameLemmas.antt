-- Colours on the sides of tiles, and the colour of a frame.
use Rattle.std.proofs.Common.{◌≡◌, ◌==◌, ◌<◌, ◌≤◌, ◌+◌, ◌∙◌, ℕ, List, count_by, get_or, length, take, ap, sym, subst, arith, ⊎_elim}
use Rattle.std.proofs.lemmas.Bool.Decides.{eqb_tells}
use Rattle.std.proofs.lemmas.List.Sums.{count_by_more_no, count_by_more_yes}
use Rattle.match_limits.proofs.Listings.{comes_before_asymmetric, same_listing}
use Rattle.match_limits.specs.Listing.{ComesBefore}
use Rattle.match_board.specs.Board.{IsBorderOrder, IsBorderPair}
use Rattle.match_board.specs.Borders.{one}
use Rattle.match_puzzle.specs.Puzzle.{Task}
use Rattle.puzzle_maker.specs.Like.{IsFrameOf, sides_showing}

-- one side more that shows the colour
pub one_more_on : (word : List ℕ) (side colour n : ℕ) → side < length word → n ≡ get_or word side 0 → n ≡ colour → count_by (λ shown. shown == colour) (take (side + 1) word) ≡ count_by (λ shown. shown == colour) (take side word) + 1
one_more_on word side colour n within read same =
    count_by_more_yes (λ shown. shown == colour) word side 0 within
    (⊎_elim (λ yes. yes.0) (λ no. absurd (no.1 (sym read ∙ same))) (eqb_tells (get_or word side 0) colour))

-- one side more that doesn't
pub none_more_on : (word : List ℕ) (side colour n : ℕ) → side < length word → n ≡ get_or word side 0 → (n ≡ colour → ⊥) → count_by (λ shown. shown == colour) (take (side + 1) word) ≡ count_by (λ shown. shown == colour) (take side word)
none_more_on word side colour n within read other =
    count_by_more_no (λ shown. shown == colour) word side 0 within
    (⊎_elim (λ yes. absurd (other (read ∙ yes.1))) (λ no. no.0) (eqb_tells (get_or word side 0) colour))

-- A colour on more sides than there are outer sides is that of no frame.
pub on_too_many : (m : Task) (c sides : ℕ) (pairs : List (ℕ × ℕ)) → m.border ≡ one c → IsBorderOrder m.board pairs → sides ≡ sides_showing c m → length pairs < sides → (colour : ℕ) → IsFrameOf m colour → ⊥
on_too_many m c sides pairs border order counted many colour is =
    let rule : one c ≡ one colour = sym border ∙ is.border in
    let same : c ≡ colour = cc in
    let few : sides_showing c m ≤ length is.outer = subst (λ k. sides_showing k m ≤ length is.outer) (sym same) is.few in
    let long = ap length (same_listing ComesBefore comes_before_asymmetric (λ n. IsBorderPair m.board n.0 n.1) is.outer pairs is.order order) in
    omega (arith, few, long, counted, many)
