-- Trees and their heads are turned alike, and assembled pieces are turned to those of a certificate.
use Rattle.std.proofs.Common.{◌≡◌, ◌<◌, ◌≤◌, ◌+◌, ◌-◌, ◌^◌, ℕ, zero, suc, true, nat_lt, if◌then◌else◌, List, [], ◌∷◌, ◌++◌, Some, Err, length, map, reverse, take, drop, get_or, set, slice_get, refl, sym, ap, ◌∙◌, arith}
use Rattle.std.specs.Prelude.{All, Contains}
use Rattle.std.proofs.lemmas.Bool.{lt-ltb}
use Rattle.std.proofs.lemmas.List.{map-append, length-map, length-reverse, reverse-append, length-drop, length-take-le, get_or-append_right, get_or-reverse, set-append_right}
use Rattle.std.proofs.lemmas.List.Elements.{All-nil, All-cons, All-append}
use Rattle.std.proofs.lemmas.Option.{slice_get_within, slice_get-get_or, get_or_from_slice_get}
use Rattle.std.proofs.Math.Seq.{take-append_seam, drop-append_seam}
use Rattle.match_limits.specs.declared.TheConstants.{MOST_ARRANGEMENTS, MOST_CELLS, MOST_LEMMAS}
use Rattle.match_limits.proofs.ListLemmas.{mapped_at}
use Rattle.cert_tree.specs.declared.faults.AssembleFault.{AssembleFault}
use Rattle.cert_tree.specs.declared.faults.AssembleFault.TheVariants.{Stranger, Double, Missing, Memory}
use Rattle.cert_tree.specs.Assembly.{IsAssembly, Assembles}
use Rattle.cert_tree.proofs.AssemblyLemmas.{assembled_all}
use Rattle.match_puzzle.specs.declared.items.Item.{Item}
use Rattle.match_puzzle.specs.declared.items.Item.TheVariants as items
use Rattle.match_board.specs.declared.symmetry_lines.SymmetryLine.{SymmetryLine}
use Rattle.cert_tree.specs.declared.heads.Head.{Head}
use Rattle.cert_tree.specs.Tree.{Tree, Forest, branch, dead, found, same, image, none, more, count}
use Rattle.cert_tree.specs.Heads.{branch_head, dead_head, heads_of, heads_in}
use Rattle.cert_tree.specs.Limits.{IsTreeWithin, AreTreesWithin, IsLemmaWithin}
use Rattle.cert_tree.specs.Certificate.{Piece, piece_number, IsNumbered}
use Rattle.piece_desk.specs.TurnedAssembly.{turned_tree, turned_forest, turned_piece, AssemblesTurned}
use Rattle.piece_desk.specs.TurnedHeads.{turned_head, IsFoundUpTo}

-- ---- the heads of a turned tree are its turned heads

count_turned : (c first : ℕ) (trees : Forest) → count (turned_forest c first trees) ≡ count trees
count_turned c first none = refl
count_turned c first (more tree trees) = ap (λ n. n + 1) (count_turned c first trees)

branch_turned : (c first : ℕ) (item : Item) (n : ℕ) → turned_head c first (branch_head item n) ≡ branch_head item n
branch_turned c first (items.Cell cell) n = refl
branch_turned c first (items.Tile tile) n = refl

dead_turned : (c first : ℕ) (item : Item) → turned_head c first (dead_head item) ≡ dead_head item
dead_turned c first (items.Cell cell) = refl
dead_turned c first (items.Tile tile) = refl

mutual
  pub heads_turned : (c first : ℕ) (tree : Tree) → map (turned_head c first) (heads_of tree) ≡ heads_of (turned_tree c first tree)
  heads_turned c first (branch item children) =
      ap (λ h. h ∷ map (turned_head c first) (heads_in children)) (branch_turned c first item (count children) ∙ ap (branch_head item) (sym (count_turned c first children)))
      ∙ ap (λ hs. branch_head item (count (turned_forest c first children)) ∷ hs) (heads_turned_in c first children)
  heads_turned c first (dead item) = ap (λ h. h ∷ []) (dead_turned c first item)
  heads_turned c first (found number) = refl
  heads_turned c first (same lemma) = refl
  heads_turned c first (image lemma symmetry) = refl

  heads_turned_in : (c first : ℕ) (trees : Forest) → map (turned_head c first) (heads_in trees) ≡ heads_in (turned_forest c first trees)
  heads_turned_in c first none = refl
  heads_turned_in c first (more tree trees) =
      map-append (turned_head c first) (heads_of tree) (heads_in trees)
      ∙ ap (λ hs. hs ++ map (turned_head c first) (heads_in trees)) (heads_turned c first tree)
      ∙ ap (λ hs. heads_of (turned_tree c first tree) ++ hs) (heads_turned_in c first trees)

-- ---- the arrangements of a tree that has a spelling

branch_below : (most : ℕ) (item : Item) (n : ℕ) → IsFoundUpTo most (branch_head item n)
branch_below most (items.Cell cell) n = tt
branch_below most (items.Tile tile) n = tt

dead_below : (most : ℕ) (item : Item) → IsFoundUpTo most (dead_head item)
dead_below most (items.Cell cell) = tt
dead_below most (items.Tile tile) = tt

abbrev Below : Head → Type 0
Below = IsFoundUpTo MOST_ARRANGEMENTS

alone : (head : Head) → Below head → All Below (head ∷ [])
alone head is = All-cons Below head [] is (All-nil Below)

mutual
  pub found_below : (cells room : ℕ) (tree : Tree) → IsTreeWithin cells room tree → All Below (heads_of tree)
  found_below cells zero tree fits = absurd fits
  found_below cells (suc room) (branch item children) fits =
      All-cons Below (branch_head item (count children)) (heads_in children) (branch_below MOST_ARRANGEMENTS item (count children)) (found_below_in cells room children fits.3)
  found_below cells (suc room) (dead item) fits = alone (dead_head item) (dead_below MOST_ARRANGEMENTS item)
  found_below cells (suc room) (found number) fits = alone _ (omega (arith, fits))
  found_below cells (suc room) (same lemma) fits = alone _ tt
  found_below cells (suc room) (image lemma symmetry) fits = alone _ tt

  found_below_in : (cells room : ℕ) (trees : Forest) → AreTreesWithin cells room trees → All Below (heads_in trees)
  found_below_in cells room none fits = All-nil Below
  found_below_in cells room (more tree trees) fits = All-append Below (heads_of tree) (heads_in trees) (found_below cells room tree fits.0) (found_below_in cells room trees fits.1)

-- ---- the elements from a place on, one after the other

-- the first so many are changed
abbrev changed : {X : Type 0} → (X → X) → ℕ → List X → List X
changed f n xs = map f (take n xs) ++ drop n xs

changed_at : {X : Type 0} (f : X → X) (xs : List X) (n : ℕ) (d : X) → n < length xs → get_or (changed f n xs) n d ≡ get_or xs n d
changed_at f [] n d lt = absurd (omega (arith, lt))
changed_at f (x ∷ xs) zero d lt = refl
changed_at f (x ∷ xs) (suc n) d lt = changed_at f xs n d (omega (arith, lt))

changed_more : {X : Type 0} (f : X → X) (xs : List X) (n : ℕ) (d : X) → n < length xs → set (changed f n xs) n (f (get_or xs n d)) ≡ changed f (suc n) xs
changed_more f [] n d lt = absurd (omega (arith, lt))
changed_more f (x ∷ xs) zero d lt = refl
changed_more f (x ∷ xs) (suc n) d lt = ap (λ ys. f x ∷ ys) (changed_more f xs n d (omega (arith, lt)))

-- those before the start stay, and so many from there on are changed
abbrev pub changed_from : {X : Type 0} → (X → X) → (start n : ℕ) → List X → List X
changed_from f start n xs = take start xs ++ changed f n (drop start xs)

module _ {X : Type 0} (f : X → X) (xs : List X) (start place : ℕ) (d : X) (some : start ≤ place) (lt : place < length xs) where
  before : length (take start xs) ≡ start
  before = length-take-le start xs (omega (arith, some, lt))

  within : place - start < length (drop start xs)
  within = omega (arith, length-drop start xs, some, lt)

  pub unchanged_at : get_or (changed_from f start (place - start) xs) place d ≡ get_or (drop start xs) (place - start) d
  unchanged_at = get_or-append_right (take start xs) (changed f (place - start) (drop start xs)) start place d before some ∙ changed_at f (drop start xs) (place - start) d within

  pub changed_next : set (changed_from f start (place - start) xs) place (f (get_or (drop start xs) (place - start) d)) ≡ changed_from f start (place + 1 - start) xs
  changed_next =
      set-append_right (take start xs) (changed f (place - start) (drop start xs)) start place (f (get_or (drop start xs) (place - start) d)) before some
      ∙ ap (λ ys. take start xs ++ ys) (changed_more f (drop start xs) (place - start) d within)
      ∙ ap (λ n. changed_from f start n xs) (let e : suc (place - start) ≡ place + 1 - start = omega (arith, some) in e)

-- the heads of a tree that was put behind others are turned
pub turned_behind : (c first : ℕ) (tree : Tree) (old put turned : List Head) (start : ℕ) → start ≡ length old → put ≡ old ++ heads_of tree → turned ≡ take start put ++ map (turned_head c first) (drop start put)
    → turned ≡ old ++ heads_of (turned_tree c first tree)
turned_behind c first tree old put turned start at behind is =
    let before : take start put ≡ old = ap (λ xs. take start xs) behind ∙ ap (λ n. take n (old ++ heads_of tree)) at ∙ take-append_seam old (heads_of tree) in
    let after : drop start put ≡ heads_of tree = ap (λ xs. drop start xs) behind ∙ ap (λ n. drop n (old ++ heads_of tree)) at ∙ drop-append_seam old (heads_of tree) in
    is ∙ ap (λ xs. xs ++ map (turned_head c first) (drop start put)) before ∙ ap (λ xs. old ++ map (turned_head c first) xs) after ∙ ap (λ xs. old ++ xs) (heads_turned c first tree)

-- ---- pieces that are turned

-- what stands among turned pieces
turned_at : (count : ℕ) (first : List ℕ) (ys : List Piece) (n : ℕ) (x : Piece) → slice_get (reverse (map (turned_piece count first) ys)) n ≡ Some x → (y : Piece) × (slice_get ys (length ys - 1 - n) ≡ Some y) × (x ≡ turned_piece count first y) × (n < length ys)
turned_at count first ys n x at =
    let xs = map (turned_piece count first) ys in
    let long : length xs ≡ length ys = length-map ys (turned_piece count first) in
    let lt : n < length ys = omega (arith, slice_get_within (reverse xs) n x at, length-reverse xs, long) in
    let there : get_or xs (length xs - 1 - n) x ≡ x = sym (get_or-reverse xs n x (omega (arith, lt, long))) ∙ get_or_from_slice_get (reverse xs) n x x at in
    let found : slice_get xs (length ys - 1 - n) ≡ Some x = ap (λ l. slice_get xs (l - 1 - n)) (sym long) ∙ slice_get-get_or xs (length xs - 1 - n) x (omega (arith, lt, long)) ∙ ap Some there in
    let y = mapped_at (turned_piece count first) ys (length ys - 1 - n) x found in
    (y.0, y.1, y.2, lt)

-- A certificate may be made of them.
pub turned_numbered : (count : ℕ) (first : List ℕ) (symmetries : List SymmetryLine) (pieces ys : List Piece) → count ≤ MOST_LEMMAS → length symmetries < 2 ^ 32 → All (IsLemmaWithin MOST_CELLS) pieces → IsAssembly piece_number count pieces ys
    → IsNumbered (record { symmetries = symmetries; lemmas = reverse (map (turned_piece count first) ys) })
turned_numbered count first symmetries pieces ys few few_symmetries within is = record {
  numbered = λ n x at.
      let y = turned_at count first ys n x at in
      let number : y.0.number ≡ count - 1 - n = (is.only (length ys - 1 - n) y.0 y.1).number ∙ ap (λ l. l - 1 - n) is.many in
      let lt : n < count = omega (arith, y.3, is.many) in
      let below : nat_lt y.0.number count ≡ true = lt-ltb y.0.number count (omega (arith, number, lt)) in
      ap (λ (p : Piece). p.number) y.2 ∙ ap (λ t. if t then count - 1 - y.0.number else y.0.number) below ∙ omega (arith, number, lt);
  few_lemmas = omega (arith, length-reverse (map (turned_piece count first) ys), length-map ys (turned_piece count first), is.many, few);
  few_symmetries = few_symmetries;
  prefixes = λ n x at.
      let y = turned_at count first ys n x at in
      let fits = assembled_all piece_number (IsLemmaWithin MOST_CELLS) count pieces ys within is (length ys - 1 - n) y.0 y.1 in
      let same = ap (λ (p : Piece). length p.prefix) y.2 in
      omega (arith, same, fits.few_pairs);
}

-- the first fault, as of pieces that aren't turned
pub turned_fault : (count : ℕ) (first : List ℕ) (pieces : List Piece) (fault : AssembleFault) → Assembles piece_number count pieces (Err fault) → AssemblesTurned count first pieces (Err fault)
turned_fault count first pieces (Stranger n) is = is
turned_fault count first pieces (Double n) is = is
turned_fault count first pieces (Missing n) is = is
turned_fault count first pieces Memory is = is

-- ---- a list from its end

pub contains_reversed : {X : Type 0} (xs : List X) (x : X) → Contains (reverse xs) x → Contains xs x
contains_reversed xs x at =
    let lt : at.0 < length xs = omega (arith, at.1, length-reverse xs) in
    (length xs - 1 - at.0, omega (arith, lt), sym (get_or-reverse xs at.0 x lt) ∙ at.2)

pub map_reversed : {X Y : Type 0} (f : X → Y) (xs : List X) → map f (reverse xs) ≡ reverse (map f xs)
map_reversed f [] = refl
map_reversed f (x ∷ xs) =
    ap (map f) (reverse-append (x ∷ []) xs) ∙ map-append f (reverse xs) (x ∷ []) ∙ ap (λ ys. ys ++ f x ∷ []) (map_reversed f xs) ∙ sym (reverse-append (f x ∷ []) (map f xs))
