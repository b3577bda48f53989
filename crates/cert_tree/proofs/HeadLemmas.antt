-- Trees and their heads: each is read back from the other.
use Rattle.std.proofs.Common.{◌≡◌, ◌≢◌, ◌≤◌, ◌+◌, ◌-◌, ◌<◌, ℕ, zero, suc, List, [], ◌∷◌, ◌++◌, length, refl, ap, sym, ◌∙◌, subst, arith, append_assoc, length-append}
use Rattle.std.proofs.lemmas.List.{append-nil}
use Rattle.match_puzzle.specs.declared.items.Item.{Item}
use Rattle.match_puzzle.specs.declared.items.Item.TheVariants as items
use Rattle.cert_tree.specs.declared.heads.Head.{Head}
use Rattle.cert_tree.specs.declared.heads.Head.TheVariants as heads
use Rattle.cert_tree.specs.Tree.{Tree, Forest, branch, dead, found, same, image, none, more, count}
use Rattle.cert_tree.specs.Heads.{branch_head, dead_head, heads_of, heads_in, join, front, past, put, trees_in, arity, AreWhole, first, AreOfTree}
use Rattle.cert_tree.specs.HeadCode.{trees_in-heads_of, trees_in-heads_in}

-- ---- trees one after the other

pub count-join : (trees others : Forest) → count (join trees others) ≡ count trees + count others
count-join none others = omega arith
count-join (more tree trees) others = omega (arith, count-join trees others)

pub join-front-past : (n : ℕ) (trees : Forest) → join (front n trees) (past n trees) ≡ trees
join-front-past zero trees = refl
join-front-past (suc n) none = refl
join-front-past (suc n) (more tree trees) = ap (more tree) (join-front-past n trees)

pub count-front : (n : ℕ) (trees : Forest) → n ≤ count trees → count (front n trees) ≡ n
count-front zero trees le = refl
count-front (suc n) none le = absurd (omega arith)
count-front (suc n) (more tree trees) le = omega (arith, count-front n trees (omega arith))

-- the first of the first so many, and the others of these
pub front_first : (n m : ℕ) (trees : Forest) → n ≡ suc m → n ≤ count trees → front n trees ≡ more (first trees) (front m (past 1 trees))
front_first n m none is le = absurd (omega arith)
front_first n m (more tree trees) is le = ap (λ k. front k (more tree trees)) is

pub past_first : (n m : ℕ) (trees : Forest) → n ≡ suc m → n ≤ count trees → past n trees ≡ past m (past 1 trees)
past_first n m none is le = absurd (omega arith)
past_first n m (more tree trees) is le = ap (λ k. past k (more tree trees)) is

pub count_first : (n m : ℕ) (trees : Forest) → n ≡ suc m → n ≤ count trees → m ≤ count (past 1 trees)
count_first n m none is le = absurd (omega arith)
count_first n m (more tree trees) is le = omega arith

-- ---- unique reading: no tree's heads begin another's

pub heads_of-one : (tree other : Tree) (rest others : List Head) → heads_of tree ++ rest ≡ heads_of other ++ others → tree ≡ other
heads_of-one tree other rest others e =
    ap first (sym (trees_in-heads_of tree rest) ∙ ap trees_in e ∙ trees_in-heads_of other others)

append_left : (front : List Head) (a b : List Head) → front ++ a ≡ front ++ b → a ≡ b
append_left [] a b e = e
append_left (x ∷ front) a b e = append_left front a b cc

pub heads_of-rest : (tree other : Tree) (rest others : List Head) → heads_of tree ++ rest ≡ heads_of other ++ others → rest ≡ others
heads_of-rest tree other rest others e =
    append_left (heads_of other) rest others (subst (λ t. heads_of t ++ rest ≡ heads_of other ++ others) (heads_of-one tree other rest others e) e)

-- ---- which heads are those of trees

pub heads_in-join : (trees others : Forest) → heads_in (join trees others) ≡ heads_in trees ++ heads_in others
heads_in-join none others = refl
heads_in-join (more tree trees) others = ap (λ xs. heads_of tree ++ xs) (heads_in-join trees others) ∙ sym (append_assoc (heads_of tree) (heads_in trees) (heads_in others))

-- the heads of the first so many and of the others
heads_in-apart : (n : ℕ) (trees : Forest) → heads_in (front n trees) ++ heads_in (past n trees) ≡ heads_in trees
heads_in-apart n trees = sym (heads_in-join (front n trees) (past n trees)) ∙ ap heads_in (join-front-past n trees)

heads_in-put : (head : Head) (trees : Forest) → arity head ≤ count trees → heads_in (put head trees) ≡ head ∷ heads_in trees
heads_in-put (heads.Cell cell children) trees le =
    ap (λ n. heads.Cell cell n ∷ (heads_in (front children trees) ++ heads_in (past children trees))) (count-front children trees le)
    ∙ ap (λ xs. heads.Cell cell children ∷ xs) (heads_in-apart children trees)
heads_in-put (heads.Tile tile children) trees le =
    ap (λ n. heads.Tile tile n ∷ (heads_in (front children trees) ++ heads_in (past children trees))) (count-front children trees le)
    ∙ ap (λ xs. heads.Tile tile children ∷ xs) (heads_in-apart children trees)
heads_in-put (heads.DeadCell cell) trees le = refl
heads_in-put (heads.DeadTile tile) trees le = refl
heads_in-put (heads.Found number) trees le = refl
heads_in-put (heads.Same lemma) trees le = refl
heads_in-put (heads.Image symmetry lemma) trees le = refl

-- Where each head has its children, the heads are those of the trees that are read.
pub heads_in-trees_in : (list : List Head) → AreWhole list → heads_in (trees_in list) ≡ list
unfolding trees_in AreWhole
heads_in-trees_in [] whole = refl
heads_in-trees_in (head ∷ rest) whole = heads_in-put head (trees_in rest) whole.0 ∙ ap (λ xs. head ∷ xs) (heads_in-trees_in rest whole.1)

arity-branch : (item : Item) (children : Forest) (rest : List Head) → arity (branch_head item (count children)) ≤ count (trees_in (heads_in children ++ rest))
arity-branch (items.Cell cell) children rest = omega (arith, ap count (trees_in-heads_in children rest), count-join children (trees_in rest))
arity-branch (items.Tile tile) children rest = omega (arith, ap count (trees_in-heads_in children rest), count-join children (trees_in rest))

arity-dead : (item : Item) (n : ℕ) → arity (dead_head item) ≤ n
arity-dead (items.Cell cell) n = omega arith
arity-dead (items.Tile tile) n = omega arith

mutual
  unfolding AreWhole

  -- The heads of a tree are whole, where those after them are.
  pub whole-heads_of : (tree : Tree) (rest : List Head) → AreWhole rest → AreWhole (heads_of tree ++ rest)
  whole-heads_of (branch item children) rest whole = (arity-branch item children rest, whole-heads_in children rest whole)
  whole-heads_of (dead item) rest whole = (arity-dead item _, whole)
  whole-heads_of (found number) rest whole = (omega arith, whole)
  whole-heads_of (same lemma) rest whole = (omega arith, whole)
  whole-heads_of (image lemma symmetry) rest whole = (omega arith, whole)

  pub whole-heads_in : (trees : Forest) (rest : List Head) → AreWhole rest → AreWhole (heads_in trees ++ rest)
  whole-heads_in none rest whole = whole
  whole-heads_in (more tree trees) rest whole =
      subst AreWhole (sym (append_assoc (heads_of tree) (heads_in trees) rest)) (whole-heads_of tree (heads_in trees ++ rest) (whole-heads_in trees rest whole))

-- ---- the first head

pub head_first : (list : List Head) (head : Head) (rest : List Head) → list ≡ head ∷ rest → put head (trees_in rest) ≡ trees_in list
unfolding trees_in
head_first list head rest is = ap trees_in (sym is)

-- the rest, where the heads are whole
pub whole_rest : (list : List Head) (head : Head) (rest : List Head) → list ≡ head ∷ rest → AreWhole list → (arity head ≤ count (trees_in rest)) × AreWhole rest
unfolding AreWhole
whole_rest list head rest is whole = subst AreWhole is whole

-- where there is a tree there is a head
pub some_head : (list : List Head) → trees_in list ≢ none → 0 < length list
unfolding trees_in
some_head [] some = absurd (some refl)
some_head (head ∷ rest) some = omega arith

-- there are no more trees than heads
count-past : (n : ℕ) (trees : Forest) → count (past n trees) ≤ count trees
count-past zero trees = omega arith
count-past (suc n) none = omega arith
count-past (suc n) (more tree trees) = omega (arith, count-past n trees)

count-put : (head : Head) (trees : Forest) → count (put head trees) ≤ count trees + 1
count-put (heads.Cell cell children) trees = omega (arith, count-past children trees)
count-put (heads.Tile tile children) trees = omega (arith, count-past children trees)
count-put (heads.DeadCell cell) trees = omega arith
count-put (heads.DeadTile tile) trees = omega arith
count-put (heads.Found number) trees = omega arith
count-put (heads.Same lemma) trees = omega arith
count-put (heads.Image symmetry lemma) trees = omega arith

pub count-trees_in : (list : List Head) → count (trees_in list) ≤ length list
unfolding trees_in
count-trees_in [] = omega arith
count-trees_in (head ∷ rest) = omega (arith, count-put head (trees_in rest), count-trees_in rest)

-- ---- past a node

-- past so many trees, of which the first is opened
pub past-put : (n : ℕ) (head : Head) (trees : Forest) → past (suc n) (put head trees) ≡ past n (past (arity head) trees)
past-put n (heads.Cell cell children) trees = refl
past-put n (heads.Tile tile children) trees = refl
past-put n (heads.DeadCell cell) trees = refl
past-put n (heads.DeadTile tile) trees = refl
past-put n (heads.Found number) trees = refl
past-put n (heads.Same lemma) trees = refl
past-put n (heads.Image symmetry lemma) trees = refl

past-none : (n : ℕ) → past n none ≡ none
past-none zero = refl
past-none (suc n) = refl

past-past : (n m : ℕ) (trees : Forest) → past n (past m trees) ≡ past (m + n) trees
past-past n zero trees = let e : n ≡ zero + n = omega arith in ap (λ k. past k trees) e
past-past n (suc m) none = past-none n ∙ sym (past-none (suc m + n))
past-past n (suc m) (more tree trees) = let e : suc (m + n) ≡ suc m + n = omega arith in past-past n m trees ∙ ap (λ k. past k (more tree trees)) e

count-past-is : (n : ℕ) (trees : Forest) → n ≤ count trees → count (past n trees) + n ≡ count trees
count-past-is zero trees le = omega arith
count-past-is (suc n) none le = absurd (omega arith)
count-past-is (suc n) (more tree trees) le = omega (arith, count-past-is n trees (omega arith))

count-put-is : (head : Head) (trees : Forest) → arity head ≤ count trees → count (put head trees) + arity head ≡ count trees + 1
count-put-is (heads.Cell cell children) trees le = omega (arith, count-past-is children trees le)
count-put-is (heads.Tile tile children) trees le = omega (arith, count-past-is children trees le)
count-put-is (heads.DeadCell cell) trees le = omega arith
count-put-is (heads.DeadTile tile) trees le = omega arith
count-put-is (heads.Found number) trees le = omega arith
count-put-is (heads.Same lemma) trees le = omega arith
count-put-is (heads.Image symmetry lemma) trees le = omega arith

-- One step of going past trees: so many are left of old, and so many of new.
pub skips : (left next : ℕ) (old new : Forest) (head : Head) → 0 < left → left ≤ count old → put head new ≡ old → arity head ≤ count new → next ≡ left - 1 + arity head →
    (past next new ≡ past left old) × (next ≤ count new)
skips left next old new head some le is few e =
    let l : left ≡ suc (left - 1) = omega arith in
    let m : next ≡ arity head + (left - 1) = omega arith in
    let c : count (put head new) ≡ count old = ap count is in (
      ap (λ k. past k new) m ∙ sym (past-past (left - 1) (arity head) new) ∙ sym (past-put (left - 1) head new) ∙ ap (past (suc (left - 1))) is ∙ ap (λ k. past k old) (sym l),
      omega (arith, count-put-is head new few),
    )

-- how many nodes there are
abbrev pub nodes : Forest → ℕ
nodes trees = length (heads_in trees)

pub nodes-put : (head : Head) (old new : Forest) → put head new ≡ old → arity head ≤ count new → nodes new + 1 ≡ nodes old
nodes-put head old new is few = let e = ap length (heads_in-put head new few) in let c = ap nodes is in omega arith

pub nodes-past : (n : ℕ) (trees : Forest) → nodes (past n trees) ≤ nodes trees
nodes-past n trees =
    let apart = ap length (heads_in-apart n trees) in
    omega (arith, apart, length-append (heads_in (front n trees)) (heads_in (past n trees)))

pub some_counted : (trees : Forest) (n : ℕ) → 0 < n → n ≤ count trees → trees ≢ none
some_counted none n some le e = omega arith
some_counted (more tree trees) n some le e = cc

pub some_one : (trees : Forest) → trees ≢ none → 1 ≤ count trees
some_one none some = absurd (some refl)
some_one (more tree trees) some = omega arith

-- ---- the heads of one tree

-- what is behind the old heads is the tree's
pub of_tree : (tree : Tree) (list : List Head) → list ≡ heads_of tree → AreOfTree list × (first (trees_in list) ≡ tree)
of_tree tree list is =
    let nil : heads_of tree ++ [] ≡ heads_of tree = append-nil (heads_of tree) in
    let read : first (trees_in list) ≡ tree = ap (λ xs. first (trees_in xs)) (is ∙ sym nil) ∙ ap first (trees_in-heads_of tree []) in
    (is ∙ ap heads_of (sym read), read)

whole_nil : AreWhole []
unfolding AreWhole
whole_nil = tt

trees_in-nil : trees_in [] ≡ none
unfolding trees_in
trees_in-nil = refl

-- what a walk of the tree begins with
pub one_tree : (list : List Head) → AreOfTree list → (trees_in list ≡ more (first (trees_in list)) none) × AreWhole list
one_tree list is =
    let tree = first (trees_in list) in
    let nil : heads_of tree ++ [] ≡ heads_of tree = append-nil (heads_of tree) in
    (ap trees_in (is ∙ sym nil) ∙ trees_in-heads_of tree [] ∙ ap (more tree) trees_in-nil, subst AreWhole (nil ∙ sym is) (whole-heads_of tree [] whole_nil))
