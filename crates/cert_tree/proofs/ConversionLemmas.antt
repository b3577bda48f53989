-- Lemmas that are laid out flat, and built again.
use Rattle.std.proofs.Common.{◌≡◌, ◌<◌, ◌≤◌, ◌^◌, ℕ, zero, suc, List, [], ◌∷◌, ◌++◌, length, map, refl, ap, sym, subst, ◌∙◌, arith, append_assoc}
use Rattle.std.proofs.lemmas.List.{append-nil}
use Rattle.std.specs.Prelude.{All}
use Rattle.std.specs.Borrow.{Bor}
use Rattle.match_puzzle.specs.declared.items.Item.{Item}
use Rattle.cert_tree.specs.declared.heads.Head.{Head}
use Rattle.cert_tree.specs.declared.nodes.Node.{Node}
use Rattle.cert_tree.specs.declared.certificates.Lemma.{Lemma}
use Rattle.cert_tree.specs.Certificate.{Piece, piece_of}
use Rattle.cert_tree.specs.Tree.{Forest, branch, more, count, tree_of, forest_of, IsNarrow, AreNarrow}
use Rattle.cert_tree.specs.Heads.{branch_head, heads_of, heads_in, join, first, front, past}
use Rattle.cert_tree.specs.HeadCode.{join-none}
use Rattle.cert_tree.proofs.HeadLemmas.{front_first}
use Rattle.cert_tree.proofs.TreeLemmas.{count-forest_of}

-- a narrow branch has few children
pub few_children : (node : Node) (item : Item) (nodes : List Node) → tree_of node ≡ branch item (forest_of nodes) → IsNarrow (tree_of node) → length nodes < 2 ^ 32
few_children node item nodes is narrow = omega (arith, (subst IsNarrow is narrow).0, count-forest_of nodes)

-- the head of a branch, and then the heads of its children
pub heads_of_branch : (node : Node) (item : Item) (nodes children : List Node) (head : Head) → tree_of node ≡ branch item (forest_of nodes) → head ≡ branch_head item (length nodes) → children ≡ nodes → heads_of (tree_of node) ≡ head ∷ heads_in (forest_of children)
heads_of_branch node item nodes children head is at same =
    ap heads_of is ∙ ap (λ n. branch_head item n ∷ heads_in (forest_of nodes)) (count-forest_of nodes) ∙ ap (λ h. h ∷ heads_in (forest_of nodes)) (sym at)
    ∙ ap (λ ns. head ∷ heads_in (forest_of ns)) (sym same)

-- ---- what is left to lay out

-- The heads of what is left: those of the last nodes come first.
abbrev pub heads_left : List (Bor (List Node)) → List Head
heads_left [] = []
heads_left (nodes ∷ left) = heads_left left ++ heads_in (forest_of nodes.now)

heads_pushed : (left : List (Bor (List Node))) (nodes : Bor (List Node)) → heads_left (left ++ nodes ∷ []) ≡ heads_in (forest_of nodes.now) ++ heads_left left
heads_pushed [] nodes = sym (append-nil (heads_in (forest_of nodes.now)))
heads_pushed (first ∷ left) nodes = ap (λ heads. heads ++ heads_in (forest_of first.now)) (heads_pushed left nodes) ∙ append_assoc (heads_in (forest_of nodes.now)) (heads_left left) (heads_in (forest_of first.now))

-- the first node of the last ones: its head, and then what is left
pub head_put : (left : List (Bor (List Node))) (nodes others children : Bor (List Node)) (node : Node) (head : Head) → nodes.now ≡ node ∷ others.now → heads_of (tree_of node) ≡ head ∷ heads_in (forest_of children.now) →
    heads_left (left ++ nodes ∷ []) ≡ head ∷ heads_left ((left ++ others ∷ []) ++ children ∷ [])
head_put left nodes others children node head split is =
    let below = heads_in (forest_of children.now) in
    let beside = heads_in (forest_of others.now) in
    heads_pushed left nodes ∙ ap (λ ns. heads_in (forest_of ns) ++ heads_left left) split ∙ ap (λ hs. (hs ++ beside) ++ heads_left left) is
    ∙ ap (λ hs. head ∷ hs) (append_assoc below beside (heads_left left) ∙ ap (λ hs. below ++ hs) (sym (heads_pushed left others)) ∙ sym (heads_pushed (left ++ others ∷ []) children))

-- one head more
pub whole_put : (heads longer : List Head) (left next : List (Bor (List Node))) (head : Head) (whole : List Head) → longer ≡ heads ++ head ∷ [] → heads_left left ≡ head ∷ heads_left next → heads ++ heads_left left ≡ whole → longer ++ heads_left next ≡ whole
whole_put heads longer left next head whole pushed is so_far =
    ap (λ hs. hs ++ heads_left next) pushed ∙ append_assoc heads (head ∷ []) (heads_left next) ∙ ap (λ hs. heads ++ hs) (sym is) ∙ so_far

no_heads : (nodes : List Node) → length nodes ≡ 0 → heads_in (forest_of nodes) ≡ []
no_heads [] none = refl
no_heads (node ∷ nodes) none = absurd (omega (arith, none))

-- nothing of the last nodes
pub nothing_put : (left : List (Bor (List Node))) (nodes : Bor (List Node)) → length nodes.now ≡ 0 → heads_left (left ++ nodes ∷ []) ≡ heads_left left
nothing_put left nodes none = heads_pushed left nodes ∙ ap (λ hs. hs ++ heads_left left) (no_heads nodes.now none)

-- no branch that is left has 2^32 children or more
abbrev pub AreAllNarrow : List (Bor (List Node)) → Type 0
AreAllNarrow [] = Unit {0}
AreAllNarrow (nodes ∷ left) = AreNarrow (forest_of nodes.now) × AreAllNarrow left

pub narrow_pushed : (left : List (Bor (List Node))) (nodes : Bor (List Node)) → AreAllNarrow left → AreNarrow (forest_of nodes.now) → AreAllNarrow (left ++ nodes ∷ [])
narrow_pushed [] nodes narrow last = (last, narrow)
narrow_pushed (first ∷ left) nodes narrow last = (narrow.0, narrow_pushed left nodes narrow.1 last)

pub narrow_popped : (left : List (Bor (List Node))) (nodes : Bor (List Node)) → AreAllNarrow (left ++ nodes ∷ []) → AreAllNarrow left × AreNarrow (forest_of nodes.now)
narrow_popped [] nodes narrow = (narrow.1, narrow.0)
narrow_popped (first ∷ left) nodes narrow =
    let h = narrow_popped left nodes narrow.1 in
    ((narrow.0, h.0), h.1)

-- ---- nodes that are built

join-push : (nodes : List Node) (node : Node) (trees : Forest) → join (forest_of (nodes ++ node ∷ [])) trees ≡ join (forest_of nodes) (more (tree_of node) trees)
join-push [] node trees = refl
join-push (other ∷ nodes) node trees = ap (more (tree_of other)) (join-push nodes node trees)

-- one child more
pub child_built : (nodes : List Node) (node : Node) (trees after : Forest) (longer : List Node) (n left : ℕ) (whole : Forest) → n ≡ suc left → n ≤ count trees → after ≡ past 1 trees → longer ≡ nodes ++ node ∷ [] → tree_of node ≡ first trees →
    join (forest_of nodes) (front n trees) ≡ whole → join (forest_of longer) (front left after) ≡ whole
child_built nodes node trees after longer n left whole less le gone pushed is so_far =
    ap (λ ns. join (forest_of ns) (front left after)) pushed ∙ join-push nodes node (front left after)
    ∙ ap (λ tree. join (forest_of nodes) (more tree (front left after))) is ∙ ap (λ ts. join (forest_of nodes) (more (first trees) (front left ts))) gone
    ∙ ap (join (forest_of nodes)) (sym (front_first n left trees less le)) ∙ so_far

pub all_built : (nodes : List Node) (trees : Forest) (left : ℕ) (whole : Forest) → left ≡ 0 → join (forest_of nodes) (front left trees) ≡ whole → forest_of nodes ≡ whole
all_built nodes trees left whole none so_far = sym (join-none (forest_of nodes)) ∙ ap (λ k. join (forest_of nodes) (front k trees)) (sym none) ∙ so_far

-- ---- lemmas

pub short_pieces : (lemmas : List Lemma) → All (λ (lemma : Lemma). length lemma.prefix < 2 ^ 32) lemmas → All (λ (piece : Piece). length piece.prefix < 2 ^ 32) (map piece_of lemmas)
short_pieces [] short k d lt = absurd (omega (arith, lt))
short_pieces (l ∷ lemmas) short zero d lt = short 0 l (omega arith)
short_pieces (l ∷ lemmas) short (suc k) d lt = short_pieces lemmas (λ j e less. short (suc j) e (omega (arith, less))) k d (omega (arith, lt))
