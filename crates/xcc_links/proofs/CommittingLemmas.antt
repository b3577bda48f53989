-- An option hides what it excludes, node by node.
use Rattle.std.proofs.Common.{◌≡◌, ◌⊎◌, ◌<◌, ◌≤◌, ◌+◌, ℕ, Bool, true, false, List, [], ◌∷◌, ◌++◌, length, arith, ap, sym, ◌∙◌, subst, inl, inr, ⊎_elim, Result, Ok, Err, IfOk}
use Rattle.std.proofs.lemmas.Bool.{false_from_ne_true}
use Rattle.xcc_links.specs.Rings.{item_of, option_of, colour_of}
use Rattle.xcc_links.specs.NodeTables.{IsNodeTable, has, start_of}
use Rattle.xcc_links.specs.NodeClashes.{HasOtherColour, NodeClashes, CoversItem, ExcludesAt, Excludes}
use Rattle.xcc_links.specs.declared.links.tables.Entry.{Entry}
use Rattle.xcc_links.proofs.HidingLemmas.{has_last, has_cases}

pub if_ok : {A E : Type 0} (r : Result A E) (P Q : Type 0) → (P → Q) → IfOk r (λ _. P) → IfOk r (λ _. Q)
if_ok (Ok x) P Q f p = f p
if_ok (Err e) P Q f p = tt

module _ (takable items options : ℕ) (entries : List Entry) (starts : List ℕ) (table : IsNodeTable takable items options entries starts) where
  -- the entry of an item that options take
  module _ (m : ℕ) (can_take : item_of entries m < takable) (it : ℕ) (is : it ≡ item_of entries m) (t0 t1 t2 : List ℕ) (first : t1 ≡ t0 ++ (options + it) ∷ []) where
    pub takable_all : ((p : ℕ) → has t1 p ≡ true → has t2 p ≡ true) → ((p : ℕ) → HasOtherColour items entries it 255 p → has t2 p ≡ true) → (p : ℕ) → ExcludesAt takable items options entries m p → has t2 p ≡ true
    takable_all on cleared p b = ⊎_elim
        (λ (h : NodeClashes takable items entries m p). cleared p (record { node = h.node; from = h.from; to = h.to; option = h.option; there = h.item ∙ sym is; colour = λ e. let lt = table.coloured h.node in omega (arith, e, lt) }))
        (λ (h : CoversItem takable options entries m p). let e : p ≡ options + it = omega (arith, h.is, is) in on p (ap (has t1) e ∙ ap (λ t. has t (options + it)) first ∙ has_last t0 (options + it)))
        b

    pub takable_only : ((p : ℕ) → has t2 p ≡ true → (has t1 p ≡ true) ⊎ HasOtherColour items entries it 255 p) → (p : ℕ) → has t2 p ≡ true → (has t0 p ≡ true) ⊎ ExcludesAt takable items options entries m p
    takable_only only p e = ⊎_elim
        (λ (h : has t1 p ≡ true). ⊎_elim (λ x. inl x) (λ (s : p ≡ options + it). inr (inr (record { can_take = can_take; is = omega (arith, s, is) }))) (has_cases t0 (options + it) p (ap (λ t. has t p) (sym first) ∙ h)))
        (λ (d : HasOtherColour items entries it 255 p). inr (inl (record { node = d.node; from = d.from; to = d.to; option = d.option; item = d.there ∙ is; differ = inl can_take })))
        (only p e)

  -- the entry of a secondary item
  module _ (m : ℕ) (it colour : ℕ) (is : it ≡ item_of entries m) (is_colour : colour ≡ colour_of entries m) (high : takable ≤ it) where
    pub secondary_all : (p : ℕ) → ExcludesAt takable items options entries m p → HasOtherColour items entries it colour p
    secondary_all p b = ⊎_elim
        (λ (h : NodeClashes takable items entries m p). record { node = h.node; from = h.from; to = h.to; option = h.option; there = h.item ∙ sym is; colour = λ e. ⊎_elim (λ lt. omega (arith, lt, is, high)) (λ ne. ne (e ∙ is_colour)) h.differ })
        (λ (h : CoversItem takable options entries m p). let lt = h.can_take in absurd (omega (arith, lt, is, high)))
        b

    pub secondary_only : (p : ℕ) → HasOtherColour items entries it colour p → ExcludesAt takable items options entries m p
    secondary_only p d = inl (record { node = d.node; from = d.from; to = d.to; option = d.option; item = d.there ∙ is; differ = inr (λ e. d.colour (e ∙ sym is_colour)) })

  module _ (option : ℕ) (in_ : option < options) where
    pub exists : option + 1 < length starts
    exists = let e = table.starts_long in omega (arith, e, in_)

    module _ (n : ℕ) (from : start_of starts option ≤ n) (to : n < start_of starts (option + 1)) where
      pub node_from : items ≤ n
      node_from = let h = table.runs.low option (let e = exists in omega arith) in omega (arith, h, from)

      pub node_to : n < length entries
      node_to = let h = table.runs.high (option + 1) exists in omega (arith, h, to)

      pub node_of : option_of entries n ≡ option
      node_of = table.runs.inside option n exists from to

      pub real_item : item_of entries n + 1 < items
      real_item = let e = node_of in table.real n node_from node_to (omega (arith, e, in_))

    -- the item of a node isn't covered by a node before it
    pub not_yet : (n : ℕ) → start_of starts option ≤ n → n < start_of starts (option + 1) → (b : Bool) → ((b ≡ true) → (m : ℕ) × (start_of starts option ≤ m) × (m < n) × ExcludesAt takable items options entries m (options + item_of entries n)) → b ≡ false
    not_yet n from to b only = false_from_ne_true b (λ e. let w = only e in bad w.0 w.1 w.2 w.3)
      where
        bad : (m : ℕ) → start_of starts option ≤ m → m < n → ExcludesAt takable items options entries m (options + item_of entries n) → ⊥
        bad m mf mt h =
            let m_to : m < start_of starts (option + 1) = omega (arith, mt, to) in
            ⊎_elim
            (λ (h : NodeClashes takable items entries m (options + item_of entries n)).
            let r = table.rooted h.node h.from h.to (omega (arith, h.option)) in
            let i = real_item m mf m_to in
            omega (arith, r, i, h.item))
            (λ (h : CoversItem takable options entries m (options + item_of entries n)).
            let same : item_of entries m ≡ item_of entries n = omega (arith, h.is) in
            let e = table.once m n (node_from m mf m_to) (node_to m mf m_to) (node_from n from to) (node_to n from to) (node_of m mf m_to ∙ sym (node_of n from to)) same in
            omega (arith, e, mt))
            h

    pub all_barred : (t : List ℕ) → ((m : ℕ) → start_of starts option ≤ m → m < start_of starts (option + 1) → (p : ℕ) → ExcludesAt takable items options entries m p → has t p ≡ true) → (p : ℕ) → Excludes takable items options entries option p → has t p ≡ true
    all_barred t all p b =
        let r = table.runs.around b.node b.from b.to in
        all b.node (subst (λ o. start_of starts o ≤ b.node) b.option r.1) (subst (λ o. b.node < start_of starts (o + 1)) b.option r.2) p b.excludes

    pub only_barred : (p : ℕ) → (m : ℕ) × (start_of starts option ≤ m) × (m < start_of starts (option + 1)) × ExcludesAt takable items options entries m p → Excludes takable items options entries option p
    only_barred p w = record { node = w.0; from = node_from w.0 w.1 w.2; to = node_to w.0 w.1 w.2; option = node_of w.0 w.1 w.2; excludes = w.3 }
