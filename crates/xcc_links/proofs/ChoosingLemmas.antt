-- The states before each choice.
use Rattle.std.proofs.Common.{true≢false, ◌≡◌, ◌⊎◌, ◌<◌, ◌≤◌, ◌+◌, ◌-◌, ℕ, zero, suc, true, false, Some, List, [], ◌∷◌, ◌++◌, Contains, length, take, drop, get_or, arith, refl, ap, sym, ◌∙◌, subst, inl, inr, ⊎_elim, length-append, length-take}
use Rattle.std.proofs.Common.{Result, Ok, Err, IfOk, OnErr, is_err}
use Rattle.std.proofs.lemmas.Bool.{cases_lt, false_from_ne_true}
use Rattle.std.proofs.lemmas.List.{get_or_append_left, get_or_at, get_or_past, get_or_default, get_or-take, take-append-le, take_all, drop_all, drop-append-le, take-append-drop, take-take, length-take-le}
use Rattle.std.proofs.lemmas.List.Elements.{Contains-append_left, Contains-append_right, Contains-append_cases, Contains-get_or}
use Rattle.xcc_links.specs.declared.links.tables.Entry.{Entry}
use Rattle.xcc_links.specs.Rings.{item_of}
use Rattle.xcc_links.specs.Trails.{Arrays, put_back, back, LeadsBack}
use Rattle.xcc_links.specs.NodeTables.{IsNodeTable, has, start_of}
use Rattle.xcc_links.specs.NodeClashes.{NodeClashes, CoversItem, Excludes, NodesClash}
use Rattle.xcc_links.specs.Marks.{mark_of, arrays_before, HidesJust, AreRightFor, WereAlwaysRight}
use Rattle.xcc_form.specs.Options.{Compiled}
use Rattle.xcc_links.specs.LinkStates.{LinkState, taken_back}
use Rattle.xcc_links.proofs.TrailLemmas.{back_append, goes_back, goes_take}
use Rattle.xcc_links.proofs.CommittingLemmas.{node_from, node_to, node_of}

-- the state with these parts
abbrev pub state_with : (x : Compiled) (entries : List Entry) (starts : List ℕ) → Arrays → (trail marks chosen : List ℕ) → LinkState
state_with x entries starts a trail marks chosen = record { compiled = x; chosen = chosen; entries = entries; starts = starts; arrays = a; trail = trail; marks = marks }

pub same_state : (x : Compiled) (entries : List Entry) (starts : List ℕ) {a a' : Arrays} {t t' m m' c c' : List ℕ} → a ≡ a' → t ≡ t' → m ≡ m' → c ≡ c' → state_with x entries starts a t m c ≡ state_with x entries starts a' t' m' c'
same_state x entries starts ea et em ec = λ i. state_with x entries starts (ea i) (et i) (em i) (ec i)

-- Marks rise up to the trail's length.
module _ (trail : List ℕ) (marks : List ℕ) (rising : (k : ℕ) → k < length marks → mark_of trail marks k ≤ mark_of trail marks (k + 1)) where
  pub marks_rise : (d k : ℕ) → k + d ≤ length marks → mark_of trail marks k ≤ mark_of trail marks (k + d)
  marks_rise zero k le = let e : k ≡ k + 0 = omega arith in subst (λ n. mark_of trail marks k ≤ mark_of trail marks n) e (omega arith)
  marks_rise (suc d) k le =
      let h = marks_rise d k (omega arith) in
      let s = rising (k + d) (omega arith) in
      let e : (k + d) + 1 ≡ k + suc d = omega arith in
      subst (λ n. mark_of trail marks k ≤ mark_of trail marks n) e (omega (arith, h, s))

  pub marks_to : (k j : ℕ) → k ≤ j → j ≤ length marks → mark_of trail marks k ≤ mark_of trail marks j
  marks_to k j le in_ = let e : k + (j - k) ≡ j = omega arith in subst (λ n. mark_of trail marks k ≤ mark_of trail marks n) e (marks_rise (j - k) k (omega arith))

  pub marks_in : (k : ℕ) → k ≤ length marks → mark_of trail marks k ≤ length trail
  marks_in k le = subst (λ n. mark_of trail marks k ≤ n) (get_or_past marks (length marks) (length trail) (omega arith)) (marks_to k (length marks) le (omega arith))

-- What a choice adds.
module _ (trail trail' : List ℕ) (marks : List ℕ) where
  pub mark_kept : (k : ℕ) → k ≤ length marks → mark_of trail' (marks ++ length trail ∷ []) k ≡ mark_of trail marks k
  mark_kept k le = ⊎_elim
      (λ (lt : k < length marks). get_or_append_left marks (length trail ∷ []) (length trail') k lt ∙ get_or_default marks k (length trail') (length trail) lt)
      (λ (ge : length marks ≤ k). get_or_at marks (length trail) [] (length trail') k (omega arith) ∙ sym (get_or_past marks k (length trail) ge))
      (cases_lt k (length marks))

  pub mark_new : mark_of trail' (marks ++ length trail ∷ []) (length marks + 1) ≡ length trail'
  mark_new = get_or_past (marks ++ length trail ∷ []) (length marks + 1) (length trail') (omega (arith, length-append marks (length trail ∷ [])))

one : (x o : ℕ) → Contains (x ∷ []) o → o ≡ x
one x o w = let z : w.0 ≡ 0 = omega (arith, w.1) in sym w.2 ∙ ap (λ n. get_or (x ∷ []) n o) z

module _ (takable items options : ℕ) (entries : List Entry) (starts : List ℕ) where
  right_at : (c c' : List ℕ) (a a' : Arrays) (t t' : List ℕ) → c' ≡ c → a' ≡ a → t' ≡ t → AreRightFor takable items options entries starts c a t → AreRightFor takable items options entries starts c' a' t'
  right_at c c' a a' t t' ec ea et h =
      subst (λ x. AreRightFor takable items options entries starts x a' t') (sym ec)
      (subst (λ x. AreRightFor takable items options entries starts c x t') (sym ea)
      (subst (λ x. AreRightFor takable items options entries starts c a x) (sym et) h))

  module _ (a a' : Arrays) (trail trail' marks chosen : List ℕ) (all : WereAlwaysRight takable items options entries starts a trail marks chosen) (goes : LeadsBack (put_back entries starts) a trail a' trail') where
    in_marks : (k : ℕ) → k ≤ length chosen → k ≤ length marks
    in_marks k le = omega (arith, all.as_many)

    pub before_kept : (k : ℕ) → k ≤ length chosen → arrays_before entries starts a' trail' (marks ++ length trail ∷ []) k ≡ arrays_before entries starts a trail marks k
    before_kept k le =
        ap (λ n. back (put_back entries starts) (drop n trail') a') (mark_kept trail trail' marks k (in_marks k le)) ∙ goes_back (put_back entries starts) a trail a' trail' (mark_of trail marks k) goes (marks_in trail marks all.rising k (in_marks k le))

    trail_kept : (k : ℕ) → k ≤ length chosen → take (mark_of trail' (marks ++ length trail ∷ []) k) trail' ≡ take (mark_of trail marks k) trail
    trail_kept k le =
        ap (λ n. take n trail') (mark_kept trail trail' marks k (in_marks k le)) ∙ goes_take (put_back entries starts) a trail a' trail' (mark_of trail marks k) goes (marks_in trail marks all.rising k (in_marks k le))

    pub all_right_more : (option : ℕ) → option < options → ((o : ℕ) → Contains chosen o → NodesClash takable items entries o option → ⊥) → AreRightFor takable items options entries starts (chosen ++ option ∷ []) a' trail' → WereAlwaysRight takable items options entries starts a' trail' (marks ++ length trail ∷ []) (chosen ++ option ∷ [])
    all_right_more option in_ free now = record {
      as_many = length-append marks (length trail ∷ []) ∙ ap (λ n. n + 1) all.as_many ∙ sym (length-append chosen (option ∷ []));
      rising = λ k lt. rises k (omega (arith, length-append marks (length trail ∷ [])));
      real = λ o among. ⊎_elim (all.real o) (λ w. let e = one option o w in omega (arith, e, in_)) (Contains-append_cases chosen (option ∷ []) o among);
      apart = λ i j d lt jt. apart2 i j d lt (omega (arith, jt, length-append chosen (option ∷ [])));
      right = λ k le. rights k (cases_lt (length chosen) k) (omega (arith, length-append chosen (option ∷ [])));
    }
      where
        apart2 : (i j d : ℕ) → i < j → j < length chosen + 1 → NodesClash takable items entries (get_or (chosen ++ option ∷ []) i d) (get_or (chosen ++ option ∷ []) j d) → ⊥
        apart2 i j d lt jt h =
            let li : i < length chosen = omega (arith, lt, jt) in
            let h2 = subst (λ o. NodesClash takable items entries o (get_or (chosen ++ option ∷ []) j d)) (get_or_append_left chosen (option ∷ []) d i li) h in
            ⊎_elim
            (λ (l : j < length chosen). all.apart i j d lt l (subst (λ o. NodesClash takable items entries (get_or chosen i d) o) (get_or_append_left chosen (option ∷ []) d j l) h2))
            (λ (g : length chosen ≤ j). free (get_or chosen i d) (Contains-get_or chosen i d li) (subst (λ o. NodesClash takable items entries (get_or chosen i d) o) (get_or_at chosen option [] d j (omega (arith, g, jt))) h2))
            (cases_lt j (length chosen))

        longer : length trail ≤ length trail'
        longer = omega (arith, ap length goes.longer, length-append trail goes.more)

        rises : (k : ℕ) → k ≤ length marks → mark_of trail' (marks ++ length trail ∷ []) k ≤ mark_of trail' (marks ++ length trail ∷ []) (k + 1)
        rises k le = ⊎_elim
            (λ (lt : k < length marks). let x = mark_kept trail trail' marks k le in let b = mark_kept trail trail' marks (k + 1) (omega arith) in let r = all.rising k lt in omega (arith, x, b, r))
            (λ (ge : length marks ≤ k). let e : length marks ≡ k = omega arith in let x = mark_kept trail trail' marks k le in let p = get_or_past marks k (length trail) ge in let b = subst (λ n. mark_of trail' (marks ++ length trail ∷ []) (n + 1) ≡ length trail') e (mark_new trail trail' marks) in omega (arith, x, b, p, longer))
            (cases_lt k (length marks))

        rights : (k : ℕ) → (length chosen < k) ⊎ (k ≤ length chosen) → k ≤ length chosen + 1 → AreRightFor takable items options entries starts (take k (chosen ++ option ∷ [])) (arrays_before entries starts a' trail' (marks ++ length trail ∷ []) k) (take (mark_of trail' (marks ++ length trail ∷ []) k) trail')
        rights k (inl lt) le =
            let e : length marks + 1 ≡ k = omega (arith, all.as_many) in
            let m = subst (λ n. mark_of trail' (marks ++ length trail ∷ []) n ≡ length trail') e (mark_new trail trail' marks) in
            right_at _ _ _ _ _ _
            (take_all k (chosen ++ option ∷ []) (omega (arith, length-append chosen (option ∷ []))))
            (ap (λ n. back (put_back entries starts) (drop n trail') a') m ∙ ap (λ t. back (put_back entries starts) t a') (drop_all (length trail') trail' (omega arith)))
            (ap (λ n. take n trail') m ∙ take_all (length trail') trail' (omega arith))
            now
        rights k (inr in_) le = right_at _ _ _ _ _ _ (take-append-le k chosen (option ∷ []) in_) (before_kept k in_) (trail_kept k in_) (all.right k in_)

    -- What stood before the choice stands where it is taken back.
    pub back_before : (x : Compiled) (option : ℕ) (now : LinkState) → now ≡ state_with x entries starts a' trail' (marks ++ length trail ∷ []) (chosen ++ option ∷ []) → taken_back now ≡ state_with x entries starts a trail marks chosen
    back_before x option now e =
        let last : length (chosen ++ option ∷ []) - 1 ≡ length chosen = omega (arith, length-append chosen (option ∷ [])) in
        let m : mark_of trail' (marks ++ length trail ∷ []) (length chosen) ≡ length trail = mark_kept trail trail' marks (length chosen) (in_marks (length chosen) (omega arith)) ∙ get_or_past marks (length chosen) (length trail) (omega (arith, all.as_many)) in
        let m2 : mark_of trail' (marks ++ length trail ∷ []) (length (chosen ++ option ∷ []) - 1) ≡ length trail = ap (mark_of trail' (marks ++ length trail ∷ [])) last ∙ m in
        ap taken_back e
        ∙ same_state x entries starts
        (ap (λ n. back (put_back entries starts) (drop n trail') a') m2 ∙ goes_back (put_back entries starts) a trail a' trail' (length trail) goes (omega arith) ∙ ap (λ t. back (put_back entries starts) t a) (drop_all (length trail) trail (omega arith)))
        (ap (λ n. take n trail') m2 ∙ goes_take (put_back entries starts) a trail a' trail' (length trail) goes (omega arith) ∙ take_all (length trail) trail (omega arith))
        (ap (λ n. take n (marks ++ length trail ∷ [])) last ∙ take-append-le (length chosen) marks (length trail ∷ []) (omega (arith, all.as_many)) ∙ take_all (length chosen) marks (omega (arith, all.as_many)))
        (ap (λ n. take n (chosen ++ option ∷ [])) last ∙ take-append-le (length chosen) chosen (option ∷ []) (omega arith) ∙ take_all (length chosen) chosen (omega arith))

  -- What taking back leaves; last is the number of choices that are left.
  module _ (a : Arrays) (trail marks chosen : List ℕ) (all : WereAlwaysRight takable items options entries starts a trail marks chosen) (last : ℕ) (is : last + 1 ≡ length chosen) (mark : ℕ) (mark_is : mark ≡ mark_of trail marks last) where
    pub mark_in : mark ≤ length trail
    mark_in = subst (λ n. n ≤ length trail) (sym mark_is) (marks_in trail marks all.rising last (omega (arith, all.as_many)))

    mark_left : (k : ℕ) → k ≤ last → mark_of (take mark trail) (take last marks) k ≡ mark_of trail marks k
    mark_left k le = ⊎_elim
        (λ (lt : k < last). get_or-take last marks k (length (take mark trail)) lt ∙ get_or_default marks k (length (take mark trail)) (length trail) (omega (arith, all.as_many)))
        (λ (ge : last ≤ k). let e : last ≡ k = omega arith in get_or_past (take last marks) k (length (take mark trail)) (omega (arith, length-take last marks)) ∙ length-take-le mark trail mark_in ∙ mark_is ∙ ap (mark_of trail marks) e)
        (cases_lt k last)

    lower : (k : ℕ) → k ≤ last → mark_of trail marks k ≤ mark
    lower k le = let h = marks_to trail marks all.rising k last le (omega (arith, all.as_many)) in omega (arith, h, mark_is)

    pub before_left : (k : ℕ) → k ≤ last → arrays_before entries starts (back (put_back entries starts) (drop mark trail) a) (take mark trail) (take last marks) k ≡ arrays_before entries starts a trail marks k
    before_left k le =
        let m = mark_of trail marks k in
        let low : m ≤ length (take mark trail) = let h = lower k le in omega (arith, h, length-take-le mark trail mark_in) in
        ap (λ n. back (put_back entries starts) (drop n (take mark trail)) (back (put_back entries starts) (drop mark trail) a)) (mark_left k le)
        ∙ sym (back_append (put_back entries starts) (drop m (take mark trail)) (drop mark trail) a)
        ∙ ap (λ t. back (put_back entries starts) t a) (sym (drop-append-le m (take mark trail) (drop mark trail) low))
        ∙ ap (λ t. back (put_back entries starts) (drop m t) a) (take-append-drop mark trail)

    trail_left : (k : ℕ) → k ≤ last → take (mark_of (take mark trail) (take last marks) k) (take mark trail) ≡ take (mark_of trail marks k) trail
    trail_left k le = ap (λ n. take n (take mark trail)) (mark_left k le) ∙ take-take (mark_of trail marks k) mark trail (lower k le)

    pub all_right_less : WereAlwaysRight takable items options entries starts (back (put_back entries starts) (drop mark trail) a) (take mark trail) (take last marks) (take last chosen)
    all_right_less = record {
      as_many = length-take-le last marks (omega (arith, all.as_many)) ∙ sym (length-take-le last chosen (omega arith));
      rising = λ k lt. let lt2 : k < last = omega (arith, length-take last marks) in let x = mark_left k (omega arith) in let b = mark_left (k + 1) (omega arith) in let r = all.rising k (omega (arith, all.as_many)) in omega (arith, x, b, r);
      real = λ o among. all.real o (subst (λ l. Contains l o) (take-append-drop last chosen) (Contains-append_left (take last chosen) (drop last chosen) o among));
      apart = λ i j d lt jt h. let jl : j < last = omega (arith, jt, length-take last chosen) in all.apart i j d lt (omega (arith, jl, is)) (subst (λ o. NodesClash takable items entries o (get_or chosen j d)) (get_or-take last chosen i d (omega (arith, jl, lt))) (subst (λ o. NodesClash takable items entries (get_or (take last chosen) i d) o) (get_or-take last chosen j d jl) h));
      right = λ k le. let in_ : k ≤ last = omega (arith, length-take last chosen) in right_at _ _ _ _ _ _ (take-take k last chosen in_) (before_left k in_) (trail_left k in_) (all.right k (omega arith));
    }

  -- Arrays that were always right are so at equal arrays and lists too.
  pub moved : (a a' : Arrays) (t t' m m' c c' : List ℕ) → a' ≡ a → t' ≡ t → m' ≡ m → c' ≡ c → WereAlwaysRight takable items options entries starts a t m c → WereAlwaysRight takable items options entries starts a' t' m' c'
  moved a a' t t' m m' c c' ea et em ec h =
      subst (λ x. WereAlwaysRight takable items options entries starts x t' m' c') (sym ea) (subst (λ x. WereAlwaysRight takable items options entries starts a x m' c') (sym et) (subst (λ x. WereAlwaysRight takable items options entries starts a t x c') (sym em) (subst (λ x. WereAlwaysRight takable items options entries starts a t m x) (sym ec) h)))

  -- The arrays are right now.
  pub current : (a : Arrays) (trail marks chosen : List ℕ) → WereAlwaysRight takable items options entries starts a trail marks chosen → AreRightFor takable items options entries starts chosen a trail
  current a trail marks chosen all =
      let m : mark_of trail marks (length chosen) ≡ length trail = get_or_past marks (length chosen) (length trail) (omega (arith, all.as_many)) in
      right_at _ _ _ _ _ _
      (sym (take_all (length chosen) chosen (omega arith)))
      (sym (ap (λ n. back (put_back entries starts) (drop n trail) a) m ∙ ap (λ t. back (put_back entries starts) t a) (drop_all (length trail) trail (omega arith))))
      (sym (ap (λ n. take n trail) m ∙ take_all (length trail) trail (omega arith)))
      (all.right (length chosen) (omega arith))

  -- An option that clashes with none chosen is chosen.
  module _ (table : IsNodeTable takable items options entries starts) (chosen trail : List ℕ) (hides : HidesJust takable items options entries chosen trail) (real : (o : ℕ) → Contains chosen o → o < options) (option : ℕ) (in_ : option < options) (free : (o : ℕ) → Contains chosen o → NodesClash takable items entries o option → ⊥) where
    pub uncovered : (n : ℕ) → start_of starts option ≤ n → n < start_of starts (option + 1) → item_of entries n < takable → has trail (options + item_of entries n) ≡ false
    uncovered n from to can_take = false_from_ne_true (has trail (options + item_of entries n)) (λ e. let w = hides.only (options + item_of entries n) e in bad w.by w.among w.excludes)
      where
        bad : (o : ℕ) → Contains chosen o → Excludes takable items options entries o (options + item_of entries n) → ⊥
        bad o among b = ⊎_elim
            (λ (h : NodeClashes takable items entries b.node (options + item_of entries n)).
            let r = table.rooted h.node h.from h.to (omega (arith, h.option)) in
            let i = table.real b.node b.from b.to (let lt = real o among in omega (arith, b.option, lt)) in
            omega (arith, r, i, h.item))
            (λ (h : CoversItem takable options entries b.node (options + item_of entries n)).
            let same : item_of entries b.node ≡ item_of entries n = omega (arith, h.is) in
            free o among (record {
              node = b.node;
              from = b.from;
              to = b.to;
              option = b.option;
              clashes = record { node = n; from = node_from takable items options entries starts table option in_ n from to; to = node_to takable items options entries starts table option in_ n from to; option = node_of takable items options entries starts table option in_ n from to; item = sym same; differ = inl h.can_take };
            }))
            b.excludes

    pub hides_more : (trail' : List ℕ) → ((p : ℕ) → has trail p ≡ true → has trail' p ≡ true) → ((p : ℕ) → Excludes takable items options entries option p → has trail' p ≡ true) → ((p : ℕ) → has trail' p ≡ true → (has trail p ≡ true) ⊎ Excludes takable items options entries option p) → HidesJust takable items options entries (chosen ++ option ∷ []) trail'
    hides_more trail' on all only = record {
      only = λ p e. ⊎_elim
          (λ h. let w = hides.only p h in record { by = w.by; among = Contains-append_left chosen (option ∷ []) w.by w.among; excludes = w.excludes })
          (λ b. record { by = option; among = Contains-append_right chosen (option ∷ []) option (0, omega arith, refl); excludes = b })
          (only p e);
      all = λ p w. ⊎_elim
          (λ (old : Contains chosen w.by). on p (hides.all p (record { by = w.by; among = old; excludes = w.excludes })))
          (λ (new : Contains (option ∷ []) w.by). all p (subst (λ o. Excludes takable items options entries o p) (one option w.by new) w.excludes))
          (Contains-append_cases chosen (option ∷ []) w.by w.among);
    }

pub inner : (x y : ℕ) → Some x ≡ Some y → x ≡ y
inner x y e = cc

pub ok_holds : {A E : Type 0} (r : Result A E) (P : Type 0) → false ≡ is_err r → IfOk r (λ _. P) → P
ok_holds (Ok x) P e h = h
ok_holds (Err x) P e h = absurd (true≢false (sym e))

pub err_holds : {A E : Type 0} (r : Result A E) (P : Type 0) → true ≡ is_err r → OnErr r P → P
err_holds (Ok x) P e h = absurd (true≢false e)
err_holds (Err x) P e h = h

pub on_err : {A E : Type 0} (r : Result A E) (P : Type 0) → P → OnErr r P
on_err (Ok x) P h = tt
on_err (Err x) P h = h

-- what was pushed is popped
pub popped : (xs ys zs : List ℕ) (x n : ℕ) → n ≡ length ys → ys ≡ xs ++ x ∷ [] → zs ≡ take (n - 1) ys → zs ≡ xs
popped xs ys zs x n long more less =
    let e : n - 1 ≡ length xs = omega (arith, long, ap length more, length-append xs (x ∷ [])) in
    less ∙ ap (λ k. take k ys) e ∙ ap (take (length xs)) more ∙ take-append-le (length xs) xs (x ∷ []) (omega arith) ∙ take_all (length xs) xs (omega arith)
