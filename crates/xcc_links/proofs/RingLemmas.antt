-- What the writes of links do to each link.
use Rattle.std.proofs.Common.{◌≡◌, ◌≢◌, ◌<◌, ℕ, List, length, length-set, set, get_or, arith, refl, ap, sym, ◌∙◌, ⊎_elim}
use Rattle.std.proofs.lemmas.Bool.{cases_eq}
use Rattle.std.proofs.lemmas.List.{get_or-set_same, get_or-set_other, get_or_read, ext_get_or}
use Rattle.xcc_links.specs.Rings.{no_link, up_of, down_of, Inside, with_down, with_up, joined, unlinked, relinked}
use Rattle.xcc_links.specs.declared.links.arrays.Link.{Link}

link_eq : (x y : Link) → x.up ≡ y.up → x.down ≡ y.down → x ≡ y
link_eq x y p q = let a : Link → Link = λ z. z in ap (λ u. a (record { up = u; down = x.down })) p ∙ ap (λ d. a (record { up = y.up; down = d })) q

pub same_links : (a b : List Link) → length a ≡ length b → ((k : ℕ) → up_of a k ≡ up_of b k) → ((k : ℕ) → down_of a k ≡ down_of b k) → a ≡ b
same_links a b e u d = ext_get_or no_link a b e (λ i lt. link_eq (get_or a i no_link) (get_or b i no_link) (u i) (d i))

-- What a write at p does to a part of each link.
module _ (f : Link → ℕ) (links : List Link) (p : ℕ) (x : Link) (lt : p < length links) where
  pub part_here : f (get_or (set links p x) p no_link) ≡ f x
  part_here = ap f (get_or-set_same links p x no_link lt)

  pub part_there : (k : ℕ) → k ≢ p → f (get_or (set links p x) k no_link) ≡ f (get_or links k no_link)
  part_there k ne = ap f (get_or-set_other links p k x no_link ne)

  pub part_same : f x ≡ f (get_or links p no_link) → (k : ℕ) → f (get_or (set links p x) k no_link) ≡ f (get_or links k no_link)
  part_same e k = ⊎_elim
      (λ (here : k ≡ p). ap (λ n. f (get_or (set links p x) n no_link)) here ∙ part_here ∙ e ∙ sym (ap (λ n. f (get_or links n no_link)) here))
      (λ (ne : k ≢ p). part_there k ne)
      (cases_eq k p)

module _ (links : List Link) (u d x y : ℕ) (iu : u < length links) (id : d < length links) where
  l1 : List Link
  unfolding joined
  l1 = with_down links u x

  len1 : length (with_down links u x) ≡ length links
  len1 = length-set links u _

  pub joined_length : length (joined links u d x y) ≡ length links
  unfolding joined
  joined_length = length-set (with_down links u x) d _ ∙ len1

  in1 : d < length (with_down links u x)
  in1 = omega (arith, len1)

  pub joined_down_here : down_of (joined links u d x y) u ≡ x
  unfolding joined
  joined_down_here = part_same (λ (l : Link). l.down) (with_down links u x) d _ in1 refl u ∙ part_here (λ (l : Link). l.down) links u _ iu

  pub joined_down_there : (k : ℕ) → k ≢ u → down_of (joined links u d x y) k ≡ down_of links k
  unfolding joined
  joined_down_there k ne = part_same (λ (l : Link). l.down) (with_down links u x) d _ in1 refl k ∙ part_there (λ (l : Link). l.down) links u _ iu k ne

  pub joined_up_here : up_of (joined links u d x y) d ≡ y
  unfolding joined
  joined_up_here = part_here (λ (l : Link). l.up) (with_down links u x) d _ in1

  pub joined_up_there : (k : ℕ) → k ≢ d → up_of (joined links u d x y) k ≡ up_of links k
  unfolding joined
  joined_up_there k ne = part_there (λ (l : Link). l.up) (with_down links u x) d _ in1 k ne ∙ part_same (λ (l : Link). l.up) links u _ iu refl k

  pub joined_inside : x < length links → y < length links → Inside links → Inside (joined links u d x y)
  joined_inside ix iy inside = record {
    up = λ k lt. let lt2 : k < length links = omega (arith, joined_length) in let h = inside.up k lt2 in ⊎_elim
        (λ (e : k ≡ d). let w : up_of (joined links u d x y) k ≡ y = ap (up_of (joined links u d x y)) e ∙ joined_up_here in omega (arith, w, joined_length))
        (λ (ne : k ≢ d). let w = joined_up_there k ne in omega (arith, w, h, joined_length))
        (cases_eq k d);
    down = λ k lt. let lt2 : k < length links = omega (arith, joined_length) in let h = inside.down k lt2 in ⊎_elim
        (λ (e : k ≡ u). let w : down_of (joined links u d x y) k ≡ x = ap (down_of (joined links u d x y)) e ∙ joined_down_here in omega (arith, w, joined_length))
        (λ (ne : k ≢ u). let w = joined_down_there k ne in omega (arith, w, h, joined_length))
        (cases_eq k u);
  }

-- A node that is put back stands as it stood.
module _ (links : List Link) (m : ℕ) (iu : up_of links m < length links) (id : down_of links m < length links) (nu : m ≢ up_of links m) (nd : m ≢ down_of links m) (du : down_of links (up_of links m) ≡ m) (ud : up_of links (down_of links m) ≡ m) where
  gone : List Link
  unfolding joined
  gone = unlinked links m

  pub relinked_exact : relinked (unlinked links m) m ≡ links
  relinked_exact =
      let n = joined_length links (up_of links m) (down_of links m) (down_of links m) (up_of links m) iu id in
      let l' = unlinked links m in
      let u = up_of links m in
      let d = down_of links m in
      let e1 : up_of l' m ≡ u = joined_up_there links u d d u iu id m nd in
      let e2 : down_of l' m ≡ d = joined_down_there links u d d u iu id m nu in
      let iu' : u < length l' = omega (arith, n) in
      let id' : d < length l' = omega (arith, n) in
      ap (λ k. joined l' k (down_of l' m) m m) e1 ∙ ap (λ k. joined l' u k m m) e2
      ∙ same_links (joined l' u d m m) links (joined_length l' u d m m iu' id' ∙ n)
      (λ k. ⊎_elim
      (λ (e : k ≡ d). ap (up_of (joined l' u d m m)) e ∙ joined_up_here l' u d m m iu' id' ∙ sym ud ∙ sym (ap (up_of links) e))
      (λ (ne : k ≢ d). joined_up_there l' u d m m iu' id' k ne ∙ joined_up_there links u d d u iu id k ne)
      (cases_eq k d))
      (λ k. ⊎_elim
      (λ (e : k ≡ u). ap (down_of (joined l' u d m m)) e ∙ joined_down_here l' u d m m iu' id' ∙ sym du ∙ sym (ap (down_of links) e))
      (λ (ne : k ≢ u). joined_down_there l' u d m m iu' id' k ne ∙ joined_down_there links u d d u iu id k ne)
      (cases_eq k u))

-- The writes as the code makes them.
module _ (links l1 l2 : List Link) (link above below : Link) (m x y : ℕ) (im : m < length links) (iu : up_of links m < length links) (id : down_of links m < length links)
    (r_link : link ≡ get_or links m link) (r_above : above ≡ get_or links link.up above) (r_below : below ≡ get_or l1 link.down below)
    (w1 : l1 ≡ set links link.up (record above { down = x })) (w2 : l2 ≡ set l1 link.down (record below { up = y })) where
  pub link_is : link ≡ get_or links m no_link
  link_is = get_or_read links m link im r_link no_link

  pub up_is : link.up ≡ up_of links m
  up_is = ap (λ (l : Link). l.up) link_is

  pub down_is : link.down ≡ down_of links m
  down_is = ap (λ (l : Link). l.down) link_is

  above_is : above ≡ get_or links link.up no_link
  above_is = get_or_read links link.up above (omega (arith, up_is)) r_above no_link

  first_is : l1 ≡ with_down links (up_of links m) x
  first_is = w1 ∙ ap (λ (l : Link). set links link.up (record l { down = x })) above_is ∙ ap (λ p. with_down links p x) up_is

  below_is : below ≡ get_or l1 link.down no_link
  below_is = get_or_read l1 link.down below (let n : length l1 ≡ length links = ap length first_is ∙ length-set links (up_of links m) _ in omega (arith, down_is, n)) r_below no_link

  pub joined_is : l2 ≡ joined links (up_of links m) (down_of links m) x y
  unfolding joined
  joined_is = w2 ∙ ap (λ (l : Link). set l1 link.down (record l { up = y })) below_is ∙ ap (λ p. with_up l1 p y) down_is ∙ ap (λ l. with_up l (down_of links m) y) first_is
