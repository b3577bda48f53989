-- Nodes in the lists of their items: first one for each item, its own, then those of the options.
use Rattle.std.specs.Prelude.{◌≡◌, ◌<◌, ◌≤◌, ◌+◌, ◌-◌, ◌^◌, ◌==◌, ◌&&◌, ◌||◌, not, ℕ, zero, suc, Bool, true, false}
use Rattle.std.specs.Prelude.{cond, List, [], ◌∷◌, nat_lt, length, slice_index_or}
use Rattle.xcc_links.specs.declared.links.arrays.Link.{Link}
use Rattle.xcc_links.specs.declared.links.tables.Entry.{Entry}
use Rattle.xcc_links.specs.Rings.{Inside, up_of, down_of, item_of, colour_of, option_of}
use Rattle.xcc_links.specs.NodeLists.{Linked, count, in_list}

-- where the option's nodes start
abbrev pub start_of : List ℕ → ℕ → ℕ
start_of starts o = slice_index_or starts o 0

-- how many nodes the option has
abbrev pub width_of : List ℕ → ℕ → ℕ
width_of starts o = start_of starts (o + 1) - start_of starts o

-- From the first node on, the nodes of each option lie between its start and the next, and know their option.
pub record AreRuns (first : ℕ) (entries : List Entry) (starts : List ℕ) : Type 0 where
  pub some : 0 < length starts
  pub last : start_of starts (length starts - 1) ≡ length entries
  pub rising : (o : ℕ) → o + 1 < length starts → start_of starts o ≤ start_of starts (o + 1)
  pub low : (o : ℕ) → o < length starts → first ≤ start_of starts o
  pub high : (o : ℕ) → o < length starts → start_of starts o ≤ length entries
  pub inside : (o n : ℕ) → o + 1 < length starts → start_of starts o ≤ n → n < start_of starts (o + 1)
      → option_of entries n ≡ o
  pub around : (n : ℕ) → first ≤ n → n < length entries → (option_of entries n + 1 < length starts)
      × (start_of starts (option_of entries n) ≤ n) × (n < start_of starts (option_of entries n + 1))

-- The nodes of option o are those from its start up to the next. The options from `options` on stand for the takable
-- items, those that options take: each has one node, in the list of the last item, the root.
pub record IsNodeTable (takable items options : ℕ) (entries : List Entry) (starts : List ℕ) : Type 0 where
  pub some : takable < items
  pub few : length entries < 2 ^ 32
  pub few_starts : length starts < 2 ^ 32
  pub starts_long : length starts ≡ options + takable + 1
  pub own : (i : ℕ) → i < items → item_of entries i ≡ i
  pub small : (n : ℕ) → item_of entries n < items
  pub runs : AreRuns items entries starts
  -- an option has an item once
  pub once : (m n : ℕ) → items ≤ m → m < length entries → items ≤ n → n < length entries
      → option_of entries m ≡ option_of entries n → item_of entries m ≡ item_of entries n → m ≡ n
  pub real : (n : ℕ) → items ≤ n → n < length entries → option_of entries n < options → item_of entries n + 1 < items
  pub rooted : (n : ℕ) → items ≤ n → n < length entries → options ≤ option_of entries n → item_of entries n + 1 ≡ items
  -- they have one node each, in their order
  pub single : (i : ℕ) → i ≤ takable → start_of starts (options + i) ≡ start_of starts options + i
  -- no entry has the colour that stands for none
  pub coloured : (n : ℕ) → colour_of entries n < 255

-- The links go round the lists of the shown nodes.
pub record AreLinked (items : ℕ) (entries : List Entry) (shown : ℕ → Bool) (links : List Link) : Type 0 where
  pub long : length links ≡ length entries
  pub low : (n : ℕ) → shown n ≡ true → items ≤ n
  pub high : (n : ℕ) → shown n ≡ true → n < length entries
  pub own_high : items ≤ length entries
  pub linked : Linked items (item_of entries) shown (up_of links) (down_of links)

-- The sizes tell how many shown nodes each list has.
pub record AreCounted (items : ℕ) (entries : List Entry) (shown : ℕ → Bool) (sizes : List ℕ) : Type 0 where
  pub long : length sizes ≡ items
  pub sized : (i : ℕ) → i < items
      → slice_index_or sizes i 0 ≡ count (in_list (item_of entries) shown i) (length entries)

-- The arrays have their lengths, and each link is to nodes there are.
pub record AreInRange (items : ℕ) (entries : List Entry) (links : List Link) (sizes : List ℕ) : Type 0 where
  pub long : length links ≡ length entries
  pub sizes_long : length sizes ≡ items
  pub inside : Inside links

-- the nodes shown but for one
pub record Without (shown : ℕ → Bool) (m : ℕ) (shown' : ℕ → Bool) : Type 0 where
  pub gone : shown' m ≡ false
  pub others : (k : ℕ) → (k ≡ m → ⊥) → shown' k ≡ shown k

-- the nodes shown but for n nodes from a on
abbrev pub hidden : (ℕ → Bool) → ℕ → ℕ → ℕ → Bool
hidden shown a zero k = shown k
hidden shown a (suc n) k = cond (k == a + n) false (hidden shown a n k)

-- whether the number is in the list
abbrev pub has : List ℕ → ℕ → Bool
has [] o = false
has (x ∷ xs) o = (x == o) || has xs o

-- Shown are the nodes of the options that aren't on the trail.
unfoldable pub shown_by : ℕ → List Entry → List ℕ → ℕ → Bool
shown_by items entries trail n =
    (not (nat_lt n items) && nat_lt n (length entries)) && not (has trail (option_of entries n))

-- There is each of the options.
abbrev pub AreOptions : List ℕ → List ℕ → Type 0
AreOptions starts trail = (o : ℕ) → has trail o ≡ true → o + 1 < length starts

-- The arrays are right where the options on the trail are hidden, and no others.
pub record AreRight (items : ℕ) (entries : List Entry) (starts : List ℕ) (links : List Link)
    (sizes trail : List ℕ) : Type 0 where
  pub fits : AreInRange items entries links sizes
  pub options : AreOptions starts trail
  pub kept : AreLinked items entries (shown_by items entries trail) links
  pub counted : AreCounted items entries (shown_by items entries trail) sizes
