-- Links, and the writes that take a node out of its ring and put it back.
use Rattle.std.specs.Prelude.{◌≡◌, ◌<◌, ◌+◌, ◌-◌, ◌%◌, ◌^◌, ℕ, zero, suc, List, length, slice_set, slice_index_or}
use Rattle.xcc_links.specs.declared.links.arrays.Link.{Link}
use Rattle.xcc_links.specs.declared.links.tables.Entry.{Entry}

abbrev pub no_link : Link
no_link = record { up = 0; down = 0 }

abbrev pub no_entry : Entry
no_entry = record { item = 0; option = 0; colour = 0 }

abbrev pub up_of : List Link → ℕ → ℕ
up_of links n = (slice_index_or links n no_link).up

abbrev pub down_of : List Link → ℕ → ℕ
down_of links n = (slice_index_or links n no_link).down

abbrev pub item_of : List Entry → ℕ → ℕ
item_of entries n = (slice_index_or entries n no_entry).item

abbrev pub colour_of : List Entry → ℕ → ℕ
colour_of entries n = (slice_index_or entries n no_entry).colour

abbrev pub option_of : List Entry → ℕ → ℕ
option_of entries n = (slice_index_or entries n no_entry).option

-- There are `n` nodes, and each is its own neighbour.
pub record AreAlone (links : List Link) (n : ℕ) : Type 0 where
  pub long : length links ≡ n
  pub up : (k : ℕ) → k < n → up_of links k ≡ k
  pub down : (k : ℕ) → k < n → down_of links k ≡ k

-- Each link is to nodes there are.
pub record Inside (links : List Link) : Type 0 where
  pub up : (k : ℕ) → k < length links → up_of links k < length links
  pub down : (k : ℕ) → k < length links → down_of links k < length links

abbrev pub with_down : List Link → ℕ → ℕ → List Link
with_down links p v = slice_set links p (record { up = up_of links p; down = v })

abbrev pub with_up : List Link → ℕ → ℕ → List Link
with_up links p v = slice_set links p (record { up = v; down = down_of links p })

-- the links after x is written below u, and then y above d
unfoldable pub joined : List Link → ℕ → ℕ → ℕ → ℕ → List Link
joined links u d x y = with_up (with_down links u x) d y

-- node m passed by its neighbours
abbrev pub unlinked : List Link → ℕ → List Link
unlinked links m = joined links (up_of links m) (down_of links m) (down_of links m) (up_of links m)

-- node m between its neighbours again
abbrev pub relinked : List Link → ℕ → List Link
relinked links m = joined links (up_of links m) (down_of links m) m m

abbrev pub fewer_at : List ℕ → ℕ → List ℕ
fewer_at sizes i = slice_set sizes i (slice_index_or sizes i 0 - 1)

abbrev pub more_at : List ℕ → ℕ → List ℕ
more_at sizes i = slice_set sizes i ((slice_index_or sizes i 0 + 1) % 2 ^ 32)

-- n nodes from a on are taken out, in order
abbrev pub hidden_links : List Link → ℕ → ℕ → List Link
hidden_links links a zero = links
hidden_links links a (suc n) = unlinked (hidden_links links a n) (a + n)

-- n nodes from a on are put back, the last first
abbrev pub shown_links : List Link → ℕ → ℕ → List Link
shown_links links a zero = links
shown_links links a (suc n) = shown_links (relinked links (a + n)) a n

abbrev pub hidden_sizes : List Entry → List ℕ → ℕ → ℕ → List ℕ
hidden_sizes entries sizes a zero = sizes
hidden_sizes entries sizes a (suc n) = fewer_at (hidden_sizes entries sizes a n) (item_of entries (a + n))

abbrev pub shown_sizes : List Entry → List ℕ → ℕ → ℕ → List ℕ
shown_sizes entries sizes a zero = sizes
shown_sizes entries sizes a (suc n) = shown_sizes entries (more_at sizes (item_of entries (a + n))) a n
