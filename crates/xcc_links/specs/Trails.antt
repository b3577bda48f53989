-- The options that were hidden, and how the arrays stood before.
use Rattle.std.specs.Prelude.{◌≡◌, ℕ, List, [], ◌∷◌, ◌++◌}
use Rattle.xcc_links.specs.declared.links.arrays.Link.{Link}
use Rattle.xcc_links.specs.declared.links.tables.Entry.{Entry}
use Rattle.xcc_links.specs.Rings.{shown_links, shown_sizes}
use Rattle.xcc_links.specs.NodeTables.{start_of, width_of}

-- links by node, and sizes by item
abbrev pub Arrays : Type 0
Arrays = List Link × List ℕ

-- the arrays with the option's nodes put back, the last first
abbrev pub put_back : List Entry → List ℕ → ℕ → Arrays → Arrays
put_back entries starts o a = (
  shown_links a.0 (start_of starts o) (width_of starts o),
  shown_sizes entries a.1 (start_of starts o)
      (width_of starts o),
)

-- the arrays with all these options put back, the last first
abbrev pub back : (ℕ → Arrays → Arrays) → List ℕ → Arrays → Arrays
back step [] a = a
back step (o ∷ more) a = step o (back step more a)

-- The trail goes on from one state to the other, and what it gained leads back.
pub record LeadsBack (step : ℕ → Arrays → Arrays) (a : Arrays) (trail : List ℕ) (a' : Arrays)
    (trail' : List ℕ) : Type 0 where
  pub more : List ℕ
  pub longer : trail' ≡ trail ++ more
  pub back_to : back step more a' ≡ a
