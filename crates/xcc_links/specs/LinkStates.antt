-- Link arrays with options chosen, and how they stood before the last choice.
use Rattle.std.specs.Prelude.{◌-◌, ℕ, List, length, take, drop}
use Rattle.xcc_form.specs.Options.{Compiled, IsCompiled}
use Rattle.xcc_links.specs.declared.links.tables.Entry.{Entry}
use Rattle.xcc_links.specs.declared.links.tables.NodeTable.{NodeTable}
use Rattle.xcc_links.specs.declared.links.arrays.LinkArrays.{LinkArrays}
use Rattle.xcc_form.specs.Chosen.{Selection}
use Rattle.xcc_links.specs.Trails.{Arrays, put_back, back}
use Rattle.xcc_links.specs.ArrayWords.{arrays_of}
use Rattle.xcc_links.specs.TableLayout.{IsTableOf}
use Rattle.xcc_links.specs.Marks.{mark_of, WereAlwaysRight}

-- a compiled puzzle, the options chosen so far, in the order of choosing, and the link arrays: what each node stands
-- for and where each option's nodes start, links and sizes, the hidden options, and how many there were at each choice
pub record LinkState : Type 0 where
  pub compiled : Compiled
  pub chosen : List ℕ
  pub entries : List Entry
  pub starts : List ℕ
  pub arrays : Arrays
  pub trail : List ℕ
  pub marks : List ℕ

-- the state of link arrays over the nodes of a table
abbrev pub link_state : Compiled → NodeTable → LinkArrays → (marks chosen : List ℕ) → LinkState
link_state x t a marks chosen =
    record {
      compiled = x;
      chosen = chosen;
      entries = t.entries.items;
      starts = t.starts.items;
      arrays = arrays_of a;
      trail = a.trail.items;
      marks = marks;
    }

-- the chosen options alone
abbrev pub selection_of : LinkState → Selection
selection_of s = record { compiled = s.compiled; chosen = s.chosen }

-- how many options were hidden when the last was chosen
abbrev pub last_mark : LinkState → ℕ
last_mark s = mark_of s.trail s.marks (length s.chosen - 1)

-- the state before the last choice: the options that it hid are put back into their lists, the last one first
abbrev pub taken_back : LinkState → LinkState
taken_back s = record {
  compiled = s.compiled;
  chosen = take (length s.chosen - 1) s.chosen;
  entries = s.entries;
  starts = s.starts;
  arrays = back (put_back s.entries s.starts) (drop (last_mark s) s.trail) s.arrays;
  trail = take (last_mark s) s.trail;
  marks = take (length s.chosen - 1) s.marks;
}

-- The nodes are those of the compiled puzzle, and the arrays are right for what is chosen, as they were before each
-- choice.
pub record AreLinksOf (x : Compiled) (t : NodeTable) (a : LinkArrays) (marks chosen : List ℕ) : Type 0 where
  pub compiled : IsCompiled x
  pub table : IsTableOf x t
  pub right : WereAlwaysRight t.takable t.items t.options t.entries.items t.starts.items (arrays_of a) a.trail.items
      marks chosen
