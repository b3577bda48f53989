-- Edges of elements.
use Rattle.std.proofs.Common.{◌≡◌, ◌++◌, ℕ, List, arith, refl, ap, sym, ◌∙◌, subst, append_assoc, codes, decimal}
use Rattle.match_puzzle.specs.Puzzle.{Task}
use Rattle.show_pictures.specs.Edges.{HasArc, HasEdge, IsEdgePath}
use Rattle.show_pictures.specs.Elements.{IsAlong, IsElement, element_begin}
use Rattle.show_pictures.specs.declared.edges.Edge.{Edge}
use Rattle.show_pictures.specs.declared.edges.Edge.TheVariants.{Flat, Knob, Hollow}

-- a colour has one edge
one_edge : (p : Task) (colour : ℕ) (edge other : Edge) → HasEdge p colour edge → HasEdge p colour other → edge ≡ other
one_edge p colour Flat Flat h h' = refl
one_edge p colour Flat Knob h h' = absurd (omega (arith, h, h'))
one_edge p colour Flat Hollow h h' = absurd (omega (arith, h, h'))
one_edge p colour Knob Flat h h' = absurd (omega (arith, h, h'))
one_edge p colour Knob Knob h h' = refl
one_edge p colour Knob Hollow h h' = absurd (omega (arith, h, h'))
one_edge p colour Hollow Flat h h' = absurd (omega (arith, h, h'))
one_edge p colour Hollow Knob h h' = absurd (omega (arith, h, h'))
one_edge p colour Hollow Hollow h h' = refl

arc_on : (sweep : ℕ) (path more : List ℕ) → HasArc sweep path → HasArc sweep (path ++ more)
arc_on sweep path more w = record {
  before = w.before;
  after = w.after ++ more;
  arc = ap (λ t. t ++ more) w.arc ∙ append_assoc (w.before ++ (codes " 0 1 " ++ decimal sweep)) w.after more;
}

goes_on : (edge : Edge) (path more : List ℕ) → IsEdgePath edge path → IsEdgePath edge (path ++ more)
goes_on Flat path more w = tt
goes_on Knob path more w = arc_on 1 path more w
goes_on Hollow path more w = arc_on 0 path more w

-- a path with one edge of a colour has the colour's edge
pub is_along : (p : Task) (colour : ℕ) (edge : Edge) (path : List ℕ) → HasEdge p colour edge → IsEdgePath edge path → IsAlong p colour path
is_along p colour edge path has is = λ other has'. subst (λ e. IsEdgePath e path) (one_edge p colour edge other has has') is

pub along_more : (p : Task) (colour : ℕ) (path more grown : List ℕ) → IsAlong p colour path → grown ≡ path ++ more → IsAlong p colour grown
along_more p colour path more grown is longer = λ edge has. subst (IsEdgePath edge) (sym longer) (goes_on edge path more (is edge has))

-- an element that begins, with a path
pub element_begun : (p : Task) (colour x y : ℕ) (begun path text : List ℕ) → begun ≡ element_begin p colour x y → text ≡ begun ++ path → IsAlong p colour path → IsElement p colour x y text
element_begun p colour x y begun path text begins longer is = record {
  rest = path;
  begins = longer ∙ ap (λ t. t ++ path) begins;
  along = is;
}

-- an element with what comes after it
pub element_more : (p : Task) (colour x y : ℕ) (text more grown : List ℕ) → IsElement p colour x y text → grown ≡ text ++ more → IsElement p colour x y grown
element_more p colour x y text more grown w longer = record {
  rest = w.rest ++ more;
  begins = longer ∙ ap (λ t. t ++ more) w.begins ∙ append_assoc (element_begin p colour x y) w.rest more;
  along = λ edge has. goes_on edge w.rest more (w.along edge has);
}
