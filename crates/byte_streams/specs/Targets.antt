-- Where what is made goes.
use Rattle.std.specs.Prelude.{◌⊎◌, ℕ, List, [], ◌∷◌}
use Rattle.byte_streams.specs.Moves.{FrontOf, Takes, Writing}
use Rattle.byte_streams.specs.declared.outputs.Products.{Products}

-- What was made went out whole; or a part of it did, until that failed; or nothing was touched.
pub record Target (M : Type 0) : Type 1 where
  pub Took : M → Type 0
  pub Stopped : M → Type 0
  pub Untouched : Type 0

-- a text for a sink
pub record Filled : Type 1 where
  pub sink : Writing
  pub text : List ℕ

abbrev pub filled : Writing → List ℕ → Filled
filled sink text = record { sink = sink; text = text }

-- All were written whole.
abbrev pub AllTake : List Filled → Type 0
AllTake [] = Unit {0}
AllTake (f ∷ rest) = Takes f.sink f.text × AllTake rest

-- Nothing was written.
abbrev pub NoneTake : List Filled → Type 0
NoneTake [] = Unit {0}
NoneTake (f ∷ rest) = f.sink.Untouched × NoneTake rest

-- One of them was not written whole: those before it were, and of those after it nothing.
abbrev pub StopsWriting : List Filled → Type 0
StopsWriting [] = ⊥
StopsWriting (f ∷ rest) = (FrontOf f.sink f.text × NoneTake rest) ⊎ (Takes f.sink f.text × StopsWriting rest)

abbrev pub one_sink : Writing → Target (List ℕ)
one_sink sink = record { Took = Takes sink; Stopped = FrontOf sink; Untouched = sink.Untouched }

abbrev pub products_to : (list certificate report : Writing) → Products → List Filled
products_to list certificate report made =
    filled list made.list ∷ filled certificate made.certificate ∷ filled report made.report ∷ []

abbrev pub three_sinks : (list certificate report : Writing) → Target Products
three_sinks list certificate report = record {
  Took = λ made. AllTake (products_to list certificate report made);
  Stopped = λ made. StopsWriting (products_to list certificate report made);
  Untouched = list.Untouched × certificate.Untouched × report.Untouched;
}
