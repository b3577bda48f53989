-- How it is printed which worker took what.
use Rattle.std.specs.Prelude.{ℕ, List, ◌∷◌, map, codes, decimal}
use Rattle.std.specs.List.{enumerate_from}
use Rattle.text_words.specs.Spelling.{text_of}

-- the words of a worker with its number, and then the numbers that it took
abbrev pub worker_words : ℕ × List ℕ → List (List ℕ)
worker_words worker = codes "worker" ∷ decimal worker.0 ∷ codes "took" ∷ map decimal worker.1

-- a line for each worker, in order, numbered from 0
unfoldable pub tally_text : List (List ℕ) → List ℕ
tally_text tally = text_of (map worker_words (enumerate_from 0 tally))
