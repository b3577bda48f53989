use Rattle.std.proofs.Common.{◌≡◌, ◌∷◌, [], ◌++◌, ℕ, List, map, decimal, codes, append_assoc, refl}
use Rattle.text_words.specs.Spelling.{line_text, spaced}
use Rattle.text_words.proofs.WritingLemmas.{joined_spaced}
use Rattle.match_report.proofs.tallies.put_worker.Goals as goal

-- a line, as it is written
parts : (text first number second others end : List ℕ) → ((((text ++ first) ++ number) ++ second) ++ others) ++ end ≡ text ++ (first ++ ((number ++ (second ++ others)) ++ end))
parts text first number second others end = simp append_assoc refl

pub returns : goal.returns
unfolding line_text
returns c =
    let numbers = spaced (map decimal c.args.taken.now) in
    rw (joined_spaced (codes "took") (map decimal c.args.taken.now), c.in_ok-push.ensures.items, c.in_ok-put_numbers.ensures, c.numbers.ensures, c.in_ok-extend_from_slice-2.ensures.items, c.in_ok-put_number.ensures, c.from.ensures, c.in_ok-extend_from_slice.ensures.items)
    (parts c.args.text.now.items (codes "worker ") (decimal c.args.worker) (codes " took") numbers (10 ∷ []))
