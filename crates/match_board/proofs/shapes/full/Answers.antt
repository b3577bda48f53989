use Rattle.std.proofs.Common.{◌≡◌, ◌≤◌, ◌∙◌, ℕ, true, replicate, take, arith, ap}
use Rattle.std.proofs.lemmas.List.{take-replicate}
use Rattle.match_board.specs.Board.{mask_of}
use Rattle.match_board.proofs.shapes.full.Goals as goal

every_taken : (places room : ℕ) → places ≤ room → mask_of (take places (replicate room true)) ≡ mask_of (replicate places true)
every_taken places room le = ap mask_of (take-replicate places room true le)

pub returns : goal.returns
returns c =
    c.kept.ensures ∙ every_taken c.from.result 100 (omega arith) ∙ ap (λ n. mask_of (replicate n true)) c.from.ensures
