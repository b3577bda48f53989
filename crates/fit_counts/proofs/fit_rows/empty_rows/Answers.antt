use Rattle.std.proofs.Common.{◌≡◌, ◌∙◌, ◌++◌, ◌∷◌, [], List, ℕ, ap, arith, replicate}
use Rattle.std.proofs.lemmas.List.{replicate_more}
use Rattle.fit_counts.proofs.fit_rows.empty_rows.Goals as goal

pub loop-preserved : goal.loop-preserved
loop-preserved c =
    let n = c.loop.counter in
    c.in_ok-push.ensures.items ∙ ap (λ (xs : List (List ℕ)). xs ++ c.new.result ∷ []) c.loop.invariant
    ∙ ap (λ (row : List ℕ). replicate n [] ++ row ∷ []) c.new.ensures ∙ replicate_more n []

pub returns : goal.returns
returns c =
    let past = c.loop-test.false in
    let within = c.loop.auto.counter-end in
    let all : c.loop.counter ≡ c.args.count = omega (arith, past, within) in
    c.loop.invariant ∙ ap (λ n. replicate n []) all
