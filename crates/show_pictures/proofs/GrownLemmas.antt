-- Texts that become longer.
use Rattle.std.proofs.Common.{◌≡◌, ℕ, List, ◌++◌, ap, ◌∙◌, append_assoc}
use Rattle.show_pictures.specs.Grown.{Grows, IsWrapped}

pub grows_more : {a b c : List ℕ} → Grows a b → Grows b c → Grows a c
grows_more {a} g h = record {
  more = g.more ++ h.more;
  grown = h.grown ∙ ap (λ t. t ++ h.more) g.grown ∙ append_assoc a g.more h.more;
}

pub wrapped_grows : {piece a b : List ℕ} → IsWrapped piece a b → Grows a b
wrapped_grows {piece} {a} w = record {
  more = w.front ++ (piece ++ w.back);
  grown = w.grown ∙ append_assoc (a ++ w.front) piece w.back ∙ append_assoc a w.front (piece ++ w.back);
}

pub wrapped_more : {piece a b c : List ℕ} → IsWrapped piece a b → Grows b c → IsWrapped piece a c
wrapped_more {piece} {a} w g = record {
  front = w.front;
  back = w.back ++ g.more;
  grown = g.grown ∙ ap (λ t. t ++ g.more) w.grown ∙ append_assoc (a ++ w.front ++ piece) w.back g.more;
}

-- two pieces, with what stands between them
pub wrapped_both : {a b t0 t1 t2 t3 : List ℕ} (w : IsWrapped a t0 t1) (g : Grows t1 t2) (v : IsWrapped b t2 t3) → IsWrapped (a ++ (w.back ++ g.more ++ v.front) ++ b) t0 t3
wrapped_both {a} {b} {t0} w g v = record {
  front = w.front;
  back = v.back;
  grown = v.grown ∙ ap (λ t. t ++ v.front ++ b ++ v.back) (g.grown ∙ ap (λ t. t ++ g.more) w.grown) ∙ joined t0 w.front w.back g.more v.front v.back;
}
  where
    joined : (t0 wf wb m vf vb : List ℕ) → (((t0 ++ wf ++ a ++ wb) ++ m) ++ vf) ++ b ++ vb ≡ t0 ++ wf ++ (a ++ (wb ++ m ++ vf) ++ b) ++ vb
    joined t0 wf wb m vf vb = simp append_assoc

-- what five pieces are round the fourth
pub wrapped_fourth : {t0 t1 t2 t3 t4 t5 : List ℕ} (a b c piece last : List ℕ) → t1 ≡ t0 ++ a → t2 ≡ t1 ++ b → t3 ≡ t2 ++ c → t4 ≡ t3 ++ piece → t5 ≡ t4 ++ last → IsWrapped piece t0 t5
wrapped_fourth {t0} a b c piece last e1 e2 e3 e4 e5 =
    let e12 = e2 ∙ ap (λ t. t ++ b) e1 ∙ append_assoc t0 a b in
    let e123 = e3 ∙ ap (λ t. t ++ c) e12 ∙ append_assoc t0 (a ++ b) c in
    record {
      front = a ++ b ++ c;
      back = last;
      grown = e5 ∙ ap (λ t. t ++ last) (e4 ∙ ap (λ t. t ++ piece) e123);
    }
