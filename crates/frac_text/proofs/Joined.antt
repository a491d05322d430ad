-- Two texts with a stroke between them.
use Rattle.std.proofs.Common.{◌≡◌, ℕ, ◌-◌, ◌≤◌, List, [], ◌∷◌, ◌++◌, length, take, drop, get_or, Bool, true, false, eqb, refl, sym, ◌∙◌, ap, ap₂, arith, take-append-drop}
use Rattle.std.specs.Bool.{Decides}
use Rattle.std.specs.Cmp.Lexicographic.{pointwise}
use Rattle.std.proofs.Math.Seq.{drop-append_seam, take-append_seam}
use Rattle.std.proofs.lemmas.Bool.Decides.{Decides-at, Decides-eqb, Decides-like, not_from_Decides}
use Rattle.std.proofs.lemmas.List.{take_all}
use Rattle.std.proofs.lemmas.Slice.Eq.{slice_eq-Decides}

same : (xs ys : List ℕ) → Decides (pointwise eqb xs ys) (xs ≡ ys)
same xs ys = slice_eq-Decides Decides-eqb xs ys (pointwise eqb xs ys) refl

pub after_stroke : (after text : List ℕ) (r : Bool) → 1 ≤ length text → get_or text 0 0 ≡ 47
    → r ≡ pointwise eqb (take (length text - 1) (drop 1 text)) after → Decides r (47 ∷ after ≡ text)
after_stroke after [] r some first is = absurd (omega arith)
after_stroke after (c ∷ text) r some first is =
    let rest : take (length (c ∷ text) - 1) text ≡ text = take_all (length (c ∷ text) - 1) text (omega arith) in
    Decides-like r (λ e. ap₂ (λ (b : ℕ) (t : List ℕ). b ∷ t) (sym first) (sym (sym rest ∙ e))) (λ e. rest ∙ sym (ap (drop 1) e))
    (Decides-at r (pointwise eqb (take (length (c ∷ text) - 1) text) after) is (same (take (length (c ∷ text) - 1) text) after))

module _ (before after text : List ℕ) where
  pub joined : (rest : List ℕ) (r : Bool) → pointwise eqb (take (length before) text) before ≡ true → rest ≡ drop (length before) text
      → Decides r (47 ∷ after ≡ rest) → Decides r (before ++ 47 ∷ after ≡ text)
  joined rest r front rest_is decides =
      let begins : take (length before) text ≡ before = (same (take (length before) text) before).0 front in
      Decides-like r
      (λ e. ap₂ (λ (b : List ℕ) (t : List ℕ). b ++ t) (sym begins) (e ∙ rest_is) ∙ take-append-drop (length before) text)
      (λ e. sym (drop-append_seam before (47 ∷ after)) ∙ ap (drop (length before)) e ∙ sym rest_is)
      decides

  pub not_joined : pointwise eqb (take (length before) text) before ≡ false → Decides false (before ++ 47 ∷ after ≡ text)
  not_joined other = (
    λ e. cc,
    λ e. absurd (not_from_Decides (pointwise eqb (take (length before) text) before) (same (take (length before) text) before) other
        (ap (take (length before)) (sym e) ∙ take-append_seam before (47 ∷ after))),
  )
