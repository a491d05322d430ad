-- One step of a sparse loop: an item less a product.
use Rattle.std.proofs.Common.{◌≡◌, ◌≢◌, ℕ, ◌+◌, ◌<◌, ◌≤◌, List, [], ◌∷◌, length, drop, get_or, set, eqb, arith, slice_get, Bool, true, false, Some, None, Result, Ok, Err, ◌⊎◌, inr, IsTrue, IsErrAnd, MatchResult, ◌↔◌, refl, sym, subst, ◌∙◌, ap}
use Rattle.std.proofs.lemmas.List.{at_drop_more, at_drop_all, get_or_default, set-get_or}
use Rattle.std.proofs.lemmas.Result.{err_from_is_err_and}
use Rattle.std.proofs.lemmas.Option.{get_or_from_slice_get}
use Rattle.rational.specs.Lines.{gather, subtract}
use Rattle.rational.specs.Sum.{at}
use Rattle.sparse_cols.specs.Sparse.{IsRising}
use Rattle.sparse_cols.proofs.Pairs.{row_below}
use Rattle.rational.specs.Rational.{ℚ, zero_ℚ, ◌+ℚ◌, ◌-ℚ◌, ◌*ℚ◌}
use Rattle.rational.specs.Width.{FitsWidth}
use Rattle.rational.specs.Worked.{Worked, done, work, bind, settle, less, less_unless, more}
use Rattle.rational.proofs.Settling.{settle-done, settle-work, settle-work_none, settle-bind, settle-bind_none, less-none, less-some, more-none, more-some, less_unless-out, less_unless-in}
use Rattle.exact_frac.specs.declared.unfit.Unfit.{Unfit}
use Rattle.exact_frac.specs.Exact.{Exact}
use Rattle.exact_frac.specs.Settles.{Settles}
use Rattle.exact_frac.proofs.Working.{settles-exact}

-- what one calculation answers, another one does that settles to the same
settles_too : {A : Type 0} (u w : ℕ) (c d : Worked A) (r : Result A Unfit) → settle w c ≡ settle u d → Settles u d r → Settles w c r
settles_too u w c d (Ok a) e h = e ∙ h
settles_too u w c d (Err f) e h = e ∙ h

-- what does not settle answers a refusal, which is handed on
pub refused : {A B : Type 0} {e : Unfit} (w : ℕ) (c : Worked A) (r : Result B Unfit) (left : B → A) → settle w c ≡ None → IsErrAnd r (λ f. f ≡ e)
    → MatchResult r (λ b. settle w c ≡ Some (left b)) (λ _. settle w c ≡ None)
refused w c r left none is = let at = err_from_is_err_and r is in subst (λ s. MatchResult s (λ b. settle w c ≡ Some (left b)) (λ _. settle w c ≡ None)) (sym at.1) none

pub skipped : (w : ℕ) (x a b : ℚ) → (a ≡ zero_ℚ) ⊎ (b ≡ zero_ℚ) → settle w (less x a b) ≡ Some x
skipped w x a b none = ap (settle w) (less-none x a b none) ∙ settle-done w x

pub unfit_product : (w : ℕ) (x a b : ℚ) → a ≢ zero_ℚ → b ≢ zero_ℚ → ¬ FitsWidth w (a *ℚ b) → settle w (less x a b) ≡ None
unfit_product w x a b left right unfit =
    ap (settle w) (less-some x a b left right) ∙ settle-bind_none w (work (a *ℚ b)) (λ product. work (x -ℚ product)) (settle-work_none w (a *ℚ b) unfit)

-- the product fits, and the difference is worked at the width after it
pub settled_rest : (u w : ℕ) (x a b product : ℚ) (r : Result ℚ Unfit) → u ≡ w → a ≢ zero_ℚ → b ≢ zero_ℚ → (product ≡ a *ℚ b) × FitsWidth w (a *ℚ b)
    → Exact u (x -ℚ product) r → Settles w (less x a b) r
settled_rest u w x a b product r same left right fits exact =
    settles_too u w (less x a b) (work (x -ℚ product)) r
    (ap (settle w) (less-some x a b left right)
    ∙ settle-bind w (work (a *ℚ b)) (λ p. work (x -ℚ p)) (a *ℚ b) (settle-work w (a *ℚ b) fits.1)
    ∙ ap (λ p. settle w (work (x -ℚ p))) (sym fits.0)
    ∙ ap (λ v. settle v (work (x -ℚ product))) (sym same))
    (settles-exact u (x -ℚ product) r exact)

-- the same of a sum
pub skipped_sum : (w : ℕ) (x a b : ℚ) → (a ≡ zero_ℚ) ⊎ (b ≡ zero_ℚ) → settle w (more x a b) ≡ Some x
skipped_sum w x a b none = ap (settle w) (more-none x a b none) ∙ settle-done w x

pub unfit_sum : (w : ℕ) (x a b : ℚ) → a ≢ zero_ℚ → b ≢ zero_ℚ → ¬ FitsWidth w (a *ℚ b) → settle w (more x a b) ≡ None
unfit_sum w x a b left right unfit =
    ap (settle w) (more-some x a b left right) ∙ settle-bind_none w (work (a *ℚ b)) (λ product. work (x +ℚ product)) (settle-work_none w (a *ℚ b) unfit)

pub settled_sum : (u w : ℕ) (x a b product : ℚ) (r : Result ℚ Unfit) → u ≡ w → a ≢ zero_ℚ → b ≢ zero_ℚ → (product ≡ a *ℚ b) × FitsWidth w (a *ℚ b)
    → Exact u (x +ℚ product) r → Settles w (more x a b) r
settled_sum u w x a b product r same left right fits exact =
    settles_too u w (more x a b) (work (x +ℚ product)) r
    (ap (settle w) (more-some x a b left right)
    ∙ settle-bind w (work (a *ℚ b)) (λ p. work (x +ℚ p)) (a *ℚ b) (settle-work w (a *ℚ b) fits.1)
    ∙ ap (λ p. settle w (work (x +ℚ p))) (sym fits.0)
    ∙ ap (λ v. settle v (work (x +ℚ product))) (sym same))
    (settles-exact u (x +ℚ product) r exact)

pub left_out : (w : ℕ) (out : Bool) (x a b : ℚ) → out ≡ true → settle w (less_unless out x a b) ≡ Some x
left_out w out x a b e = ap (settle w) (less_unless-out out x a b e) ∙ settle-done w x

pub not_left_out : (w : ℕ) (out : Bool) (x a b : ℚ) (r : Result ℚ Unfit) → out ≡ false → Settles w (less x a b) r → Settles w (less_unless out x a b) r
not_left_out w out x a b r e h = settles_too w w (less_unless out x a b) (less x a b) r (ap (settle w) (less_unless-in out x a b e)) h

-- a test that fails at a number says that it is not 0
pub apart : (b : Bool) (a : ℚ) → IsTrue b ↔ (a ≡ zero_ℚ) → b ≡ false → a ≢ zero_ℚ
apart b a tested fails none =
    let holds : b ≡ true = tested.1 none in
    cc

-- the row of a stored pair is a row of the column
pub row_within : {V : Type 0} (len : ℕ) (pairs : List (ℕ × V)) (k : ℕ) (p : ℕ × V) → IsRising len 0 pairs → k < length pairs → slice_get pairs k ≡ Some p → p.0 < len
row_within len pairs k p rising lt found =
    let below = row_below len 0 pairs rising k p lt in
    omega (arith, below, ap (λ q. q.0) (get_or_from_slice_get pairs k p p found))

-- an item that is read is the vector's
pub item_read : (v : List ℚ) (i : ℕ) (x : ℚ) → i < length v → x ≡ get_or v i x → x ≡ at v i
item_read v i x lt e = e ∙ get_or_default v i x zero_ℚ lt

module _ (column : List (ℕ × ℚ)) (k : ℕ) (p : ℕ × ℚ) (lt : k < length column) (found : slice_get column k ≡ Some p) where
  pub next_pair : {B : Type 0} (walk : List (ℕ × ℚ) → B) → walk (drop k column) ≡ walk (p ∷ drop (k + 1) column)
  next_pair walk = at_drop_more walk column k p lt ∙ ap (λ q. walk (q ∷ drop (k + 1) column)) (get_or_from_slice_get column k p p found)

  -- the next part of each loop
  pub gather_parts : (skip : ℕ) (v : List ℚ) (r x : ℚ) → x ≡ at v p.0
      → gather skip v r (drop k column) ≡ bind (less_unless (eqb p.0 skip) r p.1 x) (λ rest. gather skip v rest (drop (k + 1) column))
  gather_parts skip v r x item =
      next_pair (gather skip v r)
      ∙ ap (λ y. bind (less_unless (eqb p.0 skip) r p.1 y) (λ rest. gather skip v rest (drop (k + 1) column))) (sym item)

  pub subtract_parts : (skip : ℕ) (x : ℚ) (v : List ℚ) (y : ℚ) → y ≡ at v p.0
      → subtract skip x v (drop k column) ≡ bind (less_unless (eqb p.0 skip) y p.1 x) (λ item. subtract skip x (set v p.0 item) (drop (k + 1) column))
  subtract_parts skip x v y item =
      next_pair (subtract skip x v)
      ∙ ap (λ z. bind (less_unless (eqb p.0 skip) z p.1 x) (λ item. subtract skip x (set v p.0 item) (drop (k + 1) column))) (sym item)

pub gather_ends : (column : List (ℕ × ℚ)) (k skip : ℕ) (v : List ℚ) (r : ℚ) → length column ≤ k → gather skip v r (drop k column) ≡ done r
gather_ends column k skip v r le = at_drop_all (gather skip v r) column k le

pub subtract_ends : (column : List (ℕ × ℚ)) (k skip : ℕ) (x : ℚ) (v : List ℚ) → length column ≤ k → subtract skip x v (drop k column) ≡ done v
subtract_ends column k skip x v le = at_drop_all (subtract skip x v) column k le

-- where x is 0 nothing is worked, and the vector stays
pub subtract_none : (w skip : ℕ) (x : ℚ) (v : List ℚ) (column : List (ℕ × ℚ)) → x ≡ zero_ℚ → settle w (subtract skip x v column) ≡ Some v
subtract_none w skip x v [] none = settle-done w v
subtract_none w skip x v (p ∷ column) none =
    settle-bind w (less_unless (eqb p.0 skip) (at v p.0) p.1 x) (λ item. subtract skip x (set v p.0 item) column) (at v p.0) (unworked (eqb p.0 skip) refl)
    ∙ ap (λ u. settle w (subtract skip x u column)) (set-get_or v p.0 zero_ℚ)
    ∙ subtract_none w skip x v column none
  where
    unworked : (out : Bool) → eqb p.0 skip ≡ out → settle w (less_unless (eqb p.0 skip) (at v p.0) p.1 x) ≡ Some (at v p.0)
    unworked true e = left_out w (eqb p.0 skip) (at v p.0) p.1 x e
    unworked false e = ap (settle w) (less_unless-in (eqb p.0 skip) (at v p.0) p.1 x e) ∙ skipped w (at v p.0) p.1 x (inr none)
