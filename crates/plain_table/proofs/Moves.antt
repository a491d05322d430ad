-- Basic values as a column enters.
use Rattle.std.proofs.Common.{◌≡◌, ℕ, ◌<◌, List, length, get_or, Bool, true, false, cond, eqb, Result, Option, Some, None, sym, ◌∙◌, ap, subst}
use Rattle.lp_model.specs.declared.Kind.TheVariants as kind
use Rattle.lp_model.specs.declared.Place.{Place}
use Rattle.rational.specs.Rational.{ℚ, zero_ℚ, ◌+ℚ◌, ◌-ℚ◌}
use Rattle.rational.specs.Sum.{at}
use Rattle.rational.specs.Worked.{Worked, less, more, placed, settle, work}
use Rattle.rational.proofs.Settling.{settle-answer, settle-same}
use Rattle.exact_frac.specs.declared.unfit.Unfit.{Unfit}
use Rattle.exact_frac.specs.Exact.{Exact}
use Rattle.exact_frac.specs.Settles.{Settles}
use Rattle.exact_frac.proofs.Working.{settles-exact}
use Rattle.lp_run.specs.Listing.{AllFit, first_unfit, place}
use Rattle.lp_run.proofs.FirstUnfit.{first-flat_map, fit-placed, unfit-placed}
use Rattle.plain_table.specs.Inner.Values.{entered_by, moved, value_work, values_listing}
use Rattle.plain_table.proofs.Lines.{item_read}

-- what one calculation answers, another one does that is the same
pub settles_as : {A : Type 0} (w : ℕ) (c d : Worked A) (r : Result A Unfit) → d ≡ c → Settles w c r → Settles w d r
settles_as w c d r e h = subst (λ c. Settles w c r) (sym e) h

-- ── the cases ──

module _ (value element ratio : ℚ) (down : Bool) where
  pub moved_down : down ≡ true → moved down value element ratio ≡ more value element ratio
  moved_down e = ap (λ d. cond d (more value element ratio) (less value element ratio)) e

  pub moved_up : down ≡ false → moved down value element ratio ≡ less value element ratio
  moved_up e = ap (λ d. cond d (more value element ratio) (less value element ratio)) e

module _ (rest ratio : ℚ) (down : Bool) where
  pub entered_down : down ≡ true → entered_by down rest ratio ≡ rest -ℚ ratio
  entered_down e = ap (λ d. cond d (rest -ℚ ratio) (rest +ℚ ratio)) e

  pub entered_up : down ≡ false → entered_by down rest ratio ≡ rest +ℚ ratio
  entered_up e = ap (λ d. cond d (rest -ℚ ratio) (rest +ℚ ratio)) e

pub exact_settles : (w : ℕ) (a b : ℚ) (r : Result ℚ Unfit) → b ≡ a → Exact w a r → Settles w (work b) r
exact_settles w a b r e h = settles-exact w b r (subst (λ v. Exact w v r) (sym e) h)

module _ (own down : Bool) (rest value element ratio : ℚ) where
  pub work_own : own ≡ true → value_work own down rest value element ratio ≡ work (entered_by down rest ratio)
  work_own e = ap (λ o. cond o (work (entered_by down rest ratio)) (moved down value element ratio)) e

  pub work_other : own ≡ false → value_work own down rest value element ratio ≡ moved down value element ratio
  work_other e = ap (λ o. cond o (work (entered_by down rest ratio)) (moved down value element ratio)) e

-- ── position by position ──

module _ (w u : ℕ) (same : u ≡ w) (k p : ℕ) (down : Bool) (rest ratio : ℚ) (values column : List ℚ) (i : ℕ) (x y : ℚ) (b : i < length values)
    (b' : i < length column) (left : x ≡ get_or values i x) (right : y ≡ get_or column i y) where
  there : value_work (eqb i p) down rest (at values i) (at column i) ratio ≡ value_work (eqb i p) down rest x y ratio
  there = sym (ap (λ x. value_work (eqb i p) down rest x y ratio) (item_read values i x zero_ℚ b left)
      ∙ ap (λ y. value_work (eqb i p) down rest (at values i) y ratio) (item_read column i y zero_ℚ b' right))

  settled : (o : Option ℚ) → settle u (value_work (eqb i p) down rest x y ratio) ≡ o → settle w (value_work (eqb i p) down rest (at values i) (at column i) ratio) ≡ o
  settled o e = settle-same u w (value_work (eqb i p) down rest (at values i) (at column i) ratio) (value_work (eqb i p) down rest x y ratio) o (sym same) there e

  pub value_fits : (v : ℚ) → settle u (value_work (eqb i p) down rest x y ratio) ≡ Some v
      → AllFit w (placed (place k kind.Value (Some i) None) (value_work (eqb i p) down rest (at values i) (at column i) ratio))
  value_fits v e = fit-placed w (place k kind.Value (Some i) None) (value_work (eqb i p) down rest (at values i) (at column i) ratio) v (settled (Some v) e)

  pub value_is : (v : ℚ) → settle u (value_work (eqb i p) down rest x y ratio) ≡ Some v → v ≡ (value_work (eqb i p) down rest (at values i) (at column i) ratio).answer
  value_is v e = sym (settle-answer w (value_work (eqb i p) down rest (at values i) (at column i) ratio) v (settled (Some v) e))

  pub value_unfit : (here : Place) → here ≡ place k kind.Value (Some i) None
      → ((l : ℕ) → l < i → AllFit w (placed (place k kind.Value (Some l) None) (value_work (eqb l p) down rest (at values l) (at column l) ratio)))
      → settle u (value_work (eqb i p) down rest x y ratio) ≡ None → first_unfit w (values_listing k p down rest ratio values column) ≡ Some here
  value_unfit here is before e =
      first-flat_map w (λ i. placed (place k kind.Value (Some i) None) (value_work (eqb i p) down rest (at values i) (at column i) ratio)) (length values) i (place k kind.Value (Some i) None) b before
      (unfit-placed w (place k kind.Value (Some i) None) (value_work (eqb i p) down rest (at values i) (at column i) ratio) (settled None e))
      ∙ ap Some (sym is)
