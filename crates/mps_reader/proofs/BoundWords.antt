-- Words that are no kind of bound.
use Rattle.std.specs.Prelude.{◌≡◌, ◌≢◌, ℕ, suc, List, [], ◌∷◌, length, false, ◌==◌, Err, codes}
use Rattle.std.proofs.Common.{refl, ap}
use Rattle.std.proofs.Math.Bool.{and-false}
use Rattle.lp_model.specs.Edit.{same_bytes}
use Rattle.lp_text.specs.declared.LineFault.TheVariants as fault
use Rattle.mps_model.specs.DeckSoFar.{is_among}
use Rattle.mps_model.specs.BoundCards.{integer_kinds, kind_of}

-- words of other lengths are other words
unequal : (a b : List ℕ) → length a ≢ length b → same_bytes a b ≡ false
unequal [] [] h = absurd (h refl)
unequal [] (d ∷ ds) h = refl
unequal (c ∷ cs) [] h = refl
unequal (c ∷ cs) (d ∷ ds) h = rw (unequal cs ds (λ e. h (ap suc e))) (and-false (c == d))

no_integer_kind : (word : List ℕ) → length word ≢ 2 → is_among word integer_kinds ≡ false
no_integer_kind word h = rw (unequal word (codes "BV") h) (rw (unequal word (codes "LI") h) (rw (unequal word (codes "UI") h) (rw (unequal word (codes "SC") h) refl)))

-- each kind has two letters
pub no_kind : (word : List ℕ) → length word ≢ 2 → kind_of word ≡ Err fault.Bound
no_kind word h =
    rw (unequal word (codes "UP") h) (rw (unequal word (codes "LO") h) (rw (unequal word (codes "FX") h)
    (rw (unequal word (codes "FR") h) (rw (unequal word (codes "MI") h) (rw (unequal word (codes "PL") h)
    (rw (no_integer_kind word h) refl))))))
