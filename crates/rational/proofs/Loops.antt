-- A loop that works values, one part after another. Its invariant is one equation: what is left from here settles as all of it
-- did from the start, which `o` stands for.
use Rattle.std.proofs.Common.{◌≡◌, ℕ, Option, Some, None, refl, sym, ◌∙◌, ap}
use Rattle.rational.specs.Worked.{Worked, done, bind, settle}
use Rattle.rational.proofs.Settling.{settle-bind, settle-bind_none, settle-done, settle-same}

module _ {A B : Type 0} (u w : ℕ) (width : u ≡ w) (c : Worked A) (f : A → Worked B) (left : Worked B) (parts : left ≡ bind c f) (o : Option B) (invariant : settle w left ≡ o) where
  -- a part that settles: the rest is left
  pub step_settles : (a : A) → settle u c ≡ Some a → settle w (f a) ≡ o
  step_settles a e =
      sym (settle-bind w c f a (settle-same u w c c (Some a) (sym width) refl e)) ∙ ap (settle w) (sym parts) ∙ invariant

  -- a part that does not: nothing settles
  pub step_stops : settle u c ≡ None → o ≡ None
  step_stops e = sym invariant ∙ ap (settle w) parts ∙ settle-bind_none w c f (settle-same u w c c None (sym width) refl e)

-- at the loop's end nothing is left to work
pub all_worked : {B : Type 0} (w : ℕ) (left : Worked B) (b : B) (o : Option B) → left ≡ done b → settle w left ≡ o → o ≡ Some b
all_worked w left b o none invariant = sym invariant ∙ ap (settle w) none ∙ settle-done w b
