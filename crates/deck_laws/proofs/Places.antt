-- Names that differ, and where they stand in lists.
use Rattle.std.proofs.Common.{◌≡◌, ℕ, ◌+◌, Bool, true, false, not, cond, List, [], ◌∷◌, ◌++◌, length, map, get_or, set, position, Some, None, refl, sym, ap, subst, ◌∙◌, arith}
use Rattle.std.proofs.Common.{append_assoc, length-append, inl, inr}
use Rattle.std.specs.Prelude.{nat_lt}
use Rattle.std.specs.List.{All, AllByRecursion, IsDistinct, position_or_len}
use Rattle.std.proofs.lemmas.Bool.{cases_Bool, le-ltb, lt-ltb, true≢false}
use Rattle.lp_model.specs.Edit.{same_bytes}
use Rattle.lp_text.proofs.SameBytes.{same_bytes-equal, same_bytes-own}

-- names that differ, differ the other way round
pub differ-turned : (x y : List ℕ) → same_bytes x y ≡ false → same_bytes y x ≡ false
differ-turned x y h = elim (cases_Bool (same_bytes y x)) [
  | inl same ↦ absurd (true≢false (sym (ap (λ z. same_bytes x z) (same_bytes-equal y x same) ∙ same_bytes-own x) ∙ h))
  | inr other ↦ other
]

-- ── the first that passes ──

module _ {X : Type 0} (p : X → Bool) where
  -- none passes
  abbrev pub NonePass : List X → Type 0
  NonePass xs = AllByRecursion (λ x. p x ≡ false) xs

  len-at : (done : List X) (x : X) (rest : List X) → NonePass done → p x ≡ true → position_or_len p (done ++ x ∷ rest) ≡ length done
  len-at [] x rest none here = ap (λ b. cond (not b) (1 + position_or_len p rest) 0) here
  len-at (y ∷ done) x rest none here = ap (λ b. cond (not b) (1 + position_or_len p (done ++ x ∷ rest)) 0) none.0 ∙ omega (arith, len-at done x rest none.1 here)

  -- the first stands behind those that do not pass
  pub position-at : (done : List X) (x : X) (rest : List X) → NonePass done → p x ≡ true → position p (done ++ x ∷ rest) ≡ Some (length done)
  position-at done x rest none here =
      ap (λ n. cond (nat_lt n (length (done ++ x ∷ rest))) (Some n) None) (len-at done x rest none here)
      ∙ ap (λ b. cond b (Some (length done)) None) (lt-ltb (length done) (length (done ++ x ∷ rest)) (omega (arith, length-append done (x ∷ rest))))

  len-none : (xs : List X) → NonePass xs → position_or_len p xs ≡ length xs
  len-none [] none = refl
  len-none (x ∷ xs) none = ap (λ b. cond (not b) (1 + position_or_len p xs) 0) none.0 ∙ omega (arith, len-none xs none.1)

  pub position-none : (xs : List X) → NonePass xs → position p xs ≡ None
  position-none xs none =
      ap (λ n. cond (nat_lt n (length xs)) (Some n) None) (len-none xs none) ∙ ap (λ b. cond b (Some (length xs)) None) (le-ltb (length xs) (length xs) (omega arith))

  pub none-both : (xs ys : List X) → NonePass xs → NonePass ys → NonePass (xs ++ ys)
  none-both [] ys h k = k
  none-both (x ∷ xs) ys h k = (h.0, none-both xs ys h.1 k)

module _ {X Y : Type 0} (p : Y → Bool) (f : X → Y) where
  pub none-map : (xs : List X) → NonePass (λ x. p (f x)) xs → NonePass p (map f xs)
  none-map [] h = tt
  none-map (x ∷ xs) h = (h.0, none-map xs h.1)

-- ── edits at the end of what stands before ──

module _ {X : Type 0} where
  pub get-at : (done : List X) (x : X) (rest : List X) (d : X) → get_or (done ++ x ∷ rest) (length done) d ≡ x
  get-at [] x rest d = refl
  get-at (y ∷ done) x rest d = get-at done x rest d

  pub set-at : (done : List X) (x y : X) (rest : List X) → set (done ++ x ∷ rest) (length done) y ≡ done ++ y ∷ rest
  set-at [] x y rest = refl
  set-at (z ∷ done) x y rest = ap (λ l. z ∷ l) (set-at done x y rest)

-- what holds of all holds of one
pub all-at : {X : Type 0} (P : X → Type 0) (done : List X) (x : X) (rest all : List X) → done ++ x ∷ rest ≡ all → All P all → P x
all-at P done x rest all e h =
    subst P (get-at done x rest x) (subst (λ xs. All P xs) (sym e) h (length done) x (omega (arith, length-append done (x ∷ rest))))

-- one more of what is done
pub one_more : {X : Type 0} (done : List X) (x : X) (rest all : List X) → done ++ x ∷ rest ≡ all → (done ++ x ∷ []) ++ rest ≡ all
one_more done x rest all e = append_assoc done (x ∷ []) rest ∙ e

-- ── names ──

module _ {X : Type 0} (name_of : X → List ℕ) where
  abbrev pub AreDistinct : List X → Type 0
  AreDistinct xs = IsDistinct same_bytes (map name_of xs)

  -- the name is that of none of them
  abbrev pub IsNew : List ℕ → List X → Type 0
  IsNew name xs = AllByRecursion (λ x. same_bytes (name_of x) name ≡ false) xs

  pub new-at : (n : List ℕ) (done : List X) (x : X) (rest : List X) → AllByRecursion (λ y. same_bytes n y ≡ false) (map name_of (done ++ x ∷ rest)) → same_bytes n (name_of x) ≡ false
  new-at n [] x rest h = h.0
  new-at n (y ∷ done) x rest h = new-at n done x rest h.1

  -- each name differs from those before
  pub new-here : (done : List X) (x : X) (rest : List X) → AreDistinct (done ++ x ∷ rest) → IsNew (name_of x) done
  unfolding IsDistinct
  new-here [] x rest h = tt
  new-here (y ∷ done) x rest h = (new-at (name_of y) done x rest h.0, new-here done x rest h.1)

  -- and from those behind
  pub new-behind : (done : List X) (x : X) (rest : List X) → AreDistinct (done ++ x ∷ rest) → AllByRecursion (λ y. same_bytes (name_of y) (name_of x) ≡ false) rest
  unfolding IsDistinct
  new-behind [] x rest h = turned rest h.0
    where
      turned : (ys : List X) → AllByRecursion (λ n. same_bytes (name_of x) n ≡ false) (map name_of ys) → AllByRecursion (λ y. same_bytes (name_of y) (name_of x) ≡ false) ys
      turned [] h = tt
      turned (y ∷ ys) h = (differ-turned (name_of x) (name_of y) h.0, turned ys h.1)
  new-behind (y ∷ done) x rest h = new-behind done x rest h.1

  -- a name that differs from all
  pub new-of-all : (n : List ℕ) (xs : List X) → AllByRecursion (λ y. same_bytes n y ≡ false) (map name_of xs) → IsNew n xs
  new-of-all n [] h = tt
  new-of-all n (x ∷ xs) h = (differ-turned n (name_of x) h.0, new-of-all n xs h.1)
