-- Factoring reads the entries of its own rows and positions alone: two matrices that agree there have one calculation.
use Rattle.std.proofs.Common.{◌≡◌, ℕ, zero, suc, ◌+◌, ◌*◌, ◌-◌, ◌<◌, Bool, true, false, not, cond, eqb, ltb, ◌&&◌, List, [], ◌∷◌, ◌++◌, map, Some, None, inl, inr, ⊎_elim, refl, sym, ◌∙◌, ap, ap₂, subst}
use Rattle.std.specs.List.{AllByRecursion, range_with_len, filter, flat_map, count_by, fold}
use Rattle.std.proofs.lemmas.List.Sorted.{IsPermutation-refl}
use Rattle.rational.specs.Rational.{ℚ, zero_ℚ, eq_ℚ}
use Rattle.rational.specs.Sparse.{upto}
use Rattle.rational.specs.Sum.{at}
use Rattle.rational.specs.Worked.{Worked, done, bind, less, quotient}
use Rattle.factor_model.specs.declared.Op.{Op}
use Rattle.factor_model.specs.Vectors.{matrix_column, sparse}
use Rattle.factor_model.specs.Eta.{apply}
use Rattle.factor_model.specs.Upper.{Triangle, In}
use Rattle.factor_model.specs.Represents.{Represents}
use Rattle.factor_model.specs.Factoring.{Elimination, Eliminated, whole, is_entry, cost, active_entries, better, first_least, least, with_entry, less_row, eliminated_by, eliminate, others, with_pivot, pivoted, eliminated, row_paired, form_of, factored_by, start, factored, fresh, made_factors}
use Rattle.factor_model.proofs.EditLaws.{in_others}
use Rattle.factor_model.proofs.Orders.{whole_below}
use Rattle.factor_model.proofs.FactorReaches.{all_map}
use Rattle.factor_model.proofs.FactorStands.{IsActive, least-cases, rows-active, eliminated-none, eliminated-some}

-- ---- calculations that work the same values

-- they work the same values, and their answers stand so to one another
record IsAlike {A B : Type 0} (R : A → B → Type 0) (c : Worked A) (d : Worked B) : Type 0 where
  values : c.values ≡ d.values
  answers : R c.answer d.answer

alike-done : {A B : Type 0} (R : A → B → Type 0) (a : A) (b : B) → R a b → IsAlike R (done a) (done b)
unfolding done
alike-done R a b stand = record { values = refl; answers = stand }

alike-bind : {A B C D : Type 0} (R : A → B → Type 0) (S : C → D → Type 0) (c : Worked A) (d : Worked B) (f : A → Worked C) (g : B → Worked D) → IsAlike R c d
    → ((a : A) (b : B) → R a b → IsAlike S (f a) (g b)) → IsAlike S (bind c f) (bind d g)
unfolding bind
alike-bind R S c d f g first rest =
    let then = rest c.answer d.answer first.answers in
    record { values = ap₂ (λ x y. x ++ y) first.values then.values; answers = then.answers }

alike-of : {A : Type 0} (c d : Worked A) → c ≡ d → IsAlike (λ x y. x ≡ y) c d
alike-of {A} c d e = record { values = ap (λ (w : Worked A). w.values) e; answers = ap (λ (w : Worked A). w.answer) e }

same_from_alike : {A : Type 0} (c d : Worked A) → IsAlike (λ x y. x ≡ y) c d → c ≡ d
same_from_alike c d alike = ap₂ (λ v a. record { values = v; answer = a }) alike.values alike.answers

alike-cond : {A B : Type 0} (R : A → B → Type 0) (s t : Bool) (c e : Worked A) (d f : Worked B) → s ≡ t → IsAlike R c d → IsAlike R e f → IsAlike R (cond s c e) (cond t d f)
alike-cond R s t c e d f same first second = subst (λ b. IsAlike R (cond s c e) (cond b d f)) same (by_test s)
  where
    by_test : (b : Bool) → IsAlike R (cond b c e) (cond b d f)
    by_test true = first
    by_test false = second

-- ---- lists

map-same : {A B : Type 0} (f g : A → B) (xs : List A) → AllByRecursion (λ x. f x ≡ g x) xs → map f xs ≡ map g xs
map-same f g [] same = refl
map-same f g (x ∷ xs) same = ap₂ (λ y ys. y ∷ ys) same.0 (map-same f g xs same.1)

all_in : (P : ℕ → Type 0) (xs : List ℕ) → ((x : ℕ) → In x xs → P x) → AllByRecursion P xs
all_in P [] h = tt
all_in P (x ∷ xs) h = (h x (inl refl), all_in P xs (λ y held. h y (inr held)))

filter-same : (f g : ℕ → Bool) (xs : List ℕ) → AllByRecursion (λ x. f x ≡ g x) xs → filter f xs ≡ filter g xs
filter-same f g [] same = refl
filter-same f g (x ∷ xs) same = ap₂ (λ b ys. cond b (x ∷ ys) ys) same.0 (filter-same f g xs same.1)

count-same : (f g : ℕ → Bool) (xs : List ℕ) → AllByRecursion (λ x. f x ≡ g x) xs → count_by f xs ≡ count_by g xs
count-same f g xs same = from 0 xs same
  where
    from : (k : ℕ) (ys : List ℕ) → AllByRecursion (λ x. f x ≡ g x) ys → fold (λ a x. a + cond (f x) 1 0) k ys ≡ fold (λ a x. a + cond (g x) 1 0) k ys
    from k [] same = refl
    from k (y ∷ ys) same = from (k + cond (f y) 1 0) ys same.1 ∙ ap (λ b. fold (λ a x. a + cond (g x) 1 0) (k + cond b 1 0) ys) same.0

flat_map-same : {A : Type 0} (f g : ℕ → List A) (xs : List ℕ) → AllByRecursion (λ x. f x ≡ g x) xs → flat_map f xs ≡ flat_map g xs
flat_map-same f g [] same = refl
flat_map-same f g (x ∷ xs) same = ap₂ (λ y ys. y ++ ys) same.0 (flat_map-same f g xs same.1)

first_least-same : (f g : ℕ × ℕ → ℕ) (best : ℕ × ℕ) (entries : List (ℕ × ℕ)) → f best ≡ g best → AllByRecursion (λ x. f x ≡ g x) entries
    → first_least f (Some best) entries ≡ first_least g (Some best) entries
first_least-same f g best [] e same = refl
first_least-same f g best (entry ∷ entries) e same =
    first_least-same f g (better f (Some best) entry) entries (either (ltb (f entry) (f best))) same.1
    ∙ ap (λ x. first_least g (Some x) entries) (ap₂ (λ x y. cond (ltb x y) entry best) same.0 e)
  where
    either : (t : Bool) → f (cond t entry best) ≡ g (cond t entry best)
    either true = same.0
    either false = e

first_least-start : (f g : ℕ × ℕ → ℕ) (entries : List (ℕ × ℕ)) → AllByRecursion (λ x. f x ≡ g x) entries → first_least f None entries ≡ first_least g None entries
first_least-start f g [] same = refl
first_least-start f g (entry ∷ entries) same = first_least-same f g entry entries same.0 same.1

-- ---- matrices that agree

-- the same entries in rows and positions below n
abbrev pub Agree : ℕ → (ℕ → ℕ → ℚ) → (ℕ → ℕ → ℚ) → Type 0
Agree n a b = (i p : ℕ) → i < n → p < n → a i p ≡ b i p

pub upto-below : (n p : ℕ) → In p (upto n) → p < n
upto-below n p held = whole_below n (upto n) (IsPermutation-refl (range_with_len 0 n)) p held

module _ (n : ℕ) where
  agree-with_entry : (a b : ℕ → ℕ → ℚ) (i p : ℕ) (x y : ℚ) → x ≡ y → Agree n a b → Agree n (with_entry a i p x) (with_entry b i p y)
  agree-with_entry a b i p x y e agree j q lt below = ap₂ (λ s t. cond (eqb j i && eqb q p) s t) e (agree j q lt below)

  alike-less_row : (r i : ℕ) (k : ℚ) → r < n → i < n → (ps : List ℕ) → ((p : ℕ) → In p ps → p < n) → (a b : ℕ → ℕ → ℚ) → Agree n a b
      → IsAlike (Agree n) (less_row a r i k ps) (less_row b r i k ps)
  alike-less_row r i k row own [] within a b agree = alike-done (Agree n) a b agree
  alike-less_row r i k row own (p ∷ ps) within a b agree =
      let below = within p (inl refl) in
      alike-bind (λ x y. x ≡ y) (Agree n) (less (a i p) k (a r p)) (less (b i p) k (b r p)) (λ x. less_row (with_entry a i p x) r i k ps) (λ x. less_row (with_entry b i p x) r i k ps)
      (alike-of (less (a i p) k (a r p)) (less (b i p) k (b r p)) (ap₂ (λ x y. less x k y) (agree i p own below) (agree r p row below)))
      (λ x y e. alike-less_row r i k row own ps (λ q held. within q (inr held)) (with_entry a i p x) (with_entry b i p y) (agree-with_entry a b i p x y e agree))

  alike-eliminated_by : (r c i : ℕ) (k : ℚ) → r < n → i < n → (ps : List ℕ) → ((p : ℕ) → In p ps → p < n) → (a b : ℕ → ℕ → ℚ) → Agree n a b
      → IsAlike (Agree n) (eliminated_by a r c ps i k) (eliminated_by b r c ps i k)
  unfolding eliminated_by
  alike-eliminated_by r c i k row own ps within a b agree =
      alike-bind (Agree n) (Agree n) (less_row a r i k ps) (less_row b r i k ps) (λ m. done (with_entry m i c zero_ℚ)) (λ m. done (with_entry m i c zero_ℚ))
      (alike-less_row r i k row own ps within a b agree)
      (λ x y h. alike-done (Agree n) (with_entry x i c zero_ℚ) (with_entry y i c zero_ℚ) (agree-with_entry x y i c zero_ℚ zero_ℚ refl h))

  abbrev AgreeLeft : Eliminated → Eliminated → Type 0
  AgreeLeft x y = Agree n x.0 y.0 × (x.1 ≡ y.1)

  alike-eliminate : (r c : ℕ) → r < n → c < n → (ps : List ℕ) → ((p : ℕ) → In p ps → p < n) → (rows : List ℕ) → ((i : ℕ) → In i rows → i < n)
      → (a b : ℕ → ℕ → ℚ) (ks : List (ℕ × ℚ)) → Agree n a b → IsAlike AgreeLeft (eliminate r c ps a ks rows) (eliminate r c ps b ks rows)
  alike-eliminate r c row position ps within [] below a b ks agree = alike-done AgreeLeft (a, ks) (b, ks) (agree, refl)
  alike-eliminate r c row position ps within (i ∷ rows) below a b ks agree =
      let own = below i (inl refl) in
      let later : (m d : ℕ → ℕ → ℚ) (ls : List (ℕ × ℚ)) → Agree n m d → IsAlike AgreeLeft (eliminate r c ps m ls rows) (eliminate r c ps d ls rows) =
      alike-eliminate r c row position ps within rows (λ j held. below j (inr held)) in
      let one = λ (m : ℕ → ℕ → ℚ) (k : ℚ). bind (eliminated_by m r c ps i k) (λ d. eliminate r c ps d (ks ++ (i, k) ∷ []) rows) in
      alike-cond AgreeLeft (eq_ℚ (a i c) zero_ℚ) (eq_ℚ (b i c) zero_ℚ) (eliminate r c ps a ks rows) (bind (quotient (a i c) (a r c)) (one a))
      (eliminate r c ps b ks rows) (bind (quotient (b i c) (b r c)) (one b))
      (ap (λ x. eq_ℚ x zero_ℚ) (agree i c own position))
      (later a b ks agree)
      (alike-bind (λ x y. x ≡ y) AgreeLeft (quotient (a i c) (a r c)) (quotient (b i c) (b r c)) (one a) (one b)
      (alike-of (quotient (a i c) (a r c)) (quotient (b i c) (b r c)) (ap₂ (λ x y. quotient x y) (agree i c own position) (agree r c row position)))
      (λ x y e.
      subst (λ z. IsAlike AgreeLeft (one a x) (one b z)) e
      (alike-bind (Agree n) AgreeLeft (eliminated_by a r c ps i x) (eliminated_by b r c ps i x)
      (λ d. eliminate r c ps d (ks ++ (i, x) ∷ []) rows) (λ d. eliminate r c ps d (ks ++ (i, x) ∷ []) rows)
      (alike-eliminated_by r c i x row own ps within a b agree)
      (λ m d h. later m d (ks ++ (i, x) ∷ []) h))))

-- ---- eliminations whose matrices agree

abbrev with_matrix : Elimination → (ℕ → ℕ → ℚ) → Elimination
with_matrix e a = record { matrix = a; rows = e.rows; positions = e.positions; ops = e.ops; pivots = e.pivots }

-- one is the other with another matrix, which agrees with its own, and has rows and positions below n
record AreAlike (n : ℕ) (e f : Elimination) : Type 0 where
  matrix : ℕ → ℕ → ℚ
  is : f ≡ with_matrix e matrix
  agree : Agree n e.matrix matrix
  rows : (i : ℕ) → In i e.rows → i < n
  positions : (p : ℕ) → In p e.positions → p < n

module _ (n : ℕ) (e : Elimination) (b : ℕ → ℕ → ℚ) (agree : Agree n e.matrix b) (rows : (i : ℕ) → In i e.rows → i < n) (positions : (p : ℕ) → In p e.positions → p < n) where
  entry-same : (r p : ℕ) → r < n → p < n → is_entry e r p ≡ is_entry (with_matrix e b) r p
  entry-same r p lt below = ap (λ x. not (eq_ℚ x zero_ℚ)) (agree r p lt below)

  entries-same : active_entries e ≡ active_entries (with_matrix e b)
  entries-same =
      flat_map-same (λ r. map (λ p. (r, p)) (filter (λ p. is_entry e r p) e.positions)) (λ r. map (λ p. (r, p)) (filter (λ p. is_entry (with_matrix e b) r p) e.positions)) e.rows
      (all_in _ e.rows
      (λ r held. ap (map (λ p. (r, p))) (filter-same (is_entry e r) (is_entry (with_matrix e b) r) e.positions (all_in _ e.positions (λ p there. entry-same r p (rows r held) (positions p there))))))

  cost-same : (pivot : ℕ × ℕ) → IsActive e pivot → cost e pivot ≡ cost (with_matrix e b) pivot
  cost-same pivot active =
      ap₂ (λ x y. (x - 1) * (y - 1))
      (count-same (λ p. is_entry e pivot.0 p) (λ p. is_entry (with_matrix e b) pivot.0 p) e.positions
      (all_in _ e.positions (λ p there. entry-same pivot.0 p (rows pivot.0 active.0) (positions p there))))
      (count-same (λ r. is_entry e r pivot.1) (λ r. is_entry (with_matrix e b) r pivot.1) e.rows
      (all_in _ e.rows (λ r held. entry-same r pivot.1 (rows r held) (positions pivot.1 active.1))))

  least-same : least e ≡ least (with_matrix e b)
  least-same =
      first_least-start (cost e) (cost (with_matrix e b)) (active_entries e)
      (all_map (IsActive e) (λ pivot. cost e pivot ≡ cost (with_matrix e b) pivot) cost-same (active_entries e) (rows-active e e.rows (λ r held. held)))
      ∙ ap (first_least (cost (with_matrix e b)) None) entries-same

  alike-pivoted : (pivot : ℕ × ℕ) → IsActive e pivot → IsAlike (AreAlike n) (pivoted n e pivot) (pivoted n (with_matrix e b) pivot)
  unfolding pivoted
  alike-pivoted pivot active =
      let after = with_pivot n e pivot in
      let ps = others pivot.1 e.positions in
      let below = λ (i : ℕ) (held : In i (others pivot.0 e.rows)). rows i (in_others pivot.0 i e.rows held).0 in
      let within = λ (p : ℕ) (held : In p (others pivot.1 e.positions)). positions p (in_others pivot.1 p e.positions held).0 in
      alike-bind (AgreeLeft n) (AreAlike n) (eliminate pivot.0 pivot.1 ps e.matrix [] (others pivot.0 e.rows)) (eliminate pivot.0 pivot.1 ps b [] (others pivot.0 e.rows))
      (λ left. done (after left)) (λ left. done (after left))
      (alike-eliminate n pivot.0 pivot.1 (rows pivot.0 active.0) (positions pivot.1 active.1) ps within (others pivot.0 e.rows) below e.matrix b [] agree)
      (λ x y h.
      alike-done (AreAlike n) (after x) (after y) (record {
        matrix = y.0;
        is = ap (λ ks. after (y.0, ks)) (sym h.1);
        agree = h.0;
        rows = below;
        positions = within;
      }))

  form-same : form_of n e ≡ form_of n (with_matrix e b)
  form-same =
      ap (λ columns. record { columns = columns; rows = map (row_paired e.pivots) (upto n); order = map (λ pivot. pivot.1) e.pivots })
      (map-same (λ p. sparse (matrix_column n e.matrix p)) (λ p. sparse (matrix_column n b p)) (upto n)
      (all_in _ (upto n)
      (λ p below.
      ap sparse (map-same (λ i. e.matrix i p) (λ i. b i p) (upto n) (all_in _ (upto n) (λ i lt. agree i p (upto-below n i lt) (upto-below n p below)))))))

  factored_by-same : (left : List ℕ) → factored_by n e left ≡ factored_by n (with_matrix e b) left
  factored_by-same [] = ap (λ u. done (whole e.ops u)) form-same
  factored_by-same (r ∷ left) = refl

alike-eliminated : (n left : ℕ) (e f : Elimination) → AreAlike n e f → IsAlike (AreAlike n) (eliminated n left e) (eliminated n left f)
alike-eliminated n zero e f alike = alike-done (AreAlike n) e f alike
alike-eliminated n (suc left) e f alike =
    let b = alike.matrix in
    let same = least-same n e b alike.agree alike.rows alike.positions in
    subst (λ x. IsAlike (AreAlike n) (eliminated n (suc left) e) (eliminated n (suc left) x)) (sym alike.is)
    (⊎_elim
    (λ (some : (pivot : ℕ × ℕ) × (least e ≡ Some pivot) × IsActive e pivot).
    let pivot = some.0 in
    subst (λ c. IsAlike (AreAlike n) c (eliminated n (suc left) (with_matrix e b))) (sym (eliminated-some n left e pivot some.1))
    (subst (IsAlike (AreAlike n) (bind (pivoted n e pivot) (λ x. eliminated n left x))) (sym (eliminated-some n left (with_matrix e b) pivot (sym same ∙ some.1)))
    (alike-bind (AreAlike n) (AreAlike n) (pivoted n e pivot) (pivoted n (with_matrix e b) pivot) (λ x. eliminated n left x) (λ x. eliminated n left x)
    (alike-pivoted n e b alike.agree alike.rows alike.positions pivot some.2) (λ x y h. alike-eliminated n left x y h))))
    (λ (none : (least e ≡ None) × ((i p : ℕ) → In i e.rows → In p e.positions → e.matrix i p ≡ zero_ℚ)).
    subst (λ c. IsAlike (AreAlike n) c (eliminated n (suc left) (with_matrix e b))) (sym (eliminated-none n left e none.0))
    (subst (IsAlike (AreAlike n) (done e)) (sym (eliminated-none n left (with_matrix e b) (sym same ∙ none.0)))
    (alike-done (AreAlike n) e (with_matrix e b) (record { matrix = b; is = refl; agree = alike.agree; rows = alike.rows; positions = alike.positions }))))
    (least-cases e))

module _ (n : ℕ) (a b : ℕ → ℕ → ℚ) (agree : Agree n a b) where
  -- matrices that agree in their rows and positions are factored alike
  pub factored-same : factored n a ≡ factored n b
  factored-same =
      same_from_alike (factored n a) (factored n b)
      (alike-bind (AreAlike n) (λ x y. x ≡ y) (eliminated n n (start n a)) (eliminated n n (start n b)) (λ e. factored_by n e e.rows) (λ e. factored_by n e e.rows)
      (alike-eliminated n n (start n a) (start n b) (record { matrix = b; is = refl; agree = agree; rows = upto-below n; positions = upto-below n }))
      (λ e f alike.
      alike-of (factored_by n e e.rows) (factored_by n f f.rows)
      (factored_by-same n e alike.matrix alike.agree alike.rows alike.positions e.rows ∙ ap (λ x. factored_by n x x.rows) (sym alike.is))))

  pub made-same : (base : ℕ) → made_factors n a base ≡ made_factors n b base
  made-same base = ap (λ c. bind c (λ made. done (fresh base made))) factored-same

  -- and factors of the one are factors of the other
  pub represents-same : (ops : List Op) (u : Triangle) → Represents n ops u a → Represents n ops u b
  represents-same ops u factors = record {
    within = factors.within;
    upper = factors.upper;
    columns = λ i p lt below.
        ap (λ v. at (apply v ops).answer i) (sym (map-same (λ j. a j p) (λ j. b j p) (upto n) (all_in _ (upto n) (λ j held. agree j p (upto-below n j held) below))))
        ∙ factors.columns i p lt below;
  }
