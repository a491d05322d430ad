-- A run has fewer entries than twice three to the number of columns: each phase has at most that many lists of statuses, and none comes twice.
use Rattle.std.proofs.Common.{◌≡◌, ◌≢◌, ℕ, zero, suc, ◌+◌, ◌*◌, ◌^◌, ◌<◌, ◌≤◌, List, [], ◌∷◌, ◌++◌, length, get_or, IsSome, None, Option, Bool, true, false, ◌||◌, eqb, ne_eqb, refl, sym, ◌∙◌, ap, subst, arith}
use Rattle.std.proofs.lemmas.Bool.{eqb-true}
use Rattle.std.proofs.lemmas.List.Sums.{count_by-le-length}
use Rattle.std.proofs.lemmas.Map.Steps.{length-le_from_distinct_below}
use Rattle.std.proofs.Math.Nat.{pow-suc}
use Rattle.std.specs.List.{AllByRecursion, IsDistinct, list_any}
use Rattle.lp_model.specs.declared.Entry.{Entry}
use Rattle.lp_model.specs.declared.Phase.{Phase}
use Rattle.lp_model.specs.declared.Phase.TheVariants.{One, Two}
use Rattle.lp_model.specs.declared.Status.{Status}
use Rattle.lp_model.specs.declared.Status.TheVariants as status
use Rattle.rational.specs.Rational.{ℚ}
use Rattle.lp_model.specs.Deck.{Interval}
use Rattle.lp_run.specs.Instance.{Instance, bounds, column_count}
use Rattle.lp_run.specs.Run.{Leads}
use Rattle.lp_model.specs.Log.{is_move, moves}
use Rattle.lp_run.specs.State.{State, after, status_of}
use Rattle.bland_laws.specs.Kept.{IsBounded}
use Rattle.lp_run.specs.State.{NamesEnd}
use Rattle.bland_laws.proofs.Cycles.{leads_on, no_return}
use Rattle.bland_laws.proofs.Holding.{Holds}
use Rattle.bland_laws.proofs.Phases.{next_holds}

-- ── a list of statuses as a number to the base three ──

-- at its bounds a column is basic or at an end, or it has no end and is basic or at 0
abbrev digit : Status → ℕ
digit status.Basic = 0
digit status.Lower = 1
digit status.Upper = 2
digit status.Zero = 1

digit_below : (st : Status) → digit st < 3
digit_below status.Basic = omega arith
digit_below status.Lower = omega arith
digit_below status.Upper = omega arith
digit_below status.Zero = omega arith

no_end : {P : Type 0} (o : Option ℚ) → IsSome o → o ≡ None → P
no_end o some none = cc (subst IsSome none some)

same_status : (st st' : Status) (i : Interval) → digit st ≡ digit st' → NamesEnd st i → NamesEnd st' i → st ≡ st'
same_status status.Basic status.Basic i e s t = refl
same_status status.Basic status.Lower i e s t = absurd (omega arith)
same_status status.Basic status.Upper i e s t = absurd (omega arith)
same_status status.Basic status.Zero i e s t = absurd (omega arith)
same_status status.Lower status.Basic i e s t = absurd (omega arith)
same_status status.Lower status.Lower i e s t = refl
same_status status.Lower status.Upper i e s t = absurd (omega arith)
same_status status.Lower status.Zero i e s t = no_end i.lower s t.0
same_status status.Upper status.Basic i e s t = absurd (omega arith)
same_status status.Upper status.Lower i e s t = absurd (omega arith)
same_status status.Upper status.Upper i e s t = refl
same_status status.Upper status.Zero i e s t = absurd (omega arith)
same_status status.Zero status.Basic i e s t = absurd (omega arith)
same_status status.Zero status.Lower i e s t = no_end i.lower t s.0
same_status status.Zero status.Upper i e s t = absurd (omega arith)
same_status status.Zero status.Zero i e s t = refl

abbrev number : List Status → ℕ
number [] = 0
number (st ∷ sts) = digit st + 3 * number sts

number_below : (sts : List Status) → number sts < 3 ^ length sts
number_below [] = omega arith
number_below (st ∷ sts) = omega (arith, pow-suc 3 (length sts), digit_below st, number_below sts)

parts : (a b x y : ℕ) → a < 3 → b < 3 → a + 3 * x ≡ b + 3 * y → (a ≡ b) × (x ≡ y)
parts a b x y h k e = (omega arith, omega arith)

same_digits : (xs ys : List Status) → length xs ≡ length ys → number xs ≡ number ys → (j : ℕ)
    → digit (get_or xs j status.Lower) ≡ digit (get_or ys j status.Lower)
same_digits [] [] l e j = refl
same_digits [] (y ∷ ys) l e j = absurd (omega arith)
same_digits (x ∷ xs) [] l e j = absurd (omega arith)
same_digits (x ∷ xs) (y ∷ ys) l e zero = (parts (digit x) (digit y) (number xs) (number ys) (digit_below x) (digit_below y) e).0
same_digits (x ∷ xs) (y ∷ ys) l e (suc j) =
    same_digits xs ys (omega arith) (parts (digit x) (digit y) (number xs) (number ys) (digit_below x) (digit_below y) e).1 j

-- ── a state as a number ──

abbrev code_of : Phase → (big a : ℕ) → ℕ
code_of One big a = a
code_of Two big a = big + a

code_below : (f : Phase) (big a : ℕ) → a < big → code_of f big a < 2 * big
code_below One big a h = omega arith
code_below Two big a h = omega arith

code_parts : (f g : Phase) (big a b : ℕ) → a < big → b < big → code_of f big a ≡ code_of g big b → (f ≡ g) × (a ≡ b)
code_parts One One big a b h k e = (refl, e)
code_parts One Two big a b h k e = absurd (omega arith)
code_parts Two One big a b h k e = absurd (omega arith)
code_parts Two Two big a b h k e = (refl, omega arith)

-- how many lists of statuses a phase has, at most
abbrev pub choices : Instance → ℕ
choices inst = 3 ^ column_count inst

module _ (inst : Instance) (bounded : IsBounded inst) where
  abbrev code : State → ℕ
  code s = code_of s.phase (choices inst) (number s.statuses)

  in_choices : (s : State) → Holds inst s → number s.statuses < choices inst
  in_choices s h = subst (λ n. number s.statuses < 3 ^ n) h.each (number_below s.statuses)

  -- no later state has the number of an earlier one
  codes_apart : (s : State) → Holds inst s → (t : State) → Holds inst t → (e : Entry) (log : List Entry) → Leads inst s (e ∷ log) t → code s ≢ code t
  codes_apart s h t k e log leads same =
      let (phases, numbers) = code_parts s.phase t.phase (choices inst) (number s.statuses) (number t.statuses) (in_choices s h) (in_choices t k) same in
      no_return inst bounded s t h k phases
      (λ j b. same_status (status_of s j) (status_of t j) (bounds inst s.phase j) (same_digits s.statuses t.statuses (h.each ∙ sym k.each) numbers j)
      (h.stands j b)
      (subst (λ f. NamesEnd (status_of t j) (bounds inst f j)) (sym phases) (k.stands j b)))
      e log leads

  -- the numbers of the states along a log
  abbrev codes : State → List Entry → List ℕ
  codes s [] = code s ∷ []
  codes s (e ∷ log) = code s ∷ codes (after s e) log

  length_codes : (s : State) (log : List Entry) → length (codes s log) ≡ suc (length log)
  length_codes s [] = refl
  length_codes s (e ∷ log) = ap suc (length_codes (after s e) log)

  or_true : {P : Type 0} (a b : Bool) → (a || b) ≡ true → (a ≡ true → P) → (b ≡ true → P) → P
  or_true true b e f g = f refl
  or_true false b e f g = g e

  code_in_choices : (s : State) → Holds inst s → (q : ℕ) → eqb q (code s) ≡ true → q < 2 * choices inst
  code_in_choices s h q e =
      subst (λ n. n < 2 * choices inst) (sym (eqb-true q (code s) e)) (code_below s.phase (choices inst) (number s.statuses) (in_choices s h))

  not_true : {P : Type 0} → false ≡ true → P
  not_true e = cc e

  codes_below : (s : State) → Holds inst s → (log : List Entry) (t : State) → Leads inst s log t → (q : ℕ) → list_any (eqb q) (codes s log) ≡ true
      → q < 2 * choices inst
  codes_below s h [] t leads q found = or_true (eqb q (code s)) false found (code_in_choices s h q) not_true
  codes_below s h (e ∷ log) t leads q found =
      or_true (eqb q (code s)) (list_any (eqb q) (codes (after s e) log)) found (code_in_choices s h q) (codes_below (after s e)
      (next_holds inst bounded s h e leads.0) log t leads.1 q)

  all_apart : (s : State) → Holds inst s → (a : State) → Holds inst a → (e : Entry) (piece : List Entry) → Leads inst s (e ∷ piece) a
      → (log : List Entry) (t : State) → Leads inst a log t
      → AllByRecursion (λ y. eqb (code s) y ≡ false) (codes a log)
  all_apart s h a k e piece to [] t leads = (ne_eqb (code s) (code a) (codes_apart s h a k e piece to), tt)
  all_apart s h a k e piece to (e' ∷ log) t leads = (
    ne_eqb (code s) (code a) (codes_apart s h a k e piece to),
    all_apart s h (after a e') (next_holds inst bounded a k e' leads.0) e (piece ++ e' ∷ []) (leads_on inst s a (after a e') (e ∷ piece) (e' ∷ []) to
        (leads.0, refl)) log t leads.1,
  )

  codes_distinct : (s : State) → Holds inst s → (log : List Entry) (t : State) → Leads inst s log t → IsDistinct eqb (codes s log)
  unfolding IsDistinct
  codes_distinct s h [] t leads = (tt, tt)
  codes_distinct s h (e ∷ log) t leads =
      let k = next_holds inst bounded s h e leads.0 in
      (all_apart s h (after s e) k e [] (leads.0, refl) log t leads.1, codes_distinct (after s e) k log t leads.1)

  -- so a run is short
  pub short : (s : State) → Holds inst s → (log : List Entry) (t : State) → Leads inst s log t → length log < 2 * choices inst
  short s h log t leads =
      let most : length (codes s log) ≤ 2 * choices inst = length-le_from_distinct_below (codes s log) (2 * choices inst) (codes_distinct s h log t leads)
      (codes_below s h log t leads) in
      omega (arith, most, length_codes s log)

  pub few_moves : (s : State) → Holds inst s → (log : List Entry) (t : State) → Leads inst s log t → moves log < 2 * choices inst
  few_moves s h log t leads = omega (arith, short s h log t leads, count_by-le-length is_move log)
