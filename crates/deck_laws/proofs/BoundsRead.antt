-- The lines of bounds are read as the bounds.
use Rattle.std.proofs.Common.{◌≡◌, ℕ, ◌≤◌, Bool, true, false, not, ◌&&◌, List, [], ◌∷◌, ◌++◌, length, map, set, Option, Some, None, Result, Ok, Err, refl, sym, ap, subst, ◌∙◌, arith, append_assoc}
use Rattle.std.specs.Prelude.{◌==◌, IfSome, codes, if◌then◌else◌}
use Rattle.std.specs.List.{IsDistinct, flat_map, list_all, list_any}
use Rattle.std.specs.Option.{unwrap_or}
use Rattle.std.proofs.lemmas.Bool.{and_left, and_right, eq-eqb, or_from, or_left}
use Rattle.rational.specs.Rational.{ℚ, eq_ℚ, lt_ℚ, zero_ℚ}
use Rattle.rational.proofs.OrderLaws.{eq_ℚ-decides}
use Rattle.deck_tools.specs.Layout.{Line, bound_line, bound_lines, card_line, ends_lines, lower_lines, upper_lines}
use Rattle.frac_text.specs.Card.{card_text}
use Rattle.lp_model.specs.Deck.{Column, Deck, Interval, Row, no_column, nonnegative}
use Rattle.lp_model.specs.Edit.{find_column, same_bytes}
use Rattle.lp_text.proofs.SameBytes.{same_bytes-own}
use Rattle.lp_text.specs.Cards.{is_printable}
use Rattle.lp_text.specs.declared.Form.{Form}
use Rattle.lp_text.specs.declared.LineFault.{LineFault}
use Rattle.lp_text.specs.declared.LineFault.TheVariants as fault
use Rattle.mps_model.specs.declared.BoundKind.{BoundKind}
use Rattle.mps_model.specs.declared.BoundKind.TheVariants.{Fixed, Free, Lower, Minus, Upper}
use Rattle.mps_model.specs.declared.Section.{Section}
use Rattle.mps_model.specs.declared.Section.TheVariants.{Bounds}
use Rattle.mps_model.specs.BoundCards.{bound_number, bounds_after, has_number, is_minus_infinity, is_plus_infinity, is_wrong_infinity, judge_bound, judge_bound_of, kind_of, sets_lower, with_bound}
use Rattle.mps_model.specs.DeckOf.{are_crossed}
use Rattle.mps_model.specs.DeckSoFar.{DeckSoFar, and_then}
use Rattle.mps_model.specs.Judgement.{bytes_counted, judge_text}
use Rattle.mps_model.specs.PairCards.{number_in}
use Rattle.deck_laws.specs.Spellable.{IsEnd, IsKept, IsKeptColumn, IsName, IsNumber, IsSpellable}
use Rattle.deck_laws.proofs.CardNumbers.{number_read}
use Rattle.deck_laws.proofs.ColumnsRead.{loose, zero_is}
use Rattle.deck_laws.proofs.FixedCards.{six}
use Rattle.deck_laws.proofs.PairsRead.{number_line, numeral_of}
use Rattle.deck_laws.proofs.Places.{AreDistinct, NonePass, all-at, get-at, new-here, one_more, position-at, set-at}
use Rattle.deck_laws.proofs.RowsRead.{laid}
use Rattle.deck_laws.proofs.Runs.{Runs, Takes, runs-both}
use Rattle.deck_laws.proofs.SetsRead.{IsOwn, set_judged}
use Rattle.deck_laws.proofs.Taken.{IsGiven, IsWord, at, bound_taken, card_prints, card_with, given_field, name_given, no_number, numeral_short, open_taken, set_given}

module _ (form : Form) (d : Deck) (kept : IsKept d) (spelled : IsSpellable form d) (begun : List Section) (rows : List Row) (constant : ℚ) where
  -- the columns so far, the set, and the columns whose lower end has been set
  abbrev pub bounded : List Column → Option (List ℕ) → List ℕ → DeckSoFar
  bounded columns chosen lowered = at (Bounds ∷ begun) (laid d rows columns constant) (d.objective ∷ []) chosen [] lowered

  -- ── one column ──

  module _ (done : List Column) (c : Column) (rest : List Column) (e : done ++ c ∷ rest ≡ d.columns) where
    -- the column's place
    abbrev j : ℕ
    j = length done

    abbrev columns_with : Interval → List Column
    columns_with b = done ++ record c { bounds = b } ∷ map loose rest

    abbrev state : Interval → Option (List ℕ) → List ℕ → DeckSoFar
    state b chosen lowered = bounded (columns_with b) chosen lowered

    given_column : IsGiven form c.name
    given_column = name_given form c.name (all-at (λ (q : Column). IsName form q.name) done c rest d.columns e spelled.columns)

    new : NonePass (λ (q : Column). same_bytes q.name c.name) done
    unfolding IsDistinct
    new = new-here (λ (q : Column). q.name) done c rest (subst (λ cs. AreDistinct (λ (q : Column). q.name) cs) (sym e) kept.column_names)

    found : (b : Interval) (chosen : Option (List ℕ)) (lowered : List ℕ) → find_column (state b chosen lowered).deck c.name ≡ Some j
    found b chosen lowered = position-at (λ (q : Column). same_bytes q.name c.name) done (record c { bounds = b }) (map loose rest) new (same_bytes-own c.name)

    abbrev has : List ℕ → Bool
    has lowered = list_any (λ k. k == j) lowered

    abbrev lowered_by : BoundKind → List ℕ → List ℕ
    lowered_by kind lowered = if sets_lower kind then j ∷ lowered else lowered

    set_bound : (kind : BoundKind) (v : ℚ) (b : Interval) (chosen : Option (List ℕ)) (lowered : List ℕ)
        → with_bound (state b chosen lowered) kind j v ≡ state (bounds_after kind v (has lowered) b) chosen (lowered_by kind lowered)
    set_bound kind v b chosen lowered =
        ap (λ (q : Column). bounded (set (columns_with b) j (record q { bounds = bounds_after kind v (has lowered) q.bounds })) chosen (lowered_by kind lowered))
        (get-at done (record c { bounds = b }) (map loose rest) no_column)
        ∙ ap (λ cs. bounded cs chosen (lowered_by kind lowered)) (set-at done (record c { bounds = b }) (record c { bounds = bounds_after kind v (has lowered) b }) (map loose rest))

    module _ (word : List ℕ) (kind : BoundKind) (is_word : IsWord word) (some : 1 ≤ length word) (kind_is : kind_of word ≡ Ok kind) (b : Interval) (chosen : Option (List ℕ)) (lowered : List ℕ)
        (own : IsOwn chosen) where
      abbrev chosen' : Option (List ℕ)
      chosen' = Some (unwrap_or chosen (codes "S"))

      abbrev bound_set : ℚ → DeckSoFar
      bound_set v = state (bounds_after kind v (has lowered) b) chosen' (lowered_by kind lowered)

      judged : (v : ℚ) (text : List ℕ) → bound_number kind text ≡ Ok v → judge_bound (state b chosen' lowered) (six word (codes "S") c.name text) ≡ Ok (bound_set v)
      judged v text number =
          let s = state b chosen' lowered in
          ap (λ (r : Result BoundKind LineFault). and_then r (λ k. judge_bound_of s k (six word (codes "S") c.name text))) kind_is
          ∙ ap (λ (o : Option ℕ). elim o [ None ↦ Err fault.UnknownColumn | Some i ↦ and_then (bound_number kind text) (λ w. Ok (with_bound s kind i w)) ]) (found b chosen' lowered)
          ∙ ap (λ (r : Result ℚ LineFault). and_then r (λ w. Ok (with_bound s kind j w))) number
          ∙ ap (λ (q : DeckSoFar). Ok q) (set_bound kind v b chosen' lowered)

      -- a bound with a number
      number_takes : (v : ℚ) → has_number kind ≡ true → is_wrong_infinity kind v ≡ false → IsNumber v → Takes form (state b chosen lowered) (bound_line word c.name (Some v)) (bound_set v)
      number_takes v numbered finite fits text is =
          let line = number_line (card_line form (card_with word (codes "S") c.name (Some v) c.name)) (card_text v) text is in
          let numeral = numeral_of v line.0 fits line.1 in
          let number : bound_number kind line.0 ≡ Ok v =
          ap (λ t. if t then and_then (number_in line.0) (λ w. if is_wrong_infinity kind w then Err fault.Bound else Ok w) else Ok zero_ℚ) numbered
          ∙ ap (λ (r : Result ℚ LineFault). and_then r (λ w. if is_wrong_infinity kind w then Err fault.Bound else Ok w)) (number_read v line.0 fits line.1)
          ∙ ap (λ t. if t then Err fault.Bound else Ok v) finite in
          subst (λ t. (list_all is_printable t ≡ true) × (judge_text form (state b chosen lowered) (bytes_counted form t) ≡ Ok (bound_set v))) line.2 (
            card_prints word (codes "S") c.name line.0 (Some v) c.name is_word (numeral_short line.0 numeral) form (given_field (set_given form)) (given_field given_column),
            bound_taken begun (laid d rows (columns_with b) constant) (d.objective ∷ []) chosen [] lowered word c.name line.0 (Some v) c.name kind is_word some
                kind_is form numbered numeral given_column
                ∙ set_judged judge_bound (state b chosen lowered) (bound_set v) word c.name line.0 own (judged v line.0 number),
          )

      -- and one without
      plain_takes : has_number kind ≡ false → Takes form (state b chosen lowered) (bound_line word c.name None) (bound_set zero_ℚ)
      plain_takes unnumbered text is =
          let same : card_line form (card_with word (codes "S") c.name None c.name) [] ≡ text = cc in
          let number : bound_number kind [] ≡ Ok zero_ℚ =
          ap (λ t. if t then and_then (number_in []) (λ w. if is_wrong_infinity kind w then Err fault.Bound else Ok w) else Ok zero_ℚ) unnumbered in
          subst (λ t. (list_all is_printable t ≡ true) × (judge_text form (state b chosen lowered) (bytes_counted form t) ≡ Ok (bound_set zero_ℚ))) same (
            card_prints word (codes "S") c.name [] None c.name is_word no_number form (given_field (set_given form)) (given_field given_column),
            open_taken begun (laid d rows (columns_with b) constant) (d.objective ∷ []) chosen [] lowered word c.name [] None c.name kind is_word some kind_is form unnumbered given_column
                ∙ set_judged judge_bound (state b chosen lowered) (bound_set zero_ℚ) word c.name [] own (judged zero_ℚ [] number),
          )

    -- ── the ends ──

    abbrev ends : Option ℚ → Option ℚ → Interval
    ends lower upper = record { lower = lower; upper = upper }

    -- lines that take the bounds from these to those
    abbrev Bounded : Interval → Interval → Option (List ℕ) → List ℕ → List Line → Type 0
    Bounded b b' chosen lowered lines = (chosen' : Option (List ℕ)) × (lowered' : List ℕ) × IsOwn chosen' × Runs form (state b chosen lowered) lines (state b' chosen' lowered')

    -- a lower end; one other than 0 is set by a line
    lower_run : (l : ℚ) → IsEnd l → (chosen : Option (List ℕ)) (lowered : List ℕ) → IsOwn chosen
        → (chosen' : Option (List ℕ)) × (lowered' : List ℕ) × IsOwn chosen' × (eq_ℚ l zero_ℚ ≡ false → has lowered' ≡ true)
        × Runs form (state nonnegative chosen lowered) (lower_lines c.name (Some l)) (state (ends (Some l) None) chosen' lowered')
    lower_run l end chosen lowered own = by (eq_ℚ l zero_ℚ) refl
      where
        by : (t : Bool) → eq_ℚ l zero_ℚ ≡ t → (chosen' : Option (List ℕ)) × (lowered' : List ℕ) × IsOwn chosen' × (t ≡ false → has lowered' ≡ true)
            × Runs form (state nonnegative chosen lowered) (if t then [] else bound_line (codes "LO") c.name (Some l) ∷ []) (state (ends (Some l) None) chosen' lowered')
        by true is = (chosen, lowered, own, λ no. absurd (cc no), ap (λ q. state (ends (Some q) None) chosen lowered) (sym (zero_is l is)))
        by false is =
            let chosen' = Some (unwrap_or chosen (codes "S")) in
            let kept_end : (if is_minus_infinity l then None else Some l) ≡ Some l = ap (λ t. if t then None else Some l) end.above in (
              chosen',
              j ∷ lowered,
              own,
              λ no. or_left (j == j) (has lowered) (eq-eqb j j refl),
              (
                state (ends (Some l) None) chosen' (j ∷ lowered),
                subst (λ o. Takes form (state nonnegative chosen lowered) (bound_line (codes "LO") c.name (Some l)) (state (ends o None) chosen' (j ∷ lowered))) kept_end
                    (number_takes (codes "LO") Lower (record { few = omega arith; marks = refl }) (omega arith) refl nonnegative chosen lowered own l refl end.below end.fits),
                refl,
                refl,
              ),
            )

    -- an upper end behind a lower one that stays
    upper_run : (u : ℚ) → IsEnd u → (lower : Option ℚ) (chosen : Option (List ℕ)) (lowered : List ℕ) → IsOwn chosen → (if lt_ℚ u zero_ℚ && not (has lowered) then None else lower) ≡ lower
        → Bounded (ends lower None) (ends lower (Some u)) chosen lowered (upper_lines c.name (Some u))
    upper_run u end lower chosen lowered own stays =
        let chosen' = Some (unwrap_or chosen (codes "S")) in
        let kept_end : (if is_plus_infinity u then None else Some u) ≡ Some u = ap (λ t. if t then None else Some u) end.below in (
          chosen',
          lowered,
          own,
          (
            state (ends lower (Some u)) chosen' lowered,
            subst (λ o. Takes form (state (ends lower None) chosen lowered) (bound_line (codes "UP") c.name (Some u)) (state (ends lower o) chosen' lowered)) kept_end
                (subst (λ o. Takes form (state (ends lower None) chosen lowered) (bound_line (codes "UP") c.name (Some u))
                (state (ends o (if is_plus_infinity u then None else Some u)) chosen' lowered)) stays
                (number_takes (codes "UP") Upper (record { few = omega arith; marks = refl }) (omega arith) refl (ends lower None) chosen lowered own u refl end.above end.fits)),
            refl,
            refl,
          ),
        )

    abbrev nothing : Option ℚ
    nothing = None

    nothing_stays : (t : Bool) → (if t then nothing else nothing) ≡ nothing
    nothing_stays true = refl
    nothing_stays false = refl

    ends_run : (lower upper : Option ℚ) → IfSome lower IsEnd → IfSome upper IsEnd → are_crossed lower upper ≡ false → (chosen : Option (List ℕ)) (lowered : List ℕ) → IsOwn chosen
        → Bounded nonnegative (ends lower upper) chosen lowered (ends_lines c.name lower upper)
    ends_run None None low high uncrossed chosen lowered own =
        let chosen' = Some (unwrap_or chosen (codes "S")) in (
          chosen',
          j ∷ lowered,
          own,
          (
            state (ends None None) chosen' (j ∷ lowered),
            plain_takes (codes "FR") Free (record { few = omega arith; marks = refl }) (omega arith) refl nonnegative chosen lowered own refl,
            refl,
            refl,
          ),
        )
    ends_run None (Some u) low high uncrossed chosen lowered own =
        let chosen' = Some (unwrap_or chosen (codes "S")) in
        let rest = upper_run u high None chosen' (j ∷ lowered) own (nothing_stays (lt_ℚ u zero_ℚ && not (has (j ∷ lowered)))) in (
          rest.0,
          rest.1,
          rest.2,
          (
            state (ends None None) chosen' (j ∷ lowered),
            plain_takes (codes "MI") Minus (record { few = omega arith; marks = refl }) (omega arith) refl nonnegative chosen lowered own refl,
            refl,
            rest.3,
          ),
        )
    ends_run (Some l) None low high uncrossed chosen lowered own =
        let one = lower_run l low chosen lowered own in
        (one.0, one.1, one.2, one.4)
    ends_run (Some l) (Some u) low high uncrossed chosen lowered own = by (eq_ℚ l u) refl
      where
        two : Bounded nonnegative (ends (Some l) (Some u)) chosen lowered (lower_lines c.name (Some l) ++ upper_lines c.name (Some u))
        two =
            let one = lower_run l low chosen lowered own in
            let other = upper_run u high (Some l) one.0 one.1 one.2 (stays (eq_ℚ l zero_ℚ) one.1 refl one.3) in (
              other.0,
              other.1,
              other.2,
              runs-both form (state nonnegative chosen lowered) (state (ends (Some l) None) one.0 one.1) (state (ends (Some l) (Some u)) other.0 other.1)
                  (lower_lines c.name (Some l)) (upper_lines c.name (Some u)) one.4 other.3,
            )
          where
            stays : (t : Bool) (lowered' : List ℕ) → eq_ℚ l zero_ℚ ≡ t → (eq_ℚ l zero_ℚ ≡ false → has lowered' ≡ true) → (if lt_ℚ u zero_ℚ && not (has lowered') then None else Some l) ≡ Some l
            stays true lowered' is h =
                let above : lt_ℚ u zero_ℚ ≡ false = subst (λ q. lt_ℚ u q ≡ false) (zero_is l is) uncrossed in
                ap (λ t. if t then None else Some l) (and_left (lt_ℚ u zero_ℚ) (not (has lowered')) above)
            stays false lowered' is h = ap (λ t. if t then None else Some l) (and_right (lt_ℚ u zero_ℚ) (not (has lowered')) (ap not (h is)))

        by : (t : Bool) → eq_ℚ l u ≡ t
            → Bounded nonnegative (ends (Some l) (Some u)) chosen lowered (if t then bound_line (codes "FX") c.name (Some l) ∷ [] else (lower_lines c.name (Some l) ++ upper_lines c.name (Some u)))
        by true is =
            let chosen' = Some (unwrap_or chosen (codes "S")) in (
              chosen',
              j ∷ lowered,
              own,
              (
                state (ends (Some l) (Some u)) chosen' (j ∷ lowered),
                subst (λ q. Takes form (state nonnegative chosen lowered) (bound_line (codes "FX") c.name (Some l)) (state (ends (Some l) (Some q)) chosen' (j ∷ lowered))) ((eq_ℚ-decides l u).0 is)
                    (number_takes (codes "FX") Fixed (record { few = omega arith; marks = refl }) (omega arith) refl nonnegative chosen lowered own l refl
                    (or_from (is_minus_infinity l) (is_plus_infinity l) low.above low.below) low.fits),
                refl,
                refl,
              ),
            )
        by false is = two

    kept_column : IsKeptColumn (length d.rows) c
    kept_column = all-at (IsKeptColumn (length d.rows)) done c rest d.columns e kept.columns

    column_run : (chosen : Option (List ℕ)) (lowered : List ℕ) → IsOwn chosen → Bounded nonnegative c.bounds chosen lowered (bound_lines c)
    column_run chosen lowered own = ends_run c.bounds.lower c.bounds.upper kept_column.lower kept_column.upper kept_column.uncrossed chosen lowered own

  -- ── all columns ──

  bounds_from : (done rest : List Column) (chosen : Option (List ℕ)) (lowered : List ℕ) → done ++ rest ≡ d.columns → IsOwn chosen
      → (chosen' : Option (List ℕ)) × (lowered' : List ℕ) × Runs form (bounded (done ++ map loose rest) chosen lowered) (flat_map bound_lines rest) (bounded d.columns chosen' lowered')
  bounds_from done [] chosen lowered e own = (chosen, lowered, ap (λ cs. bounded cs chosen lowered) e)
  bounds_from done (c ∷ rest) chosen lowered e own =
      let one = column_run done c rest e chosen lowered own in
      let more = bounds_from (done ++ c ∷ []) rest one.0 one.1 (one_more done c rest d.columns e) one.2 in (
        more.0,
        more.1,
        runs-both form (bounded (done ++ loose c ∷ map loose rest) chosen lowered) (bounded ((done ++ c ∷ []) ++ map loose rest) one.0 one.1) (bounded d.columns more.0 more.1)
            (bound_lines c) (flat_map bound_lines rest)
            (subst (λ cs. Runs form (bounded (done ++ loose c ∷ map loose rest) chosen lowered) (bound_lines c) (bounded cs one.0 one.1)) (sym (append_assoc done (c ∷ []) (map loose rest))) one.3)
            more.2,
      )

  pub bounds_run : (lowered : List ℕ) → (chosen' : Option (List ℕ)) × (lowered' : List ℕ)
      × Runs form (bounded (map loose d.columns) None lowered) (flat_map bound_lines d.columns) (bounded d.columns chosen' lowered')
  bounds_run lowered = bounds_from [] d.columns None lowered refl refl
