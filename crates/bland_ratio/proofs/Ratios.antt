-- What the ratio test lists and answers, part by part.
use Rattle.std.proofs.Common.{◌≡◌, ℕ, ◌+◌, ◌<◌, ◌≤◌, ◌⊎◌, inl, inr, Option, Some, None, List, [], ◌∷◌, refl, sym, ◌∙◌, ap, subst, arith, below_more}
use Rattle.std.proofs.lemmas.Bool.{cases_lt}
use Rattle.std.specs.Option.{option_map}
use Rattle.std.specs.declared.cmp.Ordering.{Ordering}
use Rattle.std.specs.declared.cmp.Ordering.TheVariants.{Less, Equal, Greater}
use Rattle.lp_model.specs.declared.Entry.TheVariants.{Flip, Swap}
use Rattle.lp_model.specs.declared.Kind.TheVariants as kind
use Rattle.lp_model.specs.declared.Place.{Place}
use Rattle.lp_model.specs.declared.Side.{Side}
use Rattle.lp_model.specs.declared.Side.TheVariants as side
use Rattle.lp_model.specs.Deck.{Interval}
use Rattle.rational.specs.Rational.{ℚ, zero_ℚ, ◌-ℚ◌, ◌*ℚ◌, ◌/ℚ◌, neg_ℚ, abs_ℚ, cmp_ℚ}
use Rattle.rational.specs.Sum.{at}
use Rattle.rational.specs.Worked.{bind, done, placed, settle, work}
use Rattle.rational.proofs.Settling.{settle-answer}
use Rattle.lp_run.specs.Instance.{Instance, bounds, row_count}
use Rattle.lp_run.specs.Listing.{AllFit, first_unfit, place}
use Rattle.lp_run.specs.State.{State, basic}
use Rattle.lp_run.specs.Step.{IsLimit, Leaves, Limit, distance_at, distance_by, distance_to, limit_at, own_limit}
use Rattle.lp_run.proofs.FirstUnfit.{all-append, all-flat_map, first-flat_map, fit-append, fit-placed, unfit-append, unfit-placed}
use Rattle.lp_run.proofs.Unique.{mapped, own_limit_is}
use Rattle.bland_ratio.specs.Leave.{Decides, RatioDoesNotFit, RatiosFit}
use Rattle.bland_ratio.specs.declared.limits.Limit.{Limit as Found}
use Rattle.bland_ratio.specs.Inner.Limits.{IsEarlier, end_ahead, leave_of, limit_by, limit_of, limit_work, own_by, own_work}
use Rattle.bland_ratio.proofs.Least.{IsLeast, least_more}

-- ── what the ratio test lists ──

-- the limit of a position, and what is listed for it
module _ (q c p : ℕ) (v a : ℚ) (i : Interval) where
  limit_by-listed : (here : Place) (o : Ordering) → placed here (limit_by (end_ahead o i) v a c p)
      ≡ (elim (distance_by o i v) [ None ↦ [] | Some d ↦ (here, d.0) ∷ (here, d.0 /ℚ abs_ℚ a) ∷ [] ])
  unfolding bind work done
  limit_by-listed here Less = by_end i.lower
    where
      by_end : (e : Option ℚ) → placed here (limit_by (option_map (λ end. (end, side.Lower)) e) v a c p)
          ≡ (elim (distance_to e side.Lower (λ end. v -ℚ end)) [ None ↦ [] | Some d ↦ (here, d.0) ∷ (here, d.0 /ℚ abs_ℚ a) ∷ [] ])
      by_end None = refl
      by_end (Some end) = refl
  limit_by-listed here Equal = refl
  limit_by-listed here Greater = by_end i.upper
    where
      by_end : (e : Option ℚ) → placed here (limit_by (option_map (λ end. (end, side.Upper)) e) v a c p)
          ≡ (elim (distance_to e side.Upper (λ end. end -ℚ v)) [ None ↦ [] | Some d ↦ (here, d.0) ∷ (here, d.0 /ℚ abs_ℚ a) ∷ [] ])
      by_end None = refl
      by_end (Some end) = refl

  limit_by-answer : (o : Ordering) → option_map (limit_of q) (limit_by (end_ahead o i) v a c p).answer
      ≡ option_map (λ d. record { ratio = d.0 /ℚ abs_ℚ a; column = c; entry = Swap q p d.1 }) (distance_by o i v)
  unfolding bind work done
  limit_by-answer Less = by_end i.lower
    where
      by_end : (e : Option ℚ) → option_map (limit_of q) (limit_by (option_map (λ end. (end, side.Lower)) e) v a c p).answer
          ≡ option_map (λ d. record { ratio = d.0 /ℚ abs_ℚ a; column = c; entry = Swap q p d.1 }) (distance_to e side.Lower (λ end. v -ℚ end))
      by_end None = refl
      by_end (Some end) = refl
  limit_by-answer Equal = refl
  limit_by-answer Greater = by_end i.upper
    where
      by_end : (e : Option ℚ) → option_map (limit_of q) (limit_by (option_map (λ end. (end, side.Upper)) e) v a c p).answer
          ≡ option_map (λ d. record { ratio = d.0 /ℚ abs_ℚ a; column = c; entry = Swap q p d.1 }) (distance_to e side.Upper (λ end. end -ℚ v))
      by_end None = refl
      by_end (Some end) = refl

own_by-answer : (q : ℕ) (lower upper : Option ℚ) → option_map (limit_of q) (own_by lower upper q).answer ≡ own_limit (record { lower = lower; upper = upper }) q
unfolding bind work done
own_by-answer q None upper = refl
own_by-answer q (Some l) None = refl
own_by-answer q (Some l) (Some u) = refl

own_by-listed : (here : Place) (q : ℕ) (lower upper : Option ℚ) → placed here (own_by lower upper q)
    ≡ (elim lower [ None ↦ [] | Some l ↦ elim upper [ None ↦ [] | Some u ↦ (here, u -ℚ l) ∷ [] ] ])
unfolding bind work done
own_by-listed here q None upper = refl
own_by-listed here q (Some l) None = refl
own_by-listed here q (Some l) (Some u) = refl

module _ (inst : Instance) (s : State) (q : ℕ) (t : ℚ) (β α : List ℚ) (w : ℕ) where
  -- ── what fits ──

  -- the limits of the positions before p fit
  abbrev pub SettleBefore : ℕ → Type 0
  SettleBefore p = (p' : ℕ) → p' < p → (next : Option Found) × (settle w (limit_work inst s t β α p') ≡ Some next)

  pub settle_next : (p : ℕ) (next : Option Found) → SettleBefore p → settle w (limit_work inst s t β α p) ≡ Some next → SettleBefore (p + 1)
  settle_next p next before e = below_more (λ p. (next : Option Found) × (settle w (limit_work inst s t β α p) ≡ Some next)) p before (next, e)

  position_fits : (k p : ℕ) → (next : Option Found) × (settle w (limit_work inst s t β α p) ≡ Some next)
      → AllFit w (elim (distance_at inst s t β α p) [ None ↦ [] | Some d ↦ (place k kind.Ratio (Some p) None, d.0) ∷ (place k kind.Ratio (Some p) None, d.0 /ℚ abs_ℚ (at α p)) ∷ [] ])
  position_fits k p (next, e) =
      subst (AllFit w) (limit_by-listed q (basic s p) p (at β p) (at α p) (bounds inst s.phase (basic s p)) (place k kind.Ratio (Some p) None) (cmp_ℚ (neg_ℚ t *ℚ at α p) zero_ℚ))
      (fit-placed w (place k kind.Ratio (Some p) None) (limit_work inst s t β α p) next e)

  pub all_fit : (own : Option Found) → SettleBefore (row_count inst) → settle w (own_work (bounds inst s.phase q) q) ≡ Some own → RatiosFit w inst s q t β α
  all_fit own before e k =
      all-append w _ _ (all-flat_map w _ (row_count inst) (λ p b. position_fits k p (before p b)))
      (subst (AllFit w) (own_by-listed (place k kind.Ratio None (Some q)) q (bounds inst s.phase q).lower (bounds inst s.phase q).upper)
      (fit-placed w (place k kind.Ratio None (Some q)) (own_work (bounds inst s.phase q) q) own e))

  pub unfit_position : (p : ℕ) → p < row_count inst → SettleBefore p → settle w (limit_work inst s t β α p) ≡ None → RatioDoesNotFit w inst s q t β α (record { position = Some p })
  unfit_position p b before e k =
      unfit-append w _ _ (place k kind.Ratio (Some p) None)
      (first-flat_map w _ (row_count inst) p (place k kind.Ratio (Some p) None) b (λ p' c. position_fits k p' (before p' c))
      (subst (λ vs. first_unfit w vs ≡ Some (place k kind.Ratio (Some p) None))
      (limit_by-listed q (basic s p) p (at β p) (at α p) (bounds inst s.phase (basic s p)) (place k kind.Ratio (Some p) None) (cmp_ℚ (neg_ℚ t *ℚ at α p) zero_ℚ))
      (unfit-placed w (place k kind.Ratio (Some p) None) (limit_work inst s t β α p) e)))

  pub unfit_own : SettleBefore (row_count inst) → settle w (own_work (bounds inst s.phase q) q) ≡ None → RatioDoesNotFit w inst s q t β α (record { position = None })
  unfit_own before e k =
      fit-append w _ _ (all-flat_map w _ (row_count inst) (λ p b. position_fits k p (before p b)))
      ∙ subst (λ vs. first_unfit w vs ≡ Some (place k kind.Ratio None (Some q)))
      (own_by-listed (place k kind.Ratio None (Some q)) q (bounds inst s.phase q).lower (bounds inst s.phase q).upper)
      (unfit-placed w (place k kind.Ratio None (Some q)) (own_work (bounds inst s.phase q) q) e)

  -- ── what decides ──

  answers_limit : (p : ℕ) (next : Option Found) → settle w (limit_work inst s t β α p) ≡ Some next → limit_at inst s q t β α p ≡ option_map (limit_of q) next
  answers_limit p next e =
      sym (limit_by-answer q (basic s p) p (at β p) (at α p) (bounds inst s.phase (basic s p)) (cmp_ℚ (neg_ℚ t *ℚ at α p) zero_ℚ))
      ∙ ap (option_map (limit_of q)) (settle-answer w (limit_work inst s t β α p) next e)

  answers_own : (own : Option Found) → settle w (own_work (bounds inst s.phase q) q) ≡ Some own → own_limit (bounds inst s.phase q) q ≡ option_map (limit_of q) own
  answers_own own e =
      sym (own_by-answer q (bounds inst s.phase q).lower (bounds inst s.phase q).upper)
      ∙ ap (option_map (limit_of q)) (settle-answer w (own_work (bounds inst s.phase q) q) own e)

  -- the limits of the positions before p
  abbrev pub LimitBefore : ℕ → Limit → Type 0
  LimitBefore p l = (p' : ℕ) × (p' < p) × (limit_at inst s q t β α p' ≡ Some l)

  pub best_next : (p : ℕ) (next : Option Found) (a first : Option Limit) → settle w (limit_work inst s t β α p) ≡ Some next
      → IsLeast (LimitBefore p) a → IsEarlier a (option_map (limit_of q) next) first → IsLeast (LimitBefore (p + 1)) first
  best_next p next a first e least earlier =
      least_more (LimitBefore p) (LimitBefore (p + 1)) (option_map (limit_of q) next) more
      (λ l (p', b, h). (p', omega arith, h)) (λ l h. (p, omega arith, answers_limit p next e ∙ h)) a first least earlier
    where
      more : (l : Limit) → LimitBefore (p + 1) l → LimitBefore p l ⊎ (option_map (limit_of q) next ≡ Some l)
      more l (p', b, h) = by (cases_lt p' p)
        where
          by : (p' < p) ⊎ (p ≤ p') → LimitBefore p l ⊎ (option_map (limit_of q) next ≡ Some l)
          by (inl c) = inl (p', c, h)
          by (inr c) = let here : p' ≡ p = omega arith in inr (sym (answers_limit p next e) ∙ ap (limit_at inst s q t β α) (sym here) ∙ h)

  own_column : (r : ℚ) (c : ℕ) → IsLimit inst s q t β α (record { ratio = r; column = c; entry = Flip q }) → c ≡ q
  own_column r c (inl (p, b, e)) = absurd (mapped (λ a. a.entry ≡ Flip q → ⊥) _ (λ d same. cc) (distance_at inst s t β α p) _ e refl)
  own_column r c (inr e) = (own_limit_is (bounds inst s.phase q).lower (bounds inst s.phase q).upper q _ e).0

  same_position : (p p' : ℕ) (end end' : Side) → Swap q p end ≡ Swap q p' end' → p ≡ p'
  same_position p p' end end' e = cc

  out_column : (r : ℚ) (c p : ℕ) (end : Side) → IsLimit inst s q t β α (record { ratio = r; column = c; entry = Swap q p end }) → c ≡ basic s p
  out_column r c p end (inl (p', b, e)) =
      mapped (λ a. a.entry ≡ Swap q p end → a.column ≡ basic s p) _ (λ d same. ap (basic s) (same_position p' p d.1 end same)) (distance_at inst s t β α p') _ e refl
  out_column r c p end (inr e) = absurd (apart (own_limit_is (bounds inst s.phase q).lower (bounds inst s.phase q).upper q _ e).1)
    where
      apart : Swap q p end ≡ Flip q → ⊥
      apart same = cc

  -- the least of all limits decides
  pub decided : (own best : Option Found) (a : Option Limit) → settle w (own_work (bounds inst s.phase q) q) ≡ Some own → IsLeast (LimitBefore (row_count inst)) a
      → IsEarlier a (option_map (limit_of q) own) (option_map (limit_of q) best) → Decides inst s q t β α (leave_of best)
  decided own best a e least earlier = by best (least_more (LimitBefore (row_count inst)) (IsLimit inst s q t β α) (option_map (limit_of q) own) more
      (λ l h. inl h) (λ l h. inr (answers_own own e ∙ h)) a _ least earlier)
    where
      more : (l : Limit) → IsLimit inst s q t β α l → LimitBefore (row_count inst) l ⊎ (option_map (limit_of q) own ≡ Some l)
      more l (inl h) = inl h
      more l (inr h) = inr (sym (answers_own own e) ∙ h)

      by_out : (r : ℚ) (c : ℕ) (out : Option (ℕ × Side)) → IsLeast (IsLimit inst s q t β α) (Some (limit_of q (record { ratio = r; column = c; out = out })))
          → Decides inst s q t β α (leave_of (Some (record { ratio = r; column = c; out = out })))
      by_out r c None (is, first) = subst (λ c. Leaves inst s q t β α (record { ratio = r; column = c; entry = Flip q })) (own_column r c is) (record { is_limit = is; first = first })
      by_out r c (Some (p, end)) (is, first) =
          subst (λ c. Leaves inst s q t β α (record { ratio = r; column = c; entry = Swap q p end })) (out_column r c p end is) (record { is_limit = is; first = first })

      by : (best : Option Found) → IsLeast (IsLimit inst s q t β α) (option_map (limit_of q) best) → Decides inst s q t β α (leave_of best)
      by None none = none
      by (Some l) least = by_out l.ratio l.column l.out least
