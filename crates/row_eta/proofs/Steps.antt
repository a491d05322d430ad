-- One operation, and the next one of a list.
use Rattle.std.proofs.Common.{◌≡◌, ℕ, ◌+◌, ◌-◌, ◌<◌, ◌≤◌, List, [], ◌∷◌, length, drop, get_or, set, map, reverse, Some, None, refl, sym, ◌∙◌, ap, ap₂, arith}
use Rattle.std.proofs.lemmas.List.{at_drop_more, at_drop_all, get_or-reverse, get_or-map, length-map, length-reverse, reverse-append}
use Rattle.std.proofs.lemmas.List.Sums.{sum_by-cons, sum_by-append}
use Rattle.rational.specs.Rational.{ℚ}
use Rattle.rational.specs.Sum.{at}
use Rattle.rational.specs.Worked.{done, bind, settle}
use Rattle.rational.specs.Lines.{gather}
use Rattle.rational.proofs.Settling.{settle-done, settle-bind, settle-bind_none}
use Rattle.factor_model.specs.declared.Op.{Op}
use Rattle.factor_model.specs.declared.Op.TheVariants.{Column, Row}
use Rattle.factor_model.specs.Eta.{operate, apply, stored, entries, transposed}

module _ (w p : ℕ) (v : List ℚ) (item : ℚ) (column : List (ℕ × ℚ)) (same : item ≡ at v p) where
  here : settle w (gather p v (at v p) column) ≡ settle w (gather p v item column)
  here = ap (λ x. settle w (gather p v x column)) (sym same)

  pub row_settles : (rest : ℚ) → settle w (gather p v item column) ≡ Some rest
      → settle w (bind (gather p v (at v p) column) (λ r. done (set v p r))) ≡ Some (set v p rest)
  row_settles rest e =
      settle-bind w (gather p v (at v p) column) (λ r. done (set v p r)) rest (here ∙ e) ∙ settle-done w (set v p rest)

  pub row_stops : settle w (gather p v item column) ≡ None → settle w (bind (gather p v (at v p) column) (λ r. done (set v p r))) ≡ None
  row_stops e = settle-bind_none w (gather p v (at v p) column) (λ r. done (set v p r)) (here ∙ e)

-- the next operation
module _ (ops : List Op) (k : ℕ) (op : Op) (lt : k < length ops) (found : op ≡ get_or ops k op) where
  pub apply_parts : (v : List ℚ) → apply v (drop k ops) ≡ bind (operate op v) (λ u. apply u (drop (k + 1) ops))
  apply_parts v =
      at_drop_more (apply v) ops k op lt ∙ ap (λ o. bind (operate o v) (λ u. apply u (drop (k + 1) ops))) (sym found)

  pub stored_parts : stored (drop k ops) ≡ entries op + stored (drop (k + 1) ops)
  stored_parts =
      at_drop_more stored ops k op lt ∙ ap (λ o. stored (o ∷ drop (k + 1) ops)) (sym found) ∙ sum_by-cons entries op (drop (k + 1) ops)

pub apply_ends : (ops : List Op) (k : ℕ) (v : List ℚ) → length ops ≤ k → apply v (drop k ops) ≡ done v
apply_ends ops k v le = at_drop_all (apply v) ops k le

-- ---- the operations in reverse order, transposed

pub length_back : (ops : List Op) → length (map transposed (reverse ops)) ≡ length ops
length_back ops = length-map (reverse ops) transposed ∙ length-reverse ops

pub op_back : (ops : List Op) (k : ℕ) (op : Op) → k < length ops → op ≡ get_or ops (length ops - 1 - k) op → transposed op ≡ get_or (map transposed (reverse ops)) k (transposed op)
op_back ops k op lt found =
    let within : k < length (reverse ops) = omega (arith, length-reverse ops) in
    ap transposed (found ∙ sym (get_or-reverse ops k op lt)) ∙ sym (get_or-map transposed (reverse ops) k op (transposed op) within)

pub entries_transposed : (op : Op) → entries (transposed op) ≡ entries op
entries_transposed (Column p k) = refl
entries_transposed (Row p k) = refl

stored_transposed : (ops : List Op) → stored (map transposed ops) ≡ stored ops
stored_transposed [] = refl
stored_transposed (op ∷ ops) =
    sum_by-cons entries (transposed op) (map transposed ops) ∙ ap₂ (λ a b. a + b) (entries_transposed op) (stored_transposed ops) ∙ sym (sum_by-cons entries op ops)

stored_reverse : (ops : List Op) → stored (reverse ops) ≡ stored ops
stored_reverse [] = refl
stored_reverse (op ∷ ops) =
    ap stored (reverse-append (op ∷ []) ops) ∙ sum_by-append entries (reverse ops) (op ∷ []) ∙ ap (λ n. n + stored (op ∷ [])) (stored_reverse ops)
    ∙ omega (arith, sum_by-cons entries op ops, sum_by-cons entries op [])

pub stored_back : (ops : List Op) → stored (map transposed (reverse ops)) ≡ stored ops
stored_back ops = stored_transposed (reverse ops) ∙ stored_reverse ops
