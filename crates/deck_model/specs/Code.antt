-- How a deck is stored: as the tuple of its parts.
use Rattle.std.specs.Prelude.{◌≡◌, ℕ, zero, suc, List, Option, refl}
use Rattle.std.specs.Coded.{Coded, code_by, coded×, coded_ℕ, coded_list, coded_option}
use Rattle.lp_model.specs.declared.RowKind.{RowKind}
use Rattle.lp_model.specs.declared.RowKind.TheVariants.{L, G, E}
use Rattle.lp_model.specs.declared.Sense.{Sense}
use Rattle.lp_model.specs.declared.Sense.TheVariants.{Min, Max}
use Rattle.lp_model.specs.Deck.{Row, Column, Interval, Deck}
use Rattle.rational.specs.Rational.{ℚ}
use Rattle.rational.specs.Stored.{code_ℚ}

abbrev kind_number : RowKind → ℕ
kind_number L = 0
kind_number G = 1
kind_number E = 2

abbrev kind_of : ℕ → RowKind
kind_of zero = L
kind_of (suc zero) = G
kind_of (suc (suc n)) = E

pub kind_of-number : (kind : RowKind) → kind_of (kind_number kind) ≡ kind
kind_of-number L = refl
kind_of-number G = refl
kind_of-number E = refl

abbrev code_kind : Coded RowKind
code_kind = code_by ℕ coded_ℕ kind_number kind_of kind_of-number

abbrev sense_number : Sense → ℕ
sense_number Min = 0
sense_number Max = 1

abbrev sense_of : ℕ → Sense
sense_of zero = Min
sense_of (suc n) = Max

pub sense_of-number : (sense : Sense) → sense_of (sense_number sense) ≡ sense
sense_of-number Min = refl
sense_of-number Max = refl

abbrev code_sense : Coded Sense
code_sense = code_by ℕ coded_ℕ sense_number sense_of sense_of-number

abbrev code_name : Coded (List ℕ)
code_name = coded_list coded_ℕ

abbrev code_end : Coded (Option ℚ)
code_end = coded_option code_ℚ

abbrev code_row : Coded Row
code_row =
    code_by (List ℕ × (RowKind × (ℚ × Option ℚ))) (coded× code_name (coded× code_kind (coded× code_ℚ code_end)))
    (λ r. (r.name, (r.kind, (r.right, r.range)))) (λ p. record { name = p.0; kind = p.1.0; right = p.1.1.0; range = p.1.1.1 }) (λ _. refl)

abbrev code_interval : Coded Interval
code_interval = code_by (Option ℚ × Option ℚ) (coded× code_end code_end) (λ i. (i.lower, i.upper)) (λ p. record { lower = p.0; upper = p.1 }) (λ _. refl)

abbrev code_column : Coded Column
code_column =
    code_by (List ℕ × (ℚ × (List (ℕ × ℚ) × Interval))) (coded× code_name (coded× code_ℚ (coded× (coded_list (coded× coded_ℕ code_ℚ)) code_interval)))
    (λ c. (c.name, (c.cost, (c.entries, c.bounds)))) (λ p. record { name = p.0; cost = p.1.0; entries = p.1.1.0; bounds = p.1.1.1 }) (λ _. refl)

abbrev pub code_deck : Coded Deck
code_deck =
    code_by (List ℕ × (List ℕ × (Sense × (List Row × (List Column × ℚ)))))
    (coded× code_name (coded× code_name (coded× code_sense (coded× (coded_list code_row) (coded× (coded_list code_column) code_ℚ)))))
    (λ d. (d.name, (d.objective, (d.sense, (d.rows, (d.columns, d.constant))))))
    (λ p. record { name = p.0; objective = p.1.0; sense = p.1.1.0; rows = p.1.1.1.0; columns = p.1.1.1.1.0; constant = p.1.1.1.1.1 }) (λ _. refl)
