-- What a deck shows of its parts: a row, a column, and the index of a name.
use Rattle.std.proofs.Common.{◌≡◌, ℕ, zero, suc, List, [], ◌∷◌, map, get_or, slice_get, Some, subst, Bool, true, false, is_some, ◌||◌, refl, sym, ap, ◌∙◌, position, nat_eq}
use Rattle.std.specs.Cmp.Lexicographic.{pointwise}
use Rattle.std.specs.List.{All, IsDistinct}
use Rattle.std.specs.Map.{keys_of, values_of}
use Rattle.deck_model.specs.declared.deck.RowData.{RowData}
use Rattle.deck_model.specs.declared.deck.ColumnData.{ColumnData}
use Rattle.deck_model.specs.declared.deck.Deck.TheInside.{Inside}
use Rattle.deck_model.specs.Parts.{row_of, column_of, deck_of}
use Rattle.deck_model.specs.Named.{HasNamedRows, HasNamedColumns}
use Rattle.deck_model.proofs.Lookups.{position-keys, position-name, position-none, same_bytes-pointwise}
use Rattle.lp_model.specs.Deck.{Row, Column, Deck, row, column, no_row, no_column}
use Rattle.lp_model.specs.Edit.{find_row, find_column, is_row_name, same_bytes}

get_or-map-value : {X Y : Type 0} (f : List ℕ × X → Y) (es : List (List ℕ × X)) (i : ℕ) (v : X) (d : Y) → slice_get (values_of es) i ≡ Some v → get_or (map f es) i d ≡ f (get_or (keys_of es) i [], v)
get_or-map-value f [] i v d at = cc
get_or-map-value f (e ∷ es) zero v d at =
    let here : e.1 ≡ v = cc at in
    ap (λ x. f (e.0, x)) here
get_or-map-value f (e ∷ es) (suc i) v d at = get_or-map-value f es i v d at

neither : (x y : Bool) → (x || y) ≡ false → (x ≡ false) × (y ≡ false)
neither true y h = cc
neither false y h = (refl, h)

module _ (a : Inside) (d : Deck) (shown : deck_of a ≡ d) where
  -- the row whose data are v
  pub row-shown : (i : ℕ) (v : RowData) → slice_get (values_of a.rows.entries) i ≡ Some v → row d i ≡ row_of (get_or (keys_of a.rows.entries) i [], v)
  row-shown i v at = ap (λ e. row e i) (sym shown) ∙ get_or-map-value row_of a.rows.entries i v no_row at

  -- the column whose data are v
  pub column-shown : (j : ℕ) (v : ColumnData) → slice_get (values_of a.columns.entries) j ≡ Some v → column d j ≡ column_of (get_or (keys_of a.columns.entries) j [], v)
  column-shown j v at = ap (λ e. column e j) (sym shown) ∙ get_or-map-value column_of a.columns.entries j v no_column at

  pub find_row-shown : (name : List ℕ) → find_row d name ≡ position (pointwise nat_eq name) (keys_of a.rows.entries)
  find_row-shown name = ap (λ e. find_row e name) (sym shown) ∙ position-keys row_of (λ (r : Row). r.name) (λ e. refl) name a.rows.entries

  pub find_column-shown : (name : List ℕ) → find_column d name ≡ position (pointwise nat_eq name) (keys_of a.columns.entries)
  find_column-shown name = ap (λ e. find_column e name) (sym shown) ∙ position-keys column_of (λ (c : Column). c.name) (λ e. refl) name a.columns.entries

  pub HasNamedRows-shown : IsDistinct (pointwise nat_eq) (keys_of a.rows.entries) → All (λ name. pointwise nat_eq a.objective name ≡ false) (keys_of a.rows.entries) → HasNamedRows d
  HasNamedRows-shown distinct unnamed =
      subst HasNamedRows shown (record {
        found = λ i within. position-name row_of (λ (r : Row). r.name) (λ e. refl) no_row refl a.rows.entries i distinct within;
        objective = position-keys row_of (λ (r : Row). r.name) (λ e. refl) a.objective a.rows.entries ∙ position-none a.objective (keys_of a.rows.entries) unnamed;
      })

  pub HasNamedColumns-shown : IsDistinct (pointwise nat_eq) (keys_of a.columns.entries) → HasNamedColumns d
  HasNamedColumns-shown distinct =
      subst HasNamedColumns shown (record { found = λ j within. position-name column_of (λ (c : Column). c.name) (λ e. refl) no_column refl a.columns.entries j distinct within })

  pub is_row_name-shown : (name : List ℕ) → is_row_name d name ≡ (pointwise nat_eq a.objective name || is_some (find_row d name))
  is_row_name-shown name = ap (λ b. b || is_some (find_row d name)) (ap (λ (e : Deck). same_bytes e.objective name) (sym shown) ∙ same_bytes-pointwise a.objective name)

  -- a name that is free is neither the objective's nor a row's
  pub free_row_name : (name : List ℕ) → is_row_name d name ≡ false → (pointwise nat_eq a.objective name ≡ false) × (is_some (position (pointwise nat_eq name) (keys_of a.rows.entries)) ≡ false)
  free_row_name name free =
      let parts = neither (pointwise nat_eq a.objective name) (is_some (find_row d name)) (sym (is_row_name-shown name) ∙ free) in
      (parts.0, sym (ap is_some (find_row-shown name)) ∙ parts.1)

  pub free_column_name : (name : List ℕ) → is_some (find_column d name) ≡ false → is_some (position (pointwise nat_eq name) (keys_of a.columns.entries)) ≡ false
  free_column_name name free = sym (ap is_some (find_column-shown name)) ∙ free
