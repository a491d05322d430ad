-- Lines that are made one after another.
use Rattle.std.proofs.Common.{◌≡◌, ℕ, ◌+◌, ◌<◌, ◌≤◌, List, [], ◌∷◌, ◌++◌, length, get_or, take, drop, map, Option, None, Some, Result, Ok, Err, refl, sym, subst, ap, ap₂, ◌∙◌}
use Rattle.std.proofs.Common.{append_assoc}
use Rattle.std.specs.List.{flat_map}
use Rattle.std.specs.Result.{IsErrAnd}
use Rattle.std.proofs.lemmas.List.{append-nil, map-append, take-append-drop, take_all, take_more}
use Rattle.std.proofs.lemmas.List.Concat.{flat_map-append}
use Rattle.std.proofs.lemmas.Result.{err_from_is_err_and}
use Rattle.deck_tools.specs.declared.fault.DeckWriteFault.{DeckWriteFault}
use Rattle.deck_tools.specs.declared.fault.DeckWriteFault.TheVariants.{Memory, Wide, Write}
use Rattle.lp_text.specs.declared.Form.{Form}
use Rattle.deck_tools.specs.Layout.{Line, line_text, onto, owner_of, section, text_of_lines}
use Rattle.deck_tools.specs.Makes.{Makes, section_text}

-- ── the text of lines ──

abbrev ok : List ℕ → Result (List ℕ) (List ℕ)
ok text = Ok text

ok_is : (a b : List ℕ) → ok a ≡ ok b → a ≡ b
ok_is a b e = cc

-- the texts of lines and of others behind them, in one
abbrev pub joined : Result (List ℕ) (List ℕ) → Result (List ℕ) (List ℕ) → Result (List ℕ) (List ℕ)
joined (Ok first) (Ok second) = Ok (first ++ second)
joined (Ok first) (Err name) = Err name
joined (Err name) second = Err name

nothing-joined : (rest : Result (List ℕ) (List ℕ)) → rest ≡ joined (Ok []) rest
nothing-joined (Ok text) = refl
nothing-joined (Err name) = refl

onto-joined : (line : Option (List ℕ)) (owner : List ℕ) (a b : Result (List ℕ) (List ℕ)) → onto line owner (joined a b) ≡ joined (onto line owner a) b
onto-joined None owner a b = refl
onto-joined (Some line) owner (Ok first) (Ok second) = ap Ok (sym (append_assoc line (10 ∷ first) second))
onto-joined (Some line) owner (Ok first) (Err name) = refl
onto-joined (Some line) owner (Err name) b = refl

module _ (form : Form) where
  text_of_lines-append : (xs ys : List Line) → text_of_lines form (xs ++ ys) ≡ joined (text_of_lines form xs) (text_of_lines form ys)
  text_of_lines-append [] ys = nothing-joined (text_of_lines form ys)
  text_of_lines-append (x ∷ xs) ys =
      ap (onto (line_text form x) (owner_of x)) (text_of_lines-append xs ys) ∙ onto-joined (line_text form x) (owner_of x) (text_of_lines form xs) (text_of_lines form ys)

  headed : (w : List ℕ) (lines : List Line) (text : List ℕ) → text_of_lines form lines ≡ Ok text → text_of_lines form (section w lines) ≡ Ok (section_text w text)
  headed w [] text is = ap Ok (ap (section_text w) (ok_is [] text is))
  headed w (line ∷ lines) text is = by (line_text form line) (owner_of line) (text_of_lines form lines) text is
    where
      by : (l : Option (List ℕ)) (name : List ℕ) (rest : Result (List ℕ) (List ℕ)) (text : List ℕ) → onto l name rest ≡ Ok text
          → onto (Some w) [] (onto l name rest) ≡ Ok (section_text w text)
      by None name rest text is = absurd (cc is)
      by (Some l) name (Err other) text is = absurd (cc is)
      by (Some []) name (Ok rest) text is = ap (λ t. Ok (section_text w t)) (ok_is (10 ∷ rest) text is)
      by (Some (c ∷ l)) name (Ok rest) text is = ap (λ t. Ok (section_text w t)) (ok_is (c ∷ l ++ 10 ∷ rest) text is)

module _ {X : Type 0} (f : X → List Line) (xs : List X) (d : X) (k : ℕ) (within : k < length xs) where
  more_lines : flat_map f (take (k + 1) xs) ≡ flat_map f (take k xs) ++ f (get_or xs k d)
  more_lines =
      ap (flat_map f) (take_more xs k d within) ∙ flat_map-append f (take k xs) (get_or xs k d ∷ []) ∙ ap (λ l. flat_map f (take k xs) ++ l) (append-nil (f (get_or xs k d)))

-- ── what calls made ──

module _ {form : Form} where
  -- no line yet
  pub Makes-none : (text : List ℕ) → Makes form text text [] (Ok tt)
  Makes-none text = record { made = ([], refl, sym (append-nil text)) }

  then_made : {old mid new : List ℕ} {xs ys : List Line} (r : Result (Unit {0}) DeckWriteFault) → Makes form old mid xs (Ok tt) → Makes form mid new ys r → Makes form old new (xs ++ ys) r
  then_made {old} {mid} {new} {xs} {ys} (Ok done) first second =
      let a = first.made in
      let b = second.made in
      record {
        made = (
          a.0 ++ b.0,
          text_of_lines-append form xs ys ∙ ap₂ joined a.1 b.1,
          b.2 ∙ ap (λ l. l ++ b.0) a.2 ∙ append_assoc old a.0 b.0,
        );
      }
  then_made {old} {mid} {new} {xs} {ys} (Err (Wide name)) first second =
      record { made = text_of_lines-append form xs ys ∙ ap₂ joined first.made.1 second.made }
  then_made (Err Memory) first second = record { made = tt }
  then_made (Err Write) first second = absurd second.made

  -- lines, and then others
  pub Makes-then : {old mid new : List ℕ} {xs ys : List Line} {r : Result (Unit {0}) DeckWriteFault}
      → Makes form old mid xs (Ok tt) → Makes form mid new ys r → Makes form old new (xs ++ ys) r
  Makes-then {r = r} first second = then_made r first second

  -- lines, and then others, where neither call was refused
  pub Makes-also : {old mid new : List ℕ} {xs ys : List Line} → Makes form old mid xs (Ok tt) → Makes form mid new ys (Ok tt) → Makes form old new (xs ++ ys) (Ok tt)
  Makes-also first second = then_made (Ok tt) first second

  longer : {old new : List ℕ} {xs : List Line} (e : DeckWriteFault) (zs : List Line) → Makes form old new xs (Err e) → Makes form old new (xs ++ zs) (Err e)
  longer {xs = xs} (Wide name) zs part = record { made = text_of_lines-append form xs zs ∙ ap (λ a. joined a (text_of_lines form zs)) part.made }
  longer Memory zs part = record { made = tt }
  longer Write zs part = absurd part.made

  -- the refusal of some lines is that of each longer list
  pub Makes-longer : {old new : List ℕ} {xs : List Line} {e : DeckWriteFault} (zs : List Line) → Makes form old new xs (Err e) → Makes form old new (xs ++ zs) (Err e)
  Makes-longer {e = e} zs part = longer e zs part

  pub Makes-refused : {old new : List ℕ} {xs : List Line} {e : DeckWriteFault} {r : Result (Unit {0}) DeckWriteFault} (zs : List Line)
      → Makes form old new xs (Err e) → IsErrAnd r (λ y. y ≡ e) → Makes form old new (xs ++ zs) r
  Makes-refused {old} {new} {xs} {e} {r} zs part same =
      let at = err_from_is_err_and r same in
      subst (λ s. Makes form old new (xs ++ zs) s) (sym (at.1 ∙ ap Err at.2)) (longer e zs part)

  -- ── sections ──

  -- a section with lines that were made by themselves
  pub Makes-section : {old new body : List ℕ} (w : List ℕ) (lines : List Line) → Makes form [] body lines (Ok tt) → new ≡ old ++ section_text w body
      → Makes form old new (section w lines) (Ok tt)
  Makes-section {old} {new} {body} w lines part more =
      let p = part.made in
      record { made = (section_text w body, headed form w lines body (p.1 ∙ ap Ok (sym p.2)), more) }

  -- ── the lines of each item of a list ──

  module _ {X : Type 0} (f : X → List Line) (xs : List X) (d : X) (k : ℕ) (within : k < length xs) where
    -- those of the first k items, and then of the next one
    pub Makes-next : {old mid new : List ℕ} {r : Result (Unit {0}) DeckWriteFault} → Makes form old mid (flat_map f (take k xs)) (Ok tt) → Makes form mid new (f (get_or xs k d)) r
        → Makes form old new (flat_map f (take (k + 1) xs)) r
    Makes-next {old} {mid} {new} {r} first next = subst (λ l. Makes form old new l r) (sym (more_lines f xs d k within)) (then_made r first next)

    -- those of the first k items, and then a refusal
    pub Makes-stopped : {old mid new : List ℕ} {e : DeckWriteFault} {r : Result (Unit {0}) DeckWriteFault} → Makes form old mid (flat_map f (take k xs)) (Ok tt)
        → Makes form mid new (f (get_or xs k d)) (Err e) → IsErrAnd r (λ y. y ≡ e) → Makes form old new (flat_map f xs) r
    Makes-stopped {old} {mid} {new} {e} {r} first next same =
        subst (λ l. Makes form old new l r) (sym (flat_map-append f (take (k + 1) xs) (drop (k + 1) xs)) ∙ ap (flat_map f) (take-append-drop (k + 1) xs))
        (Makes-refused (flat_map f (drop (k + 1) xs)) (Makes-next first next) same)

  -- a line for each item
  module _ {X : Type 0} (f : X → Line) (xs : List X) (d : X) (k : ℕ) (within : k < length xs) where
    -- those of the first k items, and then of the next one
    pub Makes-next_line : {old mid new : List ℕ} {r : Result (Unit {0}) DeckWriteFault} → Makes form old mid (map f (take k xs)) (Ok tt) → Makes form mid new (f (get_or xs k d) ∷ []) r
        → Makes form old new (map f (take (k + 1) xs)) r
    Makes-next_line {old} {mid} {new} {r} first next =
        subst (λ l. Makes form old new l r) (sym (ap (map f) (take_more xs k d within) ∙ map-append f (take k xs) (get_or xs k d ∷ []))) (then_made r first next)

    -- those of the first k items, and then a refusal
    pub Makes-stopped_line : {old mid new : List ℕ} {e : DeckWriteFault} {r : Result (Unit {0}) DeckWriteFault} → Makes form old mid (map f (take k xs)) (Ok tt)
        → Makes form mid new (f (get_or xs k d) ∷ []) (Err e) → IsErrAnd r (λ y. y ≡ e) → Makes form old new (map f xs) r
    Makes-stopped_line {old} {mid} {new} {e} {r} first next same =
        subst (λ l. Makes form old new l r) (sym (map-append f (take (k + 1) xs) (drop (k + 1) xs)) ∙ ap (map f) (take-append-drop (k + 1) xs))
        (Makes-refused (map f (drop (k + 1) xs)) (Makes-next_line first next) same)

  -- those of all items
  pub Makes-all : {X : Type 0} {old new : List ℕ} (f : X → List Line) (xs : List X) (k : ℕ) → length xs ≤ k → Makes form old new (flat_map f (take k xs)) (Ok tt)
      → Makes form old new (flat_map f xs) (Ok tt)
  Makes-all {X} {old} {new} f xs k past all = subst (λ l. Makes form old new (flat_map f l) (Ok tt)) (take_all k xs past) all
