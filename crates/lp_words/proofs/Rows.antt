-- The rows of a parse of a command line: which row an option has.
use Rattle.std.proofs.Common.{◌≡◌, List, [], ◌∷◌, ◌++◌, Option, Some, None, Bool, true, false, cond, inl, inr, refl, ap, ap₂, ◌∙◌, codes}
use Rattle.std.specs.Prelude.{find, ◌||◌}
use Rattle.std.specs.Str.{bytes_eq}
use Rattle.std.proofs.lemmas.Bool.{cases_Bool}
use Rattle.std.proofs.lemmas.List.{append-nil}
use Rattle.clap.specs.Walk.{Row, Rule, Text, at_row, has_row, more_values, reading_by, used, with_default, with_values, without}
use Rattle.clap.specs.Simple.{filled, with_index}
use Rattle.lp_words.specs.Inner.{flag, number}
use Rattle.clap.specs.declared.parser.matches.ValueSource.TheVariants.{CommandLine, DefaultValue}

-- the first row of an option
abbrev pub row_at : Text → List Row → Option Row
row_at id rows = find (λ r. bytes_eq r.id id) rows

head_fails : (b : Bool) (r : Row) (rest : Option Row) → cond b (Some r) rest ≡ None → (b ≡ false) × (rest ≡ None)
head_fails true r rest e = (cc, cc)
head_fails false r rest e = (refl, e)

head_stays : (b : Bool) (r x : Row) (rest more : Option Row) → cond b (Some r) rest ≡ Some x → (rest ≡ Some x → more ≡ Some x) → cond b (Some r) more ≡ Some x
head_stays true r x rest more e next = e
head_stays false r x rest more e next = next e

both_false : (a b : Bool) → (a || b) ≡ false → (a ≡ false) × (b ≡ false)
both_false true b e = (cc, cc)
both_false false b e = (refl, e)

pub no_row : (id : Text) (rows : List Row) → row_at id rows ≡ None → has_row id rows ≡ false
no_row id [] e = refl
no_row id (r ∷ rows) e =
    let h = head_fails (bytes_eq r.id id) r (row_at id rows) e in
    ap₂ (λ a b. a || b) h.0 (no_row id rows h.1)

pub none_there : (id : Text) (rows : List Row) → has_row id rows ≡ false → row_at id rows ≡ None
none_there id [] e = refl
none_there id (r ∷ rows) e =
    let h = both_false (bytes_eq r.id id) (has_row id rows) e in
    rw h.0 (none_there id rows h.1)

some_row_step : (b : Bool) (r x : Row) (rest : Option Row) (others : Bool) → cond b (Some r) rest ≡ Some x → (rest ≡ Some x → others ≡ true)
    → (b || others) ≡ true
some_row_step true r x rest others e next = refl
some_row_step false r x rest others e next = next e

pub some_row : (id : Text) (rows : List Row) (x : Row) → row_at id rows ≡ Some x → has_row id rows ≡ true
some_row id [] x e = cc
some_row id (r ∷ rows) x e = some_row_step (bytes_eq r.id id) r x (row_at id rows) (has_row id rows) e (some_row id rows x)

added : (id : Text) (change : Row → List Row) (missing : List Row) (rows : List Row) → row_at id rows ≡ None → at_row id change missing rows ≡ rows ++ missing
added id change missing [] e = refl
added id change missing (r ∷ rows) e =
    let h = head_fails (bytes_eq r.id id) r (row_at id rows) e in
    rw h.0 (ap (λ l. r ∷ l) (added id change missing rows h.1))

pub row_at-other : (id : Text) (rows : List Row) (r : Row) → bytes_eq r.id id ≡ false → row_at id (rows ++ r ∷ []) ≡ row_at id rows
row_at-other id [] r e = rw e refl
row_at-other id (x ∷ rows) r e = ap (λ o. cond (bytes_eq x.id id) (Some x) o) (row_at-other id rows r e)

pub row_at-new : (id : Text) (rows : List Row) (r : Row) → row_at id rows ≡ None → bytes_eq r.id id ≡ true → row_at id (rows ++ r ∷ []) ≡ Some r
row_at-new id [] r none e = rw e refl
row_at-new id (x ∷ rows) r none e =
    let h = head_fails (bytes_eq x.id id) x (row_at id rows) none in
    rw h.0 (row_at-new id rows r h.1 e)

-- ── an option with a number, and a flag ──

abbrev pub number_rule : Text → Rule
number_rule name = with_index 1 (filled (number name))

abbrev pub flag_rule : Text → Rule
flag_rule name = with_index 1 (filled (flag name))

abbrev pub number_row : Text → Text → Row
number_row name text = record { id = name; values = text ∷ []; count = None; source = Some CommandLine; reading = reading_by (number_rule name) }

abbrev pub flag_row : Text → Row
flag_row name = record { id = name; values = codes "true" ∷ []; count = None; source = Some CommandLine; reading = reading_by (flag_rule name) }

abbrev pub default_row : Text → Row
default_row name = record { id = name; values = codes "false" ∷ []; count = None; source = Some DefaultValue; reading = reading_by (flag_rule name) }

unchanged : (id : Text) (rows : List Row) → row_at id rows ≡ None → without id rows ≡ rows
unchanged id rows e = added id (λ _. []) [] rows e ∙ append-nil rows

pub used_number : (name text : Text) (rows : List Row) → row_at name rows ≡ None → used (number_rule name) (text ∷ []) rows ≡ rows ++ number_row name text ∷ []
used_number name text rows e =
    ap (λ l. with_values name (reading_by (number_rule name)) CommandLine (text ∷ []) l) (unchanged name rows e)
    ∙ added name (more_values CommandLine (text ∷ [])) _ rows e

pub used_flag : (name : Text) (rows : List Row) → row_at name rows ≡ None → used (flag_rule name) [] rows ≡ rows ++ flag_row name ∷ []
used_flag name rows e =
    ap (λ l. with_values name (reading_by (flag_rule name)) CommandLine (codes "true" ∷ []) l) (unchanged name rows e)
    ∙ added name (more_values CommandLine (codes "true" ∷ [])) _ rows e

-- ── a flag that is not given has its default ──

pub defaulted_new : (name : Text) (rows : List Row) → row_at name rows ≡ None → with_default rows (flag_rule name) ≡ rows ++ default_row name ∷ []
defaulted_new name rows e =
    let absent : has_row name rows ≡ false = no_row name rows e in
    rw absent (added name (more_values DefaultValue (codes "false" ∷ [])) _ rows e)

pub defaulted_again : (name : Text) (rows : List Row) (x : Row) → row_at name rows ≡ Some x → with_default rows (flag_rule name) ≡ rows
defaulted_again name rows x e =
    let present : has_row name rows ≡ true = some_row name rows x e in
    rw present refl

pub other_default : (name id : Text) (rows : List Row) → bytes_eq name id ≡ false → row_at id (with_default rows (flag_rule name)) ≡ row_at id rows
other_default name id rows differ = elim (cases_Bool (has_row name rows)) [
  | inl present ↦ rw present refl
  | inr absent ↦ ap (row_at id) (defaulted_new name rows (none_there name rows absent)) ∙ row_at-other id rows (default_row name) differ
]
