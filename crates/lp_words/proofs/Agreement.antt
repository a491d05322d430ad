-- The rows of a parse agree with the options that are given.
use Rattle.std.proofs.Common.{◌≡◌, ℕ, List, [], ◌∷◌, ◌++◌, Option, Some, None, Bool, true, false, refl, subst, ◌∙◌, codes}
use Rattle.std.specs.Prelude.{is_some, if◌then◌else◌}
use Rattle.std.specs.Str.{bytes_eq}
use Rattle.clap.specs.Walk.{Row, Text}
use Rattle.lp_words.specs.declared.given.Given.{Given}
use Rattle.lp_words.specs.declared.setting.Setting.{Setting}
use Rattle.lp_words.specs.declared.setting.Setting.TheVariants.{Workers, Reinverters, Budget, Report, Log, Free}
use Rattle.lp_words.specs.Words.{nothing_given, number_from_to, with}
use Rattle.lp_words.proofs.Rows.{flag_row, number_row, row_at, row_at-new, row_at-other}

-- the rows have this number of the option, or none
abbrev pub HasNumber : ℕ → ℕ → Text → Option ℕ → List Row → Type 0
HasNumber least most name None rows = row_at name rows ≡ None
HasNumber least most name (Some n) rows = (text : Text) × (row_at name rows ≡ Some (number_row name text)) × (number_from_to least most text ≡ Some n)

abbrev pub HasFlag : Text → Bool → List Row → Type 0
HasFlag name false rows = row_at name rows ≡ None
HasFlag name true rows = row_at name rows ≡ Some (flag_row name)

pub record Agrees (given : Given) (rows : List Row) : Type 0 where
  pub workers_row : HasNumber 0 64 (codes "workers") given.workers rows
  pub reinverters_row : HasNumber 0 8 (codes "reinverters") given.reinverters rows
  pub budget_row : HasNumber 0 1000000 (codes "budget") given.budget rows
  pub report_row : HasNumber 1 2 (codes "report") given.report rows
  pub log_row : HasFlag (codes "log") given.log rows
  pub free_row : HasFlag (codes "free") given.free rows

pub nothing_agrees : Agrees nothing_given []
nothing_agrees = record { workers_row = refl; reinverters_row = refl; budget_row = refl; report_row = refl; log_row = refl; free_row = refl }

number_kept : (least most : ℕ) (name : Text) (given : Option ℕ) (rows : List Row) (r : Row) → bytes_eq r.id name ≡ false
    → HasNumber least most name given rows → HasNumber least most name given (rows ++ r ∷ [])
number_kept least most name None rows r differ none = row_at-other name rows r differ ∙ none
number_kept least most name (Some n) rows r differ (text, here, value) = (text, row_at-other name rows r differ ∙ here, value)

flag_kept : (name : Text) (given : Bool) (rows : List Row) (r : Row) → bytes_eq r.id name ≡ false → HasFlag name given rows
    → HasFlag name given (rows ++ r ∷ [])
flag_kept name false rows r differ none = row_at-other name rows r differ ∙ none
flag_kept name true rows r differ here = row_at-other name rows r differ ∙ here

once : (given : Option ℕ) (now more : Given) → (if is_some given then None else Some now) ≡ Some more → (given ≡ None) × (now ≡ more)
once None now more e = (refl, cc)
once (Some n) now more e = (cc, cc)

once_flag : (given : Bool) (now more : Given) → (if given then None else Some now) ≡ Some more → (given ≡ false) × (now ≡ more)
once_flag false now more e = (refl, cc)
once_flag true now more e = (cc, cc)

-- the name of the option that is set, the row that sets it, and that its text is the number's
abbrev pub name_of : Setting → Text
name_of (Workers n) = codes "workers"
name_of (Reinverters n) = codes "reinverters"
name_of (Budget n) = codes "budget"
name_of (Report n) = codes "report"
name_of Log = codes "log"
name_of Free = codes "free"

abbrev pub row_of : Setting → Text → Row
row_of (Workers n) text = number_row (codes "workers") text
row_of (Reinverters n) text = number_row (codes "reinverters") text
row_of (Budget n) text = number_row (codes "budget") text
row_of (Report n) text = number_row (codes "report") text
row_of Log text = flag_row (codes "log")
row_of Free text = flag_row (codes "free")

abbrev pub IsTextOf : Setting → Text → Type 0
IsTextOf (Workers n) text = number_from_to 0 64 text ≡ Some n
IsTextOf (Reinverters n) text = number_from_to 0 8 text ≡ Some n
IsTextOf (Budget n) text = number_from_to 0 1000000 text ≡ Some n
IsTextOf (Report n) text = number_from_to 1 2 text ≡ Some n
IsTextOf Log text = Unit {0}
IsTextOf Free text = Unit {0}

-- what is new was not there, and agrees when it is
pub record Renews (given more : Given) (setting : Setting) (text : Text) (rows : List Row) : Type 0 where
  pub absent : row_at (name_of setting) rows ≡ None
  pub agrees : Agrees more (rows ++ row_of setting text ∷ [])

pub renews : (given more : Given) (setting : Setting) (text : Text) (rows : List Row) → with given setting ≡ Some more → IsTextOf setting text
    → Agrees given rows → Renews given more setting text rows
renews given more (Workers n) text rows e spelled old =
    let first = once given.workers (record given { workers = Some n }) more e in
    let none : row_at (codes "workers") rows ≡ None = subst (λ (o : Option ℕ). HasNumber 0 64 (codes "workers") o rows) first.0 old.workers_row in
    let now : Agrees (record given { workers = Some n }) (rows ++ (number_row (codes "workers") text) ∷ []) = record {
      workers_row = (text, row_at-new (codes "workers") rows (number_row (codes "workers") text) none refl, spelled);
      reinverters_row = number_kept 0 8 (codes "reinverters") given.reinverters rows (number_row (codes "workers") text) refl old.reinverters_row;
      budget_row = number_kept 0 1000000 (codes "budget") given.budget rows (number_row (codes "workers") text) refl old.budget_row;
      report_row = number_kept 1 2 (codes "report") given.report rows (number_row (codes "workers") text) refl old.report_row;
      log_row = flag_kept (codes "log") given.log rows (number_row (codes "workers") text) refl old.log_row;
      free_row = flag_kept (codes "free") given.free rows (number_row (codes "workers") text) refl old.free_row;
    } in
    record { absent = none; agrees = subst (λ (g : Given). Agrees g (rows ++ (number_row (codes "workers") text) ∷ [])) first.1 now }
renews given more (Reinverters n) text rows e spelled old =
    let first = once given.reinverters (record given { reinverters = Some n }) more e in
    let none : row_at (codes "reinverters") rows ≡ None = subst (λ (o : Option ℕ). HasNumber 0 8 (codes "reinverters") o rows) first.0 old.reinverters_row in
    let now : Agrees (record given { reinverters = Some n }) (rows ++ (number_row (codes "reinverters") text) ∷ []) = record {
      workers_row = number_kept 0 64 (codes "workers") given.workers rows (number_row (codes "reinverters") text) refl old.workers_row;
      reinverters_row = (text, row_at-new (codes "reinverters") rows (number_row (codes "reinverters") text) none refl, spelled);
      budget_row = number_kept 0 1000000 (codes "budget") given.budget rows (number_row (codes "reinverters") text) refl old.budget_row;
      report_row = number_kept 1 2 (codes "report") given.report rows (number_row (codes "reinverters") text) refl old.report_row;
      log_row = flag_kept (codes "log") given.log rows (number_row (codes "reinverters") text) refl old.log_row;
      free_row = flag_kept (codes "free") given.free rows (number_row (codes "reinverters") text) refl old.free_row;
    } in
    record { absent = none; agrees = subst (λ (g : Given). Agrees g (rows ++ (number_row (codes "reinverters") text) ∷ [])) first.1 now }
renews given more (Budget n) text rows e spelled old =
    let first = once given.budget (record given { budget = Some n }) more e in
    let none : row_at (codes "budget") rows ≡ None = subst (λ (o : Option ℕ). HasNumber 0 1000000 (codes "budget") o rows) first.0 old.budget_row in
    let now : Agrees (record given { budget = Some n }) (rows ++ (number_row (codes "budget") text) ∷ []) = record {
      workers_row = number_kept 0 64 (codes "workers") given.workers rows (number_row (codes "budget") text) refl old.workers_row;
      reinverters_row = number_kept 0 8 (codes "reinverters") given.reinverters rows (number_row (codes "budget") text) refl old.reinverters_row;
      budget_row = (text, row_at-new (codes "budget") rows (number_row (codes "budget") text) none refl, spelled);
      report_row = number_kept 1 2 (codes "report") given.report rows (number_row (codes "budget") text) refl old.report_row;
      log_row = flag_kept (codes "log") given.log rows (number_row (codes "budget") text) refl old.log_row;
      free_row = flag_kept (codes "free") given.free rows (number_row (codes "budget") text) refl old.free_row;
    } in
    record { absent = none; agrees = subst (λ (g : Given). Agrees g (rows ++ (number_row (codes "budget") text) ∷ [])) first.1 now }
renews given more (Report n) text rows e spelled old =
    let first = once given.report (record given { report = Some n }) more e in
    let none : row_at (codes "report") rows ≡ None = subst (λ (o : Option ℕ). HasNumber 1 2 (codes "report") o rows) first.0 old.report_row in
    let now : Agrees (record given { report = Some n }) (rows ++ (number_row (codes "report") text) ∷ []) = record {
      workers_row = number_kept 0 64 (codes "workers") given.workers rows (number_row (codes "report") text) refl old.workers_row;
      reinverters_row = number_kept 0 8 (codes "reinverters") given.reinverters rows (number_row (codes "report") text) refl old.reinverters_row;
      budget_row = number_kept 0 1000000 (codes "budget") given.budget rows (number_row (codes "report") text) refl old.budget_row;
      report_row = (text, row_at-new (codes "report") rows (number_row (codes "report") text) none refl, spelled);
      log_row = flag_kept (codes "log") given.log rows (number_row (codes "report") text) refl old.log_row;
      free_row = flag_kept (codes "free") given.free rows (number_row (codes "report") text) refl old.free_row;
    } in
    record { absent = none; agrees = subst (λ (g : Given). Agrees g (rows ++ (number_row (codes "report") text) ∷ [])) first.1 now }
renews given more Log text rows e spelled old =
    let first = once_flag given.log (record given { log = true }) more e in
    let none : row_at (codes "log") rows ≡ None = subst (λ (b : Bool). HasFlag (codes "log") b rows) first.0 old.log_row in
    let now : Agrees (record given { log = true }) (rows ++ (flag_row (codes "log")) ∷ []) = record {
      workers_row = number_kept 0 64 (codes "workers") given.workers rows (flag_row (codes "log")) refl old.workers_row;
      reinverters_row = number_kept 0 8 (codes "reinverters") given.reinverters rows (flag_row (codes "log")) refl old.reinverters_row;
      budget_row = number_kept 0 1000000 (codes "budget") given.budget rows (flag_row (codes "log")) refl old.budget_row;
      report_row = number_kept 1 2 (codes "report") given.report rows (flag_row (codes "log")) refl old.report_row;
      log_row = row_at-new (codes "log") rows (flag_row (codes "log")) none refl;
      free_row = flag_kept (codes "free") given.free rows (flag_row (codes "log")) refl old.free_row;
    } in
    record { absent = none; agrees = subst (λ (g : Given). Agrees g (rows ++ (flag_row (codes "log")) ∷ [])) first.1 now }
renews given more Free text rows e spelled old =
    let first = once_flag given.free (record given { free = true }) more e in
    let none : row_at (codes "free") rows ≡ None = subst (λ (b : Bool). HasFlag (codes "free") b rows) first.0 old.free_row in
    let now : Agrees (record given { free = true }) (rows ++ (flag_row (codes "free")) ∷ []) = record {
      workers_row = number_kept 0 64 (codes "workers") given.workers rows (flag_row (codes "free")) refl old.workers_row;
      reinverters_row = number_kept 0 8 (codes "reinverters") given.reinverters rows (flag_row (codes "free")) refl old.reinverters_row;
      budget_row = number_kept 0 1000000 (codes "budget") given.budget rows (flag_row (codes "free")) refl old.budget_row;
      report_row = number_kept 1 2 (codes "report") given.report rows (flag_row (codes "free")) refl old.report_row;
      log_row = flag_kept (codes "log") given.log rows (flag_row (codes "free")) refl old.log_row;
      free_row = row_at-new (codes "free") rows (flag_row (codes "free")) none refl;
    } in
    record { absent = none; agrees = subst (λ (g : Given). Agrees g (rows ++ (flag_row (codes "free")) ∷ [])) first.1 now }
