-- What the parser's matches say of each option.
use Rattle.std.proofs.Common.{◌≡◌, ℕ, List, [], Option, Some, None, Bool, true, false, cond, option_and_then, refl, sym, subst, ap, ap₂, ◌∙◌, codes, drop}
use Rattle.std.specs.Prelude.{◌&&◌, IsSome, is_some, slice_get}
use Rattle.std.specs.List.{list_all}
use Rattle.std.specs.Str.{bytes_eq}
use Rattle.clap.specs.Matches.{found_of}
use Rattle.clap.specs.declared.parser.matches.ArgMatches.{ArgMatches}
use Rattle.clap.proofs.WalkLemmas.{first_value-rows, one_text-rows}
use Rattle.clap.specs.Walk.{Row, Text, Walk, finished, first_of, one_of, row_text, rows_of, settled_rows, with_default}
use Rattle.clap.specs.Simple.{App, HasMatchesOf, built, entered, filled, help_rule, is_simple, matches_of, with_index}
use Rattle.clap.specs.Takes.{default_passes, entered_passes, is_valid, settle_passes, takes, walk_passes}
use Rattle.clap.proofs.OnLiterals.{clap_on_literals}
use Rattle.lp_words.specs.declared.given.Given.{Given}
use Rattle.lp_words.specs.declared.setting.Setting.{Setting}
use Rattle.lp_words.specs.Inner.{HasOptions, flag_word, option_app}
use Rattle.lp_words.specs.Words.{given_of, nothing_given, number_from_to, settings_of, with_all}
use Rattle.lp_words.proofs.Rows.{default_row, defaulted_again, defaulted_new, flag_row, flag_rule, number_rule, other_default, row_at, row_at-new}
use Rattle.lp_words.proofs.Agreement.{Agrees, HasFlag, HasNumber, nothing_agrees}
use Rattle.lp_words.proofs.Steps.{at, held, rules_built, shape}
use Rattle.lp_words.proofs.Walks.{walks}

same_rows : (b : Bool) (rows : List Row) → cond b rows rows ≡ rows
same_rows true rows = refl
same_rows false rows = refl

no_default : (name : Text) (rows : List Row) → with_default rows (number_rule name) ≡ rows
no_default name rows = same_rows _ rows

no_help : (rows : List Row) → with_default rows (with_index 1 (filled help_rule)) ≡ rows
no_help rows = same_rows _ rows

abbrev with_defaults : List Row → List Row
with_defaults rows = with_default (with_default rows (flag_rule (codes "log"))) (flag_rule (codes "free"))

finished_is : (rows : List Row) (p : Option (Text × List Text)) → finished rules_built (held rows p) ≡ with_defaults (settled_rows rules_built p rows)
finished_is rows p =
    let all = settled_rows rules_built p rows in
    let numbers = no_default (codes "report") _ ∙ no_default (codes "budget") _ ∙ no_default (codes "reinverters") _ ∙ no_default (codes "workers") all in
    no_help _ ∙ ap with_defaults numbers

-- ── numbers ──

kept : (name : Text) (rows : List Row) → bytes_eq (codes "log") name ≡ false → bytes_eq (codes "free") name ≡ false
    → row_at name (with_defaults rows) ≡ row_at name rows
kept name rows log free = other_default (codes "free") name _ free ∙ other_default (codes "log") name rows log

number_read : (least most : ℕ) (name : Text) (given : Option ℕ) (rows final : List Row) → row_at name final ≡ row_at name rows
    → HasNumber least most name given rows
    → option_and_then (number_from_to least most) (first_of name final) ≡ given
number_read least most name None rows final e none = ap (λ r. option_and_then (number_from_to least most) (option_and_then (λ r. slice_get r.values 0) r)) (e
    ∙ none)
number_read least most name (Some n) rows final e (text, here, value) =
    ap (λ r. option_and_then (number_from_to least most) (option_and_then (λ r. slice_get r.values 0) r)) (e ∙ here) ∙ value

-- ── flags ──

abbrev pub flag_row_for : Text → Bool → Row
flag_row_for name true = flag_row name
flag_row_for name false = default_row name

defaulted : (name : Text) (given : Bool) (rows : List Row) → bytes_eq name name ≡ true → HasFlag name given rows
    → row_at name (with_default rows (flag_rule name)) ≡ Some (flag_row_for name given)
defaulted name true rows same here = ap (row_at name) (defaulted_again name rows (flag_row name) here) ∙ here
defaulted name false rows same none = ap (row_at name) (defaulted_new name rows none) ∙ row_at-new name rows (default_row name) none same

row_word : (name : Text) (given : Bool) → row_text (flag_row_for name given) ≡ Some (flag_word given)
row_word name true = refl
row_word name false = refl

flag_read : (name : Text) (given : Bool) (final : List Row) → row_at name final ≡ Some (flag_row_for name given) → one_of name final ≡ Some (flag_word given)
flag_read name given final e = ap (option_and_then row_text) e ∙ row_word name given

other_flag : (name id : Text) (given : Bool) (rows : List Row) → bytes_eq name id ≡ false → HasFlag id given rows
    → HasFlag id given (with_default rows (flag_rule name))
other_flag name id false rows differ none = other_default name id rows differ ∙ none
other_flag name id true rows differ here = other_default name id rows differ ∙ here

-- ── all options ──

pub record Reads (given : Given) (rows : List Row) : Type 0 where
  pub workers_read : option_and_then (number_from_to 0 64) (first_of (codes "workers") rows) ≡ given.workers
  pub reinverters_read : option_and_then (number_from_to 0 8) (first_of (codes "reinverters") rows) ≡ given.reinverters
  pub budget_read : option_and_then (number_from_to 0 1000000) (first_of (codes "budget") rows) ≡ given.budget
  pub report_read : option_and_then (number_from_to 1 2) (first_of (codes "report") rows) ≡ given.report
  pub log_read : one_of (codes "log") rows ≡ Some (flag_word given.log)
  pub free_read : one_of (codes "free") rows ≡ Some (flag_word given.free)

reads : (given : Given) (rows : List Row) → Agrees given rows → Reads given (with_defaults rows)
reads given rows agrees = record {
  workers_read = number_read 0 64 (codes "workers") given.workers rows (with_defaults rows) (kept (codes "workers") rows refl refl) agrees.workers_row;
  reinverters_read = number_read 0 8 (codes "reinverters") given.reinverters rows (with_defaults rows) (kept (codes "reinverters") rows refl refl) agrees.reinverters_row;
  budget_read = number_read 0 1000000 (codes "budget") given.budget rows (with_defaults rows) (kept (codes "budget") rows refl refl) agrees.budget_row;
  report_read = number_read 1 2 (codes "report") given.report rows (with_defaults rows) (kept (codes "report") rows refl refl) agrees.report_row;
  log_read = flag_read (codes "log") given.log (with_defaults rows) (other_default (codes "free") (codes "log") (with_default rows (flag_rule (codes "log"))) refl
      ∙ defaulted (codes "log") given.log rows refl agrees.log_row);
  free_read = flag_read (codes "free") given.free (with_defaults rows) (defaulted (codes "free") given.free (with_default rows (flag_rule (codes "log"))) refl
      (other_flag (codes "log") (codes "free") given.free rows refl agrees.free_row));
}

simple : is_simple option_app ≡ true
unfolding clap_on_literals
simple = refl

-- the parser takes the words, of which the first is the command's own, and finds the options
pub record Parses (given : Given) (words : List Text) : Type 0 where
  pub taken : takes option_app words ≡ true
  pub read : Reads given (matches_of option_app words)

some_settings : (o : Option (List Setting)) (given : Given) → option_and_then (with_all nothing_given) o ≡ Some given
    → (settings : List Setting) × (o ≡ Some settings) × (with_all nothing_given settings ≡ Some given)
some_settings None given e = cc
some_settings (Some settings) given e = (settings, refl, e)

module _ (words : List Text) where
  -- whether the words are taken, by the end of their walk
  abbrev is_taken : Walk → Bool
  is_taken end = entered_passes (built option_app) end.stopped
      && (walk_passes shape [] (at [] None) words && (settle_passes rules_built false end.held
      && (list_all default_passes rules_built && is_valid shape (finished rules_built end.held) (is_some (entered (built option_app) end.stopped)))))

  taken_between : (rows : List Row) (p : Option (Text × List Text)) → walk_passes shape [] (at [] None) words ≡ true
      → settle_passes rules_built false (held rows p) ≡ true → is_taken (at rows p) ≡ true
  unfolding clap_on_literals
  taken_between rows p passes settles = ap₂ (λ a b. a && (b && true)) passes settles

pub parses : (words : List Text) (given : Given) → given_of (drop 1 words) ≡ Some given → Parses given words
parses words given e =
    let s = some_settings (settings_of (drop 1 words)) given e in
    let w = walks (drop 1 words) nothing_given given s.0 [] None s.1 s.2 nothing_agrees refl in
    let b = w.between in
    let all : matches_of option_app words ≡ with_defaults (settled_rows rules_built b.pending b.rows) = ap (λ (x : Walk). finished rules_built x.held) b.is
    ∙ finished_is b.rows b.pending in
    record {
      taken = ap₂ (λ x y. x && y) simple (ap (is_taken (drop 1 words)) b.is ∙ taken_between (drop 1 words) b.rows b.pending w.passes b.passes);
      read = subst (λ (l : List Row). Reads given l) (sym all) (reads given (settled_rows rules_built b.pending b.rows) b.agrees);
    }

-- the same of the matches that a parse gives
pub has_options : (words : List Text) (given : Given) (m : ArgMatches) → rows_of (found_of m) ≡ matches_of option_app words
    → Reads given (matches_of option_app words) → HasOptions given m
has_options words given m rows read =
    let here : Reads given (rows_of (found_of m)) = subst (λ (l : List Row). Reads given l) (sym rows) read in
    record {
      workers_read = ap (option_and_then (number_from_to 0 64)) (first_value-rows (found_of m) (codes "workers")) ∙ here.workers_read;
      reinverters_read = ap (option_and_then (number_from_to 0 8)) (first_value-rows (found_of m) (codes "reinverters")) ∙ here.reinverters_read;
      budget_read = ap (option_and_then (number_from_to 0 1000000)) (first_value-rows (found_of m) (codes "budget")) ∙ here.budget_read;
      report_read = ap (option_and_then (number_from_to 1 2)) (first_value-rows (found_of m) (codes "report")) ∙ here.report_read;
      log_read = one_text-rows (found_of m) (codes "log") ∙ here.log_read;
      free_read = one_text-rows (found_of m) (codes "free") ∙ here.free_read;
    }

-- a command that is the one with the options gives them
pub matches_agree : (a : App) (words : List Text) (given : Given) (m : ArgMatches) → a ≡ option_app → given_of (drop 1 words) ≡ Some given
    → HasMatchesOf a words m → HasOptions given m
matches_agree a words given m is e has =
    let rows = (has (ap is_simple is ∙ simple)).0 ∙ ap (λ x. matches_of x words) is in
    has_options words given m rows (parses words given e).read

some_given : (o : Option Given) → IsSome o → (given : Given) × (o ≡ Some given)
some_given None is = cc
some_given (Some given) is = (given, refl)

-- and takes the words
pub app_takes : (a : App) (words : List Text) → a ≡ option_app → IsSome (given_of (drop 1 words)) → takes a words ≡ true
app_takes a words is some =
    let given = some_given (given_of (drop 1 words)) some in
    ap (λ x. takes x words) is ∙ (parses words given.0 given.1).taken

-- a value that is the one wherever there is one
pub is_given : (o : Option Given) (read : Given) → IsSome o → ((given : Given) → o ≡ Some given → read ≡ given) → o ≡ Some read
is_given None read is same = cc
is_given (Some given) read is same = ap (λ g. Some g) (sym (same given refl))
