-- The walk of the parser over the words of one option.
use Rattle.std.proofs.Common.{◌≡◌, ℕ, List, [], ◌∷◌, ◌++◌, Option, Some, None, Bool, true, false, cond, refl, sym, subst, ap, ◌∙◌, codes, arith}
use Rattle.std.specs.Option.{option_map_or}
use Rattle.std.specs.Prelude.{◌&&◌, ◌||◌, if◌then◌else◌, nat_eq, nat_le}
use Rattle.std.specs.Str.{bytes_eq}
use Rattle.std.proofs.lemmas.Bool.{and_parts}
use Rattle.std.proofs.lemmas.Bool.Decides.{nat_tests}
use Rattle.clap.specs.Lexer.{long_of, short_of}
use Rattle.clap.specs.Walk.{Held, Row, Rule, Text, Walk, after_step, has_row, idle, long_or_other, next, option, settled_rows, short_or_plain, trailing, used}
use Rattle.clap.specs.Walk.{walked, word_met}
use Rattle.clap.specs.Simple.{Shape, built}
use Rattle.clap.specs.Takes.{bundle_passes, flag_word_passes, settle_passes, step_passes, turn_passes, word_passes}
use Rattle.clap.proofs.OnLiterals.{clap_on_literals}
use Rattle.lp_text.specs.Digits.{digits_value, is_digit}
use Rattle.lp_words.specs.declared.given.Given.{Given}
use Rattle.lp_words.specs.declared.setting.Setting.{Setting}
use Rattle.lp_words.specs.declared.setting.Setting.TheVariants.{Workers, Reinverters, Budget, Report, Log, Free}
use Rattle.lp_words.specs.Inner.{option_app}
use Rattle.lp_words.specs.Words.{is_number, number_from_to, with}
use Rattle.lp_words.proofs.Rows.{flag_rule, no_row, number_row, number_rule, row_at, used_flag, used_number}
use Rattle.lp_words.proofs.Agreement.{Agrees, IsTextOf, name_of, renews, row_of}

abbrev pub shape : Shape
shape = (built option_app).top

abbrev pub rules_built : List Rule
rules_built = shape.rules

abbrev pub held : List Row → Option (Text × List Text) → Held
held rows pending = record { rows = rows; pending = pending; skip = 0 }

-- between two options
abbrev pub at : List Row → Option (Text × List Text) → Walk
at rows pending = record { held = held rows pending; waiting = idle; position = 1; is_trailing = false; stopped = None }

pub record Between (given : Given) (w : Walk) : Type 0 where
  pub rows : List Row
  pub pending : Option (Text × List Text)
  pub is : w ≡ at rows pending
  pub agrees : Agrees given (settled_rows rules_built pending rows)
  pub passes : settle_passes rules_built false (held rows pending) ≡ true

-- ── the words of one setting ──

abbrev pub dashed : Setting → Text
dashed (Workers n) = codes "--workers"
dashed (Reinverters n) = codes "--reinverters"
dashed (Budget n) = codes "--budget"
dashed (Report n) = codes "--report"
dashed Log = codes "--log"
dashed Free = codes "--free"

abbrev pub IsNumbered : Setting → Type 0
IsNumbered (Workers n) = Unit {0}
IsNumbered (Reinverters n) = Unit {0}
IsNumbered (Budget n) = Unit {0}
IsNumbered (Report n) = Unit {0}
IsNumbered Log = ⊥
IsNumbered Free = ⊥

pub record IsNumberOf (s : Setting) (name text : Text) : Type 0 where
  pub name_is : name ≡ dashed s
  pub text_is : IsTextOf s text
  pub numbered_is : IsNumbered s

-- a word that is no flag, no option and not --
pub record IsPlainWord (word : Text) : Type 0 where
  pub no_end : bytes_eq word (45 ∷ 45 ∷ []) ≡ false
  pub no_long : long_of word ≡ None
  pub no_short : short_of word ≡ None

plain_word_is : (d : ℕ) (ds : Text) → nat_eq d 45 ≡ false → IsPlainWord (d ∷ ds)
plain_word_is d ds e = record { no_end = rw e refl; no_long = rw e refl; no_short = rw e refl }

-- after an option and its number as two words
pub record After (more : Given) (w : Walk) (name text : Text) : Type 0 where
  pub between : Between more (walked rules_built [] (walked rules_built [] w name) text)
  pub first : turn_passes shape [] w name ≡ true
  pub second : turn_passes shape [] (walked rules_built [] w name) text ≡ true

not_hyphen : (d : ℕ) → is_digit d ≡ true → nat_eq d 45 ≡ false
not_hyphen d e = grind (arith, nat_tests)

value_parts : (b : Bool) (v n : ℕ) → cond b (Some v) None ≡ Some n → b ≡ true
value_parts true v n e = refl
value_parts false v n e = cc

starts_with_digit : (least most : ℕ) (text : Text) (n : ℕ) → number_from_to least most text ≡ Some n
    → (d : ℕ) × (ds : Text) × (text ≡ d ∷ ds) × (nat_eq d 45 ≡ false)
starts_with_digit least most [] n e = cc
starts_with_digit least most (d ∷ ds) n e =
    let all = value_parts (is_number (d ∷ ds) && nat_le least (digits_value (d ∷ ds)) && nat_le (digits_value (d ∷ ds)) most) (digits_value (d ∷ ds)) n e in
    let number_is = (and_parts _ _ (and_parts _ _ all).0).0 in
    let digits = (and_parts _ _ number_is).1 in
    (d, ds, refl, not_hyphen d (and_parts _ _ digits).0)

-- the text of a number begins with a digit
pub starts_plain : (s : Setting) (text : Text) → IsTextOf s text → IsNumbered s → (d : ℕ) × (ds : Text) × (text ≡ d ∷ ds) × (nat_eq d 45 ≡ false)
starts_plain (Workers n) text spelled numbered_is = starts_with_digit 0 64 text n spelled
starts_plain (Reinverters n) text spelled numbered_is = starts_with_digit 0 8 text n spelled
starts_plain (Budget n) text spelled numbered_is = starts_with_digit 0 1000000 text n spelled
starts_plain (Report n) text spelled numbered_is = starts_with_digit 1 2 text n spelled
starts_plain Log text spelled numbered_is = absurd numbered_is
starts_plain Free text spelled numbered_is = absurd numbered_is

-- ── an option with a number ──

abbrev asked : Text → List Row → Held
asked name rows = record { rows = rows; pending = Some (name, []); skip = 0 }

-- after the word of an option, whose number is the next word
abbrev asks : Text → List Row → Walk
asks name rows = record { held = asked name rows; waiting = option name; position = 1; is_trailing = false; stopped = None }

-- what the parser makes of an option's words
pub record IsParsed (s : Setting) : Type 0 where
  pub row_is : (text : Text) → row_of s text ≡ number_row (name_of s) text
  pub joined : (rows : List Row) (p : Option (Text × List Text)) (text : Text)
      → walked rules_built [] (at rows p) (dashed s ++ 61 ∷ text) ≡ at (used (number_rule (name_of s)) (text ∷ []) (settled_rows rules_built p rows)) None
  pub joined_passes : (rows : List Row) (p : Option (Text × List Text)) (text : Text) → settle_passes rules_built false (held rows p) ≡ true
      → has_row (name_of s) (settled_rows rules_built p rows) ≡ false → turn_passes shape [] (at rows p) (dashed s ++ 61 ∷ text) ≡ true
  pub alone : (rows : List Row) (p : Option (Text × List Text)) → walked rules_built [] (at rows p) (dashed s) ≡ asks (name_of s) (settled_rows rules_built p rows)
  pub alone_passes : (rows : List Row) (p : Option (Text × List Text)) → settle_passes rules_built false (held rows p) ≡ true
      → turn_passes shape [] (at rows p) (dashed s) ≡ true
  pub number : (rows : List Row) (word : Text)
      → short_or_plain rules_built (option (name_of s)) word None (asked (name_of s) rows) ≡ (held rows (Some (name_of s, word ∷ [])), next idle)
  pub settles : (rows : List Row) (word : Text) → settled_rows rules_built (Some (name_of s, word ∷ [])) rows ≡ used (number_rule (name_of s)) (word ∷ []) rows
  pub settle : (rows : List Row) (word : Text) → has_row (name_of s) rows ≡ false → settle_passes rules_built false (held rows (Some (name_of s, word ∷ []))) ≡ true

pub parsed : (s : Setting) → IsNumbered s → IsParsed s
unfolding clap_on_literals
parsed (Workers n) numbered_is = record {
  row_is = λ text. refl;
  joined = λ rows p text. refl;
  joined_passes = λ rows p text passes absent. rw (passes, absent) refl;
  alone = λ rows p. refl;
  alone_passes = λ rows p passes. rw passes refl;
  number = λ rows word. refl;
  settles = λ rows word. refl;
  settle = λ rows word absent. rw absent refl;
}
parsed (Reinverters n) numbered_is = record {
  row_is = λ text. refl;
  joined = λ rows p text. refl;
  joined_passes = λ rows p text passes absent. rw (passes, absent) refl;
  alone = λ rows p. refl;
  alone_passes = λ rows p passes. rw passes refl;
  number = λ rows word. refl;
  settles = λ rows word. refl;
  settle = λ rows word absent. rw absent refl;
}
parsed (Budget n) numbered_is = record {
  row_is = λ text. refl;
  joined = λ rows p text. refl;
  joined_passes = λ rows p text passes absent. rw (passes, absent) refl;
  alone = λ rows p. refl;
  alone_passes = λ rows p passes. rw passes refl;
  number = λ rows word. refl;
  settles = λ rows word. refl;
  settle = λ rows word absent. rw absent refl;
}
parsed (Report n) numbered_is = record {
  row_is = λ text. refl;
  joined = λ rows p text. refl;
  joined_passes = λ rows p text passes absent. rw (passes, absent) refl;
  alone = λ rows p. refl;
  alone_passes = λ rows p passes. rw passes refl;
  number = λ rows word. refl;
  settles = λ rows word. refl;
  settle = λ rows word absent. rw absent refl;
}
parsed Log numbered_is = absurd numbered_is
parsed Free numbered_is = absurd numbered_is

module _ (s : Setting) (of : IsParsed s) where
  abbrev name : Text
  name = name_of s

  -- the word of the number, after that of the option
  met : (rows : List Row) (word : Text) → IsPlainWord word
      → word_met rules_built [] false (option name) 1 word (asked name rows) ≡ (held rows (Some (name, word ∷ [])), next idle)
  met rows word plain =
      ap (λ b. if b then (asked name rows, trailing 1) else long_or_other rules_built (option name) word (long_of word) (asked name rows)) plain.no_end
      ∙ ap (λ l. long_or_other rules_built (option name) word l (asked name rows)) plain.no_long
      ∙ ap (λ flags. short_or_plain rules_built (option name) word flags (asked name rows)) plain.no_short ∙ of.number rows word

  number_passes : (rows : List Row) (word : Text) → IsPlainWord word → turn_passes shape [] (asks name rows) word ≡ true
  number_passes rows word plain =
      ap (λ m. word_passes shape [] false (option name) word (asked name rows) && step_passes shape 1 m.0 m.1) (met rows word plain)
      ∙ ap (λ b. (b || flag_word_passes rules_built false (long_of word) word (asked name rows)) && true) plain.no_end
      ∙ ap (λ l. flag_word_passes rules_built false l word (asked name rows) && true) plain.no_long
      ∙ ap (λ o. option_map_or (λ flags. bundle_passes rules_built false flags (asked name rows)) o true && true) plain.no_short

  module _ (given more : Given) (rows : List Row) (p : Option (Text × List Text)) (taken : with given s ≡ Some more)
      (old : Agrees given (settled_rows rules_built p rows)) (passes : settle_passes rules_built false (held rows p) ≡ true) where
    abbrev all : List Row
    all = settled_rows rules_built p rows

    -- the option is new, and its number agrees once it stands
    renewed : (text : Text) → IsTextOf s text → (row_at name all ≡ None) × Agrees more (used (number_rule name) (text ∷ []) all)
    renewed text spelled =
        let new = renews given more s text all taken spelled old in
        (new.absent, subst (λ (l : List Row). Agrees more l) (ap (λ r. all ++ r ∷ []) (of.row_is text) ∙ sym (used_number name text all new.absent)) new.agrees)

    pub joined_number : (text : Text) → IsTextOf s text
        → Between more (walked rules_built [] (at rows p) (dashed s ++ 61 ∷ text)) × (turn_passes shape [] (at rows p) (dashed s ++ 61 ∷ text) ≡ true)
    joined_number text spelled =
        let new = renewed text spelled in (
          record { rows = used (number_rule name) (text ∷ []) all; pending = None; is = of.joined rows p text; agrees = new.1; passes = refl },
          of.joined_passes rows p text passes (no_row name all new.0),
        )

    pub number_apart : (d : ℕ) (ds : Text) → nat_eq d 45 ≡ false → IsTextOf s (d ∷ ds) → After more (at rows p) (dashed s) (d ∷ ds)
    unfolding clap_on_literals
    number_apart d ds differ spelled =
        let new = renewed (d ∷ ds) spelled in
        let plain = plain_word_is d ds differ in
        let alone = of.alone rows p in
        record {
          between = record {
            rows = all;
            pending = Some (name, (d ∷ ds) ∷ []);
            is = ap (λ w. walked rules_built [] w (d ∷ ds)) alone ∙ ap (λ m. after_step rules_built (d ∷ ds) (asks name all) m.0 m.1) (met all (d ∷ ds) plain);
            agrees = subst (λ (l : List Row). Agrees more l) (sym (of.settles all (d ∷ ds))) new.1;
            passes = of.settle all (d ∷ ds) (no_row name all new.0);
          };
          first = of.alone_passes rows p passes;
          second = subst (λ w. turn_passes shape [] w (d ∷ ds) ≡ true) (sym alone) (number_passes all (d ∷ ds) plain);
        }

-- ── a flag ──

pub flag_log : (given more : Given) (rows : List Row) (p : Option (Text × List Text)) → with given Log ≡ Some more
    → Agrees given (settled_rows rules_built p rows)
    → settle_passes rules_built false (held rows p) ≡ true → Between more (walked rules_built [] (at rows p) (codes "--log"))
    × (turn_passes shape [] (at rows p) (codes "--log") ≡ true)
unfolding clap_on_literals
flag_log given more rows p e old passes =
    let all = settled_rows rules_built p rows in
    let new = renews given more Log [] all e tt old in
    let absent = no_row (codes "log") all new.absent in (
      record {
        rows = used (flag_rule (codes "log")) [] all;
        pending = None;
        is = refl;
        agrees = subst (λ (l : List Row). Agrees more l) (sym (used_flag (codes "log") all new.absent)) new.agrees;
        passes = refl;
      },
      rw (passes, absent) refl,
    )

pub flag_free : (given more : Given) (rows : List Row) (p : Option (Text × List Text)) → with given Free ≡ Some more
    → Agrees given (settled_rows rules_built p rows)
    → settle_passes rules_built false (held rows p) ≡ true → Between more (walked rules_built [] (at rows p) (codes "--free"))
    × (turn_passes shape [] (at rows p) (codes "--free") ≡ true)
unfolding clap_on_literals
flag_free given more rows p e old passes =
    let all = settled_rows rules_built p rows in
    let new = renews given more Free [] all e tt old in
    let absent = no_row (codes "free") all new.absent in (
      record {
        rows = used (flag_rule (codes "free")) [] all;
        pending = None;
        is = refl;
        agrees = subst (λ (l : List Row). Agrees more l) (sym (used_flag (codes "free") all new.absent)) new.agrees;
        passes = refl;
      },
      rw (passes, absent) refl,
    )
