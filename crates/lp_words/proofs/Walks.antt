-- Inner: the walk of the parser over all words of the options.
use Rattle.std.proofs.Common.{◌≡◌, ℕ, ◌+◌, ◌<◌, List, [], ◌∷◌, ◌++◌, Option, Some, None, true, false, option_map, option_and_then, fold, refl, sym}
use Rattle.std.proofs.Common.{subst, ap, ap₂, ◌∙◌, codes, inl, inr, arith, length, get_or, length-drop}
use Rattle.std.specs.Prelude.{◌&&◌, ◌==◌}
use Rattle.std.specs.List.{after_first, before_first, position_or_len}
use Rattle.std.specs.Str.{bytes_eq}
use Rattle.std.proofs.lemmas.Bool.{cases_Bool}
use Rattle.std.proofs.lemmas.Bool.Decides.{nat_tests}
use Rattle.std.proofs.lemmas.List.Sums.{passes_at_first, split_at_first}
use Rattle.std.proofs.lemmas.Slice.Eq.{bytes_eq-Decides}
use Rattle.clap.specs.Walk.{Row, Text, Walk, settled_rows, walked}
use Rattle.clap.specs.Takes.{settle_passes, turn_passes, walk_passes}
use Rattle.lp_words.specs.declared.given.Given.{Given}
use Rattle.lp_words.specs.declared.setting.Setting.{Setting}
use Rattle.lp_words.specs.declared.setting.Setting.TheVariants.{Workers, Reinverters, Budget, Report, Log, Free}
use Rattle.lp_words.specs.Words.{followed_by, number_from_to, numbered, settings_of, single, takes_number, with, with_all}
use Rattle.lp_words.proofs.Agreement.{Agrees, IsTextOf}
use Rattle.lp_words.proofs.Steps.{After, Between, IsNumberOf, at, dashed, flag_free, flag_log, held, joined_number, number_apart, parsed, rules_built, shape}
use Rattle.lp_words.proofs.Steps.{starts_plain}

same : (a b : Text) → bytes_eq a b ≡ true → a ≡ b
same a b e = (bytes_eq-Decides a b).0 e

mapped : (f : ℕ → Setting) (o : Option ℕ) (s : Setting) → option_map f o ≡ Some s → (n : ℕ) × (o ≡ Some n) × (f n ≡ s)
mapped f None s e = cc
mapped f (Some n) s e = (n, refl, cc)

some_is : (a b : Setting) → Some a ≡ Some b → a ≡ b
some_is a b e = cc

none_some : (s : Setting) → None ≡ Some s → ⊥
none_some s e = cc

-- what a name and a text set is the setting of that name
numbered_is : (name text : Text) (s : Setting) → numbered name text ≡ Some s → IsNumberOf s name text
numbered_is name text s e = elim (cases_Bool (bytes_eq name (codes "--workers"))) [
  | inl here ↦
      let m = mapped Workers (number_from_to 0 64 text) s (rw here at e) in
      subst (λ (x : Setting). IsNumberOf x name text) m.2 (record { name_is = same name _ here; text_is = m.1; numbered_is = tt })
  | inr other ↦ elim (cases_Bool (bytes_eq name (codes "--reinverters"))) [
    | inl here ↦
        let m = mapped Reinverters (number_from_to 0 8 text) s (rw (other, here) at e) in
        subst (λ (x : Setting). IsNumberOf x name text) m.2 (record { name_is = same name _ here; text_is = m.1; numbered_is = tt })
    | inr third ↦ elim (cases_Bool (bytes_eq name (codes "--budget"))) [
      | inl here ↦
          let m = mapped Budget (number_from_to 0 1000000 text) s (rw (other, third, here) at e) in
          subst (λ (x : Setting). IsNumberOf x name text) m.2 (record { name_is = same name _ here; text_is = m.1; numbered_is = tt })
      | inr fourth ↦ elim (cases_Bool (bytes_eq name (codes "--report"))) [
        | inl here ↦
            let m = mapped Report (number_from_to 1 2 text) s (rw (other, third, fourth, here) at e) in
            subst (λ (x : Setting). IsNumberOf x name text) m.2 (record { name_is = same name _ here; text_is = m.1; numbered_is = tt })
        | inr last ↦ let none : None ≡ Some s = rw (other, third, fourth, last) at e in absurd (none_some s none)
      ]
    ]
  ]
]

-- ── the words of one setting ──

abbrev Steps : Given → List Row → Option (Text × List Text) → Setting → Text → Type 0
Steps given rows p s word = (more : Given) → with given s ≡ Some more → Between more (walked rules_built [] (at rows p) word)
    × (turn_passes shape [] (at rows p) word ≡ true)

abbrev StepsApart : Given → List Row → Option (Text × List Text) → Setting → Text → Text → Type 0
StepsApart given rows p s name text = (more : Given) → with given s ≡ Some more → After more (at rows p) name text

equals_61 : (c : ℕ) → (c == 61) ≡ true → c ≡ 61
equals_61 c e = grind (arith, nat_tests)

-- a word is what stands before its first = and after it, if that is not empty
joined_word : (word : Text) (d : ℕ) (ds : Text) → after_first (λ c. c == 61) word ≡ d ∷ ds
    → word ≡ before_first (λ c. c == 61) word ++ 61 ∷ after_first (λ c. c == 61) word
joined_word word d ds e =
    let within : position_or_len (λ c. c == 61) word < length word = omega (arith, length-drop (position_or_len (λ c. c == 61) word + 1) word, ap length e) in
    let found : get_or word (position_or_len (λ c. c == 61) word) 0 ≡ 61 = equals_61 _ (passes_at_first (λ c. c == 61) word 0 within) in
    split_at_first (λ c. c == 61) word 0 within ∙ ap (λ c. before_first (λ c. c == 61) word ++ c ∷ after_first (λ c. c == 61) word) found

module _ (given : Given) (rows : List Row) (p : Option (Text × List Text))
    (old : Agrees given (settled_rows rules_built p rows)) (passes : settle_passes rules_built false (held rows p) ≡ true) where
  joined_step : (s : Setting) (name text : Text) → IsNumberOf s name text → Steps given rows p s (name ++ 61 ∷ text)
  joined_step s name text of = subst (λ (x : Text). Steps given rows p s (x ++ 61 ∷ text)) (sym of.name_is)
      (λ more e. joined_number s (parsed s of.numbered_is) given more rows p e old passes text of.text_is)

  apart_step : (s : Setting) (name text : Text) → IsNumberOf s name text → StepsApart given rows p s name text
  apart_step s name text of =
      let (d, ds, text_is, differ) = starts_plain s text of.text_is of.numbered_is in
      let spelled : IsTextOf s (d ∷ ds) = subst (IsTextOf s) text_is of.text_is in
      let here : StepsApart given rows p s (dashed s) (d ∷ ds) = λ more e. number_apart s (parsed s of.numbered_is) given more rows p e old passes d ds differ spelled in
      subst (λ (x : Text). StepsApart given rows p s x text) (sym of.name_is) (subst (λ (x : Text). StepsApart given rows p s (dashed s) x) (sym text_is) here)

  single_step : (s : Setting) (word : Text) → single word ≡ Some s → Steps given rows p s word
  single_step s word e = elim (cases_Bool (bytes_eq word (codes "--log"))) [
    | inl here ↦
        let is : Log ≡ s = some_is Log s (rw here at e) in
        subst (λ (x : Setting). Steps given rows p x word) is (subst (λ (w : Text). Steps given rows p Log w) (sym (same word _ here))
        (λ more e. flag_log given more rows p e old passes))
    | inr other ↦ elim (cases_Bool (bytes_eq word (codes "--free"))) [
      | inl here ↦
          let is : Free ≡ s = some_is Free s (rw (other, here) at e) in
          subst (λ (x : Setting). Steps given rows p x word) is (subst (λ (w : Text). Steps given rows p Free w) (sym (same word _ here))
          (λ more e. flag_free given more rows p e old passes))
      | inr third ↦
          let name = before_first (λ c. c == 61) word in
          let text = after_first (λ c. c == 61) word in
          let of = numbered_is name text s (rw (other, third) at e) in
          let (d, ds, text_is, differ) = starts_plain s text of.text_is of.numbered_is in
          subst (λ (w : Text). Steps given rows p s w) (sym (joined_word word d ds text_is)) (joined_step s name text of)
    ]
  ]

-- ── all words ──

record First (given end : Given) (first : Option Setting) (others : Option (List Setting)) : Type 0 where
  setting : Setting
  rest : List Setting
  more : Given
  first_is : first ≡ Some setting
  others_are : others ≡ Some rest
  taken : with given setting ≡ Some more
  all_taken : with_all more rest ≡ Some end

all_step : (given end : Given) (s : Setting) (rest : List Setting) (more : Option Given) → with given s ≡ more
    → option_and_then (λ g. with_all g rest) more ≡ Some end → (m : Given) × (with given s ≡ Some m) × (with_all m rest ≡ Some end)
all_step given end s rest None e f = cc
all_step given end s rest (Some m) e f = (m, e, f)

some_list : (a b : List Setting) → Some a ≡ Some b → a ≡ b
some_list a b e = cc

first_of : (given end : Given) (first : Option Setting) (others : Option (List Setting)) (settings : List Setting)
    → followed_by first others ≡ Some settings → with_all given settings ≡ Some end → First given end first others
first_of given end None others settings e f = cc
first_of given end (Some s) None settings e f = cc
first_of given end (Some s) (Some rest) settings e f =
    let f' : with_all given (s ∷ rest) ≡ Some end = subst (λ (l : List Setting). with_all given l ≡ Some end) (sym (some_list (s ∷ rest) settings e)) f in
    let step = all_step given end s rest (with given s) refl f' in
    record { setting = s; rest = rest; more = step.0; first_is = refl; others_are = refl; taken = step.1; all_taken = step.2 }

-- the walk comes to what is given at the end, and each word passes
pub record Walks (end : Given) (w : Walk) (words : List Text) : Type 0 where
  pub between : Between end (fold (walked rules_built []) w words)
  pub passes : walk_passes shape [] w words ≡ true

after_one : (end : Given) (w : Walk) (word : Text) (words : List Text) → turn_passes shape [] w word ≡ true
    → Walks end (walked rules_built [] w word) words → Walks end w (word ∷ words)
unfolding walk_passes
after_one end w word words e next = record { between = next.between; passes = ap₂ (λ a b. a && b) e next.passes }

same_walk : (end : Given) (w v : Walk) (words : List Text) → w ≡ v → Walks end v words → Walks end w words
same_walk end w v words e walks = subst (λ (x : Walk). Walks end x words) (sym e) walks

some_given : (a b : Given) → Some a ≡ Some b → a ≡ b
some_given a b e = cc

some_nil : (a : List Setting) → Some [] ≡ Some a → [] ≡ a
some_nil a e = cc

pub walks : (words : List Text) (given end : Given) (settings : List Setting) (rows : List Row) (p : Option (Text × List Text))
    → settings_of words ≡ Some settings → with_all given settings ≡ Some end
    → Agrees given (settled_rows rules_built p rows) → settle_passes rules_built false (held rows p) ≡ true → Walks end (at rows p) words
unfolding walk_passes
walks [] given end settings rows p e f old passes =
    let f' : with_all given [] ≡ Some end = subst (λ (l : List Setting). with_all given l ≡ Some end) (sym (some_nil settings e)) f in
    record {
      between = record {
        rows = rows;
        pending = p;
        is = refl;
        agrees =
            subst (λ (g : Given). Agrees g (settled_rows rules_built p rows)) (some_given given end f') old;
        passes = passes;
      };
      passes = refl;
    }
walks (word ∷ []) given end settings rows p e f old passes =
    let first = first_of given end (single word) (Some []) settings e f in
    let step = single_step given rows p old passes first.setting word first.first_is first.more first.taken in
    let b = step.0 in
    after_one end (at rows p) word [] step.1
    (same_walk end (walked rules_built [] (at rows p) word) (at b.rows b.pending) [] b.is
    (walks [] first.more end first.rest b.rows b.pending first.others_are first.all_taken b.agrees b.passes))
walks (word ∷ next ∷ words) given end settings rows p e f old passes = elim (cases_Bool (takes_number word)) [
  | inl number ↦
      let first = first_of given end (numbered word next) (settings_of words) settings (rw number at e) f in
      let step = apart_step given rows p old passes first.setting word next (numbered_is word next first.setting first.first_is) first.more first.taken in
      let b = step.between in
      after_one end (at rows p) word (next ∷ words) step.first
      (after_one end (walked rules_built [] (at rows p) word) next words step.second
      (same_walk end (walked rules_built [] (walked rules_built [] (at rows p) word) next) (at b.rows b.pending) words b.is
      (walks words first.more end first.rest b.rows b.pending first.others_are first.all_taken b.agrees b.passes)))
  | inr alone ↦
      let first = first_of given end (single word) (settings_of (next ∷ words)) settings (rw alone at e) f in
      let step = single_step given rows p old passes first.setting word first.first_is first.more first.taken in
      let b = step.0 in
      after_one end (at rows p) word (next ∷ words) step.1
      (same_walk end (walked rules_built [] (at rows p) word) (at b.rows b.pending) (next ∷ words) b.is
      (walks (next ∷ words) first.more end first.rest b.rows b.pending first.others_are first.all_taken b.agrees b.passes))
]
