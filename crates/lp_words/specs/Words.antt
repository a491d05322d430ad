-- The wish of a command's words.
use Rattle.std.specs.Prelude.{◌≡◌, ℕ, ⊤, List, [], ◌∷◌, Bool, ◌&&◌, ◌||◌, Option, Some, None, option_map, option_and_then, unwrap_or, is_some, codes}
use Rattle.std.specs.Prelude.{length, nat_le, true, false, ◌==◌, if◌then◌else◌}
use Rattle.std.specs.List.{after_first, before_first, list_all}
use Rattle.std.specs.Str.{bytes_eq}
use Rattle.lp_text.specs.Digits.{digits_value, is_digit}
use Rattle.lp_words.specs.declared.fault.WordsFault.{WordsFault}
use Rattle.lp_words.specs.declared.fault.WordsFault.TheVariants.{Memory, Usage}
use Rattle.lp_words.specs.declared.wishes.Wish.{Wish}
use Rattle.lp_words.specs.declared.wishes.Wish.TheVariants.{Solve, Check, Deck, Make, Range, Audit}
use Rattle.lp_words.specs.declared.setting.Setting.{Setting}
use Rattle.lp_words.specs.declared.setting.Setting.TheVariants.{Workers, Reinverters, Budget, Report, Log, Free}
use Rattle.lp_words.specs.declared.given.Given.{Given}

-- ── numbers ──

-- a number is 1 to 7 decimal digits
abbrev pub is_number : List ℕ → Bool
is_number text = nat_le 1 (length text) && nat_le (length text) 7 && list_all is_digit text

-- the number of a text, if it is one from the least to the most
abbrev pub number_from_to : ℕ → ℕ → List ℕ → Option ℕ
number_from_to least most text = if is_number text && nat_le least (digits_value text) && nat_le (digits_value text) most then Some (digits_value text) else None

-- ── what the words set ──

-- the names of the options with a number
abbrev pub takes_number : List ℕ → Bool
takes_number name =
    bytes_eq name (codes "--workers") || bytes_eq name (codes "--reinverters") || bytes_eq name (codes "--budget") || bytes_eq name (codes "--report")

-- what a name and the text of its number set
abbrev pub numbered : List ℕ → List ℕ → Option Setting
numbered name text =
    if bytes_eq name (codes "--workers") then option_map Workers (number_from_to 0 64 text)
    else if bytes_eq name (codes "--reinverters") then option_map Reinverters (number_from_to 0 8 text)
    else if bytes_eq name (codes "--budget") then option_map Budget (number_from_to 0 1000000 text)
    else if bytes_eq name (codes "--report") then option_map Report (number_from_to 1 2 text)
    else None

-- what a word by itself sets: a flag, or a name and its number on both sides of the first '='
abbrev pub single : List ℕ → Option Setting
single word =
    if bytes_eq word (codes "--log") then Some Log
    else if bytes_eq word (codes "--free") then Some Free
    else numbered (before_first (λ c. c == 61) word) (after_first (λ c. c == 61) word)

abbrev pub followed_by : Option Setting → Option (List Setting) → Option (List Setting)
followed_by first others = option_and_then (λ setting. option_map (λ settings. setting ∷ settings) others) first

-- what the words set, each by itself or with its number as the next word; none where a word has no such meaning
abbrev pub settings_of : List (List ℕ) → Option (List Setting)
settings_of [] = Some []
settings_of (word ∷ []) = followed_by (single word) (Some [])
settings_of (word ∷ next ∷ words) =
    if takes_number word then followed_by (numbered word next) (settings_of words) else followed_by (single word) (settings_of (next ∷ words))

-- ── each option at most once ──

-- before the first option
abbrev pub nothing_given : Given
nothing_given = record { workers = None; reinverters = None; budget = None; report = None; log = false; free = false }

-- what is given with one more setting; none where its option was given before
abbrev pub with : Given → Setting → Option Given
with given (Workers n) = if is_some given.workers then None else Some (record given { workers = Some n })
with given (Reinverters n) = if is_some given.reinverters then None else Some (record given { reinverters = Some n })
with given (Budget n) = if is_some given.budget then None else Some (record given { budget = Some n })
with given (Report n) = if is_some given.report then None else Some (record given { report = Some n })
with given Log = if given.log then None else Some (record given { log = true })
with given Free = if given.free then None else Some (record given { free = true })

abbrev pub with_all : Given → List Setting → Option Given
with_all given [] = Some given
with_all given (setting ∷ settings) = option_and_then (λ more. with_all more settings) (with given setting)

-- what the words of options give; none where they are no options, or an option comes twice
abbrev pub given_of : List (List ℕ) → Option Given
given_of words = option_and_then (with_all nothing_given) (settings_of words)

-- ── the wish ──

-- the solve of these options, with the usual number where none is given
abbrev pub solve : Given → Wish
solve given = Solve (unwrap_or given.workers 4) (unwrap_or given.reinverters 1) (unwrap_or given.budget 1000000) given.log given.free (unwrap_or given.report 2)

-- whether `--free` is given, which is the only option of these words
abbrev pub free_of : List (List ℕ) → Option Bool
free_of [] = Some false
free_of (word ∷ []) = if bytes_eq word (codes "--free") then Some true else None
free_of (word ∷ next ∷ words) = None

-- the number that is the only word
abbrev pub size_of : List (List ℕ) → Option ℕ
size_of (text ∷ []) = number_from_to 1 20 text
size_of words = None

-- the wish of the words after the program's name; none where they are no command
abbrev pub wish_of : List (List ℕ) → Option Wish
wish_of [] = None
wish_of (command ∷ words) =
    if bytes_eq command (codes "solve") then option_map solve (given_of words)
    else if bytes_eq command (codes "check") then option_map Check (free_of words)
    else if bytes_eq command (codes "deck") then option_map Deck (free_of words)
    else if bytes_eq command (codes "make") then option_map Make (size_of words)
    else if bytes_eq command (codes "range") then option_map Range (free_of words)
    else if bytes_eq command (codes "audit") then option_map Audit (free_of words)
    else None

-- whether the wish is a solve with workers
abbrev pub is_waiting : Option Wish → Bool
is_waiting None = false
is_waiting (Some (Solve workers reinverters budget log free report)) = nat_le 1 workers
is_waiting (Some other) = false

-- why words are refused: no wish is theirs; of want of memory nothing is said
abbrev pub IsNoWish : List (List ℕ) → WordsFault → Type 0
IsNoWish words Usage = wish_of words ≡ None
IsNoWish words Memory = ⊤
