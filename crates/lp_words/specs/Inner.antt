-- Inner: what the parser of command lines is given, and what its matches must say.
use Rattle.std.specs.Prelude.{◌≡◌, ℕ, List, Some, Bool, true, false, option_and_then, codes}
use Rattle.clap.specs.Words.{App, Rule, first_value, found_of, new_app, new_rule, one_text, with_rule}
use Rattle.clap.specs.declared.builder.action.ArgAction.TheVariants.{SetTrue}
use Rattle.clap.specs.declared.parser.matches.ArgMatches.{ArgMatches}
use Rattle.lp_words.specs.declared.given.Given.{Given}
use Rattle.lp_words.specs.Words.{number_from_to}

abbrev pub number : List ℕ → Rule
number name = record (new_rule name) { long = Some name }

abbrev pub flag : List ℕ → Rule
flag name = record (new_rule name) { long = Some name; action = Some SetTrue }

-- the command with the options of `solve`
abbrev pub option_app : App
option_app =
    let two = with_rule (with_rule (new_app (codes "solve")) (number (codes "workers"))) (number (codes "reinverters")) in
    let numbers = with_rule (with_rule two (number (codes "budget"))) (number (codes "report")) in
    with_rule (with_rule numbers (flag (codes "log"))) (flag (codes "free"))

abbrev pub flag_word : Bool → List ℕ
flag_word true = codes "true"
flag_word false = codes "false"

-- the matches have the options that are given
pub record HasOptions (given : Given) (matches : ArgMatches) : Type 0 where
  pub workers_read : option_and_then (number_from_to 0 64) (first_value (found_of matches) (codes "workers")) ≡ given.workers
  pub reinverters_read : option_and_then (number_from_to 0 8) (first_value (found_of matches) (codes "reinverters")) ≡ given.reinverters
  pub budget_read : option_and_then (number_from_to 0 1000000) (first_value (found_of matches) (codes "budget")) ≡ given.budget
  pub report_read : option_and_then (number_from_to 1 2) (first_value (found_of matches) (codes "report")) ≡ given.report
  pub log_read : one_text (found_of matches) (codes "log") ≡ Some (flag_word given.log)
  pub free_read : one_text (found_of matches) (codes "free") ≡ Some (flag_word given.free)
