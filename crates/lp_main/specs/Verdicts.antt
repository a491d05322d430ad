-- The lines of a check: of a verdict, of a flaw of the report, and of a sum that does not fit.
use Rattle.std.specs.Prelude.{ℕ, List, ◌∷◌, ◌++◌, Option, Some, None, codes}
use Rattle.std.specs.Fmt.{decimal}
use Rattle.lp_model.specs.Deck.{Deck, column, row}
use Rattle.lp_model.specs.Outcome.{Outcome, infeasible, optimal, unbounded}
use Rattle.cert_check.specs.declared.verdict.Rule.{Rule}
use Rattle.cert_check.specs.declared.verdict.Rule.TheVariants as rule
use Rattle.report_lines.specs.declared.flaw.Flaw.{Flaw}
use Rattle.report_lines.specs.declared.flaw.Flaw.TheVariants as flaw
use Rattle.lp_main.specs.Refusals.{ended}

abbrev pub rule_word : Rule → List ℕ
rule_word (rule.Column j) = codes "COLUMN"
rule_word (rule.Row i) = codes "ROW"
rule_word rule.Objective = codes "OBJECTIVE"
rule_word (rule.Reduced j) = codes "REDUCED"
rule_word (rule.Price i) = codes "PRICE"
rule_word (rule.EndlessColumn j) = codes "ENDLESS"
rule_word (rule.EndlessRow i) = codes "ENDLESS"
rule_word rule.Gap = codes "GAP"
rule_word (rule.RayColumn j) = codes "RAYCOLUMN"
rule_word (rule.RayRow i) = codes "RAYROW"
rule_word rule.RayCost = codes "RAYCOST"
rule_word rule.Basis = codes "BASIS"
rule_word (rule.Rest j) = codes "REST"
rule_word (rule.Basic j) = codes "BASIC"

-- the name of a rule's column or row
abbrev pub rule_name : Deck → Rule → Option (List ℕ)
rule_name d (rule.Column j) = Some (column d j).name
rule_name d (rule.Row i) = Some (row d i).name
rule_name d rule.Objective = None
rule_name d (rule.Reduced j) = Some (column d j).name
rule_name d (rule.Price i) = Some (row d i).name
rule_name d (rule.EndlessColumn j) = Some (column d j).name
rule_name d (rule.EndlessRow i) = Some (row d i).name
rule_name d rule.Gap = None
rule_name d (rule.RayColumn j) = Some (column d j).name
rule_name d (rule.RayRow i) = Some (row d i).name
rule_name d rule.RayCost = None
rule_name d rule.Basis = None
rule_name d (rule.Rest j) = Some (column d j).name
rule_name d (rule.Basic j) = Some (column d j).name

-- a rule with its name, if it has one
abbrev pub rule_text : Rule → Option (List ℕ) → List ℕ
rule_text rule None = rule_word rule
rule_text rule (Some name) = rule_word rule ++ 32 ∷ name

abbrev pub outcome_word : Outcome → List ℕ
outcome_word (optimal x y v) = codes "OPTIMAL"
outcome_word (infeasible y) = codes "INFEASIBLE"
outcome_word (unbounded x r) = codes "UNBOUNDED"

abbrev pub accepted_line : Outcome → List ℕ
accepted_line o = ended (codes "ACCEPTED " ++ outcome_word o)

abbrev pub refused_line : Deck → Rule → List ℕ
refused_line d rule = ended (codes "REFUSED " ++ rule_text rule (rule_name d rule))

abbrev pub unfit_line : Rule → Option (List ℕ) → List ℕ
unfit_line rule name = ended (codes "lp: check overflow at " ++ rule_text rule name)

abbrev pub flaw_word : Flaw → List ℕ
flaw_word flaw.Bytes = codes "bytes"
flaw_word flaw.Long = codes "long"
flaw_word flaw.Word = codes "word"
flaw_word flaw.Number = codes "number"
flaw_word flaw.Name = codes "name"
flaw_word flaw.Missing = codes "missing"
flaw_word flaw.Rest = codes "rest"

abbrev pub flaw_line : ℕ → Flaw → List ℕ
flaw_line number found = ended (codes "lp: report line " ++ decimal number ++ codes ": " ++ flaw_word found)
