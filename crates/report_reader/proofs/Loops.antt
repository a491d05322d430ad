-- The loops that take lists, line by line.
use Rattle.std.proofs.Common.{◌≡◌, ℕ, ◌+◌, ◌-◌, ◌<◌, List, [], ◌∷◌, ◌++◌, length, map, drop, get_or, Option, Result, Ok, Err, sym, ◌∙◌, ap, ap₂, subst, arith, append-nil}
use Rattle.std.specs.List.{All}
use Rattle.std.specs.Result.{IsErrAnd}
use Rattle.rational.specs.Rational.{ℚ}
use Rattle.rational.specs.Width.{FitsWidth}
use Rattle.lp_model.specs.Deck.{Deck}
use Rattle.lp_text.specs.Report.{value_line}
use Rattle.mps_cards.specs.ReaderState.{ReaderState}
use Rattle.report_lines.specs.FirstFlaw.{Expected, repeated, value, values}
use Rattle.report_reader.specs.declared.fault.ReportFault.{ReportFault}
use Rattle.report_reader.specs.Inner.Reads.{IsReady, Reads}
use Rattle.report_reader.proofs.ListLines.{all_snoc, map_snoc, repeated_next, so_far, so_far_more, values_next}
use Rattle.report_reader.proofs.Taking.{SoFar, none_yet, stopped, taken}

-- the line of a value, and the values so far
abbrev pub IsLine : List ℕ → List ℕ → ℚ → List (List ℕ) → Type 0
IsLine word name v ls = (ls ≡ value_line word v name ∷ []) × FitsWidth 127 v

abbrev pub AreSoFar : List ℕ → List (List ℕ) → List ℚ → List (List ℕ) → Type 0
AreSoFar word names vs ls = (ls ≡ so_far word vs names) × All (FitsWidth 127) vs

-- the lines of a list
abbrev pub AreLines : {X : Type 0} → (X → List ℕ) → List X → List (List ℕ) → Type 0
AreLines line xs ls = ls ≡ map line xs

module _ {S : Type 0} {d : Deck} {remaining : S → Option (List ℕ)} {fault_count : S → ℕ} {before mid after : ReaderState} {old source new : S} where
  module _ {word : List ℕ} (names : List (List ℕ)) (vs : List ℚ) {name : List ℕ} {i : ℕ} (within : i < length names) (name_is : name ≡ get_or names i [])
      (h : SoFar d remaining fault_count before old mid source (values word names) (values word (drop i names)) (AreSoFar word names vs)) where
    pub values_step : {v : ℚ} (ws : List ℚ) → ws ≡ vs ++ v ∷ [] → length vs ≡ i
        → Reads d remaining fault_count mid after source new (value word name ∷ []) (λ _. []) (IsLine word name) (Ok v)
        → SoFar d remaining fault_count before old after new (values word names) (values word (drop (i + 1) names)) (AreSoFar word names ws)
    values_step {v} ws pushed count reads =
        taken (values word (drop (i + 1) names)) (AreSoFar word names ws) (values_next word name names i within name_is)
        (λ ls ms a b. (
          ap₂ (λ (x y : List (List ℕ)). x ++ y) a.0 b.0
              ∙ ap (λ n. so_far word vs names ++ value_line word v n ∷ []) (name_is ∙ ap (λ k. get_or names k []) (sym count))
              ∙ sym (so_far_more word vs v names (omega (arith, count, within))) ∙ ap (λ us. so_far word us names) (sym pushed),
          subst (All (FitsWidth 127)) (sym pushed) (all_snoc (FitsWidth 127) vs v a.1 b.1),
        ))
        h reads

    pub values_refused : {W : Type 0} {f : ReportFault} {next : W → List Expected} {Is : W → List (List ℕ) → Type 0} {r : Result W ReportFault}
        → Reads {V = ℚ} d remaining fault_count mid after source new (value word name ∷ []) (λ _. []) (IsLine word name) (Err f)
        → IsErrAnd r (λ g. g ≡ f) → Reads d remaining fault_count before after old new (values word names) next Is r
    values_refused reads same = stopped (values word (drop (i + 1) names)) (values_next word name names i within name_is) h reads same

  module _ {X : Type 0} (e : ℕ → Expected) (line : X → List ℕ) {E : List Expected} {count i : ℕ} (xs : List X) (within : i < count)
      (h : SoFar d remaining fault_count before old mid source E (repeated e (count - i)) (AreLines line xs)) where
    pub repeated_step : (e' : X → ℕ → Expected) {Is : X → List (List ℕ) → Type 0} {x : X} (ys : List X) → ys ≡ xs ++
        x ∷ [] → ((ls : List (List ℕ)) → Is x ls → ls ≡ line x ∷ [])
        → Reads d remaining fault_count mid after source new (e (count - (i + 1)) ∷ []) (λ x. repeated (e' x) (count - (i + 1))) Is (Ok x)
        → SoFar d remaining fault_count before old after new E (repeated (e' x) (count - (i + 1))) (AreLines line ys)
    repeated_step e' {Is} {x} ys pushed is reads =
        subst (λ F. SoFar d remaining fault_count before old after new E F (AreLines line ys)) (append-nil (repeated (e' x) (count - (i + 1))))
        (taken [] (AreLines line ys) (repeated_next e count i within)
        (λ ls ms a b. map_snoc line xs x ls ms a (is ms b) ∙ ap (map line) (sym pushed)) h reads)

    pub repeated_refused : (e' : X → ℕ → Expected) {Is : X → List (List ℕ) → Type 0} {W : Type 0} {f : ReportFault} {next : W → List Expected}
        {Is' : W → List (List ℕ) → Type 0}
        {r : Result W ReportFault} → Reads d remaining fault_count mid after source new (e (count - (i + 1)) ∷ []) (λ x. repeated (e' x) (count - (i + 1))) Is (Err f)
        → IsErrAnd r (λ g. g ≡ f) → Reads d remaining fault_count before after old new E next Is' r
    repeated_refused e' reads same = stopped [] (repeated_next e count i within) h reads same

pub repeated_init : {S X : Type 0} {d : Deck} {remaining : S → Option (List ℕ)} {fault_count : S → ℕ} {before : ReaderState} {old : S}
    (e : ℕ → Expected) (line : X → List ℕ) (count : ℕ)
    {xs : List X} → IsReady before → xs ≡ [] → SoFar d remaining fault_count before old before old (repeated e count) (repeated e (count - 0)) (AreLines line xs)
repeated_init {d = d} {remaining = remaining} {fault_count = fault_count} {before = before} {old = old} e line count {xs = xs} ready none =
    let n : count ≡ count - 0 = omega arith in
    subst (λ k. SoFar d remaining fault_count before old before old (repeated e count) (repeated e k) (AreLines line xs)) n
    (none_yet d remaining fault_count before old (repeated e count) (AreLines line xs) ready (ap (map line) (sym none)))
