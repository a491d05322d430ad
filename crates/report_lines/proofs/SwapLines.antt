-- Lines of a swap.
use Rattle.std.proofs.Common.{◌≡◌, ℕ, List, ◌∷◌, ◌++◌, sym, ◌∙◌, ap₂, append_assoc}
use Rattle.report_lines.specs.Judged.{part}

pub swap_line : (line rest more end word column position side : List ℕ) → line ≡ part line ++ 32 ∷ rest → part line ≡ word
    → rest ≡ part rest ++ 32 ∷ more → part rest ≡ column → more ≡ part more ++ 32 ∷ end → part more ≡ position → end ≡ side
    → line ≡ ((word ++ 32 ∷ column) ++ 32 ∷ position) ++ 32 ∷ side
swap_line line rest more end word column position side line_is word_is rest_is column_is more_is position_is end_is =
    line_is
    ∙ ap₂ (λ (w r : List ℕ). w ++ 32 ∷ r) word_is
    (rest_is ∙ ap₂ (λ (t m : List ℕ). t ++ 32 ∷ m) column_is (more_is ∙ ap₂ (λ (t e : List ℕ). t ++ 32 ∷ e) position_is end_is))
    ∙ sym (append_assoc (word ++ 32 ∷ column) (32 ∷ position) (32 ∷ side) ∙ append_assoc word (32 ∷ column) (32 ∷ position ++ 32 ∷ side))
