use Rattle.std.proofs.Common.{◌≡◌, ◌++◌, ℕ, List, [], ◌∷◌, length, refl, sym, ap₂, append-nil}
use Rattle.std.specs.Prelude.{codes}
use Rattle.report_lines.specs.FirstFlaw as expected
use Rattle.report_lines.specs.FirstFlaw.{repeated}
use Rattle.lp_text.specs.Report.{number_line}
use Rattle.report_reader.proofs.PartLines.{basic_told, basis_told, upper_counted}
use Rattle.report_reader.proofs.Taking.{finished, none_yet, stopped, taken}
use Rattle.report_reader.proofs.parts.read_told_basis.Goals as goal

pub returns-in_err-read_basis_count : goal.returns-in_err-read_basis_count
returns-in_err-read_basis_count g c =
    let start = none_yet c.args.deck.now g.S.Source.remaining g.S.Source.fault_count c.args.lines.now c.args.source.now
    (expected.basis ∷ expected.upper ∷ []) (λ ls. ls ≡ []) c.requires refl in
    stopped (expected.upper ∷ []) refl start c.in_err-read_basis_count.ensures c.from_residual.ensures.1

pub returns-in_err-basic : goal.returns-in_err-basic
returns-in_err-basic g c =
    let start = none_yet c.args.deck.now g.S.Source.remaining g.S.Source.fault_count c.args.lines.now c.args.source.now
    (expected.basis ∷ expected.upper ∷ []) (λ ls. ls ≡ []) c.requires refl in
    let s1 = taken (expected.upper ∷ []) (λ ls. ls ≡ number_line (codes "BASIS") (length c.args.deck.now.rows) ∷ []) refl
    (λ ls ms a b. ap₂ (λ (p q : List (List ℕ)). p ++ q) a b)
    start c.in_ok-read_basis_count.ensures in
    stopped (expected.upper ∷ []) refl s1 c.in_err-basic.ensures c.from_residual-in_err-basic.ensures.1

pub returns-in_err-count : goal.returns-in_err-count
returns-in_err-count g c =
    let start = none_yet c.args.deck.now g.S.Source.remaining g.S.Source.fault_count c.args.lines.now c.args.source.now
    (expected.basis ∷ expected.upper ∷ []) (λ ls. ls ≡ []) c.requires refl in
    let s1 = taken (expected.upper ∷ []) (λ ls. ls ≡ number_line (codes "BASIS") (length c.args.deck.now.rows) ∷ []) refl
    (λ ls ms a b. ap₂ (λ (p q : List (List ℕ)). p ++ q) a b)
    start c.in_ok-read_basis_count.ensures in
    let s2 = basic_told c.args.deck.now g.S.Source.remaining g.S.Source.fault_count c.args.lines.now c.args.source.now _ _ _ _ c.in_ok-basic.basic s1
    c.in_ok-basic.ensures in
    stopped [] refl s2 c.in_err-count.ensures c.from_residual-in_err-count.ensures.1

pub returns-in_err-upper : goal.returns-in_err-upper
returns-in_err-upper g c =
    let start = none_yet c.args.deck.now g.S.Source.remaining g.S.Source.fault_count c.args.lines.now c.args.source.now
    (expected.basis ∷ expected.upper ∷ []) (λ ls. ls ≡ []) c.requires refl in
    let s1 = taken (expected.upper ∷ []) (λ ls. ls ≡ number_line (codes "BASIS") (length c.args.deck.now.rows) ∷ []) refl
    (λ ls ms a b. ap₂ (λ (p q : List (List ℕ)). p ++ q) a b)
    start c.in_ok-read_basis_count.ensures in
    let s2 = basic_told c.args.deck.now g.S.Source.remaining g.S.Source.fault_count c.args.lines.now c.args.source.now _ _ _ _ c.in_ok-basic.basic s1
    c.in_ok-basic.ensures in
    let s3 = upper_counted c.args.deck.now g.S.Source.remaining g.S.Source.fault_count c.args.lines.now c.args.source.now _ _ _ _ c.in_ok-basic.basic
    c.in_ok-count.count s2 c.in_ok-count.ensures in
    stopped [] (sym (append-nil (repeated (expected.at 0) c.in_ok-count.count))) s3 c.in_err-upper.ensures c.from_residual-in_err-upper.ensures.1

pub returns : goal.returns
returns g c =
    let start = none_yet c.args.deck.now g.S.Source.remaining g.S.Source.fault_count c.args.lines.now c.args.source.now
    (expected.basis ∷ expected.upper ∷ []) (λ ls. ls ≡ []) c.requires refl in
    let s1 = taken (expected.upper ∷ []) (λ ls. ls ≡ number_line (codes "BASIS") (length c.args.deck.now.rows) ∷ []) refl
    (λ ls ms a b. ap₂ (λ (p q : List (List ℕ)). p ++ q) a b)
    start c.in_ok-read_basis_count.ensures in
    let s2 = basic_told c.args.deck.now g.S.Source.remaining g.S.Source.fault_count c.args.lines.now c.args.source.now _ _ _ _ c.in_ok-basic.basic s1
    c.in_ok-basic.ensures in
    let s3 = upper_counted c.args.deck.now g.S.Source.remaining g.S.Source.fault_count c.args.lines.now c.args.source.now _ _ _ _ c.in_ok-basic.basic
    c.in_ok-count.count s2 c.in_ok-count.ensures in
    finished (basis_told c.args.deck.now g.S.Source.remaining g.S.Source.fault_count c.args.lines.now c.args.source.now _ _ _ _ c.in_ok-basic.basic
    c.in_ok-count.count c.in_ok-upper.upper s3 c.in_ok-upper.ensures) refl (λ ls h. h)
