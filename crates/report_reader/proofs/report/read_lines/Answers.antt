use Rattle.std.proofs.Common.{◌++◌, ℕ, List, [], ◌∷◌, refl, ap₂}
use Rattle.report_lines.specs.FirstFlaw as expected
use Rattle.report_lines.specs.FirstFlaw.{repeated}
use Rattle.deck_model.specs.Outcome.{outcome_of}
use Rattle.report_reader.specs.Inner.Lines.{of_basis}
use Rattle.report_reader.proofs.PartLines.{IsHead, IsHeadAnd, IsUpToLog, IsWhole, whole_lines}
use Rattle.report_reader.proofs.Taking.{alone, finished, refused_alone, stopped, taken}
use Rattle.report_reader.proofs.report.read_lines.Goals as goal

pub returns-in_err-tells : goal.returns-in_err-tells
returns-in_err-tells g c = refused_alone (c.in_err-tells.ensures c.args.deck.now) c.from_residual.ensures.1

pub read_title-requires : goal.read_title-requires
read_title-requires g c = (c.in_ok-tells.ensures c.args.deck.now).found.moves.ready

pub returns-in_err-read_title : goal.returns-in_err-read_title
returns-in_err-read_title g c =
    stopped (expected.kind ∷ of_basis c.in_ok-tells.tells ++ expected.log_or_end ∷ []) refl (alone (c.in_ok-tells.ensures c.args.deck.now))
    c.in_err-read_title.ensures c.from_residual-in_err-read_title.ensures.1

pub returns-in_err-outcome : goal.returns-in_err-outcome
returns-in_err-outcome g c =
    let s1 = alone (c.in_ok-tells.ensures c.args.deck.now) in
    let s2 = taken (expected.kind ∷ of_basis c.in_ok-tells.tells ++ expected.log_or_end ∷ []) (IsHead c.args.deck.now c.in_ok-tells.tells) refl
    (λ ls ms a b. ap₂ (λ (p q : List (List ℕ)). p ++ q) a b) s1 c.in_ok-read_title.ensures in
    stopped (of_basis c.in_ok-tells.tells ++ expected.log_or_end ∷ []) refl s2 c.in_err-outcome.ensures c.from_residual-in_err-outcome.ensures.1

pub returns-in_err-basis : goal.returns-in_err-basis
returns-in_err-basis g c =
    let s1 = alone (c.in_ok-tells.ensures c.args.deck.now) in
    let s2 = taken (expected.kind ∷ of_basis c.in_ok-tells.tells ++ expected.log_or_end ∷ []) (IsHead c.args.deck.now c.in_ok-tells.tells) refl
    (λ ls ms a b. ap₂ (λ (p q : List (List ℕ)). p ++ q) a b) s1 c.in_ok-read_title.ensures in
    let s3 = taken (of_basis c.in_ok-tells.tells ++ expected.log_or_end ∷ [])
    (IsHeadAnd c.args.deck.now c.in_ok-tells.tells (outcome_of c.in_ok-outcome.outcome)) refl (λ ls ms a b. (b.0, ap₂ (λ (p q : List (List ℕ)). p ++ q) a b.1))
    s2 c.in_ok-outcome.ensures in
    stopped (expected.log_or_end ∷ []) refl s3 c.in_err-basis.ensures c.from_residual-in_err-basis.ensures.1

pub returns-in_err-log : goal.returns-in_err-log
returns-in_err-log g c =
    let s1 = alone (c.in_ok-tells.ensures c.args.deck.now) in
    let s2 = taken (expected.kind ∷ of_basis c.in_ok-tells.tells ++ expected.log_or_end ∷ []) (IsHead c.args.deck.now c.in_ok-tells.tells) refl
    (λ ls ms a b. ap₂ (λ (p q : List (List ℕ)). p ++ q) a b) s1 c.in_ok-read_title.ensures in
    let s3 = taken (of_basis c.in_ok-tells.tells ++ expected.log_or_end ∷ [])
    (IsHeadAnd c.args.deck.now c.in_ok-tells.tells (outcome_of c.in_ok-outcome.outcome)) refl (λ ls ms a b. (b.0, ap₂ (λ (p q : List (List ℕ)). p ++ q) a b.1))
    s2 c.in_ok-outcome.ensures in
    let s4 = taken (expected.log_or_end ∷ []) (IsUpToLog c.args.deck.now c.in_ok-tells.tells (outcome_of c.in_ok-outcome.outcome) c.in_ok-basis.basis) refl
    (λ ls ms a b. (a.0, b.0, b.1, ap₂ (λ (p q : List (List ℕ)). p ++ q) a.1 b.2)) s3 c.in_ok-basis.ensures in
    stopped [] refl s4 c.in_err-log.ensures c.from_residual-in_err-log.ensures.1

pub returns : goal.returns
returns g c =
    let s1 = alone (c.in_ok-tells.ensures c.args.deck.now) in
    let s2 = taken (expected.kind ∷ of_basis c.in_ok-tells.tells ++ expected.log_or_end ∷ []) (IsHead c.args.deck.now c.in_ok-tells.tells) refl
    (λ ls ms a b. ap₂ (λ (p q : List (List ℕ)). p ++ q) a b) s1 c.in_ok-read_title.ensures in
    let s3 = taken (of_basis c.in_ok-tells.tells ++ expected.log_or_end ∷ [])
    (IsHeadAnd c.args.deck.now c.in_ok-tells.tells (outcome_of c.in_ok-outcome.outcome)) refl (λ ls ms a b. (b.0, ap₂ (λ (p q : List (List ℕ)). p ++ q) a b.1))
    s2 c.in_ok-outcome.ensures in
    let s4 = taken (expected.log_or_end ∷ []) (IsUpToLog c.args.deck.now c.in_ok-tells.tells (outcome_of c.in_ok-outcome.outcome) c.in_ok-basis.basis) refl
    (λ ls ms a b. (a.0, b.0, b.1, ap₂ (λ (p q : List (List ℕ)). p ++ q) a.1 b.2)) s3 c.in_ok-basis.ensures in
    finished
    (taken [] (IsWhole c.args.deck.now (record { outcome = outcome_of c.in_ok-outcome.outcome; basis = c.in_ok-basis.basis; log = c.in_ok-log.log })) refl
    (whole_lines c.args.deck.now c.in_ok-tells.tells (outcome_of c.in_ok-outcome.outcome) c.in_ok-basis.basis c.in_ok-log.log) s4 c.in_ok-log.ensures)
    refl (λ ls h. h)
