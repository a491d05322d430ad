use Rattle.std.proofs.Common.{◌+◌, ◌≤◌, length, refl, sym, ◌∙◌, ap, arith}
use Rattle.deck_model.specs.Outcome.{outcome_of}
use Rattle.lp_model.specs.Basis.{Basis}
use Rattle.cert_check.proofs.Marked.{sound-is}
use Rattle.cert_check.proofs.Told.{told-broken, told-then}
use Rattle.cert_check.proofs.bases.by_marks.Goals as goal

pub returns-then-not-is_sound-clause-first : goal.returns-then-not-is_sound-clause-first
returns-then-not-is_sound-clause-first g c =
    let d = c.args.deck.now in
    let b = c.args.basis.now in
    let count = length d.columns + length d.rows + length d.rows in
    let others = c.as_slice-others.ensures ∙ ap (λ (b : Basis). b.upper) c.basis.view_is in
    let is = sym (sound-is count b c.args.once c.args.basic.now c.as_slice-others.result.now c.requires.once c.requires.basic others c.requires.within.upper)
    ∙ sym c.is_sound.ensures ∙ c.if-not-is_sound.true in
    told-broken _ d b (outcome_of c.args.outcome.now) is

pub returns-clause-first : goal.returns-clause-first
returns-clause-first g c =
    let d = c.args.deck.now in
    let b = c.args.basis.now in
    let count = length d.columns + length d.rows + length d.rows in
    let few : length d.columns ≤ count = omega arith in
    let others = c.as_slice-others.ensures ∙ ap (λ (b : Basis). b.upper) c.basis.view_is in
    let is = sym (sound-is count b c.args.once c.args.basic.now c.as_slice-others.result.now c.requires.once c.requires.basic others c.requires.within.upper)
    ∙ sym c.is_sound.ensures ∙ c.if-not-is_sound.false in
    told-then _ d b count few c.args.basic.now c.args.upper.now c.requires.basic c.requires.upper (outcome_of c.args.outcome.now) _ c.agrees.result refl is c.agrees.ensures.first
