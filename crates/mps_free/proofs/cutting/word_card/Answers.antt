use Rattle.std.proofs.Common.{◌∙◌, refl, sym}
use Rattle.mps_free.proofs.CuttingLemmas.{blank, data_card, not_printable, section_card, too_long}
use Rattle.mps_free.proofs.cutting.word_card.Goals as goal

pub returns-then-not-front_prints : goal.returns-then-not-front_prints
returns-then-not-front_prints c =
    (not_printable c.args.text.now c.byte_at-first.result c.byte_at-first.ensures c.if-first-eq42.false (sym c.front_prints.ensures ∙ c.if-not-front_prints.true), refl)

pub returns-then-is_too_long : goal.returns-then-is_too_long
returns-then-is_too_long c = (
  too_long c.args.text.now c.byte_at-first.result c.byte_at-first.ensures c.if-first-eq42.false (sym c.front_prints.ensures ∙ c.if-not-front_prints.false)
      (sym c.is_too_long.ensures ∙ c.if-is_too_long.true),
  refl,
)

pub returns-then-has_only_blanks : goal.returns-then-has_only_blanks
returns-then-has_only_blanks c =
    blank c.args.text.now c.byte_at-first.result c.byte_at-first.ensures c.if-first-eq42.false (sym c.front_prints.ensures ∙ c.if-not-front_prints.false)
    (sym c.is_too_long.ensures ∙ c.if-is_too_long.false) (sym c.has_only_blanks.ensures ∙ c.if-has_only_blanks.true)

pub returns-then-first-eq32 : goal.returns-then-first-eq32
returns-then-first-eq32 c =
    rw c.in_ok-tokens.ensures
    (data_card c.args.text.now c.byte_at-first.result c.byte_at-first.ensures c.if-first-eq42.false (sym c.front_prints.ensures ∙ c.if-not-front_prints.false)
    (sym c.is_too_long.ensures ∙ c.if-is_too_long.false) (sym c.has_only_blanks.ensures ∙ c.if-has_only_blanks.false) c.if-first-eq32.true)

pub returns-else-first-eq32 : goal.returns-else-first-eq32
returns-else-first-eq32 c =
    rw c.in_ok-tokens.ensures
    (section_card c.args.text.now c.byte_at-first.result c.byte_at-first.ensures c.if-first-eq42.false (sym c.front_prints.ensures ∙ c.if-not-front_prints.false)
    (sym c.is_too_long.ensures ∙ c.if-is_too_long.false) (sym c.has_only_blanks.ensures ∙ c.if-has_only_blanks.false) c.if-first-eq32.false)
