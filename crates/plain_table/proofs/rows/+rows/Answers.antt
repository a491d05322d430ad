-- The answer of two halves is the first one's where that is refused, and else the second one's.
use Rattle.std.proofs.Common.{◌+◌, ◌++◌, List, OnOk, refl, sym, ◌∙◌, ap, ap₂, subst}
use Rattle.std.proofs.lemmas.List.{take-append-drop}
use Rattle.std.proofs.lemmas.Result.{err_from_is_err_and, on_ok_weaker}
use Rattle.rational.specs.Rational.{ℚ}
use Rattle.exact_frac.specs.Count.{raised, unfit_after}
use Rattle.plain_table.specs.Inner.Rows.{AreEliminated, EliminatesRow}
use Rattle.plain_table.proofs.Halves.{each_both, first_refused, raised_after, second_judged, wide_both}
use Rattle.plain_table.proofs.rows.+rows.Goals as goal

pub eliminate_all-returns-in_err-first : goal.eliminate_all-returns-in_err-first
eliminate_all-returns-in_err-first g t c =
    let a = c.args in
    let e = a.elimination.now in
    let halves = c.eliminate_halves-first in
    let low = c.split_at.result.0.now in
    let high = c.split_at.result.1.now in
    let whole = sym (ap₂ (λ (xs ys : List (List ℚ)). xs ++ ys) c.split_at.ensures.front c.split_at.ensures.back ∙ take-append-drop _ a.rows.now) in
    let up = sym (ap (λ n. n + a.base) c.split_at.ensures.front_len) in
    let p = err_from_is_err_and c.from_residual.result c.from_residual.ensures.1 in
    rw (p.1, p.2)
    (record {
      answer = first_refused e.number e.position a.base e.column e.line.now low high _ up a.rows.now whole _ c.in_err-first.field-0.0 halves.result.0 c.in_err-first.was halves.ensures.low.answer;
      eliminated = tt;
      spare = wide_both _ halves.new.low_out halves.new.high_out halves.ensures.low.spare halves.ensures.high.spare;
      width = halves.ensures.low.width;
      unfits = halves.ensures.low.unfits ∙ ap (unfit_after (g.A.Arith.unfit_count a.arith.now)) c.in_err-first.was;
    })

pub eliminate_all-returns : goal.eliminate_all-returns
eliminate_all-returns g t c =
    let a = c.args in
    let e = a.elimination.now in
    let halves = c.eliminate_halves-first in
    let low = c.split_at.result.0.now in
    let high = c.split_at.result.1.now in
    let whole = sym (ap₂ (λ (xs ys : List (List ℚ)). xs ++ ys) c.split_at.ensures.front c.split_at.ensures.back ∙ take-append-drop _ a.rows.now) in
    let up = sym (ap (λ n. n + a.base) c.split_at.ensures.front_len) in
    let low_out = halves.new.low_out in
    let high_out = halves.new.high_out in
    let first = subst (λ r. OnOk r (AreEliminated e.position a.base e.column e.line.now e.support.now low low_out)) c.in_ok-first.was halves.ensures.low.eliminated in
    record {
      answer = second_judged e.number e.position a.base e.column e.line.now low high _ up a.rows.now whole _ _ halves.result.0 halves.result.1
          c.fresh-own.ensures.same_width c.in_ok-first.was halves.ensures.low.answer halves.ensures.high.answer;
      eliminated = on_ok_weaker halves.result.1
          (λ second. each_both e.number e.position a.base e.column e.line.now low high _ up a.rows.now whole
          (λ own row packed. EliminatesRow own e.column e.line.now e.support.now row packed) (low_out ++ high_out) low_out high_out refl
          (halves.auto.low_out ∙ c.split_at_mut-low_out.ensures.front_len ∙ sym c.split_at.ensures.front_len) first second)
          halves.ensures.high.eliminated;
      spare = wide_both _ low_out high_out halves.ensures.low.spare halves.ensures.high.spare;
      width = c.absorb.ensures.same_width ∙ halves.ensures.low.width;
      unfits = c.absorb.ensures.unfit
          ∙ ap₂ (λ n k. raised n k) (halves.ensures.low.unfits ∙ ap (unfit_after (g.A.Arith.unfit_count a.arith.now)) c.in_ok-first.was)
          (halves.ensures.high.unfits ∙ ap (λ n. unfit_after n halves.result.1) c.fresh-own.ensures.unfit)
          ∙ raised_after (g.A.Arith.unfit_count a.arith.now) halves.result.1;
    }
