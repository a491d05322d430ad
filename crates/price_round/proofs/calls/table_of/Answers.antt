use Rattle.std.proofs.Common.{◌≡◌, ◌<◌, ◌∙◌, ◌^◌, ap, arith, refl, sym}
use Rattle.lp_run.specs.Instance.{column_count}
use Rattle.price_round.proofs.Steps.{first_sound}
use Rattle.price_round.proofs.calls.table_of.Goals as goal

pub of_words-requires : goal.of_words-requires
of_words-requires c =
    let few : column_count c.of.result.value < 2 ^ 32 =
    let same : column_count c.of.result.value ≡ c.columns-columns.result =
    ap column_count (c.of.ensures ∙ (c.deref-2.ensures ∙ sym c.deref.ensures)) ∙ sym c.columns-columns.ensures.count
    in omega arith in
    record {
      claim = 0;
      least = _;
      words = refl;
      sound = first_sound _ (omega arith) (omega arith) few;
    }
