use Rattle.std.proofs.Common.{◌≡◌, ◌<◌, ◌+◌, [], ◌∷◌, ◌++◌, length, refl, sym, ◌∙◌, ap, subst, arith}
use Rattle.std.specs.List.{All}
use Rattle.std.proofs.lemmas.List.{length-append}
use Rattle.std.proofs.lemmas.List.Elements.{All-nil}
use Rattle.rational.specs.Width.{FitsWidth}
use Rattle.lp_model.specs.Edit.{new_deck}
use Rattle.cert_text.specs.Names.{names_of}
use Rattle.report_lines.specs.FirstFlaw.{values}
use Rattle.report_reader.proofs.ListLines.{so_far, so_far_all, values_end}
use Rattle.report_reader.proofs.Loops.{AreSoFar, values_refused, values_step}
use Rattle.report_reader.proofs.PartLines.{IsValues}
use Rattle.report_reader.proofs.Taking.{finished, none_yet, wants}
use Rattle.report_reader.proofs.lists.read_values.Goals as goal

pub loop-index-init : goal.loop-index-init
loop-index-init g c = record {
  ready = c.requires;
  count = ap length c.new-list.ensures.items;
  taken = λ d. none_yet d g.S.Source.remaining g.S.Source.fault_count _ _ (values c.args.word.now (names_of c.args.names.now))
      (AreSoFar c.args.word.now (names_of c.args.names.now) c.new-list.result.items) c.requires (
        ap (λ vs. so_far c.args.word.now vs (names_of c.args.names.now)) (sym c.new-list.ensures.items),
        subst (All (FitsWidth 127)) (sym c.new-list.ensures.items) (All-nil (FitsWidth 127)),
      );
}

pub read_value-requires : goal.read_value-requires
read_value-requires g c = c.loop-index.invariant.ready

pub loop-index-preserved : goal.loop-index-preserved
loop-index-preserved g c =
    let within : c.loop-index.index < length (names_of c.args.names.now) = omega arith in
    record {
      ready = (c.in_ok-value.ensures (new_deck [] [])).found.moves.ready;
      count = ap length c.in_ok-push.ensures.items ∙ length-append c.loop-index.list.items (c.in_ok-value.value ∷ []) ∙ ap (λ n. n + 1) c.loop-index.invariant.count;
      taken = λ d. values_step (names_of c.args.names.now) c.loop-index.list.items within c.get.ensures (c.loop-index.invariant.taken d)
          c.push.new.self.items c.in_ok-push.ensures.items c.loop-index.invariant.count
          (c.in_ok-value.ensures d);
    }

pub returns-in_err-value : goal.returns-in_err-value
returns-in_err-value g c = λ d.
    let within : c.loop-index.index < length (names_of c.args.names.now) = omega arith in
    values_refused (names_of c.args.names.now) c.loop-index.list.items within c.get.ensures (c.loop-index.invariant.taken d)
    (c.in_err-value.ensures d) c.from_residual.ensures.1

pub returns-in_err-push : goal.returns-in_err-push
returns-in_err-push g c = λ d.
    let within : c.loop-index.index < length (names_of c.args.names.now) = omega arith in
    wants d g.S.Source.remaining g.S.Source.fault_count _ _ _ _ _ _ _ _ (IsValues c.args.word.now (names_of c.args.names.now)) _
    (values_step (names_of c.args.names.now) c.loop-index.list.items within c.get.ensures (c.loop-index.invariant.taken d)
    (c.loop-index.list.items ++ c.in_ok-value.value ∷ []) refl
    c.loop-index.invariant.count (c.in_ok-value.ensures d)) c.from_residual-in_err-push.ensures.1

pub returns : goal.returns
returns g c = λ d.
    let names = names_of c.args.names.now in
    let n : length c.loop-index.list.items ≡ length names = omega (arith, c.loop-index.invariant.count) in
    finished (c.loop-index.invariant.taken d) (values_end c.args.word.now names c.loop-index.index (omega arith))
    (λ ls h. subst (λ v. IsValues c.args.word.now names v ls) (sym c.of.ensures) ((n, h.1), h.0 ∙ so_far_all c.args.word.now c.loop-index.list.items names n))
