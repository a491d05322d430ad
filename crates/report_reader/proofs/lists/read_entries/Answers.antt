use Rattle.std.proofs.Common.{◌≡◌, ◌<◌, ◌≤◌, ◌+◌, ◌-◌, [], ◌∷◌, ◌++◌, length, map, refl, sym, ◌∙◌, ap, subst, arith}
use Rattle.std.specs.List.{All}
use Rattle.std.proofs.lemmas.List.{length-append}
use Rattle.std.proofs.lemmas.List.Elements.{All-nil}
use Rattle.lp_text.specs.Report.{entry_line}
use Rattle.report_lines.specs.FirstFlaw as expected
use Rattle.report_lines.specs.FirstFlaw.{column_total}
use Rattle.report_lines.specs.Judged.{IsWithin}
use Rattle.report_reader.proofs.ListLines.{all_snoc, repeated_end}
use Rattle.report_reader.proofs.Loops.{repeated_init, repeated_refused, repeated_step}
use Rattle.report_reader.proofs.Taking.{finished, wants}
use Rattle.report_reader.proofs.lists.read_entries.Goals as goal

pub loop-index-init : goal.loop-index-init
loop-index-init g c =
    let none = c.new-log.ensures in
    record {
      count = ap length none;
      all = subst (All (IsWithin (column_total c.args.deck.now) (length c.args.deck.now.rows))) (sym none)
          (All-nil (IsWithin (column_total c.args.deck.now) (length c.args.deck.now.rows)));
      taken = repeated_init expected.entry entry_line c.args.count c.requires none;
    }

pub read_entry-requires : goal.read_entry-requires
read_entry-requires g c = c.loop-index.invariant.taken.found.moves.ready

pub loop-index-preserved : goal.loop-index-preserved
loop-index-preserved g c =
    let within : c.loop-index._index < c.args.count = omega arith in
    let reads = c.in_ok-entry.ensures (c.args.count - (c.loop-index._index + 1)) in
    let items = c.in_ok-push.ensures.ok in
    record {
      count = ap length items ∙ length-append c.loop-index.log (c.in_ok-entry.entry ∷ []) ∙ ap (λ n. n + 1) c.loop-index.invariant.count;
      all = subst (All (IsWithin (column_total c.args.deck.now) (length c.args.deck.now.rows))) (sym items)
          (all_snoc (IsWithin (column_total c.args.deck.now) (length c.args.deck.now.rows)) c.loop-index.log c.in_ok-entry.entry
          c.loop-index.invariant.all reads.found.holds.0);
      taken = repeated_step expected.entry entry_line c.loop-index.log within c.loop-index.invariant.taken (λ _. expected.entry) c.push.new.self items
          (λ ls h. h.1) reads;
    }

pub returns-in_err-entry : goal.returns-in_err-entry
returns-in_err-entry g c =
    let within : c.loop-index._index < c.args.count = omega arith in
    repeated_refused expected.entry entry_line c.loop-index.log within c.loop-index.invariant.taken (λ _. expected.entry)
    (c.in_err-entry.ensures (c.args.count - (c.loop-index._index + 1))) c.from_residual.ensures.1

pub returns-in_err-push : goal.returns-in_err-push
returns-in_err-push g c =
    let within : c.loop-index._index < c.args.count = omega arith in
    wants c.args.deck.now g.S.Source.remaining g.S.Source.fault_count _ _ _ _ _ _ _ _
    (λ log ls. (length log ≡ c.args.count) × All (IsWithin (column_total c.args.deck.now) (length c.args.deck.now.rows)) log × (ls ≡ map entry_line log)) _
    (repeated_step expected.entry entry_line c.loop-index.log within c.loop-index.invariant.taken (λ _. expected.entry)
    (c.loop-index.log ++ c.in_ok-entry.entry ∷ []) refl (λ ls h. h.1)
    (c.in_ok-entry.ensures (c.args.count - (c.loop-index._index + 1)))) c.from_residual-in_err-push.ensures.1

pub returns : goal.returns
returns g c =
    let past : c.args.count ≤ c.loop-index._index = omega arith in
    let n : length c.loop-index.log ≡ c.args.count = omega (arith, c.loop-index.invariant.count, past) in
    finished c.loop-index.invariant.taken (repeated_end expected.entry c.args.count c.loop-index._index past)
    (λ ls h. (n, c.loop-index.invariant.all, h))
