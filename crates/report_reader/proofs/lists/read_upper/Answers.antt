use Rattle.std.proofs.Common.{◌≡◌, ◌<◌, ◌≤◌, ◌+◌, ◌-◌, [], ◌∷◌, ◌++◌, length, map, refl, sym, ◌∙◌, ap, subst, arith}
use Rattle.std.specs.List.{All}
use Rattle.std.specs.Prelude.{codes}
use Rattle.std.proofs.lemmas.List.{length-append}
use Rattle.std.proofs.lemmas.List.Elements.{All-nil}
use Rattle.lp_text.specs.Report.{number_line}
use Rattle.report_lines.specs.FirstFlaw as expected
use Rattle.report_lines.specs.FirstFlaw.{column_total}
use Rattle.report_reader.specs.Reading.{IsRising}
use Rattle.report_reader.proofs.ListLines.{all_snoc, below_snoc, repeated_end, rising_none, rising_snoc}
use Rattle.report_reader.proofs.Loops.{repeated_init, repeated_refused, repeated_step}
use Rattle.report_reader.proofs.Taking.{finished, wants}
use Rattle.report_reader.proofs.lists.read_upper.Goals as goal

pub loop-index-init : goal.loop-index-init
loop-index-init g c =
    let none = c.new-list.ensures.items in
    record {
      count = ap length none;
      all = subst (All (λ q. q < column_total c.args.deck.now)) (sym none) (All-nil (λ q. q < column_total c.args.deck.now));
      below = subst (All (λ q. q < 0)) (sym none) (All-nil (λ q. q < 0));
      rising = subst IsRising (sym none) rising_none;
      taken = repeated_init (expected.at 0) (number_line (codes "AT")) c.args.count c.requires none;
    }

pub read_upper_column-requires : goal.read_upper_column-requires
read_upper_column-requires g c = c.loop-index.invariant.taken.found.moves.ready

pub loop-index-preserved : goal.loop-index-preserved
loop-index-preserved g c =
    let within : c.loop-index._index < c.args.count = omega arith in
    let reads = c.in_ok-column.ensures (c.args.count - (c.loop-index._index + 1)) in
    let items = c.in_ok-push.ensures.items in
    record {
      count = ap length items ∙ length-append c.loop-index.list.items (c.in_ok-column.column ∷ []) ∙ ap (λ n. n + 1) c.loop-index.invariant.count;
      all = subst (All (λ q. q < column_total c.args.deck.now)) (sym items)
          (all_snoc (λ q. q < column_total c.args.deck.now) c.loop-index.list.items c.in_ok-column.column c.loop-index.invariant.all reads.found.holds.1);
      below = subst (All (λ q. q < c.in_ok-column.column + 1)) (sym items)
          (below_snoc c.loop-index.list.items c.in_ok-column.column c.loop-index.least c.loop-index.invariant.below reads.found.holds.0);
      rising = subst IsRising (sym items)
          (rising_snoc c.loop-index.list.items c.in_ok-column.column c.loop-index.least c.loop-index.invariant.below c.loop-index.invariant.rising reads.found.holds.0);
      taken = repeated_step (expected.at c.loop-index.least) (number_line (codes "AT")) c.loop-index.list.items within c.loop-index.invariant.taken
          (λ q. expected.at (q + 1)) c.push.new.self.items items (λ ls h. h.2) reads;
    }

pub returns-in_err-column : goal.returns-in_err-column
returns-in_err-column g c =
    let within : c.loop-index._index < c.args.count = omega arith in
    repeated_refused (expected.at c.loop-index.least) (number_line (codes "AT")) c.loop-index.list.items within c.loop-index.invariant.taken
    (λ q. expected.at (q + 1)) (c.in_err-column.ensures (c.args.count - (c.loop-index._index + 1))) c.from_residual.ensures.1

pub returns-in_err-push : goal.returns-in_err-push
returns-in_err-push g c =
    let within : c.loop-index._index < c.args.count = omega arith in
    wants c.args.deck.now g.S.Source.remaining g.S.Source.fault_count _ _ _ _ _ _ _ _
    (λ u ls. (length u ≡ c.args.count) × All (λ q. q < column_total c.args.deck.now) u × IsRising u × (ls ≡ map (number_line (codes "AT")) u)) _
    (repeated_step (expected.at c.loop-index.least) (number_line (codes "AT")) c.loop-index.list.items within c.loop-index.invariant.taken
    (λ q. expected.at (q + 1)) (c.loop-index.list.items ++ c.in_ok-column.column ∷ []) refl (λ ls h. h.2)
    (c.in_ok-column.ensures (c.args.count - (c.loop-index._index + 1)))) c.from_residual-in_err-push.ensures.1

pub prove-unreachable-requires : goal.prove-unreachable-requires
prove-unreachable-requires g c =
    let holds = (c.in_ok-column.ensures 0).found.holds in
    omega (arith, holds.1, c.column_total-columns.ensures, c.if-prove.true)

pub returns : goal.returns
returns g c =
    let past : c.args.count ≤ c.loop-index._index = omega arith in
    let n : length c.loop-index.list.items ≡ c.args.count = omega (arith, c.loop-index.invariant.count, past) in
    finished c.loop-index.invariant.taken (repeated_end (expected.at c.loop-index.least) c.args.count c.loop-index._index past)
    (λ ls h. subst (λ u. (length u ≡ c.args.count) × All (λ q. q < column_total c.args.deck.now) u × IsRising u × (ls ≡ map (number_line (codes "AT")) u))
    (sym c.of.ensures) (n, c.loop-index.invariant.all, c.loop-index.invariant.rising, h))
