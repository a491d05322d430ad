use Rattle.std.proofs.Common.{◌≡◌, ◌<◌, ◌≤◌, ◌+◌, ◌-◌, [], ◌∷◌, ◌++◌, length, map, refl, sym, ◌∙◌, ap, subst, arith}
use Rattle.std.specs.List.{All}
use Rattle.std.specs.Prelude.{codes}
use Rattle.std.proofs.lemmas.List.{length-append}
use Rattle.std.proofs.lemmas.List.Elements.{All-nil}
use Rattle.lp_text.specs.Report.{number_line}
use Rattle.report_lines.specs.FirstFlaw as expected
use Rattle.report_lines.specs.FirstFlaw.{column_total}
use Rattle.report_reader.proofs.ListLines.{all_snoc, repeated_end}
use Rattle.report_reader.proofs.Loops.{repeated_init, repeated_refused, repeated_step}
use Rattle.report_reader.proofs.Taking.{finished, wants}
use Rattle.report_reader.proofs.lists.read_basic.Goals as goal

pub loop-position-init : goal.loop-position-init
loop-position-init g c =
    let none = c.new-list.ensures.items in
    record {
      count = ap length none;
      all = subst (All (λ q. q < column_total c.args.deck.now)) (sym none) (All-nil (λ q. q < column_total c.args.deck.now));
      taken = repeated_init expected.basic (number_line (codes "BASIC")) (length c.args.deck.now.rows) c.requires none;
    }

pub read_basic_column-requires : goal.read_basic_column-requires
read_basic_column-requires g c = c.loop-position.invariant.taken.found.moves.ready

pub loop-position-preserved : goal.loop-position-preserved
loop-position-preserved g c =
    let within : c.loop-position._position < (length c.args.deck.now.rows) = omega arith in
    let reads = c.in_ok-column.ensures ((length c.args.deck.now.rows) - (c.loop-position._position + 1)) in
    let items = c.in_ok-push.ensures.items in
    record {
      count = ap length items ∙ length-append c.loop-position.list.items (c.in_ok-column.column ∷ []) ∙ ap (λ n. n + 1) c.loop-position.invariant.count;
      all = subst (All (λ q. q < column_total c.args.deck.now)) (sym items)
          (all_snoc (λ q. q < column_total c.args.deck.now) c.loop-position.list.items c.in_ok-column.column c.loop-position.invariant.all reads.found.holds.0);
      taken = repeated_step expected.basic (number_line (codes "BASIC")) c.loop-position.list.items within c.loop-position.invariant.taken
          (λ _. expected.basic) c.push.new.self.items items (λ ls h. h.1) reads;
    }

pub returns-in_err-column : goal.returns-in_err-column
returns-in_err-column g c =
    let within : c.loop-position._position < (length c.args.deck.now.rows) = omega arith in
    repeated_refused expected.basic (number_line (codes "BASIC")) c.loop-position.list.items within c.loop-position.invariant.taken
    (λ _. expected.basic) (c.in_err-column.ensures ((length c.args.deck.now.rows) - (c.loop-position._position + 1))) c.from_residual.ensures.1

pub returns-in_err-push : goal.returns-in_err-push
returns-in_err-push g c =
    let within : c.loop-position._position < (length c.args.deck.now.rows) = omega arith in
    wants c.args.deck.now g.S.Source.remaining g.S.Source.fault_count _ _ _ _ _ _ _ _
    (λ b ls. (length b ≡ length c.args.deck.now.rows) × All (λ q. q < column_total c.args.deck.now) b × (ls ≡ map (number_line (codes "BASIC")) b)) _
    (repeated_step expected.basic (number_line (codes "BASIC")) c.loop-position.list.items within c.loop-position.invariant.taken
    (λ _. expected.basic) (c.loop-position.list.items ++ c.in_ok-column.column ∷ []) refl (λ ls h. h.1)
    (c.in_ok-column.ensures ((length c.args.deck.now.rows) - (c.loop-position._position + 1)))) c.from_residual-in_err-push.ensures.1

pub returns : goal.returns
returns g c =
    let past : (length c.args.deck.now.rows) ≤ c.loop-position._position = omega arith in
    let n : length c.loop-position.list.items ≡ (length c.args.deck.now.rows) = omega (arith, c.loop-position.invariant.count, past) in
    finished c.loop-position.invariant.taken (repeated_end expected.basic (length c.args.deck.now.rows) c.loop-position._position past)
    (λ ls h. subst (λ b. (length b ≡ length c.args.deck.now.rows) × All (λ q. q < column_total c.args.deck.now)
    b × (ls ≡ map (number_line (codes "BASIC")) b)) (sym c.of.ensures) (n, c.loop-position.invariant.all, h))
