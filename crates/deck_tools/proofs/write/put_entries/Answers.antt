use Rattle.std.proofs.Common.{◌≡◌, ◌<◌, Ok, get_or, length}
use Rattle.std.proofs.lemmas.Option.{get_or_from_slice_get}
use Rattle.rational.specs.Rational.{zero_ℚ}
use Rattle.lp_model.specs.Deck.{column, row}
use Rattle.deck_tools.specs.Layout.{pair_line}
use Rattle.deck_tools.proofs.Pages.{Makes-next_line, Makes-stopped_line}
use Rattle.deck_tools.proofs.write.put_entries.Goals as goal

pub loop-k-preserved : goal.loop-k-preserved
loop-k-preserved c =
    let d = c.args.deck.now in
    let col = column d c.args.column in
    let k = c.loop-k.k in
    let within : k < length col.entries = rw c.column-entries.ensures at (rw c.count-k-end.ensures.value at c.loop-k-test.true) in
    let here : get_or col.entries k (0, zero_ℚ) ≡ c.pair-row.result =
    get_or_from_slice_get col.entries k c.pair-row.result (0, zero_ℚ) (rw c.column-entries.ensures at c.pair-row.ensures.value) in
    Makes-next_line (λ e. pair_line col.name (row d e.0).name e.1) col.entries (0, zero_ℚ) k within {r = Ok tt} c.loop-k.invariant
    (rw here (rw (c.bytes-name.ensures, c.column_name.ensures, c.bytes.ensures, c.row_name.ensures) at c.in_ok-put_pair.ensures))

pub returns-in_err-put_pair : goal.returns-in_err-put_pair
returns-in_err-put_pair c =
    let d = c.args.deck.now in
    let col = column d c.args.column in
    let k = c.loop-k.k in
    let within : k < length col.entries = rw c.column-entries.ensures at (rw c.count-k-end.ensures.value at c.loop-k-test.true) in
    let here : get_or col.entries k (0, zero_ℚ) ≡ c.pair-row.result =
    get_or_from_slice_get col.entries k c.pair-row.result (0, zero_ℚ) (rw c.column-entries.ensures at c.pair-row.ensures.value) in
    Makes-stopped_line (λ e. pair_line col.name (row d e.0).name e.1) col.entries (0, zero_ℚ) k within c.loop-k.invariant
    (rw here (rw (c.bytes-name.ensures, c.column_name.ensures, c.bytes.ensures, c.row_name.ensures) at c.in_err-put_pair.ensures)) c.from_residual.ensures.1
