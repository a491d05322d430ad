-- Each step applies the next operation in reverse order.
use Rattle.std.proofs.Common.{◌≡◌, ◌-◌, ◌<◌, ◌≤◌, List, length, get_or, map, reverse, ap, ◌∙◌, subst, arith}
use Rattle.rational.proofs.Loops.{step_settles, step_stops, all_worked}
use Rattle.factor_model.specs.declared.Op.{Op}
use Rattle.factor_model.specs.Eta.{transposed}
use Rattle.sparse_steps.proofs.Steps.{refused}
use Rattle.row_eta.proofs.Steps.{apply_parts, apply_ends, stored_parts, op_back, length_back, stored_back, entries_transposed}
use Rattle.row_eta.proofs.EtaFile.apply_back.Goals as goal

pub returns-in_err-operate_transposed-clause-settled : goal.returns-in_err-operate_transposed-clause-settled
returns-in_err-operate_transposed-clause-settled g c =
    let ops = c.args.self.now in
    let k = c.loop-k.k in
    let op = c.index.result.now in
    let same = c.self.view_is in
    let count : c.len-count.result ≡ length ops = omega (arith, c.self.inside.ops.ok.0, ap length same) in
    let lt : k < length ops = omega arith in
    let found = op_back ops k op lt (subst (λ n. op ≡ get_or ops (n - 1 - k) op) count (subst (λ (xs : List Op). op ≡ get_or xs (c.len-count.result - 1 - k) op) same c.index.ensures)) in
    let back = map transposed (reverse ops) in
    let within : k < length back = omega (arith, length_back ops) in
    refused _ _ _ (λ _. c.operate_transposed.new.v) (step_stops _ _ c.loop-k.invariant.width _ _ _
    (apply_parts back k (transposed op) within found c.loop-k.v) _ c.loop-k.invariant.left c.in_err-operate_transposed.ensures.settled)
    c.from_residual.ensures.1

pub returns-in_err-operate_transposed-clause-work : goal.returns-in_err-operate_transposed-clause-work
returns-in_err-operate_transposed-clause-work g c =
    let ops = c.args.self.now in
    let k = c.loop-k.k in
    let op = c.index.result.now in
    let same = c.self.view_is in
    let count : c.len-count.result ≡ length ops = omega (arith, c.self.inside.ops.ok.0, ap length same) in
    let lt : k < length ops = omega arith in
    let found = op_back ops k op lt (subst (λ n. op ≡ get_or ops (n - 1 - k) op) count (subst (λ (xs : List Op). op ≡ get_or xs (c.len-count.result - 1 - k) op) same c.index.ensures)) in
    let back = map transposed (reverse ops) in
    let within : k < length back = omega (arith, length_back ops) in
    omega (arith, stored_parts back k (transposed op) within found, stored_back ops, entries_transposed op, c.in_err-operate_transposed.ensures.work)

pub loop-k-preserved : goal.loop-k-preserved
loop-k-preserved g c =
    let ops = c.args.self.now in
    let k = c.loop-k.k in
    let op = c.index.result.now in
    let same = c.self.view_is in
    let count : c.len-count.result ≡ length ops = omega (arith, c.self.inside.ops.ok.0, ap length same) in
    let lt : k < length ops = omega arith in
    let found = op_back ops k op lt (subst (λ n. op ≡ get_or ops (n - 1 - k) op) count (subst (λ (xs : List Op). op ≡ get_or xs (c.len-count.result - 1 - k) op) same c.index.ensures)) in
    let back = map transposed (reverse ops) in
    let within : k < length back = omega (arith, length_back ops) in
    record {
      width = c.operate_transposed.ensures.width ∙ c.loop-k.invariant.width;
      length = c.operate_transposed.auto.v ∙ c.loop-k.invariant.length;
      left = step_settles _ _ c.loop-k.invariant.width _ _ _ (apply_parts back k (transposed op) within found c.loop-k.v) _ c.loop-k.invariant.left _ c.in_ok-operate_transposed.ensures.settled;
      unfit = c.in_ok-operate_transposed.ensures.unfit ∙ c.loop-k.invariant.unfit;
      work = omega (arith, stored_parts back k (transposed op) within found, entries_transposed op);
    }

pub returns-clause-settled : goal.returns-clause-settled
returns-clause-settled g c =
    let ops = c.args.self.now in
    let count : c.len-count.result ≡ length ops = omega (arith, c.self.inside.ops.ok.0, ap length c.self.view_is) in
    let le : length (map transposed (reverse ops)) ≤ c.loop-k.k = omega (arith, length_back ops, count) in
    all_worked _ _ _ _ (apply_ends (map transposed (reverse ops)) c.loop-k.k c.loop-k.v le) c.loop-k.invariant.left

pub returns-clause-work : goal.returns-clause-work
returns-clause-work g c = omega (arith, stored_back c.args.self.now)
