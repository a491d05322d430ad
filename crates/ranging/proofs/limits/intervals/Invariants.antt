use Rattle.std.proofs.Common.{◌≡◌, map, take}
use Rattle.std.specs.Option.{unwrap_or}
use Rattle.ranging.specs.Ranges.{everything}
use Rattle.ranging.proofs.limits.intervals.Given as goal

-- the intervals so far
abbrev pub invariant-loop-limit : goal.invariant-loop-limit
invariant-loop-limit l = l.ranges.items ≡ map (λ limit. unwrap_or limit everything) (take l.limit-index l.limits)
