-- Each link goes behind those before it.
use Rattle.std.proofs.Common.{ℕ, subst, arith}
use Rattle.cross_links.specs.Sides.{AreFree}
use Rattle.cross_links.proofs.Tables.{AreFree-none, AreFree-more, not_yet}
use Rattle.cross_links.proofs.table.free_from.Goals as goal

pub loop-link-init : goal.loop-link-init
loop-link-init g c = AreFree-none c.args.links c.args.total c.in_ok-free.free c.in_ok-free.ensures

pub place-requires-clause-loose : goal.place-requires-clause-loose
place-requires-clause-loose g c =
    not_yet c.args.links c.loop-link.link c.args.total c.loop-link.free c.loop-link.invariant

pub loop-link-preserved : goal.loop-link-preserved
loop-link-preserved g c =
    AreFree-more c.args.links c.loop-link.link c.args.total c.loop-link.free c.loop-link.invariant c.place.new.self (omega arith) c.place.ensures.placed c.place.ensures.chained

pub returns : goal.returns
returns g c =
    subst (λ (last : ℕ). AreFree c.args.links last c.args.total c.loop-link.free) (omega arith) c.loop-link.invariant
