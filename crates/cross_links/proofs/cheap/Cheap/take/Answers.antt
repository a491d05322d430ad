-- The row's list has the column no longer.
use Rattle.std.proofs.Common.{Option, ℕ, ap, subst, is_some, ◌∙◌}
use Rattle.std.specs.List.{Contains}
use Rattle.std.specs.Option.{IfSome}
use Rattle.count_chain.specs.Chains.{list_at}
use Rattle.cross_links.proofs.Cheaps.{IsFlagged-taken, has_some-first}
use Rattle.cross_links.proofs.cheap.Cheap.take.Goals as goal

pub returns-in-Some-clause-flagged : goal.returns-in-Some-clause-flagged
returns-in-Some-clause-flagged g c =
    let left = c.is_some-left.ensures ∙ ap (λ (o : Option ℕ). is_some o) c.first.ensures.first ∙ has_some-first (list_at c.unlink.new.self c.in-Some.r) in
    let held = subst (λ (o : Option ℕ). IfSome o (λ r. Contains (list_at c.args.self.now.lone r) c.args.c)) c.in-Some.is c.requires.held in
    IsFlagged-taken c.args.self.now _ c.args.c c.in-Some.r c.is_some-left.result c.requires.flagged held c.unlink.ensures.unlinked c.unlink.ensures.chained c.set.ensures left
