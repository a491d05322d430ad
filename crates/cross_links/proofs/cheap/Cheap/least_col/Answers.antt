-- The list is followed to its end.
use Rattle.std.proofs.Common.{◌≡◌, ℕ, ◌≤◌, min, Some, refl, sym, subst, ⊎_elim, arith}
use Rattle.std.specs.List.{Contains}
use Rattle.std.proofs.lemmas.Bool.{cases_lt}
use Rattle.count_chain.specs.Chains.{list_at}
use Rattle.cross_links.proofs.Search.{Walked-first, Walked-more, walked_in, walked_shorter, walked_all}
use Rattle.cross_links.proofs.Entries.{first_link}
use Rattle.cross_links.proofs.cheap.Cheap.least_col.Goals as goal

pub columns-init : goal.columns-init
columns-init c =
    let xs = list_at c.args.self.now.lone c.args.r in
    let x = c.in_ok-least.least in
    let first = c.in_ok-least.ensures.first in
    let held = first_link xs x (sym first) in
    record {
      held = held;
      walked = Walked-more xs (Some x) (λ d. x ≤ d) (Walked-first xs (Some x) (λ d. x ≤ d) first) x refl c.next-next.result (λ d. x ≤ d)
          (c.next-next.ensures.chained.once c.args.r) (c.next-next.ensures.next c.args.r held) (λ d h. h) (omega arith);
      item = c.next-next.ensures.item;
      chained = c.next-next.ensures.chained;
    }

pub columns-smaller : goal.columns-smaller
columns-smaller c =
    let inv = c.columns.invariant in
    let held = walked_in _ _ _ inv.walked c.in-Some.c c.in-Some.is in
    walked_shorter _ _ _ inv.walked c.in-Some.c c.in-Some.is c.next-next-in-Some.result (inv.chained.once c.args.r) (c.next-next-in-Some.ensures.next c.args.r held)

pub columns-preserved : goal.columns-preserved
columns-preserved c =
    let inv = c.columns.invariant in
    let xs = list_at c.args.self.now.lone c.args.r in
    let held = walked_in _ _ _ inv.walked c.in-Some.c c.in-Some.is in
    let least = c.min-least.result in
    let is : least ≡ min c.columns.least c.in-Some.c = c.min-least.ensures in
    record {
      held = ⊎_elim
          (λ lt. let e : c.columns.least ≡ least = omega arith in subst (λ (x : ℕ). Contains xs x) e inv.held)
          (λ le. let e : c.in-Some.c ≡ least = omega arith in subst (λ (x : ℕ). Contains xs x) e held)
          (cases_lt c.columns.least c.in-Some.c);
      walked = Walked-more _ _ _ inv.walked c.in-Some.c c.in-Some.is c.next-next-in-Some.result (λ d. least ≤ d) (inv.chained.once c.args.r)
          (c.next-next-in-Some.ensures.next c.args.r held) (λ d h. omega arith) (omega arith);
      item = c.next-next-in-Some.ensures.item;
      chained = inv.chained;
    }

pub returns : goal.returns
returns c = record {
  held = c.columns.invariant.held;
  least = λ d in_list. walked_all _ _ _ c.columns.invariant.walked c.in_default.is d in_list;
}
