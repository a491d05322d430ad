use Rattle.std.proofs.Common.{IfSome, sym, ap, ◌∙◌, subst}
use Rattle.mps_model.specs.BoundCards.{judge_bound}
use Rattle.mps_model.specs.PairCards.{judge_pairs, with_set}
use Rattle.mps_reader.specs.Inner.Uses.{use_is}
use Rattle.mps_reader.specs.Inner.Standing.{MayUse, set_judge}
use Rattle.mps_reader.proofs.DataCards.{judged_as, may_in_set, of_other_set, of_set, of_unused, of_used}
use Rattle.mps_reader.proofs.draft.Draft.take_in_set.Goals as goal

pub returns-then-not-branch : goal.returns-then-not-branch
returns-then-not-branch c = λ s h.
    let name = c.get.result.now in
    let told = c.in_ok-is_of_set.ensures.used s h in (
      s,
      of_other_set (set_judge c.args.pairs) s c.args.fields.now name c.get.ensures c.in_ok-is_of_set.field-0 told.0 c.if-not-branch.true,
      of_unused c.is_of_set.new.self s name c.in_ok-is_of_set.field-0 c.if-not-branch.true told.1,
    )

pub take_pairs-requires-clause-stands : goal.take_pairs-requires-clause-stands
take_pairs-requires-clause-stands c =
    let s = c.requires.stands.0 in
    let name = c.get.result.now in
    (with_set s name, of_used c.is_of_set.new.self s name c.in_ok-is_of_set.field-0 c.if-not-branch.false (c.in_ok-is_of_set.ensures.used s c.requires.stands.1).1)

pub take_pairs-requires-clause-may : goal.take_pairs-requires-clause-may
take_pairs-requires-clause-may c =
    subst (MayUse c.in-Some.how) (sym c.is_of_set.ensures.kept)
    (may_in_set c.in-Some.how c.args.self.now c.is_of_set.new.self.set (subst (λ o. IfSome o (λ how. MayUse how c.args.self.now)) c.in-Some.is c.requires.may))

pub take_bound-requires : goal.take_bound-requires
take_bound-requires c =
    let s = c.requires.stands.0 in
    let name = c.get.result.now in
    (with_set s name, of_used c.is_of_set.new.self s name c.in_ok-is_of_set.field-0 c.if-not-branch.false (c.in_ok-is_of_set.ensures.used s c.requires.stands.1).1)

pub returns-in-Some : goal.returns-in-Some
returns-in-Some c = λ s h.
    let name = c.get.result.now in
    let fields = c.args.fields.now in
    let told = c.in_ok-is_of_set.ensures.used s h in
    let mid = of_used c.is_of_set.new.self s name c.in_ok-is_of_set.field-0 c.if-not-branch.false told.1 in
    judged_as _ (judge_pairs (use_is c.in-Some.how) (with_set s name) fields) c.take_pairs.new.self c.take_pairs.result
    (of_set (set_judge c.args.pairs) s fields name c.get.ensures c.in_ok-is_of_set.field-0 told.0 c.if-not-branch.false ∙ ap (λ k. set_judge k (with_set s name) fields) c.in-Some.is)
    (c.take_pairs.ensures (with_set s name) mid)

pub returns-in-None : goal.returns-in-None
returns-in-None c = λ s h.
    let name = c.get.result.now in
    let fields = c.args.fields.now in
    let told = c.in_ok-is_of_set.ensures.used s h in
    let mid = of_used c.is_of_set.new.self s name c.in_ok-is_of_set.field-0 c.if-not-branch.false told.1 in
    judged_as _ (judge_bound (with_set s name) fields) c.take_bound.new.self c.take_bound.result
    (of_set (set_judge c.args.pairs) s fields name c.get.ensures c.in_ok-is_of_set.field-0 told.0 c.if-not-branch.false ∙ ap (λ k. set_judge k (with_set s name) fields) c.in-None.is)
    (c.take_bound.ensures (with_set s name) mid)
