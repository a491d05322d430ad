-- Each step marks the next number.
use Rattle.std.proofs.Common.{◌≡◌, ◌+◌, ◌<◌, List, [], ◌∷◌, ◌++◌, ℕ, length, get_or, set, take, true, sym, ◌∙◌, ap, subst}
use Rattle.std.proofs.lemmas.List.{take_more}
use Rattle.cert_check.specs.Inner.Groups.{Marks}
use Rattle.cert_check.specs.Items.{is_distinct}
use Rattle.cert_check.proofs.Marked.{marks-more, once-more}
use Rattle.cert_check.proofs.bases.mark.Goals as goal

pub loop-k-preserved : goal.loop-k-preserved
loop-k-preserved c =
    let list = c.args.list.now in
    let k = c.loop-k.k in
    let j = get_or list k 0 in
    let count = length c.args.marks.now in
    let below : j < count = c.requires.within k 0 c.loop-k-test.true in
    let next : take (k + 1) list ≡ take k list ++ j ∷ [] = take_more list k 0 c.loop-k-test.true in
    record {
      once = c.and_not-once.ensures ∙ once-more count (take k list) c.loop-k.marks j c.loop-k.once below c.loop-k.invariant.marks c.loop-k.invariant.once ∙ ap is_distinct (sym next);
      marks = subst (λ (xs : List ℕ). Marks count xs (set c.loop-k.marks j true)) (sym next) (marks-more count (take k list) c.loop-k.marks j below c.loop-k.invariant.marks);
    }
