use Rattle.std.proofs.Common.{Some, inl, inr, refl, sym, subst}
use Rattle.std.specs.Option.{option_map}
use Rattle.bland_ratio.specs.Inner.Limits.{IsEarlier, limit_of}
use Rattle.bland_ratio.proofs.limits.first_of.Goals as goal

pub returns-then-precedes : goal.returns-then-precedes
returns-then-precedes c = λ q. subst (λ o. IsEarlier (Some (limit_of q c.args.a)) (option_map (limit_of q) o) (Some (limit_of q c.args.a))) (sym c.in-Some.is) (inl (refl, c.if-precedes.ensures q))

pub returns-else-precedes : goal.returns-else-precedes
returns-else-precedes c = λ q. subst (λ o. IsEarlier (Some (limit_of q c.args.a)) (option_map (limit_of q) o) (Some (limit_of q c.in-Some.b))) (sym c.in-Some.is) (inr (refl, c.if-precedes.ensures q))
