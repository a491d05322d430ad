-- Lines that are handed to a sink one after another.
use Rattle.std.proofs.Common.{◌≡◌, ℕ, ◌+◌, ◌<◌, ◌≤◌, List, [], ◌∷◌, ◌++◌, length, get_or, take, drop, Option, None, Some, Result, Ok, Err, sym, subst, ap, ◌∙◌, refl, arith}
use Rattle.std.specs.Result.{IsErrAnd}
use Rattle.std.proofs.lemmas.List.{append-nil, take-append-drop, take_all, take_more}
use Rattle.std.proofs.lemmas.List.Concat.{flat_map-append}
use Rattle.std.proofs.lemmas.Result.{err_from_is_err_and, on_ok_weaker}
use Rattle.io_ends.proofs.BytesLemmas.{Appends-append, AppendsPrefix-after, AppendsPrefix-longer, AppendsPrefix-none}
use Rattle.io_ends.specs.Bytes.{Appends}
use Rattle.io_ends.specs.Count.{Rose}
use Rattle.lp_text.specs.Lines.{text_of}
use Rattle.cert_text.specs.declared.fault.ReportWriteFault.{ReportWriteFault}
use Rattle.cert_text.specs.Writes.{Writes}

text_of-append : (xs ys : List (List ℕ)) → text_of (xs ++ ys) ≡ text_of xs ++ text_of ys
text_of-append xs ys = flat_map-append (λ line. line ++ 10 ∷ []) xs ys

Appends-none : (held : Option (List ℕ)) → Appends held held []
Appends-none None = refl
Appends-none (Some bytes) = ap Some (sym (append-nil bytes))

module _ {S : Type 0} {contents : S → Option (List ℕ)} {fault_count : S → ℕ} where
  -- no line yet
  pub Writes-none : (s : S) → Writes contents fault_count s s [] (Ok tt)
  Writes-none s = record {
    whole = Appends-none (contents s);
    begun = AppendsPrefix-none (contents s) [];
    rose = λ e. absurd (cc);
    stays = λ _. refl;
    never_falls = omega arith;
  }

  -- lines, and then others
  pub Writes-then : {old mid new : S} {xs ys : List (List ℕ)} {r : Result (Unit {0}) ReportWriteFault}
      → Writes contents fault_count old mid xs (Ok tt) → Writes contents fault_count mid new ys r → Writes contents fault_count old new (xs ++ ys) r
  Writes-then {old} {mid} {new} {xs} {ys} {r} first second =
      let same : fault_count mid ≡ fault_count old = first.stays (λ e. cc) in
      record {
        whole = on_ok_weaker r (λ all. rw text_of-append (Appends-append (contents old) (contents mid) (contents new) (text_of xs) (text_of ys) first.whole all)) second.whole;
        begun = rw text_of-append (AppendsPrefix-after (contents old) (contents mid) (contents new) (text_of xs) (text_of ys) first.whole second.begun);
        rose = λ e. subst (λ n. Rose n (fault_count new)) same (second.rose e);
        stays = λ e. second.stays e ∙ same;
        never_falls = omega (arith, first.never_falls, second.never_falls);
      }

  -- lines, and then others, where neither call was refused
  pub Writes-also : {old mid new : S} {xs ys : List (List ℕ)}
      → Writes contents fault_count old mid xs (Ok tt) → Writes contents fault_count mid new ys (Ok tt) → Writes contents fault_count old new (xs ++ ys) (Ok tt)
  Writes-also first second = Writes-then {r = Ok tt} first second

  -- what a refused call wrote begins each longer list of lines
  pub Writes-longer : {old new : S} {xs : List (List ℕ)} {e : ReportWriteFault} (zs : List (List ℕ))
      → Writes contents fault_count old new xs (Err e) → Writes contents fault_count old new (xs ++ zs) (Err e)
  Writes-longer {old} {new} {xs} zs part = record {
    whole = tt;
    begun = rw text_of-append (AppendsPrefix-longer (contents old) (contents new) (text_of xs) (text_of zs) part.begun);
    rose = part.rose;
    stays = part.stays;
    never_falls = part.never_falls;
  }

  pub Writes-refused : {old new : S} {xs : List (List ℕ)} {e : ReportWriteFault} {r : Result (Unit {0}) ReportWriteFault} (zs : List (List ℕ))
      → Writes contents fault_count old new xs (Err e) → IsErrAnd r (λ y. y ≡ e) → Writes contents fault_count old new (xs ++ zs) r
  Writes-refused {old} {new} {xs} {e} {r} zs part same =
      let at = err_from_is_err_and r same in
      subst (λ s. Writes contents fault_count old new (xs ++ zs) s) (sym (at.1 ∙ ap Err at.2)) (Writes-longer zs part)

  -- the first k of some lines, and then the next one
  pub Writes-next : {old mid new : S} {line : List ℕ} {r : Result (Unit {0}) ReportWriteFault} (lines : List (List ℕ)) (k : ℕ) → k < length lines
      → Writes contents fault_count old mid (take k lines) (Ok tt) → Writes contents fault_count mid new (line ∷ []) r → get_or lines k [] ≡ line
      → Writes contents fault_count old new (take (k + 1) lines) r
  Writes-next {old} {mid} {new} {line} {r} lines k within first next here =
      let more : take (k + 1) lines ≡ take k lines ++ line ∷ [] = take_more lines k [] within ∙ ap (λ l. take k lines ++ l ∷ []) here in
      subst (λ xs. Writes contents fault_count old new xs r) (sym more) (Writes-then first next)

  -- the first k of some lines, and then a refusal at the next one
  pub Writes-stopped : {old mid new : S} {line : List ℕ} {e : ReportWriteFault} {r : Result (Unit {0}) ReportWriteFault} (lines : List (List ℕ)) (k : ℕ) → k < length lines
      → Writes contents fault_count old mid (take k lines) (Ok tt) → Writes contents fault_count mid new (line ∷ []) (Err e) → get_or lines k [] ≡ line → IsErrAnd r (λ y. y ≡ e)
      → Writes contents fault_count old new lines r
  Writes-stopped {old} {mid} {new} {line} {e} {r} lines k within first next here same =
      subst (λ xs. Writes contents fault_count old new xs r) (take-append-drop (k + 1) lines)
      (Writes-refused (drop (k + 1) lines) (Writes-next lines k within first next here) same)

  -- all of some lines
  pub Writes-all : {old new : S} (lines : List (List ℕ)) (k : ℕ) → length lines ≤ k → Writes contents fault_count old new (take k lines) (Ok tt) → Writes contents fault_count old new lines (Ok tt)
  Writes-all {old} {new} lines k past all = subst (λ xs. Writes contents fault_count old new xs (Ok tt)) (take_all k lines past) all
