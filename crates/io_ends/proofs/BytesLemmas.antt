-- Reads and writes that follow one another, for the layers above as well.
use Rattle.std.proofs.Common.{◌≡◌, ℕ, ◌+◌, List, [], ◌++◌, Option, None, Some, length, take, drop, refl, ap, sym, ◌∙◌, append_assoc, arith, length-append}
use Rattle.std.proofs.lemmas.List.{append-nil, take-append-le, take_rest}
use Rattle.std.proofs.Math.Seq.{take-add, take-append-add, take-length}
use Rattle.std.specs.Io.KnownBytes.{append_known, prepend_known}
use Rattle.io_ends.specs.Bytes.{Gives, Appends, AppendsPrefix}

pub prepend_known-append : (xs ys : List ℕ) (new : Option (List ℕ)) → prepend_known xs (prepend_known ys new) ≡ prepend_known (xs ++ ys) new
prepend_known-append xs ys None = refl
prepend_known-append xs ys (Some left) = ap Some (sym (append_assoc xs ys left))

-- two reads in a row give the bytes of both
pub Gives-append : (old mid new : Option (List ℕ)) (xs ys : List ℕ)
    → Gives old mid xs → Gives mid new ys → Gives old new (xs ++ ys)
Gives-append old mid new xs ys first second =
    first ∙ ap (λ left. prepend_known xs left) second ∙ prepend_known-append xs ys new

-- what several reads gave
pub ruleset reads = (prepend_known-append, Gives-append)

pub append_known-append : (old : Option (List ℕ)) (xs ys : List ℕ) → append_known (append_known old xs) ys ≡ append_known old (xs ++ ys)
append_known-append None xs ys = refl
append_known-append (Some held) xs ys = ap Some (append_assoc held xs ys)

append_known-nil : (old : Option (List ℕ)) → append_known old [] ≡ old
append_known-nil None = refl
append_known-nil (Some held) = ap Some (append-nil held)

-- two writes in a row append the bytes of both
pub Appends-append : (old mid new : Option (List ℕ)) (xs ys : List ℕ)
    → Appends old mid xs → Appends mid new ys → Appends old new (xs ++ ys)
Appends-append old mid new xs ys first second =
    second ∙ ap (λ held. append_known held ys) first ∙ append_known-append old xs ys

-- the first n bytes of a text, and then the first k of the others
pub append_known-take : (old : Option (List ℕ)) (text : List ℕ) (n k : ℕ)
    → append_known (append_known old (take n text)) (take k (drop n text)) ≡ append_known old (take (n + k) text)
append_known-take old text n k =
    rw (take-add n k text) (append_known-append old (take n text) (take k (drop n text)))

-- a text whose rest is handed on again
pub ruleset handed_on = (append_known-take, take_rest)

-- a whole text, and then a beginning of the next one
pub AppendsPrefix-after : (old mid new : Option (List ℕ)) (xs ys : List ℕ)
    → Appends old mid xs → AppendsPrefix mid new ys → AppendsPrefix old new (xs ++ ys)
AppendsPrefix-after old mid new xs ys first second = record {
  count = length xs + second.count;
  within = omega (arith, length-append xs ys, second.within);
  appended = rw (take-append-add xs ys second.count)
      (Appends-append old mid new xs (take second.count ys) first second.appended);
}

-- a beginning of a text begins each longer text
pub AppendsPrefix-longer : (old new : Option (List ℕ)) (xs ys : List ℕ)
    → AppendsPrefix old new xs → AppendsPrefix old new (xs ++ ys)
AppendsPrefix-longer old new xs ys part = record {
  count = part.count;
  within = omega (arith, length-append xs ys, part.within);
  appended = rw (take-append-le part.count xs ys part.within) part.appended;
}

pub AppendsPrefix-whole : (old new : Option (List ℕ)) (text : List ℕ) → Appends old new text → AppendsPrefix old new text
AppendsPrefix-whole old new text all = record {
  count = length text;
  within = omega arith;
  appended = rw (take-length text) all;
}

pub AppendsPrefix-none : (old : Option (List ℕ)) (text : List ℕ) → AppendsPrefix old old text
AppendsPrefix-none old text = record { count = 0; within = omega arith; appended = sym (append_known-nil old) }

-- what several writes of one text leave
pub ruleset writes = (append_known-append, AppendsPrefix-after, AppendsPrefix-longer, AppendsPrefix-whole, AppendsPrefix-none)
