-- A look-up by a name, in the map and in the list of rows or of columns that it stands for.
use Rattle.std.proofs.Common.{◌≡◌, ℕ, zero, suc, ◌+◌, ◌<◌, Bool, true, false, not, ◌&&◌, cond, List, [], ◌∷◌, ◌++◌, length, map, position, get_or, Some, None, nat_eq, nat_lt, refl, sym, ap, ap₂, ◌∙◌, arith, lt-ltb, is_some}
use Rattle.std.specs.List.{All, IsDistinct, position_or_len}
use Rattle.std.specs.Map.{keys_of}
use Rattle.std.specs.Cmp.Lexicographic.{pointwise}
use Rattle.std.proofs.lemmas.Cmp.{nat_list_eq_equiv}
use Rattle.std.proofs.lemmas.Bool.Decides.{nat_tests}
use Rattle.std.proofs.lemmas.List.Elements.{All-cons, All-get_or, All-nil}
use Rattle.std.proofs.lemmas.List.Sums.{position_or_len_is}
use Rattle.std.proofs.lemmas.Map.Keys.{apart_from_distinct}
use Rattle.deck_model.proofs.Lists.{none_from_is_some}
use Rattle.indexmap.proofs.CallerLemmas.{insert_entry-new}
use Rattle.indexmap.proofs.MapLemmas.{some_index}
use Rattle.indexmap.specs.IndexMap.{IndexMap, keys, insert_entry}
use Rattle.lp_model.specs.Edit.{same_bytes}

pub same_bytes-pointwise : (xs ys : List ℕ) → same_bytes xs ys ≡ pointwise nat_eq xs ys
same_bytes-pointwise [] [] = refl
same_bytes-pointwise [] (y ∷ ys) = refl
same_bytes-pointwise (x ∷ xs) [] = refl
same_bytes-pointwise (x ∷ xs) (y ∷ ys) = ap (λ b. nat_eq x y && b) (same_bytes-pointwise xs ys)

pub same_bytes-flip : (xs ys : List ℕ) → same_bytes xs ys ≡ pointwise nat_eq ys xs
same_bytes-flip xs ys = same_bytes-pointwise xs ys ∙ nat_list_eq_equiv.symm xs ys

nat_lt-irrefl : (n : ℕ) → nat_lt n n ≡ false
nat_lt-irrefl n = grind (arith, nat_tests)

-- each key is found where it stands, where no two are equal
position_own : (ks : List (List ℕ)) (i : ℕ) → IsDistinct (pointwise nat_eq) ks → i < length ks → position (pointwise nat_eq (get_or ks i [])) ks ≡ Some i
position_own ks i distinct within =
    let key = get_or ks i [] in
    let first : position_or_len (pointwise nat_eq key) ks ≡ i = position_or_len_is (pointwise nat_eq key) ks i [] (omega arith)
    (λ k below. nat_list_eq_equiv.symm key (get_or ks k []) ∙ apart_from_distinct (pointwise nat_eq) ks k i [] distinct below within)
    (λ _. nat_list_eq_equiv.refl key) in
    ap (λ n. cond (nat_lt n (length ks)) (Some n) None) first ∙ ap (λ b. cond b (Some i) None) (lt-ltb i (length ks) within)

-- a key that no other equals is not found
pub position-none : (key : List ℕ) (ks : List (List ℕ)) → All (λ k. pointwise nat_eq key k ≡ false) ks → position (pointwise nat_eq key) ks ≡ None
position-none key ks apart =
    let past : position_or_len (pointwise nat_eq key) ks ≡ length ks = position_or_len_is (pointwise nat_eq key) ks (length ks) [] (omega arith)
    (λ k below. All-get_or (λ name. pointwise nat_eq key name ≡ false) ks k [] below apart) (λ within. absurd (omega arith)) in
    ap (λ n. cond (nat_lt n (length ks)) (Some n) None) past ∙ ap (λ b. cond b (Some (length ks)) None) (nat_lt-irrefl (length ks))

pub nat_lt-first : (n : ℕ) → nat_lt 0 (suc n) ≡ true
nat_lt-first n = grind (arith, nat_tests)

pub nat_lt-next : (i n : ℕ) → nat_lt (1 + i) (suc n) ≡ nat_lt i n
nat_lt-next i n = grind (arith, nat_tests)

first_or_later : (b : Bool) (i n : ℕ) → cond (nat_lt (cond (not b) (1 + i) 0) (suc n)) (Some (cond (not b) (1 + i) 0)) None ≡ None → (b ≡ false) × (cond (nat_lt i n) (Some i) None ≡ None)
first_or_later true i n none =
    let found : Some 0 ≡ None = sym (ap (λ c. cond c (Some 0) None) (nat_lt-first n)) ∙ none in
    absurd (cc found)
first_or_later false i n none = (refl, by_test (nat_lt i n) (sym (ap (λ c. cond c (Some (1 + i)) None) (nat_lt-next i n)) ∙ none))
  where
    by_test : (c : Bool) → cond c (Some (1 + i)) None ≡ None → cond c (Some i) None ≡ None
    by_test true none = absurd (cc none)
    by_test false none = refl

-- a key that is not found equals none
pub unfound : (key : List ℕ) (ks : List (List ℕ)) → position (pointwise nat_eq key) ks ≡ None → All (λ k. pointwise nat_eq key k ≡ false) ks
unfound key [] none = All-nil (λ k. pointwise nat_eq key k ≡ false)
unfound key (k ∷ ks) none =
    let parts = first_or_later (pointwise nat_eq key k) (position_or_len (pointwise nat_eq key) ks) (length ks) none in
    All-cons (λ x. pointwise nat_eq key x ≡ false) k ks parts.0 (unfound key ks parts.1)

module _ {X Y : Type 0} (f : List ℕ × X → Y) (name_of : Y → List ℕ) (named : (e : List ℕ × X) → name_of (f e) ≡ e.0) where
  module _ (name : List ℕ) where
    test : (e : List ℕ × X) → same_bytes (name_of (f e)) name ≡ pointwise nat_eq name e.0
    test e = ap (λ n. same_bytes n name) (named e) ∙ same_bytes-flip e.0 name

    position_or_len-keys : (es : List (List ℕ × X)) → position_or_len (λ y. same_bytes (name_of y) name) (map f es) ≡ position_or_len (pointwise nat_eq name) (keys_of es)
    position_or_len-keys [] = refl
    position_or_len-keys (e ∷ es) = ap₂ (λ b n. cond (not b) (1 + n) 0) (test e) (position_or_len-keys es)

    length-keys : (es : List (List ℕ × X)) → length (map f es) ≡ length (keys_of es)
    length-keys [] = refl
    length-keys (e ∷ es) = ap suc (length-keys es)

    pub position-keys : (es : List (List ℕ × X)) → position (λ y. same_bytes (name_of y) name) (map f es) ≡ position (pointwise nat_eq name) (keys_of es)
    position-keys es = ap₂ (λ i n. cond (nat_lt i n) (Some i) None) (position_or_len-keys es) (length-keys es)

  module _ (d : Y) (nameless : name_of d ≡ []) where
    name-get_or : (es : List (List ℕ × X)) (i : ℕ) → name_of (get_or (map f es) i d) ≡ get_or (keys_of es) i []
    name-get_or [] i = nameless
    name-get_or (e ∷ es) zero = named e
    name-get_or (e ∷ es) (suc i) = name-get_or es i

    -- each is found by its name
    pub position-name : (es : List (List ℕ × X)) (i : ℕ) → IsDistinct (pointwise nat_eq) (keys_of es) → i < length (map f es) → position (λ y. same_bytes (name_of y) (name_of (get_or (map f es) i d))) (map f es) ≡ Some i
    position-name es i distinct within =
        ap (λ n. position (λ y. same_bytes (name_of y) n) (map f es)) (name-get_or es i)
        ∙ position-keys (get_or (keys_of es) i []) es
        ∙ position_own (keys_of es) i distinct (omega (arith, length-keys [] es))

-- where no key equals the new one, its entry goes last
pub entries-new : {X S : Type 0} (m : IndexMap (List ℕ) X S) (name : List ℕ) (v : X) → is_some (position (pointwise nat_eq name) (keys m)) ≡ false → insert_entry (pointwise nat_eq) m.entries name v ≡ m.entries ++ (name, v) ∷ []
entries-new m name v absent = insert_entry-new (pointwise nat_eq) m name v (none_from_is_some _ (sym (some_index (pointwise nat_eq name) m.entries) ∙ absent))
