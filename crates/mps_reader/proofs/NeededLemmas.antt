-- A source is read as needed from line to line.
use Rattle.std.proofs.Common.{◌≡◌, ◌≢◌, ℕ, ◌⊎◌, inl, inr, List, [], ◌∷◌, ◌++◌, Option, Some, None, IfSome, refl, sym, ap, ◌∙◌, subst, append_assoc, arith}
use Rattle.std.specs.Io.KnownBytes.{prepend_known}
use Rattle.std.proofs.lemmas.List.{length-append}
use Rattle.io_ends.specs.Bytes.{Gives}
use Rattle.lp_text.specs.Limits.{byte_limit}
use Rattle.lp_text.specs.declared.Form.{Form}
use Rattle.mps_cards.specs.ReaderState.{ReaderState}
use Rattle.mps_cards.specs.NextLine.{IsNeeded, TakesAsNeeded}
use Rattle.mps_model.specs.DeckSoFar.{DeckSoFar}
use Rattle.mps_model.specs.DeckOf.{IsOpen}
use Rattle.mps_reader.specs.declared.draft.Draft.{Draft}
use Rattle.mps_reader.specs.Answers.{IsReadAsNeeded, IsReadNeeded, ReadsAsNeeded}
use Rattle.mps_reader.specs.Inner.Reached.{Reached, ReachedIn}
use Rattle.mps_reader.proofs.ReachedLemmas.{given_split, open_through}

-- a source that was not read
pub unread : (form : Form) (kept : List ℕ) (left : Option (List ℕ)) → IsReadAsNeeded form kept left left
unread form kept None = tt
unread form kept (Some text) = record {
  earlier = [];
  last = [];
  given = refl;
  few = omega arith;
  needed = λ some. absurd (some refl);
}

nil_or_some : (bytes : List ℕ) → (bytes ≡ []) ⊎ (bytes ≢ [])
nil_or_some [] = inl refl
nil_or_some (c ∷ bytes) = inr (λ e. cc)

module _ (form : Form) (start text kept : List ℕ) (left left' : Option (List ℕ)) (n used : ℕ) (s : DeckSoFar) (h : ReachedIn form start text left kept n used s) (t : TakesAsNeeded kept used byte_limit left left') where
  -- where the line's reads took bytes, the last of them was needed after all that was read before it
  needed_before : (rest' : List ℕ) → h.rest ≡ (t.earlier ++ t.last) ++ rest' → IsNeeded (kept ++ t.earlier) used byte_limit → IsReadNeeded form (start ++ (h.taken ++ t.earlier))
  needed_before rest' split needed = record {
    lines = subst (IsOpen form) (append_assoc start h.taken t.earlier)
        (open_through form (start ++ h.taken) t.earlier h.rest (t.last ++ rest') kept n used s h.through (split ∙ append_assoc t.earlier t.last rest') needed.no_line);
    within = omega (arith, needed.within, h.size, length-append kept t.earlier, length-append start h.taken, length-append h.taken t.earlier, length-append start (h.taken ++ t.earlier));
  }

  needed_here : ReadsAsNeeded form start text left → ReadsAsNeeded form start text left'
  needed_here before = elim (nil_or_some (t.earlier ++ t.last)) [
    | inl none ↦ subst (λ l. ReadsAsNeeded form start text l) (same_left left' (subst (Gives left left') none t.given)) before
    | inr some ↦
        let p = given_split h.rest left' (t.earlier ++ t.last) (sym h.known ∙ t.given) in
        record {
          earlier = h.taken ++ t.earlier;
          last = t.last;
          given = ap (λ t. Some t) (h.split ∙ ap (λ r. h.taken ++ r) p.split ∙ sym (append_assoc h.taken (t.earlier ++ t.last) p.rest')
              ∙ ap (λ b. b ++ p.rest') (sym (append_assoc h.taken t.earlier t.last)))
              ∙ ap (prepend_known ((h.taken ++ t.earlier) ++ t.last)) (sym p.known);
          few = t.few;
          needed = λ _. needed_before p.rest' p.split (t.needed some);
        }
  ]
    where
      same_left : (l : Option (List ℕ)) → Gives left l [] → left ≡ l
      same_left None g = g
      same_left (Some rest) g = g

-- the reads of the next line were needed, and so were all
pub needed_next : (form : Form) (start : List ℕ) (text left left' : Option (List ℕ)) (reader : ReaderState) (draft : Draft) → Reached form start text left reader draft
    → TakesAsNeeded reader.kept reader.since byte_limit left left' → IsReadAsNeeded form start text left → IsReadAsNeeded form start text left'
needed_next form start text left left' reader draft h t before = by_text text h.run before
  where
    by_text : (text : Option (List ℕ)) → IfSome text (λ t. ReachedIn form start t left reader.kept reader.count reader.since h.so_far) → IsReadAsNeeded form start text left → IsReadAsNeeded form start text left'
    by_text None r before = tt
    by_text (Some bytes) r before = needed_here form start bytes reader.kept left left' reader.count reader.since h.so_far r t before
