-- Where a reader stands after a fault.
use Rattle.std.proofs.Common.{◌≡◌, ℕ, List, [], ◌∷◌, Option, Some, None, IfSome, Result, Ok, Err, find, sym, ap, subst}
use Rattle.std.specs.Result.{IfErr, IsErrOf, MatchResult}
use Rattle.lp_model.specs.Deck.{Column, Deck}
use Rattle.mps_cards.specs.ReaderState.{ReaderState}
use Rattle.lp_text.specs.declared.LineFault.{LineFault}
use Rattle.lp_text.specs.declared.LineFault.TheVariants.{Bound, Columns, Integer, Limit, NotAscii, Number, Repeated, RowType, Scattered, Section, Sense, Token, UnknownColumn, UnknownRow}
use Rattle.lp_text.specs.declared.Counted.TheVariants as counted
use Rattle.mps_model.specs.DeckSoFar.{DeckSoFar}
use Rattle.mps_model.specs.DeckOf.{TextFault, crossed_bounds, finished, has_fault, in_line, is_crossed, is_deck, no_objective}
use Rattle.mps_reader.specs.declared.faults.DeckFault.{DeckFault}
use Rattle.mps_reader.specs.declared.faults.DeckFault.TheVariants as fault
use Rattle.mps_reader.specs.Answers.{HasAnswered, StandsAfter, StandsAt}
use Rattle.mps_reader.specs.Inner.Reached.{IsFoundAt}
use Rattle.mps_reader.specs.Faults.{text_fault}
use Rattle.mps_reader.proofs.CardFaults.{IsOfCard, JudgesCard}

-- ── the fault of a card ──

behind : (n : ℕ) (found : LineFault) (reader : ReaderState) → IsOfCard found → HasAnswered n reader → StandsAt (in_line n found) reader
behind n (Limit counted.Rows) reader of_card h = h
behind n (Limit counted.Columns) reader of_card h = h
behind n (Limit counted.Entries) reader of_card h = h
behind n (Limit counted.Bytes) reader of_card h = absurd of_card
behind n NotAscii reader of_card h = h
behind n (Columns column) reader of_card h = h
behind n Token reader of_card h = h
behind n Sense reader of_card h = h
behind n Section reader of_card h = h
behind n RowType reader of_card h = h
behind n UnknownRow reader of_card h = h
behind n UnknownColumn reader of_card h = h
behind n Repeated reader of_card h = h
behind n Scattered reader of_card h = h
behind n Number reader of_card h = h
behind n Bound reader of_card h = h
behind n Integer reader of_card h = h

some_weaker : {X : Type 0} (o : Option X) (P Q : X → Type 0) → ((x : X) → P x → Q x) → IfSome o P → IfSome o Q
some_weaker None P Q f h = h
some_weaker (Some x) P Q f h = f x h

not_read : (T : Type 0) (given : DeckFault) → ¬ IsErrOf {T = T} (Err given) fault.Read → given ≡ fault.Read → ⊥
not_read T given other is = other (ap Err is)

-- a reader that has answered the line whose card has the fault stands behind it
pub after_card : (T : Type 0) (n : ℕ) (judged : Result DeckSoFar LineFault) (given : DeckFault) (reader : ReaderState) → JudgesCard judged → IsFoundAt n judged given
    → ¬ IsErrOf {T = T} (Err given) fault.Read → HasAnswered n reader → StandsAfter given reader
after_card T n judged given reader of_card found other h = record {
  failed = λ is. absurd (not_read T given other is);
  found = some_weaker (text_fault given) _ _ (λ first at. subst (λ f. StandsAt f reader) (sym at.1) (behind n at.0 reader (subst JudgesCard at.2 of_card) h)) found;
}

-- ── the end of the deck ──

at_end : (s : DeckSoFar) (line : ℕ) (first : TextFault) (reader : ReaderState) → finished s line ≡ has_fault first → reader.fault ≡ None → StandsAt first reader
at_end s line first reader e sound = by_rows s.free_rows e
  where
    is_first : (f : TextFault) → has_fault f ≡ has_fault first → f ≡ first
    is_first f e = cc

    by_column : (crossed : Option Column) → elim crossed [ None ↦ is_deck s.deck line | Some c ↦ has_fault (crossed_bounds c.name) ] ≡ has_fault first → StandsAt first reader
    by_column None e = absurd (cc e)
    by_column (Some c) e = subst (λ f. StandsAt f reader) (is_first (crossed_bounds c.name) e) sound

    by_rows : (names : List (List ℕ)) → elim names [
      | [] ↦ has_fault no_objective
      | name ∷ others ↦ elim
          (find (λ c. is_crossed c.bounds) s.deck.columns) [ None ↦ is_deck s.deck line | Some c ↦ has_fault (crossed_bounds c.name) ]
    ] ≡ has_fault first
        → StandsAt first reader
    by_rows [] e = subst (λ f. StandsAt f reader) (is_first no_objective e) sound
    by_rows (name ∷ others) e = by_column (find (λ c. is_crossed c.bounds) s.deck.columns) e

-- a reader stands behind the deck's last line where the deck's end has the fault
pub after_end : (s : DeckSoFar) (line : ℕ) (reader : ReaderState) (result : Result Deck DeckFault) → reader.fault ≡ None
    → MatchResult result (λ d. finished s line ≡ is_deck d line) (λ f. IfSome (text_fault f) (λ first. finished s line ≡ has_fault first))
    → ¬ IsErrOf result fault.Read → IfErr result (λ f. StandsAfter f reader)
after_end s line reader (Ok d) sound is other = tt
after_end s line reader (Err f) sound is other = record {
  failed = λ e. absurd (not_read Deck f other e);
  found = some_weaker (text_fault f) _ _ (λ first e. at_end s line first reader e sound) is;
}
