-- Lines that are laid out and read, one after the other.
use Rattle.std.proofs.Common.{◌≡◌, ◌≢◌, ℕ, suc, ◌+◌, ◌≤◌, true, false, List, [], ◌∷◌, ◌++◌, length, Option, Some, None, Result, Ok, Err, refl, sym, ap, subst, ◌∙◌, arith, length-append}
use Rattle.std.specs.Prelude.{nat_le, if◌then◌else◌}
use Rattle.std.specs.List.{list_all}
use Rattle.std.proofs.lemmas.Bool.{and_parts, le-leb}
use Rattle.std.proofs.lemmas.List.Elements.{All-cons, All-nil}
use Rattle.deck_tools.specs.Layout.{Line, line_text, onto, owner_of, text_of_lines}
use Rattle.lp_model.specs.Deck.{Deck}
use Rattle.lp_text.specs.Cards.{is_printable}
use Rattle.lp_text.specs.Inner.LineText.{IsFreeOfFeeds}
use Rattle.lp_text.specs.Limits.{byte_limit}
use Rattle.lp_text.specs.Lines.{lines_of, size_of}
use Rattle.lp_text.specs.declared.Counted.TheVariants as limit
use Rattle.lp_text.specs.declared.Form.{Form}
use Rattle.lp_text.specs.declared.LineFault.TheVariants as fault
use Rattle.lp_text.proofs.LinesLemmas.{ended, lines_of-ended}
use Rattle.mps_model.specs.DeckOf.{finished, is_deck, read_lines}
use Rattle.mps_model.specs.DeckSoFar.{DeckSoFar}
use Rattle.mps_model.specs.Judgement.{bytes_counted, has_finished, judge_line, judge_text}
use Rattle.mps_model.proofs.ReadingLemmas.{after_line}

-- the line, as it is laid out, prints and takes the deck so far to another one
abbrev pub Takes : Form → DeckSoFar → Line → DeckSoFar → Type 0
Takes form s line s' = (text : List ℕ) → line_text form line ≡ Some text → (list_all is_printable text ≡ true) × (judge_text form s (bytes_counted form text) ≡ Ok s')

-- so do lines, of which none ends the deck
abbrev pub Runs : Form → DeckSoFar → List Line → DeckSoFar → Type 0
Runs form s [] s' = s ≡ s'
Runs form s (line ∷ lines) s' = (m : DeckSoFar) × Takes form s line m × (has_finished m.begun ≡ false) × Runs form m lines s'

pub runs-both : (form : Form) (s m s' : DeckSoFar) (xs ys : List Line) → Runs form s xs m → Runs form m ys s' → Runs form s (xs ++ ys) s'
runs-both form s m s' [] ys h k = subst (λ q. Runs form q ys s') (sym h) k
runs-both form s m s' (x ∷ xs) ys h k = (h.0, h.1, h.2, runs-both form h.0 m s' xs ys h.3 k)

-- ── reading ──

free_of_feeds : (text : List ℕ) → list_all is_printable text ≡ true → IsFreeOfFeeds text
free_of_feeds [] h = All-nil (λ c. c ≢ 10)
free_of_feeds (c ∷ text) h =
    let each = and_parts (is_printable c) (list_all is_printable text) h in
    All-cons (λ c. c ≢ 10) c text (no_feed c each.0) (free_of_feeds text each.1)
  where
    no_feed : (c : ℕ) → is_printable c ≡ true → c ≢ 10
    no_feed c h e = let none : is_printable 10 ≡ true = subst (λ k. is_printable k ≡ true) e h in absurd (cc none)

-- the lines are read from this deck so far on, to this deck
abbrev pub Reads : Form → Deck → DeckSoFar → List Line → Type 0
Reads form d s lines =
    (text : List ℕ) (n used : ℕ) → text_of_lines form lines ≡ Ok text → used + length text ≤ byte_limit → (line : ℕ) × (read_lines form n used s (lines_of text) ≡ is_deck d line)

-- the text of lines is that of the first, and that of the others
first_line : (form : Form) (line : Line) (lines : List Line) (text : List ℕ) → text_of_lines form (line ∷ lines) ≡ Ok text
    → (t rest : List ℕ) × (line_text form line ≡ Some t) × (text_of_lines form lines ≡ Ok rest) × (text ≡ t ++ 10 ∷ rest)
first_line form line lines text e = by (line_text form line) (text_of_lines form lines) refl refl e
  where
    by : (o : Option (List ℕ)) (r : Result (List ℕ) (List ℕ)) → line_text form line ≡ o → text_of_lines form lines ≡ r → onto o (owner_of line) r ≡ Ok text
        → (t rest : List ℕ) × (line_text form line ≡ Some t) × (text_of_lines form lines ≡ Ok rest) × (text ≡ t ++ 10 ∷ rest)
    by None r h k e = absurd (cc e)
    by (Some t) (Ok rest) h k e = (t, rest, h, k, cc)
    by (Some t) (Err name) h k e = absurd (cc e)

module _ (form : Form) (d : Deck) (s s' : DeckSoFar) (line : Line) (lines : List Line) (takes : Takes form s line s') where
  judged : (t rest : List ℕ) (used : ℕ) → line_text form line ≡ Some t → used + length (t ++ 10 ∷ rest) ≤ byte_limit → judge_line form used s (ended t) ≡ Ok s'
  judged t rest used is within =
      let fits : nat_le (used + size_of (ended t)) byte_limit ≡ true = le-leb (used + size_of (ended t)) byte_limit (omega (arith, within, length-append t (10 ∷ rest))) in
      ap (λ b. if b then judge_text form s (bytes_counted form t) else Err (fault.Limit limit.Bytes)) fits ∙ (takes t is).1

  first_read : (t rest : List ℕ) (n used : ℕ) → line_text form line ≡ Some t → used + length (t ++ 10 ∷ rest) ≤ byte_limit
      → read_lines form n used s (lines_of (t ++ 10 ∷ rest)) ≡ after_line form n used (ended t) (lines_of rest) (Ok s')
  first_read t rest n used is within =
      ap (read_lines form n used s) (lines_of-ended t rest (free_of_feeds t (takes t is).0)) ∙ ap (after_line form n used (ended t) (lines_of rest)) (judged t rest used is within)

  -- one line more
  pub reads-more : has_finished s'.begun ≡ false → Reads form d s' lines → Reads form d s (line ∷ lines)
  reads-more goes rest_reads text n used e within =
      let parts = first_line form line lines text e in
      let t = parts.0 in
      let rest = parts.1 in
      let here : used + length (t ++ 10 ∷ rest) ≤ byte_limit = subst (λ x. used + length x ≤ byte_limit) parts.4 within in
      let next = rest_reads rest (suc n) (used + size_of (ended t)) parts.3 (omega (arith, here, length-append t (10 ∷ rest))) in (
        next.0,
        ap (λ x. read_lines form n used s (lines_of x)) parts.4 ∙ first_read t rest n used parts.2 here
            ∙ ap (λ b. if b then finished s' (suc n) else read_lines form (suc n) (used + size_of (ended t)) s' (lines_of rest)) goes ∙ next.1,
      )

  -- the line that ends the deck
  pub reads-last : has_finished s'.begun ≡ true → ((n : ℕ) → finished s' n ≡ is_deck d n) → Reads form d s (line ∷ lines)
  reads-last end is_end text n used e within =
      let parts = first_line form line lines text e in
      let t = parts.0 in
      let rest = parts.1 in
      let here : used + length (t ++ 10 ∷ rest) ≤ byte_limit = subst (λ x. used + length x ≤ byte_limit) parts.4 within in (
        suc n,
        ap (λ x. read_lines form n used s (lines_of x)) parts.4 ∙ first_read t rest n used parts.2 here
            ∙ ap (λ b. if b then finished s' (suc n) else read_lines form (suc n) (used + size_of (ended t)) s' (lines_of rest)) end ∙ is_end (suc n),
      )

pub reads-run : (form : Form) (d : Deck) (s s' : DeckSoFar) (xs ys : List Line) → Runs form s xs s' → Reads form d s' ys → Reads form d s (xs ++ ys)
reads-run form d s s' [] ys h k = subst (λ q. Reads form d q ys) (sym h) k
reads-run form d s s' (x ∷ xs) ys h k = reads-more form d s h.0 x (xs ++ ys) h.1 h.2 (reads-run form d h.0 s' xs ys h.3 k)
