-- The reading of a deck goes on by a line, and ends.
use Rattle.std.proofs.Common.{◌≡◌, ℕ, zero, suc, ◌+◌, ◌-◌, ◌<◌, ◌≤◌, ◌⊎◌, inl, inr, Bool, true, false, List, [], ◌∷◌, ◌++◌, drop, filter, length, Option, Some, None, IfSome, Result, Ok, Err, MatchResult, cond, refl, sym, ap, ap₂, ◌∙◌, subst, append_assoc, append-nil, arith}
use Rattle.std.specs.Option.{option_map, unwrap_or}
use Rattle.std.specs.Result.{IfErr, IfOk, IsErrOf, OnOk}
use Rattle.std.specs.Io.KnownBytes.{prepend_known}
use Rattle.std.proofs.lemmas.Bool.{le-leb, lt-leb}
use Rattle.std.proofs.lemmas.List.{length-append}
use Rattle.io_ends.specs.Bytes.{Gives}
use Rattle.io_ends.specs.Count.{one_more}
use Rattle.lp_model.specs.Deck.{Deck}
use Rattle.lp_text.specs.Lines.{Line, lines_of, size_of, whole_lines}
use Rattle.lp_text.specs.Limits.{byte_limit}
use Rattle.lp_text.proofs.LinesLemmas.{size_of-first, whole_lines-longer}
use Rattle.mps_cards.specs.ReaderState.{ReaderState}
use Rattle.mps_cards.specs.declared.lines.Line as mps
use Rattle.mps_cards.specs.NextLine.{AnswersLine, FailsToRead, IsAtEnd, TakesLine as TakesText, answered, first_size, lines_left}
use Rattle.lp_text.specs.declared.Form.{Form}
use Rattle.lp_text.specs.declared.LineFault.{LineFault}
use Rattle.lp_text.specs.declared.LineFault.TheVariants.{Limit}
use Rattle.lp_text.specs.declared.Counted.TheVariants.{Bytes}
use Rattle.mps_model.specs.DeckSoFar.{DeckSoFar, no_cards}
use Rattle.mps_model.specs.DeckOf.{HasFault, IsDeckOf, IsOpen, finished, has_fault, in_line, is_deck, no_end, read_lines, reading_of}
use Rattle.mps_model.specs.Judgement.{bytes_counted, has_finished, judge_line, judge_text}
use Rattle.mps_model.proofs.ReadingLemmas.{after_line}
use Rattle.mps_reader.specs.declared.draft.Draft.{Draft}
use Rattle.mps_reader.specs.declared.faults.DeckFault.{DeckFault}
use Rattle.mps_reader.specs.declared.faults.DeckFault.TheVariants as fault
use Rattle.mps_reader.specs.Answers.{HasAnswered, IsFaultOf, IsFresh, IsReadFault, IsReadNeeded, StandsAfter}
use Rattle.mps_reader.specs.Inner.Reached.{HasBytesOf, IsFoundAt, IsLineCause, IsTaken, IsThrough, Reached, ReachedIn, kept_size}
use Rattle.mps_reader.specs.Faults.{text_fault}
use Rattle.mps_reader.specs.Inner.Standing.{IsDraftOf}
use Rattle.mps_reader.proofs.AfterFaults.{after_card, after_end}
use Rattle.mps_reader.proofs.CardFaults.{text_judged}
use Rattle.mps_reader.proofs.LineSizes.{length-first}

-- ── what one line is ──

judged_within : (form : Form) (used : ℕ) (s : DeckSoFar) (line : Line) → used + size_of line ≤ byte_limit → judge_line form used s line ≡ judge_text form s (bytes_counted form line.bytes)
judged_within form used s line within =
    ap (λ b. cond b (judge_text form s (bytes_counted form line.bytes)) (Err (Limit Bytes))) (le-leb (used + size_of line) byte_limit within)

too_long : (form : Form) (used : ℕ) (s : DeckSoFar) (line : Line) → byte_limit < used + size_of line → judge_line form used s line ≡ Err (Limit Bytes)
too_long form used s line over =
    ap (λ b. cond b (judge_text form s (bytes_counted form line.bytes)) (Err (Limit Bytes))) (lt-leb (used + size_of line) byte_limit over)

goes_on : (form : Form) (n used : ℕ) (s after : DeckSoFar) (line : Line) (lines : List Line) → judge_line form used s line ≡ Ok after → has_finished after.begun ≡ false
    → read_lines form n used s (line ∷ lines) ≡ read_lines form (suc n) (used + size_of line) after lines
goes_on form n used s after line lines j other =
    ap (after_line form n used line lines) j ∙ ap (λ b. cond b (finished after (suc n)) (read_lines form (suc n) (used + size_of line) after lines)) other

ends : (form : Form) (n used : ℕ) (s after : DeckSoFar) (line : Line) (lines : List Line) → judge_line form used s line ≡ Ok after → has_finished after.begun ≡ true
    → read_lines form n used s (line ∷ lines) ≡ finished after (suc n)
ends form n used s after line lines j last =
    ap (after_line form n used line lines) j ∙ ap (λ b. cond b (finished after (suc n)) (read_lines form (suc n) (used + size_of line) after lines)) last

stops : (form : Form) (n used : ℕ) (s : DeckSoFar) (line : Line) (lines : List Line) (f : LineFault) → judge_line form used s line ≡ Err f
    → read_lines form n used s (line ∷ lines) ≡ has_fault (in_line (suc n) f)
stops form n used s line lines f j = ap (after_line form n used line lines) j

-- ── what is taken ──

pub record IsSplit (rest : List ℕ) (left' : Option (List ℕ)) (bytes : List ℕ) : Type 0 where
  pub rest' : List ℕ
  pub known : left' ≡ Some rest'
  pub split : rest ≡ bytes ++ rest'

pub given_split : (rest : List ℕ) (left' : Option (List ℕ)) (bytes : List ℕ) → Gives (Some rest) left' bytes → IsSplit rest left' bytes
given_split rest None bytes h = absurd (cc)
given_split rest (Some rest') bytes h = record { rest' = rest'; known = refl; split = ap (λ o. unwrap_or o []) h }

nil_first : (xs ys : List ℕ) → [] ≡ xs ++ ys → xs ≡ []
nil_first [] ys h = refl
nil_first (x ∷ xs) ys h = absurd (cc)

at_end : (kept rest : List ℕ) (left : Option (List ℕ)) → left ≡ Some rest → IsAtEnd kept left → (kept ≡ []) × (rest ≡ [])
at_end kept rest left known h = (h.0, subst (λ l. IfSome l (λ bytes. bytes ≡ [])) known h.1)

lines_ahead : (kept kept' rest rest' : List ℕ) (left left' : Option (List ℕ)) (line : Line) → left ≡ Some rest → left' ≡ Some rest'
    → lines_left kept left ≡ option_map (λ lines. line ∷ lines) (lines_left kept' left') → lines_of (kept ++ rest) ≡ line ∷ lines_of (kept' ++ rest')
lines_ahead kept kept' rest rest' left left' line known known' all =
    ap (λ o. unwrap_or o []) (ap (lines_left kept) (sym known) ∙ all ∙ ap (λ l. option_map (λ lines. line ∷ lines) (lines_left kept' l)) known')

whole_or_last : (line : Line) → (line.is_ended ≡ true) ⊎ (line.is_ended ≡ false)
whole_or_last line = of line.is_ended
  where
    of : (b : Bool) → (b ≡ true) ⊎ (b ≡ false)
    of true = inl refl
    of false = inr refl

module _ (form : Form) (n used : ℕ) (s after : DeckSoFar) (line : Line) (j : judge_line form used s line ≡ Ok after) (other : has_finished after.begun ≡ false) where
  through_ended : (taken given rest' kept kept' : List ℕ)
      → ((more : List ℕ) → read_lines form 0 0 no_cards (whole_lines (taken ++ more)) ≡ read_lines form n used s (whole_lines (kept ++ more)))
      → lines_of (kept ++ given) ≡ line ∷ lines_of kept' → line.is_ended ≡ true
      → IsThrough form (taken ++ given) rest' kept' (suc n) (used + size_of line) after
  through_ended taken given rest' kept kept' eq first ended = inl (λ more.
      ap (λ t. read_lines form 0 0 no_cards (whole_lines t)) (append_assoc taken given more)
      ∙ eq (given ++ more)
      ∙ ap (λ t. read_lines form n used s (whole_lines t)) (sym (append_assoc kept given more))
      ∙ ap (read_lines form n used s) (whole_lines-longer (kept ++ given) kept' more line first ended)
      ∙ goes_on form n used s after line (whole_lines (kept' ++ more)) j other)

  through_last : (taken given rest' kept kept' : List ℕ)
      → ((more : List ℕ) → read_lines form 0 0 no_cards (whole_lines (taken ++ more)) ≡ read_lines form n used s (whole_lines (kept ++ more)))
      → lines_of (kept ++ given) ≡ line ∷ lines_of kept' → line.is_ended ≡ false → (kept' ≡ []) × (rest' ≡ [])
      → IsThrough form (taken ++ given) rest' kept' (suc n) (used + size_of line) after
  through_last taken given rest' kept kept' eq first unended at =
      let none : whole_lines (kept ++ given) ≡ [] = ap (filter (λ l. l.is_ended)) (first ∙ ap (λ k. line ∷ lines_of k) at.0) ∙ rw unended refl in
      inr (at.0, at.1, (n, eq given ∙ ap (read_lines form n used s) none))

  through_line : (taken given rest rest' kept kept' : List ℕ) → IsThrough form taken rest kept n used s
      → lines_of (kept ++ given) ≡ line ∷ lines_of kept' → rest ≡ given ++ rest' → (line.is_ended ≡ false → (kept' ≡ []) × (rest' ≡ []))
      → IsThrough form (taken ++ given) rest' kept' (suc n) (used + size_of line) after
  through_line taken given rest rest' kept kept' (inl eq) first split last = elim (whole_or_last line) [
    | inl ended ↦ through_ended taken given rest' kept kept' eq first ended
    | inr unended ↦ through_last taken given rest' kept kept' eq first unended (last unended)
  ]
  through_line taken given rest rest' kept kept' (inr e) first split last =
      let none : given ≡ [] = nil_first given rest' (sym e.1 ∙ split) in
      let no_line : [] ≡ line ∷ lines_of kept' = ap lines_of (sym (ap₂ (λ k g. k ++ g) e.0 none)) ∙ first in
      absurd (cc)

  size_next : (start taken given kept kept' : List ℕ) → length (start ++ taken) ≡ used + length kept → lines_of (kept ++ given) ≡ line ∷ lines_of kept'
      → length (start ++ (taken ++ given)) ≡ (used + size_of line) + length kept'
  size_next start taken given kept kept' size first =
      omega (arith, size, length-first (kept ++ given) kept' line first, length-append kept given, length-append start taken, length-append taken given, length-append start (taken ++ given))

  next_reached : (start text kept kept' : List ℕ) (left left' : Option (List ℕ)) → ReachedIn form start text left kept n used s → TakesText kept kept' left left' line
      → ReachedIn form start text left' kept' (suc n) (used + size_of line) after
  next_reached start text kept kept' left left' h t =
      let p = given_split h.rest left' t.taken (sym h.known ∙ t.given) in
      record {
        rest = p.rest';
        known = p.known;
        ahead = h.ahead ∙ ap (read_lines form n used s) (lines_ahead kept kept' h.rest p.rest' left left' line h.known p.known t.all)
            ∙ goes_on form n used s after line (lines_of (kept' ++ p.rest')) j other;
        taken = h.taken ++ t.taken;
        split = h.split ∙ ap (λ r. h.taken ++ r) p.split ∙ sym (append_assoc h.taken t.taken p.rest');
        through = subst (λ bytes. IsThrough form bytes p.rest' kept' (suc n) (used + size_of line) after) (append_assoc start h.taken t.taken)
            (through_line (start ++ h.taken) t.taken h.rest p.rest' kept kept' h.through t.first p.split (λ u. at_end kept' p.rest' left' p.known (t.last u)));
        size = size_next start h.taken t.taken kept kept' h.size t.first;
      }

-- ── a read that failed ──

pub open_through : (form : Form) (taken given rest rest' kept : List ℕ) (n used : ℕ) (s : DeckSoFar) → IsThrough form taken rest kept n used s
    → rest ≡ given ++ rest' → whole_lines (kept ++ given) ≡ [] → IsOpen form (taken ++ given)
open_through form taken given rest rest' kept n used s (inl eq) split none = (n, eq given ∙ ap (read_lines form n used s) none)
open_through form taken given rest rest' kept n used s (inr e) split none =
    let empty : given ≡ [] = nil_first given rest' (sym e.1 ∙ split) in
    let same : taken ≡ taken ++ given = sym (append-nil taken) ∙ ap (λ g. taken ++ g) (sym empty) in
    subst (IsOpen form) same e.2

failed_in : (form : Form) (start text kept : List ℕ) (left left' : Option (List ℕ)) (n used faults faults' : ℕ) (s : DeckSoFar) → ReachedIn form start text left kept n used s
    → FailsToRead kept used byte_limit left left' faults faults' → (taken : List ℕ) × Gives (Some text) left' taken × IsReadNeeded form (start ++ taken)
failed_in form start text kept left left' n used faults faults' s h f =
    let p = given_split h.rest left' f.taken (sym h.known ∙ f.given) in
    let given : Some text ≡ prepend_known (h.taken ++ f.taken) left' =
    ap (λ t. Some t) (h.split ∙ ap (λ r. h.taken ++ r) p.split ∙ sym (append_assoc h.taken f.taken p.rest')) ∙ ap (prepend_known (h.taken ++ f.taken)) (sym p.known) in
    let open_here = open_through form (start ++ h.taken) f.taken h.rest p.rest' kept n used s h.through p.split f.needed.no_line in
    let needed : IsReadNeeded form (start ++ (h.taken ++ f.taken)) = record {
      lines = subst (IsOpen form) (append_assoc start h.taken f.taken) open_here;
      within = omega (arith, f.needed.within, h.size, length-append kept f.taken, length-append start h.taken, length-append h.taken f.taken, length-append start (h.taken ++ f.taken));
    } in
    (h.taken ++ f.taken, given, needed)

-- ── what is known of the input ──

pub if_some : {X : Type 0} (o : Option X) (P Q : X → Type 0) → ((x : X) → P x → Q x) → IfSome o P → IfSome o Q
if_some None P Q f h = h
if_some (Some x) P Q f h = f x h

if_known : (start : List ℕ) (o : Option (List ℕ)) (P Q : List ℕ → Type 0) → ((t : List ℕ) → P t → Q (start ++ t)) → IfSome o P → IfSome (prepend_known start o) Q
if_known start None P Q f h = h
if_known start (Some t) P Q f h = f t h

drop-after : {X : Type 0} (n : ℕ) (xs ys : List X) (x : X) → x ∷ xs ≡ drop n ys → xs ≡ drop (suc n) ys
drop-after zero xs [] x e = absurd (cc)
drop-after zero xs (y ∷ ys) x e = ap (drop 1) e
drop-after (suc n) xs [] x e = absurd (cc)
drop-after (suc n) xs (y ∷ ys) x e = drop-after n xs ys x e

lines_after : (n : ℕ) (line : Line) (here next all : Option (List Line)) → here ≡ option_map (λ lines. line ∷ lines) next → here ≡ option_map (drop n) all → next ≡ option_map (drop (suc n)) all
lines_after n line here next all is from = by_known next all (sym is ∙ from)
  where
    by_known : (next all : Option (List Line)) → option_map (λ lines. line ∷ lines) next ≡ option_map (drop n) all → next ≡ option_map (drop (suc n)) all
    by_known None None e = refl
    by_known None (Some ys) e = absurd (cc)
    by_known (Some xs) None e = absurd (cc)
    by_known (Some xs) (Some ys) e = ap (λ l. Some l) (drop-after n xs ys line (ap (λ o. unwrap_or o []) e))

-- ── the line that was answered ──

record IsLineOf (form : Form) (reader reader' : ReaderState) (left left' : Option (List ℕ)) (answer : mps.Line) : Type 0 where
  line : Line
  takes : TakesText reader.kept reader'.kept left left' line
  bytes : HasBytesOf form answer line
  number : answer.number ≡ suc reader.count
  fault : reader'.fault ≡ reader.fault
  count : reader'.count ≡ suc reader.count
  since : reader'.since ≡ reader.since + size_of line
  within : reader.since + size_of line ≤ byte_limit
  sized : 1 ≤ size_of line

one_more_is : (n : ℕ) → n ≤ byte_limit → one_more n ≡ suc n
one_more_is n h = omega arith

line_of : (form : Form) (reader reader' : ReaderState) (left left' : Option (List ℕ)) (answer : mps.Line) → reader.count ≤ reader.since → reader.since ≤ byte_limit
    → AnswersLine reader reader' left left' (kept_size form) byte_limit answer → IsLineOf form reader reader' left left' answer
line_of form reader reader' left left' answer counted low a =
    let within : reader.since + size_of a.line ≤ byte_limit = subst (λ n. n ≤ byte_limit) a.since a.within in
    let more = one_more_is reader.count (omega (arith, counted, low)) in
    let number = ap (λ l. l.number) a.answer_is in
    record {
      line = a.line;
      takes = a.takes;
      bytes = a.answer_is ∙ ap (λ n. answered n (kept_size form) a.line) (sym number);
      number = number ∙ more;
      fault = a.fault;
      count = a.count ∙ more;
      since = a.since;
      within = within;
      sized = size_of-first (reader.kept ++ a.takes.taken) a.line (lines_of reader'.kept) a.takes.first;
    }

-- a line that was answered has the bytes that are kept of some line
pub has_bytes : (form : Form) (reader reader' : ReaderState) (left left' : Option (List ℕ)) (answer : mps.Line) → AnswersLine reader reader' left left' (kept_size form) byte_limit answer
    → (whole : Line) × HasBytesOf form answer whole
has_bytes form reader reader' left left' answer a = (a.line, a.answer_is ∙ ap (λ n. answered n (kept_size form) a.line) (sym (ap (λ l. l.number) a.answer_is)))

-- ── the end of the deck ──

-- what the deck's end answers: the deck, or the fault that the end has
abbrev pub IsEnd : DeckSoFar → ℕ → Result Deck DeckFault → Type 0
IsEnd s line result = MatchResult result (λ d. finished s line ≡ is_deck d line) (λ f. IfSome (text_fault f) (λ first. finished s line ≡ has_fault first))

module _ (form : Form) (text : Option (List ℕ)) (s : DeckSoFar) (line : ℕ) (at_last : IfSome text (λ t. reading_of form t ≡ finished s line)) where
  -- the deck that the end gives is the text's
  deck_at_end : (result : Result Deck DeckFault) → IsEnd s line result → IfOk result (λ d. IfSome text (λ t. IsDeckOf form t d line))
  deck_at_end (Ok d) is = if_some text _ _ (λ t here. here ∙ is) at_last
  deck_at_end (Err f) is = tt

  -- the fault that the end has is the text's
  fault_at_end : (result : Result Deck DeckFault) → IsEnd s line result → IfErr result (IsFaultOf form text)
  fault_at_end (Ok d) is = tt
  fault_at_end (Err f) is = if_some (text_fault f) _ _ (λ first e. if_some text _ _ (λ t here. here ∙ e) at_last) is

on_ok : {T E : Type 0} (result : Result T E) (P : Type 0) → P → OnOk result P
on_ok (Ok x) P h = h
on_ok (Err e) P h = tt

-- ── what the loop needs ──

module _ (form : Form) (start : List ℕ) (text left : Option (List ℕ)) (reader : ReaderState) (draft : Draft) (h : Reached form start text left reader draft) where
  abbrev Here : List ℕ → Type 0
  Here t = ReachedIn form start t left reader.kept reader.count reader.since h.so_far

  few : reader.count ≤ byte_limit
  few = omega (arith, h.counted, h.within)

  too_many : (lines : List Line) → byte_limit < reader.since + first_size lines
      → read_lines form reader.count reader.since h.so_far lines ≡ has_fault (in_line (suc reader.count) (Limit Bytes))
  too_many [] over = absurd (omega (arith, over, h.within))
  too_many (line ∷ lines) over = stops form reader.count reader.since h.so_far line lines (Limit Bytes) (too_long form reader.since h.so_far line over)

  pub refused_line : (left' : Option (List ℕ)) (faults faults' : ℕ) (f : DeckFault) → IsLineCause reader left left' faults faults' f → IsFaultOf form (prepend_known start text) f
  refused_line left' faults faults' fault.Memory cause = tt
  refused_line left' faults faults' fault.Read cause = tt
  refused_line left' faults faults' (fault.NoEnd n) cause = if_known start text Here (λ t. HasFault form t (no_end n)) (λ t r.
      let e = at_end reader.kept r.rest left r.known cause.1 in
      r.ahead ∙ ap (λ x. read_lines form reader.count reader.since h.so_far (lines_of x)) (ap₂ (λ k g. k ++ g) e.0 e.1)
      ∙ ap (λ k. has_fault (no_end k)) (sym cause.0)) h.run
  refused_line left' faults faults' (fault.InLine n found) cause = if_known start text Here (λ t. HasFault form t (in_line n found)) (λ t r.
      let over : byte_limit < reader.since + first_size (lines_of (reader.kept ++ r.rest)) =
      subst (λ l. IfSome (lines_left reader.kept l) (λ lines. byte_limit < reader.since + first_size lines)) r.known cause.2 in
      r.ahead ∙ too_many (lines_of (reader.kept ++ r.rest)) over
      ∙ ap₂ (λ k f. has_fault (in_line k f)) (sym (cause.1 ∙ one_more_is reader.count few)) (sym cause.0)) h.run
  refused_line left' faults faults' fault.NoObjective cause = absurd cause
  refused_line left' faults faults' (fault.CrossedBounds name) cause = absurd cause

  pub read_failed : (left' : Option (List ℕ)) (faults faults' : ℕ) → IsLineCause reader left left' faults faults' fault.Read → IsReadFault form start text left'
  read_failed left' faults faults' cause =
      if_some text Here _ (λ t r. failed_in form start t reader.kept left left' reader.count reader.since faults faults' h.so_far r cause) h.run

  -- where no line was answered, the same lines are left
  pub lines_unmoved : (reader' : ReaderState) (left' : Option (List ℕ)) → (reader' ≡ reader) × (left' ≡ left) → lines_left reader'.kept left' ≡ option_map (drop reader'.count) (lines_left start text)
  lines_unmoved reader' left' same =
      subst (λ (r : ReaderState). lines_left r.kept left' ≡ option_map (drop r.count) (lines_left start text)) (sym same.0) (ap (lines_left reader.kept) same.1 ∙ h.lines)

  module _ (reader' : ReaderState) (left' : Option (List ℕ)) (draft' : Draft) (answer : mps.Line) (a : AnswersLine reader reader' left left' (kept_size form) byte_limit answer) where
    answered_line : IsLineOf form reader reader' left left' answer
    answered_line = line_of form reader reader' left left' answer h.counted h.within a

    lines_here : (t : List ℕ) (r : Here t) → (rest : List Line) × (lines_of (reader.kept ++ r.rest) ≡ answered_line.line ∷ rest)
    lines_here t r =
        let l = answered_line in
        let p = given_split r.rest left' l.takes.taken (sym r.known ∙ l.takes.given) in
        (lines_of (reader'.kept ++ p.rest'), lines_ahead reader.kept reader'.kept r.rest p.rest' left left' l.line r.known p.known l.takes.all)

    -- the lines behind this one are left to read
    pub lines_next : lines_left reader'.kept left' ≡ option_map (drop reader'.count) (lines_left start text)
    lines_next =
        let l = answered_line in
        lines_after reader.count l.line (lines_left reader.kept left) (lines_left reader'.kept left') (lines_left start text) l.takes.all h.lines
        ∙ ap (λ n. option_map (drop n) (lines_left start text)) (sym l.count)

    sound_next : reader'.fault ≡ None
    sound_next = answered_line.fault ∙ h.sound

    pub still_sound : {T E : Type 0} (result : Result T E) → OnOk result (reader'.fault ≡ None)
    still_sound result = on_ok result _ sound_next

    pub rises : (byte_limit - reader'.since) < (byte_limit - reader.since)
    rises =
        let l = answered_line in
        omega (arith, l.since, l.sized, l.within)

    has_answered : HasAnswered answer.number reader'
    has_answered = record { sound = sound_next; count = answered_line.count ∙ sym answered_line.number }

    -- after a fault of the line the reader stands behind it
    pub stands_behind : (T : Type 0) (f : DeckFault)
        → ((s : DeckSoFar) (line : Line) → IsDraftOf draft s → HasBytesOf form answer line → IsFoundAt answer.number (judge_text form s (bytes_counted form line.bytes)) f)
        → ¬ IsErrOf {T = T} (Err f) fault.Read → StandsAfter f reader'
    stands_behind T f found_at other =
        let l = answered_line in
        let counted = bytes_counted form l.line.bytes in
        after_card T answer.number (judge_text form h.so_far counted) f reader' (text_judged form h.so_far counted)
        (found_at h.so_far l.line h.stands l.bytes) other has_answered

    -- a fault of the line is the text's
    pub not_taken : (f : DeckFault) → ((s : DeckSoFar) (line : Line) → IsDraftOf draft s → HasBytesOf form answer line → IsFoundAt answer.number (judge_text form s (bytes_counted form line.bytes)) f)
        → IsFaultOf form (prepend_known start text) f
    not_taken f found_at = if_some (text_fault f) _ _ (λ first found. if_known start text Here (λ t. HasFault form t first) (λ t r.
        let l = answered_line in
        let here = lines_here t r in
        r.ahead ∙ ap (read_lines form reader.count reader.since h.so_far) here.1
        ∙ stops form reader.count reader.since h.so_far l.line here.0 found.0 (judged_within form reader.since h.so_far l.line l.within ∙ found.2)
        ∙ ap has_fault (sym (found.1 ∙ ap (λ n. in_line n found.0) l.number))) h.run) (found_at h.so_far answered_line.line h.stands answered_line.bytes)

    module _ (takes : (s : DeckSoFar) (line : Line) → IsDraftOf draft s → HasBytesOf form answer line → IsTaken (judge_text form s (bytes_counted form line.bytes)) draft') where
      taken : IsTaken (judge_text form h.so_far (bytes_counted form answered_line.line.bytes)) draft'
      taken = takes h.so_far answered_line.line h.stands answered_line.bytes

      judged : judge_line form reader.since h.so_far answered_line.line ≡ Ok taken.0
      judged = judged_within form reader.since h.so_far answered_line.line answered_line.within ∙ taken.1

      pub next_stands : (s : DeckSoFar) × IsDraftOf draft' s
      next_stands = (taken.0, taken.2)

      -- after a fault of the deck's end the reader stands behind its last line
      pub stands_at_end : (result : Result Deck DeckFault) → ((s : DeckSoFar) (line : ℕ) → IsDraftOf draft' s → IsEnd s line result) → ¬ IsErrOf result fault.Read
          → IfErr result (λ f. StandsAfter f reader')
      stands_at_end result end other = after_end taken.0 reader'.count reader' result sound_next (end taken.0 reader'.count taken.2) other

      module _ (last : Bool) (tells : (s : DeckSoFar) → IsDraftOf draft' s → last ≡ has_finished s.begun) where
        pub reached_next : last ≡ false → Reached form start text left' reader' draft'
        reached_next other =
            let l = answered_line in
            record {
              so_far = taken.0;
              stands = taken.2;
              sound = sound_next;
              within = subst (λ n. n ≤ byte_limit) (sym l.since) l.within;
              counted = omega (arith, l.count, l.since, l.sized, h.counted);
              lines = lines_next;
              run = if_some text Here _ (λ t r.
                  subst (λ n. ReachedIn form start t left' reader'.kept n reader'.since taken.0) (sym l.count)
                  (subst (λ u. ReachedIn form start t left' reader'.kept (suc reader.count) u taken.0) (sym l.since)
                  (next_reached form reader.count reader.since h.so_far taken.0 l.line judged (sym (tells taken.0 taken.2) ∙ other) start t reader.kept reader'.kept left left' r l.takes))) h.run;
            }

        -- at the deck's last line the text is what its end is
        text_finished : last ≡ true → IfSome (prepend_known start text) (λ t. reading_of form t ≡ finished taken.0 reader'.count)
        text_finished is = if_known start text Here _ (λ t r.
            let l = answered_line in
            let here = lines_here t r in
            r.ahead ∙ ap (read_lines form reader.count reader.since h.so_far) here.1
            ∙ ends form reader.count reader.since h.so_far taken.0 l.line here.0 judged (sym (tells taken.0 taken.2) ∙ is)
            ∙ ap (finished taken.0) (sym l.count)) h.run

        module _ (is : last ≡ true) (result : Result Deck DeckFault) (end : (s : DeckSoFar) (line : ℕ) → IsDraftOf draft' s → IsEnd s line result) where
          pub deck_read : IfOk result (λ d. IfSome (prepend_known start text) (λ t. IsDeckOf form t d reader'.count))
          deck_read = deck_at_end form (prepend_known start text) taken.0 reader'.count (text_finished is) result (end taken.0 reader'.count taken.2)

          pub end_refused : IfErr result (IsFaultOf form (prepend_known start text))
          end_refused = fault_at_end form (prepend_known start text) taken.0 reader'.count (text_finished is) result (end taken.0 reader'.count taken.2)

-- where no line was answered, all lines are left
pub lines_first : (left : Option (List ℕ)) (reader : ReaderState) → IsFresh reader → lines_left reader.kept left ≡ option_map (drop reader.count) (lines_left reader.kept left)
lines_first left reader fresh = sym (ap (λ n. option_map (drop n) (lines_left reader.kept left)) fresh.count ∙ all (lines_left reader.kept left))
  where
    all : (o : Option (List Line)) → option_map (drop 0) o ≡ o
    all None = refl
    all (Some lines) = refl

pub reached_start : (form : Form) (left : Option (List ℕ)) (reader : ReaderState) (draft : Draft) → IsFresh reader → IsDraftOf draft no_cards → Reached form reader.kept left left reader draft
reached_start form left reader draft fresh stands = record {
  so_far = no_cards;
  stands = stands;
  sound = fresh.sound;
  within = omega (arith, fresh.since);
  counted = omega (arith, fresh.count, fresh.since);
  lines = lines_first left reader fresh;
  run = run left;
}
  where
    run : (o : Option (List ℕ)) → IfSome o (λ t. ReachedIn form reader.kept t o reader.kept reader.count reader.since no_cards)
    run None = tt
    run (Some t) = subst (λ n. ReachedIn form reader.kept t (Some t) reader.kept n reader.since no_cards) (sym fresh.count)
        (subst (λ u. ReachedIn form reader.kept t (Some t) reader.kept 0 u no_cards) (sym fresh.since)
        (record {
          rest = t;
          known = refl;
          ahead = refl;
          taken = [];
          split = refl;
          through = inl (λ more. ap (λ bytes. read_lines form 0 0 no_cards (whole_lines (bytes ++ more))) (append-nil reader.kept));
          size = omega (arith, length-append reader.kept []);
        }))

fault_of : {T : Type 0} → Result T DeckFault → DeckFault
fault_of (Ok t) = fault.Memory
fault_of (Err f) = f

pub err_is : (T : Type 0) (f f' : DeckFault) → IsErrOf {T = T} (Err f) f' → f ≡ f'
unfolding fault_of
err_is T f f' is = ap fault_of is
