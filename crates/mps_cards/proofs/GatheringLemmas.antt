-- A line that is read piece by piece: what holds between two pieces, and what its end, the input's end and a fault say.
use Rattle.std.proofs.Common.{◌≡◌, ◌≢◌, ℕ, suc, ◌+◌, ◌<◌, ◌≤◌, Bool, true, false, ◌||◌, List, [], ◌∷◌, ◌++◌, take, length, Option, None, Some, nat_lt, if◌then◌else◌, refl, sym, ap, subst, ◌∙◌, append_assoc, arith, length-append, inl, inr, IfSome}
use Rattle.std.specs.Option.{option_map}
use Rattle.std.proofs.lemmas.List.{append-nil, take_all, take-append-le, take-take, length-take-le}
use Rattle.std.proofs.lemmas.List.Elements.{All-append, All-head, All-nil, All-tail}
use Rattle.std.proofs.lemmas.Bool.{cases_lt, false≢true, le-ltb, lt-ltb, ne_eqb}
use Rattle.lp_text.specs.Lines.{Line as TextLine, lines_of, onto_first, size_of}
use Rattle.lp_text.specs.Inner.LineText.{IsFreeOfFeeds, line_text}
use Rattle.lp_text.proofs.LinesLemmas.{ended, lines_of-ended, lines_of-longer, lines_of-unended, unended, whole_lines-free}
use Rattle.io_ends.specs.Bytes.{Gives}
use Rattle.io_ends.specs.Count.{Rose}
use Rattle.io_ends.proofs.BytesLemmas.{Gives-append}
use Rattle.mps_cards.specs.NextLine.{FailsToRead, IsAtEnd, IsNeeded, TakesAsNeeded, TakesLine, first_size, lines_left}
use Rattle.mps_cards.specs.declared.faults.ReadFault.{ReadFault}
use Rattle.mps_cards.specs.declared.faults.ReadFault.TheVariants.{Memory, Read, TooMany}
use Rattle.mps_cards.specs.declared.gathering.Asked.{Asked}
use Rattle.mps_cards.specs.declared.gathering.Gathered.{Gathered}
use Rattle.mps_cards.specs.declared.gathering.Growing.{Growing}
use Rattle.mps_cards.specs.Inner.Pieces.{BeginsWith, Gathers, GathersNone, IsGatherFault, IsPieceFault, Overruns, TakesPiece}

-- ── the bytes of a source ──

pub Gives-none : (left : Option (List ℕ)) → Gives left left []
Gives-none None = refl
Gives-none (Some bytes) = refl

Gives-nil : (old new : Option (List ℕ)) → Gives old new [] → new ≡ old
Gives-nil old None given = sym given
Gives-nil old (Some bytes) given = sym given

-- ── what is kept of a line ──

-- no bytes, and then the source's end
pub IsAtEnd-read : (left left' : Option (List ℕ)) (piece : List ℕ) → Gives left left' piece → (piece ≡ [] → IfSome left (λ bytes. bytes ≡ [])) → piece ≡ [] → IsAtEnd piece left'
IsAtEnd-read left left' piece given end none =
    (none, subst (λ l. IfSome l (λ bytes. bytes ≡ [])) (sym (Gives-nil left left' (subst (Gives left left') none given))) (end none))

pub take-take-append : (keep : ℕ) (whole piece : List ℕ) → take keep (take keep whole ++ piece) ≡ take keep (whole ++ piece)
take-take-append keep whole piece = elim (cases_lt keep (length whole)) [
  | inl more ↦
      let long : keep ≤ length whole = omega arith in
      let len : keep ≤ length (take keep whole) = rw (length-take-le keep whole long) (omega arith) in
      take-append-le keep (take keep whole) piece len ∙ take-take keep keep whole (omega arith) ∙ sym (take-append-le keep whole piece long)
  | inr few ↦ rw (take_all keep whole few) refl
]

pub longer-append : (keep : ℕ) (whole piece : List ℕ)
    → (nat_lt keep (length whole) || nat_lt keep (length (take keep whole ++ piece))) ≡ nat_lt keep (length (whole ++ piece))
longer-append keep whole piece = elim (cases_lt keep (length whole)) [
  | inl more ↦
      let longer : keep < length (whole ++ piece) = omega (arith, length-append whole piece) in
      rw (lt-ltb keep (length whole) more, lt-ltb keep (length (whole ++ piece)) longer) refl
  | inr few ↦ rw (le-ltb keep (length whole) few, take_all keep whole few) refl
]

-- ── between two pieces ──

-- the line has the bytes `whole` so far, and `kept` are read ahead
pub record IsGathering (kept0 : List ℕ) (left0 : Option (List ℕ)) (since most keep : ℕ) (kept : List ℕ) (left : Option (List ℕ)) (bytes : List ℕ) (longer : Bool) (through : ℕ) : Type 0 where
  pub takes : TakesAsNeeded kept0 since most left0 left
  pub whole : List ℕ
  pub text : kept0 ++ (takes.earlier ++ takes.last) ≡ whole ++ kept
  pub free : IsFreeOfFeeds whole
  pub bytes_are : bytes ≡ take keep whole
  pub longer_is : longer ≡ nat_lt keep (length whole)
  pub through_is : through ≡ since + length whole
  pub within : through ≤ most

pub TakesAsNeeded-none : (kept : List ℕ) (since most : ℕ) (left : Option (List ℕ)) → TakesAsNeeded kept since most left left
TakesAsNeeded-none kept since most left = record {
  earlier = [];
  last = [];
  given = Gives-none left;
  few = omega arith;
  needed = λ some. absurd (some refl);
}

-- a call that reads nothing
pub ruleset unread = (TakesAsNeeded-none)

pub IsGathering-start : (kept : List ℕ) (left : Option (List ℕ)) (since most keep : ℕ) → since ≤ most
    → IsGathering kept left since most keep kept left [] false since
unfolding TakesAsNeeded-none
IsGathering-start kept left since most keep within = record {
  takes = TakesAsNeeded-none kept since most left;
  whole = [];
  text = append-nil kept;
  free = All-nil (λ c. c ≢ 10);
  bytes_are = sym (take_all keep [] (omega arith));
  longer_is = sym (le-ltb keep 0 (omega arith));
  through_is = omega arith;
  within = within;
}

-- ── the lines of the input ──

lines_left-ended : (kept taken rest : List ℕ) (left0 left : Option (List ℕ)) (line : TextLine)
    → Gives left0 left taken → lines_of (kept ++ taken) ≡ line ∷ lines_of rest → line.is_ended ≡ true
    → lines_left kept left0 ≡ option_map (λ lines. line ∷ lines) (lines_left rest left)
lines_left-ended kept taken rest left0 None line given first is_ended = rw given refl
lines_left-ended kept taken rest left0 (Some bytes) line given first is_ended =
    rw given (ap Some (ap lines_of (sym (append_assoc kept taken bytes)) ∙ lines_of-longer (kept ++ taken) rest bytes line first is_ended))

lines_left-last : (kept taken rest : List ℕ) (left0 left : Option (List ℕ)) (line : TextLine)
    → Gives left0 left taken → lines_of (kept ++ taken) ≡ line ∷ [] → IsAtEnd rest left
    → lines_left kept left0 ≡ option_map (λ lines. line ∷ lines) (lines_left rest left)
lines_left-last kept taken rest left0 None line given first end = rw given refl
lines_left-last kept taken rest left0 (Some bytes) line given first end =
    rw (given, end.0, end.1, append-nil taken, first) refl

lines_of-last : (whole : List ℕ) → 0 < length whole → IsFreeOfFeeds whole → lines_of whole ≡ unended whole ∷ []
lines_of-last [] some free = absurd (omega arith)
lines_of-last (c ∷ whole) some free = lines_of-unended c whole free

onto_first-size : (c : ℕ) (lines : List TextLine) → first_size (onto_first c lines) ≡ suc (first_size lines)
onto_first-size c [] = refl
onto_first-size c (line ∷ lines) = omega arith

first_size-free : (bytes more : List ℕ) → IsFreeOfFeeds bytes → first_size (lines_of (bytes ++ more)) ≡ length bytes + first_size (lines_of more)
first_size-free [] more free = omega arith
first_size-free (c ∷ bytes) more free =
    rw (ne_eqb c 10 (All-head (λ x. x ≢ 10) c bytes free), onto_first-size c (lines_of (bytes ++ more)), first_size-free bytes more (All-tail (λ x. x ≢ 10) c bytes free))
    (omega arith)

feed-size : (is_ended : Bool) (more : List ℕ) → (if is_ended then 1 else 0) ≤ first_size (lines_of ((if is_ended then 10 ∷ [] else []) ++ more))
feed-size true more = omega arith
feed-size false more = omega arith

-- the first line goes on at least through a piece that stands behind its beginning
first_size-piece : (whole more : List ℕ) (piece : TextLine) → IsFreeOfFeeds whole → IsFreeOfFeeds piece.bytes
    → length whole + size_of piece ≤ first_size (lines_of (whole ++ (line_text piece ++ more)))
first_size-piece whole more piece free piece_free =
    let text : whole ++ (line_text piece ++ more) ≡ (whole ++ piece.bytes) ++ ((if piece.is_ended then 10 ∷ [] else []) ++ more) = simp append_assoc in
    rw (text, first_size-free (whole ++ piece.bytes) ((if piece.is_ended then 10 ∷ [] else []) ++ more) (All-append (λ c. c ≢ 10) whole piece.bytes free piece_free))
    (omega (arith, length-append whole piece.bytes, feed-size piece.is_ended more))

-- the first line of the input has more bytes than are allowed, where the beginning that was read has
first_size-past : (kept0 taken whole kept rest : List ℕ) (left0 left : Option (List ℕ)) (piece : TextLine) (since most : ℕ)
    → Gives left0 left taken → kept0 ++ taken ≡ whole ++ kept → kept ≡ line_text piece ++ rest → IsFreeOfFeeds whole → IsFreeOfFeeds piece.bytes
    → most < since + (length whole + size_of piece) → IfSome (lines_left kept0 left0) (λ lines. most < since + first_size lines)
first_size-past kept0 taken whole kept rest left0 None piece since most given text piece_text free piece_free over = rw given tt
first_size-past kept0 taken whole kept rest left0 (Some bytes) piece since most given text piece_text free piece_free over =
    let all : kept0 ++ (taken ++ bytes) ≡ whole ++ (line_text piece ++ (rest ++ bytes)) =
    sym (append_assoc kept0 taken bytes) ∙ ap (λ t. t ++ bytes) (text ∙ ap (λ k. whole ++ k) piece_text) ∙ simp append_assoc in
    rw (given, all) (omega (arith, first_size-piece whole (rest ++ bytes) piece free piece_free))

-- no byte came
pub empty_from_none : (more : Bool) (xs : List ℕ) → more ≡ false → (0 < length xs → more ≡ true) → xs ≡ []
empty_from_none more [] none some = refl
empty_from_none more (x ∷ xs) none some = absurd (false≢true (sym none ∙ some (omega arith)))

empty_from_length : (xs : List ℕ) → length xs ≤ 0 → xs ≡ []
empty_from_length [] none = refl
empty_from_length (x ∷ xs) none = absurd (omega arith)

module _ (kept0 : List ℕ) (left0 : Option (List ℕ)) (since most keep : ℕ) (kept : List ℕ) (left : Option (List ℕ)) (bytes : List ℕ) (longer : Bool) (through : ℕ)
    (so_far : IsGathering kept0 left0 since most keep kept left bytes longer through) where
  -- what is kept of the line with a piece more
  pub bytes_with : (piece bytes' : List ℕ) → bytes' ≡ take keep (bytes ++ piece) → bytes' ≡ take keep (so_far.whole ++ piece)
  bytes_with piece bytes' bytes_are =
      bytes_are ∙ ap (λ b. take keep (b ++ piece)) so_far.bytes_are ∙ take-take-append keep so_far.whole piece

  pub longer_with : (piece : List ℕ) (longer' : Bool) → longer' ≡ (longer || nat_lt keep (length (bytes ++ piece))) → longer' ≡ nat_lt keep (length (so_far.whole ++ piece))
  longer_with piece longer' longer_is =
      let longer_first = ap (λ l. l || nat_lt keep (length (bytes ++ piece))) so_far.longer_is in
      let bytes_next = ap (λ b. nat_lt keep (length so_far.whole) || nat_lt keep (length (b ++ piece))) so_far.bytes_are in
      longer_is ∙ longer_first ∙ bytes_next ∙ longer-append keep so_far.whole piece

  -- the line takes all that was read ahead
  pub IsGathering-piece : (piece : TextLine) (rest bytes' : List ℕ) (longer' : Bool) (through' : ℕ)
      → BeginsWith kept piece rest → piece.is_ended ≡ false
      → bytes' ≡ take keep (bytes ++ piece.bytes) → longer' ≡ (longer || nat_lt keep (length (bytes ++ piece.bytes)))
      → through' ≡ through + size_of piece → through' ≤ most
      → IsGathering kept0 left0 since most keep rest left bytes' longer' through'
  IsGathering-piece piece rest bytes' longer' through' found open_end bytes_are longer_is through_is within =
      let whole = so_far.whole in
      let piece_text : line_text piece ≡ piece.bytes = rw open_end (append-nil piece.bytes) in
      let size : size_of piece ≡ length piece.bytes = rw open_end (omega arith) in record {
        takes = so_far.takes;
        whole = whole ++ piece.bytes;
        text = so_far.text ∙ ap (λ k. whole ++ k) (found.text ∙ ap (λ p. p ++ rest) piece_text) ∙ sym (append_assoc whole piece.bytes rest);
        free = All-append (λ c. c ≢ 10) whole piece.bytes so_far.free found.free;
        bytes_are = bytes_with piece.bytes bytes' bytes_are;
        longer_is = longer_with piece.bytes longer' longer_is;
        through_is = omega (arith, so_far.through_is, size, length-append whole piece.bytes);
        within = within;
      }

  -- all bytes of the line so far were needed
  kept_all : kept ≡ [] → kept0 ++ (so_far.takes.earlier ++ so_far.takes.last) ≡ so_far.whole
  kept_all none = so_far.text ∙ ap (λ k. so_far.whole ++ k) none ∙ append-nil so_far.whole

  all_needed : kept ≡ [] → IsNeeded (kept0 ++ (so_far.takes.earlier ++ so_far.takes.last)) since most
  all_needed none = rw (kept_all none) record {
    no_line = whole_lines-free so_far.whole so_far.free;
    within = omega (arith, so_far.through_is, so_far.within);
  }

  -- the source is read once more
  pub IsGathering-read : (left' : Option (List ℕ)) (piece : List ℕ) → kept ≡ [] → Gives left left' piece → length piece ≤ 4096
      → IsGathering kept0 left0 since most keep piece left' bytes longer through
  IsGathering-read left' piece none given few =
      let taken = so_far.takes.earlier ++ so_far.takes.last in
      let text : kept0 ++ (taken ++ piece) ≡ so_far.whole ++ piece =
      sym (append_assoc kept0 taken piece) ∙ ap (λ t. t ++ piece) (kept_all none) in record {
        takes = record {
          earlier = taken;
          last = piece;
          given = Gives-append left0 left left' taken piece so_far.takes.given given;
          few = few;
          needed = λ _. all_needed none;
        };
        whole = so_far.whole;
        text = text;
        free = so_far.free;
        bytes_are = so_far.bytes_are;
        longer_is = so_far.longer_is;
        through_is = so_far.through_is;
        within = so_far.within;
      }

  -- a read failed
  pub FailsToRead-gathering : (left' : Option (List ℕ)) (faults0 faults faults' : ℕ) → kept ≡ [] → left' ≡ left → faults ≡ faults0
      → Rose faults faults' → FailsToRead kept0 since most left0 left' faults0 faults'
  FailsToRead-gathering left' faults0 faults faults' none unmoved same rose = record {
    taken = so_far.takes.earlier ++ so_far.takes.last;
    given = rw unmoved so_far.takes.given;
    needed = all_needed none;
    rose = rw (← same) rose;
  }

  -- a line feed comes
  pub TakesLine-ended : (piece : TextLine) (rest : List ℕ) → BeginsWith kept piece rest → piece.is_ended ≡ true
      → TakesLine kept0 rest left0 left (ended (so_far.whole ++ piece.bytes))
  TakesLine-ended piece rest found is_ended =
      let whole = so_far.whole in
      let feed : line_text piece ≡ piece.bytes ++ 10 ∷ [] = rw is_ended refl in
      let text : kept0 ++ (so_far.takes.earlier ++ so_far.takes.last) ≡ (whole ++ piece.bytes) ++ 10 ∷ rest =
      so_far.text ∙ ap (λ k. whole ++ k) (found.text ∙ ap (λ p. p ++ rest) feed) ∙ simp append_assoc in
      let first : lines_of (kept0 ++ (so_far.takes.earlier ++ so_far.takes.last)) ≡ ended (whole ++ piece.bytes) ∷ lines_of rest =
      ap lines_of text ∙ lines_of-ended (whole ++ piece.bytes) rest (All-append (λ c. c ≢ 10) whole piece.bytes so_far.free found.free) in record {
        taken = so_far.takes.earlier ++ so_far.takes.last;
        given = so_far.takes.given;
        first = first;
        last = λ wrong. cc;
        all = lines_left-ended kept0 (so_far.takes.earlier ++ so_far.takes.last) rest left0 left (ended (whole ++ piece.bytes)) so_far.takes.given first refl;
      }

  -- the input ends in mid-line
  pub TakesLine-unended : IsAtEnd kept left → since ≢ through → TakesLine kept0 kept left0 left (unended so_far.whole)
  TakesLine-unended end some =
      let first : lines_of (kept0 ++ (so_far.takes.earlier ++ so_far.takes.last)) ≡ unended so_far.whole ∷ [] =
      ap lines_of (kept_all end.0) ∙ lines_of-last so_far.whole (omega (arith, so_far.through_is)) so_far.free in record {
        taken = so_far.takes.earlier ++ so_far.takes.last;
        given = so_far.takes.given;
        first = first ∙ ap (λ k. unended so_far.whole ∷ lines_of k) (sym end.0);
        last = λ _. end;
        all = lines_left-last kept0 (so_far.takes.earlier ++ so_far.takes.last) kept left0 left (unended so_far.whole) so_far.takes.given first end;
      }

  -- the input ends where no line has begun
  pub GathersNone-gathering : IsAtEnd kept left → through ≡ since → GathersNone kept0 kept left0 left
  GathersNone-gathering end none =
      let taken = so_far.takes.earlier ++ so_far.takes.last in
      let len : length kept0 + length taken ≡ length so_far.whole = sym (length-append kept0 taken) ∙ ap length (kept_all end.0) in
      let no_taken : taken ≡ [] = empty_from_length taken (omega (arith, so_far.through_is, len)) in
      let unmoved : left ≡ left0 = Gives-nil left0 left (subst (Gives left0 left) no_taken so_far.takes.given) in record {
        at_end = (empty_from_length kept0 (omega (arith, so_far.through_is, len)), subst (λ l. IfSome l (λ bytes. bytes ≡ [])) unmoved end.1);
        kept = end.0;
        unmoved = unmoved;
      }

  -- more bytes come than are allowed
  pub first_size-over : Overruns through most kept → IfSome (lines_left kept0 left0) (λ lines. most < since + first_size lines)
  first_size-over over =
      first_size-past kept0 (so_far.takes.earlier ++ so_far.takes.last) so_far.whole kept over.rest left0 left over.piece since most
      so_far.takes.given so_far.text over.found.text so_far.free over.found.free (omega (arith, so_far.through_is, over.over))

-- ── the same of a growing line ──

module _ (kept0 : List ℕ) (left0 : Option (List ℕ)) (since : ℕ) (asked : Asked) (kept : List ℕ) (left : Option (List ℕ)) (before : Growing)
    (so_far : IsGathering kept0 left0 since asked.most asked.keep kept left before.bytes.items before.longer before.through) where
  -- the line takes all that was read ahead, and its end has not come
  IsGathering-takes : (after : Growing) (kept' : List ℕ) (is_ended : Bool) → is_ended ≡ false → TakesPiece before after kept kept' asked is_ended
      → IsGathering kept0 left0 since asked.most asked.keep kept' left after.bytes.items after.longer after.through
  IsGathering-takes after kept' is_ended open_end takes =
      IsGathering-piece kept0 left0 since asked.most asked.keep kept left before.bytes.items before.longer before.through so_far
      takes.piece kept' after.bytes.items after.longer after.through takes.found (sym takes.ends ∙ open_end)
      takes.grows.bytes takes.grows.longer takes.grows.through takes.grows.within

  -- and then the source is read once more
  pub IsGathering-turn : (after : Growing) (kept' : List ℕ) (is_ended : Bool) (left' : Option (List ℕ)) (piece : List ℕ)
      → is_ended ≡ false → TakesPiece before after kept kept' asked is_ended → Gives left left' piece → length piece ≤ 4096
      → IsGathering kept0 left0 since asked.most asked.keep piece left' after.bytes.items after.longer after.through
  IsGathering-turn after kept' is_ended left' piece open_end takes given few =
      IsGathering-read kept0 left0 since asked.most asked.keep kept' left after.bytes.items after.longer after.through
      (IsGathering-takes after kept' is_ended open_end takes) left' piece (takes.found.last (sym takes.ends ∙ open_end)) given few

  -- or it fails
  pub FailsToRead-turn : (after : Growing) (kept' : List ℕ) (is_ended : Bool) (left' : Option (List ℕ)) (faults0 faults faults' : ℕ)
      → is_ended ≡ false → TakesPiece before after kept kept' asked is_ended → left' ≡ left → faults ≡ faults0 → Rose faults faults'
      → FailsToRead kept0 since asked.most left0 left' faults0 faults'
  FailsToRead-turn after kept' is_ended left' faults0 faults faults' open_end takes unmoved same rose =
      FailsToRead-gathering kept0 left0 since asked.most asked.keep kept' left after.bytes.items after.longer after.through
      (IsGathering-takes after kept' is_ended open_end takes) left' faults0 faults faults' (takes.found.last (sym takes.ends ∙ open_end)) unmoved same rose

  -- the line's end has come
  pub Gathers-ended : (after : Growing) (kept' : List ℕ) (is_ended : Bool) (gathered : Gathered) → is_ended ≡ true → TakesPiece before after kept kept' asked is_ended
      → gathered ≡ record { line = record { number = asked.number; bytes = after.bytes.items; longer = after.longer }; through = after.through }
      → Gathers kept0 kept' left0 left since asked gathered
  Gathers-ended after kept' is_ended gathered end takes gathered_is =
      let piece = takes.piece in
      let piece_end : piece.is_ended ≡ true = sym takes.ends ∙ end in
      let size : size_of piece ≡ length piece.bytes + 1 = rw piece_end refl in
      let bytes_are = bytes_with kept0 left0 since asked.most asked.keep kept left before.bytes.items before.longer before.through so_far piece.bytes after.bytes.items takes.grows.bytes in
      let longer_is = longer_with kept0 left0 since asked.most asked.keep kept left before.bytes.items before.longer before.through so_far piece.bytes after.longer takes.grows.longer in
      rw gathered_is record {
        line = ended (so_far.whole ++ piece.bytes);
        takes = TakesLine-ended kept0 left0 since asked.most asked.keep kept left before.bytes.items before.longer before.through so_far piece kept' takes.found piece_end;
        line_is = rw (bytes_are, longer_is) refl;
        through = omega (arith, takes.grows.through, so_far.through_is, size, length-append so_far.whole piece.bytes);
        within = takes.grows.within;
      }

  -- the input's end has come in mid-line
  pub Gathers-unended : (gathered : Gathered) → IsAtEnd kept left → since ≢ before.through
      → gathered ≡ record { line = record { number = asked.number; bytes = before.bytes.items; longer = before.longer }; through = before.through }
      → Gathers kept0 kept left0 left since asked gathered
  Gathers-unended gathered end some gathered_is = rw gathered_is record {
    line = unended so_far.whole;
    takes = TakesLine-unended kept0 left0 since asked.most asked.keep kept left before.bytes.items before.longer before.through so_far end some;
    line_is = rw (so_far.bytes_are, so_far.longer_is) refl;
    through = omega (arith, so_far.through_is);
    within = so_far.within;
  }

  -- a fault at a piece is one of the whole line
  pub IsGatherFault-piece : (faults0 faults : ℕ) → faults ≡ faults0 → (fault : ReadFault) → IsPieceFault before kept asked fault
      → IsGatherFault kept0 left0 left faults0 faults since asked fault
  IsGatherFault-piece faults0 faults stays Read cause = absurd cause
  IsGatherFault-piece faults0 faults stays Memory cause = stays
  IsGatherFault-piece faults0 faults stays (TooMany number) cause =
      (cause.0, stays, first_size-over kept0 left0 since asked.most asked.keep kept left before.bytes.items before.longer before.through so_far cause.1)
