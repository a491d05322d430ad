-- One line of a report, as it is answered and judged.
use Rattle.std.proofs.Common.{◌≡◌, ◌⊎◌, inl, inr, ℕ, ◌+◌, ◌-◌, ◌^◌, ◌<◌, ◌≤◌, false, List, [], ◌∷◌, ◌++◌, length, Option, None, Some, IfSome, Result, Ok, Err, IfOk, MatchResult, refl, sym, ◌∙◌, ap, subst, arith, append-nil}
use Rattle.std.specs.Option.{option_map}
use Rattle.std.specs.Result.{IsErrAnd, IsErrOf}
use Rattle.std.proofs.lemmas.Bool.{ltb-true, ltb-false}
use Rattle.std.proofs.lemmas.List.{take_all}
use Rattle.std.proofs.lemmas.List.Elements.{All-cons, All-nil}
use Rattle.std.proofs.lemmas.Result.{err_from_is_err_and}
use Rattle.io_ends.specs.Count.{one_more}
use Rattle.lp_model.specs.Deck.{Deck}
use Rattle.lp_text.specs.Limits.{report_limit, report_line_limit}
use Rattle.lp_text.specs.Lines.{Line, lines_of, size_of}
use Rattle.lp_text.proofs.LinesLemmas.{size_of-first}
use Rattle.mps_cards.specs.declared.lines.Line as mps
use Rattle.mps_cards.specs.NextLine.{AnswersLine, first_size, lines_left}
use Rattle.mps_cards.specs.ReaderState.{ReaderState}
use Rattle.std.specs.Fmt.{decimal}
use Rattle.lp_text.specs.Digits.{digits_value}
use Rattle.lp_text.specs.Report.{number_line}
use Rattle.report_lines.specs.Judged.{IsCountLine}
use Rattle.report_lines.proofs.Plain.{plain_decimal}
use Rattle.report_lines.specs.declared.flaw.Flaw.{Flaw}
use Rattle.report_lines.specs.declared.flaw.Flaw.TheVariants as flaw
use Rattle.report_lines.specs.FirstFlaw.{Expected, HasFlaw, HasNextFlaw, Meets, at, basic, basis, end, entry, kind, log_or_end, objective, title, upper, value, version}
use Rattle.report_reader.specs.declared.fault.ReportFault.{ReportFault}
use Rattle.report_reader.specs.declared.fault.ReportFault.TheVariants.{At, Memory, Read}
use Rattle.report_reader.specs.Causes.{IsLineCause, StandsAfter}
use Rattle.report_reader.specs.Inner.Reads.{IsReady, IsStop, Moves, Reads, Stops}
use Rattle.report_reader.specs.Inner.Told.{told}
use Rattle.report_reader.proofs.Moving.{no_move}

-- a line's judgement finds only what is wrong with its text
no_bytes : (d : Deck) (e : Expected) (line : List ℕ) → HasFlaw d e line flaw.Bytes → ⊥
no_bytes d version line h = cc
no_bytes d title line h = h
no_bytes d kind line h = cc
no_bytes d objective line h = h
no_bytes d (value word name) line h = h
no_bytes d basis line (inl h) = h
no_bytes d basis line (inr h) = cc
no_bytes d (basic more) line h = h
no_bytes d upper line (inl h) = h
no_bytes d upper line (inr h) = cc
no_bytes d (at least more) line h = h
no_bytes d log_or_end line (inl h) = cc
no_bytes d log_or_end line (inr h) = h.1
no_bytes d (entry more) line (h, inl k) = k.1
no_bytes d (entry more) line (h, inr k) = k.1
no_bytes d end line h = h

no_missing : (d : Deck) (e : Expected) (line : List ℕ) → HasFlaw d e line flaw.Missing → ⊥
no_missing d version line h = cc
no_missing d title line h = h
no_missing d kind line h = cc
no_missing d objective line h = h
no_missing d (value word name) line h = h
no_missing d basis line (inl h) = h
no_missing d basis line (inr h) = cc
no_missing d (basic more) line h = h
no_missing d upper line (inl h) = h
no_missing d upper line (inr h) = cc
no_missing d (at least more) line h = h
no_missing d log_or_end line (inl h) = cc
no_missing d log_or_end line (inr h) = h.1
no_missing d (entry more) line (h, inl k) = k.1
no_missing d (entry more) line (h, inr k) = k.1
no_missing d end line h = h

stands_judged : (d : Deck) (e : Expected) (line : List ℕ) (found : Flaw) (after : ReaderState) (number : ℕ) → HasFlaw d e line
    found → after.fault ≡ None → number ≡ after.count
    → StandsAfter after (At number found)
stands_judged d e line flaw.Bytes after number h sound is = absurd (no_bytes d e line h)
stands_judged d e line flaw.Missing after number h sound is = absurd (no_missing d e line h)
stands_judged d e line flaw.Long after number h sound is = (sound, is)
stands_judged d e line flaw.Word after number h sound is = (sound, is)
stands_judged d e line flaw.Number after number h sound is = (sound, is)
stands_judged d e line flaw.Name after number h sound is = (sound, is)
stands_judged d e line flaw.Rest after number h sound is = (sound, is)

pub match_as : {V : Type 0} {P Q : V → Type 0} {F G : Flaw → Type 0}
    (j : Result V Flaw) → ((v : V) → P v → Q v) → ((f : Flaw) → F f → G f) → MatchResult j P F → MatchResult j Q G
match_as (Ok v) found flawed h = found v h
match_as (Err f) found flawed h = flawed f h

pub match_both : {V : Type 0} (P Q : V → Type 0) (F : Flaw → Type 0) (j : Result V Flaw) → MatchResult j P F → IfOk j Q → MatchResult j (λ v. P v × Q v) F
match_both P Q F (Ok v) h k = (h, k)
match_both P Q F (Err f) h k = h

-- a line of a count that is not too large is that of its word and the number
pub count_line : (word line : List ℕ) (count : ℕ) → IsCountLine word line count → count < 2 ^ 64 - 1 → line ≡ number_line word count
count_line word line count is small =
    let value : digits_value is.text ≡ count = omega (arith, is.count_is) in
    is.line_is ∙ ap (λ t. word ++ 32 ∷ t) (sym (plain_decimal is.text is.plain (omega (arith, value))) ∙ ap decimal value)

-- a line that was answered whole
pub record IsWhole (before after : ReaderState) (left left' : Option (List ℕ)) (answer : mps.Line) (line : Line) : Type 0 where
  pub bytes : answer.bytes ≡ line.bytes
  pub number : answer.number ≡ one_more before.count
  pub short : length line.bytes ≤ report_line_limit
  pub moves : Moves before after left left' (line ∷ [])

pub whole_line : (before after : ReaderState) (left left' : Option (List ℕ)) (answer : mps.Line) → IsReady before
    → (a : AnswersLine before after left left' report_line_limit report_limit answer) → answer.longer ≡ false → IsWhole before after left left' answer a.line
whole_line before after left left' answer ready a whole =
    let short : length a.line.bytes ≤ report_line_limit = ltb-false report_line_limit (length a.line.bytes) (sym (ap (λ l. l.longer) a.answer_is) ∙ whole) in
    record {
      bytes = ap (λ l. l.bytes) a.answer_is ∙ take_all report_line_limit a.line.bytes short;
      number = ap (λ l. l.number) a.answer_is;
      short = short;
      moves = record {
        all = a.takes.all;
        ready = record { sound = a.fault ∙ ready.sound; within = a.within };
        count = a.count;
        since = omega (arith, a.since);
        sized = omega (arith, size_of-first (before.kept ++ a.takes.taken) a.line (lines_of after.kept) a.takes.first);
        short = All-cons (λ l. length l.bytes ≤ report_line_limit) a.line [] short (All-nil (λ l. length l.bytes ≤ report_line_limit));
      };
    }

-- the flaw of a line that was answered, among the lines that were left
next_flaw : (d : Deck) (e : Expected) (before after : ReaderState) (line : Line) (found : Flaw) (here next : Option (List Line))
    → here ≡ option_map (λ rest. (line ∷ []) ++ rest) next → before.since + size_of line ≤ report_limit
    → ((report_line_limit < length line.bytes) × (found ≡ flaw.Long)) ⊎ ((length line.bytes ≤ report_line_limit) × HasFlaw d e line.bytes found)
    → IfSome here (λ lines. HasNextFlaw d (e ∷ []) before.since lines found)
next_flaw d e before after line found here None is within h = subst (λ o. IfSome o (λ lines. HasNextFlaw d (e ∷ []) before.since lines found)) (sym is) tt
next_flaw d e before after line found here (Some rest) is within (inl h) =
    subst (λ o. IfSome o (λ lines. HasNextFlaw d (e ∷ []) before.since lines found)) (sym is) (inr (inl (within, h.0, h.1)))
next_flaw d e before after line found here (Some rest) is within (inr h) =
    subst (λ o. IfSome o (λ lines. HasNextFlaw d (e ∷ []) before.since lines found)) (sym is) (inr (inr (within, h.0, h.1)))

abbrev stops_here : (d : Deck) (before : ReaderState) (left : Option (List ℕ)) (e : Expected) → IsReady before → Stops d before left (e ∷ [])
stops_here d before left e ready =
    record { after = before; left_after = left; lines = []; moves = no_move before left ready; one = e; others = []; met = refl }

module _ {S V : Type 0} (d : Deck) (remaining : S → Option (List ℕ)) (fault_count : S → ℕ) (before after : ReaderState) (old new : S)
    (e : Expected) (next : V → List Expected) (Is : V → List (List ℕ) → Type 0) (ready : IsReady before) where
  judged_whole : (answer : mps.Line) (line : Line) (j : Result V Flaw) → IsWhole before after (remaining old) (remaining new) answer
      line → fault_count new ≡ fault_count old
      → MatchResult j (λ v. Meets d e line.bytes (next v) × Is v (line.bytes ∷ [])) (HasFlaw d e line.bytes)
      → Reads d remaining fault_count before after old new (e ∷ []) next Is (told answer.number j)
  judged_whole answer line (Ok v) is same meets = record {
    found = record { lines = line ∷ []; moves = is.moves; met = (next v, meets.0, append-nil (next v)); holds = meets.1 };
    stop = tt;
    stands = tt;
    stays = λ _. same;
    never_falls = omega (arith, same);
  }
  judged_whole answer line (Err found) is same flawed = record {
    found = tt;
    stop = (
      stops_here d before (remaining old) e ready,
      is.number,
      next_flaw d e before after line found (lines_left before.kept (remaining old)) (lines_left after.kept (remaining new)) is.moves.all
          (omega (arith, is.moves.since, is.moves.ready.within)) (inr (is.short, flawed)),
    );
    stands = stands_judged d e line.bytes found after answer.number flawed is.moves.ready.sound (is.number ∙ sym is.moves.count);
    stays = λ _. same;
    never_falls = omega (arith, same);
  }

  -- a line that was answered, and its judgement
  pub line_judged : (answer : mps.Line) (text : List ℕ) (j : Result V Flaw) (r : Result V ReportFault)
      → AnswersLine before after (remaining old) (remaining new) report_line_limit report_limit answer → answer.longer ≡ false → fault_count new ≡ fault_count old
      → text ≡ answer.bytes → MatchResult j (λ v. Meets d e text (next v) × Is v (text ∷ [])) (HasFlaw d e text) → r ≡ told answer.number j
      → Reads d remaining fault_count before after old new (e ∷ []) next Is r
  line_judged answer text j r a whole same text_is judged told_is =
      let is = whole_line before after (remaining old) (remaining new) answer ready a whole in
      subst (Reads d remaining fault_count before after old new (e ∷ []) next Is) (sym told_is)
      (judged_whole answer a.line j is same (subst (λ t. MatchResult j (λ v. Meets d e t (next v) × Is v (t ∷ [])) (HasFlaw d e t)) (text_is ∙ is.bytes) judged))

  line_cause : (f : ReportFault) → IsLineCause before after (remaining old) (remaining new) (fault_count old) (fault_count new) f
      → IsStop d before (remaining old) (remaining new) (fault_count old) (fault_count new) (e ∷ []) f
  line_cause Memory h = tt
  line_cause Read h = (stops_here d before (remaining old) e ready, h)
  line_cause (At number flaw.Bytes) (is, h) = (stops_here d before (remaining old) e ready, is, each (lines_left before.kept (remaining old)) h)
    where
      each : (here : Option (List Line)) → IfSome here (λ lines. report_limit < before.since + first_size lines) → IfSome here
          (λ lines. HasNextFlaw d (e ∷ []) before.since lines flaw.Bytes)
      each None h = tt
      each (Some []) h = absurd (omega (arith, h, ready.within))
      each (Some (line ∷ rest)) h = inl (h, refl)
  line_cause (At number flaw.Long) (is, (line, a, long)) = (
    stops_here d before (remaining old) e ready,
    is,
    next_flaw d e before after a.line flaw.Long (lines_left before.kept (remaining old)) (lines_left after.kept (remaining new)) a.takes.all
        (omega (arith, a.since, a.within))
        (inl (ltb-true report_line_limit (length a.line.bytes) (sym (ap (λ l. l.longer) a.answer_is) ∙ long), refl)),
  )
  line_cause (At number flaw.Missing) (is, h) = (stops_here d before (remaining old) e ready, is, each (remaining old) h.1)
    where
      each : (left : Option (List ℕ)) → IfSome left (λ bytes. bytes ≡ []) → IfSome (lines_left before.kept left)
          (λ lines. HasNextFlaw d (e ∷ []) before.since lines flaw.Missing)
      each None k = tt
      each (Some bytes) k = rw (h.0, k) refl
  line_cause (At number flaw.Word) (is, h) = absurd h
  line_cause (At number flaw.Number) (is, h) = absurd h
  line_cause (At number flaw.Name) (is, h) = absurd h
  line_cause (At number flaw.Rest) (is, h) = absurd h

  -- no line was answered
  pub line_refused : (f : ReportFault) (r : Result V ReportFault) → IsLineCause before after (remaining old) (remaining new) (fault_count old) (fault_count new) f
      → StandsAfter after f → (¬ IsErrOf {T = mps.Line} (Err f) Read → fault_count new ≡ fault_count old) → fault_count old ≤ fault_count new → IsErrAnd r (λ g. g ≡ f)
      → Reads d remaining fault_count before after old new (e ∷ []) next Is r
  line_refused f r cause stands stays never same =
      let at = err_from_is_err_and r same in
      subst (Reads d remaining fault_count before after old new (e ∷ []) next Is) (sym (at.1 ∙ ap Err at.2)) (record {
        found = tt;
        stop = line_cause f cause;
        stands = stands;
        stays = λ other. stays (λ e. let read : f ≡ Read = cc in other (ap Err read));
        never_falls = never;
      })
