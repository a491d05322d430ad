-- Calls that take lines of a report, one after another.
use Rattle.std.proofs.Common.{◌≡◌, ℕ, List, [], ◌∷◌, ◌++◌, Option, None, Some, IfSome, Result, Ok, Err, refl, sym, ◌∙◌, ap, subst, arith, append-nil}
use Rattle.std.specs.Result.{IsErrAnd}
use Rattle.std.proofs.lemmas.Result.{err_from_is_err_and}
use Rattle.lp_model.specs.Deck.{Deck}
use Rattle.mps_cards.specs.ReaderState.{ReaderState}
use Rattle.report_lines.specs.declared.flaw.Flaw.{Flaw}
use Rattle.lp_text.specs.Lines.{Line}
use Rattle.mps_cards.specs.NextLine.{lines_left}
use Rattle.report_lines.specs.FirstFlaw.{Expected, HasNextFlaw, Reaches, bytes_of}
use Rattle.report_reader.specs.declared.fault.ReportFault.{ReportFault}
use Rattle.report_reader.specs.declared.fault.ReportFault.TheVariants.{At, Memory, Read}
use Rattle.report_reader.specs.Inner.Reads.{Found, IsReady, IsStop, Reads, Stops}
use Rattle.report_reader.proofs.Moving.{bytes_of-append, found_longer, found_none, found_then, moves_then, reaches_longer, reaches_then}

-- what was taken so far, and where the next call stopped
abbrev stops_then : (d : Deck) (before mid : ReaderState) (left left1 : Option (List ℕ)) (E F : List Expected) (Is : List (List ℕ) → Type 0) → (G : List Expected)
    → Found d before mid left left1 E (F ++ G) Is → Stops d mid left1 F → Stops d before left E
stops_then d before mid left left1 E F Is G h s = record {
  after = s.after;
  left_after = s.left_after;
  lines = h.lines ++ s.lines;
  moves = moves_then before mid s.after left left1 s.left_after h.lines s.lines h.moves s.moves;
  one = s.one;
  others = s.others ++ G;
  met = subst (λ ls. Reaches d E ls ((s.one ∷ s.others) ++ G)) (sym (bytes_of-append h.lines s.lines))
      (reaches_then d E (F ++ G) ((s.one ∷ s.others) ++ G) (bytes_of h.lines) (bytes_of s.lines) h.met
      (reaches_longer d F G (s.one ∷ s.others) (bytes_of s.lines) s.met));
}

flaw_longer : (d : Deck) (one : Expected) (others more : List Expected) (used : ℕ) (lines : List Line) (found : Flaw) → HasNextFlaw d (one ∷ others) used lines found
    → HasNextFlaw d (one ∷ more) used lines found
flaw_longer d one others more used [] found h = h
flaw_longer d one others more used (line ∷ lines) found h = h

flaw_among : (d : Deck) (one : Expected) (others more : List Expected) (used : ℕ) (here : Option (List Line)) (found : Flaw) → IfSome here
    (λ lines. HasNextFlaw d (one ∷ others) used lines found)
    → IfSome here (λ lines. HasNextFlaw d (one ∷ more) used lines found)
flaw_among d one others more used None found h = tt
flaw_among d one others more used (Some lines) found h = flaw_longer d one others more used lines found h

stop_then : (d : Deck) (before mid : ReaderState) (left left1 left2 : Option (List ℕ)) (faults faults1 : ℕ) (E F G : List Expected) (Is : List (List ℕ) → Type 0)
    → Found d before mid left left1 E (F ++ G) Is → (f : ReportFault) → IsStop d mid left1 left2 faults faults1 F f → IsStop d before left left2 faults faults1 E f
stop_then d before mid left left1 left2 faults faults1 E F G Is h Memory k = tt
stop_then d before mid left left1 left2 faults faults1 E F G Is h Read (s, fails) = (stops_then d before mid left left1 E F Is G h s, fails)
stop_then d before mid left left1 left2 faults faults1 E F G Is h (At number found) (s, is, flaw) =
    (stops_then d before mid left left1 E F Is G h s, is, flaw_among d s.one s.others (s.others ++ G) s.after.since (lines_left s.after.kept s.left_after) found flaw)

module _ {S : Type 0} (d : Deck) (remaining : S → Option (List ℕ)) (fault_count : S → ℕ) (before : ReaderState) (old : S) where
  -- what was taken so far, with no fault of the source
  pub record SoFar (here : ReaderState) (source : S) (expected next : List Expected) (Is : List (List ℕ) → Type 0) : Type 0 where
    pub found : Found d before here (remaining old) (remaining source) expected next Is
    pub same : fault_count source ≡ fault_count old

  pub none_yet : (E : List Expected) (Is : List (List ℕ) → Type 0) → IsReady before → Is [] → SoFar before old E E Is
  none_yet E Is ready is = record { found = found_none d before (remaining old) E Is ready is; same = refl }

  module _ {V : Type 0} (mid after : ReaderState) (source new : S) (E F G H : List Expected) (split : H ≡ F ++ G) (next : V → List Expected)
      (P : List (List ℕ) → Type 0) (Is : V → List (List ℕ) → Type 0)
      (so_far : SoFar mid source E H P) where
    expecting : Found d before mid (remaining old) (remaining source) E (F ++ G) P
    expecting = subst (λ H. Found d before mid (remaining old) (remaining source) E H P) split so_far.found

    -- the next call has taken its lines too
    pub also : {v : V} (Q : List (List ℕ) → Type 0) → ((ls ms : List (List ℕ)) → P ls → Is v ms → Q (ls ++ ms))
        → Reads d remaining fault_count mid after source new F next Is (Ok v) → SoFar after new E (next v ++ G) Q
    also {v} Q both reads = record {
      found = found_then d before mid after (remaining old) (remaining source) (remaining new) E (F ++ G) (next v ++ G) P (Is v) Q both expecting
          (found_longer d mid after (remaining source) (remaining new) F G (next v) (Is v) reads.found);
      same = reads.stays (λ e. cc) ∙ so_far.same;
    }

    -- or it was refused, and so is the whole
    pub refused : {W : Type 0} {f : ReportFault} (next' : W → List Expected) (Is' : W → List (List ℕ) → Type 0) (r : Result W ReportFault)
        → Reads d remaining fault_count mid after source new F next Is (Err f) → IsErrAnd r (λ g. g ≡ f) → Reads d remaining fault_count before after
        old new E next' Is' r
    refused {W} {f} next' Is' r reads same =
        let at = err_from_is_err_and r same in
        subst (Reads d remaining fault_count before after old new E next' Is') (sym (at.1 ∙ ap Err at.2)) (record {
          found = tt;
          stop = subst (λ n. IsStop d before (remaining old) (remaining new) n (fault_count new) E f) so_far.same
              (stop_then d before mid (remaining old) (remaining source) (remaining new) (fault_count source) (fault_count new) E F G P expecting f reads.stop);
          stands = reads.stands;
          stays = λ other. reads.stays (λ e. other (cc)) ∙ so_far.same;
          never_falls = omega (arith, reads.never_falls, so_far.same);
        })

  -- all was taken
  pub done : {W : Type 0} (here : ReaderState) (source : S) (E G : List Expected) (P : List (List ℕ) → Type 0) (next : W → List Expected)
      (Is : W → List (List ℕ) → Type 0) (w : W)
      → SoFar here source E G P → G ≡ next w → ((ls : List (List ℕ)) → P ls → Is w ls) → Reads d remaining fault_count before here old source E next Is (Ok w)
  done here source E G P next Is w so_far same holds = record {
    found = record {
      lines = so_far.found.lines;
      moves = so_far.found.moves;
      met = subst (Reaches d E (bytes_of so_far.found.lines)) same so_far.found.met;
      holds = holds (bytes_of so_far.found.lines) so_far.found.holds;
    };
    stop = tt;
    stands = tt;
    stays = λ _. so_far.same;
    never_falls = omega (arith, so_far.same);
  }

  -- memory is wanting
  pub wants : {W : Type 0} (here : ReaderState) (source : S) (E G : List Expected) (P : List (List ℕ) → Type 0) (next : W → List Expected)
      (Is : W → List (List ℕ) → Type 0) (r : Result W ReportFault)
      → SoFar here source E G P → IsErrAnd r (λ g. g ≡ Memory) → Reads d remaining fault_count before here old source E next Is r
  wants here source E G P next Is r so_far same =
      let at = err_from_is_err_and r same in
      subst (Reads d remaining fault_count before here old source E next Is) (sym (at.1 ∙ ap Err at.2)) (record {
        found = tt;
        stop = tt;
        stands = tt;
        stays = λ _. so_far.same;
        never_falls = omega (arith, so_far.same);
      })

  -- whatever the next call answers
  pub ends : {V : Type 0} (mid after : ReaderState) (source new : S) (E H : List Expected) (next : V → List Expected) (P : List (List ℕ) → Type 0)
      (Is Is' : V → List (List ℕ) → Type 0)
      (r : Result V ReportFault) → SoFar mid source E H P → ((v : V) (ls ms : List (List ℕ)) → P ls → Is v ms → Is' v (ls ++ ms))
      → Reads d remaining fault_count mid after source new H next Is r → Reads d remaining fault_count before after old new E next Is' r
  ends mid after source new E H next P Is Is' (Ok v) so_far both reads =
      done after new E (next v ++ []) (Is' v) next Is' v (also mid after source new E H [] H (sym (append-nil H)) next P Is so_far (Is' v) (both v)
      reads) (append-nil (next v)) (λ ls h. h)
  ends mid after source new E H next P Is Is' (Err f) so_far both reads =
      refused mid after source new E H [] H (sym (append-nil H)) next P Is so_far next Is' (Err f) reads refl

module _ {S V : Type 0} (d : Deck) (remaining : S → Option (List ℕ)) (fault_count : S → ℕ) (before after : ReaderState) (old new : S) (E : List Expected)
    (next : V → List Expected) (Is : V → List (List ℕ) → Type 0) where
  -- what one call alone answers
  pub alone_refused : {W : Type 0} {f : ReportFault} (next' : W → List Expected) (Is' : W → List (List ℕ) → Type 0) (r : Result W ReportFault)
      → Reads d remaining fault_count before after old new E next Is (Err f) → IsErrAnd r (λ g. g ≡ f) → Reads d remaining fault_count before after old new E next' Is' r
  alone_refused {W} {f} next' Is' r reads same =
      let at = err_from_is_err_and r same in
      subst (Reads d remaining fault_count before after old new E next' Is') (sym (at.1 ∙ ap Err at.2)) (record {
        found = tt;
        stop = reads.stop;
        stands = reads.stands;
        stays = λ other. reads.stays (λ e. let read : f ≡ Read = cc in other (ap Err read));
        never_falls = reads.never_falls;
      })

  pub alone_done : {v : V} → Reads d remaining fault_count before after old new E next Is (Ok v) → SoFar d remaining fault_count before old after new E (next v) (Is v)
  alone_done {v} reads = record { found = reads.found; same = reads.stays (λ e. cc) }

-- ── the same, with what they speak of left to be found ──

module _ {S : Type 0} {d : Deck} {remaining : S → Option (List ℕ)} {fault_count : S → ℕ} {before here after : ReaderState} {old source new : S} {E F H : List Expected}
    {P : List (List ℕ) → Type 0} where
  -- the call that takes these lines was refused, where these and others are expected
  pub stopped : {V W : Type 0} {next : V → List Expected} {Is : V → List (List ℕ) → Type 0} {next' : W → List Expected}
      {Is' : W → List (List ℕ) → Type 0} {f : ReportFault}
      {r : Result W ReportFault} (G : List Expected) → H ≡ F ++ G → SoFar d remaining fault_count before old here source E H P
      → Reads d remaining fault_count here after source new F next Is (Err f) → IsErrAnd r (λ g. g ≡ f) → Reads d remaining fault_count before after old new E next' Is' r
  stopped {next = next} {Is = Is} {next' = next'} {Is' = Is'} {r = r} G split so_far reads same =
      refused d remaining fault_count before old here after source new E F G H split next P Is so_far next' Is' r reads same

  -- it has taken its lines
  pub taken : {V : Type 0} {next : V → List Expected} {Is : V → List (List ℕ) → Type 0} {v : V} (G : List Expected) (Q : List (List ℕ) → Type 0) → H ≡ F ++ G
      → ((ls ms : List (List ℕ)) → P ls → Is v ms → Q (ls ++ ms)) → SoFar d remaining fault_count before old here source E H P
      → Reads d remaining fault_count here after source new F next Is (Ok v) → SoFar d remaining fault_count before old after new E (next v ++ G) Q
  taken {next = next} {Is = Is} G Q split both so_far reads =
      also d remaining fault_count before old here after source new E F G H split next P Is so_far Q both reads

-- all was taken
pub finished : {S W : Type 0} {d : Deck} {remaining : S → Option (List ℕ)} {fault_count : S → ℕ} {before here : ReaderState} {old source : S}
    {E H : List Expected} {P : List (List ℕ) → Type 0}
    {next : W → List Expected} {Is : W → List (List ℕ) → Type 0} {w : W} → SoFar d remaining fault_count before old here source E H P → H ≡ next w
    → ((ls : List (List ℕ)) → P ls → Is w ls) → Reads d remaining fault_count before here old source E next Is (Ok w)
finished {d = d} {remaining = remaining} {fault_count = fault_count} {before = before} {here = here} {old = old} {source = source} {E = E} {H = H}
    {P = P} {next = next} {Is = Is} {w = w} so_far same holds =
    done d remaining fault_count before old here source E H P next Is w so_far same holds

-- what one call alone answers
pub alone : {S V : Type 0} {d : Deck} {remaining : S → Option (List ℕ)} {fault_count : S → ℕ} {before after : ReaderState} {old new : S}
    {E : List Expected} {next : V → List Expected}
    {Is : V → List (List ℕ) → Type 0} {v : V} → Reads d remaining fault_count before after old new E next Is (Ok v) → SoFar d remaining fault_count
    before old after new E (next v) (Is v)
alone {d = d} {remaining = remaining} {fault_count = fault_count} {before = before} {after = after} {old = old} {new = new} {E = E} {next = next} {Is = Is} reads =
    alone_done d remaining fault_count before after old new E next Is reads

pub refused_alone : {S V W : Type 0} {d : Deck} {remaining : S → Option (List ℕ)} {fault_count : S → ℕ} {before after : ReaderState} {old new : S}
    {E : List Expected} {next : V → List Expected}
    {Is : V → List (List ℕ) → Type 0} {next' : W → List Expected} {Is' : W → List (List ℕ) → Type 0} {f : ReportFault} {r : Result W ReportFault}
    → Reads d remaining fault_count before after old new E next Is (Err f) → IsErrAnd r (λ g. g ≡ f) → Reads d remaining fault_count before after old new E next' Is' r
refused_alone {d = d} {remaining = remaining} {fault_count = fault_count} {before = before} {after = after} {old = old} {new = new} {E = E}
    {next = next} {Is = Is} {next' = next'} {Is' = Is'} {r = r} reads same =
    alone_refused d remaining fault_count before after old new E next Is next' Is' r reads same

-- whatever the next call answers
pub ended : {S V : Type 0} {d : Deck} {remaining : S → Option (List ℕ)} {fault_count : S → ℕ} {before here after : ReaderState} {old source new : S} {E H : List Expected}
    {P : List (List ℕ) → Type 0} {next : V → List Expected} {Is Is' : V → List (List ℕ) → Type 0} {r : Result V ReportFault} → SoFar d remaining
    fault_count before old here source E H P
    → ((v : V) (ls ms : List (List ℕ)) → P ls → Is v ms → Is' v (ls ++ ms))
    → Reads d remaining fault_count here after source new H next Is r → Reads d remaining fault_count before after old new E next Is' r
ended {d = d} {remaining = remaining} {fault_count = fault_count} {before = before} {here = here} {after = after} {old = old} {source = source}
    {new = new} {E = E} {H = H} {P = P} {next = next} {Is = Is} {Is' = Is'} {r = r}
    so_far both reads = ends d remaining fault_count before old here after source new E H next P Is Is' r so_far both reads
