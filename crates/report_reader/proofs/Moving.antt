-- A reader that answers lines one after another, and what is expected of them.
use Rattle.std.proofs.Common.{◌≡◌, ℕ, zero, suc, ◌+◌, ◌≤◌, List, [], ◌∷◌, ◌++◌, length, map, sum, Option, None, Some, refl, sym, ◌∙◌, ap, subst, arith, append_assoc}
use Rattle.std.specs.Option.{option_map}
use Rattle.std.proofs.lemmas.List.{length-append, map-append}
use Rattle.std.proofs.lemmas.List.Sums.{sum_by-append}
use Rattle.std.proofs.lemmas.List.Elements.{All-append, All-nil}
use Rattle.io_ends.specs.Count.{one_more}
use Rattle.lp_model.specs.Deck.{Deck}
use Rattle.lp_text.specs.Limits.{report_line_limit}
use Rattle.lp_text.specs.Lines.{Line, size_of}
use Rattle.mps_cards.specs.NextLine.{lines_left}
use Rattle.mps_cards.specs.ReaderState.{ReaderState}
use Rattle.report_lines.specs.FirstFlaw.{Expected, Reaches, bytes_of, sizes}
use Rattle.report_reader.specs.Reading.{counted_on}
use Rattle.report_reader.specs.Inner.Reads.{Found, IsReady, Moves}

-- ── what is expected ──

pub reaches_longer : (d : Deck) (E F G : List Expected) (ls : List (List ℕ)) → Reaches d E ls G → Reaches d (E ++ F) ls (G ++ F)
reaches_longer d E F G [] same = ap (λ e. e ++ F) same
reaches_longer d [] F G (line ∷ ls) h = absurd h
reaches_longer d (e ∷ others) F G (line ∷ ls) (next, meets, h) =
    (next, meets, subst (λ E. Reaches d E ls (G ++ F)) (append_assoc next others F) (reaches_longer d (next ++ others) F G ls h))

pub reaches_then : (d : Deck) (E F G : List Expected) (ls ms : List (List ℕ)) → Reaches d E ls F → Reaches d F ms G → Reaches d E (ls ++ ms) G
reaches_then d E F G [] ms same h = subst (λ E. Reaches d E ms G) (sym same) h
reaches_then d [] F G (line ∷ ls) ms h k = absurd h
reaches_then d (e ∷ others) F G (line ∷ ls) ms (next, meets, h) k = (next, meets, reaches_then d (next ++ others) F G ls ms h k)

-- ── lines ──

pub bytes_of-append : (ls ms : List Line) → bytes_of (ls ++ ms) ≡ bytes_of ls ++ bytes_of ms
bytes_of-append ls ms = map-append (λ l. l.bytes) ls ms

pub sizes-append : (ls ms : List Line) → sizes (ls ++ ms) ≡ sizes ls + sizes ms
sizes-append ls ms = ap sum (map-append size_of ls ms) ∙ sum_by-append (λ n. n) (map size_of ls) (map size_of ms)

counted_on-add : (a b count : ℕ) → counted_on (a + b) count ≡ counted_on b (counted_on a count)
counted_on-add a zero count = let e : a + 0 ≡ a = omega arith in ap (λ n. counted_on n count) e
counted_on-add a (suc b) count =
    let e : a + suc b ≡ suc (a + b) = omega arith in
    ap (λ n. counted_on n count) e ∙ ap one_more (counted_on-add a b count)

option_map-append : (ls ms : List Line) (rest : Option (List Line))
    → option_map (λ r. ls ++ r) (option_map (λ r. ms ++ r) rest) ≡ option_map (λ r. (ls ++ ms) ++ r) rest
option_map-append ls ms None = refl
option_map-append ls ms (Some r) = ap Some (sym (append_assoc ls ms r))

option_map-nil : (o : Option (List Line)) → o ≡ option_map (λ r. [] ++ r) o
option_map-nil None = refl
option_map-nil (Some r) = refl

pub no_move : (reader : ReaderState) (left : Option (List ℕ)) → IsReady reader → Moves reader reader left left []
no_move reader left ready = record {
  all = option_map-nil (lines_left reader.kept left);
  ready = ready;
  count = refl;
  since = omega arith;
  sized = omega arith;
  short = All-nil (λ l. length l.bytes ≤ report_line_limit);
}

pub moves_then : (before mid after : ReaderState) (left left1 left2 : Option (List ℕ)) (ls ms : List Line)
    → Moves before mid left left1 ls → Moves mid after left1 left2 ms → Moves before after left left2 (ls ++ ms)
moves_then before mid after left left1 left2 ls ms h k = record {
  all = h.all ∙ ap (option_map (λ r. ls ++ r)) k.all ∙ option_map-append ls ms (lines_left after.kept left2);
  ready = k.ready;
  count = k.count ∙ ap (counted_on (length ms)) h.count ∙ sym (counted_on-add (length ls) (length ms) before.count) ∙ ap
      (λ n. counted_on n before.count) (sym (length-append ls ms));
  since = omega (arith, h.since, k.since, sizes-append ls ms);
  sized = omega (arith, h.sized, k.sized, sizes-append ls ms, length-append ls ms);
  short = All-append (λ l. length l.bytes ≤ report_line_limit) ls ms h.short k.short;
}

-- ── lines that are as expected ──

pub found_none : (d : Deck) (reader : ReaderState) (left : Option (List ℕ)) (E : List Expected) (Is : List (List ℕ) → Type 0) → IsReady reader → Is
    [] → Found d reader reader left left E E Is
found_none d reader left E Is ready is = record { lines = []; moves = no_move reader left ready; met = refl; holds = is }

pub found_longer : (d : Deck) (before after : ReaderState) (left left' : Option (List ℕ)) (E F G : List Expected) (Is : List (List ℕ) → Type 0)
    → Found d before after left left' E G Is → Found d before after left left' (E ++ F) (G ++ F) Is
found_longer d before after left left' E F G Is h =
    record { lines = h.lines; moves = h.moves; met = reaches_longer d E F G (bytes_of h.lines) h.met; holds = h.holds }

pub found_then : (d : Deck) (before mid after : ReaderState) (left left1 left2 : Option (List ℕ)) (E F G : List Expected) (P Q R : List (List ℕ) → Type 0)
    → ((ls ms : List (List ℕ)) → P ls → Q ms → R (ls ++ ms)) → Found d before mid left left1 E F P → Found d mid after left1 left2 F G Q
    → Found d before after left left2 E G R
found_then d before mid after left left1 left2 E F G P Q R both h k = record {
  lines = h.lines ++ k.lines;
  moves = moves_then before mid after left left1 left2 h.lines k.lines h.moves k.moves;
  met = subst (λ ls. Reaches d E ls G) (sym (bytes_of-append h.lines k.lines)) (reaches_then d E F G (bytes_of h.lines) (bytes_of k.lines) h.met k.met);
  holds = subst R (sym (bytes_of-append h.lines k.lines)) (both (bytes_of h.lines) (bytes_of k.lines) h.holds k.holds);
}
