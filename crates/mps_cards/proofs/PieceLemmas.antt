-- The piece of a line with which bytes begin.
use Rattle.std.proofs.Common.{◌≡◌, ℕ, ◌+◌, ◌≤◌, ◌<◌, true, false, List, [], ◌∷◌, ◌++◌, take, drop, length, get_or, nat_lt, refl, add-zero, sym, ap, ◌∙◌, append_assoc, inl, inr, slice_index}
use Rattle.std.proofs.lemmas.List.{append-nil, drop_more, take-append-drop, take_all, drop_all, length-take-le}
use Rattle.std.proofs.lemmas.Bool.{cases_lt, le-ltb, lt-ltb}
use Rattle.std.specs.Int.{from_bool}
use Rattle.lp_text.specs.Lines.{Line as TextLine, size_of}
use Rattle.lp_text.specs.Inner.LineText.{IsFreeOfFeeds}
use Rattle.mps_cards.specs.Inner.Pieces.{BeginsWith}

-- the bytes up to the place of the first line feed, or all of them
abbrev pub piece_to : ℕ → List ℕ → TextLine
piece_to end bytes = record { bytes = take end bytes; is_ended = nat_lt end (length bytes) }

BeginsWith-feed : (bytes : List ℕ) (end : ℕ) → end < length bytes → IsFreeOfFeeds (take end bytes) → get_or bytes end 0 ≡ 10
    → BeginsWith bytes (record { bytes = take end bytes; is_ended = true }) (drop (end + 1) bytes)
BeginsWith-feed bytes end within free feed = record {
  text =
      let rest : drop end bytes ≡ 10 ∷ drop (end + 1) bytes = drop_more bytes end 0 within ∙ ap (λ c. c ∷ drop (end + 1) bytes) feed in
      sym (take-append-drop end bytes) ∙ ap (λ r. take end bytes ++ r) rest ∙ simp append_assoc;
  free = free;
  last = λ wrong. cc;
}

BeginsWith-all : (bytes : List ℕ) (end : ℕ) → length bytes ≤ end → IsFreeOfFeeds (take end bytes)
    → BeginsWith bytes (record { bytes = take end bytes; is_ended = false }) []
BeginsWith-all bytes end within free = record {
  text = rw (take_all end bytes within) (simp append-nil);
  free = free;
  last = λ _. refl;
}

-- the bytes through the piece are as many as its size says
pub size_of-piece_to : (bytes : List ℕ) (end : ℕ) → end ≤ length bytes
    → size_of (piece_to end bytes) ≡ end + from_bool (nat_lt end (length bytes))
size_of-piece_to bytes end within =
    let len : length (take end bytes) ≡ end = length-take-le end bytes within in
    elim (cases_lt end (length bytes)) [
      | inl before ↦ rw (lt-ltb end (length bytes) before, len) refl
      | inr past ↦ rw (le-ltb end (length bytes) past, len) refl
    ]

pub BeginsWith-piece_to : (bytes : List ℕ) (end : ℕ) → end ≤ length bytes → IsFreeOfFeeds (take end bytes)
    → (end < length bytes → slice_index bytes end ≡ 10)
    → BeginsWith bytes (piece_to end bytes) (drop (end + from_bool (nat_lt end (length bytes))) bytes)
BeginsWith-piece_to bytes end within free feed = elim (cases_lt end (length bytes)) [
  | inl before ↦ rw (lt-ltb end (length bytes) before) (BeginsWith-feed bytes end before free (feed before))
  | inr past ↦ rw (le-ltb end (length bytes) past, add-zero, drop_all end bytes past) (BeginsWith-all bytes end past free)
]

-- the same of bytes that were read from elsewhere
pub BeginsWith-piece_of : (ahead bytes : List ℕ) (end one : ℕ) → bytes ≡ ahead → one ≡ from_bool (nat_lt end (length bytes))
    → end ≤ length bytes → IsFreeOfFeeds (take end bytes) → (end < length bytes → slice_index bytes end ≡ 10)
    → BeginsWith ahead (piece_to end bytes) (drop (end + one) ahead)
BeginsWith-piece_of ahead bytes end one same one_is within free feed =
    rw (← same, one_is) (BeginsWith-piece_to bytes end within free feed)
