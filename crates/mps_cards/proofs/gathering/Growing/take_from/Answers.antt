use Rattle.std.proofs.Common.{◌≡◌, ◌+◌, ◌∙◌, ap, drop, sym, refl, arith}
use Rattle.mps_cards.proofs.PieceLemmas.{BeginsWith-piece_of, piece_to, size_of-piece_to}
use Rattle.lp_text.specs.Lines.{size_of}
use Rattle.mps_cards.proofs.gathering.Growing.take_from.Goals as goal

pub returns-then-asked-self-clause-fault : goal.returns-then-asked-self-clause-fault
returns-then-asked-self-clause-fault c =
    let bytes = c.bytes-bytes.result.now in
    let end = c.first_place-end.result in
    let size : size_of (piece_to end bytes) ≡ end + c.from.result =
    size_of-piece_to bytes end c.first_place-end.ensures.within ∙ ap (λ n. end + n) (sym c.from.ensures) in (
      refl,
      record {
        piece = piece_to end bytes;
        rest = drop (end + c.from.result) c.args.ahead.now;
        found = BeginsWith-piece_of c.args.ahead.now bytes end c.from.result c.bytes-bytes.ensures c.from.ensures c.first_place-end.ensures.within
            c.first_place-end.ensures.before c.first_place-end.ensures.found;
        over = omega (arith, size);
      },
    )

pub returns-clause-ok : goal.returns-clause-ok
returns-clause-ok c =
    let bytes = c.bytes-bytes.result.now in
    let end = c.first_place-end.result in
    let size : size_of (piece_to end bytes) ≡ end + c.from.result =
    size_of-piece_to bytes end c.first_place-end.ensures.within ∙ ap (λ n. end + n) (sym c.from.ensures) in record {
      piece = piece_to end bytes;
      found = rw (c.skip.ensures) (BeginsWith-piece_of c.args.ahead.now bytes end c.from.result c.bytes-bytes.ensures c.from.ensures
          c.first_place-end.ensures.within c.first_place-end.ensures.before c.first_place-end.ensures.found);
      grows = record {
        bytes = c.in_ok-keep.ensures.bytes;
        longer = c.in_ok-keep.ensures.longer;
        through = omega (arith, size, c.keep.ensures.through);
        within = omega (arith, size, c.keep.ensures.through);
      };
      ends = refl;
    }
