use Rattle.std.specs.Prelude.{◌≡◌, take}
use Rattle.mps_reader.proofs.CrossedColumns.{AreUncrossed, given_ends}
use Rattle.mps_reader.proofs.draft.Draft.into_deck.Given as goal

-- the columns before this one have their ends, which do not cross
abbrev pub invariant-loop-column : goal.invariant-loop-column
invariant-loop-column l = record {
  given : l.deck ≡ given_ends l.fn.self.deck (take l.column l.ends-items);
  uncrossed : AreUncrossed l.ends-items l.column;
}
