-- Worked reports.
use Rattle.std.proofs.Common.{◌≡◌, [], ◌∷◌, None, Some, pos, negsuc, refl}
use Rattle.std.specs.Prelude.{codes}
use Rattle.std.specs.Fmt.{digits}
use Rattle.rational.specs.Rational.{whole, zero_ℚ}
use Rattle.lp_model.specs.Deck.{Deck, nonnegative}
use Rattle.lp_model.specs.Edit.{new_deck}
use Rattle.lp_model.specs.declared.RowKind.TheVariants.{L}
use Rattle.lp_model.specs.declared.Entry.TheVariants.{Swap}
use Rattle.lp_model.specs.declared.Side.TheVariants as side
use Rattle.lp_model.specs.Outcome.{optimal}
use Rattle.lp_text.specs.Lines.{text_of}
use Rattle.lp_text.specs.Report.{report_text, text_of_report}

two_rows : Deck
two_rows = record (new_deck (codes "T") (codes "COST")) {
  rows = record { name = codes "R1"; kind = L; right = whole (pos 4); range = None } ∷ record { name = codes "R2"; kind = L; right = whole (pos 6); range = None } ∷ [];
  columns = record { name = codes "X"; cost = whole (negsuc 2); entries = (0, whole (pos 1)) ∷ (1, whole (pos 1)) ∷ []; bounds = nonnegative }
      ∷ record { name = codes "Y"; cost = whole (negsuc 1); entries = (0, whole (pos 1)) ∷ (1, whole (pos 3)) ∷ []; bounds = nonnegative } ∷ [];
}

two_rows-reported : report_text two_rows (optimal (whole (pos 4) ∷ whole (pos 0) ∷ []) (whole (negsuc 2) ∷ whole (pos 0) ∷ []) (whole (negsuc 11))) None
    ≡ text_of (codes "LPCERT 1" ∷ codes "DECK T" ∷ codes "OPTIMAL" ∷ codes "OBJECTIVE -12" ∷ codes "VALUE 4 X" ∷ codes "VALUE 0 Y" ∷ codes "PRICE -3 R1" ∷ codes "PRICE 0 R2" ∷ codes "END" ∷ [])
unfolding two_rows whole zero_ℚ digits
two_rows-reported = refl

-- of version 2: the structural X and the logical of R2 are basic, and the logical of R1 stands at its upper end
two_rows-reported-with-basis : text_of_report two_rows (record {
  outcome = optimal (whole (pos 4) ∷ whole (pos 0) ∷ []) (whole (negsuc 2) ∷ whole (pos 0) ∷ []) (whole (negsuc 11));
  basis = Some (record { basic = 0 ∷ 3 ∷ []; upper = 2 ∷ [] });
  log = Some (Swap 0 0 side.Upper ∷ []);
})
    ≡ text_of (codes "LPCERT 2" ∷ codes "DECK T" ∷ codes "OPTIMAL" ∷ codes "OBJECTIVE -12" ∷ codes "VALUE 4 X" ∷ codes "VALUE 0 Y" ∷ codes "PRICE -3 R1" ∷ codes "PRICE 0 R2"
    ∷ codes "BASIS 2" ∷ codes "BASIC 0" ∷ codes "BASIC 3" ∷ codes "UPPER 1" ∷ codes "AT 2" ∷ codes "LOG 1" ∷ codes "SWAP 0 0 UPPER" ∷ codes "END" ∷ [])
unfolding two_rows whole zero_ℚ digits
two_rows-reported-with-basis = refl
