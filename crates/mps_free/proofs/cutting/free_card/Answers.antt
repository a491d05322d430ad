use Rattle.std.proofs.Common.{ap, ◌∙◌, subst, sym}
use Rattle.lp_text.specs.FreeCards.{free_card_in}
use Rattle.mps_free.specs.Cutting.{Says}
use Rattle.mps_free.proofs.CuttingLemmas.{card-answered}
use Rattle.mps_free.proofs.cutting.free_card.Goals as goal

pub returns : goal.returns
returns c = λ keep whole same.
    subst (λ what. Says c.args.line.now.number what c.word_card.result)
    (ap free_card_in c.kept_bytes.ensures ∙ sym (card-answered c.args.line.now keep whole same c.requires)) c.word_card.ensures
