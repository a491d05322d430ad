use Rattle.std.proofs.Common.{ap, ◌∙◌, take}
use Rattle.std.specs.List.{list_all}
use Rattle.std.proofs.lemmas.List.{take_min}
use Rattle.lp_text.specs.Cards.{is_printable}
use Rattle.mps_free.proofs.cutting.front_prints.Goals as goal

pub returns : goal.returns
returns c = c.prints.ensures ∙ ap (λ n. list_all is_printable (take n c.args.text.now)) c.min.ensures ∙ ap (list_all is_printable) (take_min 255 c.args.text.now)
