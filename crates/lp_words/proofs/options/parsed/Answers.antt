use Rattle.std.proofs.Common.{map}
use Rattle.std.specs.String.{string_bytes}
use Rattle.std.proofs.lemmas.Result.{IfErr-weaker, IfOk-weaker}
use Rattle.lp_words.proofs.Matches.{app_takes, matches_agree}
use Rattle.lp_words.proofs.options.parsed.Goals as goal

-- the rows of the matches are those of the walk, which has the options that are given
pub returns-clause-ok : goal.returns-clause-ok
returns-clause-ok c given e =
    IfOk-weaker c.try_get_matches_from.result _ _ (λ m has. matches_agree _ (map string_bytes c.args.words.now) given m c.in_ok-command.ensures e has) c.try_get_matches_from.ensures.matches

-- the words are taken, so that only memory can be wanting
pub returns-clause-err : goal.returns-clause-err
returns-clause-err c =
    IfErr-weaker c.try_get_matches_from.result _ _ (λ e taken. taken (app_takes _ (map string_bytes c.args.words.now) c.in_ok-command.ensures c.requires)) c.try_get_matches_from.ensures.passes
