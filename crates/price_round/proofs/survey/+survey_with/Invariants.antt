use Rattle.std.proofs.Common.{vec_len}
use Rattle.price_round.proofs.survey.+survey_with.Given as goal

abbrev pub decreases-survey_with : goal.decreases-survey_with
decreases-survey_with l = vec_len l.seats
