use Rattle.std.proofs.Common.{refl, Some}
use Rattle.lrs_hall.specs.Conversation.{going}
use Rattle.lrs_routes.proofs.OneAsked.{one_asked}
use Rattle.lrs_hall.proofs.OneStream.{agree}
use Rattle.lrs_time.proofs.OneText.{one_text}
use Rattle.lrs_hall.proofs.laws.law_of_one_stream.Goals as goal
use Rattle.lrs_http.specs.declared.reading.TheConstants.{MOST_REQUESTS}

pub returns : goal.returns
returns c = λ limit line_a line_b records_a records_b own_a own_b tide_a tide_b stream draws readings a b out_a out_b end_a end_b at front_a front_b talks_a talks_b smooth_a smooth_b.
    agree one_asked one_text limit line_a line_b (going MOST_REQUESTS (Some stream)) a.receipts b.receipts out_a out_b a.finish b.finish _ _ end_a end_b readings
    (record { draws = refl; at = at }) tt front_a front_b talks_a talks_b smooth_a.statuses smooth_b.statuses
    (smooth_a.memory, smooth_a.link) (smooth_b.memory, smooth_b.link)
