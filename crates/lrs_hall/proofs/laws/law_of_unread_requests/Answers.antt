use Rattle.lrs_hall.specs.Acts.{ActsIn}
use Rattle.lrs_hall.proofs.Unread.{as_asked}
use Rattle.lrs_hall.proofs.laws.law_of_unread_requests.Goals as goal

pub returns : goal.returns
returns c = λ limit line closes request asked receipt text old new. as_asked (ActsIn limit line) closes request asked receipt text old new
