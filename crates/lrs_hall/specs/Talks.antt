-- What is seen of a conversation.
use Rattle.std.specs.Prelude.{List}
use Rattle.lrs_machine.specs.Acts.{Receipt}
use Rattle.lrs_hall.specs.declared.talk.Finish.{Finish}

pub record Talk : Type 0 where
  pub receipts : List Receipt
  pub finish : Finish
