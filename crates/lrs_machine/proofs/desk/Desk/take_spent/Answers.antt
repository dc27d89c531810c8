use Rattle.lrs_machine.proofs.desk.Desk.take_spent.Goals as goal

pub invariant_of-self : goal.invariant_of-self
invariant_of-self g c = c.self.invariant

pub returns : goal.returns
returns g c = c.self.view_is
