use Rattle.std.proofs.Common.{ℕ, List, Option, OnOk, subst, sym}
use Rattle.lrs_record.specs.Entries.{HoldsWrite}
use Rattle.lrs_record.specs.declared.entry.Write.TheVariants as write
use Rattle.lrs_record.proofs.store_writes.put_drop.Goals as goal

pub returns-in-None-clause-holds : goal.returns-in-None-clause-holds
returns-in-None-clause-holds c =
    let P : Option (List ℕ) → Type 0 = λ registration. OnOk c.put_drop_anywhere.result (HoldsWrite (write.Drop c.args.activity.now c.args.agent.now registration c.args.state.now)) in
    subst P (sym c.in-None.is) c.put_drop_anywhere.ensures.holds
