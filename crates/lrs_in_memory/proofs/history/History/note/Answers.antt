use Rattle.std.proofs.Common.{◌≡◌, ◌++◌, ◌∷◌, [], rules}
use Rattle.lrs_in_memory.proofs.CallLists.{steps-push}
use Rattle.lrs_in_memory.proofs.history.History.note.Goals as goal

pub returns-clause-steps : goal.returns-clause-steps
returns-clause-steps c =
    let log : c.extend_from_slice.new.self.items ≡ c.args.self.now.log.items ++ c.args.bytes.now = search rules in
    let calls : c.push.new.self.items ≡ c.args.self.now.calls.items ++ c.args.call ∷ [] = search rules in
    rw (log, calls) (steps-push c.args.self.now.calls.items c.args.self.now.log.items c.args.call c.args.bytes.now c.args.self.now.logged c.requires.size)
