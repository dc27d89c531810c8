use Rattle.xapi_docs.proofs.Listed.{WalksIds}
use Rattle.xapi_docs.proofs.docs.Docs.ids.Given as goal

abbrev pub invariant-loop-key : goal.invariant-loop-key
invariant-loop-key l =
    (goal.iterator-loop-key).can_next l.key-iterator × (goal.iterator-loop-key).is_finite l.key-iterator
    × WalksIds l.activity l.agent l.registration l.since l.ids.items l.key-iterator l.self
