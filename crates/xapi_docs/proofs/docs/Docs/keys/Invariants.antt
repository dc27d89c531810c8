use Rattle.xapi_docs.proofs.Listed.{WalksKeys}
use Rattle.xapi_docs.proofs.docs.Docs.keys.Given as goal

abbrev pub invariant-loop-key : goal.invariant-loop-key
invariant-loop-key l =
    (goal.iterator-loop-key).can_next l.key-iterator × (goal.iterator-loop-key).is_finite l.key-iterator
    × WalksKeys l.activity l.agent l.registration l.state l.keys l.key-iterator l.self
