use Rattle.std.proofs.Common.{◌≡◌, List, [], Bool, drop, sym, ap, ◌∙◌, subst}
use Rattle.std.proofs.lemmas.List.{nil_from_length}
use Rattle.std.specs.Vec.Iter.{into_iter_items}
use Rattle.lrs_learning.specs.LrsPartsParts.{state_of}
use Rattle.lrs_reads.specs.LrsRefusalsKnown.{TellsNext}
use Rattle.lrs_fold.proofs.fold.Fold.is_next_held.Goals as goal

pub returns-in-Some-clause-held : goal.returns-in-Some-clause-held
returns-in-Some-clause-held c = subst (λ (flags : List Bool). TellsNext (state_of c.args.self.now.parts) flags c.args.id.now) c.in-Some.ensures.items c.requires

pub returns-in-Some-clause-rest : goal.returns-in-Some-clause-rest
returns-in-Some-clause-rest c = sym (ap (λ (flags : List Bool). drop 1 flags) c.in-Some.ensures.items)

pub returns-in-None-clause-rest : goal.returns-in-None-clause-rest
returns-in-None-clause-rest c =
    let it = c.args.held.now in
    let none : into_iter_items it ≡ [] = nil_from_length (into_iter_items it) (sym it.rest.ok.0 ∙ c.in-None.ensures.cases.0) in
    sym c.in-None.ensures.items ∙ (none ∙ sym (ap (λ (flags : List Bool). drop 1 flags) none))
