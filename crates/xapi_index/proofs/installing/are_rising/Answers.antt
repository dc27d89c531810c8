use Rattle.std.proofs.Common.{◌≡◌, ◌∙◌, [], ◌∷◌, ◌++◌, ◌&&◌, ◌+◌, List, ap, subst, sym, take, true, arith}
use Rattle.std.specs.Cmp.{first_so, second_so}
use Rattle.std.proofs.lemmas.List.{take_all, take_more}
use Rattle.xapi_index.specs.Index.{IsRising}
use Rattle.xapi_index.specs.Times.{stands_behind}
use Rattle.xapi_index.proofs.Rising.{rising_more}
use Rattle.xapi_postings.specs.XapiStatementStored.{StoredStatement}
use Rattle.xapi_index.proofs.installing.are_rising.Goals as goal

pub loop-at-init : goal.loop-at-init
loop-at-init c = c.requires.known

pub loop-at-preserved : goal.loop-at-preserved
loop-at-preserved c =
    let held = c.args.held.now in
    let at = c.loop-at.at in
    let s : StoredStatement = c.index-held-at.result in
    let front = take at held in
    let was = c.loop-at.rising in
    λ is.
    let both : (was && stands_behind front s) ≡ true = sym c.still_rising-rising.ensures ∙ is in
    let next : take (at + 1) held ≡ front ++ s ∷ [] = take_more held at s (omega arith) ∙ ap (λ (x : StoredStatement). front ++ x ∷ []) (sym c.index-held-at.is) in
    subst (λ (xs : List StoredStatement). IsRising xs) (sym next) (rising_more front s (c.loop-at.invariant (first_so was (stands_behind front s) both)) (second_so was (stands_behind front s) both))

pub returns : goal.returns
returns c = λ is. subst (λ (xs : List StoredStatement). IsRising xs) (take_all c.loop-at.at c.args.held.now (omega arith)) (c.loop-at.invariant is)
