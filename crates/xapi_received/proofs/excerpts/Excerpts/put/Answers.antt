use Rattle.std.proofs.Common.{◌++◌, List, ℕ, length, sym, ap, subst, ◌∙◌}
use Rattle.std.proofs.lemmas.List.{append-nil}
use Rattle.std.proofs.lemmas.Result.{on_ok_weaker}
use Rattle.xapi_received.specs.Excerpts.{listed}
use Rattle.xapi_received.specs.Received.{AreWithin, excerpt_text, excerpts_text}
use Rattle.xapi_received.specs.declared.marks.Excerpt.{Excerpt}
use Rattle.xapi_received.specs.declared.excerpts.Excerpts.{Excerpts}
use Rattle.xapi_received.proofs.excerpts.Excerpts.put.Goals as goal

pub returns-in-Empty-clause-ok : goal.returns-in-Empty-clause-ok
returns-in-Empty-clause-ok c =
    let old = c.args.into.now.items in
    sym (append-nil old) ∙ ap (λ (ps : Excerpts). old ++ excerpts_text c.args.text.now (listed ps)) (sym c.in-Empty.is)

pub put_excerpt-requires : goal.put_excerpt-requires
put_excerpt-requires c = (subst (λ (ps : Excerpts). AreWithin (length c.args.text.now) (listed ps)) c.in-One.is c.requires).0

pub returns-in-One-clause-ok : goal.returns-in-One-clause-ok
returns-in-One-clause-ok c =
    let old = c.args.into.now.items in
    let text = c.args.text.now in
    on_ok_weaker c.put_excerpt.result (λ e. e ∙ ap (λ (t : List ℕ). old ++ t) (sym (append-nil (excerpt_text text c.in-One.excerpt))) ∙ ap (λ (ps : Excerpts). old ++ excerpts_text text (listed ps)) (sym c.in-One.is)) c.put_excerpt.ensures.ok

pub put_both-requires-clause-first : goal.put_both-requires-clause-first
put_both-requires-clause-first c = (subst (λ (ps : Excerpts). AreWithin (length c.args.text.now) (listed ps)) c.in-Two.is c.requires).0

pub put_both-requires-clause-second : goal.put_both-requires-clause-second
put_both-requires-clause-second c =
    let both = subst (λ (ps : Excerpts). AreWithin (length c.args.text.now) (listed ps)) c.in-Two.is c.requires in
    both.1.0

pub returns-in-Two-clause-ok : goal.returns-in-Two-clause-ok
returns-in-Two-clause-ok c =
    let old = c.args.into.now.items in
    let text = c.args.text.now in
    on_ok_weaker c.put_both.result (λ e. e ∙ ap (λ (t : List ℕ). old ++ (excerpt_text text c.in-Two.first ++ t)) (sym (append-nil (excerpt_text text c.in-Two.second))) ∙ ap (λ (ps : Excerpts). old ++ excerpts_text text (listed ps)) (sym c.in-Two.is)) c.put_both.ensures.ok

pub put_excerpts-requires : goal.put_excerpts-requires
put_excerpts-requires c =
    subst (λ (ps : List Excerpt). AreWithin (length c.args.text.now) ps) (sym c.as_slice.ensures.value) (subst (λ (ps : Excerpts). AreWithin (length c.args.text.now) (listed ps)) c.in-More.is c.requires)

pub returns-in-More-clause-ok : goal.returns-in-More-clause-ok
returns-in-More-clause-ok c =
    let old = c.args.into.now.items in
    let text = c.args.text.now in
    on_ok_weaker c.put_excerpts.result (λ e. e ∙ ap (λ (ps : List Excerpt). old ++ excerpts_text text ps) c.as_slice.ensures.value ∙ ap (λ (ps : Excerpts). old ++ excerpts_text text (listed ps)) (sym c.in-More.is)) c.put_excerpts.ensures.ok
