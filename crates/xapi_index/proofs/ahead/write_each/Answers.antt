use Rattle.std.proofs.Common.{◌≡◌, ◌∙◌, ◌+◌, ◌++◌, List, ap, append-nil, arith, drop, subst, sym}
use Rattle.std.proofs.lemmas.List.{take_all}
use Rattle.std.specs.Vec.Iter.{into_iter_items}
use Rattle.lrs_json.specs.declared.tree.Tree.{Tree}
use Rattle.lrs_json.proofs.Lists.{drop_item}
use Rattle.xapi_index.specs.Ahead.{AreTextsOf}
use Rattle.xapi_index.proofs.Texts.{text_next, texts_more}
use Rattle.xapi_index.specs.Index.{ArePosted, lists_of}
use Rattle.xapi_postings.specs.XapiStatementStatements.{add, add_each}
use Rattle.xapi_index.proofs.Adding.{add_each-more}
use Rattle.xapi_index.proofs.Standing.{stand_index, stand_start}
use Rattle.xapi_postings.specs.XapiStatementStored.{StoredStatement}
use Rattle.xapi_index.proofs.ahead.write_each.Goals as goal

pub loop-statement-init : goal.loop-statement-init
loop-statement-init c =
    let held = c.args.held.now in
    let roomy = c.requires.room in
    record {
      stand = stand_start held c.args.ahead.now.items c.args.postings.now (lists_of c.args.coming.now.items) c.requires.posted c.requires.none_ahead c.requires.nothing;
      added = ap (λ (xs : List StoredStatement). held ++ xs) c.requires.none_ahead ∙ append-nil held;
      texts = c.requires.texts;
      room = omega arith;
    }

pub next_text-text-requires : goal.next_text-text-requires
next_text-text-requires c =
    let at = c.loop-statement in
    let xs = c.args.statements.now in
    let s = c.statement-item.result in
    text_next (into_iter_items at.texts) s (drop (at.statement-index + 1) xs)
    (subst (λ (ss : List StoredStatement). AreTextsOf (into_iter_items at.texts) ss) (drop_item xs at.statement-index s c.loop-statement-test.true c.statement-item.is) at.invariant.texts)

pub write_one-requires-clause-text : goal.write_one-requires-clause-text
write_one-requires-clause-text c = c.next_text-text.ensures.text

pub write_one-requires-clause-room : goal.write_one-requires-clause-room
write_one-requires-clause-room c =
    let roomy = c.loop-statement.invariant.room in
    let inside = c.loop-statement-test.true in
    omega arith

pub write_one-requires-clause-stands : goal.write_one-requires-clause-stands
write_one-requires-clause-stands c = c.loop-statement.invariant.stand

pub loop-statement-preserved : goal.loop-statement-preserved
loop-statement-preserved c =
    let at = c.loop-statement in
    let held = c.args.held.now in
    let xs = c.args.statements.now in
    let s = c.statement-item.result in
    let inside = c.loop-statement-test.true in
    let roomy = at.invariant.room in
    let same = c.write_one.ensures.capacity in
    let longer = c.write_one.ensures.longer in
    record {
      stand = c.in_ok-write_one.ensures.stands;
      added = c.in_ok-write_one.ensures.added
          ∙ (ap (λ (all : List StoredStatement). add all s) at.invariant.added ∙ sym (add_each-more held xs at.statement-index s inside c.statement-item.is));
      texts = subst (λ (ts : List Tree). AreTextsOf ts (drop (at.statement-index + 1) xs)) (sym c.next_text-text.ensures.rest)
          (texts_more (into_iter_items at.texts) s (drop (at.statement-index + 1) xs)
          (subst (λ (ss : List StoredStatement). AreTextsOf (into_iter_items at.texts) ss) (drop_item xs at.statement-index s inside c.statement-item.is) at.invariant.texts));
      room = omega arith;
    }

pub returns-in_err-write_one-clause-index : goal.returns-in_err-write_one-clause-index
returns-in_err-write_one-clause-index c = c.write_one.ensures.index

pub returns-clause-index : goal.returns-clause-index
returns-clause-index c =
    let at = c.loop-statement in
    stand_index c.args.held.now at.ahead.items at.postings (lists_of at.coming.items) at.invariant.stand

pub returns-clause-posted : goal.returns-clause-posted
returns-clause-posted c =
    let at = c.loop-statement in
    let held = c.args.held.now in
    let added : held ++ at.ahead.items ≡ add_each held c.args.statements.now =
    at.invariant.added ∙ ap (λ (xs : List StoredStatement). add_each held xs) (take_all at.statement-index c.args.statements.now c.loop-statement-test.false) in
    subst (λ (xs : List StoredStatement). ArePosted xs at.postings) added at.invariant.stand.posted

pub returns-clause-ahead : goal.returns-clause-ahead
returns-clause-ahead c =
    let at = c.loop-statement in
    let held = c.args.held.now in
    let added : held ++ at.ahead.items ≡ add_each held c.args.statements.now =
    at.invariant.added ∙ ap (λ (xs : List StoredStatement). add_each held xs) (take_all at.statement-index c.args.statements.now c.loop-statement-test.false) in
    sym added
