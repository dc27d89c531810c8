use Rattle.std.proofs.Common.{◌≡◌, ◌∙◌, ◌++◌, List, OnOk, ap, false, subst, sym, true≢false}
use Rattle.xapi_index.specs.Index.{ArePosted, IsIndex, lists_of}
use Rattle.xapi_postings.specs.XapiStatementStatements.{add_each}
use Rattle.xapi_index.proofs.Standing.{rest_index}
use Rattle.xapi_index.proofs.Succeeding.{given_ok}
use Rattle.xapi_postings.specs.XapiStatementStored.{StoredStatement}
use Rattle.xapi_index.proofs.ahead.ready_each.Goals as goal

pub returns-in_err-make_room-clause-held : goal.returns-in_err-make_room-clause-held
returns-in_err-make_room-clause-held c = c.make_room.ensures.held

pub returns-in_err-make_room-clause-index : goal.returns-in_err-make_room-clause-index
returns-in_err-make_room-clause-index c =
    rest_index c.args.held.now.items c.args.postings.now (lists_of c.make_room.new.coming.items) false c.requires.posted (ap (λ xs. lists_of xs) c.make_room.ensures.coming ∙ c.requires.nothing) (λ is. absurd (true≢false (sym is)))

pub write_each-requires-clause-posted : goal.write_each-requires-clause-posted
write_each-requires-clause-posted c =
    subst (λ xs. ArePosted xs c.args.postings.now) (sym (c.as_slice.ensures.value ∙ c.make_room.ensures.held)) c.requires.posted

pub write_each-requires-clause-nothing : goal.write_each-requires-clause-nothing
write_each-requires-clause-nothing c = ap (λ xs. lists_of xs) c.make_room.ensures.coming ∙ c.requires.nothing

pub write_each-requires-clause-none_ahead : goal.write_each-requires-clause-none_ahead
write_each-requires-clause-none_ahead c = c.make_room.ensures.ahead ∙ c.requires.none_ahead

pub write_each-requires-clause-room : goal.write_each-requires-clause-room
write_each-requires-clause-room c = c.in_ok-make_room.ensures.for_coming

pub returns-clause-held : goal.returns-clause-held
returns-clause-held c = c.make_room.ensures.held

pub returns-clause-index : goal.returns-clause-index
returns-clause-index c =
    subst (λ xs. IsIndex xs c.write_each.new.postings (lists_of c.write_each.new.coming.items) false) (c.as_slice.ensures.value ∙ c.make_room.ensures.held) c.write_each.ensures.index

pub returns-clause-posted : goal.returns-clause-posted
returns-clause-posted c =
    subst (λ xs. OnOk c.write_each.result (ArePosted (add_each xs c.args.statements.now) c.write_each.new.postings)) c.as_slice.ensures.value c.write_each.ensures.posted

pub returns-clause-ahead : goal.returns-clause-ahead
returns-clause-ahead c =
    subst (λ (xs : List StoredStatement). OnOk c.write_each.result (add_each xs c.args.statements.now ≡ xs ++ c.write_each.new.ahead.items)) c.as_slice.ensures.value c.write_each.ensures.ahead

pub returns-clause-spare : goal.returns-clause-spare
returns-clause-spare c = given_ok c.write_each.result c.in_ok-make_room.ensures.for_held
