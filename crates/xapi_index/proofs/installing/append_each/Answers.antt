use Rattle.std.proofs.Common.{IsOk, arith}
use Rattle.xapi_index.proofs.Succeeding.{moved_behind, none_left}
use Rattle.xapi_index.proofs.installing.append_each.Goals as goal

pub returns-clause-held : goal.returns-clause-held
returns-clause-held c =
    let held = c.args.held.now in
    let ahead = c.args.ahead.now in
    let room : IsOk c.append.result = c.append.ensures.succeeds (omega (arith, c.requires, held.ok.1, ahead.ok.0)) in
    moved_behind c.append.result held.items c.append.new.self.items ahead.items room c.append.ensures.items

pub returns-clause-nothing : goal.returns-clause-nothing
returns-clause-nothing c =
    let held = c.args.held.now in
    let ahead = c.args.ahead.now in
    let room : IsOk c.append.result = c.append.ensures.succeeds (omega (arith, c.requires, held.ok.1, ahead.ok.0)) in
    none_left c.append.result ahead.items c.append.new.other.items room c.append.ensures.other_items
