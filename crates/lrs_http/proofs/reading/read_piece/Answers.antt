use Rattle.std.proofs.Common.{◌≡◌, ◌∙◌, ◌+◌, ap, take, length, rules, take_at}
use Rattle.std.proofs.lemmas.List.{with_items_is, places}
use Rattle.lrs_http.specs.Links.{stream_left}
use Rattle.lrs_http.proofs.NextLemmas.{at_end}
use Rattle.lrs_http.proofs.reading.read_piece.Goals as goal

pub returns-in-Ok-clause-left : goal.returns-in-Ok-clause-left
returns-in-Ok-clause-left g c =
    let held = c.len-held.result in
    let items = c.truncate.ensures.items ∙ ap (take (held + c.in-Ok.number)) (with_items_is c.extend_from_slice.new.self c.read_behind.new.bytes (search (rules, places))) in
    let size : length c.args.kept.now.items ≡ held = search rules in
    let start : take held c.as_mut_slice.result.now ≡ c.args.kept.now.items = ap (take held) (c.as_mut_slice.ensures.value ∙ c.in_ok-extend_from_slice.ensures.items) ∙ take_at c.args.kept.now.items _ held size in
    ap (λ l. stream_left l (g.L.Link.left c.read_behind.new.link)) items ∙ c.in-Ok.ensures.given ∙ ap (λ l. stream_left l (g.L.Link.left c.args.link.now)) start

pub returns-in-Ok-clause-end : goal.returns-in-Ok-clause-end
returns-in-Ok-clause-end g c none = c.in-Ok.ensures.ended (at_end c.in-Ok.number none) (search rules)

pub returns-in-Err-clause-left : goal.returns-in-Err-clause-left
returns-in-Err-clause-left g c =
    let held = c.len-held.result in
    let items = c.truncate-in-Err.ensures.items ∙ ap (take held) (with_items_is c.extend_from_slice.new.self c.read_behind.new.bytes (search (rules, places))) in
    let size : length c.args.kept.now.items ≡ held = search rules in
    let start : take held c.as_mut_slice.result.now ≡ c.args.kept.now.items = ap (take held) (c.as_mut_slice.ensures.value ∙ c.in_ok-extend_from_slice.ensures.items) ∙ take_at c.args.kept.now.items _ held size in
    ap (λ l. stream_left l (g.L.Link.left c.read_behind.new.link)) items ∙ c.in-Err.ensures.failed ∙ ap (λ l. stream_left l (g.L.Link.left c.args.link.now)) start
