use Rattle.std.proofs.Common.{◌≡◌, ◌∙◌, ◌+◌, ◌≤◌, List, ℕ, ap, length, take, drop, arith, rules}
use Rattle.lrs_http.specs.Links.{stream_left}
use Rattle.lrs_http.proofs.NextLemmas.{body_at, front_is}
use Rattle.lrs_http.proofs.reading.read_body.Goals as goal

pub returns-clause-body : goal.returns-clause-body
returns-clause-body g c =
    let kept = c.args.kept.now.items in
    let left = g.L.Link.left c.args.link.now in
    let after = g.L.Link.left c.fill_vector.new.link in
    let start = c.args.start in
    let held = c.min-held.result in
    let size : length kept ≡ c.len.result = search rules in
    let within : start + held ≤ length kept = omega arith in
    let front = front_is kept c.as_slice.result.now c.in_ok-body.body.items start held c.as_slice.ensures.value within c.in_ok-body.ensures.front in
    let long : length c.from_vec.result ≡ c.args.size = search rules in
    let told : stream_left c.from_vec.result after ≡ stream_left (take held (drop start kept)) left =
    ap (λ (l : List ℕ). stream_left l after) c.from_vec.ensures ∙ c.in_ok-fill_vector.ensures.left ∙ ap (λ (l : List ℕ). stream_left l left) front in
    body_at kept c.remove_front.new.bytes.items c.from_vec.result left after start held c.args.size within c.remove_front.ensures.rest told (λ less. omega arith) (omega arith) long
