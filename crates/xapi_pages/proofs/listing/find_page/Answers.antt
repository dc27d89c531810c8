use Rattle.std.proofs.Common.{◌≡◌, ◌≤◌, ◌+◌, ◌∙◌, ◌∷◌, [], ◌++◌, ap, sym, length, drop, take, append_assoc, append-nil, length-append, arith, rules}
use Rattle.std.specs.Prelude.{filter}
use Rattle.std.proofs.lemmas.Bool.{and_from, and_right}
use Rattle.std.proofs.lemmas.List.{length-take-le}
use Rattle.xapi_pages.specs.Listings.{is_behind, is_listed_at, last_of, listing_behind, positions_of}
use Rattle.xapi_pages.specs.Chains.{chain_passes}
use Rattle.xapi_pages.proofs.Covering.{none_behind, none_between}
use Rattle.xapi_pages.proofs.Fronts.{full_page, last_page, le_no, le_yes, next_given, next_left_out, skipped}
use Rattle.xapi_pages.proofs.Ways.{none_marked, unknown_most}
use Rattle.xapi_pages.proofs.listing.find_page.Goals as goal

pub looks-init : goal.looks-init
looks-init c =
    let b = is_behind c.args.query.now.ascending c.args.after in
    let all = positions_of c.args.query.now.ascending c.args.asof in
    let empty : c.new-positions.result.items ≡ [] = search rules in
    record {
      given = λ sight tells.
          let l = is_listed_at c.args.query.now sight (take c.args.asof c.args.index.now.held) in
          ap (λ ks. ks ++ filter b (filter l (drop c.first_behind-from.result all))) empty
          ∙ (skipped b l c.first_behind-from.result all (λ i x lt at. c.first_behind-from.ensures i x at ∙ le_no c.first_behind-from.result i lt)
          ∙ ap (λ n. filter b (filter l (positions_of c.args.query.now.ascending n))) (sym (length-take-le c.args.asof c.args.index.now.held c.requires.asof)));
      short = search rules;
      later = omega arith;
      few = omega arith;
      counted = omega (arith, unknown_most c.new-marks.result c.args.asof);
      marked = none_marked (chain_passes c.args.sought.now (take c.args.asof c.args.index.now.held)) c.new-marks.result c.new-marks.ensures;
    }

pub returns-then-missed-most_missed-clause-enough : goal.returns-then-missed-most_missed-clause-enough
returns-then-missed-most_missed-clause-enough c =
    omega (arith, c.looks.invariant.few, c.if-missed-most_missed.true, c.in-Some.ensures.ahead, c.in-Some.ensures.within)

pub returns-then-walked-most_missed-clause-enough : goal.returns-then-walked-most_missed-clause-enough
returns-then-walked-most_missed-clause-enough c = omega (arith, c.in_ok-listed.ensures.counted, c.if-walked-most_missed.true)

pub overflow_add-from : goal.overflow_add-from
overflow_add-from c =
    let fits = c.ranges.asof.fits in
    omega (arith, fits, c.in-Some.ensures.within)

pub overflow_add-missed : goal.overflow_add-missed
overflow_add-missed c =
    let fits = c.ranges.asof.fits in
    omega (arith, fits, c.looks.invariant.few, c.in-Some.ensures.ahead, c.in-Some.ensures.within)

pub looks-smaller-then-not-listed : goal.looks-smaller-then-not-listed
looks-smaller-then-not-listed c = omega (arith, c.in-Some.ensures.ahead, c.in-Some.ensures.within)

pub looks-preserved-then-not-listed : goal.looks-preserved-then-not-listed
looks-preserved-then-not-listed c =
    let at = c.looks in
    let i = c.in-Some.i in
    let x = c.position_at-position.result in
    let b = is_behind c.args.query.now.ascending c.args.after in
    let all = positions_of c.args.query.now.ascending c.args.asof in
    record {
      given = λ sight tells.
          let l = is_listed_at c.args.query.now sight (take c.args.asof c.args.index.now.held) in
          let reached = none_between c.args.query.now sight c.args.sought.now c.args.index.now.held c.args.asof c.args.candidates.now tells c.requires.covers b at.from i c.in-Some.ensures.ahead c.in-Some.ensures.skips in
          let passed = next_left_out b l all i x c.position_at-position.ensures.at (and_right (b x) (l x) (sym (c.in_ok-listed.ensures.listed c.if-walked-most_missed.false sight tells) ∙ c.if-not-listed.true)) in
          ap (λ ks. at.positions.items ++ ks) (sym (reached ∙ passed)) ∙ at.invariant.given sight tells;
      short = at.invariant.short;
      later = omega (arith, at.invariant.later, c.in-Some.ensures.ahead);
      few = omega (arith, at.invariant.few, c.in-Some.ensures.ahead);
      counted = c.in_ok-listed.ensures.counted;
      marked = c.in_ok-listed.ensures.marks c.if-walked-most_missed.false;
    }

pub returns-then-len-most-clause-page : goal.returns-then-len-most-clause-page
returns-then-len-most-clause-page c = λ sight tells.
    let at = c.looks in
    let i = c.in-Some.i in
    let x = c.position_at-position.result in
    let b = is_behind c.args.query.now.ascending c.args.after in
    let l = is_listed_at c.args.query.now sight (take c.args.asof c.args.index.now.held) in
    let all = positions_of c.args.query.now.ascending c.args.asof in
    let listing = listing_behind c.args.query.now sight (take c.args.asof c.args.index.now.held) c.args.after in
    let rest = filter b (filter l (drop (i + 1) all)) in
    let first : c.first_behind-from.result ≤ i = omega (arith, at.invariant.later, c.in-Some.ensures.ahead) in
    let behind = c.first_behind-from.ensures i x c.position_at-position.ensures.at ∙ le_yes c.first_behind-from.result i first in
    let reached = none_between c.args.query.now sight c.args.sought.now c.args.index.now.held c.args.asof c.args.candidates.now tells c.requires.covers b at.from i c.in-Some.ensures.ahead c.in-Some.ensures.skips in
    let given = next_given b l all i x c.position_at-position.ensures.at (and_from (b x) (l x) behind (sym (c.in_ok-listed.ensures.listed c.if-walked-most_missed.false sight tells) ∙ c.if-not-listed.false)) in
    let whole : at.positions.items ++ x ∷ rest ≡ listing = ap (λ ks. at.positions.items ++ ks) (sym (reached ∙ given)) ∙ at.invariant.given sight tells in
    let counted : at.positions.len ≡ length at.positions.items = search rules in
    let short = at.invariant.short in
    let most = c.if-len-most.true in
    let len = c.len.ensures in
    let long : length at.positions.items ≡ c.args.query.now.page = omega arith in
    full_page c.args.query.now.page at.positions.items rest listing x c.last_of-link.result long (c.last_of-link.ensures ∙ ap last_of c.as_slice.ensures.value) whole

pub looks-smaller : goal.looks-smaller
looks-smaller c = omega (arith, c.in-Some.ensures.ahead, c.in-Some.ensures.within)

pub looks-preserved : goal.looks-preserved
looks-preserved c =
    let at = c.looks in
    let i = c.in-Some.i in
    let x = c.position_at-position.result in
    let b = is_behind c.args.query.now.ascending c.args.after in
    let all = positions_of c.args.query.now.ascending c.args.asof in
    let first : c.first_behind-from.result ≤ i = omega (arith, at.invariant.later, c.in-Some.ensures.ahead) in
    let behind = c.first_behind-from.ensures i x c.position_at-position.ensures.at ∙ le_yes c.first_behind-from.result i first in
    let counted : at.positions.len ≡ length at.positions.items = search rules in
    let room = c.if-len-most.false in
    let len = c.len.ensures in
    let more = ap length c.in_ok-push.ensures.items in
    let one = length-append at.positions.items (x ∷ []) in
    record {
      given = λ sight tells.
          let l = is_listed_at c.args.query.now sight (take c.args.asof c.args.index.now.held) in
          let rest = filter b (filter l (drop (i + 1) all)) in
          let reached = none_between c.args.query.now sight c.args.sought.now c.args.index.now.held c.args.asof c.args.candidates.now tells c.requires.covers b at.from i c.in-Some.ensures.ahead c.in-Some.ensures.skips in
          let given = next_given b l all i x c.position_at-position.ensures.at (and_from (b x) (l x) behind (sym (c.in_ok-listed.ensures.listed c.if-walked-most_missed.false sight tells) ∙ c.if-not-listed.false)) in
          ap (λ ks. ks ++ rest) c.in_ok-push.ensures.items ∙ (append_assoc at.positions.items (x ∷ []) rest
          ∙ (ap (λ ks. at.positions.items ++ ks) (sym (reached ∙ given)) ∙ at.invariant.given sight tells));
      short = omega arith;
      later = omega (arith, at.invariant.later, c.in-Some.ensures.ahead);
      few = omega (arith, at.invariant.few, c.in-Some.ensures.ahead);
      counted = c.in_ok-listed.ensures.counted;
      marked = c.in_ok-listed.ensures.marks c.if-walked-most_missed.false;
    }

pub returns-clause-page : goal.returns-clause-page
returns-clause-page c = λ sight tells.
    let at = c.looks in
    let b = is_behind c.args.query.now.ascending c.args.after in
    let listing = listing_behind c.args.query.now sight (take c.args.asof c.args.index.now.held) c.args.after in
    let nothing = none_behind c.args.query.now sight c.args.sought.now c.args.index.now.held c.args.asof c.args.candidates.now tells c.requires.covers b at.from c.in_default.ensures.skips in
    let whole : at.positions.items ≡ listing = sym (append-nil at.positions.items) ∙ (ap (λ ks. at.positions.items ++ ks) (sym nothing) ∙ at.invariant.given sight tells) in
    last_page c.args.query.now.page at.positions.items listing at.invariant.short whole
