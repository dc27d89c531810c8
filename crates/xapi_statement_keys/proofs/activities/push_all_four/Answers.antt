use Rattle.std.proofs.Common.{ℕ, List, Bool, ◌||◌, false, codes, sym}
use Rattle.std.proofs.Math.Bool.{or_assoc}
use Rattle.std.proofs.lemmas.Result.{on_ok_weaker}
use Rattle.lrs_json.specs.View.{view}
use Rattle.xapi_query.specs.XapiStatementStatement.{holds_at}
use Rattle.xapi_statement_keys.specs.Adding.{activity_keys, holds_some}
use Rattle.xapi_statement_keys.proofs.Growing.{adds_same}
use Rattle.xapi_statement_keys.proofs.Named.{activities_same, more_activities}
use Rattle.xapi_statement_keys.proofs.activities.push_all_four.Goals as goal

pub returns : goal.returns
returns c =
    let j = view c.args.activities.now in
    let old = c.args.keys.now.items in
    let mid = c.push_both.new.keys.items in
    let new = c.push_both-2.new.keys.items in
    let p : List ℕ → Bool = λ id. holds_at (codes "parent") id j || holds_at (codes "grouping") id j in
    let q : List ℕ → Bool = λ id. holds_at (codes "category") id j || holds_at (codes "other") id j in
    on_ok_weaker c.push_both-2.result
    (λ adds. adds_same old new (activity_keys false (λ id. p id || q id)) (activity_keys false (λ id. holds_some id j))
    (activities_same false (λ id. p id || q id) (λ id. holds_some id j) (λ id. sym (or_assoc (p id) (holds_at (codes "category") id j) (holds_at (codes "other") id j))))
    (more_activities false p q old mid new c.in_ok-push_both.ensures adds))
    c.push_both-2.ensures
