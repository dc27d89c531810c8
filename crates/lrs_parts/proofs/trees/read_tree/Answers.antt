use Rattle.std.proofs.Common.{◌≡◌, ◌++◌, ◌∷◌, [], OnOk, subst}
use Rattle.xapi_statement.specs.Stored.{StoredStatement}
use Rattle.lrs_parts.proofs.trees.read_tree.Goals as goal

pub returns : goal.returns
returns c = subst (λ (s : StoredStatement). OnOk c.push.result (c.push.new.self ≡ c.args.trees.now ++ s ∷ [])) c.in_ok-whole.ensures c.push.ensures.ok
