use Rattle.std.proofs.Common.{◌∙◌, ℕ, List, Option, ap, option_copied, sym, false}
use Rattle.std.specs.Option.{option_map_or}
use Rattle.std.specs.Str.{bytes_eq}
use Rattle.xapi_statement.specs.Stored.{StoredStatement}
use Rattle.lrs_parts.proofs.following.is_statement_at.Goals as goal

pub returns-in-Some : goal.returns-in-Some
returns-in-Some c =
    let s = c.args.statement.now in
    c.is_same_id.ensures
    ∙ (ap (λ (id : List ℕ). bytes_eq id c.id-in-Some.result) c.id.ensures
    ∙ (ap (λ (id : List ℕ). bytes_eq c.in-Some.held.now.id id) c.id-in-Some.ensures
    ∙ ap (λ (o : Option StoredStatement). option_map_or (λ (t : StoredStatement). bytes_eq t.id s.id) o false) (ap option_copied (sym c.in-Some.is) ∙ c.get.ensures)))

pub returns-in-None : goal.returns-in-None
returns-in-None c =
    let s = c.args.statement.now in
    ap (λ (o : Option StoredStatement). option_map_or (λ (t : StoredStatement). bytes_eq t.id s.id) o false) (ap option_copied (sym c.in-None.is) ∙ c.get.ensures)
