use Rattle.std.proofs.Common.{◌∙◌, ap, sym, true, nat_le, option_copied}
use Rattle.std.specs.Option.{option_map_or}
use Rattle.xapi_postings.specs.XapiStatementStored.{StoredStatement}
use Rattle.xapi_index.proofs.times.stands_behind.Goals as goal

pub returns-in-Some : goal.returns-in-Some
returns-in-Some c =
    c.is_no_older.ensures ∙ ap (λ o. option_map_or (λ (last : StoredStatement). nat_le last.stored c.args.statement.now.stored) o true) (sym (ap option_copied c.in-Some.is) ∙ c.last.ensures.value)

pub returns-in-None : goal.returns-in-None
returns-in-None c =
    ap (λ o. option_map_or (λ (last : StoredStatement). nat_le last.stored c.args.statement.now.stored) o true) (sym (ap option_copied c.in-None.is) ∙ c.last.ensures.value)
