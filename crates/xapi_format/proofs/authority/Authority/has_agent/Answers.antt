use Rattle.std.proofs.Common.{◌≡◌, ◌&&◌, true, false, sym, ap, ◌∙◌}
use Rattle.std.specs.Str.{bytes_eq}
use Rattle.lrs_agents.specs.declared.identifiers.Ifi.TheVariants.{Account}
use Rattle.xapi_format.specs.Authorities.{account_name, authority_name, home_page}
use Rattle.lrs_agents.specs.Identifiers.{same_ifi}
use Rattle.xapi_format.proofs.Authorities.{is_authority}
use Rattle.xapi_format.proofs.authority.Authority.has_agent.Goals as goal

pub returns-then-eq : goal.returns-then-eq
returns-then-eq c =
    let account = account_name c.args.self.now in
    let here : bytes_eq c.as_str.result.now home_page ≡ true = sym c.eq.ensures ∙ c.if-eq.true in
    c.has_account.ensures ∙ sym (is_authority c.args.ifi.now (authority_name c.args.self.now) account ∙ ap (λ i. same_ifi i (Account home_page account)) c.in-Account.is ∙ ap (λ h. bytes_eq h home_page && bytes_eq c.in-Account.name account) (sym c.as_str.ensures.lent)
    ∙ ap (λ b. b && bytes_eq c.in-Account.name account) here ∙ ap (λ n. bytes_eq n account) (sym c.as_str-then-eq.ensures.lent))

pub returns-else-eq : goal.returns-else-eq
returns-else-eq c =
    let account = account_name c.args.self.now in
    let there : bytes_eq c.as_str.result.now home_page ≡ false = sym c.eq.ensures ∙ c.if-eq.false in
    c.if-eq.false ∙ sym (is_authority c.args.ifi.now (authority_name c.args.self.now) account ∙ ap (λ i. same_ifi i (Account home_page account)) c.in-Account.is ∙ ap (λ h. bytes_eq h home_page && bytes_eq c.in-Account.name account) (sym c.as_str.ensures.lent)
    ∙ ap (λ b. b && bytes_eq c.in-Account.name account) there)

pub returns-in-Mbox : goal.returns-in-Mbox
returns-in-Mbox c =
    sym (is_authority c.args.ifi.now (authority_name c.args.self.now) (account_name c.args.self.now) ∙ ap (λ i. same_ifi i (Account home_page (account_name c.args.self.now))) c.in-Mbox.is)

pub returns-in-MboxSha1 : goal.returns-in-MboxSha1
returns-in-MboxSha1 c =
    sym (is_authority c.args.ifi.now (authority_name c.args.self.now) (account_name c.args.self.now) ∙ ap (λ i. same_ifi i (Account home_page (account_name c.args.self.now))) c.in-MboxSha1.is)

pub returns-in-OpenId : goal.returns-in-OpenId
returns-in-OpenId c =
    sym (is_authority c.args.ifi.now (authority_name c.args.self.now) (account_name c.args.self.now) ∙ ap (λ i. same_ifi i (Account home_page (account_name c.args.self.now))) c.in-OpenId.is)
