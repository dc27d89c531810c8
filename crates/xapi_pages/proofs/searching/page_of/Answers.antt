use Rattle.std.proofs.Common.{◌≡◌, ap, take}
use Rattle.std.proofs.lemmas.Result.{IfOk-weaker}
use Rattle.xapi_pages.specs.Listings.{page_behind}
use Rattle.xapi_pages.specs.Searching.{IsPage}
use Rattle.xapi_pages.proofs.searching.page_of.Goals as goal

pub returns-clause-positions : goal.returns-clause-positions
returns-clause-positions c =
    IfOk-weaker c.page_sought.result (λ page. IsPage c.args.query.now c.in_ok-sought.sought c.args.index.now.held c.args.asof c.args.after page)
    (λ page. page.positions.items ≡ (page_behind c.args.query.now c.args.sight.now (take c.args.asof c.args.index.now.held) c.args.after).positions)
    (λ page is. ap (λ p. p.positions) (is c.args.sight.now c.in_ok-sought.ensures.tells)) c.page_sought.ensures

pub returns-clause-link : goal.returns-clause-link
returns-clause-link c =
    IfOk-weaker c.page_sought.result (λ page. IsPage c.args.query.now c.in_ok-sought.sought c.args.index.now.held c.args.asof c.args.after page)
    (λ page. page.link ≡ (page_behind c.args.query.now c.args.sight.now (take c.args.asof c.args.index.now.held) c.args.after).link)
    (λ page is. ap (λ p. p.link) (is c.args.sight.now c.in_ok-sought.ensures.tells)) c.page_sought.ensures
