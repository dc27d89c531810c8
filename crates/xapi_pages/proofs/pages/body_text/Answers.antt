use Rattle.std.proofs.Common.{◌∙◌, ap, ◌++◌, false, rules}
use Rattle.xapi_pages.specs.Listings.{items_text}
use Rattle.xapi_pages.proofs.Bodies.{page_is}
use Rattle.xapi_pages.proofs.pages.body_text.Goals as goal

pub returns : goal.returns
returns c =
    page_is c.args.query.now c.args.asof c.args.index.now.held (record { positions = c.args.page.now.positions.items; link = c.args.page.now.link })
    c.in_ok-body.body.items c.put_statements.new.body.items c.extend_from_slice.new.self.items c.put_more.new.body.items c.push.new.self.items
    (search rules)
    (c.in_ok-put_statements.ensures ∙ ap (λ ks. c.in_ok-body.body.items ++ items_text c.args.query.now.format c.args.index.now.held false ks) c.as_slice.ensures.value)
    c.in_ok-extend_from_slice.ensures.items c.in_ok-put_more.ensures c.in_ok-push.ensures.items
