use Rattle.std.proofs.Common.{length, ap, ◌∙◌}
use Rattle.xapi_format.proofs.Added.{written_both}
use Rattle.xapi_format.proofs.written.text_of.Goals as goal

pub returns : goal.returns
returns c =
    written_both c.args.authority.now c.in_ok-bytes.bytes.items c.put_front.new.into.items c.put_account.new.into.items c.shrink_to_fit.new.self.items c.length_of-account.result
    c.in_ok-bytes.ensures.items c.in_ok-put_front.ensures (c.length_of-account.ensures ∙ ap length c.as_slice.ensures.value) c.in_ok-put_account.ensures.ok c.shrink_to_fit.ensures.items
