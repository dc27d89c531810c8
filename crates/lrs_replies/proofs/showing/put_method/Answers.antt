use Rattle.std.proofs.Common.{◌++◌, ◌∙◌, ap, codes, append_assoc}
use Rattle.cmi5_course.specs.Words.{method_text}
use Rattle.lrs_replies.proofs.showing.put_method.Goals as goal

pub returns : goal.returns
returns c =
    c.in_ok-extend_from_slice-2.ensures.items
    ∙ (ap (λ xs. c.extend_from_slice.new.self.items ++ xs) (c.as_bytes.ensures.value ∙ c.text.ensures)
    ∙ (ap (λ xs. xs ++ method_text c.args.method) c.in_ok-extend_from_slice.ensures.items ∙ append_assoc c.args.body.now.items (codes "\",\"launchMethod\":\"") (method_text c.args.method)))
