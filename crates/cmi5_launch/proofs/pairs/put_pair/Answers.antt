use Rattle.std.proofs.Common.{ℕ, ◌<◌, ◌++◌, string_bytes, append_assoc, ap, ◌∙◌, arith}
use Rattle.std.proofs.lemmas.List.Elements.{All-from_get_or}
use Rattle.cmi5_launch.specs.Addresses.{escaped}
use Rattle.cmi5_launch.proofs.Escapes.{percent_encode-is}
use Rattle.cmi5_launch.proofs.pairs.put_pair.Goals as goal

pub returns : goal.returns
returns c =
    let value = c.args.value.now in
    let old = string_bytes c.args.pairs.now in
    let small = All-from_get_or (λ (b : ℕ). b < 256) value 0 (λ i within. omega (arith, c.type_inv.value i)) in
    c.in_ok-append_to.ensures.ok ∙ ap (λ t. string_bytes c.push_str.new.self ++ t) (c.percent_encode.ensures.text ∙ percent_encode-is value small)
    ∙ ap (λ t. t ++ escaped value) c.in_ok-push_str.ensures.bytes ∙ append_assoc old c.args.name.now (escaped value)
