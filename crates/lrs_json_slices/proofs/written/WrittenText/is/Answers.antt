use Rattle.std.proofs.Common.{◌≡◌, ◌∙◌, ap}
use Rattle.std.specs.List.{flat_map}
use Rattle.std.specs.Str.{bytes_eq}
use Rattle.std.proofs.lemmas.Cmp.{nat_list_eq_equiv}
use Rattle.lrs_json.specs.Written.{escaped}
use Rattle.lrs_json_slices.proofs.Nexts.{told_inside}
use Rattle.lrs_json_slices.proofs.written.WrittenText.is.Goals as goal

pub returns-clause-same : goal.returns-clause-same
returns-clause-same c =
    let k = c.self.inside.spelled.0 in
    let text = c.args.text.now in
    let between : c.inside.result.now ≡ flat_map escaped k = c.inside.ensures (flat_map escaped k) c.self.inside.spelled.1 in
    c.eq.ensures ∙ ap (bytes_eq c.inside.result.now) c.as_bytes.ensures.value ∙ told_inside k text c.inside.result.now c.requires between ∙ ap (λ t. bytes_eq t text) c.self.view_is

pub returns-clause-turned : goal.returns-clause-turned
returns-clause-turned c =
    let k = c.self.inside.spelled.0 in
    let text = c.args.text.now in
    let between : c.inside.result.now ≡ flat_map escaped k = c.inside.ensures (flat_map escaped k) c.self.inside.spelled.1 in
    c.eq.ensures ∙ ap (bytes_eq c.inside.result.now) c.as_bytes.ensures.value ∙ told_inside k text c.inside.result.now c.requires between ∙ ap (λ t. bytes_eq t text) c.self.view_is
    ∙ nat_list_eq_equiv.symm c.args.self.now text
