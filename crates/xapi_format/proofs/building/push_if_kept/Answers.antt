-- The member is kept, with what becomes of its value, or passed over.
use Rattle.std.proofs.Common.{◌≡◌, Bool, true, false, map, sym, ap, ◌∙◌, if◌then◌else◌}
use Rattle.std.proofs.lemmas.Result.{on_ok_weaker}
use Rattle.lrs_json.specs.Json.{member}
use Rattle.lrs_json.specs.View.{member_view, members_of}
use Rattle.xapi_values.specs.LrsNamesMembers.{is_one_of}
use Rattle.xapi_format.specs.Completed.{added_names, kept_before, plural_member}
use Rattle.xapi_values.specs.Following.{followed_by}
use Rattle.xapi_format.proofs.Joined.{seen_name}
use Rattle.xapi_format.proofs.building.push_if_kept.Goals as goal

pub returns-then-is_added : goal.returns-then-is_added
returns-then-is_added c =
    let old = members_of (map member_view c.args.built.now) in
    let seen = member_view c.args.part in
    let is : is_one_of added_names seen.0 ≡ true = ap (is_one_of added_names) (seen_name c.args.part ∙ sym c.as_str.ensures.lent) ∙ sym c.is_added.ensures ∙ c.if-is_added.true in
    λ ms behind. ap (λ (b : Bool). followed_by old (if b then kept_before ms behind else member seen.0 (plural_member seen.0 seen.1) (kept_before ms behind))) is

pub returns : goal.returns
returns c =
    let old = members_of (map member_view c.args.built.now) in
    let seen = member_view c.args.part in
    let is : is_one_of added_names seen.0 ≡ false = ap (is_one_of added_names) (seen_name c.args.part ∙ sym c.as_str.ensures.lent) ∙ sym c.is_added.ensures ∙ c.if-is_added.false in
    on_ok_weaker c.push_made.result
    (λ more ms behind. ap (λ (b : Bool). followed_by old (if b then kept_before ms behind else member seen.0 (plural_member seen.0 seen.1) (kept_before ms behind))) is
    ∙ sym (more (kept_before ms behind)))
    c.push_made.ensures
