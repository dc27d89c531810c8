use Rattle.std.proofs.Common.{◌≡◌, ℕ, List, [], ◌++◌, codes, string_bytes, append_assoc, append-nil, ap, ◌∙◌}
use Rattle.lrs_agent_texts.specs.Texts.{agent_json}
use Rattle.lrs_json.specs.Written.{written}
use Rattle.lrs_names.specs.Ids.{id_text}
use Rattle.cmi5_launch.specs.Addresses.{escaped}
use Rattle.cmi5_launch.proofs.pairs.launch_pairs.Goals as goal

joined : (m0 m1 m2 m3 m4 p q s t u : List ℕ) → m0 ≡ [] → m1 ≡ m0 ++ p ++ q → m2 ≡ m1 ++ s → m3 ≡ m2 ++ t → m4 ≡ m3 ++ u → m4 ≡ p ++ (q ++ (s ++ (t ++ (u ++ []))))
joined m0 m1 m2 m3 m4 p q s t u e0 e1 e2 e3 e4 = rw (e4, e3, e2, e1, e0) (simp (append_assoc, append-nil))

pub returns : goal.returns
returns c =
    let base = c.args.base.now in
    let registration : codes "&registration=" ++ escaped c.text.result ≡ codes "&registration=" ++ escaped (id_text c.args.registration.now) =
    ap (λ v. codes "&registration=" ++ escaped v) c.text.ensures.text in
    let activity : codes "&activityId=" ++ escaped c.as_bytes.result.now ≡ codes "&activityId=" ++ escaped c.args.activity.now =
    ap (λ v. codes "&activityId=" ++ escaped v) (c.as_bytes.ensures.lent ∙ c.text-2.ensures.lent) in
    joined (string_bytes c.new-pairs.result) (string_bytes c.put_addresses.new.pairs) (string_bytes c.put_actor.new.pairs) (string_bytes c.put_pair.new.pairs) (string_bytes c.put_pair-2.new.pairs)
    (codes "endpoint=" ++ escaped (base ++ codes "xapi/")) (codes "&fetch=" ++ escaped (base ++ codes "fetch/" ++ c.args.key.now)) (codes "&actor=" ++ escaped (written (agent_json c.args.actor.now)))
    (codes "&registration=" ++ escaped (id_text c.args.registration.now)) (codes "&activityId=" ++ escaped c.args.activity.now) c.new-pairs.ensures.bytes c.in_ok-put_addresses.ensures c.in_ok-put_actor.ensures
    (c.in_ok-put_pair.ensures ∙ ap (λ v. string_bytes c.put_actor.new.pairs ++ v) registration) (c.in_ok-put_pair-2.ensures ∙ ap (λ v. string_bytes c.put_pair.new.pairs ++ v) activity)
