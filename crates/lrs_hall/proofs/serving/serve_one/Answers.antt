use Rattle.std.proofs.Common.{◌++◌, ◌∷◌, [], List, ◌∙◌, sym, ap, subst}
use Rattle.std.specs.Prelude.{option_map}
use Rattle.lrs_disk.specs.Door.{DoorState, Returned, Brings, link_returned}
use Rattle.lrs_disk.specs.declared.door.Next.TheVariants as answers
use Rattle.lrs_hall.specs.Acts.{ActsOn, limit_in}
use Rattle.lrs_hall.specs.Serving.{IsOnLink}
use Rattle.lrs_hall.specs.Steps.{worker}
use Rattle.lrs_hall.proofs.Passing.{kept_still}
use Rattle.lrs_hall.proofs.Doors.{is_over, brings_one}
use Rattle.lrs_hall.proofs.serving.serve_one.Goals as goal

pub returns-in-Joined-clause-served : goal.returns-in-Joined-clause-served
returns-in-Joined-clause-served g c =
    let talk = c.hold-talk.ensures.talk in
    let came = c.in-Joined.ensures in
    let gone = c.done.ensures in
    let stay = c.hold-talk.ensures.door in
    let link : Returned = link_returned (g.O.Link.Link.stream c.hold-talk.new.link) (g.O.Link.Link.taken c.hold-talk.new.link) (g.O.Link.Link.fault_count c.hold-talk.new.link) in
    let on_link : IsOnLink (ActsOn (limit_in c.args.pass.now.marks)) c.hold-talk.result link (worker c.args.draws.now c.args.pass.now (g.O.Door.state c.next.new.self).readings) (worker c.hold-talk.new.draws c.hold-talk.new.pass (g.O.Door.state c.hold-talk.new.door).readings) =
    is_over (ActsOn (limit_in c.args.pass.now.marks)) c.hold-talk.result _ _ (g.O.Link.Link.left c.in-Joined.link) (g.O.Link.Link.stream c.hold-talk.new.link) (g.O.Link.Link.stream c.in-Joined.link)
    (g.O.Link.Link.taken c.in-Joined.link) (g.O.Link.Link.taken c.hold-talk.new.link) talk.0 (g.O.Link.Link.fault_count c.in-Joined.link) (g.O.Link.Link.fault_count c.hold-talk.new.link)
    came.unread c.hold-talk.ensures.stream_kept came.unwritten talk.1 came.unfailed c.hold-talk.ensures.cause talk.2 in (
      link,
      subst (λ r. IsOnLink (ActsOn (limit_in c.args.pass.now.marks)) c.hold-talk.result link (worker c.args.draws.now c.args.pass.now r) (worker c.hold-talk.new.draws c.hold-talk.new.pass (g.O.Door.state c.done.new.self).readings)) (ap (λ (s : DoorState). s.readings) came.only)
          (subst (λ r. IsOnLink (ActsOn (limit_in c.args.pass.now.marks)) c.hold-talk.result link (worker c.args.draws.now c.args.pass.now (g.O.Door.state c.next.new.self).readings) (worker c.hold-talk.new.draws c.hold-talk.new.pass r)) (sym (ap (λ (s : DoorState). s.readings) gone)) on_link),
      record {
        out = ap (λ (s : DoorState). s.out) gone;
        returned = ap (λ (s : DoorState). s.returned) gone ∙ ap (λ (s : DoorState). option_map (λ (links : List Returned). links ++ link ∷ []) s.returned) stay ∙ ap (λ (s : DoorState). option_map (λ (links : List Returned). links ++ link ∷ []) s.returned) came.only;
        streams = brings_one g.O.Link.Link.stream c.in-Joined.link link.stream (g.O.Door.state c.args.door.now).streams (g.O.Door.state c.done.new.self).streams c.hold-talk.ensures.stream_kept
            (subst (λ s. Brings g.O.Link.Link.stream (answers.Joined c.in-Joined.link) (g.O.Door.state c.args.door.now).streams s) (sym (ap (λ (s : DoorState). s.streams) gone ∙ ap (λ (s : DoorState). s.streams) stay)) came.streams);
        faults = ap (λ (s : DoorState). s.faults) gone ∙ ap (λ (s : DoorState). s.faults) stay ∙ came.cause;
      },
    )

pub returns-in-Closed-clause-pass : goal.returns-in-Closed-clause-pass
returns-in-Closed-clause-pass g c = kept_still c.args.turns.now c.args.pass.now c.requires.idle

pub returns-in-Failed-clause-pass : goal.returns-in-Failed-clause-pass
returns-in-Failed-clause-pass g c = kept_still c.args.turns.now c.args.pass.now c.requires.idle
