use Rattle.std.proofs.Common.{◌≡◌, ◌+◌, ◌∙◌, List, ℕ, Option, Some, None, true, ap, refl, sym, subst, arith}
use Rattle.lrs_disk.specs.Disk.{LeavesOnly}
use Rattle.lrs_disk.proofs.Moments.{started, now_has, weaker_run}
use Rattle.lrs_journal.specs.Steps.{IsAtGate, IsSound}
use Rattle.lrs_journal.specs.Journal.{Journal, frames_of, StandsForFrames, IsJournal, IsUnchanged}
use Rattle.lrs_journal.proofs.Kept.{seen, sound_journal, doubt_journal, settled_journal, after_gate, after_opened, gate_there, gate_leaves}
use Rattle.lrs_journal.proofs.journal.Journal.settle.Goals as goal

pub returns-in_default-clause-sound : goal.returns-in_default-clause-sound
returns-in_default-clause-sound g c =
    let i = c.self.inside in
    subst (IsJournal g.D.Disk.told g.D.Disk.image) c.self.view_is (sound_journal g.D.Disk.told g.D.Disk.image g.met.D.Disk.reads_image i.disk i.limit i.gate i.number i.doubt c.self.invariant)

pub returns-in_default-clause-any_moment : goal.returns-in_default-clause-any_moment
returns-in_default-clause-any_moment g c x is =
    let i = c.self.inside in
    let sound = subst (IsJournal g.D.Disk.told g.D.Disk.image) c.self.view_is (sound_journal g.D.Disk.told g.D.Disk.image g.met.D.Disk.reads_image i.disk i.limit i.gate i.number i.doubt c.self.invariant) in
    started g.D.Disk.time g.D.Disk.image_since g.D.Disk.image g.met.D.Disk.counts_now g.met.D.Disk.only_now c.args.self.now.disk _ (λ f left. (sound.holds x is).each f left)

pub write_gate-requires : goal.write_gate-requires
write_gate-requires g c =
    let i = c.self.inside in
    record { offset = λ b told_b. let lt = gate_there g.D.Disk.told g.D.Disk.image g.met.D.Disk.reads_image i.disk i.limit i.gate i.number i.doubt c.self.invariant b told_b in omega (arith, lt) }

pub invariant_of-self : goal.invariant_of-self
invariant_of-self g c =
    let i = c.self.inside in
    let d1 = c.write_gate.new.disk in
    let old = subst (λ (o : Option ℕ). IsSound (g.D.Disk.told i.disk) (g.D.Disk.image i.disk) i.limit i.gate i.number o) c.in-Some.is c.self.invariant in
    let now = now_has g.D.Disk.time g.D.Disk.image_since g.D.Disk.image g.met.D.Disk.counts_now g.met.D.Disk.only_now i.disk d1 (IsAtGate i.gate (g.D.Disk.image i.disk)) c.write_gate.ensures.any_moment in
    let after = after_gate g.D.Disk.told g.D.Disk.image g.met.D.Disk.reads_image i.disk d1 i.limit i.gate i.number c.in-Some.size old c.write_gate.ensures.tells now in
    subst (λ (o : Option ℕ). IsSound (g.D.Disk.told d1) (g.D.Disk.image d1) i.limit i.gate i.number o) (sym c.in-Some.is) after.0

pub returns-in_err-write_gate-clause-frames : goal.returns-in_err-write_gate-clause-frames
returns-in_err-write_gate-clause-frames g c =
    let i = c.self.inside in
    let d1 = c.write_gate.new.disk in
    let told = g.D.Disk.told in
    let old = subst (λ (o : Option ℕ). IsSound (told i.disk) (g.D.Disk.image i.disk) i.limit i.gate i.number o) c.in-Some.is c.self.invariant in
    let now = now_has g.D.Disk.time g.D.Disk.image_since g.D.Disk.image g.met.D.Disk.counts_now g.met.D.Disk.only_now i.disk d1 (IsAtGate i.gate (g.D.Disk.image i.disk)) c.write_gate.ensures.any_moment in
    let after = after_gate told g.D.Disk.image g.met.D.Disk.reads_image i.disk d1 i.limit i.gate i.number c.in-Some.size old c.write_gate.ensures.tells now in
    let same = subst (λ (o : Option ℕ). IsUnchanged told (seen i.disk i.limit i.gate i.number o) (seen d1 i.limit i.gate i.number o)) (sym c.in-Some.is) (record { frames = after.1; number = refl; end = refl; limit = refl }) in
    subst (λ (h : Journal _). IsUnchanged told h (seen d1 i.limit i.gate i.number i.doubt)) c.self.view_is same

pub returns-in_err-write_gate-clause-sound : goal.returns-in_err-write_gate-clause-sound
returns-in_err-write_gate-clause-sound g c =
    let i = c.self.inside in
    let d1 = c.write_gate.new.disk in
    let old = subst (λ (o : Option ℕ). IsSound (g.D.Disk.told i.disk) (g.D.Disk.image i.disk) i.limit i.gate i.number o) c.in-Some.is c.self.invariant in
    let now = now_has g.D.Disk.time g.D.Disk.image_since g.D.Disk.image g.met.D.Disk.counts_now g.met.D.Disk.only_now i.disk d1 (IsAtGate i.gate (g.D.Disk.image i.disk)) c.write_gate.ensures.any_moment in
    let after = after_gate g.D.Disk.told g.D.Disk.image g.met.D.Disk.reads_image i.disk d1 i.limit i.gate i.number c.in-Some.size old c.write_gate.ensures.tells now in
    subst (λ (o : Option ℕ). IsJournal g.D.Disk.told g.D.Disk.image (seen d1 i.limit i.gate i.number o)) (sym c.in-Some.is)
    (doubt_journal g.D.Disk.told g.D.Disk.image g.met.D.Disk.reads_image d1 i.limit i.gate i.number c.in-Some.size after.0)

pub returns-in_err-write_gate-clause-any_moment : goal.returns-in_err-write_gate-clause-any_moment
returns-in_err-write_gate-clause-any_moment g c =
    let i = c.self.inside in
    let d1 = c.write_gate.new.disk in
    let T = g.D.Disk.time in
    let S = g.D.Disk.image_since in
    let I = g.D.Disk.image in
    let told = g.D.Disk.told in
    let old = subst (λ (o : Option ℕ). IsSound (told i.disk) (I i.disk) i.limit i.gate i.number o) c.in-Some.is c.self.invariant in
    let run : (x : List (List ℕ)) → frames_of told (seen i.disk i.limit i.gate i.number (Some c.in-Some.size)) ≡ Some x → LeavesOnly T S i.disk d1 (StandsForFrames i.limit true x) = λ x is.
    weaker_run T S I g.met.D.Disk.counts_now g.met.D.Disk.only_now i.disk d1 (IsAtGate i.gate (I i.disk)) (StandsForFrames i.limit true x) c.write_gate.ensures.any_moment
    (gate_leaves told I g.met.D.Disk.reads_image i.disk i.limit i.gate i.number c.in-Some.size old x is) in
    subst (λ (h : Journal _). (x : List (List ℕ)) → frames_of told h ≡ Some x → LeavesOnly T S h.disk d1 (StandsForFrames h.limit h.doubt x)) (ap (λ (o : Option ℕ). seen i.disk i.limit i.gate i.number o) (sym c.in-Some.is) ∙ c.self.view_is) run

pub invariant_of-self-2 : goal.invariant_of-self-2
invariant_of-self-2 g c =
    let i = c.self.inside in
    let d1 = c.write_gate.new.disk in
    let old = subst (λ (o : Option ℕ). IsSound (g.D.Disk.told i.disk) (g.D.Disk.image i.disk) i.limit i.gate i.number o) c.in-Some.is c.self.invariant in
    let after = after_opened g.D.Disk.told g.D.Disk.image g.met.D.Disk.reads_image i.disk d1 i.limit i.gate i.number c.in-Some.size old c.write_gate.ensures.tells c.in_ok-write_gate.ensures.written in
    after.0

pub returns-clause-frames : goal.returns-clause-frames
returns-clause-frames g c =
    let i = c.self.inside in
    let d1 = c.write_gate.new.disk in
    let told = g.D.Disk.told in
    let old = subst (λ (o : Option ℕ). IsSound (told i.disk) (g.D.Disk.image i.disk) i.limit i.gate i.number o) c.in-Some.is c.self.invariant in
    let after = after_opened told g.D.Disk.image g.met.D.Disk.reads_image i.disk d1 i.limit i.gate i.number c.in-Some.size old c.write_gate.ensures.tells c.in_ok-write_gate.ensures.written in
    let new : Journal _ = seen d1 i.limit (i.gate + (13 + c.in-Some.size)) i.number None in
    subst (λ (h : Journal _). IsUnchanged told h new) (ap (λ (o : Option ℕ). seen i.disk i.limit i.gate i.number o) (sym c.in-Some.is) ∙ c.self.view_is) (record { frames = after.1; number = refl; end = refl; limit = refl })

pub returns-clause-sound : goal.returns-clause-sound
returns-clause-sound g c =
    let i = c.self.inside in
    let d1 = c.write_gate.new.disk in
    let old = subst (λ (o : Option ℕ). IsSound (g.D.Disk.told i.disk) (g.D.Disk.image i.disk) i.limit i.gate i.number o) c.in-Some.is c.self.invariant in
    let after = after_opened g.D.Disk.told g.D.Disk.image g.met.D.Disk.reads_image i.disk d1 i.limit i.gate i.number c.in-Some.size old c.write_gate.ensures.tells c.in_ok-write_gate.ensures.written in
    settled_journal g.D.Disk.told g.D.Disk.image g.met.D.Disk.reads_image d1 i.limit (i.gate + (13 + c.in-Some.size)) i.number after.0

pub returns-clause-any_moment : goal.returns-clause-any_moment
returns-clause-any_moment g c =
    let i = c.self.inside in
    let d1 = c.write_gate.new.disk in
    let T = g.D.Disk.time in
    let S = g.D.Disk.image_since in
    let I = g.D.Disk.image in
    let told = g.D.Disk.told in
    let old = subst (λ (o : Option ℕ). IsSound (told i.disk) (I i.disk) i.limit i.gate i.number o) c.in-Some.is c.self.invariant in
    let run : (x : List (List ℕ)) → frames_of told (seen i.disk i.limit i.gate i.number (Some c.in-Some.size)) ≡ Some x → LeavesOnly T S i.disk d1 (StandsForFrames i.limit true x) = λ x is.
    weaker_run T S I g.met.D.Disk.counts_now g.met.D.Disk.only_now i.disk d1 (IsAtGate i.gate (I i.disk)) (StandsForFrames i.limit true x) c.write_gate.ensures.any_moment
    (gate_leaves told I g.met.D.Disk.reads_image i.disk i.limit i.gate i.number c.in-Some.size old x is) in
    subst (λ (h : Journal _). (x : List (List ℕ)) → frames_of told h ≡ Some x → LeavesOnly T S h.disk d1 (StandsForFrames h.limit h.doubt x)) (ap (λ (o : Option ℕ). seen i.disk i.limit i.gate i.number o) (sym c.in-Some.is) ∙ c.self.view_is) run
