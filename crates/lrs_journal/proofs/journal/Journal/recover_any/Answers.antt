use Rattle.std.proofs.Common.{◌≡◌, ◌∙◌, ◌-◌, ℕ, [], length, take, drop, Some, min, ap, sym, refl, true≢false, arith}
use Rattle.lrs_journal.proofs.Frames.{at_some, head_is, header_front, has_header, read_none}
use Rattle.lrs_journal.proofs.journal.Journal.recover_any.Goals as goal

pub invariant_of-result : goal.invariant_of-result
invariant_of-result g c =
    let told = g.D.Disk.told in
    let d0 = c.args.disk in
    let d1 = c.sync.new.self in
    let d2 = c.len.new.self in
    let d3 = c.read_at.new.self in
    let same : told d3 ≡ told d1 = c.read_at.ensures.still ∙ c.len.ensures.still in
    record {
      least = c.in-Some.ensures.found.1;
      most = c.in-Some.ensures.found.2;
      few = omega arith;
      synced = λ f left. same ∙ c.in-Ok.ensures.durable f (c.len.ensures.crash f (c.read_at.ensures.crash f left));
      size_is = λ x told_x. at_some (λ b. c.in-Ok-len.size ≡ length b) (told d1) x (sym same ∙ told_x) c.in-Ok-len.ensures.length;
      tied = λ x told_x.
          let told_2 : told d2 ≡ Some x = sym c.read_at.ensures.still ∙ told_x in
          let number = at_some (λ b. c.in-Ok-read_at.number ≡ min 17 (length b - 0)) (told d2) x told_2 c.in-Ok-read_at.ensures.number in
          let bytes = at_some (λ b. take c.in-Ok-read_at.number c.read_at.new.into ≡ take c.in-Ok-read_at.number (drop 0 b)) (told d2) x told_2 c.in-Ok-read_at.ensures.bytes in
          let front : take c.min.result c.read_at.new.into ≡ take 17 x = ap (λ (k : ℕ). take k c.read_at.new.into) c.min.ensures ∙ head_is 17 c.in-Ok-read_at.number c.read_at.new.into x (omega (arith, number)) bytes in
          ([], read_none c.in-Some.header.format x c.in-Some.header.limit (has_header c.in-Some.header.format x c.in-Some.header.limit (sym front ∙ c.in-Some.ensures.found.0) c.in-Some.ensures.found.1 c.in-Some.ensures.found.2));
      ends = λ x told_x no. absurd (true≢false (sym no));
    }

pub returns-in-None-clause-not_a_store : goal.returns-in-None-clause-not_a_store
returns-in-None-clause-not_a_store g c _ x told_x f limit h =
    let told = g.D.Disk.told in
    let d2 = c.len.new.self in
    let told_2 : told d2 ≡ Some x = c.len.ensures.still ∙ c.sync.ensures.still ∙ told_x in
    let number = at_some (λ b. c.in-Ok-read_at.number ≡ min 17 (length b - 0)) (told d2) x told_2 c.in-Ok-read_at.ensures.number in
    let bytes = at_some (λ b. take c.in-Ok-read_at.number c.read_at.new.into ≡ take c.in-Ok-read_at.number (drop 0 b)) (told d2) x told_2 c.in-Ok-read_at.ensures.bytes in
    let front : take c.min.result c.read_at.new.into ≡ take 17 x = ap (λ (k : ℕ). take k c.read_at.new.into) c.min.ensures ∙ head_is 17 c.in-Ok-read_at.number c.read_at.new.into x (omega (arith, number)) bytes in
    c.in-None.ensures.none refl f limit (record { least = h.least; most = h.most; rest = []; split = front ∙ header_front f x limit h })

pub returns-in-Some-clause-opened : goal.returns-in-Some-clause-opened
returns-in-Some-clause-opened g c x told_x =
    let told = g.D.Disk.told in
    let d2 = c.len.new.self in
    let told_2 : told d2 ≡ Some x = c.len.ensures.still ∙ c.sync.ensures.still ∙ told_x in
    let number = at_some (λ b. c.in-Ok-read_at.number ≡ min 17 (length b - 0)) (told d2) x told_2 c.in-Ok-read_at.ensures.number in
    let bytes = at_some (λ b. take c.in-Ok-read_at.number c.read_at.new.into ≡ take c.in-Ok-read_at.number (drop 0 b)) (told d2) x told_2 c.in-Ok-read_at.ensures.bytes in
    let front : take c.min.result c.read_at.new.into ≡ take 17 x = ap (λ (k : ℕ). take k c.read_at.new.into) c.min.ensures ∙ head_is 17 c.in-Ok-read_at.number c.read_at.new.into x (omega (arith, number)) bytes in
    let h = has_header c.in-Some.header.format x c.in-Some.header.limit (sym front ∙ c.in-Some.ensures.found.0) c.in-Some.ensures.found.1 c.in-Some.ensures.found.2 in
    (h, read_none c.in-Some.header.format x c.in-Some.header.limit h)
