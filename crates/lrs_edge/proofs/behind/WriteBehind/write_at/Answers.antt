use Rattle.std.proofs.Common.{◌∙◌, ◌≡◌, ℕ, List, Option, OnOk, OnErr, length, option_map, subst}
use Rattle.lrs_disk.specs.Disk.{written, Torn, BothTold}
use Rattle.lrs_edge.specs.Behind.{told_by}
use Rattle.lrs_edge.proofs.behind.WriteBehind.write_at.Goals as goal

pub returns-clause-written : goal.returns-clause-written
returns-clause-written g c =
    subst (λ (seen : Option (List ℕ)). OnOk c.write_through.result (told_by g.B.Bytes.told c.write_through.new.self ≡ option_map (λ (b : List ℕ). written b c.args.offset c.args.bytes.now) seen))
    (c.gather-2.ensures.not c.if-gather-2.false ∙ c.flush.ensures.same ∙ c.gather.ensures.not c.if-gather.false) c.write_through.ensures.written

pub returns-clause-failed : goal.returns-clause-failed
returns-clause-failed g c =
    subst (λ (seen : Option (List ℕ)). OnErr c.write_through.result (BothTold (Torn c.args.offset (length c.args.bytes.now)) seen (told_by g.B.Bytes.told c.write_through.new.self)))
    (c.gather-2.ensures.not c.if-gather-2.false ∙ c.flush.ensures.same ∙ c.gather.ensures.not c.if-gather.false) c.write_through.ensures.failed
