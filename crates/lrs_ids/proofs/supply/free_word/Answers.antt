use Rattle.std.proofs.Common.{◌+◌, sym, ◌∙◌, arith}
use Rattle.lrs_ids.specs.Ids.{is_free}
use Rattle.lrs_ids.proofs.MadeIds.{so_far-begin, so_far-more, so_far-found, so_far-none}
use Rattle.lrs_ids.proofs.supply.free_word.Goals as goal

pub loop-free-init : goal.loop-free-init
loop-free-init g c = so_far-begin (is_free (g.U.UsedIds.used c.args.used.now) c.args.gone.now.keys) c.args.most c.args.word

pub loop-free-preserved : goal.loop-free-preserved
loop-free-preserved g c =
    so_far-more (is_free (g.U.UsedIds.used c.args.used.now) c.args.gone.now.keys) c.args.most c.args.word (c.args.word + c.args.most) c.loop-free.free (omega arith)
    (sym c.is_free.ensures ∙ c.if-is_free.false) c.loop-free.invariant

pub returns-then-is_free-clause-free : goal.returns-then-is_free-clause-free
returns-then-is_free-clause-free g c =
    so_far-found (is_free (g.U.UsedIds.used c.args.used.now) c.args.gone.now.keys) c.args.most c.args.word (c.args.word + c.args.most) c.loop-free.free (omega arith)
    (sym c.is_free.ensures ∙ c.if-is_free.true) c.loop-free.invariant

pub returns-clause-free : goal.returns-clause-free
returns-clause-free g c =
    so_far-none (is_free (g.U.UsedIds.used c.args.used.now) c.args.gone.now.keys) c.args.most c.args.word (c.args.word + c.args.most) c.loop-free.free (omega arith) c.loop-free.invariant
