-- `rfind` gives the index of the last at sign.
use Rattle.std.proofs.Common.{Some, None, sym, lit<}
use Rattle.std.proofs.lemmas.Str.Pattern.{rfind_char}
use Rattle.lrs_agents.proofs.AtSigns.{around_at, around_start, around_none}
use Rattle.lrs_agents.proofs.identifiers.stands_around_at_sign.Goals as goal

pub returns-then-at-gt0 : goal.returns-then-at-gt0
returns-then-at-gt0 c = around_at _ _ (rfind_char 64 c.args.text.now (Some c.in-Some.at) c.in-Some.ensures.cases (lit< tt)) c.if-at-gt0.true

pub returns-else-at-gt0 : goal.returns-else-at-gt0
returns-else-at-gt0 c = around_start _ _ (rfind_char 64 c.args.text.now (Some c.in-Some.at) c.in-Some.ensures.cases (lit< tt)) c.if-at-gt0.false

pub returns-in-None : goal.returns-in-None
returns-in-None c = sym (around_none _ (rfind_char 64 c.args.text.now None c.in-None.ensures.cases (lit< tt)))
