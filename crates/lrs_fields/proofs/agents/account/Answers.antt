use Rattle.lrs_fields.proofs.AgentReading.{account_read, brace_missing, home_failed, name_failed}
use Rattle.lrs_fields.proofs.Sequences.{failed}
use Rattle.lrs_fields.proofs.agents.account.Goals as goal

pub returns-in_err-home : goal.returns-in_err-home
returns-in_err-home c = failed _ c.from_residual.ensures.1 (home_failed _ _ _ _ c.in_err-home.ensures)

pub returns-in_err-name : goal.returns-in_err-name
returns-in_err-name c = failed _ c.from_residual-in_err-name.ensures.1 (name_failed _ _ _ _ _ _ c.in_ok-home.ensures c.in_err-name.ensures)

pub returns-in_err-word : goal.returns-in_err-word
returns-in_err-word c = failed _ c.from_residual-in_err-word.ensures.1 (brace_missing _ _ _ _ _ _ _ c.in_ok-home.ensures c.in_ok-name.ensures c.in_err-word.ensures.all)

pub returns : goal.returns
returns c = account_read _ _ _ _ _ _ c.in_ok-home.ensures c.in_ok-name.ensures c.in_ok-word.ensures.found c.in_ok-word.ensures.all
