use Rattle.std.proofs.Common.{refl}
use Rattle.std.proofs.lemmas.Result.{on_ok_weaker}
use Rattle.lrs_json.specs.Texts.{name_text}
use Rattle.xapi_received.proofs.Drafting.{text_added}
use Rattle.xapi_received.proofs.draft.Draft.put_name.Goals as goal

pub returns : goal.returns
returns c = on_ok_weaker c.put_name.result (λ e. text_added c.args.self.now (record c.args.self.now { text = c.put_name.new.into }) (name_text c.args.later c.args.name.now) e refl refl) c.put_name.ensures.ok
