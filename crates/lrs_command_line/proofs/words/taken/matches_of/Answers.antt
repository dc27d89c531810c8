use Rattle.std.proofs.Common.{◌∙◌, ℕ, List, map, ap, inl, inr}
use Rattle.std.specs.Borrow.{Bor}
use Rattle.clap.specs.Words.{App, Text, is_simple, is_simple_and_free, subcommand_of}
use Rattle.lrs_command_line.proofs.Taken.{faulty, free, simple, whole}
use Rattle.lrs_command_line.proofs.words.taken.matches_of.Goals as goal

abbrev texts : List (Bor (List ℕ)) → List Text
texts = map (λ t. t.now)

pub returns-in-Ok : goal.returns-in-Ok
returns-in-Ok c =
    let app_is = c.in_ok-program.ensures in
    let found = c.in-Ok.ensures.matches (ap is_simple app_is ∙ simple) in (
      whole _ (texts c.args.line.now) app_is (c.in-Ok.ensures.kinds (ap is_simple_and_free app_is ∙ free)),
      found.1 ∙ ap (λ (a : App). subcommand_of a (texts c.args.line.now)) app_is,
    )

pub returns : goal.returns
returns c =
    let app_is = c.in_ok-program.ensures in
    faulty _ (texts c.args.line.now) app_is (λ none. elim (c.in-Err.ensures.kinds (ap is_simple_and_free app_is ∙ free)) [
      | inl memory ↦ absurd (c.in_default.not-OutOfMemory (c.kind.ensures ∙ memory))
      | inr among ↦
          let bad : ⊥ = rw none at among in
          absurd bad
    ])
