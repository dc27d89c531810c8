-- What `load` does to a store: it posts the batches of a seed as the operator, one after the other.
use Rattle.std.specs.Prelude.{◌≡◌, ◌⊎◌, ◌+◌, ℕ, zero, suc, List, [], ◌∷◌, ◌++◌, map, Some}
use Rattle.lrs_command.specs.declared.command.Command.TheVariants.{Write}
use Rattle.lrs_console.specs.declared.ending.Ending.{Ending}
use Rattle.lrs_console.specs.declared.ending.Ending.TheVariants as ending
use Rattle.lrs_generator.specs.Generated.{batch}
use Rattle.lrs_hall.specs.Draws.{Draws, draw_at, next_draws}
use Rattle.lrs_hall.specs.LrsHistoryHistory.{Answer, answer, state, with_entry}
use Rattle.lrs_json.specs.View.{view}
use Rattle.lrs_json.specs.declared.tree.Tree.{Tree}
use Rattle.lrs_names.specs.declared.draw.Draw.{Draw}
use Rattle.lrs_record.specs.declared.entry.Caller.TheVariants.{Operator}
use Rattle.lrs_record.specs.declared.entry.Entry.{Entry}
use Rattle.lrs_record.specs.declared.entry.Write.TheVariants.{Post}
use Rattle.lrs_replies.specs.declared.answered.Answered.{Answered}
use Rattle.lrs_replies.specs.declared.answered.Answered.TheVariants as said
use Rattle.lrs_replies.specs.declared.answered.Refusal.{Refusal}
use Rattle.lrs_replies.specs.declared.answered.Refusal.TheVariants as refusal
use Rattle.xapi_pages.specs.Listings.{listed_of_all}

-- a batch that is refused ends so
abbrev pub EndsLoadRefused : Refusal → Ending → Type 0
EndsLoadRefused (refusal.Conflict held) end = end ≡ ending.Conflict held
EndsLoadRefused (refusal.Full need limit) end = end ≡ ending.Full need limit
EndsLoadRefused other end = ⊥

-- What the store says to a batch ends the loading so. It goes on behind whatever isn't a refusal.
abbrev pub EndsLoad : Answered → Ending → Type 0
EndsLoad (said.Refused r) end = EndsLoadRefused r end
EndsLoad other end = ⊥

-- it isn't refused
abbrev pub GoesOnLoading : Answered → Type 0
GoesOnLoading (said.Refused r) = ⊥
GoesOnLoading other = Unit {0}

-- the abstract store's answer to the operator's post
abbrev pub post_answer : ℕ → List Entry → ℕ → Draw → List Tree → Answer
post_answer limit h clock draw trees = answer limit h Operator (Write (Post trees)) clock draw

-- A batch is answered by a, and the loading ends there with this history: it is refused, or memory ran out, or the disk
-- failed, when the batch's entry may stand or not.
abbrev pub StopsLoading : List Entry → Answer → List Entry → Ending → Type 0
StopsLoading h a final ending.Memory = final ≡ h
StopsLoading h a final ending.DiskFault = (final ≡ h) ⊎ ((e : Entry) × (a.entry ≡ Some e) × (final ≡ h ++ e ∷ []))
StopsLoading h a final end = EndsLoad a.said end × (final ≡ h)

-- From batch j on, of n statements, with so many batches left, at these readings of the clock, with the draws from here
-- on: which history the batches that went well give, with which one it ends, and how.
abbrev pub LoadsFrom : ℕ → ℕ → ℕ → ℕ → Draws → ℕ → List ℕ → List Entry → List Entry → List Entry → Ending → Type 0
LoadsFrom limit seed n j draws zero [] h kept final end =
    (kept ≡ h) × (final ≡ h) × (end ≡ ending.Loaded n (listed_of_all (state h).statements))
LoadsFrom limit seed n j draws zero (clock ∷ clocks) h kept final end = ⊥
LoadsFrom limit seed n j draws (suc left) [] h kept final end = (kept ≡ h) × (final ≡ h) × (end ≡ ending.Memory)
LoadsFrom limit seed n j draws (suc left) (clock ∷ clocks) h kept final end =
    (trees : List Tree) × (map view trees ≡ batch seed n j)
    × ((GoesOnLoading (post_answer limit h clock (draw_at draws) trees).said
    × LoadsFrom limit seed n (j + 1) (next_draws draws) left clocks
    (with_entry h (post_answer limit h clock (draw_at draws) trees).entry) kept final end)
    ⊎ ((clocks ≡ []) × (kept ≡ h) × StopsLoading h (post_answer limit h clock (draw_at draws) trees) final end))
