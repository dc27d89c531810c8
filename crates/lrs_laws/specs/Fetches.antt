-- What follows from the definitions over every legal history of fetch keys: each gives one token, once.
use Rattle.std.specs.Prelude.{◌≡◌, ◌≢◌, ℕ, List, ◌∷◌, ◌++◌, length, None}
use Rattle.lrs_command.specs.declared.command.Command.TheVariants.{Write}
use Rattle.lrs_history.specs.History.{answer, only, IsLegal}
use Rattle.lrs_names.specs.declared.draw.Draw.{Draw}
use Rattle.lrs_record.specs.declared.entry.Caller.{Caller}
use Rattle.lrs_record.specs.declared.entry.Entry.{Entry}
use Rattle.lrs_record.specs.declared.entry.Write.TheVariants.{Fetch}
use Rattle.lrs_replies.specs.Texts.{key_used_body, session_token_body, token_text}
use Rattle.lrs_replies.specs.declared.answered.Answered.TheVariants.{Shown}

-- A fetch that stands in the history gave its caller a token, which tells the fetch's index.
abbrev pub FetchesGive : Type 0
FetchesGive =
    (limit : ℕ) (before behind : List Entry) (e : Entry) (key : List ℕ) → IsLegal limit (before ++ e ∷ behind)
    → e.write ≡ Fetch key
    → (answer limit before e.caller (Write e.write) e.moment e.draw).said
    ≡ Shown (session_token_body (token_text (length before) e.draw.secret)) None

-- No two of its entries fetch with one key.
abbrev pub KeysGiveOnce : Type 0
KeysGiveOnce =
    (limit : ℕ) (before between behind : List Entry) (e f : Entry) (key : List ℕ)
    → IsLegal limit (before ++ e ∷ (between ++ f ∷ behind)) → e.write ≡ Fetch key → f.write ≢ Fetch key

-- Whoever fetches with the key again is told so, and nothing else happens.
abbrev pub UsedKeysAreTold : Type 0
UsedKeysAreTold =
    (limit : ℕ) (before behind : List Entry) (e : Entry) (key : List ℕ) (caller : Caller) (clock : ℕ) (draw : Draw)
    → IsLegal limit (before ++ e ∷ behind) → e.write ≡ Fetch key
    → answer limit (before ++ e ∷ behind) caller (Write (Fetch key)) clock draw ≡ only (Shown key_used_body None)
