-- `BadEntry` comes exactly where the bytes are the text of no lawful entry.
use Rattle.std.proofs.Common.{◌≡◌, ◌⊎◌, ℕ, List, Result, Ok, Err, IfOk, MatchResult, inl, inr, refl}
use Rattle.lrs_record.specs.Entries.{IsEntryText, IsLawful, written_entry}
use Rattle.lrs_record.specs.declared.entry.Entry.{Entry}
use Rattle.lrs_record.specs.declared.refused.EntryRefused.{EntryRefused}
use Rattle.lrs_record.specs.declared.refused.EntryRefused.TheVariants.{BadEntry, Memory}

-- each lawful entry of this text is the one that was read, or memory ran out
abbrev pub ReadsAgain : List ℕ → Result Entry EntryRefused → Type 0
ReadsAgain bytes result =
    (entry : Entry) → IsLawful entry → written_entry entry ≡ bytes → MatchResult result (λ read. read ≡ entry) (λ refused. refused ≡ Memory)

pub bad_only : (bytes : List ℕ) (result : Result Entry EntryRefused) → ReadsAgain bytes result → result ≡ Err BadEntry → ¬ (IsEntryText bytes)
bad_only bytes (Ok entry) again is text = absurd (cc is)
bad_only bytes (Err BadEntry) again is text = absurd (cc (again text.0 text.1 text.2))
bad_only bytes (Err Memory) again is text = absurd (cc is)

pub bad_always : (bytes : List ℕ) (result : Result Entry EntryRefused) → IfOk result (λ entry. IsLawful entry × (written_entry entry ≡ bytes)) → ¬ (IsEntryText bytes)
    → (result ≡ Err BadEntry) ⊎ (result ≡ Err Memory)
bad_always bytes (Ok entry) found none = absurd (none (entry, found.0, found.1))
bad_always bytes (Err BadEntry) found none = inl refl
bad_always bytes (Err Memory) found none = inr refl
