-- What an act does to the journal and the fold, by its steps.
use Rattle.std.proofs.Common.{◌≡◌, ◌<◌, ◌≤◌, ◌+◌, ◌-◌, ℕ, List, [], ◌∷◌, ◌++◌, length, map, refl, sym, ◌∙◌, ap, subst, inl, inr, arith, Option, Some, None, Bool, true, false, Result, Ok, Err, IfOk}
use Rattle.std.specs.Prelude.{option_map, is_some, IsSome}
use Rattle.std.specs.Option.{ForSome}
use Rattle.lrs_disk.specs.Disk.{LeavesOnly}
use Rattle.lrs_disk.specs.declared.failed.Failed.{Failed}
use Rattle.lrs_fold.specs.Outcomes.{IsAcceptance, IsAccepted, IsOutcome}
use Rattle.lrs_fold.specs.declared.outcome.Accepted.{Accepted as Made}
use Rattle.lrs_fold.specs.declared.outcome.Outcome.TheVariants as made
use Rattle.lrs_fold.specs.LrsHistoryHistory.{Answer, Outcome, Said, Accepted, answer_of, refused}
use Rattle.lrs_fold.specs.LrsHistoryRoomProofs.{room_is, full_is}
use Rattle.lrs_journal.specs.Journal.{need_of, Journal, frames_of, IsJournal, IsUnchanged, IsAppended, IsAppendFailed, StandsForFrames}
use Rattle.lrs_journal.specs.Store.{IsBeforeOrAfter, Stands, need_at, need_told}
use Rattle.lrs_journal.specs.declared.sizes.TheConstants.{FRAME_HEAD}
use Rattle.lrs_machine.specs.Acts.{landed_among}
use Rattle.lrs_machine.specs.Steps.{Does, GrewBy, HoldsFrames, LeavesFrames, CarriesOut, landed_of, one_of, sure_of}
use Rattle.lrs_machine.proofs.Prefixes.{frames_around, frames_less, frames_more, frames_stand, rests, run_then, weaker}
use Rattle.lrs_parts.specs.State.{State, apply}
use Rattle.lrs_record.specs.Entries.{written_entry}
use Rattle.lrs_record.specs.declared.entry.Entry.{Entry}
use Rattle.lrs_replies.specs.declared.answered.Answered.{Answered}
use Rattle.lrs_replies.specs.declared.answered.Refusal.TheVariants as refusal
use Rattle.lrs_replies.specs.declared.reply.Trouble.{Trouble}
use Rattle.lrs_replies.specs.declared.reply.Trouble.TheVariants as trouble

pub unchanged : {D : Type 0} (told : D → Option (List ℕ)) (journal : Journal D) → IsUnchanged told journal journal
unchanged told journal = record { frames = refl; number = refl; end = refl; limit = refl }

sure_least : (d : Bool) (n : ℕ) → sure_of d n ≤ n
sure_least true n = omega arith
sure_least false n = omega arith

-- ---- nothing was written

-- each image now holds the frames that stand without doubt
pub stands_still : {D : Type 0} (told : D → Option (List ℕ)) (image : D → List ℕ → Type 0) (time : D → ℕ) (since : D → ℕ → List ℕ → Type 0) → ((d : D) (c : List ℕ) → since d (time d) c → image d c)
    → (journal : Journal D) → IsJournal told image journal → LeavesFrames told time since journal journal None
stands_still told image time since only_now journal sound = λ ps there.
    rests time since image only_now journal.disk (HoldsFrames journal.limit (sure_of journal.doubt (length ps)) (ps ++ []))
    (λ c left. frames_more journal.limit (sure_of journal.doubt (length ps)) ps [] c (frames_stand journal.limit journal.doubt ps c ((sound.holds ps there).each c left)))

-- the command was answered at once
pub said_does : {D : Type 0} (told : D → Option (List ℕ)) (image : D → List ℕ → Type 0) (time : D → ℕ) (since : D → ℕ → List ℕ → Type 0) → ((d : D) (c : List ℕ) → since d (time d) c → image d c)
    → (journal : Journal D) (st : State) (s : Answered) (v : Outcome) → IsJournal told image journal → IsOutcome st v (made.Said s) → journal.doubt ≡ false → Does told time since journal journal st st v (Ok s) None
said_does told image time since only_now journal st s (Said t) sound is settled = record {
  grew = unchanged told journal;
  folds = refl;
  says = (is, refl, settled);
  later = omega arith;
  leaves = stands_still told image time since only_now journal sound;
}
said_does told image time since only_now journal st s (Accepted e t) sound is settled = absurd is

-- memory ran out
pub wanting_does : {D : Type 0} (told : D → Option (List ℕ)) (image : D → List ℕ → Type 0) (time : D → ℕ) (since : D → ℕ → List ℕ → Type 0) → ((d : D) (c : List ℕ) → since d (time d) c → image d c)
    → (journal : Journal D) (st su : State) (v : Outcome) → IsJournal told image journal → su ≡ st → journal.doubt ≡ false → Does told time since journal journal st su v (Err trouble.Memory) None
wanting_does told image time since only_now journal st su v sound same settled = record {
  grew = unchanged told journal;
  folds = same;
  says = (refl, settled);
  later = omega arith;
  leaves = stands_still told image time since only_now journal sound;
}

-- there was no room
pub full_does : {D : Type 0} (told : D → Option (List ℕ)) (image : D → List ℕ → Type 0) (time : D → ℕ) (since : D → ℕ → List ℕ → Type 0) → ((d : D) (c : List ℕ) → since d (time d) c → image d c)
    → (journal : Journal D) (st : State) (a : Made) (n l : ℕ) (v : Outcome) → IsJournal told image journal → IsAcceptance st v a → journal.doubt ≡ false
    → journal.limit < need_of journal a.text → n ≡ need_told journal.end a.text → l ≡ journal.limit → Does told time since journal journal st st v (Ok (refused (refusal.Full n l))) None
full_does told image time since only_now journal st a n l (Said t) sound is settled exceeds of_need of_limit = absurd is
full_does told image time since only_now journal st a n l (Accepted e t) sound is settled exceeds of_need of_limit = record {
  grew = unchanged told journal;
  folds = refl;
  says = subst (λ (w : Answer). CarriesOut w journal.doubt journal.doubt None (Ok (refused (refusal.Full n l)))) (sym (full_is journal.limit journal.end t e (subst (λ f. journal.limit < need_at journal.end f) is.text exceeds)))
      (number n l (of_need ∙ ap (λ f. need_told journal.end f) is.text) of_limit, refl, settled);
  later = omega arith;
  leaves = stands_still told image time since only_now journal sound;
}
  where
    number : (n l : ℕ) → n ≡ need_told journal.end (written_entry e) → l ≡ journal.limit → refused (refusal.Full n l) ≡ refused (refusal.Full (need_told journal.end (written_entry e)) journal.limit)
    number n l at of = rw (at, of) refl

-- ---- an entry was added

-- by what was said, over the answer to its command
added : {D : Type 0} (told : D → Option (List ℕ)) (time : D → ℕ) (since : D → ℕ → List ℕ → Type 0) (old new : Journal D) (st su : State) (a : Made) (e : Entry) (t : Answered) (said : Result Answered Trouble)
    → IsAccepted st e t a → old.doubt ≡ false → need_of old a.text ≤ old.limit → IsAppended told old new a.text → su ≡ apply st a.effect → time old.disk ≤ time new.disk
    → ForSome (frames_of told old) (λ ps. LeavesOnly time since old.disk new.disk (IsBeforeOrAfter old.limit ps a.text))
    → CarriesOut (record { said = t; entry = Some e }) old.doubt new.doubt (Some e) said → Does told time since old new st su (Accepted e t) said (Some a.entry.value)
added told time since old new st su a e t said is settled fits more folds later leaves says = subst (λ x. Does told time since old new st su (Accepted e t) said (Some x)) (sym is.entry) (record {
  grew = (is.lawful, subst (λ f. IsAppended told old new f) is.text more);
  folds = folds ∙ ap (λ x. apply st x) is.effect;
  says = subst (λ (w : Answer). CarriesOut w old.doubt new.doubt (Some e) said) (sym (room_is old.limit old.end t e (subst (λ f. need_at old.end f ≤ old.limit) is.text fits))) says;
  later = later;
  leaves = λ ps there.
      weaker time since old.disk new.disk (IsBeforeOrAfter old.limit ps a.text) (HoldsFrames old.limit (sure_of old.doubt (length ps)) (ps ++ written_entry e ∷ [])) (leaves ps there)
      (λ c held. frames_less old.limit (length ps) (sure_of old.doubt (length ps)) (ps ++ written_entry e ∷ []) c (sure_least old.doubt (length ps))
      (frames_around old.limit ps (written_entry e) c (subst (λ f. IsBeforeOrAfter old.limit ps f c) is.text held)));
})

pub kept_does : {D : Type 0} (told : D → Option (List ℕ)) (time : D → ℕ) (since : D → ℕ → List ℕ → Type 0) (old new : Journal D) (st su : State) (a : Made) (v : Outcome)
    → IsAcceptance st v a → old.doubt ≡ false → new.doubt ≡ false → need_of old a.text ≤ old.limit → IsAppended told old new a.text → su ≡ apply st a.effect → time old.disk ≤ time new.disk
    → ForSome (frames_of told old) (λ ps. LeavesOnly time since old.disk new.disk (IsBeforeOrAfter old.limit ps a.text)) → Does told time since old new st su v (Ok a.said) (Some a.entry.value)
kept_does told time since old new st su a (Said t) is settled done fits more folds later leaves = absurd is
kept_does told time since old new st su a (Accepted e t) is settled done fits more folds later leaves =
    added told time since old new st su a e t (Ok a.said) is settled fits more folds later leaves (is.said, refl, done)

-- the disk failed, and the entry is in doubt
pub doubtful_does : {D : Type 0} (told : D → Option (List ℕ)) (time : D → ℕ) (since : D → ℕ → List ℕ → Type 0) (old new : Journal D) (st su : State) (a : Made) (v : Outcome)
    → IsAcceptance st v a → old.doubt ≡ false → new.doubt ≡ true → need_of old a.text ≤ old.limit → IsAppended told old new a.text → su ≡ apply st a.effect → time old.disk ≤ time new.disk
    → ForSome (frames_of told old) (λ ps. LeavesOnly time since old.disk new.disk (IsBeforeOrAfter old.limit ps a.text)) → Does told time since old new st su v (Err trouble.Disk) (Some a.entry.value)
doubtful_does told time since old new st su a (Said t) is settled doubt fits more folds later leaves = absurd is
doubtful_does told time since old new st su a (Accepted e t) is settled doubt fits more folds later leaves =
    added told time since old new st su a e t (Err trouble.Disk) is settled fits more folds later leaves (inr (some, refl, doubt))
  where
    some : IsSome (Some e)
    some = refl

-- the disk failed, and nothing was added
pub failed_does : {D : Type 0} (told : D → Option (List ℕ)) (time : D → ℕ) (since : D → ℕ → List ℕ → Type 0) (old new : Journal D) (st su : State) (v : Outcome)
    → old.doubt ≡ false → new.doubt ≡ false → IsUnchanged told old new → su ≡ st → time old.disk ≤ time new.disk
    → ForSome (frames_of told old) (λ ps. LeavesOnly time since old.disk new.disk (λ image. Stands image old.limit ps)) → Does told time since old new st su v (Err trouble.Disk) None
failed_does told time since old new st su v settled none same folds later leaves = record {
  grew = same;
  folds = folds;
  says = inl (refl, λ _. none);
  later = later;
  leaves = λ ps there.
      weaker time since old.disk new.disk (λ image. Stands image old.limit ps) (HoldsFrames old.limit (sure_of old.doubt (length ps)) (ps ++ [])) (leaves ps there)
      (λ c held. frames_more old.limit (sure_of old.doubt (length ps)) ps [] c
      (subst (λ d. HoldsFrames old.limit (sure_of d (length ps)) ps c) (sym settled) (frames_stand old.limit false ps c held)));
}

-- ---- after the settling

unchanged_then : {D : Type 0} (told : D → Option (List ℕ)) (old mid new : Journal D) → IsUnchanged told old mid → IsUnchanged told mid new → IsUnchanged told old new
unchanged_then told old mid new a b = record { frames = b.frames ∙ a.frames; number = b.number ∙ a.number; end = b.end ∙ a.end; limit = b.limit ∙ a.limit }

appended_then : {D : Type 0} (told : D → Option (List ℕ)) (old mid new : Journal D) (p : List ℕ) → IsUnchanged told old mid → IsAppended told mid new p → IsAppended told old new p
appended_then told old mid new p a b = record {
  frames = b.frames ∙ ap (λ o. option_map (λ fs. fs ++ p ∷ []) o) a.frames;
  number = b.number ∙ ap (λ n. n + 1) a.number;
  end = b.end ∙ ap (λ n. n + (FRAME_HEAD + length p)) a.end;
  limit = b.limit ∙ a.limit;
}

pub settled_doubt : {D : Type 0} (old new : Journal D) (r : Result (Option ℕ) Failed) (k : Option ℕ) → r ≡ Ok k → (old.doubt ≡ false → (r ≡ Ok None) × (new ≡ old))
    → (old.doubt ≡ true → IfOk r (λ frame. (frame ≡ Some (old.number - 1)) × (new.doubt ≡ false))) → new.doubt ≡ false
settled_doubt old new r k is none some = by_doubt old.doubt refl
  where
    by_doubt : (b : Bool) → old.doubt ≡ b → new.doubt ≡ false
    by_doubt false at = ap (λ j. j.doubt) (none at).1 ∙ at
    by_doubt true at = (subst (λ q. IfOk q (λ frame. (frame ≡ Some (old.number - 1)) × (new.doubt ≡ false))) is (some at)).1

pub unsettled_doubt : {D : Type 0} (old new : Journal D) (r : Result (Option ℕ) Failed) (f : Failed) → r ≡ Err f → (old.doubt ≡ false → (r ≡ Ok None) × (new ≡ old)) → old.doubt ≡ true
unsettled_doubt old new r f is none = by_doubt old.doubt refl
  where
    no : ◌≡◌ {A = Result (Option ℕ) Failed} (Err f) (Ok None) → ⊥
    no e = cc

    by_doubt : (b : Bool) → old.doubt ≡ b → old.doubt ≡ true
    by_doubt false at = absurd (no (sym is ∙ (none at).0))
    by_doubt true at = at

-- what a settling leaves at any moment
pub settled_leaves : {D : Type 0} (told : D → Option (List ℕ)) (time : D → ℕ) (since : D → ℕ → List ℕ → Type 0) (old new : Journal D)
    → ForSome (frames_of told old) (λ ps. LeavesOnly time since old.disk new.disk (StandsForFrames old.limit old.doubt ps)) → LeavesFrames told time since old new None
settled_leaves told time since old new leaves = λ ps there.
    weaker time since old.disk new.disk (StandsForFrames old.limit old.doubt ps) (HoldsFrames old.limit (sure_of old.doubt (length ps)) (ps ++ [])) (leaves ps there)
    (λ c held. frames_more old.limit (sure_of old.doubt (length ps)) ps [] c (frames_stand old.limit old.doubt ps c held))

-- the settling failed
pub unsettled_does : {D : Type 0} (told : D → Option (List ℕ)) (time : D → ℕ) (since : D → ℕ → List ℕ → Type 0) (old new : Journal D) (st : State) (v : Outcome)
    → IsUnchanged told old new → old.doubt ≡ true → time old.disk ≤ time new.disk → ForSome (frames_of told old) (λ ps. LeavesOnly time since old.disk new.disk (StandsForFrames old.limit old.doubt ps))
    → Does told time since old new st st v (Err trouble.Disk) None
unsettled_does told time since old new st v same doubt later leaves = record {
  grew = same;
  folds = refl;
  says = inl (refl, λ settled. absurd (no old.doubt doubt settled));
  later = later;
  leaves = settled_leaves told time since old new leaves;
}
  where
    no : (b : Bool) → b ≡ true → b ≡ false → ⊥
    no b is isnt = cc

-- an act after the settling
pub settled_does : {D : Type 0} (told : D → Option (List ℕ)) (time : D → ℕ) (since : D → ℕ → List ℕ → Type 0) (old mid new : Journal D) (st su : State) (v : Outcome) (said : Result Answered Trouble) (made : Option Entry)
    → IsUnchanged told old mid → mid.doubt ≡ false → time old.disk ≤ time mid.disk → ForSome (frames_of told old) (λ ps. LeavesOnly time since old.disk mid.disk (StandsForFrames old.limit old.doubt ps))
    → Does told time since mid new st su v said made → Does told time since old new st su v said made
settled_does told time since old mid new st su v said made same settled later leaves does = record {
  grew = grown made does.grew;
  folds = does.folds;
  says = said_then said (subst (λ (l : ℕ). CarriesOut (answer_of l old.end v) mid.doubt new.doubt made said) same.limit (subst (λ (p : ℕ). CarriesOut (answer_of mid.limit p v) mid.doubt new.doubt made said) same.end does.says));
  later = omega (arith, later, does.later);
  leaves = λ ps there.
      run_then time since old.disk mid.disk new.disk (HoldsFrames old.limit (sure_of old.doubt (length ps)) (ps ++ map written_entry (one_of made)))
      (HoldsFrames mid.limit (sure_of mid.doubt (length ps)) (ps ++ map written_entry (one_of made)))
      (weaker time since old.disk mid.disk (StandsForFrames old.limit old.doubt ps) (HoldsFrames old.limit (sure_of old.doubt (length ps)) (ps ++ map written_entry (one_of made))) (leaves ps there)
      (λ c held. frames_more old.limit (sure_of old.doubt (length ps)) ps (map written_entry (one_of made)) c (frames_stand old.limit old.doubt ps c held)))
      (does.leaves ps (same.frames ∙ there))
      (λ c held. frames_less old.limit (sure_of mid.doubt (length ps)) (sure_of old.doubt (length ps)) (ps ++ map written_entry (one_of made)) c (sures (length ps))
      (subst (λ (l : ℕ). HoldsFrames l (sure_of mid.doubt (length ps)) (ps ++ map written_entry (one_of made)) c) same.limit held));
}
  where
    grown : (m : Option Entry) → GrewBy told m mid new → GrewBy told m old new
    grown None k = unchanged_then told old mid new same k
    grown (Some e) k = (k.0, appended_then told old mid new (written_entry e) same k.1)

    sures : (n : ℕ) → sure_of old.doubt n ≤ sure_of mid.doubt n
    sures n = let s = sure_least old.doubt n in let e : sure_of mid.doubt n ≡ n = ap (λ (d : Bool). sure_of d n) settled in omega (arith, s, e)

    said_then : (r : Result Answered Trouble) → CarriesOut (answer_of old.limit old.end v) mid.doubt new.doubt made r → CarriesOut (answer_of old.limit old.end v) old.doubt new.doubt made r
    said_then (Ok s) k = k
    said_then (Err trouble.Memory) k = k
    said_then (Err trouble.Disk) (inl k) = inl (k.0, λ _. k.1 settled)
    said_then (Err trouble.Disk) (inr k) = inr k

-- ---- an earlier entry landed

some_landed : {D : Type 0} (old new : Journal D) (made : Option Entry) → old.doubt ≡ true → (new.doubt ≡ true → is_some made ≡ true) → landed_of old new made ≡ Some (old.number - 1)
some_landed old new made doubt only = by_all old.doubt new.doubt (is_some made) doubt only
  where
    by_all : (d₀ d₁ m : Bool) → d₀ ≡ true → (d₁ ≡ true → m ≡ true) → landed_among old.number d₀ d₁ m ≡ Some (old.number - 1)
    by_all true true true at f = refl
    by_all true true false at f = absurd (let g = f refl in cc)
    by_all true false m at f = refl
    by_all false d₁ m at f = absurd (cc)

none_landed : {D : Type 0} (old new : Journal D) (made : Option Entry) → old.doubt ≡ false → landed_of old new made ≡ None
none_landed old new made settled = ap (λ (d : Bool). landed_among old.number d new.doubt (is_some made)) settled

says_only : (a : Answer) (d₁ : Bool) (made : Option Entry) (said : Result Answered Trouble) → CarriesOut a false d₁ made said → d₁ ≡ true → is_some made ≡ true
says_only a true None (Ok s) says at = absurd (let k = says.2 in cc)
says_only a true None (Err trouble.Memory) says at = absurd (let k = says.1 in cc)
says_only a true None (Err trouble.Disk) (inl k) at = absurd (let f = k.1 refl in cc)
says_only a true None (Err trouble.Disk) (inr k) at = some None a.entry k.0 k.1
  where
    some : (n o : Option Entry) → IsSome o → n ≡ o → is_some n ≡ true
    some n None is same = absurd (cc is)
    some n (Some e) is same = ap is_some same
says_only a d₁ (Some e) said says at = refl
says_only a false None said says at = absurd (cc)

-- after a settling that went well
pub landed_does : {D : Type 0} (told : D → Option (List ℕ)) (time : D → ℕ) (since : D → ℕ → List ℕ → Type 0) (old mid new : Journal D) (st su : State) (v : Outcome) (said : Result Answered Trouble) (made : Option Entry)
    (r : Result (Option ℕ) Failed) (k : Option ℕ) → r ≡ Ok k → (old.doubt ≡ false → (r ≡ Ok None) × (mid ≡ old)) → (old.doubt ≡ true → IfOk r (λ frame. (frame ≡ Some (old.number - 1)) × (mid.doubt ≡ false)))
    → Does told time since mid new st su v said made → k ≡ landed_of old new made
landed_does told time since old mid new st su v said made r k is none some does = by_doubt old.doubt refl
  where
    settled : mid.doubt ≡ false
    settled = settled_doubt old mid r k is none some

    one : (a b : Option ℕ) → ◌≡◌ {A = Result (Option ℕ) Failed} (Ok a) (Ok b) → a ≡ b
    one a b e = cc

    by_doubt : (b : Bool) → old.doubt ≡ b → k ≡ landed_of old new made
    by_doubt false at = one k None (sym is ∙ (none at).0) ∙ sym (none_landed old new made at)
    by_doubt true at =
        (subst (λ q. IfOk q (λ frame. (frame ≡ Some (old.number - 1)) × (mid.doubt ≡ false))) is (some at)).0
        ∙ sym (some_landed old new made at (λ d. says_only (answer_of mid.limit mid.end v) new.doubt made said (subst (λ (b : Bool). CarriesOut (answer_of mid.limit mid.end v) b new.doubt made said) settled does.says) d))

-- after one that failed
pub unlanded : {D : Type 0} (told : D → Option (List ℕ)) (old new : Journal D) → new.doubt ≡ true → None ≡ landed_of old new None
unlanded told old new doubt = by_all old.doubt new.doubt doubt
  where
    by_all : (d₀ d₁ : Bool) → d₁ ≡ true → None ≡ landed_among old.number d₀ d₁ false
    by_all true true at = refl
    by_all false true at = refl
    by_all d₀ false at = absurd (cc)

-- ---- an append that failed

pub appended_where : {D : Type 0} (told : D → Option (List ℕ)) (old new : Journal D) (p : List ℕ) → new.doubt ≡ true → IsAppendFailed told old new p → IsAppended told old new p
appended_where told old new p doubt (inl k) = k.1
appended_where told old new p doubt (inr k) = absurd (no new.doubt doubt k.0)
  where
    no : (b : Bool) → b ≡ true → b ≡ false → ⊥
    no b is isnt = cc

pub unchanged_where : {D : Type 0} (told : D → Option (List ℕ)) (old new : Journal D) (p : List ℕ) → new.doubt ≡ false → IsAppendFailed told old new p → IsUnchanged told old new
unchanged_where told old new p none (inr k) = k.1
unchanged_where told old new p none (inl k) = absurd (no new.doubt k.0 none)
  where
    no : (b : Bool) → b ≡ true → b ≡ false → ⊥
    no b is isnt = cc
