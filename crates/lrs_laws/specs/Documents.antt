-- What follows from the definitions over every history of state documents: each document is made by the entries on its
-- key alone, what is posted is merged or told why not, and the ids tell which documents there are.
use Rattle.std.specs.Prelude.{◌≡◌, ◌↔◌, ◌&&◌, ℕ, ℤ, List, [], ◌∷◌, ◌++◌, true, false, Option, Some, None, if◌then◌else◌}
use Rattle.std.specs.Cmp.Lexicographic.{slice_cmp}
use Rattle.std.specs.List.Sorted.{IsStrictlySortedBy}
use Rattle.std.specs.Ordering.{nat_cmp}
use Rattle.cmi5_course.specs.declared.launch.Launch.{Launch}
use Rattle.cmi5_course.specs.declared.launch.Mode.{Mode}
use Rattle.lrs_agents.specs.declared.identifiers.Ifi.{Ifi}
use Rattle.lrs_command.specs.declared.command.Command.TheVariants.{Read, Write}
use Rattle.lrs_command.specs.declared.command.Read.TheVariants as read
use Rattle.lrs_history.specs.Answers.{document_said}
use Rattle.lrs_history.specs.Effects.{document_by}
use Rattle.lrs_history.specs.Occasions.{Occasion, occasion}
use Rattle.lrs_history.specs.History.{answer, only, refused, state}
use Rattle.lrs_history.specs.Launches.{Target, data_at, data_key, target}
use Rattle.lrs_history.specs.Refusals.{refused_agent, refused_document}
use Rattle.lrs_history.specs.Sessions.{outside, overstepped}
use Rattle.lrs_history.specs.Whose.{launch_of}
use Rattle.lrs_laws.specs.Laws.{IsLetIn, who_in}
use Rattle.lrs_media.specs.Media.{is_json}
use Rattle.lrs_names.specs.Members.{is_one_of}
use Rattle.lrs_names.specs.declared.draw.Draw.{Draw}
use Rattle.lrs_state.specs.State.{State}
use Rattle.lrs_record.specs.declared.entry.Caller.{Caller}
use Rattle.lrs_record.specs.declared.entry.Entry.{Entry}
use Rattle.lrs_record.specs.declared.entry.How.TheVariants as how
use Rattle.lrs_record.specs.declared.entry.Write.{Write as AWrite}
use Rattle.lrs_record.specs.declared.entry.Write.TheVariants.{Drop}
use Rattle.lrs_record.specs.declared.entry.Write.TheVariants as write
use Rattle.lrs_replies.specs.declared.answered.Answered.TheVariants.{Same}
use Rattle.lrs_replies.specs.declared.answered.Refusal.TheVariants.{Broken}
use Rattle.lrs_rules.specs.declared.rule.Rule.TheVariants as rule
use Rattle.xapi_docs.specs.Changes.{document_of}
use Rattle.xapi_docs.specs.Documents.{document_under, ids_in, is_later, keys_in}
use Rattle.xapi_docs.specs.Merging.{merge, merged_members, object_in}
use Rattle.xapi_docs.specs.declared.documents.Document.{Document}
use Rattle.xapi_keys.specs.Keys.{is_of, is_same_key, is_state}
use Rattle.xapi_keys.specs.declared.wanted.WantedDocuments.TheVariants.{One}
use Rattle.xapi_keys.specs.declared.state_key.StateKey.{StateKey}

-- the document that a history holds under a key
abbrev pub document_in : List Entry → StateKey → Option Document
document_in h key = document_under key (state h).documents

-- the entry is the one that a write makes after a history
pub record MakesEntry (limit : ℕ) (h : List Entry) (w : AWrite) (e : Entry) : Type 0 where
  pub caller : Caller
  pub clock : ℕ
  pub draw : Draw
  pub made : (answer limit h caller (Write w) clock draw).entry ≡ Some e

-- the launch of a caller that is a session
abbrev pub launch_in : List Entry → Caller → Option Launch
launch_in h caller = launch_of (state h) (who_in h caller)

-- The caller is let in, and if it is a session it may look at the documents of that agent and that registration.
pub record MayLook (h : List Entry) (caller : Caller) (agent : Ifi) (registration : Option (List ℕ)) : Type 0 where
  pub let_in : IsLetIn h caller
  pub own : outside (launch_in h caller) agent registration ≡ None

-- It may also write, or drop, the one of that state, or all of them where no state is given.
pub record MayChange (h : List Entry) (caller : Caller) (agent : Ifi) (registration chosen : Option (List ℕ))
    : Type 0 where
  pub let_in : IsLetIn h caller
  pub own : overstepped (launch_in h caller) agent registration chosen ≡ None

-- ---- what becomes of a document

-- what a launch makes of the document under a key, if its unit is there: its data comes under the data's own key
abbrev pub launched_over : Occasion → StateKey → Option Document → Mode → Option (List ℕ) → Option Target
    → Option Document
launched_over at key held mode return_url None = held
launched_over at key held mode return_url (Some t) =
    if is_same_key (data_key t) key then Some (data_at t mode return_url (at.supply 0) at.moment) else held

-- What an entry makes of the document under a key: one that is written under it comes, and one that is dropped goes.
abbrev pub document_after : State → Occasion → StateKey → Option Document → AWrite → Option Document
document_after st at key held (write.State by k media bytes) =
    if is_same_key k key then Some (document_by by media bytes at.moment held) else held
document_after st at key held (Drop activity agent registration chosen) =
    if is_of activity agent registration key && is_state chosen key then None else held
document_after st at key held (write.Launch registration unit mode return_url) =
    launched_over at key held mode return_url (target st registration unit)
document_after st at key held other = held

-- The document under a key is the fold of the entries on it: no other entry touches it.
abbrev pub DocumentsAreFolds : Type 0
DocumentsAreFolds =
    (h : List Entry) (e : Entry) (key : StateKey)
    → document_in (h ++ e ∷ []) key
    ≡ document_after (state h) (occasion (state h) e) key (document_in h key) e.write

-- A document that was posted over a held one is the two objects merged, under the new type.
abbrev pub PostedDocumentsAreMerged : Type 0
PostedDocumentsAreMerged =
    (limit : ℕ) (h : List Entry) (e : Entry) (key : StateKey) (media bytes : List ℕ) (held : Document)
    → MakesEntry limit h (write.State how.Post key media bytes) e → document_in h key ≡ Some held
    → (merged : List ℕ) × (merge held.bytes bytes ≡ Some merged) × (is_json held.media && is_json media ≡ true)
    × (document_in (h ++ e ∷ []) key ≡ Some (document_of media merged e.moment))

-- What is merged is an object that can be read, and merged again: the old members with the new ones.
abbrev pub MergedIsRead : Type 0
MergedIsRead = (old new merged : List ℕ) → merge old new ≡ Some merged
    → object_in merged ≡ merged_members (object_in old) (object_in new)

-- ---- what callers are told

-- What is posted over a document is told T1 exactly where one of the two types isn't JSON, else T2 exactly where one of
-- the two is no object.
abbrev pub UnmergeableIsTold : Type 0
UnmergeableIsTold =
    (limit : ℕ) (h : List Entry) (caller : Caller) (key : StateKey) (media bytes : List ℕ) (held : Document)
    (clock : ℕ) (draw : Draw)
    → MayChange h caller key.agent key.registration (Some key.state) → refused_document key.agent media bytes ≡ None
    → document_in h key ≡ Some held
    → let told = answer limit h caller (Write (write.State how.Post key media bytes)) clock draw in
    (is_json held.media && is_json media ≡ false → told ≡ only (refused (Broken (rule.T 1))))
    × (is_json held.media && is_json media ≡ true → merge held.bytes bytes ≡ None
    → told ≡ only (refused (Broken (rule.T 2))))

-- Whoever may look at it is shown the document that is held, with its own type, and is told 404 where none is.
abbrev pub HeldDocumentsAreShown : Type 0
HeldDocumentsAreShown =
    (limit : ℕ) (h : List Entry) (caller : Caller) (key : StateKey) (clock : ℕ) (draw : Draw)
    → MayLook h caller key.agent key.registration
    → answer limit h caller (Read (read.Documents (One key))) clock draw ≡ only (document_said (document_in h key))

-- A deletion of nothing makes no entry.
abbrev pub NothingIsDroppedQuietly : Type 0
NothingIsDroppedQuietly =
    (limit : ℕ) (h : List Entry) (caller : Caller) (clock : ℕ) (draw : Draw) (activity : List ℕ) (agent : Ifi)
    (registration chosen : Option (List ℕ))
    → MayChange h caller agent registration chosen → refused_agent agent ≡ None
    → keys_in activity agent registration chosen (state h).documents ≡ []
    → answer limit h caller (Write (Drop activity agent registration chosen)) clock draw ≡ only Same

-- The ids stand in the order of their bytes, each once, and an id is told exactly where its document is held and was
-- written later.
abbrev pub IdsTellDocuments : Type 0
IdsTellDocuments =
    (h : List Entry) (activity : List ℕ) (agent : Ifi) (registration : Option (List ℕ)) (since : Option ℤ)
    → IsStrictlySortedBy (slice_cmp nat_cmp) (ids_in activity agent registration since (state h).documents)
    × ((id : List ℕ) → (is_one_of (ids_in activity agent registration since (state h).documents) id ≡ true)
    ↔ ((document : Document)
    × (document_in h (record { activity = activity; agent = agent; registration = registration; state = id })
    ≡ Some document)
    × (is_later since document ≡ true)))
