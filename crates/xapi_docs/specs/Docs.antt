-- What is seen of the documents in memory: each key that has a slot, which may be empty yet.
use Rattle.std.specs.Prelude.{◌≡◌, Bool, true, false, IsTrue, is_some, List, filter_map, Option, option_map}
use Rattle.lrs_register.specs.Slots.{HasSlot}
use Rattle.xapi_docs.specs.Documents.{Documents, document_under}
use Rattle.xapi_keys.specs.Keys.{is_same_key, key_cmp}
use Rattle.xapi_docs.specs.declared.changes.DocumentsChange.{DocumentsChange}
use Rattle.xapi_docs.specs.declared.changes.DocumentsChange.TheVariants.{Dropped, Unchanged, Written}
use Rattle.xapi_docs.specs.declared.documents.Document.{Document}
use Rattle.xapi_keys.specs.declared.state_key.StateKey.{StateKey}

abbrev pub Slots : Type 0
Slots = List (StateKey × Option Document)

-- those whose slots are filled
abbrev pub documents_in : Slots → Documents
documents_in slots = filter_map (λ slot. option_map (λ document. (slot.0, document)) slot.1) slots

-- there is room for what is written
abbrev pub HasRoomForDocuments : Slots → DocumentsChange → Type 0
HasRoomForDocuments slots Unchanged = Unit {0}
HasRoomForDocuments slots (Written key document) = HasSlot key_cmp slots key
HasRoomForDocuments slots (Dropped keys) = Unit {0}

-- a document is to be written under the key
abbrev pub is_written : DocumentsChange → StateKey → Bool
is_written Unchanged key = false
is_written (Written written document) key = is_same_key written key
is_written (Dropped keys) key = false

-- the slot of a key that passes, if it has one, holds a document
abbrev pub AreHeld : (StateKey → Bool) → Slots → Type 0
AreHeld passes slots = (key : StateKey) → passes key ≡ true → HasSlot key_cmp slots key
    → IsTrue (is_some (document_under key (documents_in slots)))
