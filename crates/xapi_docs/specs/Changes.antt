-- What an entry changes among the documents.
use Rattle.std.specs.Prelude.{ℕ, ◌==◌, Bool, true, false, not, List, length, Option, Some, None, unwrap_or}
use Rattle.xapi_docs.specs.Documents.{Documents, with_document, without_documents}
use Rattle.xapi_docs.specs.Merging.{merge}
use Rattle.xapi_docs.specs.declared.changes.DocumentsChange.{DocumentsChange}
use Rattle.xapi_docs.specs.declared.changes.DocumentsChange.TheVariants.{Dropped, Unchanged, Written}
use Rattle.xapi_docs.specs.declared.documents.Document.{Document}

-- A document that is written changes something, even where it equals the one that was held; of those that are dropped
-- there is to be one.
abbrev pub changes_documents : DocumentsChange → Bool
changes_documents Unchanged = false
changes_documents (Written key document) = true
changes_documents (Dropped keys) = not (length keys == 0)

abbrev pub documents_after : Documents → DocumentsChange → Documents
documents_after documents Unchanged = documents
documents_after documents (Written key document) = with_document key document documents
documents_after documents (Dropped keys) = without_documents keys documents

-- ---- what is written over what is held

abbrev pub document_of : List ℕ → List ℕ → ℕ → Document
document_of media bytes moment = record { media = media; bytes = bytes; moment = moment }

-- What is posted, after what is held: where there is a document, the object is merged into it, under the new one's
-- type. Without merging the bytes would stand alone, but none such is accepted.
abbrev pub posted : List ℕ → List ℕ → ℕ → Option Document → Document
posted media bytes moment None = document_of media bytes moment
posted media bytes moment (Some held) = document_of media (unwrap_or (merge held.bytes bytes) bytes) moment
