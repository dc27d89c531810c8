-- The operations: a row for each, with what it asks of the parameters, of the part of the path and of the body, and the
-- command of what the three give.
use Rattle.std.specs.Prelude.{◌≡◌, ℕ, List, [], ◌∷◌, Option, Some, None, codes}
use Rattle.lrs_bodies.specs.Bodies.{BodyForm, any_body, statement_body, statements_body, document_body, strings_body}
use Rattle.lrs_bodies.specs.Bodies.{course_body, enrolment_body, launch_body, waiver_body, empty_body, sweep_body}
use Rattle.lrs_bodies.specs.declared.body_value.BodyValue.{BodyValue}
use Rattle.lrs_bodies.specs.declared.body_value.BodyValue.TheVariants as body
use Rattle.lrs_record.specs.declared.entry.How.{How}
use Rattle.lrs_record.specs.declared.entry.How.TheVariants as how
use Rattle.lrs_record.specs.declared.entry.Write.TheVariants.{Provider, Put, Post, State, Drop}
use Rattle.lrs_record.specs.declared.entry.Write.TheVariants.{Course, Enrol, Launch, Fetch, Waive, Abandon, Sweep}
use Rattle.lrs_command.specs.declared.command.Command.{Command}
use Rattle.lrs_command.specs.declared.command.Command.TheVariants.{Write, Read}
use Rattle.lrs_command.specs.declared.command.Read.TheVariants as read
use Rattle.xapi_keys.specs.declared.state_key.StateKey.{StateKey}
use Rattle.xapi_keys.specs.declared.wanted.WantedDocuments.{WantedDocuments}
use Rattle.xapi_parameters.specs.Documents.{AreDropped, AreWanted, IsKey}
use Rattle.xapi_parameters.specs.Links.{IsLink}
use Rattle.xapi_parameters.specs.Queries.{id_under}
use Rattle.xapi_parameters.specs.Wants.{IsWanted}
use Rattle.xapi_parameters.specs.declared.dropped.DroppedDocuments.{DroppedDocuments}
use Rattle.xapi_parameters.specs.declared.pair.Pair.{Pair}
use Rattle.xapi_query.specs.declared.link.MoreLink.{MoreLink}
use Rattle.xapi_query.specs.declared.wanted.Wanted.{Wanted}
use Rattle.lrs_routes.specs.Parts.{PartForm, no_part, text_part, id_part}
use Rattle.lrs_routes.specs.declared.operation.Operation.{Operation}
use Rattle.lrs_routes.specs.declared.operation.Operation.TheVariants as operation
use Rattle.lrs_routes.specs.declared.values.ParameterValue.{ParameterValue}
use Rattle.lrs_routes.specs.declared.values.ParameterValue.TheVariants as parameter
use Rattle.lrs_routes.specs.declared.values.PartValue.{PartValue}
use Rattle.lrs_routes.specs.declared.values.PartValue.TheVariants as part

-- ---- the rows

-- What the parameters are to be: any, as they aren't looked at; none; or those that the operation knows.
pub data ParameterForm : Type 0 where
  any_parameters : ParameterForm
  no_parameters : ParameterForm
  parameters_of_get : ParameterForm
  parameters_of_link : ParameterForm
  parameters_of_put : ParameterForm
  parameters_of_document : ParameterForm
  parameters_of_documents : ParameterForm
  parameters_of_drop : ParameterForm

pub record Form : Type 0 where
  pub parameters : ParameterForm
  pub part : PartForm
  pub body : BodyForm

-- of an operation that asks for no part of the path
abbrev form : ParameterForm → BodyForm → Form
form parameters body = record { parameters = parameters; part = no_part; body = body }

-- of an operation that asks for an id behind that beginning of the path, and knows no parameters
abbrev form_at : List ℕ → BodyForm → Form
form_at beginning body = record { parameters = no_parameters; part = id_part beginning; body = body }

abbrev pub form_of : Operation → Form
form_of operation.TellVersions = form any_parameters any_body
form_of operation.GetStatements = form parameters_of_get any_body
form_of operation.GetMoreStatements = form parameters_of_link any_body
form_of operation.PostStatements = form no_parameters statements_body
form_of operation.PutStatement = form parameters_of_put statement_body
form_of operation.GetDocuments = form parameters_of_documents any_body
form_of operation.PutDocument = form parameters_of_document document_body
form_of operation.PostDocument = form parameters_of_document document_body
form_of operation.DropDocuments = form parameters_of_drop any_body
form_of operation.GetProfile = form any_parameters any_body
form_of operation.MakeProvider = form no_parameters (strings_body ((codes "name", 2) ∷ []))
form_of operation.TakeCourse = form no_parameters course_body
form_of operation.EnrolLearner = form no_parameters enrolment_body
form_of operation.LaunchUnit = form_at (codes "/desk/registrations/") launch_body
form_of operation.FetchToken =
    record { parameters = any_parameters; part = text_part (codes "/fetch/"); body = any_body }
form_of operation.GetRegistration = form_at (codes "/desk/registrations/") any_body
form_of operation.WaiveUnit = form_at (codes "/desk/registrations/") waiver_body
form_of operation.AbandonSession = form_at (codes "/desk/sessions/") empty_body
form_of operation.SweepSessions = form no_parameters sweep_body

-- the write of a document
abbrev pub written : How → ParameterValue → BodyValue → Option Command
written h (parameter.Document key) (body.Document media bytes) = Some (Write (State h key media bytes))
written h other b = None

abbrev pub dropping : DroppedDocuments → Command
dropping dropped = Write (Drop dropped.activity dropped.agent dropped.registration dropped.state)

-- The command of what the parameters, the part and the body give. None if these aren't what the row asks for.
abbrev pub command_of : Operation → ParameterValue → PartValue → BodyValue → Option Command
command_of operation.TellVersions q p b = Some (Read read.About)
command_of operation.GetStatements (parameter.Wanted wanted) p b = Some (Read (read.Statements wanted))
command_of operation.GetMoreStatements (parameter.Link link) p b = Some (Read (read.More link))
command_of operation.PostStatements q p (body.Statements statements) = Some (Write (Post statements))
command_of operation.PutStatement (parameter.Id id) p (body.Statement statement) = Some (Write (Put id statement))
command_of operation.GetDocuments (parameter.Documents wanted) p b = Some (Read (read.Documents wanted))
command_of operation.PutDocument q p b = written how.Put q b
command_of operation.PostDocument q p b = written how.Post q b
command_of operation.DropDocuments (parameter.Dropped dropped) p b = Some (dropping dropped)
command_of operation.GetProfile q p b = Some (Read read.Profile)
command_of operation.MakeProvider q p (body.Strings (name ∷ [])) = Some (Write (Provider name))
command_of operation.TakeCourse q p (body.Course tree) = Some (Write (Course tree))
command_of operation.EnrolLearner q p (body.Enrolment course actor edition) =
    Some (Write (Enrol course actor edition))
command_of operation.LaunchUnit q (part.Id registration) (body.Launch unit mode return_url) =
    Some (Write (Launch registration unit mode return_url))
command_of operation.FetchToken q (part.Text key) b = Some (Write (Fetch key))
command_of operation.GetRegistration q (part.Id registration) b = Some (Read (read.Registration registration))
command_of operation.WaiveUnit q (part.Id registration) (body.Waiver unit reason) =
    Some (Write (Waive registration unit reason))
command_of operation.AbandonSession q (part.Id session) b = Some (Write (Abandon session))
command_of operation.SweepSessions q p (body.Sweep idle) = Some (Write (Sweep idle))
command_of other q p b = None

-- ---- what the parameters give

abbrev pub IsParameterValue : ParameterForm → List Pair → ParameterValue → Type 0
IsParameterValue any_parameters pairs value = value ≡ parameter.Nothing
IsParameterValue no_parameters pairs value = value ≡ parameter.Nothing
IsParameterValue parameters_of_get pairs value = (wanted : Wanted) × IsWanted pairs wanted
    × (value ≡ parameter.Wanted wanted)
IsParameterValue parameters_of_link pairs value = (link : MoreLink) × IsLink pairs link × (value ≡ parameter.Link link)
IsParameterValue parameters_of_put pairs value = (id : List ℕ) × (id_under (codes "statementId") pairs ≡ Some id)
    × (value ≡ parameter.Id id)
IsParameterValue parameters_of_document pairs value = (key : StateKey) × IsKey pairs key
    × (value ≡ parameter.Document key)
IsParameterValue parameters_of_documents pairs value = (wanted : WantedDocuments) × AreWanted pairs wanted
    × (value ≡ parameter.Documents wanted)
IsParameterValue parameters_of_drop pairs value = (dropped : DroppedDocuments) × AreDropped pairs dropped
    × (value ≡ parameter.Dropped dropped)

-- such a value as parameters of this form give
abbrev pub OfParameters : ParameterForm → ParameterValue → Type 0
OfParameters any_parameters parameter.Nothing = Unit {0}
OfParameters no_parameters parameter.Nothing = Unit {0}
OfParameters parameters_of_get (parameter.Wanted value) = Unit {0}
OfParameters parameters_of_link (parameter.Link value) = Unit {0}
OfParameters parameters_of_put (parameter.Id value) = Unit {0}
OfParameters parameters_of_document (parameter.Document key) = Unit {0}
OfParameters parameters_of_documents (parameter.Documents wanted) = Unit {0}
OfParameters parameters_of_drop (parameter.Dropped dropped) = Unit {0}
OfParameters form value = ⊥
