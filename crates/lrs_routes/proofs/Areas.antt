-- A request's command goes into its route's area.
use Rattle.std.proofs.Common.{◌≡◌, [], ◌∷◌, Option, Some, None, sym, ap, ◌∙◌}
use Rattle.std.specs.Prelude.{MatchOption}
use Rattle.std.proofs.lemmas.Option.{none-some, same_Some}
use Rattle.lrs_record.specs.declared.entry.Area.{Area}
use Rattle.lrs_record.specs.declared.entry.Area.TheVariants.{Free, Store, Desk}
use Rattle.lrs_command.specs.Areas.{command_area}
use Rattle.lrs_command.specs.declared.command.Command.{Command}
use Rattle.lrs_command.specs.declared.command.Command.TheVariants as command
use Rattle.lrs_command.specs.declared.command.Read.TheVariants as read
use Rattle.lrs_command.specs.declared.command.TheConstants.{BAD_REQUEST}
use Rattle.lrs_rules.specs.declared.rule.Rule.{Rule}
use Rattle.lrs_http.specs.declared.request.Method.{Method}
use Rattle.lrs_http.specs.declared.request.Method.TheVariants.{Get, Put, Post, Delete}
use Rattle.lrs_http.specs.declared.request.Request.{Request}
use Rattle.lrs_record.specs.declared.entry.How.TheVariants as how
use Rattle.lrs_record.specs.declared.entry.Write.TheVariants as write
use Rattle.lrs_routes.specs.Asked.{IsCommandOf, IsRoutedAs, operation_at}
use Rattle.lrs_routes.specs.Forms.{IsUnbroken, Means, nowhere}
use Rattle.lrs_routes.specs.Operations.{command_of, form_of}
use Rattle.lrs_routes.specs.Parts.{part_of}
use Rattle.lrs_routes.specs.Table.{row_of}
use Rattle.lrs_routes.specs.declared.asked.Routed.{Routed}
use Rattle.lrs_routes.specs.declared.operation.Operation.{Operation}
use Rattle.lrs_routes.specs.declared.operation.Operation.TheVariants as operation
use Rattle.lrs_routes.specs.declared.table.Route.{Route}
use Rattle.lrs_routes.specs.declared.table.Route.TheVariants as route
use Rattle.lrs_bodies.specs.declared.body_value.BodyValue.{BodyValue}
use Rattle.lrs_bodies.specs.declared.body_value.BodyValue.TheVariants as body
use Rattle.lrs_routes.specs.declared.values.ParameterValue.{ParameterValue}
use Rattle.lrs_routes.specs.declared.values.ParameterValue.TheVariants as parameter
use Rattle.lrs_routes.specs.declared.values.PartValue.{PartValue}
use Rattle.lrs_routes.specs.declared.values.PartValue.TheVariants as part

-- where an operation's commands go
abbrev area_at : Operation → Area
area_at operation.TellVersions = Free
area_at operation.FetchToken = Free
area_at operation.MakeProvider = Desk
area_at operation.TakeCourse = Desk
area_at operation.EnrolLearner = Desk
area_at operation.LaunchUnit = Desk
area_at operation.GetRegistration = Desk
area_at operation.WaiveUnit = Desk
area_at operation.AbandonSession = Desk
area_at operation.SweepSessions = Desk
area_at other = Store

same_area : (x o : Operation) → Some x ≡ Some o → area_at o ≡ area_at x
same_area x o e = ap area_at (sym (same_Some x o e))

route_area : (r : Route) (m : Method) (o : Operation) → operation_at r m ≡ Some o → area_at o ≡ (row_of r).area
route_area route.Providers Post o e = same_area operation.MakeProvider o e
route_area route.Providers m o e = absurd (none-some o e)
route_area route.Courses Post o e = same_area operation.TakeCourse o e
route_area route.Courses m o e = absurd (none-some o e)
route_area route.Launches Post o e = same_area operation.LaunchUnit o e
route_area route.Launches m o e = absurd (none-some o e)
route_area route.Waive Post o e = same_area operation.WaiveUnit o e
route_area route.Waive m o e = absurd (none-some o e)
route_area route.Registration Get o e = same_area operation.GetRegistration o e
route_area route.Registration m o e = absurd (none-some o e)
route_area route.Registrations Post o e = same_area operation.EnrolLearner o e
route_area route.Registrations m o e = absurd (none-some o e)
route_area route.Abandon Post o e = same_area operation.AbandonSession o e
route_area route.Abandon m o e = absurd (none-some o e)
route_area route.Sweep Post o e = same_area operation.SweepSessions o e
route_area route.Sweep m o e = absurd (none-some o e)
route_area route.Fetch Post o e = same_area operation.FetchToken o e
route_area route.Fetch m o e = absurd (none-some o e)
route_area route.About Get o e = same_area operation.TellVersions o e
route_area route.About m o e = absurd (none-some o e)
route_area route.ActivityProfiles Get o e = same_area operation.GetProfile o e
route_area route.ActivityProfiles m o e = absurd (none-some o e)
route_area route.States Delete o e = same_area operation.DropDocuments o e
route_area route.States Get o e = same_area operation.GetDocuments o e
route_area route.States Post o e = same_area operation.PostDocument o e
route_area route.States Put o e = same_area operation.PutDocument o e
route_area route.States m o e = absurd (none-some o e)
route_area route.AgentProfiles Get o e = same_area operation.GetProfile o e
route_area route.AgentProfiles m o e = absurd (none-some o e)
route_area route.MoreStatements Get o e = same_area operation.GetMoreStatements o e
route_area route.MoreStatements m o e = absurd (none-some o e)
route_area route.Statements Get o e = same_area operation.GetStatements o e
route_area route.Statements Post o e = same_area operation.PostStatements o e
route_area route.Statements Put o e = same_area operation.PutStatement o e
route_area route.Statements m o e = absurd (none-some o e)

found : (x c : Command) → Some x ≡ Some c → command_area c ≡ command_area x
found x c e = ap command_area (sym (same_Some x c e))

command_at : (o : Operation) (q : ParameterValue) (p : PartValue) (b : BodyValue) (c : Command) → command_of o q p b ≡ Some c → command_area c ≡ area_at o
command_at operation.TellVersions q p b c e = found (command.Read read.About) c e
command_at operation.GetStatements (parameter.Wanted wanted) p b c e = found (command.Read (read.Statements wanted)) c e
command_at operation.GetStatements q p b c e = absurd (none-some c e)
command_at operation.GetMoreStatements (parameter.Link link) p b c e = found (command.Read (read.More link)) c e
command_at operation.GetMoreStatements q p b c e = absurd (none-some c e)
command_at operation.PostStatements q p (body.Statements statements) c e = found (command.Write (write.Post statements)) c e
command_at operation.PostStatements q p b c e = absurd (none-some c e)
command_at operation.PutStatement (parameter.Id id) p (body.Statement statement) c e = found (command.Write (write.Put id statement)) c e
command_at operation.PutStatement q p b c e = absurd (none-some c e)
command_at operation.GetDocuments (parameter.Documents wanted) p b c e = found (command.Read (read.Documents wanted)) c e
command_at operation.GetDocuments q p b c e = absurd (none-some c e)
command_at operation.PutDocument (parameter.Document key) p (body.Document media bytes) c e = found (command.Write (write.State how.Put key media bytes)) c e
command_at operation.PutDocument q p b c e = absurd (none-some c e)
command_at operation.PostDocument (parameter.Document key) p (body.Document media bytes) c e = found (command.Write (write.State how.Post key media bytes)) c e
command_at operation.PostDocument q p b c e = absurd (none-some c e)
command_at operation.DropDocuments (parameter.Dropped d) p b c e = found (command.Write (write.Drop d.activity d.agent d.registration d.state)) c e
command_at operation.DropDocuments q p b c e = absurd (none-some c e)
command_at operation.GetProfile q p b c e = found (command.Read read.Profile) c e
command_at operation.MakeProvider q p (body.Strings (name ∷ [])) c e = found (command.Write (write.Provider name)) c e
command_at operation.MakeProvider q p b c e = absurd (none-some c e)
command_at operation.TakeCourse q p (body.Course tree) c e = found (command.Write (write.Course tree)) c e
command_at operation.TakeCourse q p b c e = absurd (none-some c e)
command_at operation.EnrolLearner q p (body.Enrolment course actor edition) c e = found (command.Write (write.Enrol course actor edition)) c e
command_at operation.EnrolLearner q p b c e = absurd (none-some c e)
command_at operation.LaunchUnit q (part.Id id) (body.Launch unit mode url) c e = found (command.Write (write.Launch id unit mode url)) c e
command_at operation.LaunchUnit q p b c e = absurd (none-some c e)
command_at operation.FetchToken q (part.Text key) b c e = found (command.Write (write.Fetch key)) c e
command_at operation.FetchToken q p b c e = absurd (none-some c e)
command_at operation.GetRegistration q (part.Id id) b c e = found (command.Read (read.Registration id)) c e
command_at operation.GetRegistration q p b c e = absurd (none-some c e)
command_at operation.WaiveUnit q (part.Id id) (body.Waiver unit reason) c e = found (command.Write (write.Waive id unit reason)) c e
command_at operation.WaiveUnit q p b c e = absurd (none-some c e)
command_at operation.AbandonSession q (part.Id id) b c e = found (command.Write (write.Abandon id)) c e
command_at operation.AbandonSession q p b c e = absurd (none-some c e)
command_at operation.SweepSessions q p (body.Sweep idle) c e = found (command.Write (write.Sweep idle)) c e
command_at operation.SweepSessions q p b c e = absurd (none-some c e)

by_part : (area : Area) (o : Operation) (request : Request) (c : Command) (p : Option PartValue) → area_at o ≡ area
    → MatchOption p (c ≡ nowhere area) (λ there. Means o request there c) → command_area c ≡ area
by_part area o request c None is nowhere = ap command_area nowhere
by_part area o request c (Some p) is means = command_at o means.0 p means.1 c means.4 ∙ is

by_broken : (area : Area) (o : Operation) (request : Request) (c : Command) (broken : Option Rule) → area_at o ≡ area
    → MatchOption broken (IsUnbroken area o request c) (λ r. c ≡ command.Refused area BAD_REQUEST r) → command_area c ≡ area
by_broken area o request c None is unbroken = by_part area o request c (part_of (form_of o).part request.path) is unbroken
by_broken area o request c (Some r) is refused = ap command_area refused

-- a request's command is one of its route's area
pub goes_there : (request : Request) (routed : Routed) (c : Command) → IsRoutedAs request routed → IsCommandOf request routed c → command_area c ≡ routed.area
goes_there request routed c h is =
    by_broken routed.area routed.operation request c is.0 (route_area h.route request.method routed.operation h.is.is ∙ sym h.area) is.2
