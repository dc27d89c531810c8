-- The routes: a row for each, with its path, what it asks of every request, and what each of its methods is for.
use Rattle.std.specs.Prelude.{ℕ, List, [], ◌∷◌, ◌++◌, Bool, true, false, Option, Some, None, if◌then◌else◌, map, codes}
use Rattle.std.specs.Str.{bytes_eq}
use Rattle.lrs_http.specs.declared.request.Method.{Method}
use Rattle.lrs_http.specs.declared.request.Method.TheVariants.{Get, Put, Post, Delete, Other}
use Rattle.matchit.specs.Rows.{param_token}
use Rattle.lrs_record.specs.declared.entry.Area.{Area}
use Rattle.lrs_record.specs.declared.entry.Area.TheVariants as area
use Rattle.lrs_routes.specs.declared.table.Allow.{Allow}
use Rattle.lrs_routes.specs.declared.operation.Operation.{Operation}
use Rattle.lrs_routes.specs.declared.operation.Operation.TheVariants as operation
use Rattle.lrs_routes.specs.declared.table.Route.{Route}
use Rattle.lrs_routes.specs.declared.table.Route.TheVariants as route

pub record Row : Type 0 where
  -- the path, where a parameter stands for a part of it
  pub pattern : List ℕ
  -- whom it answers; if anyone may ask, no credential is looked at
  pub area : Area
  -- it asks for the version of xAPI
  pub versioned : Bool
  -- in the order in which a refusal lists them
  pub methods : List (Method × Operation)

abbrev row : List ℕ → Area → Bool → List (Method × Operation) → Row
row pattern area versioned methods = record { pattern = pattern; area = area; versioned = versioned; methods = methods }

abbrev pub row_of : Route → Row
row_of route.Providers = row (codes "/desk/callers") area.Desk false ((Post, operation.MakeProvider) ∷ [])
row_of route.Courses = row (codes "/desk/courses") area.Desk false ((Post, operation.TakeCourse) ∷ [])
row_of route.Launches =
    row (codes "/desk/registrations/" ++ param_token ∷ codes "/launches") area.Desk false
    ((Post, operation.LaunchUnit) ∷ [])
row_of route.Waive =
    row (codes "/desk/registrations/" ++ param_token ∷ codes "/waive") area.Desk false
    ((Post, operation.WaiveUnit) ∷ [])
row_of route.Registration =
    row (codes "/desk/registrations/" ++ param_token ∷ []) area.Desk false ((Get, operation.GetRegistration) ∷ [])
row_of route.Registrations =
    row (codes "/desk/registrations") area.Desk false ((Post, operation.EnrolLearner) ∷ [])
row_of route.Abandon =
    row (codes "/desk/sessions/" ++ param_token ∷ codes "/abandon") area.Desk false
    ((Post, operation.AbandonSession) ∷ [])
row_of route.Sweep = row (codes "/desk/sweep") area.Desk false ((Post, operation.SweepSessions) ∷ [])
row_of route.Fetch = row (codes "/fetch/" ++ param_token ∷ []) area.Free false ((Post, operation.FetchToken) ∷ [])
row_of route.About = row (codes "/xapi/about") area.Free false ((Get, operation.TellVersions) ∷ [])
row_of route.ActivityProfiles =
    row (codes "/xapi/activities/profile") area.Store true ((Get, operation.GetProfile) ∷ [])
row_of route.States = row (codes "/xapi/activities/state") area.Store true
    ((Delete, operation.DropDocuments) ∷ (Get, operation.GetDocuments) ∷ (Post, operation.PostDocument)
    ∷ (Put, operation.PutDocument) ∷ [])
row_of route.AgentProfiles = row (codes "/xapi/agents/profile") area.Store true ((Get, operation.GetProfile) ∷ [])
row_of route.MoreStatements =
    row (codes "/xapi/statements/more") area.Store true ((Get, operation.GetMoreStatements) ∷ [])
row_of route.Statements = row (codes "/xapi/statements") area.Store true
    ((Get, operation.GetStatements) ∷ (Post, operation.PostStatements) ∷ (Put, operation.PutStatement) ∷ [])

-- the routes whose paths are below /desk
abbrev pub desk_routes : List Route
desk_routes =
    route.Providers ∷ route.Courses ∷ route.Launches ∷ route.Waive ∷ route.Registration ∷ route.Registrations
    ∷ route.Abandon ∷ route.Sweep ∷ []

-- each route, in the order in which the router has their paths: a longer one before its beginning
abbrev pub routes : List Route
routes =
    desk_routes ++ (route.Fetch ∷ route.About ∷ route.ActivityProfiles ∷ route.States ∷ route.AgentProfiles
    ∷ route.MoreStatements ∷ route.Statements ∷ [])

-- the patterns of some routes
abbrev pub patterns_of : List Route → List (List ℕ × Route)
patterns_of those = map (λ route. ((row_of route).pattern, route)) those

-- the routes' patterns, as the router has them
abbrev pub patterns : List (List ℕ × Route)
patterns = patterns_of routes

-- ---- methods

abbrev pub method_name : Method → List ℕ
method_name Get = codes "GET"
method_name Put = codes "PUT"
method_name Post = codes "POST"
method_name Delete = codes "DELETE"
method_name Other = []

-- what the method is for
abbrev pub operation_of : List (Method × Operation) → Method → Option Operation
operation_of [] method = None
operation_of (first ∷ methods) method =
    if bytes_eq (method_name first.0) (method_name method) then Some first.1 else operation_of methods method

-- what a refusal at that route allows
abbrev pub allow_of : Route → Allow
allow_of route = record { route = route }

-- the methods that a refusal lists: those of its route
abbrev pub methods_of : Allow → List Method
methods_of allow = map (λ own. own.0) (row_of allow.route).methods

-- their names, with a comma and a space between them (RFC 9110, section 10.2.1)
abbrev pub method_names : List Method → List ℕ
method_names [] = []
method_names (method ∷ []) = method_name method
method_names (method ∷ next ∷ methods) = method_name method ++ codes ", " ++ method_names (next ∷ methods)
