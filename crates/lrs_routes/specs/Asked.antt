-- What a request asks: a caller and a command, or why there is no route to one.
use Rattle.std.specs.Prelude.{◌≡◌, ◌⊎◌, ◌||◌, ℕ, List, Bool, true, false, not, Option, Some, None, Result, Ok, Err}
use Rattle.lrs_command.specs.declared.command.Command.{Command}
use Rattle.lrs_http.specs.declared.request.Method.{Method}
use Rattle.lrs_http.specs.declared.request.Request.{Request}
use Rattle.lrs_routes.specs.Fields.{caller_of, speaks}
use Rattle.lrs_routes.specs.Forms.{IsCommand}
use Rattle.lrs_routes.specs.Paths.{Fits}
use Rattle.lrs_routes.specs.Table.{allow_of, operation_of, row_of}
use Rattle.lrs_routes.specs.declared.asked.Asked.{Asked}
use Rattle.lrs_routes.specs.declared.asked.RouteRefused.{RouteRefused}
use Rattle.lrs_routes.specs.declared.asked.RouteRefused.TheVariants as refused
use Rattle.lrs_routes.specs.declared.asked.Routed.{Routed}
use Rattle.lrs_routes.specs.declared.operation.Operation.{Operation}
use Rattle.lrs_routes.specs.declared.table.Route.{Route}

-- what the method is for on the route
abbrev pub operation_at : Route → Method → Option Operation
operation_at route method = operation_of (row_of route).methods method

-- the version is named if the route asks for it
abbrev pub has_version : Route → Option (List ℕ) → Bool
has_version route version = not (row_of route).versioned || speaks version

-- The path is one of the route, the method is for that there, and the version is named.
pub record IsRouted (path : List ℕ) (method : Method) (version : Option (List ℕ)) (route : Route)
    (operation : Operation) : Type 0 where
  pub fits : Fits (row_of route).pattern path
  pub is : operation_at route method ≡ Some operation
  pub spoken : has_version route version ≡ true

-- Why a request is not routed, the first of these that holds. Running out of memory is free.
abbrev pub IsRouteRefused : List ℕ → Method → Option (List ℕ) → RouteRefused → Type 0
IsRouteRefused path method version refused.NoRoute = (route : Route) → ¬ Fits (row_of route).pattern path
IsRouteRefused path method version (refused.NoMethod allow) =
    (route : Route) × Fits (row_of route).pattern path × (operation_at route method ≡ None) × (allow ≡ allow_of route)
IsRouteRefused path method version refused.NoVersion =
    (route : Route) × (operation : Operation) × Fits (row_of route).pattern path
    × (operation_at route method ≡ Some operation) × (has_version route version ≡ false)
IsRouteRefused path method version refused.Memory = Unit {0}

-- what is known of a routed request before its parameters and its body are looked at: who asks, whom its route answers,
-- and what its method is for there
pub record IsRoutedAs (request : Request) (routed : Routed) : Type 0 where
  pub route : Route
  pub is : IsRouted request.path request.method request.version route routed.operation
  pub area : routed.area ≡ (row_of route).area
  pub caller : routed.caller ≡ caller_of (row_of route).area request.credential

-- the command of a request that is routed so
abbrev pub IsCommandOf : Request → Routed → Command → Type 0
IsCommandOf request routed command = IsCommand routed.area routed.operation request command

-- what a request asks, or why it asks nothing
abbrev pub IsAsked : Request → Result Asked RouteRefused → Type 0
IsAsked request (Ok asked) =
    (route : Route) × (operation : Operation) × IsRouted request.path request.method request.version route operation
    × (asked.caller ≡ caller_of (row_of route).area request.credential)
    × IsCommand (row_of route).area operation request asked.command
IsAsked request (Err refused) = IsRouteRefused request.path request.method request.version refused

-- Two accounts of one request agree: they are one, unless memory ran out.
abbrev pub Agree : Result Asked RouteRefused → Result Asked RouteRefused → Type 0
Agree a b = (a ≡ b) ⊎ ((a ≡ Err refused.Memory) ⊎ (b ≡ Err refused.Memory))
