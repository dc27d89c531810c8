-- A request has one account, unless memory ran out.
use Rattle.std.proofs.Common.{◌≡◌, true, false, Option, Some, None, Result, Ok, Err, refl, sym, ap, ◌∙◌, subst, inl, inr}
use Rattle.lrs_http.specs.declared.request.Request.{Request}
use Rattle.lrs_command.specs.declared.command.Command.{Command}
use Rattle.lrs_routes.specs.Asked.{Agree, IsAsked, IsCommandOf, IsRouteRefused, IsRouted, IsRoutedAs, has_version, operation_at}
use Rattle.lrs_routes.specs.Fields.{caller_of}
use Rattle.lrs_routes.specs.Forms.{IsCommand}
use Rattle.lrs_routes.specs.Paths.{Fits}
use Rattle.lrs_routes.specs.Table.{allow_of, row_of}
use Rattle.lrs_routes.specs.declared.asked.Asked.{Asked}
use Rattle.lrs_routes.specs.declared.asked.RouteRefused.{RouteRefused}
use Rattle.lrs_routes.specs.declared.asked.RouteRefused.TheVariants as refused
use Rattle.lrs_routes.specs.declared.asked.Routed.{Routed}
use Rattle.lrs_routes.specs.declared.table.Allow.{Allow}
use Rattle.lrs_routes.specs.declared.operation.Operation.{Operation}
use Rattle.lrs_routes.specs.declared.table.Route.{Route}
use Rattle.lrs_routes.proofs.Leads.{one_route}

abbrev Reading : Type 0
Reading = Result Asked RouteRefused

none_some : (operation : Operation) → ◌≡◌ {A = Option Operation} None (Some operation) → ⊥
none_some operation e = cc e

some_same : (a b : Operation) → ◌≡◌ {A = Option Operation} (Some a) (Some b) → a ≡ b
some_same a b e = cc e

true_false : true ≡ false → ⊥
true_false e = cc e

module _ (request : Request) where
  -- the route of the path decides
  at_route : (P : Route → Type 0) (a b : Route) → Fits (row_of a).pattern request.path → Fits (row_of b).pattern request.path → P b → P a
  at_route P a b f g h = subst P (sym (one_route request.path a b f g)) h

  method_missing : (a b : Route) (operation : Operation) → Fits (row_of a).pattern request.path → Fits (row_of b).pattern request.path
      → operation_at a request.method ≡ None → operation_at b request.method ≡ Some operation → ⊥
  method_missing a b operation f g none is =
      none_some operation (sym none ∙ at_route (λ (r : Route). operation_at r request.method ≡ Some operation) a b f g is)

  version_missing : (a b : Route) → Fits (row_of a).pattern request.path → Fits (row_of b).pattern request.path
      → has_version a request.version ≡ false → has_version b request.version ≡ true → ⊥
  version_missing a b f g none is = true_false (sym (at_route (λ (r : Route). has_version r request.version ≡ true) a b f g is) ∙ none)

  pub refused_alone : (e : RouteRefused) → IsRouteRefused request.path request.method request.version e → (other : Reading) → IsAsked request other → Agree (Err e) other
  refused_alone refused.Memory h other o = inr (inl refl)
  refused_alone e h (Err refused.Memory) o = inr (inr refl)
  refused_alone refused.NoRoute h (Ok asked) o = absurd (h o.0 o.2.fits)
  refused_alone refused.NoRoute h (Err refused.NoRoute) o = inl refl
  refused_alone refused.NoRoute h (Err (refused.NoMethod allow)) o = absurd (h o.0 o.1)
  refused_alone refused.NoRoute h (Err refused.NoVersion) o = absurd (h o.0 o.2)
  refused_alone (refused.NoMethod allow) h (Ok asked) o = absurd (method_missing h.0 o.0 o.1 h.1 o.2.fits h.2 o.2.is)
  refused_alone (refused.NoMethod allow) h (Err refused.NoRoute) o = absurd (o h.0 h.1)
  refused_alone (refused.NoMethod allow) h (Err (refused.NoMethod other)) o =
      let same : allow ≡ other = h.3 ∙ ap allow_of (one_route request.path h.0 o.0 h.1 o.1) ∙ sym o.3 in
      inl (ap (λ (a : Allow). Err (refused.NoMethod a)) same)
  refused_alone (refused.NoMethod allow) h (Err refused.NoVersion) o = absurd (method_missing h.0 o.0 o.1 h.1 o.2 h.2 o.3)
  refused_alone refused.NoVersion h (Ok asked) o = absurd (version_missing h.0 o.0 h.2 o.2.fits h.4 o.2.spoken)
  refused_alone refused.NoVersion h (Err refused.NoRoute) o = absurd (o h.0 h.2)
  refused_alone refused.NoVersion h (Err (refused.NoMethod allow)) o = absurd (method_missing o.0 h.0 h.1 o.1 h.2 o.2 h.3)
  refused_alone refused.NoVersion h (Err refused.NoVersion) o = inl refl

  record Means (asked : Asked) (route : Route) (operation : Operation) : Type 0 where
    routed : IsRouted request.path request.method request.version route operation
    caller : asked.caller ≡ caller_of (row_of route).area request.credential
    command : (other : Command) → IsCommand (row_of route).area operation request other → other ≡ asked.command

  same_asked : (a b : Asked) → a.caller ≡ b.caller → a.command ≡ b.command → a ≡ b
  same_asked a b e f = λ i. record { caller = e i; command = f i }

  asked_is : (asked other : Asked) (route : Route) (operation : Operation) → Means asked route operation → IsAsked request (Ok other) → asked ≡ other
  asked_is asked other route operation m o =
      let same : route ≡ o.0 = one_route request.path route o.0 m.routed.fits o.2.fits in
      let found : operation_at route request.method ≡ Some o.1 = subst (λ (r : Route). operation_at r request.method ≡ Some o.1) (sym same) o.2.is in
      let acts : o.1 ≡ operation = some_same o.1 operation (sym found ∙ m.routed.is) in
      let caller : other.caller ≡ caller_of (row_of route).area request.credential = subst (λ (r : Route). other.caller ≡ caller_of (row_of r).area request.credential) (sym same) o.3 in
      let asks : IsCommand (row_of route).area o.1 request other.command = subst (λ (r : Route). IsCommand (row_of r).area o.1 request other.command) (sym same) o.4 in
      let does : IsCommand (row_of route).area operation request other.command = subst (λ (p : Operation). IsCommand (row_of route).area p request other.command) acts asks in
      same_asked asked other (m.caller ∙ sym caller) (sym (m.command other.command does))

  pub asked_alone : (asked : Asked) (route : Route) (operation : Operation) → IsRouted request.path request.method request.version route operation
      → asked.caller ≡ caller_of (row_of route).area request.credential
      → ((other : Command) → IsCommand (row_of route).area operation request other → other ≡ asked.command)
      → (other : Reading) → IsAsked request other → Agree (Ok asked) other
  asked_alone asked route operation routed caller command (Ok other) o =
      inl (ap Ok (asked_is asked other route operation (record { routed = routed; caller = caller; command = command }) o))
  asked_alone asked route operation routed caller command (Err refused.NoRoute) o = absurd (o route routed.fits)
  asked_alone asked route operation routed caller command (Err (refused.NoMethod allow)) o = absurd (method_missing o.0 route operation o.1 routed.fits o.2 routed.is)
  asked_alone asked route operation routed caller command (Err refused.NoVersion) o = absurd (version_missing o.0 route o.2 routed.fits o.4 routed.spoken)
  asked_alone asked route operation routed caller command (Err refused.Memory) o = inr (inr refl)

  -- ---- before the parameters and the body are looked at

  -- a request is routed in one way
  pub one_routed : (a b : Routed) → IsRoutedAs request a → IsRoutedAs request b → a ≡ b
  one_routed a b h k =
      let same : h.route ≡ k.route = one_route request.path h.route k.route h.is.fits k.is.fits in
      let caller : a.caller ≡ b.caller = h.caller ∙ ap (λ (r : Route). caller_of (row_of r).area request.credential) same ∙ sym k.caller in
      let area : a.area ≡ b.area = h.area ∙ ap (λ (r : Route). (row_of r).area) same ∙ sym k.area in
      let at : operation_at h.route request.method ≡ Some b.operation = at_route (λ (r : Route). operation_at r request.method ≡ Some b.operation) h.route k.route h.is.fits k.is.fits k.is.is in
      let operation : a.operation ≡ b.operation = some_same a.operation b.operation (sym h.is.is ∙ at) in
      λ i. record { caller = caller i; area = area i; operation = operation i }

  -- with its command it is asked
  pub routed_asks : (routed : Routed) (command : Command) → IsRoutedAs request routed → IsCommandOf request routed command → IsAsked request (Ok (record { caller = routed.caller; command = command }))
  routed_asks routed command h is = (h.route, routed.operation, h.is, h.caller, subst (λ area. IsCommand area routed.operation request command) h.area is)

  -- and what is asked is its command
  pub asked_routed : (asked : Asked) (routed : Routed) → IsAsked request (Ok asked) → IsRoutedAs request routed → (asked.caller ≡ routed.caller) × IsCommandOf request routed asked.command
  asked_routed asked routed o h =
      let own : Routed = record { caller = asked.caller; area = (row_of o.0).area; operation = o.1 } in
      let same : own ≡ routed = one_routed own routed (record { route = o.0; is = o.2; area = refl; caller = o.3 }) h in
      (ap (λ (r : Routed). r.caller) same, subst (λ (r : Routed). IsCommandOf request r asked.command) same o.4)

  -- it asks for nothing only if memory runs out
  pub routed_refused : (routed : Routed) (e : RouteRefused) → IsRoutedAs request routed → IsAsked request (Err e) → e ≡ refused.Memory
  routed_refused routed refused.NoRoute h o = absurd (o h.route h.is.fits)
  routed_refused routed (refused.NoMethod allow) h o = absurd (method_missing o.0 h.route routed.operation o.1 h.is.fits o.2 h.is.is)
  routed_refused routed refused.NoVersion h o = absurd (version_missing o.0 h.route o.2 h.is.fits o.4 h.is.spoken)
  routed_refused routed refused.Memory h o = refl
