-- The paths that the router has, with their routes, after one path more.
use Rattle.std.proofs.Common.{◌≡◌, ℕ, Bool, true, false, cond, List, [], ◌∷◌, map, Result, Ok, Err, refl, ap, ◌∙◌}
use Rattle.matchit.specs.Order.{placed}
use Rattle.matchit.specs.Route.{Scan}
use Rattle.matchit.specs.Router.{InsertsRead, RouteOf, route_from}
use Rattle.matchit.specs.Rows.{RowsOf, comes_before}
use Rattle.matchit.specs.declared.error.InsertError.{InsertError}
use Rattle.lrs_routes.specs.declared.table.Route.{Route}

abbrev pub Rows : Type 0
Rows = RowsOf (RouteOf Route)

-- a path with its route
abbrev pub key : List ℕ × RouteOf Route → List ℕ × Route
key row = (row.0, row.1.value)

placed_test : (b : Bool) (p : List ℕ) (e : RouteOf Route) (row : List ℕ × RouteOf Route) (rows : Rows) → map key (placed (p, e) rows) ≡ placed (p, e.value) (map key rows)
    → map key (cond b ((p, e) ∷ row ∷ rows) (row ∷ placed (p, e) rows)) ≡ cond b ((p, e.value) ∷ key row ∷ map key rows) (key row ∷ placed (p, e.value) (map key rows))
placed_test true p e row rows more = refl
placed_test false p e row rows more = ap (λ (known : List (List ℕ × Route)). key row ∷ known) more

placed_keys : (p : List ℕ) (e : RouteOf Route) (rows : Rows) → map key (placed (p, e) rows) ≡ placed (p, e.value) (map key rows)
placed_keys p e [] = refl
placed_keys p e (row ∷ rows) = placed_test (comes_before p row.0) p e row rows (placed_keys p e rows)

-- the known paths with the one that was read, if it could be read
abbrev pub known_with : Result Scan InsertError → Route → List (List ℕ × Route) → List (List ℕ × Route)
known_with (Ok s) value known = placed (s.pattern, value) known
known_with (Err e) value known = known

pub one_more : (read : Result Scan InsertError) (value : Route) (old new : Rows) (known : List (List ℕ × Route)) → InsertsRead read value old new (Ok tt) → map key old ≡ known
    → map key new ≡ known_with read value known
one_more (Ok s) value old new known is before =
    ap (λ (rows : Rows). map key rows) is.1 ∙ (placed_keys s.pattern (route_from s value) old ∙ ap (λ (rows : List (List ℕ × Route)). placed (s.pattern, value) rows) before)
one_more (Err e) value old new known is before = ap (λ (rows : Rows). map key rows) is.0 ∙ before
