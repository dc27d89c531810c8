-- Objects: their members, one after the other.
use Rattle.std.proofs.Common.{◌≡◌, ◌<◌, ℕ, ◌-◌, length, List, [], ◌∷◌, ◌++◌, map, Bool, true, false, not, IsUtf8, IsErrAnd, Result, Ok, Err, MatchBool, refl, sym, ap, ◌∙◌, subst, true≢false, arith, append_assoc}
use Rattle.std.proofs.lemmas.List.{map-append}
use Rattle.lrs_json.specs.Fits.{IsReadable}
use Rattle.lrs_json.specs.Json.{Json, object, Members, no_members, member}
use Rattle.lrs_json.specs.Names.{are_new}
use Rattle.lrs_json.specs.View.{member_view, members_of, view}
use Rattle.lrs_json.specs.Written.{comma_if, members_text, quoted, written}
use Rattle.lrs_json.specs.declared.tree.Member.{Member}
use Rattle.lrs_json.specs.declared.tree.Tree.{Tree, Object}
use Rattle.lrs_json.proofs.Views.{view-Object}
use Rattle.lrs_json_reader.specs.Steps.{StepsOverCommaOr, comma_or}
use Rattle.lrs_json_reader.specs.declared.cursor.Stop.{Stop}
use Rattle.lrs_json_reader.specs.declared.cursor.Stop.TheVariants.{Memory}
use Rattle.lrs_json_reader.proofs.Alike.{alike, alike_members, first_same, member_parts}
use Rattle.lrs_json_reader.proofs.Escapes.{same_quoted}
use Rattle.lrs_json_reader.proofs.Rereads.{members_Ends, tail_same}
use Rattle.lrs_json_reader.proofs.WrittenLemmas.{Fits-IsSpellable}
use Rattle.lrs_json_written.specs.Fitting.{HaveReadable, names_in, names_of}
use Rattle.lrs_json_written.specs.Reading.{ReadableNamedAt, ReadsNextMember, ReadsMember, ReadsMembers, ReadsTree}
use Rattle.lrs_json_written.proofs.Fitted.{named_apart, named_fit}
use Rattle.lrs_json_written.proofs.Readings.{goes_shorter, members_spelled, not_empty, nothing_reads, object_only}

-- ---- a member

-- the value stands behind the name and its colon
pub value_at : (limit : ℕ) (m : List ℕ × Json) (k old colon value rest : List ℕ) → old ≡ quoted k ++ colon → colon ≡ (58 ∷ []) ++ value → ReadableNamedAt limit m old rest → (k ≡ m.0) × (value ≡ written m.1 ++ rest)
value_at limit m k old colon value rest named colon_is at =
    let same = same_quoted k m.0 colon (58 ∷ (written m.1 ++ rest)) (sym named ∙ at.2) in
    (same.0, tail_same 58 value (written m.1 ++ rest) (sym colon_is ∙ same.1))

pub member_done : (limit : ℕ) (m : Member) (k old colon value new : List ℕ) (t : Tree) → member_view m ≡ (k, view t) → IsUtf8 k → old ≡ quoted k ++ colon → colon ≡ (58 ∷ []) ++ value → ReadsTree limit value (Ok t) new → ReadsMember limit old (Ok m) new
member_done limit m k old colon value new t seen utf8 named colon_is tree =
    let whole : old ≡ quoted k ++ 58 ∷ (written (view t) ++ new) = named ∙ ap (λ (z : List ℕ). quoted k ++ z) (colon_is ∙ ap (λ (z : List ℕ). 58 ∷ z) tree.found.1) in
    record {
      found = subst (λ (n : List ℕ × Json). ReadableNamedAt limit n old new) (sym seen) (utf8, tree.found.0, whole);
      all = λ n rest at ends.
          let v = value_at limit n k old colon value rest named colon_is at in
          let a = tree.all n.1 rest at.1 v.1 ends in
          (seen ∙ ap (λ (z : List ℕ). (z, view t)) v.0 ∙ ap (λ (z : Json). (n.0, z)) a.0, a.1);
    }

-- ---- members

pub next_shorter : (limit : ℕ) (read new : List Member) (here next : List ℕ) (goes : Bool) → ReadsNextMember limit read here (Ok goes) new next → length next < length here
next_shorter limit read new here next goes item =
    let m = member_view item.found.0 in
    goes_shorter 125 here (quoted m.0 ++ 58 ∷ written m.1) next goes (item.found.2.2 ∙ sym (append_assoc (quoted m.0) (58 ∷ written m.1) (comma_or 125 goes ∷ next)))

-- the members that were read, each with its comma
abbrev pub heads : List (List ℕ × Json) → List ℕ
heads [] = []
heads (m ∷ ms) = quoted m.0 ++ 58 ∷ (written m.1 ++ 44 ∷ heads ms)

abbrev pub members_front : Bool → List (List ℕ × Json) → List ℕ
members_front true ms = heads ms
members_front false ms = members_text false (members_of ms)

head_parts : (m : List ℕ × Json) (more here : List ℕ) → (quoted m.0 ++ 58 ∷ (written m.1 ++ 44 ∷ more)) ++ here ≡ quoted m.0 ++ 58 ∷ (written m.1 ++ 44 ∷ (more ++ here))
head_parts m more here = simp append_assoc

heads_pushed : (ms : List (List ℕ × Json)) (m : List ℕ × Json) (here : List ℕ) → heads (ms ++ m ∷ []) ++ here ≡ heads ms ++ (quoted m.0 ++ 58 ∷ (written m.1 ++ 44 ∷ here))
heads_pushed [] m here = head_parts m [] here
heads_pushed (k ∷ ms) m here =
    head_parts k (heads (ms ++ m ∷ [])) here ∙ ap (λ (z : List ℕ). quoted k.0 ++ 58 ∷ (written k.1 ++ 44 ∷ z)) (heads_pushed ms m here)
    ∙ sym (head_parts k (heads ms) (quoted m.0 ++ 58 ∷ (written m.1 ++ 44 ∷ here)))

members_closed : (ms : List (List ℕ × Json)) (m : List ℕ × Json) (later : Bool) (here : List ℕ) → members_text later (members_of (ms ++ m ∷ [])) ++ here ≡ comma_if later ++ (heads ms ++ (quoted m.0 ++ 58 ∷ (written m.1 ++ 125 ∷ here)))
members_closed [] m later here = member_parts later m.0 m.1 no_members here
members_closed (k ∷ ms) m later here =
    member_parts later k.0 k.1 (members_of (ms ++ m ∷ [])) here
    ∙ ap (λ (z : List ℕ). comma_if later ++ (quoted k.0 ++ 58 ∷ (written k.1 ++ z))) (members_closed ms m true here)
    ∙ ap (λ (z : List ℕ). comma_if later ++ z) (sym (head_parts k (heads ms) (quoted m.0 ++ 58 ∷ (written m.1 ++ 125 ∷ here))))

members_pushed : (goes : Bool) (ms : List (List ℕ × Json)) (m : List ℕ × Json) (here : List ℕ) → members_front goes (ms ++ m ∷ []) ++ here ≡ heads ms ++ (quoted m.0 ++ 58 ∷ (written m.1 ++ comma_or 125 goes ∷ here))
members_pushed true ms m here = heads_pushed ms m here
members_pushed false ms m here = members_closed ms m false here

readable_pushed : (limit : ℕ) (ms : List (List ℕ × Json)) (m : List ℕ × Json) → HaveReadable limit (members_of ms) → IsUtf8 m.0 → IsReadable limit m.1 → HaveReadable limit (members_of (ms ++ m ∷ []))
readable_pushed limit [] m ok name value = (name, value, tt)
readable_pushed limit (k ∷ ms) m ok name value = (ok.0, ok.1, readable_pushed limit ms m ok.2 name value)

-- Behind the opening brace these were read, and here is what follows them.
pub record MembersSoFar (limit : ℕ) (start : List ℕ) (goes : Bool) (read : List Member) (here : List ℕ) : Type 0 where
  pub readable : HaveReadable limit (members_of (map member_view read))
  pub so_far : start ≡ 123 ∷ (members_front goes (map member_view read) ++ here)
  pub some : goes ≡ true → read ≡ [] → (rest : List ℕ) → here ≡ 125 ∷ rest → ⊥

pub members_begun : (limit : ℕ) (start mid here : List ℕ) (comes : Bool) → start ≡ (123 ∷ []) ++ mid → MatchBool comes (mid ≡ (125 ∷ []) ++ here) ((here ≡ mid) × ((rest : List ℕ) → mid ≡ (125 ∷ []) ++ rest → ⊥)) → MembersSoFar limit start (not comes) [] here
members_begun limit start mid here true e took =
    record { readable = tt; so_far = e ∙ ap (λ (z : List ℕ). 123 ∷ z) took; some = λ so none rest h. true≢false (sym so) }
members_begun limit start mid here false e took =
    record { readable = tt; so_far = e ∙ ap (λ (z : List ℕ). 123 ∷ z) (sym took.0); some = λ so none rest h. took.1 rest (sym took.0 ∙ h) }

pub members_next : (limit : ℕ) (start : List ℕ) (read new : List Member) (here next : List ℕ) (goes : Bool) → MembersSoFar limit start true read here → ReadsNextMember limit read here (Ok goes) new next → MembersSoFar limit start goes new next
members_next limit start read new here next goes so item =
    let m : List ℕ × Json = member_view item.found.0 in
    let ms = map member_view read in
    let seen : map member_view new ≡ ms ++ m ∷ [] = ap (map member_view) item.found.1 ∙ map-append member_view read (item.found.0 ∷ []) in
    record {
      readable = subst (λ (is : List (List ℕ × Json)). HaveReadable limit (members_of is)) (sym seen) (readable_pushed limit ms m so.readable item.found.2.0 item.found.2.1);
      so_far =
          so.so_far ∙ ap (λ (z : List ℕ). 123 ∷ (heads ms ++ z)) item.found.2.2
          ∙ ap (λ (z : List ℕ). 123 ∷ z) (sym (members_pushed goes ms m next) ∙ ap (λ (is : List (List ℕ × Json)). members_front goes is ++ next) (sym seen));
      some = λ _ none rest h. absurd (not_empty read item.found.0 (sym item.found.1 ∙ none));
    }

members_go : (ms : Members) (mid rest : List ℕ) {P : Type 0} → ((goes : Bool) (more : List ℕ) → mid ≡ comma_or 125 goes ∷ more → P) → mid ≡ members_text true ms ++ rest → P
members_go no_members mid rest f e = f false rest e
members_go (member k j ms) mid rest f e = f true ((quoted k ++ 58 ∷ written j ++ members_text true ms) ++ rest) e

pub next_done : (limit : ℕ) (read new : List Member) (m : Member) (old mid next : List ℕ) (r : Result Bool Stop) → new ≡ read ++ m ∷ [] → ReadsMember limit old (Ok m) mid → StepsOverCommaOr 125 mid r next → ReadsNextMember limit read old r new next
next_done limit read new m old mid next (Ok goes) is named on =
    let n = member_view m in
    let at = named.found in
    record {
      found = (m, is, (at.0, at.1, at.2 ∙ ap (λ (z : List ℕ). quoted n.0 ++ 58 ∷ (written n.1 ++ z)) on.found));
      all = λ n ms rest at. tt;
    }
next_done limit read new m old mid next (Err y) is named on =
    record { found = tt; all = λ n ms rest at. members_go ms mid rest (λ goes more e. on.all goes more e) (named.all n (members_text true ms ++ rest) at (members_Ends ms rest)).1 }

pub next_fault : (limit : ℕ) (read : List Member) (old new : List ℕ) (r : Result Bool Stop) (y : Stop) → IsErrAnd r (λ e. e ≡ y) → ReadsMember limit old (Err y) new → ReadsNextMember limit read old r read new
next_fault limit read old new (Ok goes) y is named = absurd is
next_fault limit read old new (Err z) y is named =
    record { found = tt; all = λ n ms rest at. is ∙ named.all n (members_text true ms ++ rest) at (members_Ends ms rest) }

-- what stands behind the members that were read
after_heads : (limit : ℕ) (read : List (List ℕ × Json)) (all : Members) (here rest : List ℕ) → HaveReadable limit (members_of read) → HaveReadable limit all → 44 ∷ (heads read ++ here) ≡ members_text true all ++ rest
    → (m : List ℕ × Json) × (ms : Members) × ReadableNamedAt limit m here (members_text true ms ++ rest)
after_heads limit read no_members here rest ok whole e = let bad : ◌≡◌ {A = ℕ} 44 125 = first_same 44 125 (heads read ++ here) rest e in absurd (omega arith)
after_heads limit [] (member k j ms) here rest ok whole e =
    ((k, j), ms, (whole.0, whole.1, tail_same 44 here (quoted k ++ 58 ∷ (written j ++ (members_text true ms ++ rest))) (e ∙ member_parts true k j ms rest)))
after_heads limit (r ∷ read) (member k j ms) here rest ok whole e =
    let left = 44 ∷ (heads read ++ here) in
    let right = members_text true ms ++ rest in
    let inside : quoted r.0 ++ 58 ∷ (written r.1 ++ left) ≡ quoted k ++ 58 ∷ (written j ++ right) =
    sym (head_parts r (heads read) here) ∙ tail_same 44 (heads (r ∷ read) ++ here) (quoted k ++ 58 ∷ (written j ++ right)) (e ∙ member_parts true k j ms rest) in
    let name = same_quoted r.0 k (58 ∷ (written r.1 ++ left)) (58 ∷ (written j ++ right)) inside in
    let same = alike r.1 j left right (Fits-IsSpellable r.1 ok.1.0) (Fits-IsSpellable j whole.1.0) refl (members_Ends ms rest) (tail_same 58 (written r.1 ++ left) (written j ++ right) name.1) in
    after_heads limit read ms here rest ok.2 whole.2 same.1

no_brace : (k rest more : List ℕ) → quoted k ++ rest ≡ 125 ∷ more → ⊥
no_brace k rest more e = let bad : ◌≡◌ {A = ℕ} 34 125 = cc e in absurd (omega arith)

member_left : (limit : ℕ) (read : List (List ℕ × Json)) (all : Members) (here rest : List ℕ) → (read ≡ [] → (end : List ℕ) → here ≡ 125 ∷ end → ⊥) → HaveReadable limit (members_of read) → HaveReadable limit all
    → heads read ++ here ≡ members_text false all ++ rest → (m : List ℕ × Json) × (ms : Members) × ReadableNamedAt limit m here (members_text true ms ++ rest)
member_left limit [] no_members here rest some ok whole e = absurd (some refl rest e)
member_left limit (r ∷ read) no_members here rest some ok whole e = absurd (no_brace r.0 (58 ∷ (written r.1 ++ 44 ∷ (heads read ++ here))) rest (sym (head_parts r (heads read) here) ∙ e))
member_left limit read (member k j ms) here rest some ok whole e =
    after_heads limit read (member k j ms) here rest ok whole (ap (λ (z : List ℕ). 44 ∷ z) (e ∙ member_parts false k j ms rest) ∙ sym (member_parts true k j ms rest))

no_views : (read : List Member) → map member_view read ≡ [] → read ≡ []
no_views [] e = refl
no_views (m ∷ read) e = cc e

pub members_fault : (limit : ℕ) (start : List ℕ) (read new : List Member) (here next end : List ℕ) (r : Result (List Member) Stop) (y : Stop) → IsErrAnd r (λ e. e ≡ y) → MembersSoFar limit start true read here → ReadsNextMember limit read here (Err y) new next → ReadsMembers limit start r end
members_fault limit start read new here next end (Ok ms) y is so item = absurd is
members_fault limit start read new here next end (Err z) y is so item =
    record {
      found = tt;
      all = λ ms rest ok e.
          let left =
          member_left limit (map member_view read) ms here rest (λ none. so.some refl (no_views read none)) so.readable ok (tail_same 123 (heads (map member_view read) ++ here) (members_text false ms ++ rest) (sym so.so_far ∙ e)) in
          is ∙ item.all left.0 left.1 rest left.2;
    }

pub members_unopened : (limit : ℕ) (start end : List ℕ) (r : Result (List Member) Stop) (y : Stop) → IsErrAnd r (λ e. e ≡ y) → ((rest : List ℕ) → start ≡ (123 ∷ []) ++ rest → y ≡ Memory) → ReadsMembers limit start r end
members_unopened limit start end (Ok ms) y is none = absurd is
members_unopened limit start end (Err z) y is none = record { found = tt; all = λ ms rest ok e. is ∙ none (members_text false ms ++ rest) e }

pub members_done : (limit : ℕ) (start here : List ℕ) (read : List Member) → MembersSoFar limit start false read here → ReadsMembers limit start (Ok read) here
members_done limit start here read so =
    let is = members_of (map member_view read) in
    record {
      found = (so.readable, so.so_far);
      all = λ ms rest ok e. alike_members is ms false here rest (members_spelled limit is so.readable) (members_spelled limit ms ok) (tail_same 123 (members_text false is ++ here) (members_text false ms ++ rest) (sym so.so_far ∙ e));
    }

-- ---- an object as a value

pub object_deep : (limit : ℕ) (old more new : List ℕ) (y : Stop) → limit ≡ 0 → old ≡ 123 ∷ more → ReadsTree limit old (Err y) new
object_deep limit old more new y none is =
    nothing_reads limit old new y (λ j rest ok e. let a = object_only limit old more is j rest ok e in absurd (omega (arith, none, a.2.1)))

object_parts : (limit : ℕ) (ms : Members) → IsReadable limit (object ms) → (are_new [] (names_of ms) ≡ true) × HaveReadable (limit - 1) ms
object_parts limit ms ok = named_apart (limit - 1) [] ms ok.0 (omega (arith, ok.1))

pub object_fault : (limit : ℕ) (old more new : List ℕ) (r : Result Tree Stop) (y : Stop) → old ≡ 123 ∷ more → IsErrAnd r (λ e. e ≡ y) → ReadsMembers (limit - 1) old (Err y) new → ReadsTree limit old r new
object_fault limit old more new (Ok t) y is at members = absurd at
object_fault limit old more new (Err z) y is at members =
    nothing_reads limit old new z (λ j rest ok e. let a = object_only limit old more is j rest ok e in at ∙ members.all a.0 rest (object_parts limit a.0 a.2).1 a.3)

-- a name was there before
pub object_again : (limit : ℕ) (old more mid new : List ℕ) (ms : List Member) (distinct : Bool) (y : Stop) → old ≡ 123 ∷ more → ReadsMembers (limit - 1) old (Ok ms) mid → distinct ≡ are_new [] (names_in ms) → distinct ≡ false → ReadsTree limit old (Err y) new
object_again limit old more mid new ms distinct y is members told not_so =
    nothing_reads limit old new y
    (λ j rest ok e.
    let a = object_only limit old more is j rest ok e in
    let parts = object_parts limit a.0 a.2 in
    let same = members.all a.0 rest parts.1 a.3 in
    absurd (true≢false (sym parts.0 ∙ ap (λ (ns : Members). are_new [] (names_of ns)) (sym same.0) ∙ sym told ∙ not_so)))

pub object_done : (limit : ℕ) (old more new : List ℕ) (ms : List Member) (distinct : Bool) → old ≡ 123 ∷ more → 0 < limit → ReadsMembers (limit - 1) old (Ok ms) new → distinct ≡ are_new [] (names_in ms) → distinct ≡ true → ReadsTree limit old (Ok (Object ms)) new
object_done limit old more new ms distinct is some members told new_names =
    let ns = members_of (map member_view ms) in
    let seen : view (Object ms) ≡ object ns = view-Object ms in
    let fit = named_fit (limit - 1) [] ns (sym told ∙ new_names) members.found.0 in
    let ok : IsReadable limit (object ns) = (fit.0, omega (arith, some, fit.1)) in
    record {
      found = (subst (IsReadable limit) (sym seen) ok, members.found.1 ∙ ap (λ (i : Json). written i ++ new) (sym seen));
      all = λ j rest ok' e ends.
          let a = object_only limit old more is j rest ok' e in
          let same = members.all a.0 rest (object_parts limit a.0 a.2).1 a.3 in
          (seen ∙ ap object same.0 ∙ sym a.1, same.1);
    }
