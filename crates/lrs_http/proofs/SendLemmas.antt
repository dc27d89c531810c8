-- Bytes that go out piece by piece.
use Rattle.std.proofs.Common.{◌≡◌, ℕ, ◌+◌, ◌-◌, ◌<◌, ◌≤◌, List, [], ◌∷◌, ◌++◌, length, take, drop, Option, Some, None, option_map, refl, sym, ap, ◌∙◌, subst, arith, append_assoc, append-nil, inl, inr, Bor}
use Rattle.std.proofs.lemmas.List.{take-append-drop, drop-drop}
use Rattle.std.specs.Prelude.{Bool, true, false, ◌==◌, ◌&&◌, nat_le, nat_lt, decimal, codes, not, unwrap_or}
use Rattle.std.specs.List.{list_any, list_all}
use Rattle.std.proofs.lemmas.Bool.{cases_Bool, false≢true, and_parts}
use Rattle.std.proofs.lemmas.Bool.Decides.{nat_tests}
use Rattle.http.specs.StatusCode.{IsStatusCode}
use Rattle.lrs_disk.specs.Faults.{Rises}
use Rattle.lrs_http.specs.Links.{Sends, SendsPart, LinkView, IsWritten}
use Rattle.lrs_http.specs.Response.{IsStatus, statuses, status_line, phrase_of, line_end, where_so, field, field_of, response_of}

pub nothing_more : (before : Option (List ℕ)) → before ≡ option_map (λ taken. taken ++ []) before
nothing_more None = refl
nothing_more (Some taken) = ap Some (sym (append-nil taken))

-- nothing went out yet
pub sends_none : (text : List ℕ) (before : Option (List ℕ)) → Sends text text before before
sends_none text before = ([], refl, nothing_more before)

both : (f g : List ℕ) (before : Option (List ℕ)) → option_map (λ taken. taken ++ g) (option_map (λ taken. taken ++ f) before) ≡ option_map (λ taken. taken ++ (f ++ g)) before
both f g None = refl
both f g (Some taken) = ap Some (append_assoc taken f g)

-- what was left went out, too
pub sends_on : (a r q : List ℕ) (t u v : Option (List ℕ)) → Sends a r t u → Sends r q u v → Sends a q t v
sends_on a r q t u v first second = (
  first.0 ++ second.0,
  append_assoc first.0 second.0 q ∙ ap (λ l. first.0 ++ l) second.1 ∙ first.1,
  second.2 ∙ ap (λ o. option_map (λ taken. taken ++ second.0) o) first.2 ∙ both first.0 second.0 t,
)

-- the same with more text after
pub sends_more : (a b r : List ℕ) (t u : Option (List ℕ)) → Sends a r t u → Sends (a ++ b) (r ++ b) t u
sends_more a b r t u first = (first.0, sym (append_assoc first.0 r b) ∙ ap (λ l. l ++ b) first.1, first.2)

pub sends_then : (a b r q : List ℕ) (t u v : Option (List ℕ)) → Sends a r t u → Sends (r ++ b) q u v → Sends (a ++ b) q t v
sends_then a b r q t u v first second = sends_on (a ++ b) (r ++ b) q t u v (sends_more a b r t u first) second

-- a piece of a text that begins at an offset
pub sends_piece : (bytes piece : List ℕ) (done n : ℕ) (t u : Option (List ℕ)) → piece ≡ drop done bytes
    → u ≡ option_map (λ taken. taken ++ take n piece) t → Sends (drop done bytes) (drop (done + n) bytes) t u
sends_piece bytes piece done n t u is taken = (
  take n piece,
  ap (λ l. take n piece ++ l) (sym (drop-drop n done bytes) ∙ ap (drop n) (sym is)) ∙ take-append-drop n piece ∙ is,
  taken,
)

pub part_then : (a b r : List ℕ) (t u v : Option (List ℕ)) → Sends a r t u → SendsPart (r ++ b) u v → SendsPart (a ++ b) t v
part_then a b r t u v first part = (part.0, sends_then a b r part.0 t u v first part.1)

pub part_on : (a r : List ℕ) (t u v : Option (List ℕ)) → Sends a r t u → SendsPart r u v → SendsPart a t v
part_on a r t u v first part = (part.0, sends_on a r part.0 t u v first part.1)

pub part_more : (a b : List ℕ) (t u : Option (List ℕ)) → SendsPart a t u → SendsPart (a ++ b) t u
part_more a b t u part = (part.0 ++ b, sends_more a b part.0 t u part.1)

-- ---- what was written, piece by piece

pub written_none : (start : LinkView) → IsWritten [] [] false start start
written_none start = record {
  left = refl;
  stream = refl;
  name = refl;
  whole = λ is. (sends_none [] start.taken, refl);
  part = λ is. absurd (false≢true is);
}

-- a piece more waits
pub written_more : (text waiting piece : List ℕ) (failed : Bool) (start now : LinkView) → IsWritten text waiting failed start now → IsWritten (text ++ piece) (waiting ++ piece) failed start now
written_more text waiting piece failed start now w = record {
  left = w.left;
  stream = w.stream;
  name = w.name;
  whole = λ is. (sends_more text piece waiting start.taken now.taken (w.whole is).0, (w.whole is).1);
  part = λ is. (part_more text piece start.taken now.taken (w.part is).0, (w.part is).1, (w.part is).2);
}

-- after a fault nothing waits
pub written_failed : (text waiting : List ℕ) (start now : LinkView) → IsWritten text waiting true start now → IsWritten text [] true start now
written_failed text waiting start now w = record {
  left = w.left;
  stream = w.stream;
  name = w.name;
  whole = λ is. absurd (false≢true (sym is));
  part = w.part;
}

-- what waited went out
pub written_sent : (text waiting : List ℕ) (start now next : LinkView) → IsWritten text waiting false start now → next.left ≡ now.left → next.stream ≡ now.stream → next.name ≡ now.name
    → Sends waiting [] now.taken next.taken → next.faults ≡ now.faults → IsWritten text [] false start next
written_sent text waiting start now next w left stream name sent faults = record {
  left = left ∙ w.left;
  stream = stream ∙ w.stream;
  name = name ∙ w.name;
  whole = λ is. (sends_on text waiting [] start.taken now.taken next.taken (w.whole refl).0 sent, faults ∙ (w.whole refl).1);
  part = λ is. absurd (false≢true is);
}

-- the link failed
pub written_part : (text waiting : List ℕ) (start now next : LinkView) → IsWritten text waiting false start now → next.left ≡ now.left → next.stream ≡ now.stream → next.name ≡ now.name
    → SendsPart waiting now.taken next.taken → Rises now.faults next.faults → now.faults ≤ next.faults → IsWritten text [] true start next
written_part text waiting start now next w left stream name sent rises later = record {
  left = left ∙ w.left;
  stream = stream ∙ w.stream;
  name = name ∙ w.name;
  whole = λ is. absurd (false≢true (sym is));
  part = λ is. (
    part_on text waiting start.taken now.taken next.taken (w.whole refl).0 sent,
    subst (λ n. Rises n next.faults) (w.whole refl).1 rises,
    subst (λ n. n ≤ next.faults) (w.whole refl).1 later,
  );
}

pub status_line_is : (text digits phrase : List ℕ) (status : ℕ) → digits ≡ decimal status → phrase ≡ phrase_of status
    → ((((text ++ codes "HTTP/1.1 ") ++ digits) ++ codes " ") ++ phrase) ++ line_end ≡ text ++ status_line status
unfolding status_line
status_line_is text digits phrase status is same = rw (is, same) (assoc text (codes "HTTP/1.1 ") (decimal status) (codes " ") (phrase_of status) line_end)
  where
    assoc : (t a b c d e : List ℕ) → ((((t ++ a) ++ b) ++ c) ++ d) ++ e ≡ t ++ ((((a ++ b) ++ c) ++ d) ++ e)
    assoc t a b c d e = simp append_assoc

pub field_is : (t a b c d : List ℕ) → (((t ++ a) ++ b) ++ c) ++ d ≡ t ++ (((a ++ b) ++ c) ++ d)
field_is t a b c d = simp append_assoc

among : (status : ℕ) (xs : List ℕ) → list_any (λ s. s == status) xs ≡ true → list_all (λ s. nat_le 100 s && nat_lt s 1000) xs ≡ true → IsStatusCode status
among status [] any all = absurd (false≢true any)
among status (x ∷ xs) any all = elim (cases_Bool (x == status)) [
  | inl is ↦
      let parts = and_parts (nat_le 100 x && nat_lt x 1000) (list_all (λ s. nat_le 100 s && nat_lt s 1000) xs) all in
      let both = and_parts (nat_le 100 x) (nat_lt x 1000) parts.0 in
      let low : 100 ≤ x = grind (arith, nat_tests, both.0) in
      let high : x < 1000 = grind (arith, nat_tests, both.1) in
      let same : x ≡ status = grind (arith, nat_tests, is) in
      (omega arith, omega arith)
  | inr not ↦
      let parts = and_parts (nat_le 100 x && nat_lt x 1000) (list_all (λ s. nat_le 100 s && nat_lt s 1000) xs) all in
      among status xs (rw not at any) parts.1
]

pub status_code : (status : ℕ) → IsStatus status → IsStatusCode status
status_code status is = among status statuses is refl

-- the same text in other words
pub written_as : (text other waiting : List ℕ) (failed : Bool) (start now : LinkView) → text ≡ other → IsWritten text waiting failed start now → IsWritten other waiting failed start now
written_as text other waiting failed start now is w = subst (λ (l : List ℕ). IsWritten l waiting failed start now) is w

-- nothing more was written
pub written_still : (text waiting : List ℕ) (failed : Bool) (start now : LinkView) → IsWritten text waiting failed start now → IsWritten (text ++ []) waiting failed start now
written_still text waiting failed start now w = written_as text (text ++ []) waiting failed start now (sym (append-nil text)) w

pub written_only : (text waiting : List ℕ) (failed : Bool) (start now : LinkView) → IsWritten (text ++ []) waiting failed start now → IsWritten text waiting failed start now
written_only text waiting failed start now w = written_as (text ++ []) text waiting failed start now (append-nil text) w

-- the same bytes wait
pub written_waits : (text waiting other : List ℕ) (failed : Bool) (start now : LinkView) → waiting ≡ other → IsWritten text waiting failed start now → IsWritten text other failed start now
written_waits text waiting other failed start now is w = subst (λ (l : List ℕ). IsWritten text l failed start now) is w

pub unwrap_now : (o : Option (Bor (List ℕ))) (d : Bor (List ℕ)) → (unwrap_or o d).now ≡ unwrap_or (option_map (λ (s : Bor (List ℕ)). s.now) o) d.now
unwrap_now None d = refl
unwrap_now (Some s) d = refl

pub response_is : (status : ℕ) (media body : List ℕ) (through : Option (List ℕ)) (allow : List ℕ) (closes : Bool) (m size a : List ℕ) → m ≡ media → size ≡ decimal (length body) → a ≡ allow
    → status_line status
    ++ where_so (not (status == 204)) (field (codes "Content-Type") m)
    ++ where_so (not (status == 204)) (field (codes "Content-Length") size)
    ++ field (codes "X-Experience-API-Version") (codes "1.0.3")
    ++ field_of (codes "X-Experience-API-Consistent-Through") through
    ++ where_so (status == 405) (field (codes "Allow") a)
    ++ where_so (status == 401) (field (codes "WWW-Authenticate") (codes "Basic realm=\"lrs\""))
    ++ where_so closes (field (codes "Connection") (codes "close"))
    ++ line_end
    ++ body ≡ response_of status media body through allow closes
unfolding response_of
response_is status media body through allow closes m size a x y z = rw (x, y, z) refl
