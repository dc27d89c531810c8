-- The steps of the loop over the members of an object, and of one member.
use Rattle.std.proofs.Common.{◌≡◌, ℕ, ◌≤◌, ◌<◌, List, [], ◌∷◌, ◌++◌, append_assoc, length-append, Bool, true, false, length, take, drop, map, Ok, Err, refl, sym, ap, ◌∙◌, subst, true≢false, arith}
use Rattle.std.proofs.lemmas.List.{append-nil, map-append}
use Rattle.lrs_decimal.proofs.Runs.{behind, drop_front, take_front}
use Rattle.lrs_json.specs.Json as Json
use Rattle.lrs_json.specs.View.{view, member_view, members_of}
use Rattle.lrs_json_reader.specs.Located.{Located, object, plain, plain_members, Members, no_members, member}
use Rattle.lrs_json_reader.specs.Flaws.{earlier, earliest}
use Rattle.lrs_json_reader.specs.Grammar.{is_space, Spaces, Quoted, Value, Paired}
use Rattle.lrs_json_reader.specs.Steps.{StepsToNext}
use Rattle.lrs_json_reader.specs.Reading.{noted, Entry, plain_entry, noted_entry, Pair, Misses, ReadsValue, ReadsMember, repeated_among, has_items}
use Rattle.lrs_json_reader.specs.declared.cursor.Stop.{Stop}
use Rattle.lrs_json_reader.specs.declared.cursor.Stop.TheVariants.{Memory}
use Rattle.lrs_json_reader.specs.declared.reader.Flaws.{Flaws}
use Rattle.lrs_json_reader.specs.declared.reader.Reader.{Reader}
use Rattle.lrs_json.specs.declared.tree.Tree.{Tree, Object as Many}
use Rattle.lrs_json.specs.declared.tree.Member.{Member}
use Rattle.lrs_json_reader.proofs.Spaces.{Spaces-behind, behind-Spaces}
use Rattle.lrs_json_reader.proofs.Values.{Value-Stops}
use Rattle.lrs_json_reader.proofs.StepLemmas.{Spaces-length, behind-length}
use Rattle.lrs_json_reader.proofs.FirstBytes.{starts_at, only_object}
use Rattle.lrs_json_reader.proofs.Ends.{Paired-Ends, Quoted-Opens}
use Rattle.lrs_json_reader.proofs.Noting.{flaws_same, before_members, members-push, noted_entries, noted_entries-push, noted_entries-object}
use Rattle.lrs_json_reader.proofs.Lists.{has_items-push}
use Rattle.lrs_json.proofs.Views.{view-Object}

pub record ObjectSoFar (ts : List Member) (lefts : List ℕ) (start here : Reader) : Type 0 where
  pub ms : List Entry
  pub sees : map member_view ts ≡ map plain_entry ms
  pub at : lefts ≡ map (λ m. m.left) ms
  pub notes : here.flaws ≡ noted_entries start.flaws ms
  pub sound : (more : Members) (rest : List ℕ) → Paired (has_items ts) more here.cursor rest → Value (object (before_members ms more)) start.cursor rest
  pub complete : (all : Members) (rest : List ℕ) → Value (object all) start.cursor rest → (more : Members) × (all ≡ before_members ms more) × Paired (has_items ts) more here.cursor rest
  pub shorter : length here.cursor < length start.cursor

pub object_start : (start here : Reader) (rest : List ℕ) → start.cursor ≡ 123 ∷ rest → here.cursor ≡ drop 1 start.cursor → here.flaws ≡ start.flaws → ObjectSoFar [] [] start here
object_start start here rest e d notes =
    let same : here.cursor ≡ rest = d ∙ ap (drop 1) e in
    let whole : start.cursor ≡ 123 ∷ here.cursor = e ∙ ap (λ z. 123 ∷ z) (sym same) in
    record {
      ms = [];
      sees = refl;
      at = refl;
      notes = notes;
      sound = λ more end l. (here.cursor, whole, l);
      complete = λ all end v. let a : v.0 ≡ here.cursor = cc (v.1, whole) in (all, refl, subst (λ z. Paired false all z end) a v.2);
      shorter = omega (arith, ap length whole);
    }

member_comes : (later : Bool) (more : Members) (here s rest : List ℕ) → StepsToNext later 125 here (Ok true) s → Paired later more here rest
    → (m : Entry) × (left : Members) × (c : List ℕ) × (more ≡ member m.left m.name m.value left) × Pair m s c × Paired true left c rest
member_comes later no_members here s rest go l = absurd (true≢false (go.all_end rest l).0)
member_comes later (member left k p more) here s rest go l =
    let at = go.all_more l.0 l.1 l.6 l.7 (Quoted-Opens k l.1 l.2 l.8) in
    (record { left = left; name = k; value = p }, more, l.5, refl, (l.2, l.3, l.4, subst (λ z. Quoted k z l.2) (sym at.1) l.8, l.9, l.10, l.11, l.13 ∙ ap length (sym at.1)), l.12)

end_comes : (later : Bool) (more : Members) (here s rest : List ℕ) → StepsToNext later 125 here (Ok false) s → Paired later more here rest → (more ≡ no_members) × (s ≡ rest)
end_comes later no_members here s rest go l = (refl, (go.all_end rest l).1)
end_comes later (member left k p more) here s rest go l = absurd (true≢false (sym (go.all_more l.0 l.1 l.6 l.7 (Quoted-Opens k l.1 l.2 l.8)).0))

none_comes : (later : Bool) (more : Members) (here s rest : List ℕ) (y : Stop) → StepsToNext later 125 here (Err y) s → Paired later more here rest → y ≡ Memory
none_comes later no_members here s rest y go l = go.all_end rest l
none_comes later (member left k p more) here s rest y go l = go.all_more l.0 l.1 l.6 l.7 (Quoted-Opens k l.1 l.2 l.8)

pub object_next : (ts new : List Member) (lefts afters : List ℕ) (left : ℕ) (t : Member) (start here mid next : Reader) → new ≡ ts ++ t ∷ [] → afters ≡ lefts ++ left ∷ [] → left ≡ length mid.cursor → mid.flaws ≡ here.flaws
    → ObjectSoFar ts lefts start here → StepsToNext (has_items ts) 125 here.cursor (Ok true) mid.cursor → ReadsMember mid (Ok t) next → ObjectSoFar new afters start next
object_next ts new lefts afters left t start here mid next is flaws_are left_is kept so go found =
    let x = found.it in
    let later : has_items new ≡ true = ap has_items is ∙ has_items-push ts t in
    let p = found.here in
    record {
      ms = so.ms ++ x ∷ [];
      sees = ap (map member_view) is ∙ map-append member_view ts (t ∷ []) ∙ ap (λ z. z ++ member_view t ∷ []) so.sees ∙ ap (λ z. map plain_entry so.ms ++ z ∷ []) found.sees ∙ sym (map-append plain_entry so.ms (x ∷ []));
      at = flaws_are ∙ ap (λ z. z ++ left ∷ []) so.at ∙ ap (λ z. map (λ m. m.left) so.ms ++ z ∷ []) (left_is ∙ sym p.7) ∙ sym (map-append (λ m. m.left) so.ms (x ∷ []));
      notes = found.notes ∙ ap (λ z. noted_entry z x) (kept ∙ so.notes) ∙ sym (noted_entries-push start.flaws so.ms x);
      sound = λ more rest l.
          let comes = go.goes refl in
          let tail : Paired true more next.cursor rest = subst (λ z. Paired z more next.cursor rest) later l in
          subst (λ z. Value (object z) start.cursor rest) (sym (members-push so.ms x more)) (so.sound (member x.left x.name x.value more) rest
          (comes.0, mid.cursor, p.0, p.1, p.2, next.cursor, comes.1, comes.2, p.3, p.4, p.5, p.6, tail, p.7));
      complete = λ all rest v.
          let m = so.complete all rest v in
          let i = member_comes (has_items ts) m.0 here.cursor mid.cursor rest go m.2 in
          let r = found.only i.0 i.2 i.4 (Paired-Ends i.1 i.2 rest i.5) in
          let tail : Paired true i.1 next.cursor rest = subst (λ z. Paired true i.1 z rest) (sym r.1) i.5 in
          (i.1, m.1 ∙ ap (before_members so.ms) (i.3 ∙ ap (λ z. member z.left z.name z.value i.1) r.0) ∙ sym (members-push so.ms x i.1), subst (λ z. Paired z i.1 next.cursor rest) (sym later) tail);
      shorter = omega (arith, found.shorter, go.no_longer, so.shorter);
    }

-- The same, where the offsets stand on a stack, above those that were on it.
pub record ObjectHere (ts : List Member) (below stack : List ℕ) (start here : Reader) : Type 0 where
  pub own : List ℕ
  pub on : stack ≡ below ++ own
  pub so_far : ObjectSoFar ts own start here

pub object_begun : (below : List ℕ) (start here : Reader) (rest : List ℕ) → start.cursor ≡ 123 ∷ rest → here.cursor ≡ drop 1 start.cursor → here.flaws ≡ start.flaws → ObjectHere [] below below start here
object_begun below start here rest e d notes = record { own = []; on = sym (append-nil below); so_far = object_start start here rest e d notes }

pub object_more : (ts new : List Member) (below stack pushed kept : List ℕ) (left : ℕ) (t : Member) (start here mid next : Reader) → new ≡ ts ++ t ∷ [] → pushed ≡ stack ++ left ∷ [] → kept ≡ pushed → left ≡ length mid.cursor
    → mid.flaws ≡ here.flaws → ObjectHere ts below stack start here → StepsToNext (has_items ts) 125 here.cursor (Ok true) mid.cursor → ReadsMember mid (Ok t) next → ObjectHere new below kept start next
object_more ts new below stack pushed kept left t start here mid next is on same left_is flaws so go found =
    record {
      own = so.own ++ left ∷ [];
      on = same ∙ on ∙ ap (λ z. z ++ left ∷ []) so.on ∙ append_assoc below so.own (left ∷ []);
      so_far = object_next ts new so.own (so.own ++ left ∷ []) left t start here mid next is refl left_is flaws so.so_far go found;
    }

-- the offsets of its own, and those that were there before
pub stack_parts : (below stack own : List ℕ) (base : ℕ) → stack ≡ below ++ own → base ≡ length below → (base ≤ length stack) × (drop base stack ≡ own) × (take base stack ≡ below)
stack_parts below stack own base on at = (omega (arith, at, ap length on, length-append below own), rw (on, at) (drop_front below own), rw (on, at) (take_front below own))

object_at : (x : Located) (start rest0 rest : List ℕ) → start ≡ 123 ∷ rest0 → Value x start rest → (all : Members) × (x ≡ object all) × Value (object all) start rest
object_at x start rest0 rest e v =
    let o = only_object x (starts_at x start rest0 rest 123 e v) in
    (o.0, o.1, subst (λ z. Value z start rest) o.1 v)

pub object_goes_fault : (ts : List Member) (lefts : List ℕ) (start here : Reader) (s rest0 : List ℕ) (y : Stop) → start.cursor ≡ 123 ∷ rest0 → ObjectSoFar ts lefts start here → StepsToNext (has_items ts) 125 here.cursor (Err y) s
    → Misses Value start y
object_goes_fault ts lefts start here s rest0 y e so go = λ x rest v ends.
    let l = object_at x start.cursor rest0 rest e v in
    let m = so.complete l.0 rest l.2 in
    none_comes (has_items ts) m.0 here.cursor s rest y go m.2

pub object_member_fault : (ts : List Member) (lefts : List ℕ) (start here mid : Reader) (rest0 : List ℕ) (y : Stop) → start.cursor ≡ 123 ∷ rest0 → ObjectSoFar ts lefts start here
    → StepsToNext (has_items ts) 125 here.cursor (Ok true) mid.cursor → Misses Pair mid y → Misses Value start y
object_member_fault ts lefts start here mid rest0 y e so go misses = λ x rest v ends.
    let l = object_at x start.cursor rest0 rest e v in
    let m = so.complete l.0 rest l.2 in
    let i = member_comes (has_items ts) m.0 here.cursor mid.cursor rest go m.2 in
    misses i.0 i.2 i.4 (Paired-Ends i.1 i.2 rest i.5)

members_plain : (ms : List Entry) → plain_members (before_members ms no_members) ≡ members_of (map plain_entry ms)
members_plain [] = refl
members_plain (m ∷ ms) = ap (Json.member m.name (plain m.value)) (members_plain ms)

names_seen : (ts : List Member) → map (λ t. (member_view t).0) ts ≡ map (λ e. e.0) (map member_view ts)
names_seen [] = refl
names_seen (t ∷ ts) = ap (λ z. (member_view t).0 ∷ z) (names_seen ts)

names_entered : (ms : List Entry) → map (λ e. e.0) (map plain_entry ms) ≡ map (λ m. m.name) ms
names_entered [] = refl
names_entered (m ∷ ms) = ap (λ z. m.name ∷ z) (names_entered ms)

-- where the repeated names among its own are noted last
pub object_done : (ts : List Member) (lefts : List ℕ) (start here new : Reader) (rest0 : List ℕ) → start.cursor ≡ 123 ∷ rest0
    → new.flaws.repeated ≡ earlier here.flaws.repeated (earliest (repeated_among [] (map (λ t. (member_view t).0) ts) lefts)) → new.flaws.out_of_range ≡ here.flaws.out_of_range
    → ObjectSoFar ts lefts start here → StepsToNext (has_items ts) 125 here.cursor (Ok false) new.cursor → ReadsValue start (Ok (Many ts)) new
object_done ts lefts start here new rest0 e repeated out so go =
    let is = before_members so.ms no_members in
    let names : map (λ t. (member_view t).0) ts ≡ map (λ m. m.name) so.ms = names_seen ts ∙ ap (map (λ e. e.0)) so.sees ∙ names_entered so.ms in
    let with_names : List (List ℕ) → Flaws = λ z. record { repeated = earlier here.flaws.repeated (earliest (repeated_among [] z lefts)); out_of_range = here.flaws.out_of_range } in
    let with_lefts : List ℕ → Flaws = λ z. record { repeated = earlier here.flaws.repeated (earliest (repeated_among [] (map (λ m. m.name) so.ms) z)); out_of_range = here.flaws.out_of_range } in
    let with_flaws : Flaws → Flaws = λ z. record { repeated = earlier z.repeated (earliest (repeated_among [] (map (λ m. m.name) so.ms) (map (λ m. m.left) so.ms))); out_of_range = z.out_of_range } in
    record {
      it = object is;
      here = so.sound no_members new.cursor (go.ends refl);
      sees = view-Object ts ∙ ap (λ z. Json.object (members_of z)) so.sees ∙ ap Json.object (sym (members_plain so.ms));
      notes = flaws_same _ _ _ _ repeated out ∙ ap with_names names ∙ ap with_lefts so.at ∙ ap with_flaws so.notes ∙ noted_entries-object start.flaws so.ms;
      shorter = omega (arith, Spaces-length here.cursor (125 ∷ new.cursor) (go.ends refl), so.shorter);
      only = λ x rest v ends.
          let l = object_at x start.cursor rest0 rest e v in
          let m = so.complete l.0 rest l.2 in
          let d = end_comes (has_items ts) m.0 here.cursor new.cursor rest go m.2 in
          (l.1 ∙ ap object (m.1 ∙ ap (before_members so.ms) d.0), d.1);
    }

-- ---- one member

-- the name was read from old to s1, and white space to s2
pub colon_at : (m : Entry) (name old s1 s2 rest : List ℕ) → ((text end : List ℕ) → Quoted text old end → (name ≡ text) × (s1 ≡ end)) → s2 ≡ behind is_space s1 → (p : Pair m old rest) → (name ≡ m.name) × (s2 ≡ 58 ∷ p.1)
colon_at m name old s1 s2 rest all e2 p =
    let q = all m.name p.0 p.3 in
    (q.0, e2 ∙ behind-Spaces s1 (58 ∷ p.1) (subst (λ z. Spaces z (58 ∷ p.1)) (sym q.1) p.4) refl)

-- and the colon to s3, and white space to s4
pub value_at : (m : Entry) (name old s1 s2 s3 s4 rest : List ℕ) → ((text end : List ℕ) → Quoted text old end → (name ≡ text) × (s1 ≡ end)) → s2 ≡ behind is_space s1 → s2 ≡ 58 ∷ s3 → s4 ≡ behind is_space s3
    → Pair m old rest → (name ≡ m.name) × Value m.value s4 rest
value_at m name old s1 s2 s3 s4 rest all e2 e3 e4 p =
    let q = colon_at m name old s1 s2 rest all e2 p in
    let d : s3 ≡ p.1 = cc (e3, q.1) in
    let here : s4 ≡ p.2 = e4 ∙ behind-Spaces s3 p.2 (subst (λ z. Spaces z p.2) (sym d) p.5) (Value-Stops m.value p.2 rest p.6) in
    (q.0, subst (λ z. Value m.value z rest) (sym here) p.6)

pub member_shorter : (old s1 s2 s3 s4 : List ℕ) → length s1 < length old → s2 ≡ behind is_space s1 → s2 ≡ 58 ∷ s3 → s4 ≡ behind is_space s3 → length s4 < length old
member_shorter old s1 s2 s3 s4 l e2 e3 e4 = let a = ap length e2 in let b = ap length e3 in let c = ap length e4 in omega (arith, l, a, b, c, behind-length s1, behind-length s3)

entry_same : (m : Entry) (left : ℕ) (name : List ℕ) (value : Located) → m.left ≡ left → name ≡ m.name → m.value ≡ value → m ≡ record { left = left; name = name; value = value }
entry_same m left name value a b c =
    ap (λ z. record { left = z; name = m.name; value = m.value }) a ∙ ap (λ z. record { left = left; name = z; value = m.value }) (sym b) ∙ ap (λ z. record { left = left; name = name; value = z }) c

-- the record of a member, seen
pub member_done : (name s1 s2 s3 : List ℕ) (t : Tree) (made : Member) (old mid new : Reader) → member_view made ≡ (name, view t) → Quoted name old.cursor s1
    → ((text end : List ℕ) → Quoted text old.cursor end → (name ≡ text) × (s1 ≡ end)) → length s1 < length old.cursor → s2 ≡ behind is_space s1 → s2 ≡ 58 ∷ s3 → mid.cursor ≡ behind is_space s3 → mid.flaws ≡ old.flaws
    → ReadsValue mid (Ok t) new → ReadsMember old (Ok made) new
member_done name s1 s2 s3 t made old mid new is quoted all l e2 e3 e4 kept found =
    let spaces : Spaces s1 (58 ∷ s3) = subst (λ z. Spaces s1 z) (sym e2 ∙ e3) (Spaces-behind s1) in
    let more : Spaces s3 mid.cursor = subst (λ z. Spaces s3 z) (sym e4) (Spaces-behind s3) in
    record {
      it = record { left = length old.cursor; name = name; value = found.it };
      here = (s1, s3, mid.cursor, quoted, spaces, more, found.here, refl);
      sees = is ∙ ap (λ z. (name, z)) found.sees;
      notes = found.notes ∙ ap (λ z. noted z found.it) kept;
      shorter = omega (arith, member_shorter old.cursor s1 s2 s3 mid.cursor l e2 e3 e4, found.shorter);
      only = λ m rest p ends.
          let v = value_at m name old.cursor s1 s2 s3 mid.cursor rest all e2 e3 e4 p in
          let r = found.only m.value rest v.1 ends in
          (entry_same m (length old.cursor) name found.it p.7 v.0 r.0, r.1);
    }
