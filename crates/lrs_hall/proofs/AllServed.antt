-- What workers leave that served their doors, once all passes are back.
use base.Stored.{Coded}
use Rattle.std.proofs.Common.{zero, suc, arith, ◌≡◌, ◌≤◌, ◌<◌, ◌+◌, ℕ, List, [], ◌∷◌, ◌++◌, length, refl, subst, sym, ap, ◌∙◌}
use Rattle.std.proofs.lemmas.Option.{slice_get_within}
use Rattle.std.specs.List.{AllByRecursion}
use Rattle.std.specs.Prelude.{All, map, slice_index_or}
use Rattle.lrs_disk.specs.Door.{DoorState}
use Rattle.lrs_machine.specs.Desk.{Desk, Tide, marks_of, tide_at, tide_of}
use Rattle.lrs_machine.proofs.Origins.{one_origin}
use Rattle.lrs_machine.specs.Line.{BeginsWith, Record}
use Rattle.lrs_turn.specs.Lists.{Each, NoneFalls, times, total}
use Rattle.lrs_turn.proofs.Steps.{none_falls_then}
use Rattle.lrs_turn.specs.Passes.{IsIdle, OwnsEach, Pass, Turns, opened}
use Rattle.lrs_hall.specs.Acts.{ActsIn, ActsOn, limit_in, tide_in}
use Rattle.lrs_hall.specs.Draws.{Draws, start_of}
use Rattle.lrs_hall.specs.Laws.{Makes, entries_at}
use Rattle.lrs_hall.specs.Serving.{AreOnLinks, AreWithin, IsNotBelow, all_receipts, worker_at}
use Rattle.lrs_hall.specs.Steps.{AreNumbered, AreAtDoors, Works, WorksEach, backwards, door_held, end_held, pass_held, talks_held}
use Rattle.lrs_hall.specs.Talks.{Talk}
use Rattle.lrs_hall.specs.Workers.{AreStints, HasSameOpening, IsStint, ServesDoors, Stint, end_of}
use Rattle.lrs_hall.specs.declared.serving.ServeEnd.{ServeEnd}
use Rattle.lrs_hall.specs.declared.workers.DoorWorker.{DoorWorker}
use Rattle.lrs_hall.proofs.AfterTalks.{all_go_on, all_on_line, all_read}
use Rattle.lrs_hall.proofs.Tides.{TidesIn, tides_in, within_more}
use Rattle.lrs_hall.proofs.Lines.{begins_more}
use Rattle.lrs_hall.proofs.Once.{entries_once, makes_at, makes_behind}
use Rattle.lrs_hall.proofs.AtDoors.{backwards_length, map_backwards, map_more, total_more}
use Rattle.lrs_hall.proofs.Talking.{over_all}
use Rattle.lrs_hall.proofs.UnderTurn.{tide_below}
use Rattle.lrs_hall.proofs.Whole.{are_whole}

-- ---- lists

module _ {A : Type 0} (P : A → Type 0) where
  each_of : (xs : List A) → All P xs → Each P xs
  each_of [] all = tt
  each_of (x ∷ xs) all = (all 0 x (omega arith), each_of xs (λ k d near. all (suc k) d (omega (arith, near))))

  each_left : (xs ys : List A) → Each P (xs ++ ys) → Each P xs
  each_left [] ys each = tt
  each_left (x ∷ xs) ys each = (each.0, each_left xs ys each.1)

  each_last : (xs : List A) (y : A) → Each P (xs ++ y ∷ []) → P y
  each_last [] y each = each.0
  each_last (x ∷ xs) y each = each_last xs y each.1

  all_and : (xs : List A) (y : A) → AllByRecursion P xs → P y → AllByRecursion P (xs ++ y ∷ [])
  all_and [] y all last = (last, tt)
  all_and (x ∷ xs) y all last = (all.0, all_and xs y all.1 last)

module _ {A : Type 0} (P : A → Type 0) where
  all_of : (xs : List A) → Each P xs → All P xs
  all_of [] each k d near = absurd (omega (arith, near))
  all_of (x ∷ xs) each zero d near = each.0
  all_of (x ∷ xs) each (suc k) d near = all_of xs each.1 k d (omega (arith, near))

  each_and : (xs : List A) (y : A) → Each P xs → P y → Each P (xs ++ y ∷ [])
  each_and [] y each last = (last, tt)
  each_and (x ∷ xs) y each last = (each.0, each_and xs y each.1 last)

-- what is true of each value that a list gives in the other order
each_back : {A B : Type 0} (P : B → Type 0) (f : A → B) (xs : List A) → Each P (backwards f xs) → Each (λ (a : A). P (f a)) xs
each_back P f [] each = tt
each_back P f (a ∷ xs) each = (each_last P (backwards f xs) (f a) each, each_back P f xs (each_left P (backwards f xs) (f a ∷ []) each))

all_back : {A B : Type 0} (P : B → Type 0) (f : A → B) (xs : List A) (bs : List B) → bs ≡ backwards f xs → All P bs → Each (λ (a : A). P (f a)) xs
all_back {A} {B} P f xs bs is all = each_back P f xs (subst (λ (l : List B). Each P l) is (each_of P bs all))

-- the first to the first, and so on
abbrev Pairs : {A : Type 0} → (A → A → Type 0) → List A → List A → Type 0
Pairs R [] [] = Unit {0}
Pairs R [] (b ∷ bs) = ⊥
Pairs R (a ∷ xs) [] = ⊥
Pairs R (a ∷ xs) (b ∷ bs) = R a b × Pairs R xs bs

pairs_of : {A : Type 0} (R : A → A → Type 0) (xs ys : List A) → length ys ≡ length xs → ((i : ℕ) (d : A) → i < length xs → R (slice_index_or xs i d) (slice_index_or ys i d)) → Pairs R xs ys
pairs_of R [] [] len each = tt
pairs_of R [] (y ∷ ys) len each = absurd (omega (arith, len))
pairs_of R (x ∷ xs) [] len each = absurd (omega (arith, len))
pairs_of R (x ∷ xs) (y ∷ ys) len each = (each 0 x (omega arith), pairs_of R xs ys (omega (arith, len)) (λ i d near. each (suc i) d (omega (arith, near))))

-- ---- one worker

abbrev second_in : List ℕ → ℕ
second_in [] = 0
second_in (a ∷ rest) = limit_in rest

abbrev third_in : List ℕ → ℕ
third_in [] = 0
third_in (a ∷ rest) = second_in rest

-- A worker that came back: what it did, how its pass began, and how the passes were closed.
record Back {D O : Type 0} (code : Coded D) (state : O → DoorState) (faults time : D → ℕ) (turns : Turns) (connections opening : ℕ) (old final : Desk D) (w v : DoorWorker O) : Type 0 where
  works : Works state turns connections w v
  fresh : w.pass ≡ opened turns old.line (marks_of code old) (tide_of faults time old)
  front : BeginsWith v.pass.front final.line
  marks : marks_of code final ≡ v.pass.marks
  tide : NoneFalls v.pass.tide (tide_of faults time final)
  opened_so : v.pass.opening ≡ opening

module _ {D O : Type 0} (code : Coded D) (state : O → DoorState) (faults time : D → ℕ) (turns : Turns) (connections opening : ℕ) (old final : Desk D) where
  abbrev IsBack : DoorWorker O → DoorWorker O → Type 0
  IsBack w v = Back code state faults time turns connections opening old final w v

  abbrev stint_of : DoorWorker O → DoorWorker O → Stint
  stint_of w v = record { before = state w.door; behind = state v.door; talks = v.talks; end = v.end; reach = record { records = length v.pass.front; own = v.pass.own; tide = tide_in v.pass.tide } }

  abbrev stints_of : List (DoorWorker O) → List (DoorWorker O) → List Stint
  stints_of [] [] = []
  stints_of [] (v ∷ vs) = []
  stints_of (w ∷ ws) [] = []
  stints_of (w ∷ ws) (v ∷ vs) = stints_of ws vs ++ stint_of w v ∷ []

  -- the disk's tide before and after
  abbrev from : Tide
  from = tide_at faults time old.disk

  abbrev to : Tide
  to = tide_at faults time final.disk

  known_of : (w v : DoorWorker O) → IsBack w v → IsNotBelow (tide_in v.pass.tide) to
  known_of w v back = tide_below v.pass.tide (faults final.disk) (time final.disk) back.tide

  -- its talks are over the one line
  over_line : (w v : DoorWorker O) (back : IsBack w v)
      → AreOnLinks (ActsIn old.limit final.line) v.talks back.works.served.links (worker_at w.draws (length old.line) [] from) (worker_at v.draws (length v.pass.front) v.pass.own (tide_in v.pass.tide))
  over_line w v back =
      let s = back.works.served in
      let end = worker_at v.draws (length v.pass.front) v.pass.own (tide_in v.pass.tide) in
      let on : AreOnLinks (ActsIn (limit_in w.pass.marks) final.line) v.talks s.links (worker_at w.draws (length w.pass.front) w.pass.own (tide_in w.pass.tide)) end =
      all_on_line (limit_in w.pass.marks) v.talks s.links _ _ s.on_links final.line back.front in
      subst (λ (p : Pass Record). AreOnLinks (ActsIn (limit_in p.marks) final.line) v.talks s.links (worker_at w.draws (length p.front) p.own (tide_in p.tide)) end) back.fresh on

  is_stint : (seed : List ℕ) (n : ℕ) (w v : DoorWorker O) → IsBack w v → w.draws ≡ start_of seed n → IsStint old.limit final.line (length old.line) from to connections (start_of seed n) (stint_of w v)
  is_stint seed n w v back draws =
      let s = back.works.served in
      let end = worker_at v.draws (length v.pass.front) v.pass.own (tide_in v.pass.tide) in
      record {
        links = s.links;
        last = v.draws;
        on_links = subst (λ (d : Draws). AreOnLinks (ActsIn old.limit final.line) v.talks s.links (worker_at d (length old.line) [] from) end) draws (over_line w v back);
        whole = are_whole (ActsOn (limit_in w.pass.marks)) v.talks s.links _ _ s.on_links;
        known = known_of w v back;
        through = s.through;
        readings = all_read (limit_in w.pass.marks) v.talks s.links _ _ s.on_links;
        why = s.why;
      }

  -- what its acts tell of the disk
  tides_told : (w v : DoorWorker O) → IsBack w v → AreWithin from to (all_receipts v.talks)
  tides_told w v back =
      let so = over_all (ActsIn old.limit final.line) (TidesIn old.limit final.line) (tides_in old.limit final.line) v.talks back.works.served.links _ _ (over_line w v back) in
      let known = known_of w v back in
      let count : faults old.disk ≤ faults old.disk = omega arith in
      let moment : time old.disk ≤ time old.disk = omega arith in
      within_more from (tide_in v.pass.tide) from to (all_receipts v.talks) (count, moment) known so.1

  -- its pass goes on from the desk's line
  goes_on : (w v : DoorWorker O) → IsBack w v → BeginsWith old.line final.line
  goes_on w v back =
      let s = back.works.served in
      let front : w.pass.front ≡ old.line = ap (λ (p : Pass Record). p.front) back.fresh in
      begins_more old.line v.pass.front final.line
      (subst (λ (l : List Record). BeginsWith l v.pass.front) front (all_go_on (limit_in w.pass.marks) v.talks s.links _ _ s.on_links)) back.front

  marks_stay : (w v : DoorWorker O) → IsBack w v → marks_of code final ≡ marks_of code old
  marks_stay w v back = back.marks ∙ back.works.pass.marks ∙ ap (λ (p : Pass Record). p.marks) back.fresh

  faults_later : (w v : DoorWorker O) → IsBack w v → faults old.disk ≤ faults final.disk
  faults_later w v back =
      (subst (λ (l : List ℕ). NoneFalls l (tide_of faults time final)) (ap (λ (p : Pass Record). p.tide) back.fresh)
      (none_falls_then w.pass.tide v.pass.tide (tide_of faults time final) back.works.pass.tide back.tide)).0

  opening_is : (w v : DoorWorker O) → IsBack w v → opening ≡ length old.line
  opening_is w v back = sym back.opened_so ∙ back.works.pass.opening ∙ ap (λ (p : Pass Record). p.opening) back.fresh

  -- ---- all workers

  stints_length : (ws vs : List (DoorWorker O)) → Pairs IsBack ws vs → length (stints_of ws vs) ≡ length ws
  stints_length [] [] pairs = refl
  stints_length [] (v ∷ vs) pairs = absurd pairs
  stints_length (w ∷ ws) [] pairs = absurd pairs
  stints_length (w ∷ ws) (v ∷ vs) pairs =
      let rest = stints_length ws vs pairs.1 in
      let last : length (stints_of ws vs ++ stint_of w v ∷ []) ≡ length (stints_of ws vs) + 1 = one_longer (stints_of ws vs) (stint_of w v) in
      let e : length (stints_of ws vs ++ stint_of w v ∷ []) ≡ suc (length ws) = omega (arith, rest, last) in
      e
    where
      one_longer : (ss : List Stint) (s : Stint) → length (ss ++ s ∷ []) ≡ length ss + 1
      one_longer [] s = omega arith
      one_longer (x ∷ ss) s = (let rest = one_longer ss s in omega (arith, rest))

  stints_more : (seed : List ℕ) (n : ℕ) (ss : List Stint) (s : Stint) → AreStints old.limit final.line (length old.line) from to connections seed n ss
      → IsStint old.limit final.line (length old.line) from to connections (start_of seed (n + length ss)) s → AreStints old.limit final.line (length old.line) from to connections seed n (ss ++ s ∷ [])
  stints_more seed n [] s all is =
      let e : n + 0 ≡ n = omega arith in
      (subst (λ (m : ℕ). IsStint old.limit final.line (length old.line) from to connections (start_of seed m) s) e is, tt)
  stints_more seed n (x ∷ ss) s all is =
      let e : n + suc (length ss) ≡ n + 1 + length ss = omega arith in
      (all.0, stints_more seed (n + 1) ss s all.1 (subst (λ (m : ℕ). IsStint old.limit final.line (length old.line) from to connections (start_of seed m) s) e is))

  are_stints : (seed : List ℕ) (ws vs : List (DoorWorker O)) → Pairs IsBack ws vs → AreNumbered seed 0 ws → AreStints old.limit final.line (length old.line) from to connections seed 1 (stints_of ws vs)
  are_stints seed [] [] pairs numbered = tt
  are_stints seed [] (v ∷ vs) pairs numbered = absurd pairs
  are_stints seed (w ∷ ws) [] pairs numbered = absurd pairs
  are_stints seed (w ∷ ws) (v ∷ vs) pairs numbered =
      let len = stints_length ws vs pairs.1 in
      let e : 0 + length ws + 1 ≡ 1 + length (stints_of ws vs) = omega (arith, len) in
      stints_more seed 1 (stints_of ws vs) (stint_of w v) (are_stints seed ws vs pairs.1 numbered.1)
      (subst (λ (m : ℕ). IsStint old.limit final.line (length old.line) from to connections (start_of seed m) (stint_of w v)) e (is_stint seed (0 + length ws + 1) w v pairs.0 numbered.0))

  map_first : {C : Type 0} (g : Stint → C) (f : DoorWorker O → C) → ((w v : DoorWorker O) → g (stint_of w v) ≡ f w) → (ws vs : List (DoorWorker O)) → Pairs IsBack ws vs → map g (stints_of ws vs) ≡ backwards f ws
  map_first g f same [] [] pairs = refl
  map_first g f same [] (v ∷ vs) pairs = absurd pairs
  map_first g f same (w ∷ ws) [] pairs = absurd pairs
  map_first {C} g f same (w ∷ ws) (v ∷ vs) pairs =
      map_more g (stints_of ws vs) (stint_of w v) ∙ ap (λ (l : List C). l ++ g (stint_of w v) ∷ []) (map_first g f same ws vs pairs.1) ∙ ap (λ (x : C). backwards f ws ++ x ∷ []) (same w v)

  map_second : {C : Type 0} (g : Stint → C) (f : DoorWorker O → C) → ((w v : DoorWorker O) → g (stint_of w v) ≡ f v) → (ws vs : List (DoorWorker O)) → Pairs IsBack ws vs → map g (stints_of ws vs) ≡ backwards f vs
  map_second g f same [] [] pairs = refl
  map_second g f same [] (v ∷ vs) pairs = absurd pairs
  map_second g f same (w ∷ ws) [] pairs = absurd pairs
  map_second {C} g f same (w ∷ ws) (v ∷ vs) pairs =
      map_more g (stints_of ws vs) (stint_of w v) ∙ ap (λ (l : List C). l ++ g (stint_of w v) ∷ []) (map_second g f same ws vs pairs.1) ∙ ap (λ (x : C). backwards f vs ++ x ∷ []) (same w v)

  owned_by : (n : ℕ) (ws vs : List (DoorWorker O)) → Pairs IsBack ws vs → total (λ (s : Stint). times n s.reach.own) (stints_of ws vs) ≡ total (λ (p : Pass Record). times n p.own) (backwards pass_held vs)
  owned_by n [] [] pairs = refl
  owned_by n [] (v ∷ vs) pairs = absurd pairs
  owned_by n (w ∷ ws) [] pairs = absurd pairs
  owned_by n (w ∷ ws) (v ∷ vs) pairs =
      let rest = owned_by n ws vs pairs.1 in
      let a : total (λ (s : Stint). times n s.reach.own) (stints_of ws vs ++ stint_of w v ∷ []) ≡ total (λ (s : Stint). times n s.reach.own) (stints_of ws vs) + times n v.pass.own =
      total_more (λ (s : Stint). times n s.reach.own) (stints_of ws vs) (stint_of w v) in
      let b : total (λ (p : Pass Record). times n p.own) (backwards pass_held vs ++ v.pass ∷ []) ≡ total (λ (p : Pass Record). times n p.own) (backwards pass_held vs) + times n v.pass.own =
      total_more (λ (p : Pass Record). times n p.own) (backwards pass_held vs) v.pass in
      a ∙ ap (λ (k : ℕ). k + times n v.pass.own) rest ∙ sym b

  all_told : (ws vs : List (DoorWorker O)) → Pairs IsBack ws vs
      → AllByRecursion (λ (of_one : List Talk). AreWithin from to (all_receipts of_one)) (backwards talks_held vs)
  all_told [] [] pairs = tt
  all_told [] (v ∷ vs) pairs = absurd pairs
  all_told (w ∷ ws) [] pairs = absurd pairs
  all_told (w ∷ ws) (v ∷ vs) pairs =
      all_and (λ (of_one : List Talk). AreWithin from to (all_receipts of_one)) (backwards talks_held vs) v.talks (all_told ws vs pairs.1) (tides_told w v pairs.0)

-- each entry is that of as many responses as its record is the own of workers
entries_total : (limit : ℕ) (line : List Record) (opened : ℕ) (from to : Tide) (connections : ℕ) (seed : List ℕ) (index k : ℕ) → Makes line index k → (n : ℕ) (ss : List Stint) → AreStints limit line opened from to connections seed n ss
    → total (λ (of_one : List Talk). entries_at index (all_receipts of_one)) (map (λ (s : Stint). s.talks) ss) ≡ total (λ (s : Stint). times k s.reach.own) ss
entries_total limit line opened from to connections seed index k makes n [] all = refl
entries_total limit line opened from to connections seed index k makes n (s ∷ ss) all =
    let here : entries_at index (all_receipts s.talks) + 0 ≡ times k s.reach.own = entries_once limit line index k s.talks all.0.links _ _ makes all.0.on_links in
    let rest = entries_total limit line opened from to connections seed index k makes (n + 1) ss all.1 in
    omega (arith, here, rest)

-- ---- the passes are back

module _ {D O : Type 0} (code : Coded D) (state : O → DoorState) (faults time : D → ℕ) (turns : Turns) (connections : ℕ) (seed : List ℕ) (old final : Desk D) (ws vs : List (DoorWorker O))
    (passes given_back : List (Pass Record)) (doors doors_back : List O) (talks : List (List Talk)) (end : ServeEnd)
    (stand : AreAtDoors passes doors seed ws) (same_length : length vs ≡ length ws) (each : WorksEach state turns connections ws vs)
    (fresh : All (λ (p : Pass Record). p ≡ opened turns old.line (marks_of code old) (tide_of faults time old)) passes)
    (passes_are : given_back ≡ backwards pass_held vs) (doors_are : doors_back ≡ backwards door_held vs) (talks_are : talks ≡ backwards talks_held vs) (end_is : end ≡ end_of (backwards end_held vs))
    (fronts : All (λ (p : Pass Record). BeginsWith p.front final.line) given_back) (marks : All (λ (p : Pass Record). marks_of code final ≡ p.marks) given_back)
    (tides : All (λ (p : Pass Record). NoneFalls p.tide (tide_of faults time final)) given_back) (own : (opening : ℕ) × OwnsEach given_back opening (length final.line)) where
  back_of : Pairs (Works state turns connections) ws vs → Each (λ (w : DoorWorker O). w.pass ≡ opened turns old.line (marks_of code old) (tide_of faults time old)) ws → Each (λ (v : DoorWorker O). BeginsWith v.pass.front final.line) vs
      → Each (λ (v : DoorWorker O). marks_of code final ≡ v.pass.marks) vs → Each (λ (v : DoorWorker O). NoneFalls v.pass.tide (tide_of faults time final)) vs → Each (λ (v : DoorWorker O). v.pass.opening ≡ own.0) vs
      → Pairs (IsBack code state faults time turns connections own.0 old final) ws vs
  back_of = zipped ws vs
    where
      zipped : (xs bs : List (DoorWorker O)) → Pairs (Works state turns connections) xs bs → Each (λ (w : DoorWorker O). w.pass ≡ opened turns old.line (marks_of code old) (tide_of faults time old)) xs
          → Each (λ (v : DoorWorker O). BeginsWith v.pass.front final.line) bs → Each (λ (v : DoorWorker O). marks_of code final ≡ v.pass.marks) bs → Each (λ (v : DoorWorker O). NoneFalls v.pass.tide (tide_of faults time final)) bs
          → Each (λ (v : DoorWorker O). v.pass.opening ≡ own.0) bs → Pairs (IsBack code state faults time turns connections own.0 old final) xs bs
      zipped [] [] pairs a b c d e = tt
      zipped [] (v ∷ bs) pairs a b c d e = absurd pairs
      zipped (w ∷ xs) [] pairs a b c d e = absurd pairs
      zipped (w ∷ xs) (v ∷ bs) pairs a b c d e =
          (record { works = pairs.0; fresh = a.0; front = b.0; marks = c.0; tide = d.0; opened_so = e.0 }, zipped xs bs pairs.1 a.1 b.1 c.1 d.1 e.1)

  backs : Pairs (IsBack code state faults time turns connections own.0 old final) ws vs
  backs = back_of (pairs_of (Works state turns connections) ws vs same_length each)
      (all_back (λ (p : Pass Record). p ≡ opened turns old.line (marks_of code old) (tide_of faults time old)) pass_held ws passes (sym stand.with_passes) fresh)
      (all_back (λ (p : Pass Record). BeginsWith p.front final.line) pass_held vs given_back passes_are fronts)
      (all_back (λ (p : Pass Record). marks_of code final ≡ p.marks) pass_held vs given_back passes_are marks)
      (all_back (λ (p : Pass Record). NoneFalls p.tide (tide_of faults time final)) pass_held vs given_back passes_are tides)
      (all_back (λ (p : Pass Record). p.opening ≡ own.0) pass_held vs given_back passes_are own.1.opened)

  -- there is a worker
  one_of_them : (P : Type 0) → 0 < length doors → ((w v : DoorWorker O) → IsBack code state faults time turns connections own.0 old final w v → P) → P
  one_of_them P some of = first ws vs backs stand.at_doors
    where
      first : (xs bs : List (DoorWorker O)) → Pairs (IsBack code state faults time turns connections own.0 old final) xs bs → backwards door_held xs ≡ doors → P
      first [] bs pairs at = absurd (let len : length doors ≡ 0 = ap length (sym at) in omega (arith, len, some))
      first (w ∷ xs) [] pairs at = absurd pairs
      first (w ∷ xs) (v ∷ bs) pairs at = of w v pairs.0

  pub serves_doors : 0 < length doors → ServesDoors old.limit old.line final.line (tide_at faults time old.disk) (tide_at faults time final.disk) connections seed (map state doors) (map state doors_back) talks end
  serves_doors some =
      let begins : BeginsWith old.line final.line = one_of_them (BeginsWith old.line final.line) some (goes_on code state faults time turns connections own.0 old final) in
      let opening : own.0 ≡ length old.line = one_of_them (own.0 ≡ length old.line) some (opening_is code state faults time turns connections own.0 old final) in
      let stints = stints_of code state faults time turns connections own.0 old final ws vs in
      let are = are_stints code state faults time turns connections own.0 old final seed ws vs backs stand.numbered in
      let all : map (λ (s : Stint). s.talks) stints ≡ talks = map_second code state faults time turns connections own.0 old final (λ (s : Stint). s.talks) talks_held (λ w v. refl) ws vs backs ∙ sym talks_are in
      let owned : (n : ℕ) → length old.line ≤ n → n < length final.line → total (λ (s : Stint). times n s.reach.own) stints ≡ 1 = (λ n from to.
      owned_by code state faults time turns connections own.0 old final n ws vs backs ∙ ap (λ (ps : List (Pass Record)). total (λ (p : Pass Record). times n p.own) ps) (sym passes_are)
      ∙ own.1.once n (omega (arith, opening, from)) to) in
      record {
        begins = begins;
        stints = stints;
        each = are;
        doors_before = map_first code state faults time turns connections own.0 old final (λ (s : Stint). s.before) (λ (w : DoorWorker O). state w.door) (λ w v. refl) ws vs backs
            ∙ sym (map_backwards door_held state ws) ∙ ap (map state) stand.at_doors;
        doors_behind = map_second code state faults time turns connections own.0 old final (λ (s : Stint). s.behind) (λ (v : DoorWorker O). state v.door) (λ w v. refl) ws vs backs
            ∙ sym (map_backwards door_held state vs) ∙ ap (map state) (sym doors_are);
        all_talks = all;
        ended = end_is ∙ ap end_of (sym (map_second code state faults time turns connections own.0 old final (λ (s : Stint). s.end) end_held (λ w v. refl) ws vs backs));
        owned = owned;
        once = λ index high low.
            let m = makes_at final.line index low in
            let from = makes_behind final.line old.line begins.0 index m.0 begins.1 high m.1 in
            let to = slice_get_within final.line m.0 m.1.made m.1.stands in
            subst (λ (ts : List (List Talk)). total (λ (of_one : List Talk). entries_at index (all_receipts of_one)) ts ≡ 1) all
            (entries_total old.limit final.line (length old.line) (tide_at faults time old.disk) (tide_at faults time final.disk) connections seed index m.0 m.1 1 stints are ∙ owned m.0 from to);
      }

  marks_are : 0 < length doors → marks_of code final ≡ marks_of code old
  marks_are some = one_of_them (marks_of code final ≡ marks_of code old) some (marks_stay code state faults time turns connections own.0 old final)

  pub opening_stays : 0 < length doors → HasSameOpening old final
  opening_stays some =
      let same = marks_are some in
      record { limit = ap limit_in same; opened_at = ap second_in same; opened = ap third_in same; origin = one_origin code old final same }

  pub later : 0 < length doors → faults old.disk ≤ faults final.disk
  later some = one_of_them (faults old.disk ≤ faults final.disk) some (faults_later code state faults time turns connections own.0 old final)

  pub within : AllByRecursion (λ (of_one : List Talk). AreWithin (tide_at faults time old.disk) (tide_at faults time final.disk) (all_receipts of_one)) talks
  within =
      subst (λ (ts : List (List Talk)). AllByRecursion (λ (of_one : List Talk). AreWithin (tide_at faults time old.disk) (tide_at faults time final.disk) (all_receipts of_one)) ts) (sym talks_are)
      (all_told code state faults time turns connections own.0 old final ws vs backs)

-- ---- before the workers start, and after they have ended

module _ {O : Type 0} (passes : List (Pass Record)) (doors : List O) (seed : List ℕ) (ws : List (DoorWorker O)) (stand : AreAtDoors passes doors seed ws) where
  -- there are as many as doors
  pub as_many : length ws ≡ length doors
  as_many = sym (backwards_length door_held ws) ∙ ap length stand.at_doors

  pub idle_at_doors : (turns : Turns) (line : List Record) (marks tide : List ℕ) → All (λ (p : Pass Record). p ≡ opened turns line marks tide) passes → All (λ (w : DoorWorker O). IsIdle turns w.pass) ws
  idle_at_doors turns line marks tide fresh =
      all_of (λ (w : DoorWorker O). IsIdle turns w.pass) ws
      (idle ws (all_back (λ (p : Pass Record). p ≡ opened turns line marks tide) pass_held ws passes (sym stand.with_passes) fresh))
    where
      idle : (xs : List (DoorWorker O)) → Each (λ (w : DoorWorker O). w.pass ≡ opened turns line marks tide) xs → Each (λ (w : DoorWorker O). IsIdle turns w.pass) xs
      idle [] each = tt
      idle (w ∷ xs) each = ((ap (λ (p : Pass Record). p.turns) each.0, ap (λ (p : Pass Record). p.holds) each.0), idle xs each.1)

  pub out_at_doors : (Q : O → Type 0) → All Q doors → All (λ (w : DoorWorker O). Q w.door) ws
  out_at_doors Q all = all_of (λ (w : DoorWorker O). Q w.door) ws (all_back Q door_held ws doors (sym stand.at_doors) all)

module _ {O : Type 0} (state : O → DoorState) (turns : Turns) (connections : ℕ) where
  idle_back : (ws vs : List (DoorWorker O)) → Pairs (Works state turns connections) ws vs → Each (IsIdle turns) (backwards pass_held vs)
  idle_back [] [] pairs = tt
  idle_back [] (v ∷ vs) pairs = absurd pairs
  idle_back (w ∷ ws) [] pairs = absurd pairs
  idle_back (w ∷ ws) (v ∷ vs) pairs = each_and (IsIdle turns) (backwards pass_held vs) v.pass (idle_back ws vs pairs.1) pairs.0.pass.idle

  pub all_idle : (ws vs : List (DoorWorker O)) (passes : List (Pass Record)) → length vs ≡ length ws → WorksEach state turns connections ws vs → passes ≡ backwards pass_held vs → All (IsIdle turns) passes
  all_idle ws vs passes same_length each is =
      subst (λ (ps : List (Pass Record)). All (IsIdle turns) ps) (sym is)
      (all_of (IsIdle turns) (backwards pass_held vs) (idle_back ws vs (pairs_of (Works state turns connections) ws vs same_length each)))
