-- What a replay reads.
use Rattle.std.proofs.Common.{◌≡◌, ◌≢◌, ◌⊎◌, ⊎_elim, Bool, ℕ, ◌+◌, ◌≤◌, ◌<◌, ◌^◌, min, List, [], ◌∷◌, ◌++◌, length, take, drop, get_or, refl, sym, ◌∙◌, ap, arith, subst, Option, Some, None, option_map, true, false, IfSome, length-append, length-drop, take-append-drop}
use Rattle.std.proofs.lemmas.List.{take_min, take-take}
use Rattle.std.proofs.lemmas.Nat.{from_be_bytes-to_be_bytes_4, from_be_bytes-to_be_bytes_8}
use Rattle.std.specs.Int.{w32, w64, to_be_bytes, from_be_bytes}
use Rattle.lrs_journal.specs.declared.sizes.Format.{Format}
use Rattle.lrs_journal.specs.declared.sizes.Format.TheVariants as format
use Rattle.lrs_journal.specs.Store.{head_of, header_in, body_in, store_in, store, Stands, StandsIn, HasHeaderIn, IsDamagedIn, IsEnd, IsPayload, payloads_in}
use Rattle.lrs_journal.specs.Replay.{HasReadTo, IsWholeFrame, IsTorn}
use Rattle.lrs_journal.specs.Steps.{GivesBytes, IsEndOffset, IsSettled, IsSound, IsReplay, IsClosed, IsCutBack}
use Rattle.lrs_journal.specs.Journal.{settled, frames_of, TellsAlike}
use Rattle.lrs_journal.proofs.Told.{told_on, told_back}
use Rattle.lrs_journal.proofs.Doubt.{frame_read, head_some, length-body-in, sizes-push, store-push}
use Rattle.lrs_journal.proofs.Cutting.{closed_rests, cut_back_stands}
use Rattle.lrs_journal.proofs.Kept.{seen, settled_read}
use Rattle.lrs_journal.specs.declared.sizes.TheConstants.{LEAST_BYTES, MOST_BYTES, HEADER}

pub at_some : (P : List ℕ → Type 0) (o : Option (List ℕ)) (x : List ℕ) → o ≡ Some x → IfSome o P → P x
at_some P o x told holds = subst (λ (o : Option (List ℕ)). IfSome o P) told holds

pub same_told : (o : Option (List ℕ)) (b c : List ℕ) → o ≡ Some b → o ≡ Some c → b ≡ c
same_told o b c one two = cc (one, two)

-- ---- the header

pub head_is : (k n : ℕ) (into b : List ℕ) → n ≡ min k (length b) → take n into ≡ take n b → take (min n k) into ≡ take k b
head_is k n into b is same = ap (λ (m : ℕ). take m into) (omega (arith, is)) ∙ same ∙ ap (λ (m : ℕ). take m b) is ∙ take_min k b

pub header_front : (f : Format) (bytes : List ℕ) (limit : ℕ) → HasHeaderIn f bytes limit → take HEADER bytes ≡ header_in f limit
header_front f bytes limit h = ap (λ (l : List ℕ). take HEADER l) h.split

pub has_header : (f : Format) (bytes : List ℕ) (limit : ℕ) → take HEADER bytes ≡ header_in f limit → LEAST_BYTES ≤ limit → limit ≤ MOST_BYTES → HasHeaderIn f bytes limit
has_header f bytes limit front least most = record {
  least = least;
  most = most;
  rest = drop HEADER bytes;
  split = sym (take-append-drop HEADER bytes) ∙ ap (λ (l : List ℕ). l ++ drop HEADER bytes) front;
}

pub read_none : (f : Format) (bytes : List ℕ) (limit : ℕ) → HasHeaderIn f bytes limit → HasReadTo f bytes limit HEADER 0 []
read_none f bytes limit h = record {
  least = h.least;
  most = h.most;
  sizes = tt;
  begins = sym (take-append-drop HEADER bytes) ∙ ap (λ (l : List ℕ). l ++ drop HEADER bytes) (header_front f bytes limit h);
  behind = refl;
  counts = refl;
}

-- ---- a frame

pub placed_of : (bytes : List ℕ) (limit offset number : ℕ) (ps : List (List ℕ)) → HasReadTo format.Two bytes limit offset number ps → IsEndOffset limit offset ps
placed_of bytes limit offset number ps h = record { least = h.least; most = h.most; sizes = h.sizes; behind = h.behind }

-- a whole frame more was read
pub read_whole : (f : Format) (bytes : List ℕ) (limit offset number : ℕ) (ps : List (List ℕ)) (into : List ℕ) (len : ℕ) → HasReadTo f bytes limit offset number ps → len < 2 ^ 32
    → IsWholeFrame f number (drop offset bytes) len → length into ≡ len → into ≡ take len (drop (offset + head_of f) bytes)
    → HasReadTo f bytes limit (offset + (head_of f + len)) (number + 1) (ps ++ into ∷ [])
read_whole f bytes limit offset number ps into len h small whole long is = record {
  least = h.least;
  most = h.most;
  sizes = sizes-push ps into h.sizes (omega (arith, long, small));
  begins = frame_read f limit offset ps bytes into len h.begins (subst (λ (k : ℕ). IsWholeFrame f k (drop offset bytes) len) h.counts whole) long is;
  behind = omega (arith, h.behind, long, ap length (store-push f limit ps into), length-append (store_in f limit ps) (1 ∷ body_in f (length ps) into), length-body-in f (length ps) into);
  counts = omega (arith, h.counts, length-append ps (into ∷ []));
}

-- ---- what stands ahead

-- the bytes of a frame before its payload, and the same without the number
abbrev pub head_bytes : ℕ → ℕ → List ℕ
head_bytes size number = 1 ∷ to_be_bytes w32 size ++ to_be_bytes w64 number

head_few : (f : Format) → head_of f ≤ 13
head_few format.One = omega arith
head_few format.Two = omega arith

head_many : (f : Format) → 5 ≤ head_of f
head_many format.One = omega arith
head_many format.Two = omega arith

thirteen : (l : List ℕ) → length l ≡ 13 → l ≡ get_or l 0 0 ∷ get_or l 1 0 ∷ get_or l 2 0 ∷ get_or l 3 0 ∷ get_or l 4 0 ∷ get_or l 5 0 ∷ get_or l 6 0 ∷ get_or l 7 0 ∷ get_or l 8 0 ∷ get_or l 9 0 ∷ get_or l 10 0 ∷ get_or l 11 0 ∷ get_or l 12 0 ∷ []
thirteen [] long = absurd (omega (arith, long))
thirteen (a ∷ []) long = absurd (omega (arith, long))
thirteen (a ∷ b ∷ []) long = absurd (omega (arith, long))
thirteen (a ∷ b ∷ d ∷ []) long = absurd (omega (arith, long))
thirteen (a ∷ b ∷ d ∷ e ∷ []) long = absurd (omega (arith, long))
thirteen (a ∷ b ∷ d ∷ e ∷ g ∷ []) long = absurd (omega (arith, long))
thirteen (a ∷ b ∷ d ∷ e ∷ g ∷ h ∷ []) long = absurd (omega (arith, long))
thirteen (a ∷ b ∷ d ∷ e ∷ g ∷ h ∷ i ∷ []) long = absurd (omega (arith, long))
thirteen (a ∷ b ∷ d ∷ e ∷ g ∷ h ∷ i ∷ j ∷ []) long = absurd (omega (arith, long))
thirteen (a ∷ b ∷ d ∷ e ∷ g ∷ h ∷ i ∷ j ∷ k ∷ []) long = absurd (omega (arith, long))
thirteen (a ∷ b ∷ d ∷ e ∷ g ∷ h ∷ i ∷ j ∷ k ∷ l ∷ []) long = absurd (omega (arith, long))
thirteen (a ∷ b ∷ d ∷ e ∷ g ∷ h ∷ i ∷ j ∷ k ∷ l ∷ m ∷ []) long = absurd (omega (arith, long))
thirteen (a ∷ b ∷ d ∷ e ∷ g ∷ h ∷ i ∷ j ∷ k ∷ l ∷ m ∷ n ∷ []) long = absurd (omega (arith, long))
thirteen (a ∷ b ∷ d ∷ e ∷ g ∷ h ∷ i ∷ j ∷ k ∷ l ∷ m ∷ n ∷ o ∷ []) long = refl
thirteen (a ∷ b ∷ d ∷ e ∷ g ∷ h ∷ i ∷ j ∷ k ∷ l ∷ m ∷ n ∷ o ∷ p ∷ rest) long = absurd (omega (arith, long))

-- what thirteen bytes spell
pub head_bytes_are : (l : List ℕ) (size number : ℕ) → length l ≡ 13 → to_be_bytes w32 size ≡ get_or l 1 0 ∷ get_or l 2 0 ∷ get_or l 3 0 ∷ get_or l 4 0 ∷ []
    → to_be_bytes w64 number ≡ get_or l 5 0 ∷ get_or l 6 0 ∷ get_or l 7 0 ∷ get_or l 8 0 ∷ get_or l 9 0 ∷ get_or l 10 0 ∷ get_or l 11 0 ∷ get_or l 12 0 ∷ []
    → l ≡ get_or l 0 0 ∷ to_be_bytes w32 size ++ to_be_bytes w64 number
head_bytes_are l size number long is_size is_number =
    thirteen l long ∙ ap (λ (x : List ℕ). get_or l 0 0 ∷ get_or l 1 0 ∷ get_or l 2 0 ∷ get_or l 3 0 ∷ get_or l 4 0 ∷ x) (sym is_number) ∙ ap (λ (x : List ℕ). get_or l 0 0 ∷ x ++ to_be_bytes w64 number) (sym is_size)

-- of what was read, so many bytes
front_of : (m n : ℕ) (tail head : List ℕ) → m ≤ n → take n head ≡ take n tail → take m tail ≡ take m head
front_of m n tail head le same = sym (take-take m n tail le) ∙ ap (λ (l : List ℕ). take m l) (sym same) ∙ take-take m n head le

-- no open gate
pub shut_ahead : (tail word : List ℕ) (gate n : ℕ) → n ≡ min 13 (length tail) → take n (gate ∷ word) ≡ take n tail → (n < 2) ⊎ (gate ≢ 1) → IsEnd tail
shut_ahead [] word gate n is same shut = tt
shut_ahead (a ∷ []) word gate n is same shut = tt
shut_ahead (a ∷ b ∷ rest) word gate n is same shut = λ one. ⊎_elim (λ few. omega (arith, is, few)) (λ other. other (first ∙ one)) shut
  where
    some : 1 ≤ n
    some = omega (arith, is)

    first : gate ≡ a
    first = ap (λ (l : List ℕ). get_or l 0 0) (sym (take-take 1 n (gate ∷ word) some) ∙ ap (λ (l : List ℕ). take 1 l) same ∙ take-take 1 n (a ∷ b ∷ rest) some)

-- the gate, the length and the number of a whole frame
pub whole_ahead : (f : Format) (k : ℕ) (tail : List ℕ) (n size number : ℕ) → n ≡ min 13 (length tail) → take n (head_bytes size number) ≡ take n tail → head_of f + size ≤ length tail
    → (f ≡ format.Two → number ≡ k) → IsWholeFrame f k tail size
whole_ahead format.One k tail n size number is same long counted = (
  drop 5 tail,
  sym (take-append-drop 5 tail) ∙ ap (λ (l : List ℕ). l ++ drop 5 tail) (front_of 5 n tail (head_bytes size number) (omega (arith, is, long)) same),
  omega (arith, long, length-drop 5 tail),
)
whole_ahead format.Two k tail n size number is same long counted = (
  drop 13 tail,
  sym (take-append-drop 13 tail) ∙ ap (λ (l : List ℕ). l ++ drop 13 tail) (front_of 13 n tail (head_bytes size number) (omega (arith, is, long)) same ∙ ap (λ (m : ℕ). head_bytes size m) (counted refl)),
  omega (arith, long, length-drop 13 tail),
)

-- a frame that goes past the end, or has another number
pub torn_ahead : (f : Format) (k : ℕ) (tail : List ℕ) (n size number : ℕ) → n ≡ min 13 (length tail) → take n (head_bytes size number) ≡ take n tail → 2 ≤ n → size < 2 ^ 32 → k < 2 ^ 64 → number < 2 ^ 64
    → (length tail < head_of f + size) ⊎ ((f ≡ format.Two) × (number ≢ k)) → IsTorn f k tail
torn_ahead f k tail n size number is same some small few fits bad = (
  drop 1 tail,
  whole,
  omega (arith, is, some, length-drop 1 tail),
  λ payload behind sized e. ⊎_elim (λ lt. too_long payload behind sized e lt) (λ other. renumbered f payload behind other.0 other.1 e) bad,
)
  where
    whole : tail ≡ 1 ∷ drop 1 tail
    whole = sym (take-append-drop 1 tail) ∙ ap (λ (l : List ℕ). l ++ drop 1 tail) (front_of 1 n tail (head_bytes size number) (omega (arith, some)) same)

    long : (f : Format) (payload behind : List ℕ) → drop 1 tail ≡ body_in f k payload ++ behind → head_of f + length payload ≤ length tail
    long f payload behind e = omega (arith, ap length whole, ap length e, length-append (body_in f k payload) behind, length-body-in f k payload)

    too_long : (payload behind : List ℕ) → IsPayload payload → drop 1 tail ≡ body_in f k payload ++ behind → length tail < head_of f + size → ⊥
    too_long payload behind sized e lt =
        let far = long f payload behind e in
        let read : take 5 tail ≡ 1 ∷ to_be_bytes w32 size = front_of 5 n tail (head_bytes size number) (omega (arith, is, far, head_many f)) same in
        let words : to_be_bytes w32 (length payload) ≡ to_be_bytes w32 size = ap (λ (l : List ℕ). take 4 (drop 1 (take 5 l))) (sym (whole ∙ ap (λ (l : List ℕ). 1 ∷ l) e)) ∙ ap (λ (l : List ℕ). take 4 (drop 1 l)) read in
        let same_size : length payload ≡ size = sym (from_be_bytes-to_be_bytes_4 (length payload) sized) ∙ ap (λ (l : List ℕ). from_be_bytes w32 l) words ∙ from_be_bytes-to_be_bytes_4 size small in
        omega (arith, far, same_size, lt)

    renumbered : (f : Format) (payload behind : List ℕ) → f ≡ format.Two → number ≢ k → drop 1 tail ≡ body_in f k payload ++ behind → ⊥
    renumbered format.One payload behind two other e = cc two
    renumbered format.Two payload behind two other e =
        let far = long format.Two payload behind e in
        let read : take 13 tail ≡ head_bytes size number = front_of 13 n tail (head_bytes size number) (omega (arith, is, far)) same in
        let words : to_be_bytes w64 k ≡ to_be_bytes w64 number = ap (λ (l : List ℕ). take 8 (drop 5 (take 13 l))) (sym (whole ∙ ap (λ (l : List ℕ). 1 ∷ l) e)) ∙ ap (λ (l : List ℕ). take 8 (drop 5 l)) read in
        other (sym (from_be_bytes-to_be_bytes_8 number fits) ∙ ap (λ (l : List ℕ). from_be_bytes w64 l) (sym words) ∙ from_be_bytes-to_be_bytes_8 k few)

-- fewer bytes than a frame's head
pub short_ahead : (f : Format) (tail : List ℕ) (n : ℕ) → n ≡ min 13 (length tail) → n < head_of f → length tail < head_of f
short_ahead f tail n is lt = omega (arith, is, lt, head_few f)

-- ---- after what was read

-- no open gate after those that were read
pub ended_stands : (f : Format) (bytes : List ℕ) (limit offset number : ℕ) (ps : List (List ℕ)) → HasReadTo f bytes limit offset number ps → IsEnd (drop offset bytes) → StandsIn f bytes limit ps
ended_stands f bytes limit offset number ps h ends = record {
  least = h.least;
  most = h.most;
  sizes = h.sizes;
  rest = drop offset bytes;
  split = h.begins;
  ends = ends;
}

-- a frame that isn't whole after those that were read
pub damaged_behind : (f : Format) (bytes : List ℕ) (limit offset number : ℕ) (ps : List (List ℕ)) → HasReadTo f bytes limit offset number ps → IsTorn f number (drop offset bytes) → IsDamagedIn f bytes limit ps
damaged_behind f bytes limit offset number ps h torn = record {
  sizes = h.sizes;
  rest = torn.0;
  split = h.begins ∙ ap (λ (l : List ℕ). store_in f limit ps ++ l) torn.1;
  more = torn.2;
  torn = subst (λ (k : ℕ). (payload behind : List ℕ) → IsPayload payload → torn.0 ≢ body_in f k payload ++ behind) h.counts torn.3;
}

-- ---- the fields of a replay

-- calls that leave what a read gives, and no new image
pub replay_kept : (f : Format) (old new : Option (List ℕ)) (before after : List ℕ → Type 0) (limit size offset number : ℕ) (ended : Bool) → IsReplay f old before limit size offset number ended → new ≡ old
    → ((c : List ℕ) → after c → before c) → IsReplay f new after limit size offset number ended
replay_kept f old new before after limit size offset number ended r same within = record {
  least = r.least;
  most = r.most;
  few = r.few;
  synced = λ c left. same ∙ r.synced c (within c left);
  size_is = λ b told_b. r.size_is b (sym same ∙ told_b);
  tied = λ b told_b. r.tied b (sym same ∙ told_b);
  ends = λ b told_b. r.ends b (sym same ∙ told_b);
}

-- one more frame was read
pub replay_more : (f : Format) (told : Option (List ℕ)) (image : List ℕ → Type 0) (limit size offset number : ℕ) (ended : Bool) (into : List ℕ) (len : ℕ)
    → IsReplay f told image limit size offset number ended → len < 2 ^ 32 → length into ≡ len → ((b : List ℕ) → told ≡ Some b → IsWholeFrame f number (drop offset b) len)
    → ((b : List ℕ) → told ≡ Some b → into ≡ take len (drop (offset + head_of f) b)) → IsReplay f told image limit size (offset + (head_of f + len)) (number + 1) false
replay_more f told image limit size offset number ended into len r small long whole is = record {
  least = r.least;
  most = r.most;
  few = omega (arith, r.few, head_some f);
  synced = r.synced;
  size_is = r.size_is;
  tied = λ b told_b. let tied = r.tied b told_b in (tied.0 ++ into ∷ [], read_whole f b limit offset number tied.0 into len tied.1 small (whole b told_b) long (is b told_b));
  ends = λ b told_b no. cc no;
}

-- ---- the end

module _ {D : Type 0} (told : D → Option (List ℕ)) (image : D → List ℕ → Type 0) (reads : (disk : D) (b : List ℕ) → told disk ≡ Some b → image disk b) (d0 d1 : D) (limit offset number : ℕ) where
  pub closed_settled : (x : List ℕ) (payloads : List (List ℕ)) → told d0 ≡ Some x → HasReadTo format.Two x limit offset number payloads → ((c : List ℕ) → image d1 c → IsClosed offset (GivesBytes told d0) c)
      → IsSettled (image d1) limit offset number payloads
  closed_settled x payloads told_x h closed = record {
    placed = placed_of x limit offset number payloads h;
    each = λ c left.
        let from = closed c left in
        let same : x ≡ from.0 = same_told (told d0) x from.0 told_x from.1 in
        closed_rests limit offset payloads c from.0 from.3 (placed_of x limit offset number payloads h) (subst (λ (b : List ℕ). b ≡ store limit payloads ++ drop offset b) same h.begins) from.2 from.4;
    counts = h.counts;
  }

  pub after_closed : (size : ℕ) (ended : Bool) → IsReplay format.Two (told d0) (image d0) limit size offset number ended → TellsAlike (told d0) (told d1) → ((c : List ℕ) → image d1 c → IsClosed offset (GivesBytes told d0) c)
      → IsSound (told d1) (image d1) limit offset number None
  after_closed size ended r alike closed = record {
    least = r.least;
    most = r.most;
    fits = r.few;
    tied = λ c told_c.
        let old = told_back (told d0) (told d1) c alike told_c in
        let tied = r.tied old.0 old.1 in
        (tied.0, closed_settled old.0 tied.0 old.1 tied.1 closed);
  }

  pub closed_frames : (x : List ℕ) (payloads : List (List ℕ)) → told d0 ≡ Some x → HasReadTo format.Two x limit offset number payloads → TellsAlike (told d0) (told d1) → ((c : List ℕ) → image d1 c → IsClosed offset (GivesBytes told d0) c)
      → frames_of told (seen d1 limit offset number None) ≡ Some payloads
  closed_frames x payloads told_x h alike closed =
      let new = told_on (told d0) (told d1) x alike told_x in
      ap (λ (o : Option (List ℕ)). option_map (λ bytes. payloads_in (settled false offset bytes)) o) new.1
      ∙ ap Some (settled_read (image d1) limit offset number payloads new.0 (closed_settled x payloads told_x h closed) (reads d1 new.0 new.1))

  pub cut_stands : (size : ℕ) → IsReplay format.Two (told d0) (image d0) limit size offset number true → (x : List ℕ) (payloads : List (List ℕ)) → told d0 ≡ Some x → HasReadTo format.Two x limit offset number payloads
      → (c : List ℕ) → IsCutBack offset (image d0) c → Stands c limit payloads
  cut_stands size r x payloads told_x h c back =
      let told_d : told d0 ≡ Some back.0 = r.synced back.0 back.1 in
      let same : x ≡ back.0 = same_told (told d0) x back.0 told_x told_d in
      cut_back_stands limit offset payloads c back.0 (placed_of x limit offset number payloads h) (subst (λ (b : List ℕ). b ≡ store limit payloads ++ drop offset b) same h.begins) (r.ends back.0 told_d refl) back.2 back.3 back.4
