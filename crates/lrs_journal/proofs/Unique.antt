-- Bytes stand for one limit and one list of payloads, or are damaged after one. What callers cite.
use Rattle.std.proofs.Common.{◌≡◌, ◌≢◌, ℕ, ◌+◌, ◌<◌, ◌^◌, List, [], ◌∷◌, ◌++◌, length, take, drop, get_or, refl, sym, ◌∙◌, ap, subst, arith, append_assoc, length-append}
use Rattle.std.proofs.lemmas.List.{take_at, drop_at}
use Rattle.std.proofs.lemmas.Nat.{from_be_bytes-to_be_bytes_4, from_be_bytes-to_be_bytes_8}
use Rattle.std.specs.List.{AllByRecursion}
use Rattle.std.specs.Int.{w32, w64, to_be_bytes, from_be_bytes}
use Rattle.lrs_journal.specs.Store.{head_of, version_of, header_in, body_in, frames_in, store_in, HasHeaderIn, StandsIn, IsDamagedIn, IsEnd, IsPayload}
use Rattle.lrs_journal.specs.Replay.{Replay, HasRead, HasReadTo, HasSameOffset}
use Rattle.lrs_journal.specs.declared.sizes.TheConstants.{HEADER}
use Rattle.lrs_journal.specs.declared.sizes.Format.{Format}
use Rattle.lrs_journal.specs.declared.sizes.Format.TheVariants as format
use Rattle.lrs_journal.proofs.Doubt.{length-body-in, store-push}

pub no_end : (f : Format) (k : ℕ) (q : List ℕ) (qs : List (List ℕ)) (r s : List ℕ) → IsEnd r → r ≡ frames_in f k (q ∷ qs) ++ s → ⊥
no_end f k q qs r s ends is = subst IsEnd is ends refl

-- what follows a frame's head
behind_head : (f : Format) (k : ℕ) (p x : List ℕ) → drop (head_of f) (1 ∷ body_in f k p ++ x) ≡ p ++ x
behind_head format.One k p x = refl
behind_head format.Two k p x = refl

-- the first payloads are the same, and so is what follows them
pub first_once : (f : Format) (k m : ℕ) (p q x y : List ℕ) → length p < 2 ^ 32 → length q < 2 ^ 32 → 1 ∷ body_in f k p ++ x ≡ 1 ∷ body_in f m q ++ y → (p ≡ q) × (x ≡ y)
first_once f k m p q x y small_p small_q e =
    let words : to_be_bytes w32 (length p) ≡ to_be_bytes w32 (length q) = ap (λ (l : List ℕ). take 4 (drop 1 l)) e in
    let same : length p ≡ length q = sym (from_be_bytes-to_be_bytes_4 (length p) small_p) ∙ ap (λ (l : List ℕ). from_be_bytes w32 l) words ∙ from_be_bytes-to_be_bytes_4 (length q) small_q in
    let rest : p ++ x ≡ q ++ y = sym (behind_head f k p x) ∙ ap (λ (l : List ℕ). drop (head_of f) l) e ∙ behind_head f m q y in (
      sym (take_at p x (length p) refl) ∙ ap (λ (l : List ℕ). take (length p) l) rest ∙ take_at q y (length p) (sym same),
      sym (drop_at p x (length p) refl) ∙ ap (λ (l : List ℕ). drop (length p) l) rest ∙ drop_at q y (length p) (sym same),
    )

frames_once : (f : Format) (k : ℕ) (ps qs : List (List ℕ)) (r s : List ℕ) → AllByRecursion IsPayload ps → AllByRecursion IsPayload qs → IsEnd r → IsEnd s → frames_in f k ps ++ r ≡ frames_in f k qs ++ s → ps ≡ qs
frames_once f k [] [] r s fp fq er es e = refl
frames_once f k [] (q ∷ qs) r s fp fq er es e = absurd (no_end f k q qs r s er e)
frames_once f k (p ∷ ps) [] r s fp fq er es e = absurd (no_end f k p ps s r es (sym e))
frames_once f k (p ∷ ps) (q ∷ qs) r s fp fq er es e =
    let both = first_once f k k p q (frames_in f (k + 1) ps ++ r) (frames_in f (k + 1) qs ++ s) fp.0 fq.0
    (sym (append_assoc (1 ∷ body_in f k p) (frames_in f (k + 1) ps) r) ∙ e ∙ append_assoc (1 ∷ body_in f k q) (frames_in f (k + 1) qs) s) in
    ap (λ (x : List ℕ). x ∷ ps) both.0 ∙ ap (λ (xs : List (List ℕ)). q ∷ xs) (frames_once f (k + 1) ps qs r s fp.1 fq.1 er es both.1)

-- what follows a header
behind_header : (f : Format) (limit : ℕ) (x : List ℕ) → drop HEADER (header_in f limit ++ x) ≡ x
behind_header f limit x = refl

behind_store : (f : Format) (limit : ℕ) (ps : List (List ℕ)) (x : List ℕ) → drop HEADER (store_in f limit ps ++ x) ≡ frames_in f 0 ps ++ x
behind_store f limit ps x = refl

-- a list of bytes stands for one list of payloads
pub stands_once : (f : Format) (bytes : List ℕ) (l m : ℕ) (ps qs : List (List ℕ)) → StandsIn f bytes l ps → StandsIn f bytes m qs → ps ≡ qs
stands_once f bytes l m ps qs a b =
    frames_once f 0 ps qs a.rest b.rest a.sizes b.sizes a.ends b.ends
    (sym (behind_store f l ps a.rest) ∙ ap (λ (x : List ℕ). drop HEADER x) (sym a.split ∙ b.split) ∙ behind_store f m qs b.rest)

-- a store has an open header
pub stands_header : (f : Format) (bytes : List ℕ) (limit : ℕ) (ps : List (List ℕ)) → StandsIn f bytes limit ps → HasHeaderIn f bytes limit
stands_header f bytes limit ps s = record { least = s.least; most = s.most; rest = frames_in f 0 ps ++ s.rest; split = s.split ∙ append_assoc (header_in f limit) (frames_in f 0 ps) s.rest }

-- and one limit
pub header_once : (f g : Format) (bytes : List ℕ) (l m : ℕ) → HasHeaderIn f bytes l → HasHeaderIn g bytes m → l ≡ m
header_once f g bytes l m a b =
    let words : to_be_bytes w64 l ≡ to_be_bytes w64 m = ap (λ (x : List ℕ). take 8 (drop 9 x)) (sym a.split ∙ b.split) in
    sym (from_be_bytes-to_be_bytes_8 l (omega (arith, a.most))) ∙ ap (λ (x : List ℕ). from_be_bytes w64 x) words ∙ from_be_bytes-to_be_bytes_8 m (omega (arith, b.most))

-- and one format
pub format_once : (f g : Format) (bytes : List ℕ) (l m : ℕ) → HasHeaderIn f bytes l → HasHeaderIn g bytes m → f ≡ g
format_once f g bytes l m a b = by_version f g (ap (λ (x : List ℕ). get_or x 8 0) (sym a.split ∙ b.split))
  where
    by_version : (f g : Format) → version_of f ≡ version_of g → f ≡ g
    by_version format.One format.One is = refl
    by_version format.Two format.Two is = refl
    by_version format.One format.Two is = absurd (omega (arith, is))
    by_version format.Two format.One is = absurd (omega (arith, is))

frames_whole : (f : Format) (k m : ℕ) (ps qs : List (List ℕ)) (r rest : List ℕ) → m ≡ k + length qs → AllByRecursion IsPayload ps → AllByRecursion IsPayload qs → IsEnd r → 0 < length rest
    → ((payload behind : List ℕ) → IsPayload payload → rest ≢ body_in f m payload ++ behind) → frames_in f k ps ++ r ≡ frames_in f k qs ++ 1 ∷ rest → ⊥
frames_whole f k m [] [] r [] is fp fq er more torn e = absurd (omega (arith, more))
frames_whole f k m [] [] r (b ∷ rest) is fp fq er more torn e = subst IsEnd e er refl
frames_whole f k m [] (q ∷ qs) r rest is fp fq er more torn e = no_end f k q qs r (1 ∷ rest) er e
frames_whole f k m (p ∷ ps) [] r rest is fp fq er more torn e =
    let here : k ≡ m = omega (arith, is) in
    let found : body_in f k p ++ (frames_in f (k + 1) ps ++ r) ≡ rest = ap (λ (l : List ℕ). drop 1 l) (sym (append_assoc (1 ∷ body_in f k p) (frames_in f (k + 1) ps) r) ∙ e) in
    torn p (frames_in f (k + 1) ps ++ r) fp.0 (sym found ∙ ap (λ (n : ℕ). body_in f n p ++ (frames_in f (k + 1) ps ++ r)) here)
frames_whole f k m (p ∷ ps) (q ∷ qs) r rest is fp fq er more torn e =
    let next : m ≡ k + 1 + length qs = omega (arith, is) in
    let both = first_once f k k p q (frames_in f (k + 1) ps ++ r) (frames_in f (k + 1) qs ++ 1 ∷ rest) fp.0 fq.0
    (sym (append_assoc (1 ∷ body_in f k p) (frames_in f (k + 1) ps) r) ∙ e ∙ append_assoc (1 ∷ body_in f k q) (frames_in f (k + 1) qs) (1 ∷ rest)) in
    frames_whole f (k + 1) m ps qs r rest next fp.1 fq.1 er more torn both.1

-- a store is not damaged
pub stands_whole : (f : Format) (bytes : List ℕ) (l m : ℕ) (ps qs : List (List ℕ)) → StandsIn f bytes l ps → IsDamagedIn f bytes m qs → ⊥
stands_whole f bytes l m ps qs s d =
    let count : length qs ≡ 0 + length qs = omega arith in
    frames_whole f 0 (length qs) ps qs s.rest d.rest count s.sizes d.sizes s.ends d.more d.torn
    (sym (behind_store f l ps s.rest) ∙ ap (λ (x : List ℕ). drop HEADER x) (sym s.split ∙ d.split) ∙ behind_store f m qs (1 ∷ d.rest))

-- a replay that went no further has read the same
pub same_offset_read : {D : Type 0} (bytes : List ℕ) (old new : Replay D) (ps : List (List ℕ)) → HasSameOffset old new → new.format ≡ old.format → new.limit ≡ old.limit → HasRead bytes old ps → HasRead bytes new ps
same_offset_read bytes old new ps same kind limit read =
    subst (λ (f : Format). HasReadTo f bytes new.limit new.offset new.number ps) (sym kind) (subst (λ (l : ℕ). HasReadTo old.format bytes l new.offset new.number ps) (sym limit)
    (subst (λ (p : ℕ). HasReadTo old.format bytes old.limit p new.number ps) (sym same.0) (subst (λ (n : ℕ). HasReadTo old.format bytes old.limit old.offset n ps) (sym same.1) read)))

-- the bytes that these payloads take in frames
abbrev pub frame_bytes : Format → List (List ℕ) → ℕ
frame_bytes f [] = 0
frame_bytes f (payload ∷ payloads) = head_of f + length payload + frame_bytes f payloads

-- how long a store is
pub store_length : (f : Format) (limit : ℕ) (ps : List (List ℕ)) → length (store_in f limit ps) ≡ HEADER + frame_bytes f ps
store_length f limit ps = omega (arith, length-append (header_in f limit) (frames_in f 0 ps), in_frames 0 ps)
  where
    in_frames : (k : ℕ) (ps : List (List ℕ)) → length (frames_in f k ps) ≡ frame_bytes f ps
    in_frames k [] = refl
    in_frames k (p ∷ ps) = omega (arith, length-append (1 ∷ body_in f k p) (frames_in f (k + 1) ps), length-body-in f k p, in_frames (k + 1) ps)

-- how long a store is with one frame more
pub store_longer : (f : Format) (limit : ℕ) (ps : List (List ℕ)) (p : List ℕ) → length (store_in f limit (ps ++ p ∷ [])) ≡ length (store_in f limit ps) + (head_of f + length p)
store_longer f limit ps p = omega (arith, ap length (store-push f limit ps p), length-append (store_in f limit ps) (1 ∷ body_in f (length ps) p), length-body-in f (length ps) p)
