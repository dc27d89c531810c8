-- A stream has one front, and so one list of requests.
use Rattle.std.proofs.Common.{◌≡◌, ℕ, ◌-◌, Bool, true, false, List, [], ◌∷◌, ◌++◌, length, take, Some, None, Ok, Err, refl, sym, ap, ◌∙◌, subst, arith, inl, inr}
use Rattle.std.specs.Prelude.{◌||◌, ◌==◌, ◌⊎◌, ◌+◌, MatchBool}
use Rattle.std.proofs.lemmas.Bool.{false≢true}
use Rattle.std.proofs.Math.Seq.{take-append-add}
use Rattle.httparse.specs.Grammar.{RequestHead, print_request, HasNoRequest}
use Rattle.httparse.proofs.GrammarLemmas.{request_unique}
use Rattle.lrs_http.specs.declared.request.Request.{Request}
use Rattle.lrs_http.specs.declared.request.RequestRefused.{RequestRefused}
use Rattle.lrs_http.specs.Stream.{StreamFront, stands, blank, wrong, long, short, IsFront, IsNoHead, Item, IsItem, item_of, SpellsRequests, window}
use Rattle.lrs_http.specs.OneList.{OneItem, OneList}
use Rattle.lrs_http.specs.declared.heads.TheConstants.{LONGEST_HEAD}

-- a head that stands at the front stands in the window
no_head : (stream : List ℕ) (head : RequestHead) (behind : List ℕ) → IsFront stream (stands head behind) → HasNoRequest (window stream) → ⊥
no_head stream head behind front none =
    let size = length (print_request head) in
    let split : LONGEST_HEAD ≡ size + (LONGEST_HEAD - size) = omega (arith, front.1) in
    let here : window stream ≡ print_request head ++ take (LONGEST_HEAD - size) behind =
    ap (take LONGEST_HEAD) front.0.1 ∙ ap (λ n. take n (print_request head ++ behind)) split ∙ take-append-add (print_request head) behind (LONGEST_HEAD - size) in
    none head (take (LONGEST_HEAD - size) behind) (front.0.0, here)

others : (stream : List ℕ) (a b : StreamFront) → IsNoHead stream a → IsNoHead stream b → a ≡ b
others stream (stands head behind) b x y = absurd x
others stream blank (stands head behind) x y = absurd y
others stream blank blank x y = refl
others stream blank wrong x y = absurd (y.0 x)
others stream blank long x y = absurd (omega (arith, x.0, y.0))
others stream blank short x y = absurd (false≢true (sym y.1 ∙ x.1))
others stream wrong (stands head behind) x y = absurd y
others stream wrong blank x y = absurd (x.0 y)
others stream wrong wrong x y = refl
others stream wrong long x y = absurd (x.1 y.1)
others stream wrong short x y = absurd (x.1 y.2)
others stream long (stands head behind) x y = absurd y
others stream long blank x y = absurd (omega (arith, x.0, y.0))
others stream long wrong x y = absurd (y.1 x.1)
others stream long long x y = refl
others stream long short x y = absurd (omega (arith, x.0, y.0))
others stream short (stands head behind) x y = absurd y
others stream short blank x y = absurd (false≢true (sym x.1 ∙ y.1))
others stream short wrong x y = absurd (y.1 x.2)
others stream short long x y = absurd (omega (arith, x.0, y.0))
others stream short short x y = refl

headless : (stream : List ℕ) (a : StreamFront) → IsFront stream a → ((head : RequestHead) × (behind : List ℕ) × (a ≡ stands head behind) × IsFront stream (stands head behind)) ⊎ (HasNoRequest (window stream) × IsNoHead stream a)
headless stream (stands head behind) x = inl (head, behind, refl, x)
headless stream blank x = inr x
headless stream wrong x = inr x
headless stream long x = inr x
headless stream short x = inr x

one_front : (stream : List ℕ) (a b : StreamFront) → IsFront stream a → IsFront stream b → a ≡ b
one_front stream a b x y = elim (headless stream a x) [
  | inl p ↦ elim (headless stream b y) [
    | inl q ↦
        let same = request_unique stream p.0 q.0 p.1 q.1 p.3.0 q.3.0 in
        p.2 ∙ (λ i. stands (same.0 i) (same.1 i)) ∙ sym q.2
    | inr q ↦ absurd (no_head stream p.0 p.1 p.3 q.0)
  ]
  | inr p ↦ elim (headless stream b y) [
    | inl q ↦ absurd (no_head stream q.0 q.1 q.3 p.0)
    | inr q ↦ others stream a b p.1 q.1
  ]
]

pub one_item : OneItem
one_item stream a b x y = x.2 ∙ ap item_of (one_front stream x.0 y.0 x.1 y.1) ∙ sym y.2

same_next : (stream : List ℕ) (r q : Request) (l m : List ℕ) → IsItem stream (Ok (r, l)) → IsItem stream (Ok (q, m)) → (r ≡ q) × (l ≡ m)
same_next stream r q l m x y =
    let same : ◌≡◌ {A = Item} (Ok (r, l)) (Ok (q, m)) = one_item stream (Ok (r, l)) (Ok (q, m)) x y in
    let parts : ◌≡◌ {A = Request × List ℕ} (r, l) (q, m) = cc in
    (ap (λ (p : Request × List ℕ). p.0) parts, ap (λ (p : Request × List ℕ). p.1) parts)

never_both : (stream : List ℕ) (r : Request) (l : List ℕ) (e : RequestRefused) → IsItem stream (Ok (r, l)) → IsItem stream (Err e) → ⊥
never_both stream r l e x y =
    let same : ◌≡◌ {A = Item} (Ok (r, l)) (Err e) = one_item stream (Ok (r, l)) (Err e) x y in
    cc

same_end : (stream : List ℕ) (e f : RequestRefused) → IsItem stream (Err e) → IsItem stream (Err f) → e ≡ f
same_end stream e f x y =
    let same : ◌≡◌ {A = Item} (Err e) (Err f) = one_item stream (Err e) (Err f) x y in
    cc

pub one_list : OneList
one_list most stream [] [] None y p q = absurd p
one_list most stream [] [] (Some e) None p q = absurd q
one_list most stream [] [] (Some e) (Some f) p q = (refl, ap Some (same_end stream e f p q))
one_list most stream [] (r ∷ rs) None y p q = absurd p
one_list most stream [] (r ∷ rs) (Some e) y p q = absurd (never_both stream r q.0 e q.1 p)
one_list most stream (r ∷ rs) [] x None p q = absurd q
one_list most stream (r ∷ rs) [] x (Some f) p q = absurd (never_both stream r p.0 f p.1 q)
one_list most stream (r ∷ rs) (s ∷ ss) x y p q =
    let next = same_next stream r s p.0 q.0 p.1 q.1 in
    let test : (s.closes || most == 1) ≡ (r.closes || most == 1) = ap (λ (t : Request). t.closes || most == 1) (sym next.0) in
    let tail = go (r.closes || most == 1) p.2 (subst (λ (b : Bool). MatchBool b ((ss ≡ []) × (y ≡ None)) (SpellsRequests (most - 1) q.0 ss y)) test q.2) next.1 (λ u v. one_list (most - 1) q.0 rs ss x y u v) in
    ((λ i. next.0 i ∷ tail.0 i), tail.1)
  where
    go : (b : Bool) → MatchBool b ((rs ≡ []) × (x ≡ None)) (SpellsRequests (most - 1) p.0 rs x) → MatchBool b ((ss ≡ []) × (y ≡ None)) (SpellsRequests (most - 1) q.0 ss y) → p.0 ≡ q.0
        → (SpellsRequests (most - 1) q.0 rs x → SpellsRequests (most - 1) q.0 ss y → (rs ≡ ss) × (x ≡ y)) → (rs ≡ ss) × (x ≡ y)
    go true u v e rest = (u.0 ∙ sym v.0, u.1 ∙ sym v.1)
    go false u v e rest = rest (subst (λ (l : List ℕ). SpellsRequests (most - 1) l rs x) e u) v
