-- How a run of calls of a disk goes on.
use Rattle.std.proofs.Common.{inl, inr, ⊎_elim, ℕ, ◌≤◌, List, arith}
use Rattle.lrs_disk.specs.Disk.{Elapses, LeavesOnly, Follows, Within}

module _ {D : Type 0} (time : D → ℕ) (since : D → ℕ → List ℕ → Type 0) (image : D → List ℕ → Type 0)
    (counts_now : (d : D) (t : ℕ) (c : List ℕ) → t ≤ time d → image d c → since d t c) (only_now : (d : D) (c : List ℕ) → since d (time d) c → image d c) where
  -- before the first call
  pub started : (old : D) (P : List ℕ → Type 0) → ((c : List ℕ) → image old c → P c) → LeavesOnly time since old old P
  started old P here = record { later = omega arith; each = λ c left. here c (only_now old c left); before = λ t c le left. inl left }

  -- what a crash leaves now has P
  pub now_has : (old new : D) (P : List ℕ → Type 0) → LeavesOnly time since old new P → (c : List ℕ) → image new c → P c
  now_has old new P so_far c left = so_far.each c (counts_now new (time old) c so_far.later left)

  pub goes_on : (old mid new : D) (P : List ℕ → Type 0) → LeavesOnly time since old mid P → Elapses (time mid) (time new) (since mid) (since new) (image new)
      → ((c : List ℕ) → image new c → P c) → LeavesOnly time since old new P
  goes_on old mid new P so_far passes here = record {
    later = omega (arith, so_far.later, passes.later);
    each = λ c left. ⊎_elim (so_far.each c) (here c) (passes.nothing_else (time old) c so_far.later left);
    before = λ t c le left. ⊎_elim (so_far.before t c le) (λ now. inr (here c now)) (passes.nothing_else t c (omega (arith, le, so_far.later)) left);
  }

  -- one write or cut more, a step that keeps P
  pub stepped : (old mid new : D) (P : List ℕ → Type 0) (step : List ℕ → List ℕ → Type 0) → LeavesOnly time since old mid P
      → Elapses (time mid) (time new) (since mid) (since new) (image new) → Follows step (image mid) (image new) → ((d c : List ℕ) → P d → step d c → P c) → LeavesOnly time since old new P
  stepped old mid new P step so_far passes follows keeps =
      goes_on old mid new P so_far passes (λ c left. let from = follows c left in keeps from.0 c (now_has old mid P so_far from.0 from.1) from.2)

  -- one call more that leaves the images
  pub stayed : (old mid new : D) (P : List ℕ → Type 0) → LeavesOnly time since old mid P
      → Elapses (time mid) (time new) (since mid) (since new) (image new) → Within (image mid) (image new) → LeavesOnly time since old new P
  stayed old mid new P so_far passes within = goes_on old mid new P so_far passes (λ c left. now_has old mid P so_far c (within c left))

  -- one run after another
  pub then_run : (old mid new : D) (P Q : List ℕ → Type 0) → LeavesOnly time since old mid P → LeavesOnly time since mid new Q → ((c : List ℕ) → Q c → P c) → LeavesOnly time since old new P
  then_run old mid new P Q first second weaker = record {
    later = omega (arith, first.later, second.later);
    each = λ c left. ⊎_elim (first.each c) (weaker c) (second.before (time old) c first.later left);
    before = λ t c le left. ⊎_elim (first.before t c le) (λ q. inr (weaker c q)) (second.before t c (omega (arith, le, first.later)) left);
  }

  -- what has P has Q
  pub weaker_run : (old new : D) (P Q : List ℕ → Type 0) → LeavesOnly time since old new P → ((c : List ℕ) → P c → Q c) → LeavesOnly time since old new Q
  weaker_run old new P Q run weaker = record { later = run.later; each = λ c left. weaker c (run.each c left); before = λ t c le left. ⊎_elim (λ p. inl p) (λ p. inr (weaker c p)) (run.before t c le left) }
