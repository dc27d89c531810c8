-- What is left while the end of a disk is cut and closed.
use Rattle.std.proofs.Common.{◌≡◌, ◌⊎◌, inl, inr, ⊎_elim, ℕ, zero, suc, ◌+◌, ◌-◌, ◌≤◌, List, [], ◌∷◌, ◌++◌, length, take, drop, refl, sym, ◌∙◌, ap, arith, subst, length-take, length-drop, take-append-drop, append_assoc}
use Rattle.std.proofs.lemmas.List.{take-take, take_all, take_at, drop_at, drop-take}
use Rattle.lrs_disk.specs.Disk.{written, Torn, Cut}
use Rattle.lrs_journal.specs.Steps.{IsCutBack, IsClosed, AtRest, IsEndOffset}
use Rattle.lrs_journal.specs.Store.{store, Stands, IsEnd}

module _ (offset : ℕ) where
  pub uncut : (old : List ℕ → Type 0) (d : List ℕ) → old d → offset ≤ length d → IsCutBack offset old d
  uncut old d was le = (d, was, refl, le, inl (take_all (length d) d (omega arith)))

  pub torn_cut : (old : List ℕ → Type 0) (d c : List ℕ) → old d → offset ≤ length d → Cut offset d c → IsCutBack offset old c
  torn_cut old d c was le cut =
      let long : offset ≤ length c = omega (arith, cut.no_shorter) in
      (d, was, ap (λ (l : List ℕ). take offset l) (sym cut.front) ∙ take-take offset (length c) d long, long, inl cut.front)

  -- a torn write of one byte after what was cut
  pub torn_end : (old : List ℕ → Type 0) (d e c : List ℕ) → old d → offset ≤ length d → e ≡ take offset d → Torn offset 1 e c → IsCutBack offset old c
  torn_end old d e c was le is torn =
      let size : length e ≡ offset = ap (λ (l : List ℕ). length l) is ∙ (length-take offset d ∙ omega arith) in
      (d, was, torn.before ∙ ap (λ (l : List ℕ). take offset l) is ∙ take-take offset offset d (omega arith), omega (arith, torn.no_shorter), inr (omega (arith, torn.no_longer)))

  pub closed_end : (old : List ℕ → Type 0) (d e c : List ℕ) → old d → offset ≤ length d → e ≡ take offset d → c ≡ written e offset (0 ∷ []) → IsClosed offset old c
  closed_end old d e c was le is is_written =
      let size : length e ≡ offset = ap (λ (l : List ℕ). length l) is ∙ (length-take offset d ∙ omega arith) in
      let whole : c ≡ e ++ (0 ∷ drop (offset + 1) e) = is_written ∙ append_assoc (take offset e) (0 ∷ []) (drop (offset + 1) e) ∙ ap (λ (l : List ℕ). l ++ (0 ∷ drop (offset + 1) e)) (take_all offset e (omega (arith, size))) in
      (d, was, ap (λ (l : List ℕ). take offset l) whole ∙ take_at e (0 ∷ drop (offset + 1) e) offset size ∙ is, drop (offset + 1) e, ap (λ (l : List ℕ). drop offset l) whole ∙ drop_at e (0 ∷ drop (offset + 1) e) offset size)

  -- a closed gate that was read
  pub closed_read : (old : List ℕ → Type 0) (c into : List ℕ) (n : ℕ) → old c → n ≡ 1 → n ≤ length c - offset → into ≡ 0 ∷ [] → take n into ≡ take n (drop offset c) → IsClosed offset old c
  closed_read old c into n was one fits zero_gate same =
      let gate : take 1 (drop offset c) ≡ 0 ∷ [] = ap (λ (k : ℕ). take k (drop offset c)) (sym one) ∙ sym same ∙ ap (λ (k : ℕ). take k into) one ∙ ap (λ (l : List ℕ). take 1 l) zero_gate in
      (c, was, refl, drop 1 (drop offset c), sym (take-append-drop 1 (drop offset c)) ∙ ap (λ (l : List ℕ). l ++ drop 1 (drop offset c)) gate)

-- a cut of the end keeps it an end
front_ends : (k : ℕ) (rest : List ℕ) → IsEnd rest → IsEnd (take k rest)
front_ends zero rest ends = tt
front_ends (suc k) [] ends = tt
front_ends (suc zero) (g ∷ rest) ends = tt
front_ends (suc (suc k)) (g ∷ []) ends = tt
front_ends (suc (suc k)) (g ∷ b ∷ rest) ends = ends

short_ends : (rest : List ℕ) → length rest ≤ 1 → IsEnd rest
short_ends [] short = tt
short_ends (g ∷ []) short = tt
short_ends (g ∷ b ∷ rest) short = absurd (omega arith)

-- where each of the old ones stands for the payloads, each that was cut back does
pub cut_back_stands : (limit offset : ℕ) (ps : List (List ℕ)) (c d : List ℕ) → IsEndOffset limit offset ps → d ≡ store limit ps ++ drop offset d → IsEnd (drop offset d)
    → take offset c ≡ take offset d → offset ≤ length c → (take (length c) d ≡ c) ⊎ (length c ≤ offset + 1) → Stands c limit ps
cut_back_stands limit offset ps c d placed split ends same long how =
    let front : take offset d ≡ store limit ps = ap (λ (l : List ℕ). take offset l) split ∙ take_at (store limit ps) (drop offset d) offset (sym placed.behind) in
    record {
      least = placed.least;
      most = placed.most;
      sizes = placed.sizes;
      rest = drop offset c;
      split = sym (take-append-drop offset c) ∙ ap (λ (l : List ℕ). l ++ drop offset c) (same ∙ front);
      ends = ⊎_elim
          (λ is_cut. subst IsEnd (sym (behind is_cut)) (front_ends (length c - offset) (drop offset d) ends))
          (λ short. short_ends (drop offset c) (omega (arith, length-drop offset c))) how;
    }
  where
    behind : take (length c) d ≡ c → drop offset c ≡ take (length c - offset) (drop offset d)
    behind is_cut =
        let sum : length c ≡ offset + (length c - offset) = omega arith in
        ap (λ (l : List ℕ). drop offset l) (sym is_cut) ∙ ap (λ (k : ℕ). drop offset (take k d)) sum ∙ drop-take offset (length c - offset) d

-- and one that was closed is at rest
pub closed_rests : (limit offset : ℕ) (ps : List (List ℕ)) (c d rest : List ℕ) → IsEndOffset limit offset ps → d ≡ store limit ps ++ drop offset d
    → take offset c ≡ take offset d → drop offset c ≡ 0 ∷ rest → AtRest limit ps c
closed_rests limit offset ps c d rest placed split same behind =
    let front : take offset d ≡ store limit ps = ap (λ (l : List ℕ). take offset l) split ∙ take_at (store limit ps) (drop offset d) offset (sym placed.behind) in
    (rest, sym (take-append-drop offset c) ∙ ap (λ (l : List ℕ). l ++ drop offset c) (same ∙ front) ∙ ap (λ (l : List ℕ). store limit ps ++ l) behind)
