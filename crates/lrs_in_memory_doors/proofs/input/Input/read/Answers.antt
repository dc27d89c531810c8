use Rattle.std.proofs.Common.{◌≡◌, ◌⊎◌, ◌≤◌, ◌+◌, ◌-◌, ◌++◌, ℕ, List, inl, inr, ⊎_elim, min, length, take, drop, sym, subst, ap, ◌∙◌, arith, Contains, length-take}
use Rattle.std.proofs.lemmas.Bool.{cases_lt}
use Rattle.std.proofs.lemmas.List.{take_at, drop-drop, take-append-drop}
use Rattle.lrs_in_memory_doors.proofs.input.Input.read.Goals as goal

-- what was copied stands before what is left
given_is : (bytes given into copied : List ℕ) (offset n m : ℕ) → copied ≡ take m (drop offset given) → given ≡ bytes → m ≡ n → length copied ≡ n → drop offset bytes ≡ take n (copied ++ drop n into) ++ drop (offset + n) bytes
given_is bytes given into copied offset n m is bytes_are same size =
    let copy : copied ≡ take n (drop offset bytes) = is ∙ ap (λ (k : ℕ). take k (drop offset given)) same ∙ ap (λ (l : List ℕ). take n (drop offset l)) bytes_are in
    sym (take-append-drop n (drop offset bytes))
    ∙ ap (λ (l : List ℕ). l ++ drop n (drop offset bytes)) (sym copy ∙ sym (take_at copied (drop n into) n size))
    ∙ ap (λ (l : List ℕ). take n (copied ++ drop n into) ++ l) (drop-drop n offset bytes)

-- a read ends where there is no room, at the end or at a cut
filled_is : (room offset n stop end last : ℕ) (cuts given : List ℕ) → offset ≤ stop → n ≡ min room (stop - offset) → last ≡ end → given ≡ cuts → (stop ≡ last) ⊎ Contains given stop → (n ≡ room) ⊎ (offset + n ≡ end) ⊎ Contains cuts (offset + n)
filled_is room offset n stop end last cuts given le is last_is given_is at = ⊎_elim
    (λ small. inl (omega arith))
    (λ large. let there : stop ≡ offset + n = omega arith in
    ⊎_elim (λ ends. inr (inl (sym there ∙ ends ∙ last_is))) (λ cut. inr (inr (subst (λ (k : ℕ). Contains cuts k) there (subst (λ (l : List ℕ). Contains l stop) given_is cut)))) at)
    (cases_lt room (stop - offset))

pub returns-clause-given : goal.returns-clause-given
returns-clause-given c = given_is c.args.self.now.bytes.items c.deref-2.result.now c.args.into.now c.copy_from_slice.new.self c.args.self.now.offset c.min-number.result _ c.copy_from_slice.ensures.after c.deref-2.ensures.value (omega arith)
    (c.copy_from_slice.ensures.len ∙ omega (arith, length-take c.min-number.result c.args.into.now))

pub returns-clause-filled : goal.returns-clause-filled
returns-clause-filled c = filled_is (length c.args.into.now) c.args.self.now.offset c.min-number.result c.stop_after-stop.result (length c.args.self.now.bytes.items) c.len.result c.args.self.now.cuts.items c.deref.result.now
    c.stop_after-stop.ensures.least c.min-number.ensures (omega (arith, c.len.ensures)) c.deref.ensures.value c.stop_after-stop.ensures.stop
