-- Calls and their bytes, one call more.
use Rattle.std.proofs.Common.{◌≡◌, ℕ, zero, suc, ◌+◌, ◌<◌, ◌≤◌, List, [], ◌∷◌, ◌++◌, length, take, drop, get_or, min, sum_by, refl, sym, ◌∙◌, ap, arith, length-drop}
use Rattle.std.proofs.lemmas.List.{take_all, take-append-le, take-append-drop, drop-append-le, drop_more, take_min}
use Rattle.std.proofs.lemmas.List.Sums.{sum_by-cons, sum_by-append}
use Rattle.lrs_in_memory.specs.Steps.{Step, read_after, image_after, crash_image}
use Rattle.lrs_in_memory.specs.Calls.{steps, step_of}
use Rattle.lrs_in_memory.specs.declared.call.Call.{Call}
use Rattle.lrs_in_memory.specs.declared.call.Pending.{Pending}

abbrev pub size_of : Call → ℕ
size_of call = call.size

abbrev pub total : List Call → ℕ
total calls = sum_by (λ (call : Call). call.size) calls

pub total-cons : (call : Call) (calls : List Call) → total (call ∷ calls) ≡ call.size + total calls
total-cons call calls = sum_by-cons (λ (c : Call). c.size) call calls

-- one call more, whose bytes are at the end of the log
pub steps-push : (calls : List Call) (log : List ℕ) (call : Call) (bytes : List ℕ) → total calls ≡ length log → call.size ≡ length bytes
    → steps (calls ++ call ∷ []) (log ++ bytes) ≡ steps calls log ++ step_of call bytes ∷ []
steps-push [] [] call bytes logged size = ap (λ (l : List ℕ). step_of call l ∷ []) (take_all call.size bytes (omega arith))
steps-push [] (x ∷ log) call bytes logged size = absurd (omega (arith, logged))
steps-push (first ∷ calls) log call bytes logged size =
    let split : first.size + total calls ≡ length log = sym (total-cons first calls) ∙ logged in
    let fits : first.size ≤ length log = omega (arith, split) in
    let rest : total calls ≡ length (drop first.size log) = omega (arith, split, length-drop first.size log) in
    ap (λ (l : List ℕ). step_of first l ∷ steps (calls ++ call ∷ []) (drop first.size (log ++ bytes))) (take-append-le first.size log bytes fits)
    ∙ ap (λ (l : List ℕ). step_of first (take first.size log) ∷ steps (calls ++ call ∷ []) l) (drop-append-le first.size log bytes fits)
    ∙ ap (λ (l : List Step). step_of first (take first.size log) ∷ l) (steps-push calls (drop first.size log) call bytes rest size)

pub take-steps : (k : ℕ) (calls : List Call) (log : List ℕ) → take k (steps calls log) ≡ steps (take k calls) log
take-steps zero calls log = refl
take-steps (suc k) [] log = refl
take-steps (suc k) (call ∷ calls) log = ap (λ (l : List Step). step_of call (take call.size log) ∷ l) (take-steps k calls (drop call.size log))

pub total-drop : (calls : List Call) (i : ℕ) (d : Call) → i < length calls → total (drop i calls) ≡ (get_or calls i d).size + total (drop (i + 1) calls)
total-drop calls i d lt = ap total (drop_more calls i d lt) ∙ total-cons (get_or calls i d) (drop (i + 1) calls)

-- one call more of a replay
pub replay_more : (pending : Pending) (calls : List Call) (i : ℕ) (call : Call) (rest read left piece more given read2 left2 image : List ℕ) → drop i calls ≡ call ∷ drop (i + 1) calls
    → piece ≡ take call.size rest → more ≡ drop call.size rest → given ≡ read → left2 ≡ image_after pending (step_of call piece) given left → read2 ≡ read_after (step_of call piece) read
    → crash_image pending (steps (drop i calls) rest) read left ≡ image → crash_image pending (steps (drop (i + 1) calls) more) read2 left2 ≡ image
replay_more pending calls i call rest read left piece more given read2 left2 image next is_piece is_more is_given is_left is_read so_far =
    rw (is_left, is_read, is_given, is_piece, is_more) (rw next at so_far)

pub total-take : (k : ℕ) (calls : List Call) → total (take k calls) ≤ total calls
total-take k calls = omega (arith, ap total (take-append-drop k calls), sum_by-append (λ (call : Call). call.size) (take k calls) (drop k calls))

-- the first calls, as many as there are
pub taken_steps : (k : ℕ) (calls : List Call) (log : List ℕ) → steps (take (min k (length calls)) calls) log ≡ take k (steps calls log)
taken_steps k calls log = ap (λ (l : List Call). steps l log) (take_min k calls) ∙ sym (take-steps k calls log)

-- what the replay of the first calls gives
pub replayed : (pending : Pending) (k kept : ℕ) (calls given : List Call) (log bytes first read image : List ℕ) → given ≡ calls → bytes ≡ log → read ≡ first → kept ≡ min k (length calls)
    → image ≡ crash_image pending (steps (take kept given) bytes) read read → image ≡ crash_image pending (take k (steps calls log)) first first
replayed pending k kept calls given log bytes first read image calls_are log_is first_is kept_is is =
    is ∙ ap (λ (l : List ℕ). crash_image pending (steps (take kept given) bytes) l l) first_is
    ∙ ap (λ (l : List ℕ). crash_image pending (steps (take kept given) l) first first) log_is
    ∙ ap (λ (l : List Call). crash_image pending (steps (take kept l) log) first first) calls_are
    ∙ ap (λ (n : ℕ). crash_image pending (steps (take n calls) log) first first) kept_is
    ∙ ap (λ (l : List Step). crash_image pending l first first) (taken_steps k calls log)
