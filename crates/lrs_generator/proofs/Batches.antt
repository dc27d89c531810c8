-- Batches, statement by statement.
use Rattle.std.proofs.Common.{◌≡◌, ℕ, suc, ◌+◌, ◌-◌, ◌*◌, ◌%◌, ◌^◌, min, List, [], ◌∷◌, ◌++◌, map, refl, sym, ap, ◌∙◌, arith}
use Rattle.std.specs.List.{range_with_len}
use Rattle.std.proofs.lemmas.List.FromFn.{map-range_with_len_more}
use Rattle.lrs_json.specs.View.{view}
use Rattle.lrs_json.specs.declared.tree.Tree.{Tree}
use Rattle.lrs_generator.specs.Generated.{batch, number_at, statement_json, statement_of}
use Rattle.lrs_generator.specs.Progress.{AreMade, IsProgress}
use Rattle.lrs_generator.specs.declared.generator.TheConstants.{BATCH}

-- ---- one by one

pub none_made : (seed first : ℕ) (trees : List Tree) (number : ℕ) → trees ≡ [] → number ≡ number_at seed first → AreMade seed first 0 trees number
none_made seed first trees number none is =
    let here : first ≡ first + 0 = omega arith in
    record { made = ap (map view) none; behind = is ∙ ap (number_at seed) here }

pub one_more_made : (seed first done index : ℕ) (trees more : List Tree) (number next : ℕ) → first + done ≡ index → map view more ≡ map view trees ++ statement_of seed index number ∷ []
    → next ≡ (number * 6364136223846793005 + 1442695040888963407) % 2 ^ 64 → AreMade seed first done trees number → AreMade seed first (done + 1) more next
one_more_made seed first done index trees more number next at pushed moved so_far =
    let known : number ≡ number_at seed index = so_far.behind ∙ ap (number_at seed) at in
    let on : suc index ≡ first + (done + 1) = omega arith in
    let last : statement_of seed index number ≡ statement_json seed index = ap (statement_of seed index) known in
    let step : next ≡ number_at seed (suc index) = moved ∙ ap (λ x. (x * 6364136223846793005 + 1442695040888963407) % 2 ^ 64) known in
    record {
      made =
          pushed ∙ ap (λ js. js ++ statement_of seed index number ∷ []) so_far.made
          ∙ ap (λ j. map (statement_json seed) (range_with_len first done) ++ j ∷ []) last
          ∙ sym (map-range_with_len_more (statement_json seed) first done index at);
      behind = step ∙ ap (number_at seed) on;
    }

-- ---- batch by batch

pub made_batch : (seed n j first many number : ℕ) (trees : List Tree) → first ≡ j * BATCH → many ≡ min BATCH (n - first) → AreMade seed first many trees number → map view trees ≡ batch seed n j
made_batch seed n j first many number trees begins long made =
    made.made ∙ ap (λ k. map (statement_json seed) (range_with_len first k)) long ∙ ap (λ a. map (statement_json seed) (range_with_len a (min BATCH (n - a)))) begins

pub begun : (seed n : ℕ) → IsProgress seed n 0 seed
begun seed n = record { ahead = λ some. refl }

pub goes_on : (seed n j first many number : ℕ) (trees : List Tree) → first ≡ j * BATCH → many ≡ min BATCH (n - first) → AreMade seed first many trees number → IsProgress seed n (j + 1) number
goes_on seed n j first many number trees begins long made = record {
  ahead = λ more. let whole : first + many ≡ (j + 1) * BATCH = omega arith in made.behind ∙ ap (number_at seed) whole;
}
