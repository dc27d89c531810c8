-- The draws of one stream of ChaCha20.
use Rattle.std.specs.Prelude.{ℕ, ◌+◌, ◌*◌, ◌%◌, ◌^◌, List}
use Rattle.rand_chacha.specs.ChaCha.{key_of, word_at}
use Rattle.lrs_names.specs.declared.draw.Draw.{Draw}

-- where draws stand in a stream: the seed's key, the stream, and the number of the next draw
pub record Draws : Type 0 where
  pub key : List ℕ
  pub stream : ℕ
  pub number : ℕ

-- before the first draw of a stream under a seed
abbrev pub start_of : List ℕ → ℕ → Draws
start_of seed stream = record { key = key_of seed; stream = stream; number = 0 }

-- four words from there on as one number, the first most significant (ChaCha20 has ten double rounds)
abbrev pub four_words : List ℕ → ℕ → ℕ → ℕ
four_words key stream at =
    ((word_at 10 key stream at * 2 ^ 32 + word_at 10 key stream (at + 1)) * 2 ^ 32
    + word_at 10 key stream (at + 2)) * 2 ^ 32 + word_at 10 key stream (at + 3)

-- draw j has the words 8j to 8j + 7, the first four its name, the last four its secret
abbrev pub draw_at : Draws → Draw
draw_at p = record {
  name = four_words p.key p.stream (8 * p.number);
  secret = four_words p.key p.stream (8 * p.number + 4);
}

-- after the draw that stands there
abbrev pub next_draws : Draws → Draws
next_draws p = record p { number = (p.number + 1) % 2 ^ 65 }
