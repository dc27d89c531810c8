-- When two normal forms are alike: equal, but for the order of an object's members and of a bag.
use Rattle.std.specs.Prelude.{ℕ, suc, ◌==◌, List, Bool, true, false, not, ◌&&◌, ◌||◌, if◌then◌else◌}
use Rattle.std.specs.Ordering.{int_eq}
use Rattle.std.specs.Str.{bytes_eq}
use Rattle.lrs_time.specs.Duration.{same_span}
use Rattle.xapi_values.specs.Numbers.{are_equal}
use Rattle.xapi_values.specs.Kinds.{same_kind}
use Rattle.xapi_alike.specs.Normal.{Words, letters, uuid, instant, lasting, Normal, nothing, truth, amount, words}
use Rattle.xapi_alike.specs.Normal.{items, thing, Normals, none, more, Named, unnamed, named}

-- one spelling, or two of one value
abbrev pub same_amount : List ℕ → List ℕ → Bool
same_amount s t = bytes_eq s t || are_equal s t

-- spans agree in each field, the seconds to the hundredth
abbrev pub same_words : Words → Words → Bool
same_words (letters s) (letters t) = bytes_eq s t
same_words (uuid i) (uuid j) = bytes_eq i j
same_words (instant i) (instant j) = int_eq i j
same_words (lasting s) (lasting t) = same_span s t
same_words _ _ = false

-- one has that name
abbrev pub has_name : List ℕ → Named → Bool
has_name name unnamed = false
has_name name (named k x ms) = bytes_eq k name || has_name name ms

-- one of that name passes
abbrev pub any_named : List ℕ → (Normal → Bool) → Named → Bool
any_named name test unnamed = false
any_named name test (named k x ms) = (bytes_eq k name && test x) || any_named name test ms

-- each name of ms is one of ns
abbrev pub are_named : Named → Named → Bool
are_named unnamed ns = true
are_named (named k x ms) ns = has_name k ns && are_named ms ns

abbrev pub size : Normals → ℕ
size none = 0
size (more x xs) = suc (size xs)

-- how many of them pass
abbrev pub count : (Normal → Bool) → Normals → ℕ
count test none = 0
count test (more x xs) = if test x then suc (count test xs) else count test xs

-- as many of the first pass as of the second
unfoldable pub same_count : (Normal → Bool) → Normals → Normals → Bool
same_count test xs ys = count test xs == count test ys

abbrev pub same_truth : Bool → Bool → Bool
same_truth b c = if b then c else not c

abbrev mutual
  pub alike : Normal → Normal → Bool
  alike nothing nothing = true
  alike (truth b) (truth c) = same_truth b c
  alike (amount s) (amount t) = same_amount s t
  alike (words v) (words w) = same_words v w
  alike (items u xs) (items v ys) =
      same_truth u v && (if u then (size xs == size ys) && as_often xs xs ys else all_alike xs ys)
  alike (thing k ms) (thing l ns) = same_kind k l && (named_alike ms ns && are_named ns ms)
  alike _ _ = false

  -- one by one
  pub all_alike : Normals → Normals → Bool
  all_alike none none = true
  all_alike (more x xs) (more y ys) = alike x y && all_alike xs ys
  all_alike _ _ = false

  -- each of the first occurs among xs as often as among ys
  pub as_often : Normals → Normals → Normals → Bool
  as_often none xs ys = true
  as_often (more x rest) xs ys = same_count (alike x) xs ys && as_often rest xs ys

  -- for each of ms there is one in ns of its name that is alike
  pub named_alike : Named → Named → Bool
  named_alike unnamed ns = true
  named_alike (named k x ms) ns = any_named k (alike x) ns && named_alike ms ns

-- as many, and each of the first occurs as often in both
abbrev pub same_bag : Normals → Normals → Bool
same_bag xs ys = (size xs == size ys) && as_often xs xs ys
